-- What the design of a text does on a data file within a budget of turns, and what stops it.
use Rattle.std.specs.Prelude.{◌≡◌, ◌⊎◌, ℕ, List, Result, Ok, Err}
use Rattle.cx_text.specs.declared.diagnostics.Diagnostic.{Diagnostic}
use Rattle.cx_text.specs.Loading.{PlainMemory, words_loaded, with_words}
use Rattle.cx_data.specs.Dump.{dump_text}
use Rattle.cx_data.specs.Load.{load_of}
use Rattle.cx_data.specs.declared.faults.DataFault.{DataFault}
use Rattle.cx_meaning.specs.Answers as answers
use Rattle.cx_meaning.specs.Cycles.{Fault}
use Rattle.cx_meaning.specs.Designs.{PlainDesign}
use Rattle.cx_meaning.specs.Instances.{State, tree_of, words_of}
use Rattle.cx_meaning.specs.Running.{run_main}
use Rattle.cx_rules.specs.Externals.{external_rows}
use Rattle.cx_rules.specs.FullPaths.{full_path}
use Rattle.cx_flattening.specs.Told as tellings
use Rattle.cx_flattening.specs.Told.{told}
use Rattle.cx_flattening.specs.Whole.{whole_main}
use Rattle.cx_compiler.specs.Texts.{IsDesignOf, TextBreak}
use Rattle.cx_commands.specs.declared.stops.Stop.{Stop}
use Rattle.cx_commands.specs.declared.stops.Stop.TheVariants as stops

-- a fault as it is told: its kind, its port as messages name it from main on, and its turn, counted from 0
abbrev pub fault_stop : PlainDesign → Fault → ℕ → Stop
fault_stop d fault turn = stops.Fault fault.kind (full_path (tree_of d) fault.path fault.port) turn

-- what a run leaves: its turns, and the words of the external memories
pub record PlainLeft : Type 0 where
  pub turns : ℕ
  pub memories : List PlainMemory

-- what a run within this budget comes to: what it leaves; its fault; or that it needs more turns
abbrev pub left_of : PlainDesign → List PlainMemory → ℕ → answers.Answer State Fault → Result PlainLeft Stop
left_of d memories budget (answers.End after turns) =
    Ok (record { turns = turns; memories = with_words memories (words_of (tree_of d) after) })
left_of d memories budget (answers.Fault fault turn) = Err (fault_stop d fault turn)
left_of d memories budget answers.More = Err (stops.More budget)

-- which is told as the dump of what is left
abbrev pub dumped : Result PlainLeft Stop → Result (List ℕ) Stop
dumped (Ok left) = Ok (dump_text left.turns left.memories)
dumped (Err stop) = Err stop

abbrev pub told_of : PlainDesign → List PlainMemory → ℕ → answers.Answer State Fault → Result (List ℕ) Stop
told_of d memories budget answer = dumped (left_of d memories budget answer)

-- THE RUN OF MAIN with these memories loaded, of a design without static components
abbrev pub run_left : PlainDesign → List PlainMemory → ℕ → Result PlainLeft Stop
run_left d memories budget = left_of d memories budget (run_main d (words_loaded memories) budget)

abbrev pub loaded_left : PlainDesign → ℕ → Result (List PlainMemory) DataFault → Result PlainLeft Stop
loaded_left d budget (Ok memories) = run_left d memories budget
loaded_left d budget (Err fault) = Err (stops.Json fault)

abbrev pub loaded_result : PlainDesign → ℕ → Result (List PlainMemory) DataFault → Result (List ℕ) Stop
loaded_result d budget loaded = dumped (loaded_left d budget loaded)

-- WHAT SUCH A DESIGN DOES ON A DATA FILE: its run with the words of the file, or the first fault of the file
abbrev pub design_left : PlainDesign → List ℕ → ℕ → Result PlainLeft Stop
design_left d json budget = loaded_left d budget (load_of json (external_rows d))

abbrev pub design_result : PlainDesign → List ℕ → ℕ → Result (List ℕ) Stop
design_result d json budget = dumped (design_left d json budget)

-- THE SAME BY A DESIGN'S OWN MEANING, with static components: what is left, by what the run of main tells
abbrev pub left_told : List PlainMemory → ℕ → tellings.Told → Result PlainLeft Stop
left_told memories budget (tellings.Ended turns words) =
    Ok (record { turns = turns; memories = with_words memories words })
left_told memories budget (tellings.Faulted kind name turn) = Err (stops.Fault kind name turn)
left_told memories budget tellings.GoesOn = Err (stops.More budget)

abbrev pub meant_left : PlainDesign → List PlainMemory → ℕ → Result PlainLeft Stop
meant_left d memories budget = left_told memories budget (told d (whole_main d (words_loaded memories) budget))

abbrev pub loaded_meant : PlainDesign → ℕ → Result (List PlainMemory) DataFault → Result PlainLeft Stop
loaded_meant d budget (Ok memories) = meant_left d memories budget
loaded_meant d budget (Err fault) = Err (stops.Json fault)

abbrev pub design_meant : PlainDesign → List ℕ → ℕ → Result PlainLeft Stop
design_meant d json budget = loaded_meant d budget (load_of json (external_rows d))

abbrev pub meant_result : PlainDesign → List ℕ → ℕ → Result (List ℕ) Stop
meant_result d json budget = dumped (design_meant d json budget)

-- WHAT A TEXT DOES ON A DATA FILE: it is accepted, and its design means this; or it breaks a rule, and that is told
abbrev pub Interprets : List ℕ → List ℕ → ℕ → Result (List ℕ) Stop → Type 0
Interprets text json budget result =
    ((d : PlainDesign) × IsDesignOf text d × (result ≡ meant_result d json budget))
    ⊎ ((told : Diagnostic) × TextBreak text told × (result ≡ Err (stops.Rule told)))

-- what is written of a text
abbrev pub IsInterpAnswer : List ℕ → List ℕ → ℕ → List ℕ → Type 0
IsInterpAnswer text json budget answer = Interprets text json budget (Ok answer)

-- why there is nothing to write
abbrev pub StopsText : List ℕ → List ℕ → ℕ → Stop → Type 0
StopsText text json budget stop = Interprets text json budget (Err stop)

-- what is told of a text without an answer
abbrev pub IsInterpStop : List ℕ → List ℕ → ℕ → Stop → Type 0
IsInterpStop text json budget stop = (stop ≡ stops.Memory) ⊎ StopsText text json budget stop

-- the same of a design
abbrev pub IsDesignAnswer : PlainDesign → List ℕ → ℕ → List ℕ → Type 0
IsDesignAnswer d json budget answer = design_result d json budget ≡ Ok answer

abbrev pub IsDesignStop : PlainDesign → List ℕ → ℕ → Stop → Type 0
IsDesignStop d json budget stop = (stop ≡ stops.Memory) ⊎ (design_result d json budget ≡ Err stop)

-- what a design leaves, or why it does not
abbrev pub IsDesignLeft : PlainDesign → List ℕ → ℕ → PlainLeft → Type 0
IsDesignLeft d json budget left = design_left d json budget ≡ Ok left

abbrev pub StopsDesign : PlainDesign → List ℕ → ℕ → Stop → Type 0
StopsDesign d json budget stop = (stop ≡ stops.Memory) ⊎ (design_left d json budget ≡ Err stop)

-- the same of a run
abbrev pub IsRunLeft : PlainDesign → List PlainMemory → ℕ → PlainLeft → Type 0
IsRunLeft d memories budget left = run_left d memories budget ≡ Ok left

abbrev pub StopsRun : PlainDesign → List PlainMemory → ℕ → Stop → Type 0
StopsRun d memories budget stop = (stop ≡ stops.Memory) ⊎ (run_left d memories budget ≡ Err stop)
