-- What the design of a text does on a data file by the choices of a list, and what stops it.
use Rattle.std.specs.Prelude.{◌≡◌, ◌≤◌, ◌<◌, ◌^◌, ◌⊎◌, ℕ, List, ◌++◌, Result, Ok, Err, codes, decimal}
use Rattle.cx_text.specs.declared.diagnostics.Diagnostic.{Diagnostic}
use Rattle.cx_text.specs.Loading.{PlainMemory, words_loaded, with_words}
use Rattle.cx_data.specs.Dump.{dump_text}
use Rattle.cx_data.specs.Load.{load_of}
use Rattle.cx_data.specs.declared.faults.DataFault.{DataFault}
use Rattle.cx_meaning.specs.Designs.{PlainDesign}
use Rattle.cx_meaning.specs.Instances.{tree_of, words_of}
use Rattle.cx_rules.specs.Externals.{external_rows}
use Rattle.cx_rules.specs.Sizes.{design_size}
use Rattle.cx_orders.specs.Woven as woven
use Rattle.cx_orders.specs.Woven.{Woven, by_list, woven}
use Rattle.cx_meaning.specs.declared.sights.FaultKind.{FaultKind}
use Rattle.cx_compiler.specs.Runnable.{runnable}
use Rattle.cx_compiler.specs.Interpreted.{fault_stop, Interprets, IsInterpAnswer}
use Rattle.cx_compiler.specs.Texts.{IsDesignOf, TextBreak}
use Rattle.cx_commands.specs.declared.stops.Stop.{Stop}
use Rattle.cx_commands.specs.declared.stops.Stop.TheVariants as stops

-- the dump of a woven run that ends after so many choices, and below it the sum of the numbers of the leaves that they advanced
abbrev pub woven_text : ℕ → ℕ → List PlainMemory → List ℕ
woven_text made sum memories = dump_text made memories ++ codes "leaves " ++ decimal sum ++ codes "\n"

-- what a woven run of so many choices comes to, as it is told
abbrev pub told_woven : PlainDesign → List PlainMemory → ℕ → Woven → Result (List ℕ) Stop
told_woven d memories steps (woven.Ends after made sum) =
    Ok (woven_text made sum (with_words memories (words_of (tree_of d) after)))
told_woven d memories steps (woven.Faults fault made) = Err (fault_stop d fault made)
told_woven d memories steps woven.More = Err (stops.More steps)

-- THE WOVEN RUN with these memories loaded
abbrev pub woven_result : PlainDesign → List ℕ → List PlainMemory → ℕ → Result (List ℕ) Stop
woven_result d list memories steps = told_woven d memories steps (woven d (words_loaded memories) (by_list list) steps)

abbrev pub loaded_woven : PlainDesign → List ℕ → ℕ → Result (List PlainMemory) DataFault → Result (List ℕ) Stop
loaded_woven d list steps (Ok memories) = woven_result d list memories steps
loaded_woven d list steps (Err fault) = Err (stops.Json fault)

-- WHAT A DESIGN DOES ON A DATA FILE by choices: its woven run with the words of the file, or the first fault of the file
abbrev pub design_woven : PlainDesign → List ℕ → List ℕ → ℕ → Result (List ℕ) Stop
design_woven d list json steps = loaded_woven d list steps (load_of json (external_rows d))

-- WHAT A TEXT DOES ON A DATA FILE by choices: it is accepted, and the design that is run does this; or it breaks a rule, and that is told
abbrev pub Weaves : List ℕ → List ℕ → ℕ → List ℕ → Result (List ℕ) Stop → Type 0
Weaves text json steps list result =
    ((d : PlainDesign) × IsDesignOf text d × (result ≡ design_woven (runnable d) list json steps))
    ⊎ ((told : Diagnostic) × TextBreak text told × (result ≡ Err (stops.Rule told)))

-- what is written of a text, and why there is nothing to write
abbrev pub IsWovenAnswer : List ℕ → List ℕ → ℕ → List ℕ → List ℕ → Type 0
IsWovenAnswer text json steps list answer = Weaves text json steps list (Ok answer)

abbrev pub StopsWeaving : List ℕ → List ℕ → ℕ → List ℕ → Stop → Type 0
StopsWeaving text json steps list stop = Weaves text json steps list (Err stop)

-- whatever its budget, the interpreter tells no fault
abbrev pub NeverFaults : List ℕ → List ℕ → Type 0
NeverFaults text json =
    (budget : ℕ) (kind : FaultKind) (path : List ℕ) (turn : ℕ)
    → Interprets text json budget (Err (stops.Fault kind path turn)) → ⊥

-- what is told of a text without an answer
abbrev pub IsWeaveStop : List ℕ → List ℕ → ℕ → List ℕ → Stop → Type 0
IsWeaveStop text json steps list stop = (stop ≡ stops.Memory) ⊎ StopsWeaving text json steps list stop

-- the same of a design, and of a run
abbrev pub IsDesignWoven : PlainDesign → List ℕ → List ℕ → ℕ → List ℕ → Type 0
IsDesignWoven d list json steps answer = design_woven d list json steps ≡ Ok answer

abbrev pub StopsDesignWoven : PlainDesign → List ℕ → List ℕ → ℕ → Stop → Type 0
StopsDesignWoven d list json steps stop = (stop ≡ stops.Memory) ⊎ (design_woven d list json steps ≡ Err stop)

abbrev pub IsRunWoven : PlainDesign → List ℕ → List PlainMemory → ℕ → List ℕ → Type 0
IsRunWoven d list memories steps answer = woven_result d list memories steps ≡ Ok answer

abbrev pub StopsRunWoven : PlainDesign → List ℕ → List PlainMemory → ℕ → Stop → Type 0
StopsRunWoven d list memories steps stop = (stop ≡ stops.Memory) ⊎ (woven_result d list memories steps ≡ Err stop)

-- EVERY LIST ENDS as the interpreter does, which dumped this: with enough choices, one number for all lists, the
-- woven run by a list writes so many choices and the words of that dump
abbrev pub EveryListEnds : List ℕ → List ℕ → List ℕ → Type 0
EveryListEnds text json dump =
    (turns : ℕ) × (memories : List PlainMemory) × (dump ≡ dump_text turns memories) × (enough : ℕ)
    × ((list : List ℕ) (steps : ℕ) → enough ≤ steps →
    (sum : ℕ) × IsWovenAnswer text json steps list (woven_text enough sum memories))

-- of every text whose design has parts that 32 bits count
abbrev pub AllListsEnd : List ℕ → List ℕ → Type 0
AllListsEnd text json =
    (d : PlainDesign) (budget : ℕ) (dump : List ℕ) → IsDesignOf text d → design_size d < 2 ^ 32
    → IsInterpAnswer text json budget dump → EveryListEnds text json dump
