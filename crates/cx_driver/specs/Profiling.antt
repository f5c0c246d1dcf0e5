-- What `profile` does with a text and a data file.
use Rattle.std.specs.Prelude.{◌≡◌, ◌⊎◌, ℕ, List, [], ◌∷◌, ◌++◌, Result, Ok, Err, codes, decimal, map}
use Rattle.cx_text.specs.declared.diagnostics.Diagnostic.{Diagnostic}
use Rattle.cx_text.specs.Loading.{PlainMemory, words_loaded}
use Rattle.cx_data.specs.Dump.{dump_text}
use Rattle.cx_data.specs.Load.{load_of}
use Rattle.cx_data.specs.declared.faults.DataFault.{DataFault}
use Rattle.cx_meaning.specs.Designs.{PlainDesign}
use Rattle.cx_meaning.specs.Instances.{tree_of}
use Rattle.cx_rules.specs.Accepted.{KeepsStage}
use Rattle.cx_rules.specs.Externals.{external_rows}
use Rattle.cx_profiling.specs.Counters.{entries_of}
use Rattle.cx_profiling.specs.Instrumented.{instrumented}
use Rattle.cx_profiling.specs.WholeCounting.{whole_tally_of}
use Rattle.cx_profile.specs.Profiles.{group_path}
use Rattle.cx_commands.specs.declared.stops.Stop.{Stop}
use Rattle.cx_commands.specs.declared.stops.Stop.TheVariants as stops
use Rattle.cx_compiler.specs.Interpreted.{PlainLeft, meant_left}
use Rattle.cx_compiler.specs.Texts.{IsDesignOf}
use Rattle.cx_driver.specs.Counting.{CountBreak, IsLimitStop}

-- the line of a group: its path from main on, and the cycles in which it is active
abbrev pub active_line : List ℕ → ℕ → List ℕ
active_line path count = codes "active " ++ (path ++ (codes " " ++ (decimal count ++ codes "\n")))

-- the lines of groups with these paths and counts
abbrev pub active_lines : List (List ℕ) → List ℕ → List ℕ
active_lines [] counts = []
active_lines (path ∷ paths) [] = []
active_lines (path ∷ paths) (count ∷ counts) = active_line path count ++ active_lines paths counts

-- the paths of the counted groups, and how many cycles each is active in, in a run with these words and this budget
abbrev pub group_paths : PlainDesign → List (List ℕ)
group_paths d = map (group_path (tree_of d)) (entries_of (tree_of d))

abbrev pub active_counts : PlainDesign → List (List ℕ) → ℕ → List ℕ
active_counts d words budget = map (λ e. whole_tally_of d words budget e.path e.group) (entries_of (tree_of d))

-- what a run within this budget leaves, with its counts
pub record PlainCounted : Type 0 where
  pub left : PlainLeft
  pub counts : List ℕ

abbrev pub with_counts_of : List ℕ → Result PlainLeft Stop → Result PlainCounted Stop
with_counts_of counts (Ok left) = Ok (record { left = left; counts = counts })
with_counts_of counts (Err stop) = Err stop

-- THE RUN OF MAIN with these memories loaded, by the design's own meaning, counted
abbrev pub counted_left : PlainDesign → List PlainMemory → ℕ → Result PlainCounted Stop
counted_left d memories budget =
    with_counts_of (active_counts d (words_loaded memories) budget) (meant_left d memories budget)

-- which is told as the dump of what is left, and a line for each group
abbrev pub profiled : PlainDesign → Result PlainCounted Stop → Result (List ℕ) Stop
profiled d (Ok counted) =
    Ok (dump_text counted.left.turns counted.left.memories ++ active_lines (group_paths d) counted.counts)
profiled d (Err stop) = Err stop

abbrev pub loaded_counted : PlainDesign → ℕ → Result (List PlainMemory) DataFault → Result PlainCounted Stop
loaded_counted d budget (Ok memories) = counted_left d memories budget
loaded_counted d budget (Err fault) = Err (stops.Json fault)

-- WHAT A DESIGN DOES ON A DATA FILE: its run with the words of the file, counted, or the first fault of the file
abbrev pub design_counted : PlainDesign → List ℕ → ℕ → Result PlainCounted Stop
design_counted d json budget = loaded_counted d budget (load_of json (external_rows d))

abbrev pub design_profile : PlainDesign → List ℕ → ℕ → Result (List ℕ) Stop
design_profile d json budget = profiled d (design_counted d json budget)

-- WHAT profile DOES WITH A TEXT AND A DATA FILE: the text is accepted, its instrumented design keeps the limits, and
-- its design does this; or the text is refused, and that is told
abbrev pub Profiles : List ℕ → List ℕ → ℕ → Result (List ℕ) Stop → Type 0
Profiles text json budget result =
    ((d : PlainDesign) × IsDesignOf text d × KeepsStage 7 (instrumented d) × (result ≡ design_profile d json budget))
    ⊎ ((told : Diagnostic) × CountBreak text told × (result ≡ Err (stops.Rule told)))

-- what is written of a text
abbrev pub IsProfileAnswer : List ℕ → List ℕ → ℕ → List ℕ → Type 0
IsProfileAnswer text json budget answer = Profiles text json budget (Ok answer)

-- why there is nothing to write
abbrev pub StopsProfile : List ℕ → List ℕ → ℕ → Stop → Type 0
StopsProfile text json budget stop = Profiles text json budget (Err stop)

-- what is told of a text without an answer
abbrev pub IsProfileStop : List ℕ → List ℕ → ℕ → Stop → Type 0
IsProfileStop text json budget stop = (stop ≡ stops.Memory) ⊎ StopsProfile text json budget stop

-- the same of a design
abbrev pub IsDesignProfile : PlainDesign → List ℕ → ℕ → List ℕ → Type 0
IsDesignProfile d json budget answer = KeepsStage 7 (instrumented d) × (design_profile d json budget ≡ Ok answer)

abbrev pub IsDesignProfileStop : PlainDesign → List ℕ → ℕ → Stop → Type 0
IsDesignProfileStop d json budget stop =
    IsLimitStop d stop ⊎ (KeepsStage 7 (instrumented d) × (design_profile d json budget ≡ Err stop))
