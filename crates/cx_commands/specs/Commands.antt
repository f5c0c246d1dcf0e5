-- What the words after the program's name ask for.
use Rattle.std.specs.Prelude.{◌≡◌, ℕ, ◌≤◌, List, [], ◌∷◌, codes, Contains, map}
use Rattle.std.specs.Str.Parse.{IsNumeral, digits_value}
use Rattle.cx_commands.specs.Lists.{IsList}
use Rattle.cx_text.specs.declared.limits.TheConstants.{BUDGET, DESIGN_BYTES, DATA_BYTES, VERILOG_BYTES}

-- a command: which files it reads, its budget or its seed where it has one, or its count of choices and the word of their list
pub data Asked : Type 0 where
  compile : (design : List ℕ) → Asked
  interp : (design json : List ℕ) (budget : ℕ) → Asked
  check : (design : List ℕ) → Asked
  sim : (verilog json : List ℕ) (budget : ℕ) → Asked
  trial : (seed : ℕ) → Asked
  share : (design : List ℕ) → Asked
  promote : (design : List ℕ) → Asked
  instrument : (design : List ℕ) → Asked
  profile : (design json : List ℕ) (budget : ℕ) → Asked
  weave : (design json : List ℕ) (steps : ℕ) (list : List ℕ) → Asked

-- one decimal digit or more, with a value of at most 10^12; zeros may stand before
pub record IsBudget (digits : List ℕ) (budget : ℕ) : Type 0 where
  pub numeral : IsNumeral 10 digits
  pub value : digits_value 10 digits ≡ budget
  pub limit : budget ≤ BUDGET

-- the words are this name, two files and the digits of a budget
abbrev pub AsksRun : List (List ℕ) → List ℕ → List ℕ → List ℕ → ℕ → Type 0
AsksRun words name first second budget =
    (digits : List ℕ) × (words ≡ name ∷ first ∷ second ∷ digits ∷ []) × IsBudget digits budget

-- the words are this name and a file
abbrev pub AsksDesign : List (List ℕ) → List ℕ → List ℕ → Type 0
AsksDesign words name design = words ≡ name ∷ design ∷ []

-- the words are `trial` and the digits of a seed, which is no greater than a budget
abbrev pub AsksTrial : List (List ℕ) → ℕ → Type 0
AsksTrial words seed = (digits : List ℕ) × (words ≡ codes "trial" ∷ digits ∷ []) × IsBudget digits seed

-- the words are `weave`, two files, the digits of a count of choices, which is no greater than a budget, and a list
abbrev pub AsksWeave : List (List ℕ) → List ℕ → List ℕ → ℕ → List ℕ → Type 0
AsksWeave words design json steps list =
    (digits : List ℕ) × (words ≡ codes "weave" ∷ design ∷ json ∷ digits ∷ list ∷ []) × IsBudget digits steps
    × IsList list

-- the words ask for this command
abbrev pub Asks : List (List ℕ) → Asked → Type 0
Asks words (compile design) = AsksDesign words (codes "compile") design
Asks words (interp design json budget) = AsksRun words (codes "interp") design json budget
Asks words (check design) = AsksDesign words (codes "check") design
Asks words (sim verilog json budget) = AsksRun words (codes "sim") verilog json budget
Asks words (trial seed) = AsksTrial words seed
Asks words (share design) = AsksDesign words (codes "share") design
Asks words (promote design) = AsksDesign words (codes "promote") design
Asks words (instrument design) = AsksDesign words (codes "instrument") design
Asks words (profile design json budget) = AsksRun words (codes "profile") design json budget
Asks words (weave design json steps list) = AsksWeave words design json steps list

-- the words ask for no compilation and no check
pub record AsksNoVerdict (words : List (List ℕ)) : Type 0 where
  pub compiles : (design : List ℕ) → Asks words (compile design) → ⊥
  pub checks : (design : List ℕ) → Asks words (check design) → ⊥

-- the words ask for no other design
pub record AsksNoRewriting (words : List (List ℕ)) : Type 0 where
  pub shares : (design : List ℕ) → Asks words (share design) → ⊥
  pub promotes : (design : List ℕ) → Asks words (promote design) → ⊥

-- nor for the text of an instrumented one
pub record AsksNoChange (words : List (List ℕ)) : Type 0 where
  pub rewritings : AsksNoRewriting words
  pub instruments : (design : List ℕ) → Asks words (instrument design) → ⊥

-- the words ask for nothing on one file
pub record AsksNoDesign (words : List (List ℕ)) : Type 0 where
  pub verdicts : AsksNoVerdict words
  pub changes : AsksNoChange words

-- the words ask for no run of a design
pub record AsksNoDesignRun (words : List (List ℕ)) : Type 0 where
  pub interprets : (design json : List ℕ) (budget : ℕ) → Asks words (interp design json budget) → ⊥
  pub profiles : (design json : List ℕ) (budget : ℕ) → Asks words (profile design json budget) → ⊥

-- the words ask for no run with a budget
pub record AsksNoRun (words : List (List ℕ)) : Type 0 where
  pub designs : AsksNoDesignRun words
  pub simulates : (verilog json : List ℕ) (budget : ℕ) → Asks words (sim verilog json budget) → ⊥

-- the words ask for no trial, and for no woven run
pub record AsksNeither (words : List (List ℕ)) : Type 0 where
  pub tries : (seed : ℕ) → Asks words (trial seed) → ⊥
  pub weaves : (design json : List ℕ) (steps : ℕ) (list : List ℕ) → Asks words (weave design json steps list) → ⊥

-- nor for a run on files
pub record AsksNoOther (words : List (List ℕ)) : Type 0 where
  pub runs : AsksNoRun words
  pub others : AsksNeither words

-- the words are none of a command
abbrev pub AsksNothing : List (List ℕ) → Type 0
AsksNothing words = (command : Asked) → Asks words command → ⊥

-- a file that a command reads, and the most bytes that it may have
pub record Wanted : Type 0 where
  pub file : List ℕ
  pub most : ℕ

-- the files that a command reads, in the order of the words
abbrev pub wanted_by : Asked → List Wanted
wanted_by (compile design) = record { file = design; most = DESIGN_BYTES } ∷ []
wanted_by (interp design json budget) =
    record { file = design; most = DESIGN_BYTES } ∷ record { file = json; most = DATA_BYTES } ∷ []
wanted_by (check design) = record { file = design; most = DESIGN_BYTES } ∷ []
wanted_by (sim verilog json budget) =
    record { file = verilog; most = VERILOG_BYTES } ∷ record { file = json; most = DATA_BYTES } ∷ []
wanted_by (trial seed) = []
wanted_by (share design) = record { file = design; most = DESIGN_BYTES } ∷ []
wanted_by (promote design) = record { file = design; most = DESIGN_BYTES } ∷ []
wanted_by (instrument design) = record { file = design; most = DESIGN_BYTES } ∷ []
wanted_by (profile design json budget) =
    record { file = design; most = DESIGN_BYTES } ∷ record { file = json; most = DATA_BYTES } ∷ []
wanted_by (weave design json steps list) =
    record { file = design; most = DESIGN_BYTES } ∷ record { file = json; most = DATA_BYTES } ∷ []

abbrev pub files_of : Asked → List (List ℕ)
files_of command = map (λ w. w.file) (wanted_by command)

-- the words ask for a command that reads this file
abbrev pub IsFileOf : List (List ℕ) → List ℕ → Type 0
IsFileOf words file = (command : Asked) × Asks words command × Contains (files_of command) file

-- what holds of a command that words ask for: the last word of a woven run is a list, the budget of a profile is within that of all
abbrev pub IsPossible : Asked → Type 0
IsPossible (compile design) = Unit {0}
IsPossible (interp design json budget) = Unit {0}
IsPossible (check design) = Unit {0}
IsPossible (sim verilog json budget) = Unit {0}
IsPossible (trial seed) = Unit {0}
IsPossible (share design) = Unit {0}
IsPossible (promote design) = Unit {0}
IsPossible (instrument design) = Unit {0}
IsPossible (profile design json budget) = budget ≤ BUDGET
IsPossible (weave design json steps list) = IsList list
