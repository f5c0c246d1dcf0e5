-- What a trial tells of the design that a seed gives: what its run leaves.
use Rattle.std.specs.Prelude.{◌≡◌, ◌⊎◌, ℕ, ◌+◌, nat_lt, if◌then◌else◌, List, [], ◌∷◌, ◌++◌, Result, Ok, Err, codes, decimal, sum}
use Rattle.cx_text.specs.declared.diagnostics.Diagnostic.{Diagnostic}
use Rattle.cx_text.specs.declared.limits.TheConstants.{BUDGET, COMPILE_SIZE}
use Rattle.cx_text.specs.Loading.{PlainMemory, PlainRow}
use Rattle.cx_ast.specs.PlainTree.{PlainTree}
use Rattle.cx_meaning.specs.Designs.{PlainDesign}
use Rattle.cx_rules.specs.Externals.{external_rows}
use Rattle.cx_rules.specs.Sizes.{design_size}
use Rattle.cx_numbering.specs.DesignOf.{design_of}
use Rattle.cx_check.specs.Acceptance.{IsAcceptedTree, TreeBreak}
use Rattle.cx_trial.specs.TrialTree.{trial_tree}
use Rattle.cx_commands.specs.declared.stops.Stop.{Stop}
use Rattle.cx_commands.specs.declared.stops.Stop.TheVariants as stops
use Rattle.cx_compiler.specs.Interpreted.{PlainLeft, design_left}
use Rattle.cx_compiler.specs.Compiled.{too_large}

-- a data file with zeros for the sixteen words
abbrev pub zeros : List ℕ
zeros =
    codes
    "{\"mem\":{\"data\":[0,0,0,0,0,0,0,0,0,0,0,0,0,0,0,0],\"format\":{\"numeric_type\":\"bitnum\",\"is_signed\":false,\"width\":32}}}"

-- the sum of all words
abbrev pub words_sum : List PlainMemory → ℕ
words_sum [] = 0
words_sum (m ∷ ms) = sum m.words + words_sum ms

abbrev pub counted : List ℕ → ℕ → List ℕ
counted piece number = piece ++ decimal number

-- trial SEED cycles TURNS sum SUM
abbrev pub trial_line : ℕ → ℕ → ℕ → List ℕ
trial_line seed turns total =
    counted (codes "trial ") seed ++ counted (codes " cycles ") turns ++ counted (codes " sum ") total
    ++ codes "\n"

abbrev pub line_of : ℕ → PlainLeft → List ℕ
line_of seed left = trial_line seed left.turns (words_sum left.memories)

-- of a design that leaves this: the line, where the design is within the size that is compiled
abbrev pub line_result : ℕ → PlainDesign → Result PlainLeft Stop → Result (List ℕ) Stop
line_result seed d (Ok left) =
    if nat_lt COMPILE_SIZE (design_size d) then Err (stops.Rule (too_large d)) else Ok (line_of seed left)
line_result seed d (Err stop) = Err stop

-- WHAT IS TOLD OF A DESIGN: the line of what its run on zeros leaves within the greatest budget, or why there is none
abbrev pub try_result : ℕ → PlainDesign → Result (List ℕ) Stop
try_result seed d = line_result seed d (design_left d zeros BUDGET)

-- WHAT IS TOLD OF A TREE: it is accepted, and this is told of its design; or it breaks a rule, and that is told
abbrev pub TreeTries : ℕ → PlainTree → Result (List ℕ) Stop → Type 0
TreeTries seed tree result =
    (IsAcceptedTree tree × (result ≡ try_result seed (design_of tree)))
    ⊎ ((told : Diagnostic) × TreeBreak tree told × (result ≡ Err (stops.Rule told)))

-- WHAT A TRIAL DOES
abbrev pub Tries : ℕ → Result (List ℕ) Stop → Type 0
Tries seed result = TreeTries seed (trial_tree seed) result

-- what is told of a trial without a line
abbrev pub IsTrialStop : ℕ → Stop → Type 0
IsTrialStop seed stop = (stop ≡ stops.Memory) ⊎ Tries seed (Err stop)

-- the design of a seed is accepted, and this stops it
abbrev pub StopsTrial : ℕ → Stop → Type 0
StopsTrial seed stop = IsAcceptedTree (trial_tree seed) × (try_result seed (design_of (trial_tree seed)) ≡ Err stop)

-- the one external memory of a trial: 16 words of 32 bits
abbrev pub trial_row : PlainRow
trial_row = record { name = codes "mem"; width = 32; sizes = 16 ∷ [] }

abbrev pub HasTrialMemory : PlainDesign → Type 0
HasTrialMemory d = external_rows d ≡ trial_row ∷ []

-- the run of a design on zeros ends
abbrev pub EndsOnZeros : PlainDesign → Type 0
EndsOnZeros d = (left : PlainLeft) × (design_left d zeros BUDGET ≡ Ok left)
