-- Control of the design of a trial. Every part has the place 1:1.
use Rattle.std.specs.Prelude.{ℕ, suc, ◌+◌, ◌*◌, ◌%◌, nat_eq, List, [], ◌∷◌, codes, if◌then◌else◌}
use Rattle.cx_ast.specs.PlainStatements.{PlainStatement, Placed, PlainForm, Enable, Seq, Par, Repeat, PlainBlock, Braces, statements_of}
use Rattle.cx_trial.specs.TrialParts.{place, up_to, indexed, step_name}

abbrev pub block_of : List PlainStatement → PlainBlock
block_of statements = Braces (statements_of statements) place

abbrev pub enable : List ℕ → PlainStatement
enable group = Placed [] (Enable group []) place

abbrev pub seq_of : List PlainStatement → PlainStatement
seq_of statements = Placed [] (Seq [] (block_of statements)) place

abbrev pub par_of : List PlainStatement → PlainStatement
par_of statements = Placed [] (Par [] (block_of statements)) place

abbrev pub repeated : ℕ → List ℕ → PlainStatement
repeated count group = Placed [] (Repeat count (block_of (enable group ∷ []))) place

-- seed + i + k, modulo 4
abbrev pub rounds : ℕ → ℕ → ℕ → ℕ
rounds seed arm step = (seed + (arm + step)) % 4

-- by the step's number modulo 4: its group once; so many rounds of it; twice; or beside the group that counts
abbrev pub step_of : ℕ → ℕ → ℕ → PlainStatement
step_of seed arm step =
    if nat_eq (step % 4) 0 then enable (step_name arm step)
    else if nat_eq (step % 4) 1 then repeated (rounds seed arm step) (step_name arm step)
    else if nat_eq (step % 4) 2 then seq_of (enable (step_name arm step) ∷ enable (step_name arm step) ∷ [])
    else par_of (enable (step_name arm step) ∷ enable (indexed (codes "h") arm) ∷ [])

-- the eight steps, one after another
abbrev pub arm_of : ℕ → ℕ → PlainStatement
arm_of seed arm = seq_of (up_to (λ step. step_of seed arm step ∷ []) 8)

-- four arms beside each other
abbrev pub quarter_of : ℕ → ℕ → PlainStatement
quarter_of seed quarter = par_of (up_to (λ arm. arm_of seed (4 * quarter + arm) ∷ []) 4)

abbrev pub all_arms : ℕ → PlainStatement
all_arms seed = par_of (up_to (λ quarter. quarter_of seed quarter ∷ []) 4)

-- all arms, and then the stores, one after another
abbrev pub whole_control : ℕ → PlainBlock
whole_control seed = block_of (seq_of (all_arms seed ∷ up_to (λ arm. enable (indexed (codes "t") arm) ∷ []) 16) ∷ [])
