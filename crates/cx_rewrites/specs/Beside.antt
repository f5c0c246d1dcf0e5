-- Two statements beside each other, over the leaves of two designs: their parts stand beside each other, down to parts of which the one
-- carries the other outright.
use Rattle.std.specs.Prelude.{◌≡◌, ℕ, Option, Some}
use Rattle.cx_text.specs.declared.places.Place.{Place}
use Rattle.cx_meaning.specs.declared.ports.PortRef.{PortRef}
use Rattle.cx_meaning.specs.declared.ports.PlacedPort.{PlacedPort}
use Rattle.cx_meaning.specs.Designs.{PlainForm, Empty, Seq, Par, If, While, Repeat, PlainStatement, Placed, PlainStatements, no_statements, a_statement}
use Rattle.cx_meaning.specs.Answers.{End}
use Rattle.cx_meaning.specs.Control.{Leaves, groups_in, run_form, run, run_parts, run_arms}
use Rattle.cx_rules.specs.Items.{Context, visit_parts, test_in}
use Rattle.cx_frames.proofs.ControlFrames.{Holds}
use Rattle.cx_rewrites.specs.Moving.{moved_form, moved_statement}
use Rattle.cx_rewrites.specs.Tallies.{Tally, none, plus, Counting, count_form, count, count_parts, count_arms}
use Rattle.cx_rewrites.specs.Carrying.{Pace, Rests, TestCarried, Carries}

-- statements, and others after them
abbrev pub joined : PlainStatements → PlainStatements → PlainStatements
joined no_statements later = later
joined (a_statement s ss) later = a_statement s (joined ss later)

module _ {S T F E : Type 0} (pace : Pace) (R : Tally → S → T → Type 0) (faults : F → E) (L : Leaves S F)
    (C : Counting S) (M : Leaves T E) where
  -- two conditions, each with the comb group of its with
  abbrev pub TestsCarry : PortRef → Option ℕ → PortRef → Option ℕ → Type 0
  TestsCarry p comb q twin =
      (before : Tally) (s : S) (z : T) → R before s z
      → TestCarried pace faults (L.test p comb s) (M.test q twin z)

  -- an arm and the arms after it, each run from one state: what they leave together is related by what both counted
  abbrev pub MergesCarry : PlainStatement → PlainStatements → PlainStatement → Type 0
  MergesCarry arm later other = (before : Tally) (s : S) (n : ℕ) (a b : S) (x y : T) (t v : ℕ)
      → run L arm s n ≡ End a t → run_arms L later s n ≡ End b v
      → R (plus before (count L C arm s n)) a x → R (plus before (count_arms L C later s n)) b y
      → R (plus before (plus (count L C arm s n) (count_arms L C later s n)))
      (L.merged (L.driven arm) a b) (M.merged (M.driven other) x y)

  mutual
    pub data FormBeside : PlainForm → PlainForm → Type 0 where
      outright : {form other : PlainForm}
          → Carries pace R faults (count_form L C form) (run_form L form) (run_form M other)
          → FormBeside form other
      empties : FormBeside Empty Empty
      seqs : {parts others : PlainStatements} → PartsBeside parts others → FormBeside (Seq parts) (Seq others)
      -- all parts of a seq are one statement, which stands in its place
      collapsed : {parts : PlainStatements} {other : PlainForm} {there : Place}
          → PartsBeside parts (a_statement (Placed other there) no_statements) → FormBeside (Seq parts) other
      pars : {arms others : PlainStatements} → ArmsBeside arms others → FormBeside (Par arms) (Par others)
      ifs : {p q : PlacedPort} {comb twin : Option ℕ} {a b x y : PlainStatement}
          → TestsCarry p.port comb q.port twin → Beside a x → Beside b y
          → FormBeside (If p comb a b) (If q twin x y)
      whiles : {p q : PlacedPort} {comb twin : Option ℕ} {a x : PlainStatement}
          → TestsCarry p.port comb q.port twin → Beside a x → FormBeside (While p comb a) (While q twin x)
      repeats : {count : ℕ} {a x : PlainStatement} → Beside a x → FormBeside (Repeat count a) (Repeat count x)

    pub data Beside : PlainStatement → PlainStatement → Type 0 where
      placed : {form other : PlainForm} {here there : Place} → FormBeside form other
          → Beside (Placed form here) (Placed other there)

    pub data PartsBeside : PlainStatements → PlainStatements → Type 0 where
      no_parts : PartsBeside no_statements no_statements
      a_part : {s t : PlainStatement} {ss tt : PlainStatements} → Beside s t → PartsBeside ss tt
          → PartsBeside (a_statement s ss) (a_statement t tt)
      -- some parts, one or more, are one statement
      as_one : (s : PlainStatement) (more ss : PlainStatements) {t : PlainStatement} {tt : PlainStatements}
          → Carries pace R faults (count_parts L C (a_statement s more)) (run_parts L (a_statement s more)) (run M t)
          → PartsBeside ss tt → PartsBeside (joined (a_statement s more) ss) (a_statement t tt)

    pub data ArmsBeside : PlainStatements → PlainStatements → Type 0 where
      no_arms : ArmsBeside no_statements no_statements
      an_arm : {s t : PlainStatement} {ss tt : PlainStatements} → MergesCarry s ss t → Beside s t
          → ArmsBeside ss tt → ArmsBeside (a_statement s ss) (a_statement t tt)

  -- WHAT LEAVES OWE so that a statement, its ports moved, stands beside it, for groups and forms with these properties
  pub record LeavesCarry (move : PortRef → PortRef) (G : ℕ → Type 0) (P : PlainForm → Type 0) : Type 0 where
    pub rests : Rests R L.rest M.rest
    pub merges : (done : PlainStatements) (arm : PlainStatement) (later : PlainStatements)
        → P (Par (joined done (a_statement arm later))) → MergesCarry arm later (moved_statement move arm)
    pub enable : (g : ℕ) → G g → Carries pace R faults (C.enable g) (L.enable g) (M.enable g)
    pub test : (form : PlainForm) (p : PlacedPort) (comb : Option ℕ) → test_in form ≡ Some p → P form
        → ((g : ℕ) → comb ≡ Some g → G g) → TestsCarry p.port comb (move p.port) comb
    pub island : (context : Context) (form : PlainForm) → P form
        → Holds G P (groups_in form) (visit_parts context form)
        → Carries pace R faults (C.island form) (L.island form) (M.island (moved_form move form))
    pub timed : (k : ℕ) → Carries pace R faults (λ s n. none) (L.timed k) (M.timed k)
