-- A STATEMENT CARRIES ITSELF WITH ITS PORTS MOVED, where the leaves of control do, static invokes among them.
use Rattle.std.proofs.Common.{◌≡◌, ℕ, zero, suc, inl, inr, ◌++◌, Option, Some, refl, sym, subst}
use Rattle.cx_meaning.specs.declared.ports.PortRef.{PortRef}
use Rattle.cx_meaning.specs.declared.ports.PlacedPort.{PlacedPort}
use Rattle.cx_meaning.specs.Designs.{PlainForm, Empty, Enable, Seq, Par, If, While, Repeat, StaticSeq, StaticPar, StaticIf, StaticRepeat, Timed, PlainStatement, Placed, PlainStatements, no_statements, a_statement}
use Rattle.cx_meaning.specs.Answers.{End}
use Rattle.cx_meaning.specs.Control.{Leaves, groups_in, groups_of, groups_in_all, run_form, run, run_parts, run_arms}
use Rattle.cx_meaning.proofs.SightsLaws.{in_comb}
use Rattle.cx_rules.specs.Items.{Context, below_dynamic, visit, visit_parts, visit_all, test_in}
use Rattle.cx_frames.proofs.ControlFrames.{Holds, left, right}
use Rattle.cx_rewrites.specs.Moving.{moved_form, moved_statement, moved_statements}
use Rattle.cx_rewrites.specs.Tallies.{Tally, plus, Counting}
use Rattle.cx_rewrites.specs.Carrying.{Pace, Rests, TestCarried, Carries}
use Rattle.cx_rewrites.specs.Beside.{joined}
use Rattle.cx_rewrites.proofs.CarryLemmas.{then_carries, stay_carries, idle_carries, test_carries, loop_of_carries, rounds_carry, both_carried}
use Rattle.cx_profiling.specs.WholeCounting.{whole_count_form, whole_count, whole_count_parts, whole_count_arms}
use Rattle.cx_rewrites.proofs.MovedLemmas.{below_comb, joined-with_last, with_last}

module _ {S T F E : Type 0} (pace : Pace) (R : Tally → S → T → Type 0) (faults : F → E) (L : Leaves S F) (C : Counting S) (M : Leaves T E) (move : PortRef → PortRef) (G : ℕ → Type 0) (P : PlainForm → Type 0) where
  -- an arm and the arms after it, each run from one state: what they leave together is related by what both counted
  abbrev pub ArmsCarry : PlainStatement → PlainStatements → PlainStatement → Type 0
  ArmsCarry arm later other = (before : Tally) (s : S) (n : ℕ) (a b : S) (x y : T) (t v : ℕ)
      → run L arm s n ≡ End a t → run_arms L later s n ≡ End b v
      → R (plus before (whole_count L C arm s n)) a x → R (plus before (whole_count_arms L C later s n)) b y
      → R (plus before (plus (whole_count L C arm s n) (whole_count_arms L C later s n))) (L.merged (L.driven arm) a b) (M.merged (M.driven other) x y)

  -- WHAT THE LEAVES OWE
  pub record WholeLeavesCarry : Type 0 where
    pub rests : Rests R L.rest M.rest
    pub merges : (done : PlainStatements) (arm : PlainStatement) (later : PlainStatements) → P (Par (joined done (a_statement arm later))) → ArmsCarry arm later (moved_statement move arm)
    pub enable : (g : ℕ) → G g → Carries pace R faults (C.enable g) (L.enable g) (M.enable g)
    pub test : (form : PlainForm) (p : PlacedPort) (comb : Option ℕ) → test_in form ≡ Some p → P form → ((g : ℕ) → comb ≡ Some g → G g)
        → (before : Tally) (s : S) (z : T) → R before s z → TestCarried pace faults (L.test p.port comb s) (M.test (move p.port) comb z)
    pub island : (context : Context) (form : PlainForm) → P form → Holds G P (groups_in form) (visit_parts context form) → Carries pace R faults (C.island form) (L.island form) (M.island (moved_form move form))
    pub timed : (k : ℕ) → P (Timed k) → Carries pace R faults (C.island (Timed k)) (L.timed k) (M.timed k)

  module _ (leaves : WholeLeavesCarry) where
    mutual
      form_carries : (context : Context) (form : PlainForm) → P form → Holds G P (groups_in form) (visit_parts context form) → Carries pace R faults (whole_count_form L C form) (run_form L form) (run_form M (moved_form move form))
      form_carries context Empty p h before s z n m room r = idle_carries pace R faults L.rest M.rest leaves.rests before s z n m room r
      form_carries context (Enable g) p h before s z n m room r = leaves.enable g (h.groups g (inl refl)) before s z n m room r
      form_carries context (Seq no_statements) p h before s z n m room r = idle_carries pace R faults L.rest M.rest leaves.rests before s z n m room r
      form_carries context (Seq (a_statement first rest)) p h before s z n m room r =
          then_carries pace R faults (whole_count L C first) (whole_count_parts L C rest) (run L first) (run_parts L rest) (run M (moved_statement move first)) (run_parts M (moved_statements move rest))
          (whole_carries (below_dynamic context) first (left (groups_of first) (groups_in_all rest) (visit (below_dynamic context) first) (visit_all (below_dynamic context) rest) h))
          (parts_carry (below_dynamic context) rest (right (groups_of first) (groups_in_all rest) (visit (below_dynamic context) first) (visit_all (below_dynamic context) rest) h)) before s z n m room r
      form_carries context (Par no_statements) p h before s z n m room r = idle_carries pace R faults L.rest M.rest leaves.rests before s z n m room r
      form_carries context (Par (a_statement first rest)) p h before s z n m room r = arms_carry (below_dynamic context) no_statements (a_statement first rest) p h before s z n m room r
      form_carries context (If test comb a b) p h before s z n m room r =
          let parts : Holds G P (groups_of a ++ groups_of b) (visit (below_dynamic context) a ++ visit (below_dynamic context) b) = below_comb comb (groups_of a ++ groups_of b) (visit_parts context (If test comb a b)) h in
          test_carries pace R faults L.rest M.rest leaves.rests (L.test test.port comb) (M.test (move test.port) comb)
          (leaves.test (If test comb a b) test comb refl p (λ g e. h.groups g (in_comb comb (groups_of a ++ groups_of b) g e)))
          (whole_count L C a) (whole_count L C b) (run L a) (run L b) (run M (moved_statement move a)) (run M (moved_statement move b))
          (whole_carries (below_dynamic context) a (left (groups_of a) (groups_of b) (visit (below_dynamic context) a) (visit (below_dynamic context) b) parts))
          (whole_carries (below_dynamic context) b (right (groups_of a) (groups_of b) (visit (below_dynamic context) a) (visit (below_dynamic context) b) parts)) before s z n m room r
      form_carries context (While test comb a) p h before s z n m room r =
          loop_of_carries pace R faults L.rest M.rest leaves.rests (L.test test.port comb) (M.test (move test.port) comb)
          (leaves.test (While test comb a) test comb refl p (λ g e. h.groups g (in_comb comb (groups_of a) g e)))
          (whole_count L C a) (run L a) (run M (moved_statement move a)) (whole_carries (below_dynamic context) a (below_comb comb (groups_of a) (visit (below_dynamic context) a) h)) before s z n m room r
      form_carries context (Repeat zero a) p h before s z n m room r = idle_carries pace R faults L.rest M.rest leaves.rests before s z n m room r
      form_carries context (Repeat (suc k) a) p h before s z n m room r =
          rounds_carry pace R faults (whole_count L C a) (run L a) (run M (moved_statement move a)) (whole_carries (below_dynamic context) a h) (suc k) before s z n m room r
      form_carries context (StaticSeq length parts) p h before s z n m room r = leaves.island context (StaticSeq length parts) p h before s z n m room r
      form_carries context (StaticPar length arms) p h before s z n m room r = leaves.island context (StaticPar length arms) p h before s z n m room r
      form_carries context (StaticIf length test a b) p h before s z n m room r = leaves.island context (StaticIf length test a b) p h before s z n m room r
      form_carries context (StaticRepeat length count a) p h before s z n m room r = leaves.island context (StaticRepeat length count a) p h before s z n m room r
      form_carries context (Timed k) p h before s z n m room r = leaves.timed k p before s z n m room r

      pub whole_carries : (context : Context) (statement : PlainStatement) → Holds G P (groups_of statement) (visit context statement) → Carries pace R faults (whole_count L C statement) (run L statement) (run M (moved_statement move statement))
      whole_carries context (Placed form place) h before s z n m room r =
          form_carries context form (h.forms (record { context = context; form = form; place = place }) (inl refl)) (record { groups = h.groups; forms = λ v i. h.forms v (inr i) }) before s z n m room r

      parts_carry : (context : Context) (parts : PlainStatements) → Holds G P (groups_in_all parts) (visit_all context parts) → Carries pace R faults (whole_count_parts L C parts) (run_parts L parts) (run_parts M (moved_statements move parts))
      parts_carry context no_statements h before s z n m room r = stay_carries pace R faults before s z n m room r
      parts_carry context (a_statement first rest) h before s z n m room r =
          then_carries pace R faults (whole_count L C first) (whole_count_parts L C rest) (run L first) (run_parts L rest) (run M (moved_statement move first)) (run_parts M (moved_statements move rest))
          (whole_carries context first (left (groups_of first) (groups_in_all rest) (visit context first) (visit_all context rest) h))
          (parts_carry context rest (right (groups_of first) (groups_in_all rest) (visit context first) (visit_all context rest) h)) before s z n m room r

      arms_carry : (context : Context) (done arms : PlainStatements) → P (Par (joined done arms)) → Holds G P (groups_in_all arms) (visit_all context arms) → Carries pace R faults (whole_count_arms L C arms) (run_arms L arms) (run_arms M (moved_statements move arms))
      arms_carry context done no_statements p h before s z n m room r = stay_carries pace R faults before s z n m room r
      arms_carry context done (a_statement first rest) p h before s z n m room r =
          both_carried pace R faults (L.merged (L.driven first)) (M.merged (M.driven (moved_statement move first))) before (whole_count L C first s n) (whole_count_arms L C rest s n)
          (run L first s n) (run_arms L rest s n) (run M (moved_statement move first) z m) (run_arms M (moved_statements move rest) z m)
          (λ a c b d t v e f q w. leaves.merges done first rest p before s n a c b d t v e f q w)
          (whole_carries context first (left (groups_of first) (groups_in_all rest) (visit context first) (visit_all context rest) h) before s z n m room r)
          (arms_carry context (with_last done first) rest (subst (λ x. P (Par x)) (sym (joined-with_last done first rest)) p) (right (groups_of first) (groups_in_all rest) (visit context first) (visit_all context rest) h) before s z n m room r)
