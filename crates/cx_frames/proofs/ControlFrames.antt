-- A run over any leaves hangs on a set of cells alone, where the leaves do.
use Rattle.std.proofs.Common.{◌≡◌, ℕ, zero, suc, inl, inr, List, ◌++◌, Option, Some, refl}
use Rattle.cx_text.proofs.MemberLaws.{in_left, in_right}
use Rattle.cx_meaning.specs.declared.ports.PlacedPort.{PlacedPort}
use Rattle.cx_meaning.specs.Designs.{PlainForm, Empty, Enable, Seq, Par, If, While, Repeat, StaticSeq, StaticPar, StaticIf, StaticRepeat, Timed, PlainStatement, Placed, PlainStatements, no_statements, a_statement}
use Rattle.cx_meaning.specs.Instances.{State}
use Rattle.cx_meaning.specs.Cycles.{Fault}
use Rattle.cx_text.specs.Members.{In}
use Rattle.cx_meaning.specs.Control.{Leaves, groups_in, groups_of, groups_in_all, run_form, run, run_parts, run_arms}
use Rattle.cx_rules.specs.Items.{Context, below_dynamic, Visited, visit, visit_parts, visit_all, test_in}
use Rattle.cx_frames.specs.Agreeing.{Agree}
use Rattle.cx_frames.proofs.AlikeLemmas.{Frames, then_frames, stay_frames, idle_frames, test_frames, loop_of_frames, rounds_frames, both_alike}
use Rattle.cx_meaning.proofs.SightsLaws.{behind_comb, in_comb}

-- the groups of a statement and its forms have these properties
pub record Holds (G : ℕ → Type 0) (P : PlainForm → Type 0) (gs : List ℕ) (vs : List Visited) : Type 0 where
  pub groups : (g : ℕ) → In gs g → G g
  pub forms : (v : Visited) → In vs v → P v.form

module _ {G : ℕ → Type 0} {P : PlainForm → Type 0} (gs hs : List ℕ) (vs ws : List Visited) (h : Holds G P (gs ++ hs) (vs ++ ws)) where
  pub left : Holds G P gs vs
  left = record { groups = λ g i. h.groups g (in_left gs hs g i); forms = λ v i. h.forms v (in_left vs ws v i) }

  pub right : Holds G P hs ws
  right = record { groups = λ g i. h.groups g (in_right gs hs g i); forms = λ v i. h.forms v (in_right vs ws v i) }

module _ (set : ℕ → Type 0) (L : Leaves State Fault) (G : ℕ → Type 0) (P : PlainForm → Type 0) where
  -- the leaves hang on the set alone, for groups and forms with these properties
  pub record LeavesFrame : Type 0 where
    pub rests : (s t : State) → Agree set s t → Agree set (L.rest s) (L.rest t)
    pub merges : (arm : PlainStatement) (a b c d : State) → Agree set a c → Agree set b d → Agree set (L.merged (L.driven arm) a b) (L.merged (L.driven arm) c d)
    pub enable : (g : ℕ) → G g → P (Enable g) → Frames set (L.enable g)
    pub test : (form : PlainForm) (p : PlacedPort) (comb : Option ℕ) → test_in form ≡ Some p → P form → ((g : ℕ) → comb ≡ Some g → G g) → (s t : State) → Agree set s t → L.test p.port comb s ≡ L.test p.port comb t
    pub island : (context : Context) (form : PlainForm) → P form → Holds G P (groups_in form) (visit_parts context form) → Frames set (L.island form)
    pub timed : (k : ℕ) → Frames set (L.timed k)

  module _ (leaves : LeavesFrame) where
    mutual
      form_frames : (context : Context) (form : PlainForm) → P form → Holds G P (groups_in form) (visit_parts context form) → Frames set (run_form L form)
      form_frames context Empty p h s t n k = idle_frames set L.rest leaves.rests s t n k
      form_frames context (Enable g) p h s t n k = leaves.enable g (h.groups g (inl refl)) p s t n k
      form_frames context (Seq no_statements) p h s t n k = idle_frames set L.rest leaves.rests s t n k
      form_frames context (Seq (a_statement first rest)) p h s t n k =
          then_frames set (run L first) (run_parts L rest)
          (run_frames (below_dynamic context) first (left (groups_of first) (groups_in_all rest) (visit (below_dynamic context) first) (visit_all (below_dynamic context) rest) h))
          (parts_frames (below_dynamic context) rest (right (groups_of first) (groups_in_all rest) (visit (below_dynamic context) first) (visit_all (below_dynamic context) rest) h)) s t n k
      form_frames context (Par no_statements) p h s t n k = idle_frames set L.rest leaves.rests s t n k
      form_frames context (Par (a_statement first rest)) p h s t n k =
          both_alike set (L.merged (L.driven first)) (leaves.merges first) (run L first s n) (run L first t n) (run_arms L rest s n) (run_arms L rest t n)
          (run_frames (below_dynamic context) first (left (groups_of first) (groups_in_all rest) (visit (below_dynamic context) first) (visit_all (below_dynamic context) rest) h) s t n k)
          (arms_frames (below_dynamic context) rest (right (groups_of first) (groups_in_all rest) (visit (below_dynamic context) first) (visit_all (below_dynamic context) rest) h) s t n k)
      form_frames context (If test comb a b) p h s t n k =
          test_frames set L.rest leaves.rests (L.test test.port comb) (leaves.test (If test comb a b) test comb refl p (λ g e. h.groups g (in_comb comb (groups_of a ++ groups_of b) g e))) (run L a) (run L b)
          (run_frames (below_dynamic context) a (record { groups = λ g i. h.groups g (behind_comb comb (groups_of a ++ groups_of b) g (in_left (groups_of a) (groups_of b) g i)); forms = λ v i. h.forms v (in_left (visit (below_dynamic context) a) (visit (below_dynamic context) b) v i) }))
          (run_frames (below_dynamic context) b (record { groups = λ g i. h.groups g (behind_comb comb (groups_of a ++ groups_of b) g (in_right (groups_of a) (groups_of b) g i)); forms = λ v i. h.forms v (in_right (visit (below_dynamic context) a) (visit (below_dynamic context) b) v i) })) s t n k
      form_frames context (While test comb a) p h s t n k =
          loop_of_frames set L.rest leaves.rests (L.test test.port comb) (leaves.test (While test comb a) test comb refl p (λ g e. h.groups g (in_comb comb (groups_of a) g e))) (run L a)
          (run_frames (below_dynamic context) a (record { groups = λ g i. h.groups g (behind_comb comb (groups_of a) g i); forms = h.forms })) s t n k
      form_frames context (Repeat zero a) p h s t n k = idle_frames set L.rest leaves.rests s t n k
      form_frames context (Repeat (suc count) a) p h s t n k = rounds_frames set (run L a) (run_frames (below_dynamic context) a h) (suc count) s t n k
      form_frames context (StaticSeq length parts) p h s t n k = leaves.island context (StaticSeq length parts) p h s t n k
      form_frames context (StaticPar length arms) p h s t n k = leaves.island context (StaticPar length arms) p h s t n k
      form_frames context (StaticIf length test a b) p h s t n k = leaves.island context (StaticIf length test a b) p h s t n k
      form_frames context (StaticRepeat length count a) p h s t n k = leaves.island context (StaticRepeat length count a) p h s t n k
      form_frames context (Timed j) p h s t n k = leaves.timed j s t n k

      pub run_frames : (context : Context) (statement : PlainStatement) → Holds G P (groups_of statement) (visit context statement) → Frames set (run L statement)
      run_frames context (Placed form place) h s t n k =
          form_frames context form (h.forms (record { context = context; form = form; place = place }) (inl refl)) (record { groups = h.groups; forms = λ v i. h.forms v (inr i) }) s t n k

      parts_frames : (context : Context) (parts : PlainStatements) → Holds G P (groups_in_all parts) (visit_all context parts) → Frames set (run_parts L parts)
      parts_frames context no_statements h s t n k = stay_frames set s t n k
      parts_frames context (a_statement first rest) h s t n k =
          then_frames set (run L first) (run_parts L rest)
          (run_frames context first (left (groups_of first) (groups_in_all rest) (visit context first) (visit_all context rest) h))
          (parts_frames context rest (right (groups_of first) (groups_in_all rest) (visit context first) (visit_all context rest) h)) s t n k

      arms_frames : (context : Context) (arms : PlainStatements) → Holds G P (groups_in_all arms) (visit_all context arms) → Frames set (run_arms L arms)
      arms_frames context no_statements h s t n k = stay_frames set s t n k
      arms_frames context (a_statement first rest) h s t n k =
          both_alike set (L.merged (L.driven first)) (leaves.merges first) (run L first s n) (run L first t n) (run_arms L rest s n) (run_arms L rest t n)
          (run_frames context first (left (groups_of first) (groups_in_all rest) (visit context first) (visit_all context rest) h) s t n k)
          (arms_frames context rest (right (groups_of first) (groups_in_all rest) (visit context first) (visit_all context rest) h) s t n k)
