-- What is counted in a run over any leaves hangs on a set of cells alone, where what the leaves do and count does.
use Rattle.std.proofs.Common.{◌≡◌, ℕ, zero, suc, ◌-◌, inl, inr, ◌++◌, refl, sym, ap, ◌∙◌}
use Rattle.cx_text.proofs.MemberLaws.{in_left, in_right}
use Rattle.cx_meaning.specs.Designs.{PlainForm, Empty, Enable, Seq, Par, If, While, Repeat, StaticSeq, StaticPar, StaticIf, StaticRepeat, Timed, PlainStatement, Placed, PlainStatements, no_statements, a_statement}
use Rattle.cx_meaning.specs.Instances.{State}
use Rattle.cx_meaning.specs.Cycles.{Fault}
use Rattle.cx_meaning.specs.Answers.{Answer, End, More, Meaning, Turn, Ends, Goes, Faults, Test}
use Rattle.cx_meaning.specs.Answers as answers
use Rattle.cx_meaning.specs.Control.{Leaves, groups_in, groups_of, groups_in_all, run}
use Rattle.cx_meaning.proofs.SightsLaws.{behind_comb, in_comb}
use Rattle.cx_rules.specs.Items.{Context, below_dynamic, visit, visit_parts, visit_all}
use Rattle.cx_frames.specs.Agreeing.{Agree, Alike}
use Rattle.cx_frames.proofs.AlikeLemmas.{Frames, AlikeTurn}
use Rattle.cx_frames.proofs.ControlFrames.{Holds, left, right, LeavesFrame, run_frames}
use Rattle.cx_rewrites.specs.Tallies.{Tally, none, plus, Counted, chosen_count, then_count, turn_count, turns_count, test_count, loop_count, rounds_count, Counting, count_form, count, count_parts, count_arms}

-- from states that agree on the set the same is counted
abbrev pub CountsAgree : (ℕ → Type 0) → Counted State → Type 0
CountsAgree set counted = (s t : State) (n : ℕ) → Agree set s t → counted s n ≡ counted t n

pub both_counted : {a b c d : Tally} → a ≡ b → c ≡ d → plus a c ≡ plus b d
both_counted {a} {b} {c} {d} e f = ap (λ τ. plus τ c) e ∙ ap (plus b) f

module _ (set : ℕ → Type 0) where
  pub turn_counts : (x y : Turn State Fault) (go more : State → Tally) → AlikeTurn set x y → ((a b : State) → Agree set a b → go a ≡ more b) → turn_count x go ≡ turn_count y more
  turn_counts Ends y go more e each = ap (λ z. turn_count z more) (sym e)
  turn_counts (Goes a) y go more (b, e, h) each = each a b h ∙ ap (λ z. turn_count z more) (sym e)
  turn_counts (Faults f) y go more e each = ap (λ z. turn_count z more) (sym e)

  then_counts : (n : ℕ) (o x : Answer State Fault) (go : Counted State) → Alike set o x → CountsAgree set go → then_count o n go ≡ then_count x n go
  then_counts n (End a t) x go (b, e, h) each = each a b (n - t) h ∙ ap (λ y. then_count y n go) (sym e)
  then_counts n (answers.Fault f t) x go e each = ap (λ y. then_count y n go) (sym e)
  then_counts n More x go e each = ap (λ y. then_count y n go) (sym e)

  pub turns_counts : (turn : State → Turn State Fault) (one : Tally) → ((s t : State) → Agree set s t → AlikeTurn set (turn s) (turn t)) → CountsAgree set (turns_count turn one)
  turns_counts turn one alike s t zero h = refl
  turns_counts turn one alike s t (suc n) h =
      turn_counts (turn s) (turn t) (λ a. plus one (turns_count turn one a n)) (λ a. plus one (turns_count turn one a n)) (alike s t h)
      (λ a b k. ap (plus one) (turns_counts turn one alike a b n k))

  module _ (rest : State → State) (rests : (s t : State) → Agree set s t → Agree set (rest s) (rest t))
      (test : State → Test Fault) (same : (s t : State) → Agree set s t → test s ≡ test t) where
    test_counts : (first second : Counted State) → CountsAgree set first → CountsAgree set second → CountsAgree set (test_count rest test first second)
    test_counts first second f g s t zero h = refl
    test_counts first second f g s t (suc n) h =
        ap (λ x. chosen_count x (first (rest s) n) (second (rest s) n)) (same s t h)
        ∙ ap (λ τ. chosen_count (test t) τ (second (rest s) n)) (f (rest s) (rest t) n (rests s t h))
        ∙ ap (chosen_count (test t) (first (rest t) n)) (g (rest s) (rest t) n (rests s t h))

    loop_counts : (body : Meaning State Fault) (counts : Counted State) → Frames set body → CountsAgree set counts
        → (tests : ℕ) → CountsAgree set (loop_count tests rest test body counts)
    loop_counts body counts b c zero s t n h = refl
    loop_counts body counts b c (suc tests) s t n h =
        test_counts (λ s1 m. plus (counts s1 m) (then_count (body s1 m) m (loop_count tests rest test body counts))) (λ s1 m. none)
        (λ s1 t1 m k.
        both_counted (c s1 t1 m k) (then_counts m (body s1 m) (body t1 m) (loop_count tests rest test body counts) (b s1 t1 m k) (loop_counts body counts b c tests)))
        (λ s1 t1 m k. refl) s t n h

  rounds_counts : (body : Meaning State Fault) (counts : Counted State) → Frames set body → CountsAgree set counts → (k : ℕ) → CountsAgree set (rounds_count k body counts)
  rounds_counts body counts b c zero s t n h = refl
  rounds_counts body counts b c (suc k) s t n h =
      both_counted (c s t n h) (then_counts n (body s n) (body t n) (rounds_count k body counts) (b s t n h) (rounds_counts body counts b c k))

module _ (set : ℕ → Type 0) (L : Leaves State Fault) (C : Counting State) (G : ℕ → Type 0) (P : PlainForm → Type 0) where
  -- what the leaves count hangs on the set alone, for groups and forms with these properties
  pub record CountsFrame : Type 0 where
    pub enable : (g : ℕ) → G g → P (Enable g) → CountsAgree set (C.enable g)
    pub island : (context : Context) (form : PlainForm) → P form → Holds G P (groups_in form) (visit_parts context form) → CountsAgree set (C.island form)

  module _ (leaves : LeavesFrame set L G P) (counts : CountsFrame) where
    mutual
      form_counts : (context : Context) (form : PlainForm) → P form → Holds G P (groups_in form) (visit_parts context form) → CountsAgree set (count_form L C form)
      form_counts context Empty p h s t n k = refl
      form_counts context (Enable g) p h s t n k = counts.enable g (h.groups g (inl refl)) p s t n k
      form_counts context (Seq parts) p h s t n k = parts_counts (below_dynamic context) parts h s t n k
      form_counts context (Par arms) p h s t n k = arms_counts (below_dynamic context) arms h s t n k
      form_counts context (If test comb a b) p h s t n k =
          test_counts set L.rest leaves.rests (L.test test.port comb)
          (leaves.test (If test comb a b) test comb refl p (λ g e. h.groups g (in_comb comb (groups_of a ++ groups_of b) g e))) (count L C a) (count L C b)
          (statement_counts (below_dynamic context) a (record {
            groups = λ g i. h.groups g (behind_comb comb (groups_of a ++ groups_of b) g (in_left (groups_of a) (groups_of b) g i));
            forms = λ v i. h.forms v (in_left (visit (below_dynamic context) a) (visit (below_dynamic context) b) v i);
          }))
          (statement_counts (below_dynamic context) b (record {
            groups = λ g i. h.groups g (behind_comb comb (groups_of a ++ groups_of b) g (in_right (groups_of a) (groups_of b) g i));
            forms = λ v i. h.forms v (in_right (visit (below_dynamic context) a) (visit (below_dynamic context) b) v i);
          })) s t n k
      form_counts context (While test comb a) p h s t n k =
          let inside : Holds G P (groups_of a) (visit (below_dynamic context) a) = record { groups = λ g i. h.groups g (behind_comb comb (groups_of a) g i); forms = h.forms } in
          loop_counts set L.rest leaves.rests (L.test test.port comb)
          (leaves.test (While test comb a) test comb refl p (λ g e. h.groups g (in_comb comb (groups_of a) g e))) (run L a) (count L C a)
          (run_frames set L G P leaves (below_dynamic context) a inside) (statement_counts (below_dynamic context) a inside) (suc n) s t n k
      form_counts context (Repeat times a) p h s t n k =
          rounds_counts set (run L a) (count L C a) (run_frames set L G P leaves (below_dynamic context) a h) (statement_counts (below_dynamic context) a h) times s t n k
      form_counts context (StaticSeq length parts) p h s t n k = counts.island context (StaticSeq length parts) p h s t n k
      form_counts context (StaticPar length arms) p h s t n k = counts.island context (StaticPar length arms) p h s t n k
      form_counts context (StaticIf length test a b) p h s t n k = counts.island context (StaticIf length test a b) p h s t n k
      form_counts context (StaticRepeat length times a) p h s t n k = counts.island context (StaticRepeat length times a) p h s t n k
      form_counts context (Timed j) p h s t n k = refl

      pub statement_counts : (context : Context) (statement : PlainStatement) → Holds G P (groups_of statement) (visit context statement) → CountsAgree set (count L C statement)
      statement_counts context (Placed form place) h s t n k =
          form_counts context form (h.forms (record { context = context; form = form; place = place }) (inl refl))
          (record { groups = h.groups; forms = λ v i. h.forms v (inr i) }) s t n k

      parts_counts : (context : Context) (parts : PlainStatements) → Holds G P (groups_in_all parts) (visit_all context parts)
          → CountsAgree set (count_parts L C parts)
      parts_counts context no_statements h s t n k = refl
      parts_counts context (a_statement first rest) h s t n k =
          let here : Holds G P (groups_of first) (visit context first) = left (groups_of first) (groups_in_all rest) (visit context first) (visit_all context rest) h in
          both_counted (statement_counts context first here s t n k)
          (then_counts set n (run L first s n) (run L first t n) (count_parts L C rest) (run_frames set L G P leaves context first here s t n k)
          (parts_counts context rest (right (groups_of first) (groups_in_all rest) (visit context first) (visit_all context rest) h)))

      arms_counts : (context : Context) (arms : PlainStatements) → Holds G P (groups_in_all arms) (visit_all context arms) → CountsAgree set (count_arms L C arms)
      arms_counts context no_statements h s t n k = refl
      arms_counts context (a_statement first rest) h s t n k =
          both_counted (statement_counts context first (left (groups_of first) (groups_in_all rest) (visit context first) (visit_all context rest) h) s t n k)
          (arms_counts context rest (right (groups_of first) (groups_in_all rest) (visit context first) (visit_all context rest) h) s t n k)
