-- What a statement of an accepted design does hangs on what it reads alone.
use Rattle.std.proofs.Common.{◌≡◌, ℕ, ◌<◌, inl, inr, Some, List, [], ◌∷◌, ◌++◌, length, refl, sym, ap, ◌∙◌, subst}
use Rattle.cx_text.proofs.MemberLaws.{in_left, in_right, of_joined}
use Rattle.cx_text.specs.Members.{In}
use Rattle.cx_meaning.specs.declared.ports.PlacedPort.{PlacedPort}
use Rattle.cx_meaning.specs.Designs.{PlainForm, Empty, Enable, Seq, Par, If, While, Repeat, StaticSeq, StaticPar, StaticIf, StaticRepeat, Timed, PlainStatement, Placed, PlainStatements, no_statements, a_statement}
use Rattle.cx_meaning.specs.Instances.{Instance, Node, part_of}
use Rattle.cx_meaning.specs.Active.{group, entries}
use Rattle.cx_meaning.specs.Sights.{Held}
use Rattle.cx_meaning.specs.Control.{groups_in, groups_of, drives, run}
use Rattle.cx_meaning.specs.Islands.{History, form_flat, active_in, island}
use Rattle.cx_meaning.specs.Running.{Children, leaves, control_below, run_statement}
use Rattle.cx_rules.specs.Items.{Context, Dynamic, below_dynamic, Visited, visit, visit_parts, visit_all, statements_in, test_in, option_list, tests_of}
use Rattle.cx_rules.specs.Circles.{IsAcyclic, AreAcyclic}
use Rattle.cx_laws.specs.Closures.{IsClosed}
use Rattle.cx_laws.proofs.VisitLemmas.{visits, visited}
use Rattle.cx_frames.proofs.AlikeLemmas.{Frames}
use Rattle.cx_frames.proofs.ControlFrames.{Holds, LeavesFrame, run_frames}
use Rattle.cx_frames.proofs.RuleLemmas.{IsKept}
use Rattle.cx_frames.proofs.SightFrames.{InFrame, in_frame, IsThrough}
use Rattle.cx_frames.proofs.CircleFrames.{group_acyclic}
use Rattle.cx_frames.proofs.LeafFrames.{merge_agree, idle_agree, IsGood, test_alike, enable_frames}
use Rattle.cx_frames.proofs.IslandFrames.{island_frames}
use Rattle.cx_meaning.proofs.ControlLaws.{groups_drive_in}
use Rattle.cx_laws.proofs.TogetherLemmas.{in_flat}
use Rattle.cx_rules.proofs.CirclesLemmas.{own_acyclic, cells_below}

-- the forms that are visited do not hang on where the statement stands
abbrev Among : List Visited → Visited → Type 0
Among vs v = (w : Visited) × In vs w × (w.form ≡ v.form)

wider : (xs ys : List Visited) (v : Visited) → ((w : Visited) → In xs w → In ys w) → Among xs v → Among ys v
wider xs ys v f (w, i, e) = (w, f w i, e)

mutual
  parts_among : (a b : Context) (form : PlainForm) (v : Visited) → In (visit_parts a form) v → Among (visit_parts b form) v
  parts_among a b Empty v i = absurd i
  parts_among a b (Enable g) v i = absurd i
  parts_among a b (Seq parts) v i = all_among (below_dynamic a) (below_dynamic b) parts v i
  parts_among a b (Par arms) v i = all_among (below_dynamic a) (below_dynamic b) arms v i
  parts_among a b (If test comb x y) v i =
      of_joined (visit (below_dynamic a) x) (visit (below_dynamic a) y) v i
      (λ k. wider _ (visit (below_dynamic b) x ++ visit (below_dynamic b) y) v (in_left (visit (below_dynamic b) x) (visit (below_dynamic b) y)) (among (below_dynamic a) (below_dynamic b) x v k))
      (λ k. wider _ (visit (below_dynamic b) x ++ visit (below_dynamic b) y) v (in_right (visit (below_dynamic b) x) (visit (below_dynamic b) y)) (among (below_dynamic a) (below_dynamic b) y v k))
  parts_among a b (While test comb x) v i = among (below_dynamic a) (below_dynamic b) x v i
  parts_among a b (Repeat count x) v i = among (below_dynamic a) (below_dynamic b) x v i
  parts_among a b (StaticSeq written parts) v i = (v, i, refl)
  parts_among a b (StaticPar written arms) v i = (v, i, refl)
  parts_among a b (StaticIf written test x y) v i = (v, i, refl)
  parts_among a b (StaticRepeat written count x) v i = (v, i, refl)
  parts_among a b (Timed k) v i = absurd i

  among : (a b : Context) (s : PlainStatement) (v : Visited) → In (visit a s) v → Among (visit b s) v
  among a b (Placed form place) v (inl e) = (record { context = b; form = form; place = place }, inl refl, ap (λ x. x.form) e)
  among a b (Placed form place) v (inr i) = wider _ (visit b (Placed form place)) v (λ w j. inr j) (parts_among a b form v i)

  all_among : (a b : Context) (ss : PlainStatements) (v : Visited) → In (visit_all a ss) v → Among (visit_all b ss) v
  all_among a b no_statements v i = absurd i
  all_among a b (a_statement s ss) v i =
      of_joined (visit a s) (visit_all a ss) v i
      (λ k. wider _ (visit b s ++ visit_all b ss) v (in_left (visit b s) (visit_all b ss)) (among a b s v k))
      (λ k. wider _ (visit b s ++ visit_all b ss) v (in_right (visit b s) (visit_all b ss)) (all_among a b ss v k))

tested_in : (context : Context) (s : PlainStatement) (v : Visited) (p : PlacedPort) → In (visit context s) v → test_in v.form ≡ Some p → In (tests_of s) p
tested_in context s v p i e =
    let r = among context Dynamic s v i in
    in_flat (λ w. option_list (test_in w.form)) (visit Dynamic s) r.0 p r.1 (subst (λ o. In (option_list o) p) (sym (ap test_in r.2 ∙ e)) (inl refl))

module _ (i : Instance) (held : Held) (kept : IsKept i) (circles : AreAcyclic i) (groups : (g : ℕ) → g < length (part_of i).groups → IsAcyclic i (group g))
    (islands : (v : Visited) (h : History) (t : ℕ) → In (statements_in (part_of i)) v → IsAcyclic i (entries (active_in h t (form_flat (part_of i) v.form 0 []))))
    (v : Visited) (stands : In (statements_in (part_of i)) v) (set : ℕ → Type 0) (closed : IsClosed (part_of i) (Placed v.form v.place) set) where
  pub through : IsThrough (part_of i) set
  through c p e q a inside j t n = closed.through c p e q a inside j t n

  abbrev pub Good : ℕ → Type 0
  Good = IsGood i held set kept through (cells_below i circles)

  -- its groups drive and name nothing outside the set
  pub good : (g : ℕ) → In (groups_of (Placed v.form v.place)) g → Good g
  good g j = record {
    within = record {
      drives = λ c e. closed.driven c (groups_drive_in (part_of i) (groups_of (Placed v.form v.place)) g c j e);
      names = λ a c p k n. closed.named c p g a j k n;
    };
    acyclic = group_acyclic i circles groups g;
  }

  -- a form whose island has no circle, and whose test is in the frame
  pub record IsReady (form : PlainForm) : Type 0 where
    pub acyclic : (h : History) (t : ℕ) → IsAcyclic i (entries (active_in h t (form_flat (part_of i) form 0 [])))
    pub tests : (p : PlacedPort) → test_in form ≡ Some p → InFrame set p.port

  pub ready : (w : Visited) → In (visits v) w → IsReady w.form
  ready w k =
      let j : In (statements_in (part_of i)) w = visited Dynamic (part_of i).control v w stands k in
      record {
        acyclic = λ h t. islands w h t j;
        tests = λ p e. in_frame set p.port (λ c n is. closed.tested c n p (tested_in v.context (Placed v.form v.place) w p k e) is) (λ n is. kept.tests w p n j e is);
      }

  only : (g : ℕ) → Good g → Holds Good IsReady (g ∷ []) []
  only g fine = record { groups = λ h j. one h j; forms = λ w j. absurd j }
    where
      one : (h : ℕ) → In (g ∷ []) h → Good h
      one h (inl e) = subst Good e fine
      one h (inr none) = absurd none

  own_island : (context : Context) (form : PlainForm) → IsReady form → Holds Good IsReady (groups_in form) (visit_parts context form) → Frames set (island i held form)
  own_island context form fine holds =
      island_frames i held set kept through (cells_below i circles) (own_acyclic i circles) IsReady (λ f p r e. r.tests p e) context form fine holds fine.acyclic

  frames : (children : Children) → LeavesFrame set (leaves i children held) Good IsReady
  frames children = record {
    rests = idle_agree set i;
    merges = λ arm a b c d h k. merge_agree set (drives (part_of i) arm) a b c d h k;
    enable = λ g fine form. enable_frames i held set kept through (cells_below i circles) children g fine (own_island Dynamic (Enable g) form (only g fine));
    test = λ form p comb e fine each s t agree. test_alike i held set kept through (cells_below i circles) (own_acyclic i circles) p.port (fine.tests p e) comb each s t agree;
    island = λ context form fine holds. own_island context form fine holds;
    timed = λ k s t n h. refl;
  }

  run_alike : (children : Children) → Frames set (run (leaves i children held) (Placed v.form v.place))
  run_alike children = run_frames set (leaves i children held) Good IsReady (frames children) v.context (Placed v.form v.place) (record { groups = good; forms = ready })

  pub statement_frames : Frames set (run_statement i held (Placed v.form v.place))
  statement_frames = of_node i run_alike
    where
      of_node : (n : Instance) → ((children : Children) → Frames set (run (leaves n children held) (Placed v.form v.place))) → Frames set (run_statement n held (Placed v.form v.place))
      of_node (Node part cells) h s t m agree = h (control_below cells) s t m agree
