-- What a statement of an accepted design counts hangs on what it reads alone; so one more arm of a par counts on the state that the
-- arms before it left what it counts from the first state, and what the arms count is added up.
use Rattle.std.proofs.Common.{◌≡◌, ℕ, suc, ◌+◌, ◌<◌, inl, inr, Bool, true, false, Some, List, [], ◌∷◌, ◌++◌, length, take, drop, refl, sym, ap, ◌∙◌, subst, arith}
use Rattle.std.specs.Prelude.{slice_get}
use Rattle.cx_text.specs.Members.{In}
use Rattle.cx_meaning.specs.Designs.{PlainDesign, PlainForm, Enable, Par, PlainStatement, Placed, statements_of, group_at}
use Rattle.cx_meaning.specs.Instances.{Instance, cells_of, part_of, tree_of, Path, State, instance_at}
use Rattle.cx_meaning.specs.Active.{group, entries}
use Rattle.cx_meaning.specs.Sights.{Held}
use Rattle.cx_meaning.specs.Control.{Leaves, groups_in, groups_of, drives}
use Rattle.cx_meaning.specs.Islands.{History, form_flat, active_in, island}
use Rattle.cx_meaning.specs.Running.{Children, leaves, control_below}
use Rattle.cx_meaning.proofs.DesignsLemmas.{list_again}
use Rattle.cx_rules.specs.Items.{Context, Dynamic, below_dynamic, Visited, visit, visit_parts, statements_in}
use Rattle.cx_rules.specs.Circles.{IsAcyclic, AreAcyclic}
use Rattle.cx_rules.specs.Footprints.{Reads}
use Rattle.cx_rules.specs.RaceRule.{arms_of}
use Rattle.cx_rules.specs.Accepted.{IsAccepted}
use Rattle.cx_rules.proofs.CirclesLemmas.{own_acyclic, cells_below}
use Rattle.cx_laws.specs.Closures.{IsClosed}
use Rattle.cx_frames.specs.Agreeing.{Agree}
use Rattle.cx_frames.specs.Arms.{all_drive, arms_run}
use Rattle.cx_frames.specs.Ran.{Outcome, Ran}
use Rattle.cx_frames.proofs.AlikeLemmas.{Frames}
use Rattle.cx_frames.proofs.ControlFrames.{Holds, LeavesFrame}
use Rattle.cx_frames.proofs.RuleLemmas.{IsKept}
use Rattle.cx_frames.proofs.SightFrames.{IsThrough}
use Rattle.cx_frames.proofs.LeafFrames.{merge_agree, idle_agree, IsGood, test_alike, enable_frames}
use Rattle.cx_frames.proofs.IslandFrames.{island_frames}
use Rattle.cx_frames.proofs.StatementFrames as statements
use Rattle.cx_frames.proofs.ShareLemmas.{apart_from}
use Rattle.cx_frames.proofs.ArmLemmas.{arm_stands, behind, one_longer}
use Rattle.cx_rewrites.specs.Tallies.{plus, Counting, count, count_arms}
use Rattle.cx_rewrites.proofs.TallyLemmas.{plus-none, plus-plus, none-plus}
use Rattle.cx_profiling.specs.Counting.{ChildrenCount, counting, count_island, count_below}
use Rattle.cx_profiling.specs.StatementCounts.{count_statement, count_of_arms}
use Rattle.cx_profiling.proofs.CountFrames.{CountsAgree, CountsFrame, statement_counts}
use Rattle.cx_profiling.proofs.IslandCounts.{island_counts, enable_counts}

module _ (i : Instance) (held : Held) (kept : IsKept i) (circles : AreAcyclic i) (groups : (g : ℕ) → g < length (part_of i).groups → IsAcyclic i (group g))
    (islands : (v : Visited) (h : History) (t : ℕ) → In (statements_in (part_of i)) v → IsAcyclic i (entries (active_in h t (form_flat (part_of i) v.form 0 []))))
    (v : Visited) (stands : In (statements_in (part_of i)) v) (set : ℕ → Type 0) (closed : IsClosed (part_of i) (Placed v.form v.place) set) where
  abbrev through : IsThrough (part_of i) set
  through = statements.through i held kept circles groups islands v stands set closed

  abbrev Good : ℕ → Type 0
  Good = IsGood i held set kept through (cells_below i circles)

  abbrev Ready : PlainForm → Type 0
  Ready = statements.IsReady i held kept circles groups islands v stands set closed

  only : (g : ℕ) → Good g → Holds Good Ready (g ∷ []) []
  only g fine = record { groups = λ h j. one h j; forms = λ w j. absurd j }
    where
      one : (h : ℕ) → In (g ∷ []) h → Good h
      one h (inl e) = subst Good e fine
      one h (inr none) = absurd none

  own_island : (context : Context) (form : PlainForm) → Ready form → Holds Good Ready (groups_in form) (visit_parts context form) → Frames set (island i held form)
  own_island context form fine holds =
      island_frames i held set kept through (cells_below i circles) (own_acyclic i circles) Ready (λ f p r e. r.tests p e) context form fine holds fine.acyclic

  own_island_counts : (context : Context) (form : PlainForm) → Ready form → Holds Good Ready (groups_in form) (visit_parts context form)
      → CountsAgree set (count_island i held form)
  own_island_counts context form fine holds =
      island_counts i held set kept through (cells_below i circles) (own_acyclic i circles) Ready (λ f p r e. r.tests p e) context form fine holds fine.acyclic

  frames : (children : Children) → LeavesFrame set (leaves i children held) Good Ready
  frames children = record {
    rests = idle_agree set i;
    merges = λ arm a b c d h k. merge_agree set (drives (part_of i) arm) a b c d h k;
    enable = λ g fine form. enable_frames i held set kept through (cells_below i circles) children g fine (own_island Dynamic (Enable g) form (only g fine));
    test = λ form p comb e fine each s t agree. test_alike i held set kept through (cells_below i circles) (own_acyclic i circles) p.port (fine.tests p e) comb each s t agree;
    island = λ context form fine holds. own_island context form fine holds;
    timed = λ k s t n h. refl;
  }

  counted : (counts : ChildrenCount) (children : Children) → CountsFrame set (leaves i children held) (counting i counts held) Good Ready
  counted counts children = record {
    enable = λ g fine form.
        enable_counts i held set kept through (cells_below i circles) counts g fine (group_at (part_of i) g).kind (own_island_counts Dynamic (Enable g) form (only g fine));
    island = λ context form fine holds. own_island_counts context form fine holds;
  }

  pub statement_agrees : CountsAgree set (count_statement i held (Placed v.form v.place))
  statement_agrees = over (control_below (cells_of i)) (count_below (cells_of i))
    where
      holds : Holds Good Ready (groups_of (Placed v.form v.place)) (visit v.context (Placed v.form v.place))
      holds = record {
        groups = statements.good i held kept circles groups islands v stands set closed;
        forms = statements.ready i held kept circles groups islands v stands set closed;
      }

      over : (children : Children) (counts : ChildrenCount) → CountsAgree set (count (leaves i children held) (counting i counts held) (Placed v.form v.place))
      over children counts =
          statement_counts set (leaves i children held) (counting i counts held) Good Ready (frames children) (counted counts children) v.context (Placed v.form v.place) holds

-- what some arms count, and what one more counts
arms_joined : {F : Type 0} (L : Leaves State F) (C : Counting State) (done : List PlainStatement) (arm : PlainStatement) (s : State) (n : ℕ)
    → count_arms L C (statements_of (done ++ (arm ∷ []))) s n ≡ plus (count_arms L C (statements_of done) s n) (count L C arm s n)
arms_joined L C [] arm s n = plus-none (count L C arm s n) ∙ sym (none-plus (count L C arm s n))
arms_joined L C (x ∷ done) arm s n =
    ap (plus (count L C x s n)) (arms_joined L C done arm s n) ∙ sym (plus-plus (count L C x s n) (count_arms L C (statements_of done) s n) (count L C arm s n))

-- ONE MORE ARM reads nothing that the arms before it drive
module _ (d : PlainDesign) (path : Path) (held : Held) (accepted : IsAccepted d) where
  abbrev at_path : Instance
  at_path = instance_at (tree_of d) path

  module _ (agree : (w : Visited) → In (statements_in (part_of at_path)) w
      → CountsAgree (Reads (part_of at_path) (Placed w.form w.place)) (count_statement at_path held (Placed w.form w.place)))
      (v : Visited) (list : List PlainStatement) (k : ℕ) (s cur : State) (n m : ℕ) (o : Outcome)
      (stands : In (statements_in (part_of at_path)) v) (form : v.form ≡ Par (statements_of list))
      (ran : Ran at_path (all_drive (part_of at_path) (take k list)) (arms_run at_path held (take k list)) s n cur o) where
    kept : (arm : PlainStatement) → slice_get list k ≡ Some arm → Agree (Reads (part_of at_path) arm) cur s
    kept arm at c below reads = one (all_drive (part_of at_path) (take k list) c) refl
      where
        one : (b : Bool) → all_drive (part_of at_path) (take k list) c ≡ b → cur (c ∷ below) ≡ s (c ∷ below)
        one true e =
            absurd (apart_from d accepted path v (take k list) (drop (suc k) list) arm stands (ap arms_of form ∙ (list_again list ∙ behind list k arm at)) c reads e)
        one false e = ran.others c below e

    pub next_agrees : (arm : PlainStatement) → slice_get list k ≡ Some arm → count_statement at_path held arm cur m ≡ count_statement at_path held arm s m
    next_agrees (Placed own place) at =
        let stands_too : In (statements_in (part_of at_path)) (record { context = below_dynamic v.context; form = own; place = place }) =
        arm_stands (part_of at_path) v (statements_of list) (take k list) (drop (suc k) list) own place stands form (list_again list ∙ behind list k (Placed own place) at) in
        agree (record { context = below_dynamic v.context; form = own; place = place }) stands_too cur s m (kept (Placed own place) at)

    pub next_adds : (arm : PlainStatement) → slice_get list k ≡ Some arm
        → count_of_arms at_path held (take (k + 1) list) s m ≡ plus (count_of_arms at_path held (take k list) s m) (count_statement at_path held arm cur m)
    next_adds arm at =
        let one_on : k + 1 ≡ suc k = omega arith in
        ap (λ l. count_of_arms at_path held l s m) (ap (λ j. take j list) one_on ∙ one_longer list k arm at)
        ∙ arms_joined (leaves at_path (control_below (cells_of at_path)) held) (counting at_path (count_below (cells_of at_path)) held) (take k list) arm s m
        ∙ ap (plus (count_of_arms at_path held (take k list) s m)) (sym (next_agrees arm at))
