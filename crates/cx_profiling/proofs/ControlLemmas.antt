-- THE CONTROL of an instrumented instance carries that of the instance, with the counts in its counters.
use Rattle.std.proofs.Common.{◌≡◌, ℕ, zero, suc, ◌+◌, ◌*◌, ◌<◌, ◌≤◌, inl, inr, ⊎_elim, Bool, true, false, List, [], length, Option, Some, None, refl, sym, ap, ◌∙◌, subst, arith}
use Rattle.std.proofs.lemmas.List.{length-append}
use Rattle.cx_text.proofs.MemberLaws.{in_at}
use Rattle.cx_text.specs.Members.{In}
use Rattle.cx_prim.specs.CellStates.{CellState}
use Rattle.cx_meaning.specs.declared.kinds.GroupKind.{GroupKind}
use Rattle.cx_meaning.specs.declared.kinds.GroupKind.TheVariants as kinds
use Rattle.cx_meaning.specs.declared.ports.PortRef.{PortRef}
use Rattle.cx_meaning.specs.declared.ports.PlacedPort.{PlacedPort}
use Rattle.cx_meaning.specs.Designs.{PlainComponent, PlainDesign, PlainForm, Empty, Enable, Seq, Par, If, While, Repeat, StaticSeq, StaticPar, StaticIf, StaticRepeat, Timed, component_at, group_at}
use Rattle.cx_meaning.specs.Instances.{Instance, Cells, no_cells, a_primitive, an_instance, OfInstance, cell_at, cells_of, State, tree_within}
use Rattle.cx_meaning.specs.Active.{Active}
use Rattle.cx_meaning.specs.Sights.{Held}
use Rattle.cx_meaning.specs.Cycles.{Fault, Next}
use Rattle.cx_meaning.specs.Answers.{Meaning}
use Rattle.cx_meaning.specs.Control.{Leaves, groups_in, run}
use Rattle.cx_meaning.specs.Islands.{form_flat, kind_length}
use Rattle.cx_meaning.specs.Calls.{called, call_or_turns, enable_kind}
use Rattle.cx_meaning.specs.Running.{leaves, run_control, control_below}
use Rattle.cx_meaning.proofs.InstancesLemmas.{instance_is, row_instance, nothing_instance}
use Rattle.cx_rules.specs.Circles.{IsAcyclic}
use Rattle.cx_rules.specs.Items.{Context, Dynamic, Visited, visit_parts, statements_in, test_in, is_comb}
use Rattle.cx_rules.specs.Ports.{component_of}
use Rattle.cx_rules.specs.RaceRule.{enabled_group}
use Rattle.cx_rules.specs.Accepted.{IsAccepted}
use Rattle.cx_rules.specs.Wellformed.{IsDesign}
use Rattle.cx_frames.proofs.ControlFrames.{Holds}
use Rattle.cx_frames.proofs.IslandFrames.{AllFine, form_fine}
use Rattle.cx_rewrites.specs.Tallies.{Tally, Counted, Counting}
use Rattle.cx_rewrites.specs.Carrying.{Exact, Carried, Carries}
use Rattle.cx_rewrites.specs.Moving.{moved_form, moved_statement}
use Rattle.cx_rewrites.specs.Beside.{LeavesCarry}
use Rattle.cx_rewrites.specs.Cells.{comes_to}
use Rattle.cx_rewrites.proofs.MovedLemmas.{moved_carries}
use Rattle.cx_profiling.specs.Counters.{counters}
use Rattle.cx_profiling.specs.Counting.{count_island, count_call_or_turns, count_enable, counting, count_control, count_below}
use Rattle.cx_profiling.specs.Growing.{Grown}
use Rattle.cx_profiling.specs.Instrumented.{is_reached, moved_in, counter_cells, child_component, with_counts}
use Rattle.cx_profiling.proofs.PortLemmas.{IsInside, there_inside}
use Rattle.cx_profiling.proofs.CounterLemmas.{counter_cells-length}
use Rattle.cx_profiling.proofs.RoleLemmas.{Role, as_main, as_child, as_kept, role}
use Rattle.cx_profiling.proofs.GrownTrees.{InTree, in_reach, child_in_tree, no_main_below}
use Rattle.cx_profiling.proofs.PairLemmas.{CellPair, row_pair, child_pair, pair_at}
use Rattle.cx_profiling.proofs.AcyclicLemmas.{ActsWithin, child_few, child_acyclic}
use Rattle.cx_profiling.proofs.EnabledLemmas.{Known, statement_known}
use Rattle.cx_profiling.proofs.ArmLemmas.{all_forms, arms_merge}
use Rattle.cx_profiling.proofs.LeafLemmas.{rests, called_instance, same_called, same_kind, group_leaf, test_leaf, call_leaf, island_leaf}
use Rattle.cx_meaning.proofs.RunningLemmas.{child_runs}

pub count_child : (cells : Cells) (c : ℕ) (child : Instance) → cell_at cells c ≡ OfInstance child → (held : Held) (s : State) (n : ℕ) → count_below cells c held s n ≡ count_control child held s n
count_child no_cells c child e held s n = absurd (nothing_instance child e)
count_child (a_primitive row rest) zero child e held s n = absurd (row_instance row child e)
count_child (a_primitive row rest) (suc c) child e held s n = count_child rest c child e held s n
count_child (an_instance x rest) zero child e held s n = ap (λ y. count_control y held s n) (instance_is x child e)
count_child (an_instance x rest) (suc c) child e held s n = count_child rest c child e held s n

-- equal meanings and counts
pub equal_carries : (R : Tally → State → State → Type 0) (counts more : Counted State) (go first on second : Meaning State Fault)
    → ((s : State) (n : ℕ) → more s n ≡ counts s n) → ((s : State) (n : ℕ) → first s n ≡ go s n) → ((s : State) (n : ℕ) → second s n ≡ on s n) → Carries Exact R (λ f. f) counts go on → Carries Exact R (λ f. f) more first second
equal_carries R counts more go first on second e h l carries before s z n m room r =
    subst (λ k. Carried Exact R (λ f. f) before k (first s n) (second z m)) (sym (e s n))
    (subst (λ o. Carried Exact R (λ f. f) before (counts s n) o (second z m)) (sym (h s n)) (subst (λ x. Carried Exact R (λ f. f) before (counts s n) (go s n) x) (sym (l z m)) (carries before s z n m room r)))

pub enabled_form : (form : PlainForm) (g : ℕ) → In (enabled_group form) g → form ≡ Enable g
enabled_form Empty g i = absurd i
enabled_form (Enable x) g (inl e) = ap Enable e
enabled_form (Enable x) g (inr i) = absurd i
enabled_form (Seq parts) g i = absurd i
enabled_form (Par arms) g i = absurd i
enabled_form (If test comb a b) g i = absurd i
enabled_form (While test comb a) g i = absurd i
enabled_form (Repeat times a) g i = absurd i
enabled_form (StaticSeq length parts) g i = absurd i
enabled_form (StaticPar length arms) g i = absurd i
enabled_form (StaticIf length test a b) g i = absurd i
enabled_form (StaticRepeat length times a) g i = absurd i
enabled_form (Timed k) g i = absurd i

module _ (d : PlainDesign) (design : IsDesign d) (accepted : IsAccepted d) (grown_accepted : IsAccepted (with_counts d)) where
  -- the children of so many levels
  abbrev pub KidsControl : ℕ → Type 0
  KidsControl m = (e : ℕ) → InTree d m e → (e ≡ d.main → ⊥) → (held twin : Held) → ((n : ℕ) → n < length (component_at d e).inputs → twin n ≡ held n)
      → Carries Exact (Grown (tree_within d m e)) (λ f. f) (count_control (tree_within d m e) held) (run_control (tree_within d m e) held) (run_control (tree_within (with_counts d) m e) twin)

  module _ (m k : ℕ) (at : InTree d (suc m) k)
      (entries_there : (act : Active) → ActsWithin (component_at d k) act → IsAcyclic (tree_within d (suc m) k) act → IsAcyclic (tree_within (with_counts d) (suc m) k) act)
      (further : (act : Active) → ActsWithin (component_at d k) act → IsAcyclic (tree_within (with_counts d) (suc m) k) act → (twin : Held) (t : State) (e : ℕ)
      → length (component_at d k).cells + 2 * length (counters (component_of d k)) ≤ e → e < length (component_at (with_counts d) k).cells
      → (after : CellState) × (comes_to (tree_within (with_counts d) (suc m) k) twin act t e ≡ Next after))
      (kids : KidsControl m) (held twin : Held) (same : (n : ℕ) → n < length (component_at d k).inputs → twin n ≡ held n) where
    abbrev node : PlainComponent
    node = component_at d k

    abbrev other : PlainComponent
    other = component_at (with_counts d) k

    abbrev i : Instance
    i = tree_within d (suc m) k

    abbrev j : Instance
    j = tree_within (with_counts d) (suc m) k

    abbrev mv : PortRef → PortRef
    mv p = moved_in d node p

    abbrev L : Leaves State Fault
    L = leaves i (control_below (cells_of i)) held

    abbrev C : Counting State
    C = counting i (count_below (cells_of i)) held

    abbrev M : Leaves State Fault
    M = leaves j (control_below (cells_of j)) twin

    abbrev IsOurs : PlainForm → Type 0
    IsOurs form = (v : Visited) × In (statements_in node) v × (v.form ≡ form)

    abbrev IsKnown : ℕ → Type 0
    IsKnown g = Known node (statements_in node) g

    test_inside : (form : PlainForm) (p : PlacedPort) → IsOurs form → test_in form ≡ Some p → IsInside d node p.port
    test_inside form p (v, stands, is) e =
        there_inside d k at.within p.port (((design.components k at.within).statements v stands).test p (ap test_in is ∙ e))

    of_island : (context : Context) (form : PlainForm) → IsOurs form → Holds IsKnown IsOurs (groups_in form) (visit_parts context form)
        → Carries Exact (Grown i) (λ f. f) (count_island i held form) (L.island form) (M.island (moved_form mv form))
    of_island context form (v, stands, is) holds =
        subst (λ f. Carries Exact (Grown i) (λ x. x) (count_island i held f) (L.island f) (M.island (moved_form mv f))) is
        (island_leaf d design accepted grown_accepted m k at entries_there further held twin same v stands
        (subst (λ f. AllFine (λ g. g < length node.groups) (IsInside d node) (form_flat node f 0 [])) (sym is)
        (form_fine (λ g. g < length node.groups) (IsInside d node) IsOurs (λ f p ours e. test_inside f p ours e) node context form 0 [] (v, stands, is)
        (record { groups = λ g inside. (holds.groups g inside).there; forms = holds.forms }) tt)))

    of_call : (g : ℕ) (kind : GroupKind) → g < length node.groups → (group_at node g).kind ≡ kind → kind_length kind ≡ None → (o : Option ℕ) → called i g ≡ o
        → Carries Exact (Grown i) (λ f. f) (count_call_or_turns i (count_below (cells_of i)) held g o) (call_or_turns i (control_below (cells_of i)) held g o) (call_or_turns j (control_below (cells_of j)) twin g o)
    of_call g kind few is dynamic None calls = group_leaf d design accepted grown_accepted m k at entries_there further held twin same g few
    of_call g kind few is dynamic (Some c) calls = by (pair_at d design m k at.within c here)
      where
        child : (x : Instance) × (cell_at (cells_of i) c ≡ OfInstance x)
        child = called_instance (cells_of i) (group_at node g).assigns c calls

        here : c < length node.cells
        here = child_few (tree_within d m) node.cells c child.0 child.1

        by : CellPair d design m k at.within c
            → Carries Exact (Grown i) (λ f. f) (count_call_or_turns i (count_below (cells_of i)) held g (Some c)) (call_or_turns i (control_below (cells_of i)) held g (Some c)) (call_or_turns j (control_below (cells_of j)) twin g (Some c))
        by (row_pair row first second moved) = absurd (row_instance row child.0 (sym first ∙ child.1))
        by (child_pair cell e stands comp below first second moved) =
            call_leaf d design accepted grown_accepted m k at entries_there further held twin same g c kind few is dynamic calls cell e stands comp (control_below (cells_of i)) (control_below (cells_of j)) (λ own. count_below (cells_of i) c own)
            (λ own twin_own alike.
            equal_carries (Grown (tree_within d m e)) (count_control (tree_within d m e) own) (count_below (cells_of i) c own) (run_control (tree_within d m e) own) (control_below (cells_of i) c own)
            (run_control (tree_within (with_counts d) m e) twin_own) (control_below (cells_of j) c twin_own)
            (λ s n. count_child (cells_of i) c (tree_within d m e) first own s n) (λ s n. child_runs (cells_of i) c (tree_within d m e) first own s n)
            (λ s n. child_runs (cells_of j) c (tree_within (with_counts d) m e) second twin_own s n)
            (kids e (child_in_tree d design at cell e (in_at node.cells c cell stands) comp) (no_main_below d design at cell e (in_at node.cells c cell stands) comp) own twin_own alike))

    of_kind : (g : ℕ) (kind : GroupKind) → IsKnown g → (group_at node g).kind ≡ kind
        → Carries Exact (Grown i) (λ f. f) (count_enable i (count_below (cells_of i)) held g kind) (enable_kind i (control_below (cells_of i)) held g kind) (enable_kind j (control_below (cells_of j)) twin g kind)
    of_kind g kinds.Plain known is =
        subst (λ o. Carries Exact (Grown i) (λ f. f) (count_call_or_turns i (count_below (cells_of i)) held g (called i g)) (call_or_turns i (control_below (cells_of i)) held g (called i g)) (call_or_turns j (control_below (cells_of j)) twin g o))
        (sym (same_called d design accepted grown_accepted m k at g known.there)) (of_call g kinds.Plain known.there is refl (called i g) refl)
    of_kind g kinds.Comb known is =
        subst (λ o. Carries Exact (Grown i) (λ f. f) (count_call_or_turns i (count_below (cells_of i)) held g (called i g)) (call_or_turns i (control_below (cells_of i)) held g (called i g)) (call_or_turns j (control_below (cells_of j)) twin g o))
        (sym (same_called d design accepted grown_accepted m k at g known.there)) (of_call g kinds.Comb known.there is refl (called i g) refl)
    of_kind g (kinds.Timed length) known is =
        let plain : is_comb (group_at node g).kind ≡ false = ap is_comb is in
        let r = known.enabled plain in
        of_island Dynamic (Enable g) (r.0, r.1, enabled_form r.0.form g r.2) (record { groups = λ h inside. ⊎_elim (λ e. subst IsKnown e known) (λ none. absurd none) inside; forms = λ v inside. absurd inside })

    leaves_carry : LeavesCarry Exact (Grown i) (λ f. f) L C M mv IsKnown IsOurs
    leaves_carry = record {
      rests = rests d design accepted grown_accepted m k at;
      merges = λ done arm later ours.
          arms_merge d design accepted m k at (control_below (cells_of i)) (count_below (cells_of i)) held ours.0 ours.1 done arm later ours.2 (control_below (cells_of j)) twin;
      enable = λ g known.
          subst (λ kind. Carries Exact (Grown i) (λ f. f) (C.enable g) (L.enable g) (enable_kind j (control_below (cells_of j)) twin g kind)) (sym (same_kind d design accepted grown_accepted m k at g known.there))
          (of_kind g (group_at node g).kind known refl);
      test = λ form p comb is ours there τ s t grown.
          test_leaf d design accepted grown_accepted m k at entries_there further held twin same p.port comb (test_inside form p ours is) (λ g e. (there g e).there) τ s t grown;
      island = λ context form ours holds. of_island context form ours holds;
      timed = λ x before s z n u room r. refl;
    }

    -- THE CONTROL
    pub control_carries : Carries Exact (Grown i) (λ f. f) (count_control i held) (run_control i held) (run M (moved_statement mv node.control))
    control_carries =
        moved_carries Exact (Grown i) (λ f. f) L C M mv IsKnown IsOurs leaves_carry Dynamic node.control
        (record { groups = λ g inside. statement_known node Dynamic Dynamic node.control g (all_forms d design accepted m k at) inside; forms = λ v inside. (v, inside, refl) })

  -- OF A CHILD
  pub child_control : (m : ℕ) → KidsControl m
  child_control zero e at other held twin same = absurd at.deep_enough
  child_control (suc m) e at other held twin same = by (child_control m) (role d e at.within)
    where
      both : (b : Bool) → b ≡ true → b ≡ false → ⊥
      both true e f = absurd (cc)
      both false e f = absurd (cc)

      size : (names : List (List ℕ)) → component_at (with_counts d) e ≡ child_component d e names → length (component_at (with_counts d) e).cells ≡ length (component_at d e).cells + 2 * length (counters (component_of d e))
      size names is =
          ap (λ x. length x.cells) is ∙ length-append (component_at d e).cells (counter_cells (component_at d e).place names 0 (length (counters (component_of d e))))
          ∙ ap (λ n. length (component_at d e).cells + n) (counter_cells-length (component_at d e).place names 0 (length (counters (component_of d e))))

      none_further : (names : List (List ℕ)) → component_at (with_counts d) e ≡ child_component d e names → (act : Active) → ActsWithin (component_at d e) act → IsAcyclic (tree_within (with_counts d) (suc m) e) act → (twin : Held) (t : State) (c : ℕ)
          → length (component_at d e).cells + 2 * length (counters (component_of d e)) ≤ c → c < length (component_at (with_counts d) e).cells
          → (after : CellState) × (comes_to (tree_within (with_counts d) (suc m) e) twin act t c ≡ Next after)
      none_further names is act acts acyclic twin t c past less =
          absurd (let count : length (component_at (with_counts d) e).cells ≡ length (component_at d e).cells + 2 * length (counters (component_of d e)) = size names is in omega (arith, past, less, count))

      by : KidsControl m → Role d e → Carries Exact (Grown (tree_within d (suc m) e)) (λ f. f) (count_control (tree_within d (suc m) e) held) (run_control (tree_within d (suc m) e) held) (run_control (tree_within (with_counts d) (suc m) e) twin)
      by kids (as_main names main is) = absurd (other main)
      by kids (as_kept main r is) = absurd (both (is_reached d e) (in_reach d at) r)
      by kids (as_child names main r is) =
          subst (λ statement. Carries Exact (Grown (tree_within d (suc m) e)) (λ f. f) (count_control (tree_within d (suc m) e) held) (run_control (tree_within d (suc m) e) held)
          (run (leaves (tree_within (with_counts d) (suc m) e) (control_below (cells_of (tree_within (with_counts d) (suc m) e))) twin) statement)) (sym (ap (λ x. x.control) is))
          (control_carries m e at (λ act acts acyclic. child_acyclic d design m e at act names is acyclic) (none_further names is) kids held twin same)
