-- THE STORES leave static components as they are: a cycle in which nothing of a settled static child is done changes nothing of it.
use Rattle.std.proofs.Common.{◌≡◌, ℕ, zero, suc, ◌+◌, ◌≤◌, Bool, true, false, if◌then◌else◌, List, [], ◌∷◌, length, Some, slice_get, refl, sym, ap, ◌∙◌, subst, arith}
use Rattle.std.proofs.Math.Path.{fun_ext}
use Rattle.cx_prim.specs.CellStates.{CellState}
use Rattle.cx_meaning.specs.Truths.{truth_of}
use Rattle.cx_meaning.specs.Designs.{PlainGroup, PlainComponent, PlainDesign, component_at, group_at}
use Rattle.cx_meaning.specs.Instances.{Instance, Cells, no_cells, a_primitive, an_instance, At, Nothing, OfRow, OfInstance, cell_at, cell_count, cells_of, Path, State, under, put, just, idle, idle_at, idle_below, IsSettled, instance_at, tree_within}
use Rattle.cx_meaning.specs.Active.{group, entries}
use Rattle.cx_meaning.specs.Sights.{Look, Held, unheld, seen}
use Rattle.cx_meaning.specs.Cycles.{Next, outcome_at, stepped, unless_fault, Goes, cycle}
use Rattle.cx_meaning.specs.Answers.{End, turns_of, turn_then, after_turns}
use Rattle.cx_meaning.specs.Answers as answers
use Rattle.cx_meaning.specs.Islands.{turn_of}
use Rattle.cx_meaning.specs.Calls.{hole_turn}
use Rattle.cx_meaning.specs.Running.{Children}
use Rattle.cx_meaning.proofs.InstancesLemmas.{instance_is, row_instance, nothing_instance, just_true, child_is}
use Rattle.cx_rules.specs.Ports.{component_of}
use Rattle.cx_rules.specs.Accepted.{IsAccepted}
use Rattle.cx_rules.specs.Wellformed.{IsDesign}
use Rattle.cx_frames.proofs.EnableLemmas.{tree_lawful, BareEnablesNothing}
use Rattle.cx_frames.proofs.CycleLemmas.{idle_at-row, undriven_idles}
use Rattle.cx_rewrites.specs.Tallies.{Tally}
use Rattle.cx_rewrites.specs.Cells.{comes_to, left_by}
use Rattle.cx_flattening.specs.Deeds.{held_below}
use Rattle.cx_flattening.specs.Whole.{is_static, with_child, child_if, whole_cycle, cycles_below, group_turn, call_or_turns, enable_kind}
use Rattle.cx_profiling.specs.Counters.{Shown, shown_in}
use Rattle.cx_profiling.specs.Instrumented.{main_component, with_counts}
use Rattle.cx_profiling.proofs.ListedCells.{CellIs, is_none, is_primitive, is_component, cell_is, at_none, at_row, at_component}
use Rattle.cx_profiling.proofs.GrownTrees.{InTree}
use Rattle.cx_profiling.proofs.StoreDrives.{store_group}
use Rattle.cx_profiling.proofs.StoreLemmas.{none_stops, Between, cycle_goes, done_before, done_after, no_call}

idle_child : (cells : Cells) (c : ℕ) (child : Instance) → cell_at cells c ≡ OfInstance child → (path : Path) (x : CellState) → idle_below cells c path x ≡ idle_at child path x
idle_child no_cells c child e path x = absurd (nothing_instance child e)
idle_child (a_primitive row rest) zero child e path x = absurd (row_instance row child e)
idle_child (a_primitive row rest) (suc c) child e path x = idle_child rest c child e path x
idle_child (an_instance other rest) zero child e path x = ap (λ y. idle_at y path x) (instance_is other child e)
idle_child (an_instance other rest) (suc c) child e path x = idle_child rest c child e path x

-- a child's state put back where it stood
put_same : (c : ℕ) (own a : State) → ((path : Path) → own path ≡ a (c ∷ path)) → put c own a ≡ a
put_same c own a same = fun_ext by
  where
    one : (e : ℕ) (path : Path) (b : Bool) → just c e ≡ b → (if b then own path else a (e ∷ path)) ≡ a (e ∷ path)
    one e path true h = same path ∙ ap (λ x. a (x ∷ path)) (just_true c e h)
    one e path false h = refl

    by : (path : Path) → put c own a path ≡ a path
    by [] = refl
    by (e ∷ path) = one e path (just c e) refl

-- STATIC CHILDREN that change nothing
still_children : (cells : Cells) (from : ℕ) (look : Look) (s a : State)
    → ((c : ℕ) (child : Instance) → cell_at cells c ≡ OfInstance child → is_static child ≡ true → whole_cycle child (held_below look (from + c) []) (entries []) [] (under (from + c) s) ≡ Goes (under (from + c) s))
    → ((c : ℕ) (child : Instance) → cell_at cells c ≡ OfInstance child → (path : Path) → a ((from + c) ∷ path) ≡ s ((from + c) ∷ path)) → cycles_below cells from look [] s (Goes a) ≡ Goes a
still_children no_cells from look s a kids same = refl
still_children (a_primitive row rest) from look s a kids same =
    still_children rest (suc from) look s a
    (λ c child e static. subst (λ n. whole_cycle child (held_below look n []) (entries []) [] (under n s) ≡ Goes (under n s)) (next from c) (kids (suc c) child e static))
    (λ c child e path. subst (λ n. a (n ∷ path) ≡ s (n ∷ path)) (next from c) (same (suc c) child e path))
  where
    next : (x y : ℕ) → x + suc y ≡ suc x + y
    next x y = omega arith
still_children (an_instance child rest) from look s a kids same =
    ap (λ o. cycles_below rest (suc from) look [] s o) (by (is_static child) refl)
    ∙ still_children rest (suc from) look s a
    (λ c x e static. subst (λ n. whole_cycle x (held_below look n []) (entries []) [] (under n s) ≡ Goes (under n s)) (next from c) (kids (suc c) x e static))
    (λ c x e path. subst (λ n. a (n ∷ path) ≡ s (n ∷ path)) (next from c) (same (suc c) x e path))
  where
    next : (x y : ℕ) → x + suc y ≡ suc x + y
    next x y = omega arith

    first : (x : ℕ) → x + 0 ≡ x
    first x = omega arith

    by : (b : Bool) → is_static child ≡ b → child_if b from (Goes a) (whole_cycle child (held_below look from []) (entries []) [] (under from s)) ≡ Goes a
    by false e = refl
    by true e =
        ap (with_child from (Goes a)) (subst (λ n. whole_cycle child (held_below look n []) (entries []) [] (under n s) ≡ Goes (under n s)) (first from) (kids 0 child refl e))
        ∙ ap Goes (put_same from (under from s) a (λ path. sym (subst (λ n. a (n ∷ path) ≡ s (n ∷ path)) (first from) (same 0 child refl path))))

-- A SETTLED TREE in which nothing is done
module _ (g : PlainDesign) where
  module _ (m e : ℕ) (bare : BareEnablesNothing (tree_within g m e)) (held : Held) (u : State) (settled : IsSettled (tree_within g m e) u) where
    abbrev i : Instance
    i = tree_within g m e

    next_is : (c : ℕ) → comes_to i held (entries []) u c ≡ Next (u (c ∷ []))
    next_is c = by (cell_at (cells_of i) c) refl
      where
        by : (x : At) → cell_at (cells_of i) c ≡ x → comes_to i held (entries []) u c ≡ Next (u (c ∷ []))
        by Nothing at = ap (λ a. outcome_at (seen i held (entries []) u) c a (u (c ∷ []))) at
        by (OfRow r) at =
            ap (λ a. outcome_at (seen i held (entries []) u) c a (u (c ∷ []))) at
            ∙ undriven_idles i (tree_lawful g m e) bare held (entries []) u c (λ h driven. refl) r at ∙ ap Next (sym (idle_at-row i c r (u (c ∷ [])) at) ∙ settled (c ∷ []))
        by (OfInstance child) at = ap (λ a. outcome_at (seen i held (entries []) u) c a (u (c ∷ []))) at

    left_same : left_by i held (entries []) u ≡ u
    left_same = fun_ext by
      where
        by : (path : Path) → left_by i held (entries []) u path ≡ u path
        by [] = refl
        by (c ∷ []) = ap (stepped (u (c ∷ []))) (next_is c)
        by (c ∷ x ∷ path) = refl

    cycle_still : cycle i held (entries []) u ≡ Goes u
    cycle_still =
        ap (λ f. unless_fault f (left_by i held (entries []) u)) (none_stops (comes_to i held (entries []) u) 0 (cell_count (cells_of i)) (λ c past less. (u (c ∷ []), next_is c)))
        ∙ ap Goes left_same

  pub still_tree : (m e : ℕ) → ((path : Path) → BareEnablesNothing (instance_at (tree_within g m e) path)) → (held : Held) (u : State) → IsSettled (tree_within g m e) u → whole_cycle (tree_within g m e) held (entries []) [] u ≡ Goes u
  still_tree zero e bare held u settled = cycle_still zero e (bare []) held u settled
  still_tree (suc m) e bare held u settled =
      ap (λ o. cycles_below (cells_of (tree_within g (suc m) e)) 0 (seen (tree_within g (suc m) e) held (entries []) u) [] u o) (cycle_still (suc m) e (bare []) held u settled)
      ∙ still_children (cells_of (tree_within g (suc m) e)) 0 (seen (tree_within g (suc m) e) held (entries []) u) u u
      (λ c child at static. by (λ x inner h v calm. still_tree m x inner h v calm) c child at (cell_is (component_at g e).cells c)) (λ c child at path. refl)
    where
      by : ((x : ℕ) → ((path : Path) → BareEnablesNothing (instance_at (tree_within g m x) path)) → (h : Held) (v : State) → IsSettled (tree_within g m x) v → whole_cycle (tree_within g m x) h (entries []) [] v ≡ Goes v)
          → (c : ℕ) (child : Instance) → cell_at (cells_of (tree_within g (suc m) e)) c ≡ OfInstance child → CellIs (component_at g e).cells c
          → whole_cycle child (held_below (seen (tree_within g (suc m) e) held (entries []) u) (0 + c) []) (entries []) [] (under (0 + c) u) ≡ Goes (under (0 + c) u)
      by each c child at (is_none none) = absurd (nothing_instance child (sym (at_none (tree_within g m) (component_at g e).cells c none) ∙ at))
      by each c child at (is_primitive cell p stands is) = absurd (row_instance _ child (sym (at_row (tree_within g m) (component_at g e).cells c cell p stands is) ∙ at))
      by each c child at (is_component cell x stands is) =
          let same : tree_within g m x ≡ child = instance_is (tree_within g m x) child (sym (at_component (tree_within g m) (component_at g e).cells c cell x stands is) ∙ at) in
          let number : c ≡ 0 + c = omega arith in
          subst (λ n. whole_cycle child (held_below (seen (tree_within g (suc m) e) held (entries []) u) n []) (entries []) [] (under n u) ≡ Goes (under n u)) number
          (subst (λ y. whole_cycle y (held_below (seen (tree_within g (suc m) e) held (entries []) u) c []) (entries []) [] (under c u) ≡ Goes (under c u)) same
          (each x (λ path. subst BareEnablesNothing (child_is (cells_of (tree_within g (suc m) e)) c (tree_within g m x) (at ∙ ap OfInstance (sym same)) path) (bare (c ∷ path)))
          (held_below (seen (tree_within g (suc m) e) held (entries []) u) c []) (under c u)
          (λ path. sym (idle_child (cells_of (tree_within g (suc m) e)) c (tree_within g m x) (at ∙ ap OfInstance (sym same)) path (u (c ∷ path))) ∙ settled (c ∷ path))))

module _ (d : PlainDesign) (design : IsDesign d) (accepted : IsAccepted d) (grown_accepted : IsAccepted (with_counts d)) (m k : ℕ) (at : InTree d (suc m) k)
    (names : List (List ℕ)) (is : component_at (with_counts d) k ≡ main_component d k names) (bare : (path : Path) → BareEnablesNothing (instance_at (tree_within (with_counts d) (suc m) k) path))
    (some : 1 ≤ length (shown_in (component_of d k)))
    (n : ℕ) (x : Shown) (listed : slice_get (shown_in (component_of d k)) n ≡ Some x) (words : List ℕ) (τ : Tally) (s u : State) (between : Between d design accepted grown_accepted m k at names is (bare []) some words τ s u) where
  abbrev node : PlainComponent
  node = component_at d k

  abbrev j : Instance
  j = tree_within (with_counts d) (suc m) k

  abbrev g : ℕ
  g = length node.groups + n

  abbrev left : State
  left = left_by j unheld (group g) u

  -- the cycle of a store
  whole_goes : whole_cycle j unheld (group g) [] u ≡ Goes left
  whole_goes =
      ap (λ o. cycles_below (cells_of j) 0 (seen j unheld (group g) u) [] u o) (cycle_goes d design accepted grown_accepted m k at names is (bare []) some n x listed words τ s u between)
      ∙ still_children (cells_of j) 0 (seen j unheld (group g) u) u left (λ c child here static. by c child here (cell_is (component_at (with_counts d) k).cells c))
      (λ c child here path. same c child here path)
    where
      by : (c : ℕ) (child : Instance) → cell_at (cells_of j) c ≡ OfInstance child → CellIs (component_at (with_counts d) k).cells c
          → whole_cycle child (held_below (seen j unheld (group g) u) (0 + c) []) (entries []) [] (under (0 + c) u) ≡ Goes (under (0 + c) u)
      by c child here (is_none none) = absurd (nothing_instance child (sym (at_none (tree_within (with_counts d) m) (component_at (with_counts d) k).cells c none) ∙ here))
      by c child here (is_primitive cell p stands kind) = absurd (row_instance _ child (sym (at_row (tree_within (with_counts d) m) (component_at (with_counts d) k).cells c cell p stands kind) ∙ here))
      by c child here (is_component cell e stands kind) =
          let same_child : tree_within (with_counts d) m e ≡ child = instance_is (tree_within (with_counts d) m e) child (sym (at_component (tree_within (with_counts d) m) (component_at (with_counts d) k).cells c cell e stands kind) ∙ here) in
          let number : c ≡ 0 + c = omega arith in
          subst (λ q. whole_cycle child (held_below (seen j unheld (group g) u) q []) (entries []) [] (under q u) ≡ Goes (under q u)) number
          (subst (λ y. whole_cycle y (held_below (seen j unheld (group g) u) c []) (entries []) [] (under c u) ≡ Goes (under c u)) same_child
          (still_tree (with_counts d) m e (λ path. subst BareEnablesNothing (child_is (cells_of j) c (tree_within (with_counts d) m e) (here ∙ ap OfInstance (sym same_child)) path) (bare (c ∷ path)))
          (held_below (seen j unheld (group g) u) c []) (under c u)
          (λ path. sym (idle_child (cells_of j) c (tree_within (with_counts d) m e) (here ∙ ap OfInstance (sym same_child)) path (u (c ∷ path))) ∙ between.settled (c ∷ path))))

      same : (c : ℕ) (child : Instance) → cell_at (cells_of j) c ≡ OfInstance child → (path : Path) → left ((0 + c) ∷ path) ≡ u ((0 + c) ∷ path)
      same c child here (y ∷ path) = refl
      same c child here [] =
          let number : c ≡ 0 + c = omega arith in
          subst (λ q. left (q ∷ []) ≡ u (q ∷ [])) number (ap (stepped (u (c ∷ []))) (ap (λ a. outcome_at (seen j unheld (group g) u) c a (u (c ∷ []))) here))

  first_turn : group_turn j unheld g u ≡ answers.Goes left
  first_turn =
      ap (λ y. hole_turn g (whole_cycle j unheld (group g) [] u) (truth_of y)) (done_before d design accepted grown_accepted m k at names is (bare []) some n x listed words τ s u between)
      ∙ ap turn_of whole_goes

  second_turn : group_turn j unheld g left ≡ answers.Ends
  second_turn = ap (λ y. hole_turn g (whole_cycle j unheld (group g) [] left) (truth_of y)) (done_after d design accepted grown_accepted m k at names is (bare []) some n x listed words τ s u between)

  two_turns : (b : ℕ) → turns_of (idle j) (group_turn j unheld g) u (suc (suc b)) ≡ End (idle j left) 2
  two_turns b =
      ap (λ t. turn_then (idle j) u t (λ a. turns_of (idle j) (group_turn j unheld g) a (suc b))) first_turn
      ∙ ap (λ t. after_turns 1 (turn_then (idle j) left t (λ a. turns_of (idle j) (group_turn j unheld g) a b))) second_turn

  -- A STORE IN TWO TURNS
  pub whole_store_runs : (children : Children) (b : ℕ) → enable_kind j children unheld g (group_at (component_at (with_counts d) k) g).kind u (suc (suc b)) ≡ End (idle j left) 2
  whole_store_runs children b =
      let r = store_group d design k at.within names is n x listed in
      ap (λ (y : PlainGroup). enable_kind j children unheld g y.kind u (suc (suc b))) r.1
      ∙ ap (λ o. call_or_turns j children unheld g o u (suc (suc b))) (no_call d design accepted grown_accepted m k at names is (bare []) some n x listed words τ s u between) ∙ two_turns b
