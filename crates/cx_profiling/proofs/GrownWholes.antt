-- A CYCLE OF THE INSTRUMENTED INSTANCE with its static children beside that of the instance: the same fault, or the same step with one more
-- for each counter, at every level, whose group acts.
use Rattle.std.proofs.Common.{◌≡◌, ℕ, zero, suc, ◌+◌, ◌*◌, ◌<◌, ◌≤◌, inl, inr, ◌⊎◌, ⊎_elim, Bool, true, false, nat_eq, nat_lt, if◌then◌else◌, List, [], ◌∷◌, ◌++◌, length, map, Some, slice_get, is_some, refl, sym, ap, ◌∙◌, subst, arith}
use Rattle.std.proofs.Math.Path.{fun_ext}
use Rattle.std.proofs.lemmas.Option.{slice_get_within}
use Rattle.std.proofs.lemmas.List.{length-append}
use Rattle.std.proofs.lemmas.Bool.{lt-ltb, le-ltb, eq-eqb, ne_eqb, cases_eq, cases_lt}
use Rattle.cx_text.proofs.MemberLaws.{in_at}
use Rattle.cx_text.specs.Members.{In}
use Rattle.cx_text.specs.declared.places.Place.{Place}
use Rattle.cx_prim.specs.CellStates.{CellState}
use Rattle.cx_prim.specs.Table.{PrimitiveRow, row_of}
use Rattle.cx_prim.specs.declared.names.PrimitiveName.TheVariants as primitives
use Rattle.cx_meaning.specs.declared.ports.PortRef.{PortRef}
use Rattle.cx_meaning.specs.Designs.{PlainKind, OfPrimitive, OfComponent, PlainCell, PlainComponent, PlainDesign, component_at}
use Rattle.cx_meaning.specs.Instances.{Instance, OfInstance, add_cell, cells_for, cell_at, cells_of, part_of, Path, State, under, put, tree_within}
use Rattle.cx_meaning.specs.Active.{Active, entries}
use Rattle.cx_meaning.specs.Sights.{Look, Held, seen}
use Rattle.cx_meaning.specs.Cycles.{Next, Ended, Goes, Faults, cycle}
use Rattle.cx_meaning.specs.Islands.{turn_of}
use Rattle.cx_meaning.proofs.DesignsLemmas.{same_part}
use Rattle.cx_meaning.proofs.InstancesLemmas.{instance_is, row_instance}
use Rattle.cx_rules.specs.Circles.{IsAcyclic}
use Rattle.cx_rules.specs.Ports.{component_of}
use Rattle.cx_rules.specs.Accepted.{IsAccepted}
use Rattle.cx_rules.specs.Wellformed.{IsDesign}
use Rattle.cx_rewrites.specs.Tallies.{Tally, plus, at_cell, below}
use Rattle.cx_rewrites.specs.Carrying.{Exact, TurnCarried}
use Rattle.cx_rewrites.specs.Cells.{comes_to}
use Rattle.cx_rewrites.specs.Moving.{moved_assign}
use Rattle.cx_flattening.specs.Events.{the_invoke, source_to}
use Rattle.cx_flattening.specs.Deeds.{Deed, own_entries, deeds_below, held_below}
use Rattle.cx_flattening.specs.Seeing.{NoCircle}
use Rattle.cx_flattening.specs.Whole.{is_static, with_child, child_if, whole_cycle, cycles_below}
use Rattle.cx_profiling.specs.Counters.{shown_in, counters}
use Rattle.cx_profiling.specs.Counting.{once, made_with}
use Rattle.cx_profiling.specs.WholeCounting.{done_with}
use Rattle.cx_profiling.specs.Growing.{Grown}
use Rattle.cx_profiling.specs.Instrumented.{is_reached, address_width, name_at, counter_cells, memory_cell, moved_in, child_component, with_counts}
use Rattle.cx_profiling.proofs.ListedCells.{at_row, at_component}
use Rattle.cx_profiling.proofs.CounterLemmas.{counter_cells-length}
use Rattle.cx_profiling.proofs.RoleLemmas.{Role, as_main, as_child, as_kept, role}
use Rattle.cx_profiling.proofs.GrownLemmas.{grown_numbers}
use Rattle.cx_profiling.proofs.GrownTrees.{InTree, in_reach, child_in_tree, no_main_below}
use Rattle.cx_profiling.proofs.AcyclicLemmas.{ActsWithin, child_few, child_acyclic}
use Rattle.cx_profiling.proofs.GrownCycles.{grown_kid}
use Rattle.cx_profiling.proofs.LeafLemmas.{put_grown, found, cycles}
use Rattle.cx_profiling.proofs.BareCounts.{nothing_done}
use Rattle.cx_profiling.proofs.GrownDeeds.{moved_deed, own-moved, below-moved, held-moved}
use Rattle.cx_profiling.proofs.GrownEvents.{moved_at, moved-child, SpotIn, ActIn, FedIn, in_got, source_follows}
use Rattle.cx_profiling.proofs.DeedsBelow.{DeedsIn, deeds_in_child, nothing_below, own_within, none_at}

-- an ended cycle beside another
abbrev pub EndedAs : (State → State → Type 0) → Ended → Ended → Type 0
EndedAs R (Goes a) x = (z : State) × (x ≡ Goes z) × R a z
EndedAs R (Faults f) x = x ≡ Faults f

pub ended_turn : (R : Tally → State → State → Type 0) (τ one : Tally) (o x : Ended) → EndedAs (R (plus τ one)) o x → TurnCarried Exact R (λ f. f) τ one (turn_of o) (turn_of x)
ended_turn R τ one (Goes a) x (z, e, r) = (z, ap turn_of e, r)
ended_turn R τ one (Faults f) x e = ap turn_of e

turn_ended : (R : Tally → State → State → Type 0) (τ one : Tally) (o x : Ended) → TurnCarried Exact R (λ f. f) τ one (turn_of o) (turn_of x) → EndedAs (R (plus τ one)) o x
turn_ended R τ one (Goes a) (Goes b) (z, e, r) = let same : b ≡ z = cc in (z, ap Goes same, r)
turn_ended R τ one (Goes a) (Faults f) (z, e, r) = absurd (cc)
turn_ended R τ one (Faults f) (Goes b) e = absurd (cc)
turn_ended R τ one (Faults f) (Faults g) e = let same : g ≡ f = cc in ap Faults same

pub ended_more : (R Q : State → State → Type 0) (o x : Ended) → ((a z : State) → R a z → Q a z) → EndedAs R o x → EndedAs Q o x
ended_more R Q (Goes a) x h (z, e, r) = (z, e, h a z r)
ended_more R Q (Faults f) x h e = e

-- cells of primitives
abbrev ArePrimitive : List PlainCell → Type 0
ArePrimitive list = (cell : PlainCell) (k : ℕ) → In list cell → cell.kind ≡ OfComponent k → ⊥

no_component : (kind : PlainKind) (p : PrimitiveRow) (k : ℕ) → OfPrimitive p ≡ kind → kind ≡ OfComponent k → ⊥
no_component kind p k e f = apart (e ∙ f)
  where
    apart : OfPrimitive p ≡ OfComponent k → ⊥
    apart h = absurd cc

counters_primitive : (place : Place) (names : List (List ℕ)) (n k : ℕ) → ArePrimitive (counter_cells place names n k)
counters_primitive place names n zero cell j i e = i
counters_primitive place names n (suc k) cell j (inl same) e = no_component cell.kind (record { name = primitives.Reg; numbers = 64 ∷ [] }) j (ap (λ (c : PlainCell). c.kind) same) e
counters_primitive place names n (suc k) cell j (inr (inl same)) e = no_component cell.kind (record { name = primitives.Add; numbers = 64 ∷ [] }) j (ap (λ (c : PlainCell). c.kind) same) e
counters_primitive place names n (suc k) cell j (inr (inr i)) e = counters_primitive place names (suc (suc n)) k cell j i e

both_primitive : (xs ys : List PlainCell) → ArePrimitive xs → ArePrimitive ys → ArePrimitive (xs ++ ys)
both_primitive [] ys h g cell k i e = g cell k i e
both_primitive (x ∷ xs) ys h g cell k (inl same) e = h cell k (inl same) e
both_primitive (x ∷ xs) ys h g cell k (inr i) e = both_primitive xs ys (λ y n j. h y n (inr j)) g cell k i e

memory_primitive : (place : Place) (name : List ℕ) (n : ℕ) → ArePrimitive (memory_cell place name n ∷ [])
memory_primitive place name n cell k (inl same) e = no_component cell.kind (record { name = primitives.StdMemD1; numbers = 64 ∷ n ∷ address_width n ∷ [] }) k (ap (λ (c : PlainCell). c.kind) same) e
memory_primitive place name n cell k (inr i) e = i

-- which do nothing in a cycle of static children
primitives_rest : (trees : ℕ → Instance) (list : List PlainCell) → ArePrimitive list → (c : ℕ) (look : Look) (ds : List Deed) (s : State) (o : Ended) → cycles_below (cells_for trees list) c look ds s o ≡ o
primitives_rest trees [] none c look ds s o = refl
primitives_rest trees (cell ∷ list) none c look ds s o = by cell.kind refl (primitives_rest trees list (λ x k i. none x k (inr i)) (suc c) look ds s o)
  where
    by : (kind : PlainKind) → cell.kind ≡ kind → cycles_below (cells_for trees list) (suc c) look ds s o ≡ o → cycles_below (add_cell trees kind (cells_for trees list)) c look ds s o ≡ o
    by (OfPrimitive p) e rest = rest
    by (OfComponent k) e rest = absurd (none cell k (inl refl) e)

module _ (d : PlainDesign) (design : IsDesign d) (accepted : IsAccepted d) (grown_accepted : IsAccepted (with_counts d)) where
  -- the cells of a component that has an instance, and those that it gains
  pub gained_cells : (k : ℕ) → k < length d.components → (more : List PlainCell) × ((component_at (with_counts d) k).cells ≡ (component_at d k).cells ++ more) × ArePrimitive more
  gained_cells k within = by (role d k within)
    where
      own : List (List ℕ) → List PlainCell
      own names = counter_cells (component_at d k).place names 0 (length (counters (component_of d k)))

      memory : List (List ℕ) → PlainCell
      memory names = memory_cell (component_at d k).place (name_at names (2 * length (counters (component_of d k)))) (length (shown_in (component_of d k)))

      no_more : (xs : List PlainCell) → xs ≡ xs ++ []
      no_more [] = refl
      no_more (x ∷ xs) = ap (λ list. x ∷ list) (no_more xs)

      by : Role d k → (more : List PlainCell) × ((component_at (with_counts d) k).cells ≡ (component_at d k).cells ++ more) × ArePrimitive more
      by (as_main names same is) = (
        own names ++ memory names ∷ [],
        ap (λ (x : PlainComponent). x.cells) is,
        both_primitive (own names) (memory names ∷ []) (counters_primitive (component_at d k).place names 0 (length (counters (component_of d k))))
            (memory_primitive (component_at d k).place (name_at names (2 * length (counters (component_of d k)))) (length (shown_in (component_of d k)))),
      )
      by (as_child names differ reached is) = (own names, ap (λ (x : PlainComponent). x.cells) is, counters_primitive (component_at d k).place names 0 (length (counters (component_of d k))))
      by (as_kept differ reached is) = ([], ap (λ (x : PlainComponent). x.cells) is ∙ no_more (component_at d k).cells, λ cell j i e. i)

  -- what is static stays so
  pub static_kept : (m e : ℕ) → e < length d.components → is_static (tree_within (with_counts d) m e) ≡ is_static (tree_within d m e)
  static_kept m e within =
      ap (λ (x : PlainComponent). is_some x.latency) (same_part (with_counts d) m e) ∙ ap is_some (by (role d e within)) ∙ sym (ap (λ (x : PlainComponent). is_some x.latency) (same_part d m e))
    where
      by : Role d e → (component_at (with_counts d) e).latency ≡ (component_at d e).latency
      by (as_main names same is) = ap (λ (x : PlainComponent). x.latency) is
      by (as_child names differ reached is) = ap (λ (x : PlainComponent). x.latency) is
      by (as_kept differ reached is) = ap (λ (x : PlainComponent). x.latency) is

  -- THE CHILDREN of so many levels
  abbrev pub KidsWhole : ℕ → Type 0
  KidsWhole m = (e : ℕ) → InTree d m e → (e ≡ d.main → ⊥) → (held twin : Held) → ((n : ℕ) → n < length (component_at d e).inputs → twin n ≡ held n) → (ds : List Deed)
      → NoCircle (tree_within d m e) (entries (own_entries ds)) ds → DeedsIn d (tree_within d m e) ds → (τ : Tally) (s t : State) → Grown (tree_within d m e) τ s t
      → EndedAs (Grown (tree_within d m e) (plus τ (done_with ds))) (whole_cycle (tree_within d m e) held (entries (own_entries ds)) ds s)
      (whole_cycle (tree_within (with_counts d) m e) twin (entries (own_entries ds)) (map (moved_deed (moved_at d (tree_within d m e))) ds) t)

  module _ (m k : ℕ) (at : InTree d (suc m) k)
      (entries_there : (act : Active) → ActsWithin (component_at d k) act → IsAcyclic (tree_within d (suc m) k) act → IsAcyclic (tree_within (with_counts d) (suc m) k) act)
      (further : (act : Active) → ActsWithin (component_at d k) act → IsAcyclic (tree_within (with_counts d) (suc m) k) act → (twin : Held) (t : State) (e : ℕ)
      → length (component_at d k).cells + 2 * length (counters (component_of d k)) ≤ e → e < length (component_at (with_counts d) k).cells
      → (after : CellState) × (comes_to (tree_within (with_counts d) (suc m) k) twin act t e ≡ Next after))
      (kids : KidsWhole m) (held twin : Held) (same : (n : ℕ) → n < length (component_at d k).inputs → twin n ≡ held n) where
    abbrev node : PlainComponent
    node = component_at d k

    abbrev i : Instance
    i = tree_within d (suc m) k

    abbrev j : Instance
    j = tree_within (with_counts d) (suc m) k

    module _ (act : Active) (acts : ActsWithin node act) (ds : List Deed) (calm : NoCircle i act ds) (known : DeedsIn d i ds) (τ : Tally) (s t : State) (grown : Grown i τ s t) where
      abbrev look : Look
      look = seen i held act s

      abbrev look_there : Look
      look_there = seen j twin act t

      abbrev twins : List Deed
      twins = map (moved_deed (moved_at d i)) ds

      -- counted with the cells before c
      abbrev count_to : ℕ → Tally
      count_to c [] g = τ [] g + once (act.offset g)
      count_to c (e ∷ path) g = τ (e ∷ path) g + (if nat_lt e c then done_with (deeds_below e ds) path g else 0)

      next_count : (c : ℕ) (path : Path) (g : ℕ) → plus (count_to c) (below c (done_with (deeds_below c ds))) path g ≡ count_to (suc c) path g
      next_count c [] g = omega arith
      next_count c (e ∷ path) g = by (cases_lt e c) (cases_eq c e)
        where
          by : (e < c) ⊎ (c ≤ e) → (c ≡ e) ⊎ (c ≡ e → ⊥)
              → (τ (e ∷ path) g + (if nat_lt e c then done_with (deeds_below e ds) path g else 0)) + (if nat_eq c e then done_with (deeds_below c ds) path g else 0)
              ≡ τ (e ∷ path) g + (if nat_lt e (suc c) then done_with (deeds_below e ds) path g else 0)
          by (inl less) u =
              ap (λ b. (τ (e ∷ path) g + (if b then done_with (deeds_below e ds) path g else 0)) + (if nat_eq c e then done_with (deeds_below c ds) path g else 0)) (lt-ltb e c less)
              ∙ ap (λ b. (τ (e ∷ path) g + done_with (deeds_below e ds) path g) + (if b then done_with (deeds_below c ds) path g else 0)) (ne_eqb c e (λ h. omega (arith, less, h)))
              ∙ (let none : (τ (e ∷ path) g + done_with (deeds_below e ds) path g) + 0 ≡ τ (e ∷ path) g + done_with (deeds_below e ds) path g = omega arith in none)
              ∙ ap (λ b. τ (e ∷ path) g + (if b then done_with (deeds_below e ds) path g else 0)) (sym (lt-ltb e (suc c) (omega (arith, less))))
          by (inr past) (inl equal) =
              ap (λ b. (τ (e ∷ path) g + (if b then done_with (deeds_below e ds) path g else 0)) + (if nat_eq c e then done_with (deeds_below c ds) path g else 0)) (le-ltb e c past)
              ∙ ap (λ b. (τ (e ∷ path) g + 0) + (if b then done_with (deeds_below c ds) path g else 0)) (eq-eqb c e equal)
              ∙ ap (λ x. (τ (e ∷ path) g + 0) + done_with (deeds_below x ds) path g) equal
              ∙ (let none : (τ (e ∷ path) g + 0) + done_with (deeds_below e ds) path g ≡ τ (e ∷ path) g + done_with (deeds_below e ds) path g = omega arith in none)
              ∙ ap (λ b. τ (e ∷ path) g + (if b then done_with (deeds_below e ds) path g else 0)) (sym (lt-ltb e (suc c) (omega (arith, equal))))
          by (inr past) (inr differ) =
              ap (λ b. (τ (e ∷ path) g + (if b then done_with (deeds_below e ds) path g else 0)) + (if nat_eq c e then done_with (deeds_below c ds) path g else 0)) (le-ltb e c past)
              ∙ ap (λ b. (τ (e ∷ path) g + 0) + (if b then done_with (deeds_below c ds) path g else 0)) (ne_eqb c e differ)
              ∙ (let none : (τ (e ∷ path) g + 0) + 0 ≡ τ (e ∷ path) g + 0 = omega arith in none)
              ∙ ap (λ b. τ (e ∷ path) g + (if b then done_with (deeds_below e ds) path g else 0)) (sym (le-ltb e (suc c) (after past differ)))
            where
              after : c ≤ e → (c ≡ e → ⊥) → suc c ≤ e
              after past differ = ⊎_elim (λ less. less) (λ back. absurd (differ (omega (arith, past, back)))) (cases_lt c e)

      quiet_count : (c : ℕ) → deeds_below c ds ≡ [] → (path : Path) (g : ℕ) → count_to c path g ≡ count_to (suc c) path g
      quiet_count c none path g = sym (added path) ∙ next_count c path g
        where
          zero_if : (b : Bool) (p : Path) → (if b then done_with (deeds_below c ds) p g else 0) ≡ 0
          zero_if true p = ap (λ l. done_with l p g) none ∙ nothing_done p g
          zero_if false p = refl

          added : (path : Path) → plus (count_to c) (below c (done_with (deeds_below c ds))) path g ≡ count_to c path g
          added [] = omega arith
          added (e ∷ p) = let nothing : (if nat_eq c e then done_with (deeds_below c ds) p g else 0) ≡ 0 = zero_if (nat_eq c e) p in omega (arith, nothing)

      abbrev Counted : ℕ → Ended → Ended → Type 0
      Counted c o x = EndedAs (Grown i (count_to c)) o x

      skip : (c : ℕ) → deeds_below c ds ≡ [] → (o x : Ended) → Counted c o x → Counted (suc c) o x
      skip c none o x h = ended_more (Grown i (count_to c)) (Grown i (count_to (suc c))) o x (λ a z r. grown_numbers i (count_to c) (count_to (suc c)) a z (quiet_count c none) r) h

      -- A STATIC CHILD after the cells before it
      one_more : (c : ℕ) (child : Instance) → cell_at (cells_of i) c ≡ OfInstance child → (o x own its : Ended) → Counted c o x
          → EndedAs (Grown child (plus (at_cell c τ) (done_with (deeds_below c ds)))) own its → Counted (suc c) (with_child c o own) (with_child c x its)
      one_more c child stands (Faults f) x own its e kid = ap (λ y. with_child c y its) e
      one_more c child stands (Goes a) x (Faults f) its (z, e, r) kid = ap (λ y. with_child c y its) e ∙ ap (with_child c (Goes z)) kid
      one_more c child stands (Goes a) x (Goes b) its (z, e, r) (y, f, q) = (
        put c y z,
        ap (λ w. with_child c w its) e ∙ ap (with_child c (Goes z)) f,
        grown_numbers i (plus (count_to c) (below c (done_with (deeds_below c ds)))) (count_to (suc c)) (put c b a) (put c y z) (next_count c)
            (put_grown d design accepted grown_accepted m k at c child stands (count_to c) (done_with (deeds_below c ds)) a z b y r
            (grown_numbers child (plus (at_cell c τ) (done_with (deeds_below c ds))) (plus (at_cell c (count_to c)) (done_with (deeds_below c ds))) b y before q)),
      )
        where
          before : (path : Path) (g : ℕ) → τ (c ∷ path) g + done_with (deeds_below c ds) path g ≡ (τ (c ∷ path) g + (if nat_lt c c then done_with (deeds_below c ds) path g else 0)) + done_with (deeds_below c ds) path g
          before path g = let none : (if nat_lt c c then done_with (deeds_below c ds) path g else 0) ≡ 0 = ap (λ b. if b then done_with (deeds_below c ds) path g else 0) (le-ltb c c (omega arith)) in omega (arith, none)

      -- its cycle
      kid_grows : (c : ℕ) (cell : PlainCell) (e : ℕ) → c < length node.cells → slice_get node.cells c ≡ Some cell → cell.kind ≡ OfComponent e → is_static (tree_within d m e) ≡ true
          → EndedAs (Grown (tree_within d m e) (plus (at_cell c τ) (done_with (deeds_below c ds))))
          (whole_cycle (tree_within d m e) (held_below look c ds) (entries (own_entries (deeds_below c ds))) (deeds_below c ds) (under c s))
          (whole_cycle (tree_within (with_counts d) m e) (held_below look_there c twins) (entries (own_entries (deeds_below c twins))) (deeds_below c twins) (under c t))
      kid_grows c cell e few stands is static =
          subst (λ l. EndedAs (Grown child (plus (at_cell c τ) (done_with kid_deeds))) (whole_cycle child (held_below look c ds) (entries (own_entries kid_deeds)) kid_deeds (under c s))
          (whole_cycle (tree_within (with_counts d) m e) (held_below look_there c twins) (entries (own_entries l)) l (under c t))) (sym moved_is)
          (subst (λ es. EndedAs (Grown child (plus (at_cell c τ) (done_with kid_deeds))) (whole_cycle child (held_below look c ds) (entries (own_entries kid_deeds)) kid_deeds (under c s))
          (whole_cycle (tree_within (with_counts d) m e) (held_below look_there c twins) (entries es) (map (moved_deed (moved_at d child)) kid_deeds) (under c t))) (sym (own-moved (moved_at d child) kid_deeds))
          (kids e (child_in_tree d design at cell e among is) (no_main_below d design at cell e among is) (held_below look c ds) (held_below look_there c twins) fed kid_deeds
          circles (deeds_in_child d i c child here ds known) (at_cell c τ) (under c s) (under c t) (grown_kid d design m k at τ s t grown c child here)))
        where
          child : Instance
          child = tree_within d m e

          kid_deeds : List Deed
          kid_deeds = deeds_below c ds

          among : In node.cells cell
          among = in_at node.cells c cell stands

          here : cell_at (cells_of i) c ≡ OfInstance child
          here = at_component (tree_within d m) node.cells c cell e stands is

          circles : NoCircle child (entries (own_entries (deeds_below c ds))) (deeds_below c ds)
          circles =
              let number : 0 + c ≡ c = omega arith in
              subst (λ n. NoCircle child (entries (own_entries (deeds_below n ds))) (deeds_below n ds)) number (none_at (cells_of i) 0 c ds calm.2 child here static)

          moved_is : deeds_below c twins ≡ map (moved_deed (moved_at d child)) kid_deeds
          moved_is = below-moved (moved_at d i) c ds ∙ ap (λ (f : Path → PortRef → PortRef). map (moved_deed f) kid_deeds) (fun_ext (λ path. fun_ext (λ p. moved-child d (cells_of i) c child here path p)))

          fed : (n : ℕ) → n < length (component_at d e).inputs → held_below look_there c twins n ≡ held_below look c ds n
          fed n less =
              held-moved (SpotIn d i) (ActIn d i) (FedIn d i) (moved_at d i) look look_there c n
              (λ inputs r.
              let there : r.2.0 < length node.invokes = subst (λ x. r.2.0 < length (part_of x).invokes) (sym r.1) r.2.1 in
              let inputs_are : (the_invoke node r.2.0).inputs ≡ inputs = subst (λ x. (the_invoke (part_of x) r.2.0).inputs ≡ inputs) (sym r.1) r.2.2 in
              let source = source_follows d design accepted grown_accepted m k at (the_invoke node r.2.0) (in_got node.invokes r.2.0 there) c cell e n stands is few less in
              subst (λ l. look_there (source_to c (map (moved_assign (moved_in d node)) l) n) ≡ look (source_to c l n)) inputs_are
              (ap look_there source.1 ∙ found d design accepted grown_accepted m k at entries_there further held twin same act acts calm.0 τ s t grown (source_to c (the_invoke node r.2.0).inputs n) source.0))
              ds known

      -- THE CELLS from one on
      cells_grow : (list more : List PlainCell) (c : ℕ) → ((n : ℕ) → slice_get list n ≡ slice_get node.cells (c + n)) → ArePrimitive more → (o x : Ended) → Counted c o x
          → Counted (c + length list) (cycles_below (cells_for (tree_within d m) list) c look ds s o) (cycles_below (cells_for (tree_within (with_counts d) m) (list ++ more)) c look_there twins t x)
      cells_grow [] more c tail none o x h =
          let number : c ≡ c + 0 = omega arith in
          subst (λ n. Counted n o (cycles_below (cells_for (tree_within (with_counts d) m) more) c look_there twins t x)) number
          (subst (Counted c o) (sym (primitives_rest (tree_within (with_counts d) m) more none c look_there twins t x)) h)
      cells_grow (cell ∷ list) more c tail none o x h =
          let number : suc c + length list ≡ c + suc (length list) = omega arith in
          subst (λ n. Counted n (cycles_below (cells_for (tree_within d m) (cell ∷ list)) c look ds s o) (cycles_below (cells_for (tree_within (with_counts d) m) (cell ∷ (list ++ more))) c look_there twins t x)) number
          (by cell.kind refl
          (cells_grow list more (suc c) (λ n. tail (suc n) ∙ ap (slice_get node.cells) (let next : c + suc n ≡ suc c + n = omega arith in next)) none))
        where
          stands : slice_get node.cells c ≡ Some cell
          stands = ap (slice_get node.cells) (let none_more : c ≡ c + 0 = omega arith in none_more) ∙ sym (tail 0)

          few : c < length node.cells
          few = slice_get_within node.cells c cell stands

          by : (kind : PlainKind) → cell.kind ≡ kind
              → ((a b : Ended) → Counted (suc c) a b
              → Counted (suc c + length list) (cycles_below (cells_for (tree_within d m) list) (suc c) look ds s a) (cycles_below (cells_for (tree_within (with_counts d) m) (list ++ more)) (suc c) look_there twins t b))
              → Counted (suc c + length list) (cycles_below (add_cell (tree_within d m) kind (cells_for (tree_within d m) list)) c look ds s o)
              (cycles_below (add_cell (tree_within (with_counts d) m) kind (cells_for (tree_within (with_counts d) m) (list ++ more))) c look_there twins t x)
          by (OfPrimitive p) is later =
              later o x (skip c (nothing_below d i c (λ child here static. absurd (row_instance (row_of p) child (sym (at_row (tree_within d m) node.cells c cell p stands is) ∙ here))) ds known) o x h)
          by (OfComponent e) is later = later (child_if (is_static child) c o own) (child_if (is_static twin_child) c x its) (subst (λ b. Counted (suc c) (child_if (is_static child) c o own) (child_if b c x its)) (sym kept) (choice (is_static child) refl))
            where
              child : Instance
              child = tree_within d m e

              twin_child : Instance
              twin_child = tree_within (with_counts d) m e

              here : cell_at (cells_of i) c ≡ OfInstance child
              here = at_component (tree_within d m) node.cells c cell e stands is

              own : Ended
              own = whole_cycle child (held_below look c ds) (entries (own_entries (deeds_below c ds))) (deeds_below c ds) (under c s)

              its : Ended
              its = whole_cycle twin_child (held_below look_there c twins) (entries (own_entries (deeds_below c twins))) (deeds_below c twins) (under c t)

              kept : is_static twin_child ≡ is_static child
              kept = static_kept m e (child_in_tree d design at cell e (in_at node.cells c cell stands) is).within

              choice : (b : Bool) → is_static child ≡ b → Counted (suc c) (child_if b c o own) (child_if b c x its)
              choice true static = one_more c child here o x own its h (kid_grows c cell e few stands is static)
              choice false dynamic =
                  skip c (nothing_below d i c (λ found_child at_c static. both (is_static child) (subst (λ y. is_static y ≡ true) (instance_is found_child child (sym at_c ∙ here)) static) dynamic) ds known) o x h
                where
                  both : (b : Bool) → b ≡ true → b ≡ false → ⊥
                  both true f g = absurd (cc)
                  both false f g = absurd (cc)

      -- what is counted in the cycle
      abbrev pub acts_with : Tally
      acts_with [] g = once (act.offset g)
      acts_with (e ∷ path) g = done_with (deeds_below e ds) path g

      begin_count : (path : Path) (g : ℕ) → plus τ (made_with act) path g ≡ count_to 0 path g
      begin_count [] g = refl
      begin_count (e ∷ path) g = ap (λ b. τ (e ∷ path) g + (if b then done_with (deeds_below e ds) path g else 0)) (sym (le-ltb e 0 (omega arith)))

      end_count : (path : Path) (g : ℕ) → count_to (0 + length node.cells) path g ≡ plus τ acts_with path g
      end_count [] g = refl
      end_count (e ∷ path) g = by (cases_lt e (0 + length node.cells))
        where
          by : (e < 0 + length node.cells) ⊎ (0 + length node.cells ≤ e) → τ (e ∷ path) g + (if nat_lt e (0 + length node.cells) then done_with (deeds_below e ds) path g else 0) ≡ τ (e ∷ path) g + done_with (deeds_below e ds) path g
          by (inl less) = ap (λ b. τ (e ∷ path) g + (if b then done_with (deeds_below e ds) path g else 0)) (lt-ltb e (0 + length node.cells) less)
          by (inr past) =
              ap (λ b. τ (e ∷ path) g + (if b then done_with (deeds_below e ds) path g else 0)) (le-ltb e (0 + length node.cells) past)
              ∙ ap (λ n. τ (e ∷ path) g + n)
              (sym (ap (λ l. done_with l path g) (nothing_below d i e (λ child here static. let few : e < length node.cells = child_few (tree_within d m) node.cells e child here in absurd (omega (arith, few, past))) ds known) ∙ nothing_done path g))

      -- THE WHOLE CYCLE
      pub whole_grows : EndedAs (Grown i (plus τ acts_with)) (whole_cycle i held act ds s) (whole_cycle j twin act twins t)
      whole_grows =
          let more = gained_cells k at.within in
          ended_more (Grown i (count_to (0 + length node.cells))) (Grown i (plus τ acts_with)) (whole_cycle i held act ds s) (whole_cycle j twin act twins t)
          (λ a z r. grown_numbers i (count_to (0 + length node.cells)) (plus τ acts_with) a z end_count r)
          (subst (λ list. Counted (0 + length node.cells) (whole_cycle i held act ds s) (cycles_below (cells_for (tree_within (with_counts d) m) list) 0 look_there twins t (cycle j twin act t))) (sym more.1)
          (cells_grow node.cells more.0 0 (λ n. ap (slice_get node.cells) (let number : n ≡ 0 + n = omega arith in number)) more.2 (cycle i held act s) (cycle j twin act t)
          (ended_more (Grown i (plus τ (made_with act))) (Grown i (count_to 0)) (cycle i held act s) (cycle j twin act t) (λ a z r. grown_numbers i (plus τ (made_with act)) (count_to 0) a z begin_count r)
          (turn_ended (Grown i) τ (made_with act) (cycle i held act s) (cycle j twin act t)
          (cycles d design accepted grown_accepted m k at entries_there further held twin same act acts calm.0 (λ f. f) (λ c p row kind e. refl) τ s t grown)))))

  -- nothing stands behind the counters of a child
  pub none_further : (m e : ℕ) (names : List (List ℕ)) → component_at (with_counts d) e ≡ child_component d e names → (act : Active) → ActsWithin (component_at d e) act → IsAcyclic (tree_within (with_counts d) (suc m) e) act
      → (twin : Held) (t : State) (c : ℕ) → length (component_at d e).cells + 2 * length (counters (component_of d e)) ≤ c → c < length (component_at (with_counts d) e).cells
      → (after : CellState) × (comes_to (tree_within (with_counts d) (suc m) e) twin act t c ≡ Next after)
  none_further m e names is act acts acyclic twin t c past less =
      absurd (let count : length (component_at (with_counts d) e).cells ≡ length (component_at d e).cells + 2 * length (counters (component_of d e)) = size in omega (arith, past, less, count))
    where
      size : length (component_at (with_counts d) e).cells ≡ length (component_at d e).cells + 2 * length (counters (component_of d e))
      size =
          ap (λ (x : PlainComponent). length x.cells) is ∙ length-append (component_at d e).cells (counter_cells (component_at d e).place names 0 (length (counters (component_of d e))))
          ∙ ap (λ n. length (component_at d e).cells + n) (counter_cells-length (component_at d e).place names 0 (length (counters (component_of d e))))

  -- OF A CHILD, at every level
  pub kids_whole : (m : ℕ) → KidsWhole m
  kids_whole zero e at differ held twin same ds calm known τ s t grown = absurd at.deep_enough
  kids_whole (suc m) e at differ held twin same ds calm known τ s t grown = by (role d e at.within) (kids_whole m)
    where
      both : (b : Bool) → b ≡ true → b ≡ false → ⊥
      both true f g = absurd (cc)
      both false f g = absurd (cc)

      child : Instance
      child = tree_within d (suc m) e

      by : Role d e → KidsWhole m
          → EndedAs (Grown child (plus τ (done_with ds))) (whole_cycle child held (entries (own_entries ds)) ds s)
          (whole_cycle (tree_within (with_counts d) (suc m) e) twin (entries (own_entries ds)) (map (moved_deed (moved_at d child)) ds) t)
      by (as_main names main is) kids = absurd (differ main)
      by (as_kept other_one r is) kids = absurd (both (is_reached d e) (in_reach d at) r)
      by (as_child names other_one r is) kids =
          ended_more (Grown child (plus τ counted)) (Grown child (plus τ (done_with ds))) (whole_cycle child held (entries (own_entries ds)) ds s)
          (whole_cycle (tree_within (with_counts d) (suc m) e) twin (entries (own_entries ds)) (map (moved_deed (moved_at d child)) ds) t)
          (λ a z q. grown_numbers child (plus τ counted) (plus τ (done_with ds)) a z same_count q)
          (whole_grows m e at (λ act acts acyclic. child_acyclic d design m e at act names is acyclic) (none_further m e names is) kids held twin same
          (entries (own_entries ds)) (own_within d child ds known) ds calm known τ s t grown)
        where
          counted : Tally
          counted = acts_with m e at (λ act acts acyclic. child_acyclic d design m e at act names is acyclic) (none_further m e names is) kids held twin same
              (entries (own_entries ds)) (own_within d child ds known) ds calm known τ s t grown

          same_count : (path : Path) (g : ℕ) → plus τ counted path g ≡ plus τ (done_with ds) path g
          same_count [] g = refl
          same_count (c ∷ path) g = refl
