-- The components of the net of a design: each stands at its place, those of its cells are among them, and on a way from main no component
-- stands twice.
use Rattle.std.proofs.Common.{◌≡◌, inl, inr, ℕ, suc, ◌<◌, ◌≤◌, true, false, ◌||◌, List, [], ◌∷◌, ◌++◌, Some, length, slice_get, get_or, nat_eq, refl, ap, sym, ◌∙◌, subst, arith, eq-eqb}
use Rattle.std.specs.Prelude.{flat_map, filter_map, option_map}
use Rattle.std.specs.List.{cons_option}
use Rattle.std.proofs.lemmas.Bool.Decides.{eqb_tells}
use Rattle.std.proofs.lemmas.List.{length-map}
use Rattle.std.proofs.lemmas.Option.{slice_get-map, slice_get-get_or}
use Rattle.cx_meaning.specs.Designs.{PlainCell, OfComponent, PlainDesign, no_component, component_at}
use Rattle.cx_text.specs.Members.{In}
use Rattle.cx_rules.proofs.Finite.{Distinct}
use Rattle.cx_rules.specs.Wellformed.{IsKind, LeadsTo, by_cell, by_way_of, IsDesign}
use Rattle.cx_net.specs.Nets.{PlainNet}
use Rattle.cx_net.specs.NetTree.{net_component_at}
use Rattle.cx_static.specs.Islands.{PlainLowereds}
use Rattle.cx_static.specs.Lowering.{lowered_component, lowered_of}
use Rattle.cx_wiring.specs.Reached.{numbers_from, has_number, place_in, component_of_kind, components_of, cells_at, below, reached_from, count, order}
use Rattle.cx_wiring.specs.Wiring.{net_component, net_of}
use Rattle.cx_wiring.specs.PartNets.{timer_cells, wired_in}
use Rattle.cx_wiring.proofs.MainLaws.{Tells, number_left, number_right, number_flat_map, number_from, reaches_itself, order_below, order_reached, net_component_at-place_in}
use Rattle.cx_wiring.proofs.NumberLemmas.{in_number, few_apart, length-numbers_from}
use Rattle.cx_wiring.proofs.TimerCells.{cells-lowered_component}
use Rattle.std.proofs.lemmas.Bool.{or_right}

-- a cell's component is among those of the cells
pub number_of_cell : (k : ℕ) (cell : PlainCell) (cells more : List PlainCell) → cell.kind ≡ OfComponent k → In cells cell → has_number k (components_of (cells ++ more)) ≡ true
number_of_cell k cell [] more is i = absurd i
number_of_cell k cell (c ∷ cells) more is (inl e) =
    number_left k (component_of_kind c.kind) (components_of (cells ++ more))
    (ap (λ x. has_number k (component_of_kind x.kind)) e ∙ ap (λ kind. has_number k (component_of_kind kind)) is ∙ ap (λ b. b || false) (eq-eqb k k refl))
number_of_cell k cell (c ∷ cells) more is (inr i) = number_right k (component_of_kind c.kind) (components_of (cells ++ more)) (number_of_cell k cell cells more is i)

module _ {A : Type 0} (xs : List A) where
  length_one : (k : ℕ) (ks : List ℕ) (x : A) → slice_get xs k ≡ Some x → length (filter_map (slice_get xs) ks) ≡ length ks → length (filter_map (slice_get xs) (k ∷ ks)) ≡ suc (length ks)
  length_one k ks x is later = ap (λ o. length (cons_option o (filter_map (slice_get xs) ks))) is ∙ ap suc later

  module _ (d : A) where
    -- where all numbers of a list name elements, there is one for each
    length-named : (ks : List ℕ) → ((j : ℕ) → has_number j ks ≡ true → j < length xs) → length (filter_map (slice_get xs) ks) ≡ length ks
    length-named [] within = refl
    length-named (k ∷ ks) within =
        length_one k ks (get_or xs k d) (slice_get-get_or xs k d (within k (ap (λ b. b || has_number k ks) (eq-eqb k k refl))))
        (length-named ks (λ j there. within j (or_right (nat_eq j k) (has_number j ks) there)))

module _ (d : PlainDesign) (rules : IsDesign d) where
  abbrev pub low : PlainLowereds
  low = lowered_of d

  abbrev pub places : List ℕ
  places = order low

  abbrev pub levels : ℕ
  levels = length d.components

  abbrev pub net : PlainNet
  net = net_of low

  pub count_is : count low ≡ levels
  count_is = length-map d.components lowered_component

  pub part_there : (k : ℕ) → k < levels → slice_get low.components k ≡ Some (lowered_component (component_at d k))
  part_there k within = slice_get-map lowered_component d.components k ∙ ap (option_map lowered_component) (slice_get-get_or d.components k no_component within)

  pub there : (k : ℕ) → has_number k places ≡ true → k < levels
  there k here = subst (λ n. k < n) count_is (order_below low k here)

  pub placed : (k : ℕ) → has_number k places ≡ true → net_component_at net (place_in k places) ≡ wired_in d (component_at d k)
  placed k here = net_component_at-place_in low k (lowered_component (component_at d k)) here (part_there k (there k here))

  pub net_long : length net.components ≡ length places
  net_long =
      length-map (filter_map (slice_get low.components) places) (net_component low)
      ∙ length-named low.components (lowered_component no_component) places (order_below low)

  module _ (k j : ℕ) (within : k < levels) (cell : PlainCell) (i : In (component_at d k).cells cell) (is : cell.kind ≡ OfComponent j) where
    pub child_there : j < levels
    child_there = subst (IsKind d) is ((rules.components k within).cells cell i).kind

    pub child_below : has_number j (below low k) ≡ true
    child_below =
        ap (λ o. has_number j (components_of (cells_at o))) (part_there k within)
        ∙ ap (λ cells. has_number j (components_of cells)) (cells-lowered_component (component_at d k))
        ∙ number_of_cell j cell (component_at d k).cells (timer_cells (component_at d k)) is i

  -- the components on the way from main to a component, each of which leads to it
  pub record IsWay (k : ℕ) (seen : List ℕ) : Type 0 where
    pub apart : Distinct (k ∷ seen)
    pub among : (j : ℕ) → has_number j (k ∷ seen) ≡ true → has_number j places ≡ true
    pub leads : (j : ℕ) → has_number j seen ≡ true → LeadsTo d j k

  pub here_of : (k : ℕ) (seen : List ℕ) → IsWay k seen → has_number k places ≡ true
  here_of k seen way = way.among k (ap (λ b. b || has_number k seen) (eq-eqb k k refl))

  -- so no way is longer than the net has components, or the design
  pub few_of_net : (k : ℕ) (seen : List ℕ) → IsWay k seen → suc (length seen) ≤ length places
  few_of_net k seen way = few_apart (k ∷ seen) places way.apart way.among

  pub few_of_design : (k : ℕ) (seen : List ℕ) → IsWay k seen → suc (length seen) ≤ levels
  few_of_design k seen way =
      subst (λ n. suc (length seen) ≤ n) (length-numbers_from 0 levels)
      (few_apart (k ∷ seen) (numbers_from 0 levels) way.apart (λ j h. let low_enough = there j (way.among j h) in number_from j 0 levels (omega arith) (omega (arith, low_enough))))

  module _ (k j : ℕ) (seen : List ℕ) (way : IsWay k seen) (step : LeadsTo d k j) (here : has_number j places ≡ true) where
    pub leads_on : (m : ℕ) → Tells m k → (has_number m seen ≡ true → LeadsTo d m k) → has_number m (k ∷ seen) ≡ true → LeadsTo d m j
    leads_on m (inl e) earlier h = subst (λ x. LeadsTo d x j) (sym e.1) step
    leads_on m (inr e) earlier h = by_way_of k (earlier (ap (λ b. b || has_number m seen) (sym e.0) ∙ h)) step

    pub all_lead : (m : ℕ) → has_number m (k ∷ seen) ≡ true → LeadsTo d m j
    all_lead m h = leads_on m (eqb_tells m k) (way.leads m) h

    pub among_on : (m : ℕ) → Tells m j → has_number m (j ∷ k ∷ seen) ≡ true → has_number m places ≡ true
    among_on m (inl e) h = ap (λ x. has_number x places) e.1 ∙ here
    among_on m (inr e) h = way.among m (ap (λ b. b || has_number m (k ∷ seen)) (sym e.0) ∙ h)

    pub way_on : IsWay j (k ∷ seen)
    way_on = record { apart = ((λ i. rules.not_recursive j (all_lead j (in_number j (k ∷ seen) i))), way.apart); among = λ m h. among_on m (eqb_tells m j) h; leads = all_lead }

  abbrev pub Reaches : ℕ → ℕ → Type 0
  Reaches n k = (x : ℕ) → has_number x (reached_from low n k) ≡ true → has_number x (reached_from low (count low) low.main) ≡ true

  pub reaches_on : (n k j : ℕ) → has_number j (below low k) ≡ true → Reaches (suc n) k → Reaches n j
  reaches_on n k j child reach x h =
      reach x (or_right (nat_eq x k) (has_number x (flat_map (reached_from low n) (below low k))) (number_flat_map x j (reached_from low n) (below low k) child h))

  pub record IsStep (n k j : ℕ) (seen : List ℕ) : Type 0 where
    pub way : IsWay j (k ∷ seen)
    pub reach : Reaches n j

  pub step_on : (n k : ℕ) (seen : List ℕ) → IsWay k seen → Reaches (suc n) k → (cell : PlainCell) (j : ℕ) → In (component_at d k).cells cell → cell.kind ≡ OfComponent j → IsStep n k j seen
  step_on n k seen way reach cell j i is =
      let within : k < levels = there k (here_of k seen way) in
      let on : Reaches n j = reaches_on n k j (child_below k j within cell i is) reach in
      let here : has_number j places ≡ true = order_reached low j (subst (λ x. j < x) (sym count_is) (child_there k j within cell i is)) (on j (reaches_itself low n j)) in
      record { way = way_on k j seen way (by_cell j cell i is) here; reach = on }

  -- the way to one that stands alone
  pub alone : (k : ℕ) → has_number k places ≡ true → IsWay k []
  alone k here = record { apart = ((λ i. i), tt); among = λ m h. only m (eqb_tells m k) h; leads = λ j h. absurd (cc) }
    where
      only : (m : ℕ) → Tells m k → has_number m (k ∷ []) ≡ true → has_number m places ≡ true
      only m (inl e) h = ap (λ x. has_number x places) e.1 ∙ here
      only m (inr e) h = let no = ap (λ b. b || false) (sym e.0) ∙ h in absurd (cc)
