-- Sums over the components of a net: over the components of the design, each of which it has once at most, and over their cells' components,
-- each of which is an instance of the tree.
use Rattle.std.proofs.Common.{◌≡◌, inl, inr, ℕ, zero, suc, ◌+◌, ◌<◌, ◌≤◌, true, List, [], ◌∷◌, ◌++◌, length, get_or, refl, ap, sym, ◌∙◌, subst, arith}
use Rattle.std.specs.Prelude.{flat_map}
use Rattle.cx_meaning.specs.Designs.{PlainKind, OfPrimitive, OfComponent, PlainCell, PlainComponent, PlainDesign, no_component, component_at}
use Rattle.cx_meaning.specs.Instances.{Cells, add_cell, cells_for, tree_within}
use Rattle.cx_text.specs.Members.{In}
use Rattle.cx_rules.specs.Sizes.{size_of, sizes_of, weight_below, weight_in, weight_of}
use Rattle.cx_rules.specs.Wellformed.{IsDesign}
use Rattle.cx_rules.proofs.Finite.{Distinct}
use Rattle.cx_static.specs.Islands.{PlainLowereds}
use Rattle.cx_static.specs.Lowering.{lowered_of}
use Rattle.cx_wiring.specs.Reached.{numbers_from, has_number, component_of_kind, components_of, cells_at, below, reached_from, order}
use Rattle.cx_wiring.specs.PartNets.{timer_cells}
use Rattle.cx_wiring.proofs.MainLaws.{order_main, number_from}
use Rattle.cx_wiring.proofs.MainOrder.{distinct_order}
use Rattle.cx_wiring.proofs.NumberLemmas.{number_in, in_number}
use Rattle.cx_wiring.proofs.OrderHeights.{from_main}
use Rattle.cx_wiring.proofs.TimerCells.{cells-lowered_component, components_of-timer_cells}
use Rattle.cx_wiring.proofs.WayLemmas.{count_is, part_there, there, IsWay, here_of, few_of_design, Reaches, step_on, alone}
use Rattle.cx_emitted.proofs.TextBytes.{sum_over}
use Rattle.cx_emitted.proofs.ModuleBytes.{sum_over-append}

-- SUMS of numbers that are apart
abbrev left_of : (xs : List ℕ) (v : ℕ) → In xs v → List ℕ
left_of [] v i = []
left_of (x ∷ xs) v (inl e) = xs
left_of (x ∷ xs) v (inr i) = x ∷ left_of xs v i

left_in : (xs : List ℕ) (v : ℕ) (i : In xs v) (w : ℕ) → In xs w → (w ≡ v → ⊥) → In (left_of xs v i) w
left_in [] v i w j n = absurd i
left_in (x ∷ xs) v (inl e) w (inl f) n = absurd (n (sym f ∙ e))
left_in (x ∷ xs) v (inl e) w (inr j) n = j
left_in (x ∷ xs) v (inr i) w (inl f) n = inl f
left_in (x ∷ xs) v (inr i) w (inr j) n = inr (left_in xs v i w j n)

module _ (f : ℕ → ℕ) where
  left_sum : (xs : List ℕ) (v : ℕ) (i : In xs v) → f v + sum_over f (left_of xs v i) ≡ sum_over f xs
  left_sum [] v i = absurd i
  left_sum (x ∷ xs) v (inl e) = ap (λ y. f y + sum_over f xs) (sym e)
  left_sum (x ∷ xs) v (inr i) = let h : f v + sum_over f (left_of xs v i) ≡ sum_over f xs = left_sum xs v i in omega arith

  pub sum_apart : (vs xs : List ℕ) → Distinct vs → ((v : ℕ) → In vs v → In xs v) → sum_over f vs ≤ sum_over f xs
  sum_apart [] xs apart among = omega arith
  sum_apart (v ∷ vs) xs apart among =
      let i = among v (inl refl) in
      let rest : sum_over f vs ≤ sum_over f (left_of xs v i) = sum_apart vs (left_of xs v i) apart.1 (λ w j. left_in xs v i w (among w (inr j)) (λ e. apart.0 (subst (In vs) e j))) in
      let all : f v + sum_over f (left_of xs v i) ≡ sum_over f xs = left_sum xs v i in
      omega arith

sum_numbered : {A : Type 0} (F : ℕ → ℕ) (g : A → ℕ) (default : A) (n : ℕ) (xs : List A) → ((i : ℕ) → i < length xs → F (n + i) ≡ g (get_or xs i default)) → sum_over F (numbers_from n (length xs)) ≡ sum_over g xs
sum_numbered F g default n [] each = refl
sum_numbered F g default n (x ∷ xs) each =
    let same : n + 0 ≡ n = omega arith in
    let none : 0 < length (x ∷ xs) = omega arith in
    let first : F n ≡ g x = ap F (sym same) ∙ each 0 none in
    let rest : sum_over F (numbers_from (suc n) (length xs)) ≡ sum_over g xs =
    sum_numbered F g default (suc n) xs (λ i less. let step : suc n + i ≡ n + suc i = omega arith in let more : suc i < length (x ∷ xs) = omega arith in ap F step ∙ each (suc i) more) in
    omega arith

components_of-append : (xs ys : List PlainCell) → components_of (xs ++ ys) ≡ components_of xs ++ components_of ys
components_of-append [] ys = refl
components_of-append (x ∷ xs) ys = kinds x.kind (components_of-append xs ys)
  where
    kinds : (kind : PlainKind) → components_of (xs ++ ys) ≡ components_of xs ++ components_of ys → component_of_kind kind ++ components_of (xs ++ ys) ≡ (component_of_kind kind ++ components_of xs) ++ components_of ys
    kinds (OfPrimitive p) h = h
    kinds (OfComponent j) h = ap (λ ns. j ∷ ns) h

append_none : (xs ys : List ℕ) → ys ≡ [] → xs ++ ys ≡ xs
append_none [] ys e = e
append_none (x ∷ xs) ys e = ap (λ ns. x ∷ ns) (append_none xs ys e)

module _ (d : PlainDesign) (rules : IsDesign d) where
  abbrev low : PlainLowereds
  low = lowered_of d

  abbrev levels : ℕ
  levels = length d.components

  abbrev own_weight : ℕ → ℕ
  own_weight k = size_of (component_at d k) + 1

  -- the components of a component's cells
  abbrev pub cells_weight : ℕ → ℕ
  cells_weight k = sum_over own_weight (components_of (component_at d k).cells)

  below_is : (k : ℕ) → k < levels → below low k ≡ components_of (component_at d k).cells
  below_is k within =
      ap (λ o. components_of (cells_at o)) (part_there d rules k within)
      ∙ ap components_of (cells-lowered_component (component_at d k))
      ∙ components_of-append (component_at d k).cells (timer_cells (component_at d k))
      ∙ append_none (components_of (component_at d k).cells) (components_of (timer_cells (component_at d k))) (components_of-timer_cells (component_at d k))

  abbrev Weighs : ℕ → ℕ → Type 0
  Weighs n k = own_weight k + sum_over cells_weight (reached_from low n k) ≤ weight_below (tree_within d n k)

  kind_weighs : (n : ℕ) (kind : PlainKind) (names : List ℕ) (rest : Cells) → ((j : ℕ) → kind ≡ OfComponent j → Weighs n j)
      → sum_over own_weight names + sum_over cells_weight (flat_map (reached_from low n) names) ≤ weight_in rest
      → sum_over own_weight (component_of_kind kind ++ names) + sum_over cells_weight (flat_map (reached_from low n) (component_of_kind kind ++ names)) ≤ weight_in (add_cell (tree_within d n) kind rest)
  kind_weighs n (OfPrimitive p) names rest each h = h
  kind_weighs n (OfComponent j) names rest each h =
      let own : own_weight j + sum_over cells_weight (reached_from low n j) ≤ weight_below (tree_within d n j) = each j refl in
      let both : sum_over cells_weight (reached_from low n j ++ flat_map (reached_from low n) names) ≡ sum_over cells_weight (reached_from low n j) + sum_over cells_weight (flat_map (reached_from low n) names) =
      sum_over-append cells_weight (reached_from low n j) (flat_map (reached_from low n) names) in
      omega (arith, own, both, h)

  cells_weigh : (n : ℕ) (cells : List PlainCell) → ((cell : PlainCell) (j : ℕ) → In cells cell → cell.kind ≡ OfComponent j → Weighs n j)
      → sum_over own_weight (components_of cells) + sum_over cells_weight (flat_map (reached_from low n) (components_of cells)) ≤ weight_in (cells_for (tree_within d n) cells)
  cells_weigh n [] each = omega arith
  cells_weigh n (c ∷ cells) each = kind_weighs n c.kind (components_of cells) (cells_for (tree_within d n) cells) (λ j is. each c j (inl refl) is) (cells_weigh n cells (λ cell j i is. each cell j (inr i) is))

  weigh_from : (n k : ℕ) (seen : List ℕ) → IsWay d rules k seen → n + length seen ≡ levels → Reaches d rules n k → Weighs n k
  weigh_from zero k seen way left reach = let few = few_of_design d rules k seen way in absurd (omega (arith, few, left))
  weigh_from (suc n) k seen way left reach =
      let within : k < levels = there d rules k (here_of d rules k seen way) in
      let same : sum_over cells_weight (flat_map (reached_from low n) (below low k)) ≡ sum_over cells_weight (flat_map (reached_from low n) (components_of (component_at d k).cells)) =
      ap (λ ns. sum_over cells_weight (flat_map (reached_from low n) ns)) (below_is k within) in
      let cells : cells_weight k + sum_over cells_weight (flat_map (reached_from low n) (components_of (component_at d k).cells)) ≤ weight_in (cells_for (tree_within d n) (component_at d k).cells) =
      cells_weigh n (component_at d k).cells (λ cell j i is. let step = step_on d rules n k seen way reach cell j i is in weigh_from n j (k ∷ seen) step.way (omega (arith, left)) step.reach) in
      omega (arith, same, cells)

  -- THE WEIGHT of the design bounds them, with that of main
  pub cells_weigh_little : own_weight d.main + sum_over cells_weight (order low) ≤ weight_of d
  cells_weigh_little =
      let main_there : low.main < length low.components = subst (λ n. d.main < n) (sym (count_is d rules)) rules.main_there in
      let here : has_number d.main (order low) ≡ true = order_main low main_there in
      let tree : own_weight d.main + sum_over cells_weight (reached_from low levels d.main) ≤ weight_below (tree_within d levels d.main) =
      weigh_from levels d.main [] (alone d rules d.main here) (omega arith) (λ x h. subst (λ n. has_number x (reached_from low n d.main) ≡ true) (sym (count_is d rules)) h) in
      let among : sum_over cells_weight (order low) ≤ sum_over cells_weight (reached_from low levels d.main) =
      sum_apart cells_weight (order low) (reached_from low levels d.main) (distinct_order low)
      (λ v i. number_in v (reached_from low levels d.main) (subst (λ n. has_number v (reached_from low n d.main) ≡ true) (count_is d rules) (from_main d rules v (in_number v (order low) i)))) in
      omega (arith, tree, among)

  -- THE SIZE of the design bounds what its components have
  pub sizes_few : (g : PlainComponent → ℕ) → sum_over (λ k. g (component_at d k)) (order low) ≤ sum_over g d.components
  sizes_few g =
      let among : sum_over (λ k. g (component_at d k)) (order low) ≤ sum_over (λ k. g (component_at d k)) (numbers_from 0 levels) =
      sum_apart (λ k. g (component_at d k)) (order low) (numbers_from 0 levels) (distinct_order low)
      (λ v i. let less : v < levels = there d rules v (in_number v (order low) i) in number_in v (numbers_from 0 levels) (number_from v 0 levels (omega arith) (omega (arith, less)))) in
      let all : sum_over (λ k. g (component_at d k)) (numbers_from 0 levels) ≡ sum_over g d.components =
      sum_numbered (λ k. g (component_at d k)) g no_component 0 d.components (λ i less. let same : 0 + i ≡ i = omega arith in ap (λ k. g (component_at d k)) same) in
      omega (arith, among, all)

pub sizes_sum : (parts : List PlainComponent) → sum_over (λ part. size_of part + 1) parts ≡ sizes_of parts
sizes_sum [] = refl
sizes_sum (part ∷ parts) = let h : sum_over (λ x. size_of x + 1) parts ≡ sizes_of parts = sizes_sum parts in omega (arith, h)
