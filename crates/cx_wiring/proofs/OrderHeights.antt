-- In the net of a design a component stands behind those of its cells: the order is by height, and those of the cells are lower.
use Rattle.std.proofs.Common.{◌≡◌, ⊎_elim, inl, inr, ℕ, zero, suc, ◌+◌, ◌<◌, ◌≤◌, Bool, true, false, cond, if◌then◌else◌, List, [], ◌∷◌, ◌++◌, Some, length, map, slice_get, nat_eq, refl, ap, sym, ◌∙◌, subst, arith}
use Rattle.std.specs.Prelude.{filter, flat_map, filter_map}
use Rattle.std.specs.List.{cons_option}
use Rattle.std.proofs.lemmas.Bool.{eqb-true}
use Rattle.std.proofs.lemmas.List.{append-nil}
use Rattle.cx_text.proofs.MemberLaws.{in_at, of_joined}
use Rattle.cx_meaning.specs.Designs.{PlainKind, OfPrimitive, OfComponent, PlainCell, PlainDesign, component_at}
use Rattle.cx_text.specs.Members.{In}
use Rattle.cx_rules.specs.Wellformed.{by_cell, IsDesign}
use Rattle.cx_net.specs.NetTree.{no_net_component, net_component_at}
use Rattle.cx_static.specs.Islands.{PlainLowereds}
use Rattle.cx_static.specs.Lowering.{lowered_component, lowered_of}
use Rattle.cx_wiring.specs.Reached.{numbers_from, has_number, place_in, component_of_kind, components_of, cells_at, below, reached_from, highest, height_of, height, count, reached, order}
use Rattle.cx_wiring.specs.Wiring.{net_component, net_of}
use Rattle.cx_wiring.specs.PartNets.{timer_cells, wired_in}
use Rattle.cx_wiring.proofs.MainLaws.{order_main, get_or_map}
use Rattle.cx_wiring.proofs.NumberLemmas.{number_in, in_number}
use Rattle.cx_wiring.proofs.TimerCells.{cells-lowered_component, components_of-timer_cells}
use Rattle.cx_wiring.proofs.WayLemmas.{number_of_cell, count_is, part_there, there, IsWay, here_of, few_of_design, way_on, Reaches, step_on, alone}
use Rattle.cx_wiring.proofs.DesignNames.{in_filter}

-- LISTS of numbers
pub in_flat_map : (f : ℕ → List ℕ) (hs : List ℕ) (x : ℕ) → In (flat_map f hs) x → (h : ℕ) × In hs h × In (f h) x
in_flat_map f [] x i = absurd i
in_flat_map f (h ∷ hs) x i = of_joined (f h) (flat_map f hs) x i (λ j. (h, inl refl, j)) (λ j. let r = in_flat_map f hs x j in (r.0, inr r.1, r.2))

in_map : (f : ℕ → ℕ) (hs : List ℕ) (h : ℕ) → In hs h → In (map f hs) (f h)
in_map f [] h i = absurd i
in_map f (x ∷ hs) h (inl e) = inl (ap f e)
in_map f (x ∷ hs) h (inr i) = inr (in_map f hs h i)

map_alike : (f g : ℕ → ℕ) (hs : List ℕ) → ((h : ℕ) → In hs h → f h ≡ g h) → map f hs ≡ map g hs
map_alike f g [] each = refl
map_alike f g (x ∷ hs) each = ap (λ n. n ∷ map f hs) (each x (inl refl)) ∙ ap (λ ns. g x ∷ ns) (map_alike f g hs (λ h i. each h (inr i)))

-- what is among those that pass a test passes it
passes : (p : ℕ → Bool) (xs : List ℕ) (y : ℕ) → In (filter p xs) y → p y ≡ true
passes p [] y i = absurd i
passes p (x ∷ xs) y i = one (p x) refl (passes p xs y) i
  where
    one : (b : Bool) → p x ≡ b → (In (filter p xs) y → p y ≡ true) → In (cond b (x ∷ filter p xs) (filter p xs)) y → p y ≡ true
    one true is later (inl e) = ap p (sym e) ∙ is
    one true is later (inr j) = later j
    one false is later j = later j

-- where all numbers of a list name elements, the elements stand as the numbers do
slice_get-named : {A : Type 0} (xs : List A) (d : ℕ → A) (ks : List ℕ) → ((j : ℕ) → In ks j → slice_get xs j ≡ Some (d j)) → (n k : ℕ) → slice_get ks n ≡ Some k
    → slice_get (filter_map (slice_get xs) ks) n ≡ Some (d k)
slice_get-named xs d [] named n k e = absurd cc
slice_get-named xs d (j ∷ ks) named zero k e =
    let same : j ≡ k = cc in
    ap (λ o. slice_get (cons_option o (filter_map (slice_get xs) ks)) 0) (named j (inl refl)) ∙ ap (λ i. Some (d i)) same
slice_get-named xs d (j ∷ ks) named (suc n) k e =
    ap (λ o. slice_get (cons_option o (filter_map (slice_get xs) ks)) (suc n)) (named j (inl refl)) ∙ slice_get-named xs d ks (λ i m. named i (inr m)) n k e

module _ (d : PlainLowereds) where
  highest_has : (ns : List ℕ) (x : ℕ) → In ns x → x ≤ highest d ns
  highest_has [] x i = absurd i
  highest_has (n ∷ rest) x (inl e) = omega (arith, e)
  highest_has (n ∷ rest) x (inr i) = let h : x ≤ highest d rest = highest_has rest x i in omega arith

  -- BY HEIGHT: none of a list is lower than a height, each is as high, none is lower than one before it
  abbrev pub NoneLower : ℕ → List ℕ → Type 0
  NoneLower h [] = Unit {0}
  NoneLower h (n ∷ rest) = (h ≤ height d n) × NoneLower h rest

  abbrev pub AreOf : ℕ → List ℕ → Type 0
  AreOf h [] = Unit {0}
  AreOf h (n ∷ rest) = (height d n ≡ h) × AreOf h rest

  abbrev pub Ascends : List ℕ → Type 0
  Ascends [] = Unit {0}
  Ascends (n ∷ rest) = NoneLower (height d n) rest × Ascends rest

  abbrev pub level : ℕ → List ℕ → List ℕ
  level h ns = filter (λ k. nat_eq (height d k) h) ns

  pub level_of : (h : ℕ) (ns : List ℕ) → AreOf h (level h ns)
  level_of h [] = tt
  level_of h (n ∷ ns) = one (nat_eq (height d n) h) refl (level_of h ns)
    where
      one : (b : Bool) → nat_eq (height d n) h ≡ b → AreOf h (level h ns) → AreOf h (cond b (n ∷ level h ns) (level h ns))
      one true e later = (eqb-true (height d n) h e, later)
      one false e later = later

  none_of_level : (h g : ℕ) (xs : List ℕ) → h ≤ g → AreOf g xs → NoneLower h xs
  none_of_level h g [] few are = tt
  none_of_level h g (x ∷ xs) few are = (let e : height d x ≡ g = are.0 in omega arith, none_of_level h g xs few are.1)

  none_less : (h g : ℕ) (xs : List ℕ) → h ≤ g → NoneLower g xs → NoneLower h xs
  none_less h g [] few none = tt
  none_less h g (x ∷ xs) few none = (let e : g ≤ height d x = none.0 in omega arith, none_less h g xs few none.1)

  none_both : (h : ℕ) (xs ys : List ℕ) → NoneLower h xs → NoneLower h ys → NoneLower h (xs ++ ys)
  none_both h [] ys none nor = nor
  none_both h (x ∷ xs) ys none nor = (none.0, none_both h xs ys none.1 nor)

  pub none_in : (h : ℕ) (xs : List ℕ) (x : ℕ) → NoneLower h xs → In xs x → h ≤ height d x
  none_in h [] x none i = absurd i
  none_in h (y ∷ xs) x none (inl e) = subst (λ z. h ≤ height d z) e none.0
  none_in h (y ∷ xs) x none (inr i) = none_in h xs x none.1 i

  pub levels_none : (a n : ℕ) (ns : List ℕ) → NoneLower a (flat_map (λ h. level h ns) (numbers_from a n))
  levels_none a zero ns = tt
  levels_none a (suc n) ns =
      none_both a (level a ns) (flat_map (λ h. level h ns) (numbers_from (suc a) n)) (none_of_level a a (level a ns) (omega arith) (level_of a ns))
      (none_less a (suc a) (flat_map (λ h. level h ns) (numbers_from (suc a) n)) (omega arith) (levels_none (suc a) n ns))

  ascends_both : (h : ℕ) (xs ys : List ℕ) → AreOf h xs → NoneLower h ys → Ascends ys → Ascends (xs ++ ys)
  ascends_both h [] ys are none asc = asc
  ascends_both h (x ∷ xs) ys are none asc =
      let e : height d x ≡ h = are.0 in
      let few : height d x ≤ h = omega arith in
      (none_both (height d x) xs ys (none_of_level (height d x) h xs few are.1) (none_less (height d x) h ys few none), ascends_both h xs ys are.1 none asc)

  levels_ascend : (a n : ℕ) (ns : List ℕ) → Ascends (flat_map (λ h. level h ns) (numbers_from a n))
  levels_ascend a zero ns = tt
  levels_ascend a (suc n) ns =
      ascends_both a (level a ns) (flat_map (λ h. level h ns) (numbers_from (suc a) n)) (level_of a ns)
      (none_less a (suc a) (flat_map (λ h. level h ns) (numbers_from (suc a) n)) (omega arith) (levels_none (suc a) n ns)) (levels_ascend (suc a) n ns)

  pub order_ascends : Ascends (order d)
  order_ascends = levels_ascend 0 (suc (count d)) (reached d)

  placed_before : (c k : ℕ) (rest : List ℕ) (same here : Bool) → (here ≡ true → place_in c rest < k) → (if same then 0 else (if here then suc (place_in c rest) else 0)) < suc k
  placed_before c k rest true here later = omega arith
  placed_before c k rest false true later = let h : place_in c rest < k = later refl in omega arith
  placed_before c k rest false false later = omega arith

  -- what is lower stands before
  place_before : (c j : ℕ) (ns : List ℕ) (k : ℕ) → Ascends ns → slice_get ns k ≡ Some j → has_number c ns ≡ true → height d c < height d j → place_in c ns < k
  place_before c j [] k asc is here lower = absurd cc
  place_before c j (n ∷ rest) zero asc is here lower =
      let same : n ≡ j = cc in
      let few : height d j ≤ height d c = ⊎_elim (λ e. let h : height d c ≡ height d j = ap (height d) (sym e ∙ same) in omega arith)
      (λ i. subst (λ z. height d z ≤ height d c) same (none_in (height d n) rest c asc.0 i)) (number_in c (n ∷ rest) here) in
      absurd (omega arith)
  place_before c j (n ∷ rest) (suc k) asc is here lower = placed_before c k rest (nat_eq c n) (has_number c rest) (λ h. place_before c j rest k asc.1 is h lower)

kind_named : (kind : PlainKind) (c : ℕ) → In (component_of_kind kind) c → kind ≡ OfComponent c
kind_named (OfPrimitive primitive) c i = absurd i
kind_named (OfComponent k) c (inl e) = ap OfComponent e
kind_named (OfComponent k) c (inr none) = absurd none

pub record IsCellOf (cells : List PlainCell) (c : ℕ) : Type 0 where
  pub cell : PlainCell
  pub stands : In cells cell
  pub is : cell.kind ≡ OfComponent c

cell_named : (c : ℕ) (cells : List PlainCell) → In (components_of cells) c → IsCellOf cells c
cell_named c [] i = absurd i
cell_named c (cell ∷ cells) i =
    of_joined (component_of_kind cell.kind) (components_of cells) c i (λ j. record { cell = cell; stands = inl refl; is = kind_named cell.kind c j })
    (λ j. let r = cell_named c cells j in record { cell = r.cell; stands = inr r.stands; is = r.is })

module _ (d : PlainDesign) (rules : IsDesign d) where
  abbrev low : PlainLowereds
  low = lowered_of d

  abbrev places : List ℕ
  places = order low

  abbrev levels : ℕ
  levels = length d.components

  pub no_timer : (k c : ℕ) (cell : PlainCell) → In (timer_cells (component_at d k)) cell → cell.kind ≡ OfComponent c → ⊥
  no_timer k c cell i is =
      let among : has_number c (components_of (timer_cells (component_at d k) ++ [])) ≡ true = number_of_cell c cell (timer_cells (component_at d k)) [] is i in
      let none : has_number c (components_of (timer_cells (component_at d k) ++ [])) ≡ false =
      ap (λ cells. has_number c (components_of cells)) (append-nil (timer_cells (component_at d k))) ∙ ap (has_number c) (components_of-timer_cells (component_at d k)) in
      cc

  -- the components below one are those of its cells
  pub cell_below : (k c : ℕ) → k < levels → In (below low k) c → IsCellOf (component_at d k).cells c
  cell_below k c within i =
      let all : below low k ≡ components_of ((component_at d k).cells ++ timer_cells (component_at d k)) =
      ap (λ o. components_of (cells_at o)) (part_there d rules k within) ∙ ap components_of (cells-lowered_component (component_at d k)) in
      let r = cell_named c ((component_at d k).cells ++ timer_cells (component_at d k)) (subst (λ ns. In ns c) all i) in
      of_joined (component_at d k).cells (timer_cells (component_at d k)) r.cell r.stands
      (λ j. record { cell = r.cell; stands = j; is = r.is }) (λ j. absurd (no_timer k c r.cell j r.is))

  -- CELLS of components of the net are of components of the net
  closed_from : (n k : ℕ) (seen : List ℕ) → IsWay d rules k seen → n + length seen ≡ levels → Reaches d rules n k → (x : ℕ) → has_number x (reached_from low n k) ≡ true
      → (cell : PlainCell) (j : ℕ) → In (component_at d x).cells cell → cell.kind ≡ OfComponent j → has_number j places ≡ true
  closed_from zero k seen way left reach x h cell j i is = let few = few_of_design d rules k seen way in absurd (omega (arith, few, left))
  closed_from (suc n) k seen way left reach x h cell j i is =
      ⊎_elim
      (λ e. let step = step_on d rules n k seen way reach cell j (subst (λ y. In (component_at d y).cells cell) (sym e) i) is in here_of d rules j (k ∷ seen) step.way)
      (λ m. let r = in_flat_map (reached_from low n) (below low k) x m in
      let own = cell_below k r.0 (there d rules k (here_of d rules k seen way)) r.1 in
      let step = step_on d rules n k seen way reach own.cell r.0 own.stands own.is in
      closed_from n r.0 (k ∷ seen) step.way (omega (arith, left)) step.reach x (in_number x (reached_from low n r.0) r.2) cell j i is)
      (number_in x (reached_from low (suc n) k) h)

  pub from_main : (k : ℕ) → has_number k places ≡ true → has_number k (reached_from low (count low) low.main) ≡ true
  from_main k here =
      let r = in_flat_map (λ h. level low h (reached low)) (numbers_from 0 (suc (count low))) k (number_in k places here) in
      passes (λ j. has_number j (reached_from low (count low) low.main)) (numbers_from 0 (count low)) k (in_filter (λ j. nat_eq (height low j) r.0) (reached low) k r.2)

  pub closed : (k : ℕ) → has_number k places ≡ true → (cell : PlainCell) (j : ℕ) → In (component_at d k).cells cell → cell.kind ≡ OfComponent j → has_number j places ≡ true
  closed k here =
      let main_there : low.main < length low.components = subst (λ n. d.main < n) (sym (count_is d rules)) rules.main_there in
      closed_from levels d.main [] (alone d rules d.main (order_main low main_there)) (omega arith)
      (λ x h. subst (λ n. has_number x (reached_from low n d.main) ≡ true) (sym (count_is d rules)) h) k
      (subst (λ n. has_number k (reached_from low n d.main) ≡ true) (count_is d rules) (from_main k here))

  -- HEIGHTS are the same where more levels are looked at
  stable : (n k : ℕ) (seen : List ℕ) → IsWay d rules k seen → levels ≤ n + length seen → height_of low n k ≡ height_of low (suc n) k
  stable zero k seen way far = let few = few_of_design d rules k seen way in absurd (omega (arith, few, far))
  stable (suc n) k seen way far =
      ap (highest low)
      (map_alike (λ c. suc (height_of low n c)) (λ c. suc (height_of low (suc n) c)) (below low k)
      (λ c i. let here = here_of d rules k seen way in
      let own = cell_below k c (there d rules k here) i in
      ap suc (stable n c (k ∷ seen) (way_on d rules k c seen way (by_cell c own.cell own.stands own.is) (closed k here own.cell c own.stands own.is)) (omega (arith, far)))))

  lower_at : (m n k c : ℕ) → m ≡ suc n → In (below low k) c → height_of low n c ≡ height_of low (suc n) c → height_of low m c < height_of low m k
  lower_at m n k c e i same =
      let high : suc (height_of low n c) ≤ highest low (map (λ x. suc (height_of low n x)) (below low k)) =
      highest_has low (map (λ x. suc (height_of low n x)) (below low k)) (suc (height_of low n c)) (in_map (λ x. suc (height_of low n x)) (below low k) c i) in
      let at_level : height_of low (suc n) c < height_of low (suc n) k = subst (λ h. h < height_of low (suc n) k) same high in
      subst (λ x. height_of low x c < height_of low x k) (sym e) at_level

  some_level : (m k : ℕ) → k < m → (n : ℕ) × (m ≡ suc n)
  some_level zero k h = absurd (omega arith)
  some_level (suc n) k h = (n, refl)

  pub lower : (k : ℕ) → has_number k places ≡ true → (cell : PlainCell) (c : ℕ) → In (component_at d k).cells cell → cell.kind ≡ OfComponent c → height low c < height low k
  lower k here cell c i is =
      let within : k < levels = there d rules k here in
      let on = subst (λ x. k < x) (sym (count_is d rules)) within in
      let n = some_level (count low) k on in
      let long : count low ≡ suc n.0 = n.1 in
      let all : count low ≡ levels = count_is d rules in
      let below_it : has_number c (below low k) ≡ true =
      ap (λ o. has_number c (components_of (cells_at o))) (part_there d rules k within)
      ∙ ap (λ cells. has_number c (components_of cells)) (cells-lowered_component (component_at d k))
      ∙ number_of_cell c cell (component_at d k).cells (timer_cells (component_at d k)) is i in
      lower_at (count low) n.0 k c n.1 (number_in c (below low k) below_it)
      (stable n.0 c (k ∷ []) (way_on d rules k c [] (alone d rules k here) (by_cell c cell i is) (closed k here cell c i is)) (omega (arith, long, all)))

  -- THE COMPONENT OF A CELL stands before that of the cell
  pub cell_first : (n k : ℕ) → slice_get places n ≡ Some k → (cell : PlainCell) (c : ℕ) → In (component_at d k).cells cell → cell.kind ≡ OfComponent c → place_in c places < n
  cell_first n k is cell c i kind =
      let here = in_number k places (in_at places n k is) in
      place_before low c k places n (order_ascends low) is (closed k here cell c i kind) (lower k here cell c i kind)

  -- the component at a place is made of that of the design
  pub stands_at : (n k : ℕ) → slice_get places n ≡ Some k → net_component_at (net_of low) n ≡ wired_in d (component_at d k)
  stands_at n k is =
      get_or_map (net_component low) (filter_map (slice_get low.components) places) n (lowered_component (component_at d k)) no_net_component
      (slice_get-named low.components (λ j. lowered_component (component_at d j)) places (λ j i. part_there d rules j (there d rules j (in_number j places i))) n k is)
