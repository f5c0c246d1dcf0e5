-- The main component of the net of a design stands at its place, with the external memories of the design.
use Rattle.std.proofs.Common.{◌≡◌, ◌⊎◌, inl, inr, ℕ, zero, suc, ◌+◌, ◌<◌, ◌≤◌, Bool, true, false, ◌||◌, cond, if◌then◌else◌, List, [], ◌∷◌, ◌++◌, Some, length, map, slice_get, get_or, nat_eq, refl, ap, sym, ◌∙◌, subst, arith, eq-eqb}
use Rattle.std.specs.Prelude.{filter, flat_map, filter_map, option_map}
use Rattle.std.specs.List.{cons_option}
use Rattle.std.proofs.lemmas.Bool.Decides.{eqb_tells}
use Rattle.std.proofs.lemmas.List.{length-map}
use Rattle.std.proofs.lemmas.Option.{slice_get-map, slice_get-get_or}
use Rattle.cx_text.specs.Loading.{PlainRow}
use Rattle.cx_meaning.specs.Designs.{PlainKind, OfPrimitive, OfComponent, PlainCell, PlainDesign, no_component, component_at}
use Rattle.cx_rules.specs.Wellformed.{first_number}
use Rattle.cx_rules.specs.Externals.{numbers_of, sizes_in, row_for, if_external, rows_of, external_rows}
use Rattle.cx_net.specs.NetTree.{no_net_component, net_component_at}
use Rattle.cx_static.specs.Islands.{PlainLowered, PlainLowereds}
use Rattle.cx_static.specs.Lowering.{lowered_component, lowered_of}
use Rattle.cx_wiring.proofs.ExternalLaws.{rows_of-lowered_component}
use Rattle.cx_wiring.specs.Reached.{numbers_from, has_number, place_in, below, reached_from, highest, height_of, count, height, reached, order}
use Rattle.cx_wiring.specs.Wiring.{kind_in, cell_in, net_component, net_of}
use Rattle.std.proofs.lemmas.Bool.{or_right}
use Rattle.cx_text.proofs.BoolLaws.{or_second}

-- whether a number is another one
abbrev pub Tells : ℕ → ℕ → Type 0
Tells k x = ((nat_eq k x ≡ true) × (k ≡ x)) ⊎ ((nat_eq k x ≡ false) × (k ≡ x → ⊥))

module _ (k : ℕ) where
  pub number_left : (xs ys : List ℕ) → has_number k xs ≡ true → has_number k (xs ++ ys) ≡ true
  number_left [] ys h = absurd (cc)
  number_left (x ∷ xs) ys h = or_second (nat_eq k x) (has_number k xs) (has_number k (xs ++ ys)) (number_left xs ys) h

  pub number_right : (xs ys : List ℕ) → has_number k ys ≡ true → has_number k (xs ++ ys) ≡ true
  number_right [] ys h = h
  number_right (x ∷ xs) ys h = or_right (nat_eq k x) (has_number k (xs ++ ys)) (number_right xs ys h)

  either_first : (b : Bool) (xs ys : List ℕ) → (has_number k (xs ++ ys) ≡ true → (has_number k xs ≡ true) ⊎ (has_number k ys ≡ true)) → (b || has_number k (xs ++ ys)) ≡ true
      → ((b || has_number k xs) ≡ true) ⊎ (has_number k ys ≡ true)
  either_first true xs ys later h = inl refl
  either_first false xs ys later h = later h

  number_either : (xs ys : List ℕ) → has_number k (xs ++ ys) ≡ true → (has_number k xs ≡ true) ⊎ (has_number k ys ≡ true)
  number_either [] ys h = inr h
  number_either (x ∷ xs) ys h = either_first (nat_eq k x) xs ys (number_either xs ys) h

  filter_one : (p : ℕ → Bool) (x : ℕ) (xs : List ℕ) (b : Bool) → p x ≡ b → Tells k x → p k ≡ true → (has_number k xs ≡ true → has_number k (filter p xs) ≡ true) → has_number k (x ∷ xs) ≡ true
      → has_number k (cond b (x ∷ filter p xs) (filter p xs)) ≡ true
  filter_one p x xs true is s passes later h = or_second (nat_eq k x) (has_number k xs) (has_number k (filter p xs)) later h
  filter_one p x xs false is (inl e) passes later h = let same = ap p e.1 in absurd (cc)
  filter_one p x xs false is (inr e) passes later h = later (ap (λ b. b || has_number k xs) (sym e.0) ∙ h)

  -- a number that a list has and that passes a test is among those that do, and no other is
  number_filter : (p : ℕ → Bool) (xs : List ℕ) → p k ≡ true → has_number k xs ≡ true → has_number k (filter p xs) ≡ true
  number_filter p [] passes h = absurd (cc)
  number_filter p (x ∷ xs) passes h = filter_one p x xs (p x) refl (eqb_tells k x) passes (number_filter p xs passes) h

  one_filter : (x : ℕ) (xs ys : List ℕ) (b : Bool) → (has_number k ys ≡ true → has_number k xs ≡ true) → has_number k (cond b (x ∷ ys) ys) ≡ true → has_number k (x ∷ xs) ≡ true
  one_filter x xs ys true later h = or_second (nat_eq k x) (has_number k ys) (has_number k xs) later h
  one_filter x xs ys false later h = or_right (nat_eq k x) (has_number k xs) (later h)

  filter_number : (p : ℕ → Bool) (xs : List ℕ) → has_number k (filter p xs) ≡ true → has_number k xs ≡ true
  filter_number p [] h = h
  filter_number p (x ∷ xs) h = one_filter x xs (filter p xs) (p x) (filter_number p xs) h

  flat_map_number : (f : ℕ → List ℕ) (whole hs : List ℕ) → ((h : ℕ) → has_number k (f h) ≡ true → has_number k whole ≡ true) → has_number k (flat_map f hs) ≡ true → has_number k whole ≡ true
  flat_map_number f whole [] each h = absurd (cc)
  flat_map_number f whole (x ∷ hs) each h = elim (number_either (f x) (flat_map f hs) h) [ inl e ↦ each x e | inr e ↦ flat_map_number f whole hs each e ]

  flat_map_one : (h x : ℕ) (f : ℕ → List ℕ) (hs : List ℕ) → Tells h x → (has_number h hs ≡ true → has_number k (flat_map f hs) ≡ true) → has_number h (x ∷ hs) ≡ true → has_number k (f h) ≡ true
      → has_number k (f x ++ flat_map f hs) ≡ true
  flat_map_one h x f hs (inl e) later at here = number_left (f x) (flat_map f hs) (ap (λ y. has_number k (f y)) (sym e.1) ∙ here)
  flat_map_one h x f hs (inr e) later at here = number_right (f x) (flat_map f hs) (later (ap (λ b. b || has_number h hs) (sym e.0) ∙ at))

  pub number_flat_map : (h : ℕ) (f : ℕ → List ℕ) (hs : List ℕ) → has_number h hs ≡ true → has_number k (f h) ≡ true → has_number k (flat_map f hs) ≡ true
  number_flat_map h f [] at here = absurd (cc)
  number_flat_map h f (x ∷ hs) at here = flat_map_one h x f hs (eqb_tells h x) (λ later. number_flat_map h f hs later here) at here

  from_one : (a n : ℕ) → Tells k a → a ≤ k → (suc a ≤ k → has_number k (numbers_from (suc a) n) ≡ true) → has_number k (a ∷ numbers_from (suc a) n) ≡ true
  from_one a n (inl e) from later = ap (λ b. b || has_number k (numbers_from (suc a) n)) e.0
  from_one a n (inr e) from later = let other = e.1 in or_right (nat_eq k a) (has_number k (numbers_from (suc a) n)) (later (omega (arith, other)))

  pub number_from : (a n : ℕ) → a ≤ k → k < a + n → has_number k (numbers_from a n) ≡ true
  number_from a zero from below = absurd (omega arith)
  number_from a (suc n) from below = from_one a n (eqb_tells k a) from (λ next. number_from (suc a) n next (omega (arith, below)))

  one_from : (a n : ℕ) → Tells k a → (has_number k (numbers_from (suc a) n) ≡ true → k < suc a + n) → has_number k (a ∷ numbers_from (suc a) n) ≡ true → k < a + suc n
  one_from a n (inl e) later h = let same = e.1 in omega (arith, same)
  one_from a n (inr e) later h = let rest = later (ap (λ b. b || has_number k (numbers_from (suc a) n)) (sym e.0) ∙ h) in omega (arith, rest)

  from_number : (a n : ℕ) → has_number k (numbers_from a n) ≡ true → k < a + n
  from_number a zero h = absurd (cc)
  from_number a (suc n) h = one_from a n (eqb_tells k a) (from_number (suc a) n) h

module _ {A : Type 0} (xs : List A) (k : ℕ) where
  placed_one : (j : ℕ) (ks : List ℕ) (x : A) → slice_get xs j ≡ Some x → Tells k j
      → (has_number k ks ≡ true → slice_get (filter_map (slice_get xs) ks) (place_in k ks) ≡ slice_get xs k) → has_number k (j ∷ ks) ≡ true
      → slice_get (filter_map (slice_get xs) (j ∷ ks)) (place_in k (j ∷ ks)) ≡ slice_get xs k
  placed_one j ks x is (inl e) later h =
      ap (λ o. slice_get (cons_option o (filter_map (slice_get xs) ks)) (place_in k (j ∷ ks))) is
      ∙ ap (λ b. slice_get (x ∷ filter_map (slice_get xs) ks) (if b then 0 else (if has_number k ks then suc (place_in k ks) else 0))) e.0
      ∙ sym is ∙ ap (slice_get xs) (sym e.1)
  placed_one j ks x is (inr e) later h =
      let rest : has_number k ks ≡ true = ap (λ b. b || has_number k ks) (sym e.0) ∙ h in
      ap (λ o. slice_get (cons_option o (filter_map (slice_get xs) ks)) (place_in k (j ∷ ks))) is
      ∙ ap (λ b. slice_get (x ∷ filter_map (slice_get xs) ks) (if b then 0 else (if has_number k ks then suc (place_in k ks) else 0))) e.0
      ∙ ap (λ b. slice_get (x ∷ filter_map (slice_get xs) ks) (if b then suc (place_in k ks) else 0)) rest
      ∙ later rest

  -- where all numbers of a list name elements, those elements stand at the places of the numbers
  pub slice_get-placed : (d : A) (ks : List ℕ) → ((j : ℕ) → has_number j ks ≡ true → j < length xs) → has_number k ks ≡ true
      → slice_get (filter_map (slice_get xs) ks) (place_in k ks) ≡ slice_get xs k
  slice_get-placed d [] within h = absurd (cc)
  slice_get-placed d (j ∷ ks) within h =
      placed_one j ks (get_or xs j d) (slice_get-get_or xs j d (within j (ap (λ b. b || has_number j ks) (eq-eqb j j refl)))) (eqb_tells k j)
      (slice_get-placed d ks (λ i there. within i (or_right (nat_eq i j) (has_number i ks) there))) h

pub get_or_map : {A B : Type 0} (f : A → B) (xs : List A) (k : ℕ) (x : A) (z : B) → slice_get xs k ≡ Some x → get_or (map f xs) k z ≡ f x
get_or_map f [] k x z is = absurd (cc)
get_or_map f (y ∷ xs) zero x z is = let same : y ≡ x = cc in ap f same
get_or_map f (y ∷ xs) (suc k) x z is = get_or_map f xs k x z is

module _ (d : PlainLowereds) where
  highest_few : (levels : ℕ) (cs : List ℕ) → ((c : ℕ) → height_of d levels c ≤ levels) → highest d (map (λ c. suc (height_of d levels c)) cs) ≤ suc levels
  highest_few levels [] each = omega arith
  highest_few levels (c ∷ cs) each = let own = each c in let rest = highest_few levels cs each in omega (arith, own, rest)

  pub height_few : (levels k : ℕ) → height_of d levels k ≤ levels
  height_few zero k = omega arith
  height_few (suc levels) k = highest_few levels (below d k) (height_few levels)

  pub reaches_itself : (levels k : ℕ) → has_number k (reached_from d levels k) ≡ true
  reaches_itself zero k = ap (λ b. b || false) (eq-eqb k k refl)
  reaches_itself (suc levels) k = ap (λ b. b || has_number k (flat_map (reached_from d levels) (below d k))) (eq-eqb k k refl)

  -- the numbers of the net's components are those of components
  pub order_below : (k : ℕ) → has_number k (order d) ≡ true → k < length d.components
  order_below k h =
      let one : has_number k (reached d) ≡ true =
      flat_map_number k (λ h. filter (λ j. nat_eq (height d j) h) (reached d)) (reached d) (numbers_from 0 (suc (count d))) (λ h. filter_number k (λ j. nat_eq (height d j) h) (reached d)) h in
      let among : has_number k (numbers_from 0 (count d)) ≡ true = filter_number k (λ j. has_number j (reached_from d (count d) d.main)) (numbers_from 0 (count d)) one in
      let least : k < 0 + count d = from_number k 0 (count d) among in
      omega (arith, least)

  -- a component that main reaches is one of them
  pub order_reached : (k : ℕ) → k < length d.components → has_number k (reached_from d (count d) d.main) ≡ true → has_number k (order d) ≡ true
  order_reached k within from_main =
      let some : has_number k (numbers_from 0 (count d)) ≡ true = number_from k 0 (count d) (omega arith) (omega (arith, within)) in
      let one : has_number k (reached d) ≡ true = number_filter k (λ j. has_number j (reached_from d (count d) d.main)) (numbers_from 0 (count d)) from_main some in
      let few : height d k ≤ count d = height_few (count d) k in
      number_flat_map k (height d k) (λ h. filter (λ j. nat_eq (height d j) h) (reached d)) (numbers_from 0 (suc (count d)))
      (number_from (height d k) 0 (suc (count d)) (omega arith) (omega (arith, few)))
      (number_filter k (λ j. nat_eq (height d j) (height d k)) (reached d) (eq-eqb (height d k) (height d k) refl) one)

  -- the net's component at the place of a number is made of that of the design
  pub net_component_at-place_in : (k : ℕ) (lowered : PlainLowered) → has_number k (order d) ≡ true → slice_get d.components k ≡ Some lowered → net_component_at (net_of d) (place_in k (order d)) ≡ net_component d lowered
  net_component_at-place_in k lowered here is =
      get_or_map (net_component d) (filter_map (slice_get d.components) (order d)) (place_in k (order d)) lowered no_net_component
      (slice_get-placed d.components k lowered (order d) order_below here ∙ is)

  module _ (within : d.main < length d.components) where
    -- main is one of them
    pub order_main : has_number d.main (order d) ≡ true
    order_main = order_reached d.main within (reaches_itself (count d) d.main)

    -- the net's main component is made of that of the design
    pub net_component_at-main : (lowered : PlainLowered) → slice_get d.components d.main ≡ Some lowered → net_component_at (net_of d) (net_of d).main ≡ net_component d lowered
    net_component_at-main lowered is = net_component_at-place_in d.main lowered order_main is

numbers_of-kind_in : (numbers : List ℕ) (kind : PlainKind) → numbers_of (kind_in numbers kind) ≡ numbers_of kind
numbers_of-kind_in numbers (OfPrimitive primitive) = refl
numbers_of-kind_in numbers (OfComponent k) = refl

if_external-same : (b : Bool) (c e : PlainCell) (rows : List PlainRow) → row_for c ≡ row_for e → if_external b c rows ≡ if_external b e rows
if_external-same true c e rows same = ap (λ row. row ∷ rows) same
if_external-same false c e rows same = refl

-- other numbers of components leave the external memories
pub rows_of-cell_in : (numbers : List ℕ) (cells : List PlainCell) → rows_of (map (cell_in numbers) cells) ≡ rows_of cells
rows_of-cell_in numbers [] = refl
rows_of-cell_in numbers (c ∷ cells) =
    ap (if_external c.external (cell_in numbers c)) (rows_of-cell_in numbers cells)
    ∙ if_external-same c.external (cell_in numbers c) c (rows_of cells)
    (ap (λ ns. record { name = c.name; width = first_number ns; sizes = sizes_in ns }) (numbers_of-kind_in numbers c.kind))

-- THE EXTERNAL MEMORIES of the net of a design are those of the design
pub rows_of-net_of : (d : PlainDesign) → d.main < length d.components → rows_of (net_component_at (net_of (lowered_of d)) (net_of (lowered_of d)).main).cells ≡ external_rows d
rows_of-net_of d within =
    let lowered : PlainLowered = lowered_component (component_at d d.main) in
    let there : d.main < length (lowered_of d).components = subst (λ n. d.main < n) (sym (length-map d.components lowered_component)) within in
    ap (λ part. rows_of part.cells) (net_component_at-main (lowered_of d) there lowered (slice_get-map lowered_component d.components d.main ∙ ap (option_map lowered_component) (slice_get-get_or d.components d.main no_component within)))
    ∙ rows_of-cell_in (order (lowered_of d)) lowered.part.cells
    ∙ rows_of-lowered_component (component_at d d.main)
