-- Ledgers of what is taken from the spare parts and given back, and ledgers one behind the other.
use Rattle.std.proofs.Common.{◌≡◌, ℕ, ◌+◌, ◌-◌, ◌≤◌, Vec, Global, List, [], ◌∷◌, ◌++◌, length, Some, refl, ap, ◌∙◌, arith}
use Rattle.std.specs.Prelude.{vec_len, vec_capacity}
use Rattle.cx_meaning.specs.declared.sights.Seen.{Seen}
use Rattle.cx_weave.specs.declared.needs.Piece.{Piece}
use Rattle.cx_weave.specs.declared.needs.Piece.TheVariants as pieces
use Rattle.cx_weave.specs.declared.spares.IslandLists.{IslandLists}
use Rattle.cx_weave.specs.declared.spares.Spares.{Spares}
use Rattle.cx_weave.specs.Ledger.{Kind, Pieces, Lacks, island_amount, inputs_amount, total, lists_lack, stock, places_for, Ledger}

module _ (old new : Spares) where
  -- what was spare is in hand now, and what was in hand is spare
  pub taking : (hand : Kind → ℕ) → ((x : Kind) → stock x new + hand x ≡ stock x old) → ((k : Piece) → places_for k old ≤ places_for k new) → Ledger old new (λ x. 0) hand
  taking hand is room = record {
    most = λ x. (let e = is x in omega (arith, e));
    least = λ k. (let e = is (Pieces k) in omega (arith, e));
    places = room;
  }

  pub giving : (hand : Kind → ℕ) → ((x : Kind) → stock x new ≡ stock x old + hand x) → ((k : Piece) → places_for k old ≤ places_for k new) → Ledger old new hand (λ x. 0)
  giving hand is room = record {
    most = λ x. (let e = is x in omega (arith, e));
    least = λ k. (let e = is (Pieces k) in omega (arith, e));
    places = room;
  }

-- nothing is done
pub untouched : (s : Spares) (hand : Kind → ℕ) → Ledger s s hand hand
untouched s hand = record { most = λ x. omega arith; least = λ k. omega arith; places = λ k. omega arith }

-- beside what is left alone
pub beside_rest : (old new : Spares) (b a before after rest : Kind → ℕ) → Ledger old new b a → ((x : Kind) → before x ≡ b x + rest x) → ((x : Kind) → after x ≡ a x + rest x) → Ledger old new before after
beside_rest old new b a before after rest l first last = record {
  most = λ x. (let h = l.most x in let e = first x in let f = last x in omega (arith, h, e, f));
  least = λ k. (let h = l.least k in let e = first (Pieces k) in let f = last (Pieces k) in omega (arith, h, e, f));
  places = l.places;
}

-- one behind the other, with other things left alone in each
pub and_then : (old mid new : Spares) (b m c a before after r s : Kind → ℕ) → Ledger old mid b m → Ledger mid new c a
    → ((x : Kind) → before x ≡ b x + r x) → ((x : Kind) → m x + r x ≡ c x + s x) → ((x : Kind) → after x ≡ a x + s x) → Ledger old new before after
and_then old mid new b m c a before after r s one two first middle last = record {
  most = λ x. (let h = one.most x in let i = two.most x in let e = first x in let f = middle x in let g = last x in omega (arith, h, i, e, f, g));
  least = λ k. (let h = one.least k in let i = two.least k in let e = first (Pieces k) in let f = middle (Pieces k) in let g = last (Pieces k) in omega (arith, h, i, e, f, g));
  places = λ k. (let h = one.places k in let i = two.places k in omega (arith, h, i));
}

pub total_last : {A : Type 0} (f : A → ℕ) (xs : List A) (x : A) → total f (xs ++ x ∷ []) ≡ total f xs + f x
total_last f [] x = omega arith
total_last f (y ∷ xs) x = (let h = total_last f xs x in omega (arith, h))

-- LISTS OF ISLANDS
module _ (s : Spares) (islands : Vec IslandLists Global) (lists : IslandLists) where
  abbrev with_islands : Spares
  with_islands = record { boxes = s.boxes; arms = s.arms; islands = islands; inputs = s.inputs; marks = s.marks }

  abbrev its_amount : Kind → ℕ
  its_amount x = island_amount x (vec_capacity lists.cells) (length lists.samples.items)

  islands_places : vec_capacity s.islands ≤ vec_capacity islands → (k : Piece) → places_for k s ≤ places_for k with_islands
  islands_places wide pieces.Boxes = omega arith
  islands_places wide pieces.Arms = omega arith
  islands_places wide pieces.Islands = wide
  islands_places wide pieces.Inputs = omega arith

  island_less : s.islands.items ≡ islands.items ++ lists ∷ [] → vec_len islands + 1 ≡ vec_len s.islands → (x : Kind) → stock x with_islands + its_amount x ≡ stock x s
  island_less are is (Pieces pieces.Boxes) = omega arith
  island_less are is (Pieces pieces.Arms) = omega arith
  island_less are is (Pieces pieces.Islands) = is
  island_less are is (Pieces pieces.Inputs) = omega arith
  island_less are is (Lacks l) = (let e : total (lists_lack l) s.islands.items ≡ total (lists_lack l) islands.items + lists_lack l lists = ap (total (lists_lack l)) are ∙ total_last (lists_lack l) islands.items lists in omega (arith, e))

  island_more : islands.items ≡ s.islands.items ++ lists ∷ [] → vec_len islands ≡ vec_len s.islands + 1 → (x : Kind) → stock x with_islands ≡ stock x s + its_amount x
  island_more are is (Pieces pieces.Boxes) = omega arith
  island_more are is (Pieces pieces.Arms) = omega arith
  island_more are is (Pieces pieces.Islands) = is
  island_more are is (Pieces pieces.Inputs) = omega arith
  island_more are is (Lacks l) = (let e : total (lists_lack l) islands.items ≡ total (lists_lack l) s.islands.items + lists_lack l lists = ap (total (lists_lack l)) are ∙ total_last (lists_lack l) s.islands.items lists in omega (arith, e))

  pub island_taken : s.islands.items ≡ islands.items ++ lists ∷ [] → vec_len islands + 1 ≡ vec_len s.islands → vec_capacity islands ≡ vec_capacity s.islands → Ledger s with_islands (λ x. 0) its_amount
  island_taken are is wide = taking s with_islands its_amount (island_less are is) (islands_places (omega (arith, wide)))

  pub island_given : islands.items ≡ s.islands.items ++ lists ∷ [] → vec_len islands ≡ vec_len s.islands + 1 → vec_capacity s.islands ≤ vec_capacity islands → Ledger s with_islands its_amount (λ x. 0)
  island_given are is wide = giving s with_islands its_amount (island_more are is) (islands_places wide)

-- LISTS OF INPUTS
module _ (s : Spares) (inputs : Vec (Vec Seen Global) Global) (list : Vec Seen Global) where
  abbrev with_inputs : Spares
  with_inputs = record { boxes = s.boxes; arms = s.arms; islands = s.islands; inputs = inputs; marks = s.marks }

  abbrev list_amount : Kind → ℕ
  list_amount x = inputs_amount (λ v. vec_capacity v) x (Some list)

  inputs_places : vec_capacity s.inputs ≤ vec_capacity inputs → (k : Piece) → places_for k s ≤ places_for k with_inputs
  inputs_places wide pieces.Boxes = omega arith
  inputs_places wide pieces.Arms = omega arith
  inputs_places wide pieces.Islands = omega arith
  inputs_places wide pieces.Inputs = wide

  inputs_less : s.inputs.items ≡ inputs.items ++ list ∷ [] → vec_len inputs + 1 ≡ vec_len s.inputs → (x : Kind) → stock x with_inputs + list_amount x ≡ stock x s
  inputs_less are is (Pieces pieces.Boxes) = omega arith
  inputs_less are is (Pieces pieces.Arms) = omega arith
  inputs_less are is (Pieces pieces.Islands) = omega arith
  inputs_less are is (Pieces pieces.Inputs) = is
  inputs_less are is (Lacks l) =
      let e : total (λ v. l.inputs - vec_capacity v) s.inputs.items ≡ total (λ v. l.inputs - vec_capacity v) inputs.items + (l.inputs - vec_capacity list) =
      ap (total (λ v. l.inputs - vec_capacity v)) are ∙ total_last (λ v. l.inputs - vec_capacity v) inputs.items list in
      omega (arith, e)

  inputs_more : inputs.items ≡ s.inputs.items ++ list ∷ [] → vec_len inputs ≡ vec_len s.inputs + 1 → (x : Kind) → stock x with_inputs ≡ stock x s + list_amount x
  inputs_more are is (Pieces pieces.Boxes) = omega arith
  inputs_more are is (Pieces pieces.Arms) = omega arith
  inputs_more are is (Pieces pieces.Islands) = omega arith
  inputs_more are is (Pieces pieces.Inputs) = is
  inputs_more are is (Lacks l) =
      let e : total (λ v. l.inputs - vec_capacity v) inputs.items ≡ total (λ v. l.inputs - vec_capacity v) s.inputs.items + (l.inputs - vec_capacity list) =
      ap (total (λ v. l.inputs - vec_capacity v)) are ∙ total_last (λ v. l.inputs - vec_capacity v) s.inputs.items list in
      omega (arith, e)

  pub inputs_taken : s.inputs.items ≡ inputs.items ++ list ∷ [] → vec_len inputs + 1 ≡ vec_len s.inputs → vec_capacity inputs ≡ vec_capacity s.inputs → Ledger s with_inputs (λ x. 0) list_amount
  inputs_taken are is wide = taking s with_inputs list_amount (inputs_less are is) (inputs_places (omega (arith, wide)))

  pub inputs_given : inputs.items ≡ s.inputs.items ++ list ∷ [] → vec_len inputs ≡ vec_len s.inputs + 1 → vec_capacity s.inputs ≤ vec_capacity inputs → Ledger s with_inputs list_amount (λ x. 0)
  inputs_given are is wide = giving s with_inputs list_amount (inputs_more are is) (inputs_places wide)

  -- a list with no less room
  emptied_less : (other : Vec Seen Global) → vec_capacity other ≡ vec_capacity list → (x : Kind) → inputs_amount (λ v. vec_capacity v) x (Some other) ≡ list_amount x
  emptied_less other same (Pieces pieces.Boxes) = refl
  emptied_less other same (Pieces pieces.Arms) = refl
  emptied_less other same (Pieces pieces.Islands) = refl
  emptied_less other same (Pieces pieces.Inputs) = refl
  emptied_less other same (Lacks l) = omega (arith, same)

  pub same_room : (other : Vec Seen Global) → vec_capacity other ≡ vec_capacity list → Ledger s with_inputs (λ x. 0) list_amount → Ledger s with_inputs (λ x. 0) (λ x. inputs_amount (λ v. vec_capacity v) x (Some other))
  same_room other same l = beside_rest s with_inputs (λ x. 0) list_amount (λ x. 0) (λ x. inputs_amount (λ v. vec_capacity v) x (Some other)) (λ x. 0) l (λ x. omega arith) (λ x. (let e = emptied_less other same x in omega (arith, e)))
