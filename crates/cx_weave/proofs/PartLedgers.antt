-- The ledger of what is left of a statement behind a turn of its part.
use Rattle.std.proofs.Common.{◌≡◌, ℕ, ◌+◌, ◌<◌, Option, Some, None, ap, arith}
use Rattle.std.specs.Prelude.{vec_len, vec_capacity}
use Rattle.cx_weave.specs.declared.needs.Piece.TheVariants as pieces
use Rattle.cx_weave.specs.declared.spares.Spares.{Spares}
use Rattle.cx_weave.specs.declared.strands.Strand.{Strand}
use Rattle.cx_weave.specs.declared.strands.Arms.{Arms}
use Rattle.cx_weave.specs.Ledger.{Kind, Pieces, amount, arms_amount, left_amount, arms_left_amount, box_amount, arms_box_amount, Ledger, Opened, HasPlaces}
use Rattle.cx_weave.proofs.Ledgers.{and_then, beside_rest}

-- the same, said in another way
pub same_amounts : (s : Spares) (before after : Kind → ℕ) → ((x : Kind) → before x ≡ after x) → Ledger s s before after
same_amounts s before after is = record { most = λ x. (let e = is x in omega (arith, e)); least = λ k. (let e = is (Pieces k) in omega (arith, e)); places = λ k. omega arith }

pub told_before : (old new : Spares) (b before after : Kind → ℕ) → ((x : Kind) → before x ≡ b x) → Ledger old new b after → Ledger old new before after
told_before old new b before after is l = record {
  most = λ x. (let e = is x in let h = l.most x in omega (arith, e, h));
  least = λ k. (let e = is (Pieces k) in let h = l.least k in omega (arith, e, h));
  places = l.places;
}

pub told_after : (old new : Spares) (before a after : Kind → ℕ) → ((x : Kind) → after x ≡ a x) → Ledger old new before a → Ledger old new before after
told_after old new before a after is l = record {
  most = λ x. (let e = is x in let h = l.most x in omega (arith, e, h));
  least = λ k. (let e = is (Pieces k) in let h = l.least k in omega (arith, e, h));
  places = l.places;
}

-- A BOX goes back to its place
pub one_place : (s : Spares) → HasPlaces s box_amount → vec_len s.boxes < vec_capacity s.boxes
one_place s places = (let p = places pieces.Boxes in omega (arith, p))

-- what is open behind it is in the same box
pub next_boxed : (old new : Spares) (run whole : Strand) → Opened old new run → ((x : Kind) → amount x whole ≡ box_amount x + amount x run) → Ledger old new box_amount (λ x. left_amount x (Some whole))
next_boxed old new run whole l is =
    beside_rest old new (λ x. 0) (λ x. amount x run) box_amount (λ x. left_amount x (Some whole)) box_amount l (λ x. omega arith) (λ x. (let e = is x in omega (arith, e)))

-- a leaf is open behind it
pub leaf_behind : (old new : Spares) (leaf : Strand) → Ledger old new box_amount (λ x. 0) → ((x : Kind) → amount x leaf ≡ 0) → Ledger old new box_amount (λ x. left_amount x (Some leaf))
leaf_behind old new leaf l is = told_after old new box_amount (λ x. 0) (λ x. left_amount x (Some leaf)) is l

-- ARMS
pub one_arms_place : (s : Spares) → HasPlaces s arms_box_amount → vec_len s.arms < vec_capacity s.arms
one_arms_place s places = (let p = places pieces.Arms in omega (arith, p))

-- halves: of two, what is had of the one and of the other
pub halves_kept : (s : Spares) (left : Option Arms) (arms whole : Arms) (other both : Kind → ℕ) → left ≡ Some arms → ((x : Kind) → both x ≡ (arms_box_amount x + arms_left_amount x left) + (arms_box_amount x + other x))
    → ((x : Kind) → arms_amount x whole ≡ (arms_box_amount x + arms_amount x arms) + (arms_box_amount x + other x)) → Ledger s s both (λ x. arms_amount x whole)
halves_kept s left arms whole other both some split is =
    same_amounts s both (λ x. arms_amount x whole) (λ x. (let e : arms_left_amount x left ≡ arms_amount x arms = ap (arms_left_amount x) some in let f = is x in let g = split x in omega (arith, e, f, g)))

-- where one has ended both boxes go back, one behind the other
pub half_alone : (old mid new : Spares) (left : Option Arms) (whole other : Arms) (both : Kind → ℕ) → left ≡ None → whole ≡ other → ((x : Kind) → both x ≡ (arms_box_amount x + arms_left_amount x left) + (arms_box_amount x + arms_amount x other))
    → Ledger old mid arms_box_amount (λ x. 0) → Ledger mid new arms_box_amount (λ x. 0) → Ledger old new both (λ x. arms_amount x whole)
half_alone old mid new left whole other both none is split one two =
    and_then old mid new arms_box_amount (λ x. 0) arms_box_amount (λ x. 0) both (λ x. arms_amount x whole) (λ x. arms_box_amount x + arms_amount x other) (λ x. arms_amount x other) one two
    (λ x. (let e : arms_left_amount x left ≡ 0 = ap (arms_left_amount x) none in let g = split x in omega (arith, e, g))) (λ x. omega arith) (λ x. (let e : arms_amount x whole ≡ arms_amount x other = ap (arms_amount x) is in omega (arith, e)))

pub half_place : (s : Spares) (left : Option Arms) (other both : Kind → ℕ) → ((x : Kind) → both x ≡ (arms_box_amount x + arms_left_amount x left) + (arms_box_amount x + other x)) → HasPlaces s both → vec_len s.arms < vec_capacity s.arms
half_place s left other both split places = (let p = places pieces.Arms in let g = split (Pieces pieces.Arms) in omega (arith, p, g))

pub other_place : (old mid : Spares) (left : Option Arms) (other both : Kind → ℕ) → ((x : Kind) → both x ≡ (arms_box_amount x + arms_left_amount x left) + (arms_box_amount x + other x)) → HasPlaces old both → Ledger old mid arms_box_amount (λ x. 0) → HasPlaces mid arms_box_amount
other_place old mid left other both split places l k = (let p = places k in let g = split (Pieces k) in let h = l.most (Pieces k) in let q = l.places k in omega (arith, p, g, h, q))
