-- The tests of a primitive's numbers.
use Rattle.std.specs.Prelude.{◌≡◌, ℕ, zero, suc, ◌+◌, ◌-◌, ◌*◌, ◌<◌, ◌≤◌, ◌^◌, ◌==◌, ◌&&◌, Bool, true, false, List, [], ◌∷◌, Option, Some, None, nat_lt, nat_le, slice_index, length, drop, if◌then◌else◌, refl}
use Rattle.std.specs.List.{list_all}
use Rattle.std.proofs.Common.{ap, sym, ◌∙◌, subst, arith, drop-cons, add-one}
use Rattle.std.proofs.Math.Nat.{mul_assoc, le-mul_of_pos_right}
use Rattle.std.proofs.lemmas.List.{drop_all}
use Rattle.std.proofs.lemmas.Bool.Decides.{nat_tests}
use Rattle.cx_bits.specs.BitVector.{BitVector}
use Rattle.cx_text.specs.Loading.{word_count}
use Rattle.cx_prim.specs.MemoryRows.{are_sizes}
use Rattle.cx_stateful.proofs.LocateLemmas.{split_at}
use Rattle.cx_text.proofs.LoadingLemmas.{word_count_positive}

abbrev pub are_positive : List ℕ → Bool
are_positive sizes = list_all (λ size. nat_le 1 size) sizes

-- the first sizes are at least 1, and their product is `count`
pub record IsCounting (sizes : List ℕ) (place count : ℕ) : Type 0 where
  pub product : count * word_count (drop place sizes) ≡ word_count sizes
  pub positive : are_positive (drop place sizes) ≡ are_positive sizes
  pub few : count < 2 ^ 32

pub IsCounting-next : (sizes : List ℕ) (place count : ℕ) → place < length sizes → 1 ≤ slice_index sizes place → count * slice_index sizes place < 2 ^ 32 → IsCounting sizes place count → IsCounting sizes (place + 1) (count * slice_index sizes place)
IsCounting-next sizes place count there some small far =
    let split = split_at sizes place there in
    let size = slice_index sizes place in
    let rest = drop (place + 1) sizes in
    let test : nat_le 1 size ≡ true = grind (arith, nat_tests) in
    record {
      product = mul_assoc count size (word_count rest) ∙ sym (ap (λ (xs : List ℕ). count * word_count xs) split) ∙ far.product;
      positive = sym (ap (λ (b : Bool). b && are_positive rest) test) ∙ sym (ap are_positive split) ∙ far.positive;
      few = small;
    }

false_sizes : (sizes : List ℕ) (b : Bool) → are_positive sizes ≡ false → (are_positive sizes && b) ≡ false
false_sizes sizes b off = ap (λ (a : Bool). a && b) off

-- a size of 0
pub are_sizes-zero : (sizes : List ℕ) (place count : ℕ) → place < length sizes → slice_index sizes place ≡ 0 → IsCounting sizes place count → are_sizes sizes ≡ false
are_sizes-zero sizes place count there none far =
    let split = split_at sizes place there in
    let off : are_positive sizes ≡ false = sym far.positive ∙ ap are_positive split ∙ ap (λ (size : ℕ). nat_le 1 size && are_positive (drop (place + 1) sizes)) none in
    false_sizes sizes (nat_lt (word_count sizes) (2 ^ 32)) off

-- a product that is too large, whatever comes behind it
pub are_sizes-large : (sizes : List ℕ) (place count : ℕ) → place < length sizes → 2 ^ 32 ≤ count * slice_index sizes place → IsCounting sizes place count → are_sizes sizes ≡ false
are_sizes-large sizes place count there large far = by_rest (are_positive rest) refl
  where
    rest : List ℕ
    rest = drop (place + 1) sizes

    size : ℕ
    size = slice_index sizes place

    and_false : (a : Bool) → (a && false) ≡ false
    and_false true = refl
    and_false false = refl

    by_rest : (b : Bool) → are_positive rest ≡ b → are_sizes sizes ≡ false
    by_rest false e =
        let split = split_at sizes place there in
        let off : are_positive sizes ≡ false = sym far.positive ∙ ap are_positive split ∙ ap (λ (b : Bool). nat_le 1 size && b) e ∙ and_false (nat_le 1 size) in
        false_sizes sizes (nat_lt (word_count sizes) (2 ^ 32)) off
    by_rest true e =
        let split = split_at sizes place there in
        let some : 1 ≤ word_count rest = word_count_positive rest e in
        let whole : count * size * word_count rest ≡ word_count sizes = mul_assoc count size (word_count rest) ∙ sym (ap (λ (xs : List ℕ). count * word_count xs) split) ∙ far.product in
        let grows : count * size ≤ count * size * word_count rest = le-mul_of_pos_right (count * size) some in
        let many : 2 ^ 32 ≤ word_count sizes = omega (arith, large, whole, grows) in
        let test : nat_lt (word_count sizes) (2 ^ 32) ≡ false = grind (arith, nat_tests) in
        ap (λ (b : Bool). are_positive sizes && b) test ∙ and_false (are_positive sizes)

-- all are counted
pub are_sizes-all : (sizes : List ℕ) (place count : ℕ) → length sizes ≤ place → IsCounting sizes place count → (if are_sizes sizes then Some (word_count sizes) else None) ≡ Some count
are_sizes-all sizes place count all far =
    let few = far.few in
    let none_left : drop place sizes ≡ [] = drop_all place sizes all in
    let counted : word_count sizes ≡ count = let h : count * word_count [] ≡ word_count sizes = subst (λ (xs : List ℕ). count * word_count xs ≡ word_count sizes) none_left far.product in omega arith in
    let positive : are_positive sizes ≡ true = sym far.positive ∙ ap are_positive none_left in
    let test : nat_lt (word_count sizes) (2 ^ 32) ≡ true = grind (arith, nat_tests) in
    ap (λ (b : Bool). if b && nat_lt (word_count sizes) (2 ^ 32) then Some (word_count sizes) else None) positive
    ∙ ap (λ (b : Bool). if b then Some (word_count sizes) else None) test ∙ ap Some counted
