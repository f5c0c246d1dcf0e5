-- What the nets of a memory tell of its addresses: whether all are in range, and the number of the word.
use Rattle.std.specs.Prelude.{◌≡◌, ℕ, zero, suc, ◌+◌, ◌-◌, ◌*◌, ◌/◌, ◌%◌, ◌^◌, ◌<◌, ◌≤◌, ◌==◌, ◌&&◌, Bool, true, false, List, [], ◌∷◌, Option, Some, None, is_none, nat_le, nat_lt, length, option_map, option_and_then, if◌then◌else◌, refl}
use Rattle.std.proofs.Common.{ap, sym, ◌∙◌, subst, arith}
use Rattle.std.proofs.Math.Nat.{mod-eq_of_lt, add-mod-mod, mod-add-mod, mul-le-mul_right, add-mul, pow-le-pow_right}
use Rattle.std.proofs.lemmas.Nat.{pow_pos, mul-mod_first, mul-mod_second}
use Rattle.std.proofs.lemmas.Bool.{leb-true}
use Rattle.std.proofs.lemmas.Bool.Decides.{nat_tests}
use Rattle.cx_bits.specs.BitVector.{BitVector, of_width}
use Rattle.cx_bits.specs.Operators.{bit_of, and_of}
use Rattle.cx_text.specs.Loading.{word_count}
use Rattle.cx_prim.specs.Rows.{Inputs, value_at}
use Rattle.cx_prim.specs.MemoryRows.{first_beyond, word_number}
use Rattle.cx_vtree.specs.declared.operators.Operator.TheVariants.{Add, Multiply, And, Less}
use Rattle.cx_vtree.specs.Operators.{operate}
use Rattle.cx_vtree.specs.Plain.{Applied, Joined}
use Rattle.cx_vtree.specs.Meaning.{expr_in}
use Rattle.cx_vmods.specs.Spelling.{spelled, net, part}
use Rattle.cx_vmods.specs.Parts.{literal}
use Rattle.cx_vmods.specs.Addresses.{address, below, in_range, fitted, index}
use Rattle.cx_vmods.specs.BitCounts.{bits_from, bits_for}

-- the addresses from n on stand at their nets
abbrev pub AddressesAre : (List ℕ → Option BitVector) → Inputs → ℕ → List ℕ → List ℕ → Type 0
AddressesAre nets inputs n (size ∷ sizes) (width ∷ widths) =
    (nets (spelled (address n)) ≡ Some (of_width width (value_at inputs n))) × (value_at inputs n < 2 ^ width) × AddressesAre nets inputs (n + 1) sizes widths
AddressesAre nets inputs n _ _ = Unit {0}

-- a list with one more element has some
length-some : (size : ℕ) (sizes : List ℕ) → (length (size ∷ sizes) == 0) ≡ false
length-some size sizes = grind (arith, nat_tests)

-- two bits
pub and-bits : (t u : Bool) → and_of (bit_of t) (bit_of u) ≡ bit_of (t && u)
and-bits true true = refl
and-bits true false = refl
and-bits false true = refl
and-bits false false = refl

module _ (nets : List ℕ → Option BitVector) (words : List ℕ → ℕ → BitVector) (inputs : Inputs) where
  -- a comparison with the size, where not all numbers of the width are below it
  below-value : (n size width : ℕ) → nets (spelled (address n)) ≡ Some (of_width width (value_at inputs n)) → value_at inputs n < 2 ^ width
      → expr_in nets words (below n size width) ≡ Some (bit_of (nat_lt (value_at inputs n) size))
  below-value n size width at fits = by (nat_le (2 ^ width) size) refl
    where
      by : (t : Bool) → nat_le (2 ^ width) size ≡ t → expr_in nets words (if t then literal 1 1 else Applied Less (net (address n)) (literal width size)) ≡ Some (bit_of (nat_lt (value_at inputs n) size))
      by true test =
          let all : nat_lt (value_at inputs n) size ≡ true = grind (arith, nat_tests) in
          ap (λ (b : Bool). Some (bit_of b)) (sym all)
      by false test =
          let some : size % 2 ^ width ≡ size = let few : size < 2 ^ width = grind (arith, nat_tests) in mod-eq_of_lt few in
          ap (option_and_then (λ x. option_map (operate Less x) (Some (of_width width (size % 2 ^ width))))) at
          ∙ ap (λ (s : ℕ). Some (bit_of (nat_lt (value_at inputs n) s))) some

  -- whether all addresses are in range
  pub in_range-value : (n : ℕ) (sizes widths : List ℕ) → length widths ≡ length sizes → AddressesAre nets inputs n sizes widths
      → expr_in nets words (in_range n sizes widths) ≡ Some (bit_of (is_none (first_beyond sizes n inputs)))
  in_range-value n [] [] same are = refl
  in_range-value n [] (width ∷ widths) same are = refl
  in_range-value n (size ∷ sizes) [] same are = absurd (omega arith)
  in_range-value n (size ∷ []) (width ∷ widths) same are = below-value n size width are.0 are.1 ∙ ap (λ (b : Bool). Some (bit_of b)) (last (nat_lt (value_at inputs n) size))
    where
      last : (b : Bool) → b ≡ is_none (if b then None else Some n)
      last true = refl
      last false = refl
  in_range-value n (size ∷ second ∷ sizes) (width ∷ widths) same are =
      ap (λ (b : Bool). expr_in nets words (if b then below n size width else Applied And (below n size width) (in_range (n + 1) (second ∷ sizes) widths))) (length-some second sizes)
      ∙ ap (option_and_then (λ x. option_map (operate And x) (expr_in nets words (in_range (n + 1) (second ∷ sizes) widths)))) (below-value n size width are.0 are.1)
      ∙ ap (option_map (operate And (bit_of (nat_lt (value_at inputs n) size)))) (in_range-value (n + 1) (second ∷ sizes) widths (omega arith) are.2)
      ∙ ap Some (and-bits (nat_lt (value_at inputs n) size) (is_none (first_beyond (second ∷ sizes) (n + 1) inputs)))
      ∙ ap (λ (b : Bool). Some (bit_of b)) (more (nat_lt (value_at inputs n) size) (first_beyond (second ∷ sizes) (n + 1) inputs))
    where
      more : (b : Bool) (o : Option ℕ) → (b && is_none o) ≡ is_none (if b then o else Some n)
      more true o = refl
      more false o = refl

  fitted-value : (n width index_width : ℕ) → 1 ≤ index_width → nets (spelled (address n)) ≡ Some (of_width width (value_at inputs n)) → value_at inputs n < 2 ^ width
      → expr_in nets words (fitted n width index_width) ≡ Some (of_width index_width (value_at inputs n % 2 ^ index_width))
  fitted-value n width index_width some at fits = by (nat_le index_width width) refl
    where
      by : (t : Bool) → nat_le index_width width ≡ t → expr_in nets words (if t then part (address n) (index_width - 1) 0 else Joined (literal (index_width - width) 0) (net (address n)))
          ≡ Some (of_width index_width (value_at inputs n % 2 ^ index_width))
      by true test =
          let wide : index_width - 1 + 1 - 0 ≡ index_width = omega arith in
          let whole : value_at inputs n / 2 ^ 0 ≡ value_at inputs n = omega arith in
          ap (option_map (λ x. of_width (index_width - 1 + 1 - 0) (x.value / 2 ^ 0 % 2 ^ (index_width - 1 + 1 - 0)))) at
          ∙ ap (λ (k : ℕ). let o : Option BitVector = Some (of_width k (value_at inputs n / 2 ^ 0 % 2 ^ k)) in o) wide
          ∙ ap (λ (k : ℕ). let o : Option BitVector = Some (of_width index_width (k % 2 ^ index_width)) in o) whole
      by false test =
          let more : width ≤ index_width = grind (arith, nat_tests) in
          let wide : index_width - width + width ≡ index_width = omega arith in
          let zeros : 0 % 2 ^ (index_width - width) ≡ 0 = mod-eq_of_lt (pow_pos (index_width - width)) in
          let low : 0 * 2 ^ width + value_at inputs n ≡ value_at inputs n = omega arith in
          let two : 0 < 2 = omega arith in
          let grows : 2 ^ width ≤ 2 ^ index_width = pow-le-pow_right two more in
          let uncut : value_at inputs n % 2 ^ index_width ≡ value_at inputs n = mod-eq_of_lt (omega arith) in
          ap (option_map (λ x. of_width (index_width - width + x.width) (0 % 2 ^ (index_width - width) * 2 ^ x.width + x.value))) at
          ∙ ap (λ (k : ℕ). let o : Option BitVector = Some (of_width k (0 % 2 ^ (index_width - width) * 2 ^ width + value_at inputs n)) in o) wide
          ∙ ap (λ (k : ℕ). let o : Option BitVector = Some (of_width index_width (k * 2 ^ width + value_at inputs n)) in o) zeros
          ∙ ap (λ (k : ℕ). let o : Option BitVector = Some (of_width index_width k) in o) (low ∙ sym uncut)

  -- the index is the number of the word, as far as its width goes
  pub index-value : (n index_width : ℕ) (sizes widths : List ℕ) → 1 ≤ index_width → length widths ≡ length sizes → AddressesAre nets inputs n sizes widths
      → expr_in nets words (index n index_width sizes widths) ≡ Some (of_width index_width (word_number sizes n inputs % 2 ^ index_width))
  index-value n index_width [] [] some same are = refl
  index-value n index_width [] (width ∷ widths) some same are = refl
  index-value n index_width (size ∷ sizes) [] some same are = absurd (omega arith)
  index-value n index_width (size ∷ []) (width ∷ widths) some same are =
      let alone : value_at inputs n ≡ value_at inputs n * 1 + 0 = omega arith in
      fitted-value n width index_width some are.0 are.1 ∙ ap (λ (k : ℕ). let o : Option BitVector = Some (of_width index_width (k % 2 ^ index_width)) in o) alone
  index-value n index_width (size ∷ second ∷ sizes) (width ∷ widths) some same are =
      let own = value_at inputs n in
      let stride = word_count (second ∷ sizes) in
      let rest = word_number (second ∷ sizes) (n + 1) inputs in
      let p = 2 ^ index_width in
      ap (λ (b : Bool). expr_in nets words (if b then fitted n width index_width else Applied Add (Applied Multiply (fitted n width index_width) (literal index_width stride)) (index (n + 1) index_width (second ∷ sizes) widths))) (length-some second sizes)
      ∙ ap (λ (o : Option BitVector). option_and_then (λ x. option_map (operate Add x) (expr_in nets words (index (n + 1) index_width (second ∷ sizes) widths))) (option_and_then (λ y. option_map (operate Multiply y) (Some (of_width index_width (stride % 2 ^ index_width)))) o))
      (fitted-value n width index_width some are.0 are.1)
      ∙ ap (option_map (operate Add (of_width index_width ((own % p * (stride % p)) % p)))) (index-value (n + 1) index_width (second ∷ sizes) widths some (omega arith) are.2)
      ∙ ap (λ (k : ℕ). let o : Option BitVector = Some (of_width index_width k) in o)
      (ap (λ (k : ℕ). (k + rest % p) % p) (mul-mod_first own (stride % p) p ∙ mul-mod_second own stride p) ∙ add-mod-mod (own * stride % p) rest p ∙ mod-add-mod (own * stride) p rest)

-- the number of a word whose addresses are in range is below the number of words
pub word_number-below : (sizes : List ℕ) (n : ℕ) (inputs : Inputs) → is_none (first_beyond sizes n inputs) ≡ true → word_number sizes n inputs < word_count sizes
word_number-below [] n inputs inside = omega arith
word_number-below (size ∷ sizes) n inputs inside = by (nat_lt (value_at inputs n) size) refl inside (word_number-below sizes (n + 1) inputs)
  where
    by : (b : Bool) → nat_lt (value_at inputs n) size ≡ b → is_none (if b then first_beyond sizes (n + 1) inputs else Some n) ≡ true
        → (is_none (first_beyond sizes (n + 1) inputs) ≡ true → word_number sizes (n + 1) inputs < word_count sizes)
        → value_at inputs n * word_count sizes + word_number sizes (n + 1) inputs < size * word_count sizes
    by true test all below_rest =
        let first : value_at inputs n + 1 ≤ size = grind (arith, nat_tests) in
        let rest = below_rest all in
        let rows : (value_at inputs n + 1) * word_count sizes ≤ size * word_count sizes = mul-le-mul_right (word_count sizes) first in
        let row : (value_at inputs n + 1) * word_count sizes ≡ value_at inputs n * word_count sizes + 1 * word_count sizes = add-mul (value_at inputs n) 1 (word_count sizes) in
        omega arith
    by false test all below_rest = absurd (let wrong : false ≡ true = all in cc)

-- a counter has the width that its numbers need
pub bits_from-suffices : (more width numbers : ℕ) → numbers ≤ 2 ^ (width + more) → numbers ≤ 2 ^ bits_from more width numbers
unfolding bits_from
bits_from-suffices zero width numbers fits = subst (λ (w : ℕ). numbers ≤ 2 ^ w) (let same : width + zero ≡ width = omega arith in same) fits
bits_from-suffices (suc more) width numbers fits =
    by (nat_le numbers (2 ^ width)) refl (bits_from-suffices more (width + 1) numbers (subst (λ (w : ℕ). numbers ≤ 2 ^ w) (let same : width + suc more ≡ width + 1 + more = omega arith in same) fits))
  where
    by : (b : Bool) → nat_le numbers (2 ^ width) ≡ b → numbers ≤ 2 ^ bits_from more (width + 1) numbers → numbers ≤ 2 ^ (if b then width else bits_from more (width + 1) numbers)
    by true test later = leb-true numbers (2 ^ width) test
    by false test later = later

-- a counter of this width has so many numbers
pub bits_for-suffices : (numbers : ℕ) → numbers ≤ 2 ^ 32 → numbers ≤ 2 ^ bits_for numbers
unfolding bits_for
bits_for-suffices numbers few = bits_from-suffices 31 1 numbers few

-- and at least one bit
bits_from-some : (more width numbers : ℕ) → width ≤ bits_from more width numbers
unfolding bits_from
bits_from-some zero width numbers = omega arith
bits_from-some (suc more) width numbers = by (nat_le numbers (2 ^ width)) (bits_from-some more (width + 1) numbers)
  where
    by : (b : Bool) → width + 1 ≤ bits_from more (width + 1) numbers → width ≤ (if b then width else bits_from more (width + 1) numbers)
    by true later = omega arith
    by false later = omega arith

pub bits_for-some : (numbers : ℕ) → 1 ≤ bits_for numbers
unfolding bits_for
bits_for-some numbers = bits_from-some 31 1 numbers
