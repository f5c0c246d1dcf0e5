-- The expressions of the modules without a state have the values that their rows say.
use Rattle.std.specs.Prelude.{◌≡◌, ℕ, ◌+◌, ◌-◌, ◌*◌, ◌/◌, ◌%◌, ◌^◌, ◌<◌, ◌≤◌, ◌==◌, not, nat_le, nat_lt, int_le, int_lt, ℤ, Bool, true, false, List, Option, Some, if◌then◌else◌, codes, refl}
use Rattle.std.proofs.Common.{ap, sym, ◌∙◌, arith}
use Rattle.std.proofs.Math.Nat.{mod-eq_of_lt}
use Rattle.std.proofs.Math.Pow.{pow-lt}
use Rattle.std.proofs.lemmas.Int.{ints}
use Rattle.std.proofs.lemmas.Nat.{pow_pos}
use Rattle.std.proofs.lemmas.Bool.Decides.{nat_tests}
use Rattle.cx_bits.specs.BitVector.{BitVector, Fits, of_width}
use Rattle.cx_bits.specs.Operators.{xor_of, complement_of, left_shift_of, right_shift_of, bit_of, signed_of, signed_less_bit_of, low_bits_of, zero_extension_of}
use Rattle.cx_bits.proofs.OperatorLaws.{signed_less_bit_of-xor}
use Rattle.cx_bits.proofs.Powers.{shift-mod_past, div-pow_past}
use Rattle.cx_prim.specs.Widths.{IsWidth}
use Rattle.cx_prim.specs.CombinationalRows.{constant_row, unary_row, binary_row, unequal_bit_of, at_most_bit_of, at_least_bit_of, signed_greater_bit_of, signed_at_most_bit_of, signed_at_least_bit_of}
use Rattle.cx_vtree.specs.declared.operators.Operator.{Operator}
use Rattle.cx_vtree.specs.declared.operators.Operator.TheVariants.{ShiftLeft, ShiftRight, NotEqual, Less, Greater, AtMost, AtLeast}
use Rattle.cx_vtree.specs.Operators.{operate}
use Rattle.cx_vtree.specs.Plain.{Applied, Inverted, Chosen, Joined}
use Rattle.cx_vmods.specs.Spelling.{spelled, net, part}
use Rattle.cx_vmods.specs.Parts.{literal, made_of}
use Rattle.cx_vmods.specs.Combinational.{giving, constant, wire, complement, slice, pad, operator, shift, offset, signed}
use Rattle.cx_vmods.specs.Modules.{ports_of, module_with}
use Rattle.cx_vmods.specs.Stands.{StandsFor}
use Rattle.cx_vmods.specs.Built.{IsBuilt}
use Rattle.cx_vmods.proofs.BitLemmas.{number_below}
use Rattle.cx_vmods.proofs.StatelessLaws.{Computes2, constant_built, unary_built, binary_built}
use Rattle.cx_text.proofs.NumberLaws.{turned}

-- a constant
pub constant_gives : (name : List ℕ) (w v width : ℕ) → v < 2 ^ w → IsBuilt (module_with name (ports_of (constant_row w v)) (made_of (constant w v))) (constant_row w v) (StandsFor width)
constant_gives name w v width fits =
    constant_built name w v (literal w v) width (ap (λ (n : ℕ). let b : Option BitVector = Some (of_width w n) in b) (mod-eq_of_lt fits))

-- a wire
pub wire_gives : (name : List ℕ) (w width : ℕ) → IsBuilt (module_with name (ports_of (unary_row w w (λ a. a))) (made_of wire)) (unary_row w w (λ a. a)) (StandsFor width)
unfolding spelled
wire_gives name w width = unary_built name w w (λ a. a) (net (codes "in")) width (λ a fits. refl)

-- each bit inverted
pub complement_gives : (name : List ℕ) (w width : ℕ) → IsBuilt (module_with name (ports_of (unary_row w w complement_of)) (made_of complement)) (unary_row w w complement_of) (StandsFor width)
unfolding spelled
complement_gives name w width = unary_built name w w complement_of (Inverted (net (codes "in"))) width (λ a fits. refl)

-- the low bits
pub slice_gives : (name : List ℕ) (w v width : ℕ) → 1 ≤ v → IsBuilt (module_with name (ports_of (unary_row w v (λ a. low_bits_of a v))) (made_of (slice v))) (unary_row w v (λ a. low_bits_of a v)) (StandsFor width)
unfolding spelled
slice_gives name w v width some =
    let wide : v - 1 + 1 - 0 ≡ v = omega arith in
    unary_built name w v (λ a. low_bits_of a v) (part (codes "in") (v - 1) 0) width (λ a fits.
    let whole : a / 2 ^ 0 ≡ a = omega arith in
    ap (λ (n : ℕ). let b : Option BitVector = Some (of_width n (a / 2 ^ 0 % 2 ^ n)) in b) wide ∙ ap (λ (n : ℕ). let b : Option BitVector = Some (of_width v (n % 2 ^ v)) in b) whole)

-- zeros above
pub pad_gives : (name : List ℕ) (w v width : ℕ) → w ≤ v → IsBuilt (module_with name (ports_of (unary_row w v (λ a. zero_extension_of a v))) (made_of (pad w v))) (unary_row w v (λ a. zero_extension_of a v)) (StandsFor width)
unfolding spelled
pad_gives name w v width within = by (nat_le v w) refl
  where
    by : (t : Bool) → nat_le v w ≡ t
        → IsBuilt (module_with name (ports_of (unary_row w v (λ a. zero_extension_of a v))) (made_of (if t then wire else giving (Joined (literal (v - w) 0) (net (codes "in")))))) (unary_row w v (λ a. zero_extension_of a v)) (StandsFor width)
    by true test =
        let same : w ≡ v = grind (arith, nat_tests) in
        unary_built name w v (λ a. zero_extension_of a v) (net (codes "in")) width (λ a fits. ap (λ (n : ℕ). let b : Option BitVector = Some (of_width n a) in b) same)
    by false test =
        let wide : v - w + w ≡ v = omega arith in
        unary_built name w v (λ a. zero_extension_of a v) (Joined (literal (v - w) 0) (net (codes "in"))) width (λ a fits.
        let zeros : 0 % 2 ^ (v - w) ≡ 0 = mod-eq_of_lt (pow_pos (v - w)) in
        let low : 0 * 2 ^ w + a ≡ a = omega arith in
        ap (λ (n : ℕ). let b : Option BitVector = Some (of_width n (0 % 2 ^ (v - w) * 2 ^ w + a)) in b) wide
        ∙ ap (λ (n : ℕ). let b : Option BitVector = Some (of_width v (n * 2 ^ w + a)) in b) zeros ∙ ap (λ (n : ℕ). let b : Option BitVector = Some (of_width v n) in b) low)

-- an operator of the text is that of the row
pub operator_gives : (name : List ℕ) (w v : ℕ) (f : BitVector → BitVector → BitVector) (op : Operator) (width : ℕ) → ((a b : BitVector) → operate op a b ≡ f a b)
    → IsBuilt (module_with name (ports_of (binary_row w v f)) (made_of (operator op))) (binary_row w v f) (StandsFor width)
unfolding spelled
operator_gives name w v f op width same =
    binary_built name w v f (Applied op (net (codes "left")) (net (codes "right"))) width (λ a b fits_a fits_b. ap Some (same (of_width w a) (of_width w b)))

-- a bit inverted
inverted_bit : (t : Bool) → complement_of (bit_of t) ≡ bit_of (not t)
inverted_bit true = refl
inverted_bit false = refl

-- the comparisons of the text that are inverted ones
pub unequal_is : (a b : BitVector) → operate NotEqual a b ≡ unequal_bit_of a b
unequal_is a b = inverted_bit (a.value == b.value)

-- at most is not above
pub at_most_is : (a b : BitVector) → operate AtMost a b ≡ at_most_bit_of a b
at_most_is a b = inverted_bit (nat_lt b.value a.value) ∙ ap bit_of (turned a.value b.value)

-- at least is not below
pub at_least_is : (a b : BitVector) → operate AtLeast a b ≡ at_least_bit_of a b
at_least_is a b = inverted_bit (nat_lt a.value b.value) ∙ ap bit_of (turned b.value a.value)

-- the operator of a shift: it looks at the number of the amount alone, and shifts by the width and more give 0
pub record IsShift (op : Operator) (f : BitVector → BitVector → BitVector) : Type 0 where
  pub same : (w a u v n : ℕ) → operate op (of_width w a) (of_width u n) ≡ f (of_width w a) (of_width v n)
  pub past : (w a n : ℕ) → a < 2 ^ w → w ≤ n → f (of_width w a) (of_width w n) ≡ of_width w 0

-- the two shifts
pub left_shifts : IsShift ShiftLeft left_shift_of
left_shifts = record { same = λ w a u v n. refl; past = λ w a n fits past. ap (of_width w) (shift-mod_past w a n past) }

-- to the right
pub right_shifts : IsShift ShiftRight right_shift_of
right_shifts = record { same = λ w a u v n. refl; past = λ w a n fits past. ap (of_width w) (div-pow_past w a n fits past) }

-- an amount of eight bits behind a comparison with the width
pub shift_computes : (op : Operator) (f : BitVector → BitVector → BitVector) (w : ℕ) → IsShift op f → IsWidth w
    → Computes2 w f (Chosen (Applied Less (net (codes "right")) (literal w w)) (Applied op (net (codes "left")) (Joined (literal (w - 8) 0) (part (codes "right") 7 0))) (literal w 0))
unfolding spelled
shift_computes op f w shifts width a b fits_a fits_b = by (nat_lt b (w % 2 ^ w)) refl
  where
    below : w < 2 ^ w
    below = number_below w

    by : (t : Bool) → nat_lt b (w % 2 ^ w) ≡ t → (if (bit_of t).value == 0 then Some (of_width w (0 % 2 ^ w)) else Some (operate op (of_width w a) (of_width (w - 8 + 8) (0 % 2 ^ (w - 8) * 2 ^ 8 + b / 2 ^ 0 % 2 ^ 8)))) ≡ Some (f (of_width w a) (of_width w b))
    by true test =
        let width_is : w % 2 ^ w ≡ w = mod-eq_of_lt below in
        let inside : b < w = grind (arith, nat_tests, width_is) in
        let few = width.few_bits in
        let zeros : 0 % 2 ^ (w - 8) ≡ 0 = mod-eq_of_lt (pow_pos (w - 8)) in
        let byte : b / 2 ^ 0 % 2 ^ 8 ≡ b = omega arith in
        let amount : 0 % 2 ^ (w - 8) * 2 ^ 8 + b / 2 ^ 0 % 2 ^ 8 ≡ b = omega arith in
        ap (λ (n : ℕ). let o : Option BitVector = Some (operate op (of_width w a) (of_width (w - 8 + 8) n)) in o) amount ∙ ap Some (shifts.same w a (w - 8 + 8) w b)
    by false test =
        let width_is : w % 2 ^ w ≡ w = mod-eq_of_lt below in
        let outside : w ≤ b = grind (arith, nat_tests, width_is) in
        ap (λ (n : ℕ). let o : Option BitVector = Some (of_width w n) in o) (mod-eq_of_lt (pow_pos w)) ∙ ap Some (sym (shifts.past w a b fits_a outside))

-- a shift
pub shift_gives : (name : List ℕ) (op : Operator) (f : BitVector → BitVector → BitVector) (w width : ℕ) → IsShift op f → IsWidth w
    → IsBuilt (module_with name (ports_of (binary_row w w f)) (made_of (shift op w))) (binary_row w w f) (StandsFor width)
unfolding spelled
shift_gives name op f w width shifts ok = by (nat_le w 32)
  where
    by : (t : Bool) → IsBuilt (module_with name (ports_of (binary_row w w f)) (made_of (if t then operator op else giving (Chosen (Applied Less (net (codes "right")) (literal w w)) (Applied op (net (codes "left")) (Joined (literal (w - 8) 0) (part (codes "right") 7 0))) (literal w 0))))) (binary_row w w f) (StandsFor width)
    by true = binary_built name w w f (Applied op (net (codes "left")) (net (codes "right"))) width (λ a b fits_a fits_b. ap Some (shifts.same w a w w b))
    by false = binary_built name w w f _ width (shift_computes op f w shifts ok)

-- a comparison of numbers with their top bits inverted is one of numbers in two's complement
abbrev pub Compares : ℕ → Operator → (BitVector → BitVector → BitVector) → Type 0
Compares w op f =
    (a b : ℕ) → a < 2 ^ w → b < 2 ^ w → operate op (xor_of (of_width w a) (of_width w (2 ^ (w - 1)))) (xor_of (of_width w b) (of_width w (2 ^ (w - 1)))) ≡ f (of_width w a) (of_width w b)

-- a comparison of numbers in two's complement
pub signed_gives : (name : List ℕ) (op : Operator) (f : BitVector → BitVector → BitVector) (w width : ℕ) → IsWidth w → Compares w op f
    → IsBuilt (module_with name (ports_of (binary_row w 1 f)) (made_of (signed op w))) (binary_row w 1 f) (StandsFor width)
unfolding spelled
signed_gives name op f w width ok compares =
    binary_built name w 1 f (Applied op (offset (codes "left") w) (offset (codes "right") w)) width (λ a b fits_a fits_b.
    ap (λ (n : ℕ). let o : Option BitVector = Some (operate op (xor_of (of_width w a) (of_width w n)) (xor_of (of_width w b) (of_width w n))) in o) top ∙ ap Some (compares a b fits_a fits_b))
  where
    top : 2 ^ (w - 1) % 2 ^ w ≡ 2 ^ (w - 1)
    top = let some = ok.some_bits in let lower : w - 1 < w = omega arith in mod-eq_of_lt (pow-lt lower)

fits : (w a : ℕ) → IsWidth w → a < 2 ^ w → Fits (of_width w a)
fits w a ok below = record { some_bits = ok.some_bits; few_bits = ok.few_bits; in_range = below }

-- the four signed comparisons
pub signed_less_is : (w : ℕ) → IsWidth w → Compares w Less signed_less_bit_of
signed_less_is w ok a b fits_a fits_b = sym (signed_less_bit_of-xor (of_width w a) (of_width w b) (fits w a ok fits_a) (fits w b ok fits_b) refl)

-- above
pub signed_greater_is : (w : ℕ) → IsWidth w → Compares w Greater signed_greater_bit_of
signed_greater_is w ok a b fits_a fits_b = sym (signed_less_bit_of-xor (of_width w b) (of_width w a) (fits w b ok fits_b) (fits w a ok fits_a) refl)

not_below : (x y : ℤ) → not (int_lt y x) ≡ int_le x y
not_below x y = grind (arith, ints)

-- at most
pub signed_at_most_is : (w : ℕ) → IsWidth w → Compares w AtMost signed_at_most_bit_of
signed_at_most_is w ok a b fits_a fits_b =
    ap complement_of (signed_greater_is w ok a b fits_a fits_b) ∙ inverted_bit (int_lt (signed_of (of_width w b)) (signed_of (of_width w a))) ∙ ap bit_of (not_below (signed_of (of_width w a)) (signed_of (of_width w b)))

-- at least
pub signed_at_least_is : (w : ℕ) → IsWidth w → Compares w AtLeast signed_at_least_bit_of
signed_at_least_is w ok a b fits_a fits_b =
    ap complement_of (signed_less_is w ok a b fits_a fits_b) ∙ inverted_bit (int_lt (signed_of (of_width w a)) (signed_of (of_width w b))) ∙ ap bit_of (not_below (signed_of (of_width w b)) (signed_of (of_width w a)))
