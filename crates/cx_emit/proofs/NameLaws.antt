-- Names of a text: each is a word that is none of the grammar's own, and two names of a kind are those of one part.
use Rattle.std.proofs.Common.{◌≡◌, ℕ, ◌+◌, ◌%◌, ◌<◌, ◌≤◌, ◌^◌, Bool, true, ◌&&◌, List, [], ◌∷◌, ◌++◌, length, refl, ap, sym, ◌∙◌, arith, append_assoc, le-leb}
use Rattle.std.specs.Prelude.{codes, decimal, nat_le}
use Rattle.std.specs.List.{list_all}
use Rattle.std.proofs.lemmas.List.{append_cancel_left, length-append}
use Rattle.std.proofs.lemmas.List.Folds.{list_all-append}
use Rattle.std.proofs.lemmas.Fmt.{decimal_by_steps, decimal_injective, length-decimal-le}
use Rattle.cx_vtree.specs.Layout.{is_letter, is_name_byte, is_word, is_name}
use Rattle.cx_emit.specs.Names.{numbered, twice_numbered}
use Rattle.std.proofs.lemmas.Bool.{or_right, and_from}
use Rattle.cx_text.proofs.BoolLaws.{and_left, and_right}

-- a decimal digit
abbrev pub is_digit : ℕ → Bool
is_digit c = nat_le 48 c && nat_le c 57

list_all-more : (p q : ℕ → Bool) (xs : List ℕ) → ((c : ℕ) → p c ≡ true → q c ≡ true) → list_all p xs ≡ true → list_all q xs ≡ true
list_all-more p q [] each h = refl
list_all-more p q (x ∷ xs) each h = and_from (q x) (list_all q xs) (each x (and_left (p x) (list_all p xs) h)) (list_all-more p q xs each (and_right (p x) (list_all p xs) h))

digit_of : (d : ℕ) → d < 10 → is_digit (48 + d) ≡ true
digit_of d few = and_from (nat_le 48 (48 + d)) (nat_le (48 + d) 57) (le-leb 48 (48 + d) (omega arith)) (le-leb (48 + d) 57 (omega arith))

pub one_digit : (n : ℕ) → n < 10 → list_all is_digit ((48 + n) ∷ []) ≡ true
one_digit n few = and_from (is_digit (48 + n)) true (digit_of n few) refl

pub last_digit : (n : ℕ) (ds : List ℕ) → list_all is_digit ds ≡ true → list_all is_digit (ds ++ (48 + n % 10) ∷ []) ≡ true
last_digit n ds h = list_all-append is_digit ds ((48 + n % 10) ∷ []) ∙ and_from (list_all is_digit ds) (list_all is_digit ((48 + n % 10) ∷ [])) h (one_digit (n % 10) (omega arith))

-- a number in the text has digits alone, and at least one
pub digits-decimal : (n : ℕ) → n < 2 ^ 64 → list_all is_digit (decimal n) ≡ true
digits-decimal n small = decimal_by_steps (λ m ds. list_all is_digit ds ≡ true) one_digit (λ m ds big h. last_digit m ds h) n small

few_digits : (n : ℕ) → n < 2 ^ 64 → length (decimal n) ≤ 20
few_digits n small = length-decimal-le 20 n (omega arith) (omega (arith, small)) small

named_digit : (c : ℕ) → is_digit c ≡ true → is_name_byte c ≡ true
named_digit c h = or_right (is_letter c) (is_digit c) h

pub digits_named : (ds : List ℕ) → list_all is_digit ds ≡ true → list_all is_name_byte ds ≡ true
digits_named ds each = list_all-more is_digit is_name_byte ds named_digit each

decimal_named : (n : ℕ) → n < 2 ^ 64 → list_all is_name_byte (decimal n) ≡ true
decimal_named n small = digits_named (decimal n) (digits-decimal n small)

-- `cx_` and few more bytes of words are a name
pub name_of : (more : List ℕ) → list_all is_name_byte more ≡ true → length more ≤ 200 → is_name (codes "cx_" ++ more) ≡ true
name_of more named few = and_from (is_word (codes "cx_" ++ more)) true (and_from (list_all is_name_byte (codes "cx_" ++ more)) (nat_le (length (codes "cx_" ++ more)) 255) named (le-leb _ 255 (omega (arith, few)))) refl

module _ (letters : List ℕ) (named : list_all is_name_byte letters ≡ true) (few : length letters ≤ 3) where
  -- letters and a number
  pub is_name-numbered : (n : ℕ) → n < 2 ^ 64 → is_name (numbered letters n) ≡ true
  is_name-numbered n small =
      let long = length-append letters (decimal n) in
      let digits = few_digits n small in
      ap is_name (append_assoc (codes "cx_") letters (decimal n))
      ∙ name_of (letters ++ decimal n) (list_all-append is_name_byte letters (decimal n) ∙ and_from (list_all is_name_byte letters) (list_all is_name_byte (decimal n)) named (decimal_named n small))
      (omega (arith, long, digits, few))

  -- letters and two numbers
  pub is_name-twice_numbered : (n m : ℕ) → n < 2 ^ 64 → m < 2 ^ 64 → is_name (twice_numbered letters n m) ≡ true
  is_name-twice_numbered n m small small_too =
      let tail : List ℕ = decimal n ++ (codes "_" ++ decimal m) in
      let tail_named : list_all is_name_byte tail ≡ true =
      list_all-append is_name_byte (decimal n) (codes "_" ++ decimal m) ∙ and_from (list_all is_name_byte (decimal n)) (list_all is_name_byte (codes "_" ++ decimal m)) (decimal_named n small) (decimal_named m small_too) in
      let long = length-append letters tail in
      let long_tail = length-append (decimal n) (codes "_" ++ decimal m) in
      let digits = few_digits n small in
      let digits_too = few_digits m small_too in
      ap is_name (regrouped n m) ∙ name_of (letters ++ tail) (list_all-append is_name_byte letters tail ∙ and_from (list_all is_name_byte letters) (list_all is_name_byte tail) named tail_named)
      (omega (arith, long, long_tail, digits, digits_too, few)) where
        regrouped : (n m : ℕ) → twice_numbered letters n m ≡ codes "cx_" ++ (letters ++ (decimal n ++ (codes "_" ++ decimal m)))
        regrouped n m = simp append_assoc

-- one name with a number is that of one number
pub numbered-injective : (letters : List ℕ) (n m : ℕ) → n < 2 ^ 64 → m < 2 ^ 64 → numbered letters n ≡ numbered letters m → n ≡ m
numbered-injective letters n m small small_too same = decimal_injective n m small small_too (append_cancel_left (codes "cx_" ++ letters) (decimal n) (decimal m) same)

-- digits up to the first `_`
digits_split : (ds es xs ys : List ℕ) → list_all is_digit ds ≡ true → list_all is_digit es ≡ true → ds ++ 95 ∷ xs ≡ es ++ 95 ∷ ys → (ds ≡ es) × (xs ≡ ys)
digits_split [] [] xs ys one other same = (refl, cc)
digits_split [] (e ∷ es) xs ys one other same = let is : e ≡ 95 = cc in let digit = and_left (is_digit e) (list_all is_digit es) other in let no = ap is_digit is in absurd (cc)
digits_split (d ∷ ds) [] xs ys one other same = let is : d ≡ 95 = cc in let digit = and_left (is_digit d) (list_all is_digit ds) one in let no = ap is_digit is in absurd (cc)
digits_split (d ∷ ds) (e ∷ es) xs ys one other same =
    let rest = digits_split ds es xs ys (and_right (is_digit d) (list_all is_digit ds) one) (and_right (is_digit e) (list_all is_digit es) other) (cc) in
    let first : d ≡ e = cc in
    (ap (λ x. x ∷ ds) first ∙ ap (λ zs. e ∷ zs) rest.0, rest.1)

-- one name with two numbers is that of these two
pub twice_numbered-injective : (letters : List ℕ) (n m k l : ℕ) → n < 2 ^ 64 → m < 2 ^ 64 → k < 2 ^ 64 → l < 2 ^ 64 → twice_numbered letters n m ≡ twice_numbered letters k l → (n ≡ k) × (m ≡ l)
twice_numbered-injective letters n m k l small small_too less less_too same =
    let tails : decimal n ++ 95 ∷ decimal m ≡ decimal k ++ 95 ∷ decimal l = append_cancel_left (codes "cx_" ++ letters) (decimal n ++ 95 ∷ decimal m) (decimal k ++ 95 ∷ decimal l) (sym (grouped n m) ∙ same ∙ grouped k l) in
    let both_same = digits_split (decimal n) (decimal k) (decimal m) (decimal l) (digits-decimal n small) (digits-decimal k less) tails in
    (decimal_injective n k small less both_same.0, decimal_injective m l small_too less_too both_same.1) where
      grouped : (n m : ℕ) → twice_numbered letters n m ≡ (codes "cx_" ++ letters) ++ (decimal n ++ 95 ∷ decimal m)
      grouped n m = simp append_assoc
