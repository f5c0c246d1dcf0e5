-- What is read stands there: fixed texts, words and numbers.
use Rattle.std.proofs.Common.{◌≡◌, ℕ, ◌+◌, ◌*◌, ◌%◌, ◌<◌, ◌≤◌, ◌==◌, Bool, true, false, List, [], ◌∷◌, ◌++◌, map, Option, Some, None, refl, ◌∙◌, ap, sym, subst, arith, append_assoc, append-nil, ⊎_elim, if◌then◌else◌}
use Rattle.std.specs.Prelude.{codes}
use Rattle.std.specs.Char.{digit_value}
use Rattle.std.specs.Int.Digits.{digits_of, number_from_digits_after, AllBelowBase}
use Rattle.std.specs.List.{list_all}
use Rattle.std.specs.Str.Parse.{digits_value}
use Rattle.std.proofs.lemmas.Bool.{and_parts, ne_eqb, eqb-true, not-true}
use Rattle.std.proofs.lemmas.Bool.Decides.{nat_tests}
use Rattle.std.proofs.lemmas.Int.Digits.{digits_value_is, digits_of_step, number_after_ge, all_below_base_from_digits}
use Rattle.std.proofs.lemmas.Nat.{div-mul-add, mod-mul-add}
use Rattle.std.proofs.Math.Nat.{le-mul_of_pos_right}
use Rattle.std.proofs.lemmas.Option.{same_Some, some_pair_parts}
use Rattle.cx_vtree.specs.Layout.{is_name_byte, is_word, is_name}
use Rattle.cx_vtree.specs.Lines.{glyph, number_text}
use Rattle.cx_vread_exprs.specs.Numbers.{IsBase}
use Rattle.cx_vread_exprs.specs.Places.{Place, Reads, moved, then_reads, then_at, after, after_text, at_bytes}
use Rattle.cx_text.specs.Spans.{front, back}
use Rattle.cx_text.proofs.SpanLemmas.{front-back, front_passes}
use Rattle.cx_vread_exprs.specs.Tokens.{word_at, name_at, is_digit_in, is_numeral, digits_at}
use Rattle.cx_vread_exprs.proofs.Numerals.{all_below}
use Rattle.cx_vread_exprs.proofs.NumbersLemmas.{two_least}

-- a text stands at a place, and another place behind it
pub record Stands (text : List ℕ) (p q : Place) : Type 0 where
  pub text_is : p.rest ≡ text ++ q.rest
  pub fits_is : p.fits ≡ q.fits

text_found : (want bytes rest : List ℕ) → after_text want bytes ≡ Some rest → bytes ≡ want ++ rest
text_found [] bytes rest e = same_Some bytes rest e
text_found (w ∷ ws) [] rest e = absurd (cc)
text_found (w ∷ ws) (b ∷ bs) rest e = go (λ more. text_found ws bs rest more) (b == w) refl
  where
    go : (after_text ws bs ≡ Some rest → bs ≡ ws ++ rest) → (t : Bool) → (b == w) ≡ t → b ∷ bs ≡ (w ∷ ws) ++ rest
    go again true same =
        let more : after_text ws bs ≡ Some rest = ap (λ t. if t then after_text ws bs else None) (sym same) ∙ e in
        ap (λ c. c ∷ bs) (eqb-true b w same) ∙ ap (λ cs. w ∷ cs) (again more)
    go again false other = let none : None ≡ Some rest = ap (λ t. if t then after_text ws bs else None) (sym other) ∙ e in absurd (cc)

pub after_found : (want : List ℕ) (p q : Place) → after want p ≡ Some q → Stands want p q
after_found want p q e = go (after_text want p.rest) refl e
  where
    go : (o : Option (List ℕ)) → after_text want p.rest ≡ o → at_bytes p o ≡ Some q → Stands want p q
    go None is e = absurd (cc)
    go (Some rest) is e =
        let same : moved p rest ≡ q = same_Some (moved p rest) q e in
        record { text_is = text_found want p.rest rest is ∙ ap (λ q. want ++ q.rest) same; fits_is = ap (λ q. q.fits) same }

-- what reading goes on from, and what it ends with
pub then_at_some : {Y : Type 0} (o : Option Place) (y : Y) (z : Place) (f : Place → Reads Y) → then_at o f ≡ Some (y, z) → (q : Place) × (o ≡ Some q) × (f q ≡ Some (y, z))
then_at_some None y z f e = absurd (cc)
then_at_some (Some q) y z f e = (q, refl, e)

pub then_reads_some : {X Y : Type 0} (r : Reads X) (y : Y) (z : Place) (f : X → Place → Reads Y) → then_reads r f ≡ Some (y, z) → (x : X) × (q : Place) × (r ≡ Some (x, q)) × (f x q ≡ Some (y, z))
then_reads_some None y z f e = absurd (cc)
then_reads_some (Some x) y z f e = (x.0, x.1, refl, e)

pub step_at : {Y : Type 0} (want : List ℕ) (p : Place) (y : Y) (z : Place) (f : Place → Reads Y) → then_at (after want p) f ≡ Some (y, z) → (q : Place) × (Stands want p q) × (f q ≡ Some (y, z))
step_at want p y z f e = let s = then_at_some (after want p) y z f e in (s.0, after_found want p s.0 s.1, s.2)

pub ends : {Y : Type 0} (y : Y) (z : Place) (x : Y) (m : Place) → ◌≡◌ {A = Reads Y} (Some (x, m)) (Some (y, z)) → (x ≡ y) × (m ≡ z)
ends y z x m e = some_pair_parts x y m z e

-- words
pub record WordFound (test : List ℕ → Bool) (p : Place) (n : List ℕ) (q : Place) : Type 0 where
  pub stands : Stands n p q
  pub passes : test n ≡ true

span_found : (test : List ℕ → Bool) (pass : ℕ → Bool) (p : Place) (n : List ℕ) (q : Place)
    → if◌then◌else◌ {A = Reads (List ℕ)} (test (front pass p.rest)) (Some (front pass p.rest, moved p (back pass p.rest))) None ≡ Some (n, q) → WordFound test p n q
span_found test pass p n q e = go (test (front pass p.rest)) refl e
  where
    go : (t : Bool) → test (front pass p.rest) ≡ t → if◌then◌else◌ {A = Reads (List ℕ)} t (Some (front pass p.rest, moved p (back pass p.rest))) None ≡ Some (n, q) → WordFound test p n q
    go true is e =
        let both = some_pair_parts (front pass p.rest) n (moved p (back pass p.rest)) q e in
        record {
          stands = record { text_is = sym (front-back pass p.rest) ∙ ap (λ n. n ++ back pass p.rest) both.0 ∙ ap (λ q. n ++ q.rest) both.1; fits_is = ap (λ q. q.fits) both.1 };
          passes = ap test (sym both.0) ∙ is;
        }
    go false is e = absurd (cc)

pub word_found : (p : Place) (n : List ℕ) (q : Place) → word_at p ≡ Some (n, q) → WordFound is_word p n q
word_found p n q e = span_found is_word is_name_byte p n q e

pub name_found : (p : Place) (n : List ℕ) (q : Place) → name_at p ≡ Some (n, q) → WordFound is_name p n q
name_found p n q e = span_found is_name is_name_byte p n q e

-- numerals
pub record DigitsFound (base : ℕ) (p : Place) (ds : List ℕ) (q : Place) : Type 0 where
  pub stands : Stands ds p q
  pub digits : list_all (is_digit_in base) ds ≡ true
  pub numeral : is_numeral ds ≡ true

pub digits_found : (base : ℕ) (p : Place) (ds : List ℕ) (q : Place) → digits_at base p ≡ Some (ds, q) → DigitsFound base p ds q
digits_found base p ds q e = go (is_numeral (front (is_digit_in base) p.rest)) refl e
  where
    go : (t : Bool) → is_numeral (front (is_digit_in base) p.rest) ≡ t → if◌then◌else◌ {A = Reads (List ℕ)} t (Some (front (is_digit_in base) p.rest, moved p (back (is_digit_in base) p.rest))) None ≡ Some (ds, q) → DigitsFound base p ds q
    go true is e =
        let both = some_pair_parts (front (is_digit_in base) p.rest) ds (moved p (back (is_digit_in base) p.rest)) q e in
        record {
          stands = record { text_is = sym (front-back (is_digit_in base) p.rest) ∙ ap (λ n. n ++ back (is_digit_in base) p.rest) both.0 ∙ ap (λ q. ds ++ q.rest) both.1; fits_is = ap (λ q. q.fits) both.1 };
          digits = ap (list_all (is_digit_in base)) (sym both.0) ∙ front_passes (is_digit_in base) p.rest;
          numeral = ap is_numeral (sym both.0) ∙ is;
        }
    go false is e = absurd (cc)

decimal_back : (c : ℕ) → is_digit_in 10 c ≡ true → glyph (digit_value c) ≡ c
decimal_back c h = grind (arith, nat_tests)

hexadecimal_back : (c : ℕ) → is_digit_in 16 c ≡ true → glyph (digit_value c) ≡ c
hexadecimal_back c h = grind (arith, nat_tests)

glyph_back : (base c : ℕ) → IsBase base → is_digit_in base c ≡ true → glyph (digit_value c) ≡ c
glyph_back base c one h = ⊎_elim
    (λ ten. decimal_back c (subst (λ n. is_digit_in n c ≡ true) ten h))
    (λ sixteen. hexadecimal_back c (subst (λ n. is_digit_in n c ≡ true) sixteen h))
    one

glyphs_back : (base : ℕ) (ds : List ℕ) → IsBase base → list_all (is_digit_in base) ds ≡ true → map glyph (map digit_value ds) ≡ ds
glyphs_back base [] one h = refl
glyphs_back base (d ∷ ds) one h =
    let parts = and_parts (is_digit_in base d) (list_all (is_digit_in base) ds) h in
    ap (λ x. x ∷ map glyph (map digit_value ds)) (glyph_back base d one parts.0) ∙ ap (λ xs. d ∷ xs) (glyphs_back base ds one parts.1)

-- digits behind a number that is not 0
digits_after : (b n : ℕ) (ds : List ℕ) → 2 ≤ b → 0 < n → AllBelowBase b ds → digits_of b (number_from_digits_after b n ds) ≡ digits_of b n ++ ds
digits_after b n [] two some below = sym (append-nil (digits_of b n))
digits_after b n (d ∷ ds) two some below =
    let grows : n ≤ n * b = le-mul_of_pos_right n (omega arith) in
    let more : 0 < n * b + d = omega arith in
    digits_after b (n * b + d) ds two more below.1
    ∙ ap (λ xs. xs ++ ds) (digits_of_step b (n * b + d) two more ∙ ap (λ k. digits_of b k ++ ((n * b + d) % b ∷ [])) (div-mul-add n b d below.0) ∙ ap (λ r. digits_of b n ++ (r ∷ [])) (mod-mul-add n b d below.0))
    ∙ append_assoc (digits_of b n) (d ∷ []) ds

one_digit : (b d : ℕ) → 2 ≤ b → 0 < d → d < b → digits_of b (0 * b + d) ≡ d ∷ []
one_digit b d two some below =
    let none : digits_of b 0 ≡ [] = refl in
    digits_of_step b (0 * b + d) two (omega arith)
    ∙ ap (λ k. digits_of b k ++ ((0 * b + d) % b ∷ [])) (div-mul-add 0 b d below) ∙ ap (λ r. digits_of b 0 ++ (r ∷ [])) (mod-mul-add 0 b d below)
    ∙ ap (λ xs. xs ++ d ∷ []) none

positive_numeral : (base c : ℕ) (ds : List ℕ) → IsBase base → list_all (is_digit_in base) (c ∷ ds) ≡ true → 0 < digit_value c → number_text base (digits_value base (c ∷ ds)) ≡ c ∷ ds
positive_numeral base c ds one all some =
    let two = two_least base one in
    let below : AllBelowBase base (map digit_value (c ∷ ds)) = all_below_base_from_digits base (c ∷ ds) (all_below base (c ∷ ds) one all) in
    let v : ℕ = number_from_digits_after base (0 * base + digit_value c) (map digit_value ds) in
    let large = number_after_ge base (0 * base + digit_value c) (map digit_value ds) (omega arith) in
    ap (number_text base) (digits_value_is base (c ∷ ds))
    ∙ ap (λ b. if b then codes "0" else map glyph (digits_of base v)) (ne_eqb v 0 (λ e. omega arith))
    ∙ ap (map glyph) (digits_after base (0 * base + digit_value c) (map digit_value ds) two (omega arith) below.1 ∙ ap (λ xs. xs ++ map digit_value ds) (one_digit base (digit_value c) two some below.0))
    ∙ glyphs_back base (c ∷ ds) one all

not_zero : (base c : ℕ) → IsBase base → is_digit_in base c ≡ true → (c == 48) ≡ false → 0 < digit_value c
not_zero base c one h n = ⊎_elim
    (λ ten. let d = subst (λ n. is_digit_in n c ≡ true) ten h in decimal c d n)
    (λ sixteen. let d = subst (λ n. is_digit_in n c ≡ true) sixteen h in hexadecimal c d n)
    one
  where
    decimal : (c : ℕ) → is_digit_in 10 c ≡ true → (c == 48) ≡ false → 0 < digit_value c
    decimal c h n = grind (arith, nat_tests)

    hexadecimal : (c : ℕ) → is_digit_in 16 c ≡ true → (c == 48) ≡ false → 0 < digit_value c
    hexadecimal c h n = grind (arith, nat_tests)

pub numeral_text : (base : ℕ) (ds : List ℕ) → IsBase base → list_all (is_digit_in base) ds ≡ true → is_numeral ds ≡ true → number_text base (digits_value base ds) ≡ ds
numeral_text base [] one all some = absurd (cc)
numeral_text base (c ∷ []) one all some = go (c == 48) refl
  where
    go : (t : Bool) → (c == 48) ≡ t → number_text base (digits_value base (c ∷ [])) ≡ c ∷ []
    go true is =
        let same : c ≡ 48 = eqb-true c 48 is in
        let none : 0 * base + 0 ≡ 0 = omega arith in
        ap (λ c. number_text base (digits_value base (c ∷ []))) same ∙ ap (number_text base) none ∙ ap (λ c. c ∷ []) (sym same)
    go false other = positive_numeral base c [] one all (not_zero base c one (and_parts (is_digit_in base c) true all).0 other)
numeral_text base (c ∷ d ∷ ds) one all some =
    positive_numeral base c (d ∷ ds) one all (not_zero base c one (and_parts (is_digit_in base c) (list_all (is_digit_in base) (d ∷ ds)) all).0 (not-true (c == 48) some))
