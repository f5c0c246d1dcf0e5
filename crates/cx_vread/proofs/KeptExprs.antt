-- What a tree keeps of an expression breaks the same rules.
use Rattle.std.proofs.Common.{◌≡◌, ℕ, ◌+◌, ◌-◌, ◌<◌, ◌^◌, not, Bool, true, false, ◌&&◌, ◌||◌, List, Option, Some, None, refl, ◌∙◌, ap, sym, arith, ⊎_elim, if◌then◌else◌}
use Rattle.std.specs.Prelude.{codes, is_some, nat_lt, nat_le, min, option_and_then}
use Rattle.std.proofs.lemmas.Bool.{and_right, and_left, or_parts, le-ltb, lt-leb, cases_lt}
use Rattle.cx_vtree.specs.InstanceTree.{same_name}
use Rattle.cx_vtree.specs.Plain.{PlainExpr, Named, Number, Part, Word, Applied, Inverted, Chosen, Joined}
use Rattle.cx_vtree.specs.Sound.{Scope, bad_width, width_of, is_source, is_array, misnames, fitting_width, part_width, applied_width, chosen_width, joined_width}
use Rattle.cx_vread_exprs.specs.Tokens.{fits_bits, kept_small, misnamed, miswidened}
use Rattle.cx_vread_exprs.proofs.ExprAgain.{expr_kept}
use Rattle.cx_vread_exprs.proofs.Kept.{kept_expr}
use Rattle.cx_vread.proofs.SoundHeld.{literal_held, numbers_held}

-- names
pub clock_misnames : (scope : Scope) → misnames scope misnamed ≡ true
clock_misnames scope = ap not (and_right (is_source (scope (codes "clk"))) (not (same_name (codes "clk") (codes "clk"))) refl)

literal_misnames : (scope : Scope) (fits over : Bool) (w v : ℕ) → nat_le (2 ^ w) v ≡ over
    → misnames scope (if fits then Number (record { width = w; value = v }) else (if over then misnamed else miswidened)) ≡ over
literal_misnames scope true over w v e = e
literal_misnames scope false true w v e = clock_misnames scope
literal_misnames scope false false w v e = refl

pub misnames_kept : (scope : Scope) (e : PlainExpr) → misnames scope (kept_expr e) ≡ misnames scope e
misnames_kept scope (Named n) = refl
misnames_kept scope (Number b) = literal_misnames scope (fits_bits b.width b.value) (nat_le (2 ^ b.width) b.value) b.width b.value refl
misnames_kept scope (Part n high low) = refl
misnames_kept scope (Word n i) = ap (λ m. not (is_array (scope n)) || m) (misnames_kept scope i)
misnames_kept scope (Applied op a b) = ap (λ m. m || misnames scope (kept_expr b)) (misnames_kept scope a) ∙ ap (λ m. misnames scope a || m) (misnames_kept scope b)
misnames_kept scope (Inverted a) = misnames_kept scope a
misnames_kept scope (Chosen c a b) =
    ap (λ m. m || misnames scope (kept_expr a) || misnames scope (kept_expr b)) (misnames_kept scope c)
    ∙ ap (λ m. misnames scope c || m || misnames scope (kept_expr b)) (misnames_kept scope a)
    ∙ ap (λ m. misnames scope c || misnames scope a || m) (misnames_kept scope b)
misnames_kept scope (Joined a b) = ap (λ m. m || misnames scope (kept_expr b)) (misnames_kept scope a) ∙ ap (λ m. misnames scope a || m) (misnames_kept scope b)

-- widths
literal_width : (scope : Scope) (fits bad : Bool) (w v : ℕ) → fits_bits w v ≡ fits → bad_width w ≡ bad → nat_le (2 ^ w) v ≡ false
    → fitting_width scope (if fits then Number (record { width = w; value = v }) else (if nat_le (2 ^ w) v then misnamed else miswidened)) ≡ (if bad_width w then None else Some w)
literal_width scope true bad w v e f over = refl
literal_width scope false true w v e f over =
    ap (λ t. fitting_width scope (if t then misnamed else miswidened)) over ∙ sym (ap (λ t. if t then None else Some w) f)
literal_width scope false false w v e f over = let both = sym e ∙ literal_held w v over f in absurd (cc)

abbrev bits_or_none : Bool → ℕ → ℕ → Option ℕ
bits_or_none b high low = if b then Some (high + 1 - low) else None

part_kept : (w high low : ℕ) → w < 256 → part_width w (kept_small high) (kept_small low) ≡ part_width w high low
part_kept w high low small = ⊎_elim
    (λ h. ⊎_elim
    (λ l. let e : min high 255 ≡ high = omega arith in let f : min low 255 ≡ low = omega arith in
    ap (λ n. part_width w n (kept_small low)) e ∙ ap (part_width w high) f)
    (λ l. ⊎_elim
    (λ lt. over_low (lt-leb low high (omega arith)) (and_left (nat_le (kept_small low) (kept_small high)) _ (lt-leb (min low 255) (min high 255) (omega arith))))
    (λ le. over_low (lt-leb low high (omega arith)) (and_right (nat_le (kept_small low) (kept_small high)) _ (le-ltb (min high 255) w (omega arith))))
    (cases_lt high 255))
    (cases_lt low 256))
    (λ h. ap (λ b. bits_or_none b (kept_small high) (kept_small low)) (and_right (nat_le (kept_small low) (kept_small high)) (nat_lt (kept_small high) w) (le-ltb (min high 255) w (omega arith)))
    ∙ sym (ap (λ b. bits_or_none b high low) (and_right (nat_le low high) (nat_lt high w) (le-ltb high w (omega arith)))))
    (cases_lt high 256)
  where
    over_low : nat_le low high ≡ false → (nat_le (kept_small low) (kept_small high) && nat_lt (kept_small high) w) ≡ false → part_width w (kept_small high) (kept_small low) ≡ part_width w high low
    over_low e f = ap (λ b. bits_or_none b (kept_small high) (kept_small low)) f ∙ sym (ap (λ b. bits_or_none b high low) (and_left (nat_le low high) (nat_lt high w) e))

pub fitting_kept : (scope : Scope) (small : (n : List ℕ) → width_of (scope n) < 256) (e : PlainExpr) → misnames scope e ≡ false → fitting_width scope (kept_expr e) ≡ fitting_width scope e
fitting_kept scope small (Named n) m = refl
fitting_kept scope small (Number b) m = literal_width scope (fits_bits b.width b.value) (bad_width b.width) b.width b.value refl refl m
fitting_kept scope small (Part n high low) m = part_kept (width_of (scope n)) high low (small n)
fitting_kept scope small (Word n i) m =
    ap (λ o. option_and_then (λ v. Some (width_of (scope n))) o) (fitting_kept scope small i (or_parts (not (is_array (scope n))) (misnames scope i) m).1)
fitting_kept scope small (Applied op a b) m =
    let both = or_parts (misnames scope a) (misnames scope b) m in
    ap (λ o. option_and_then (λ v. option_and_then (applied_width op v) (fitting_width scope (kept_expr b))) o) (fitting_kept scope small a both.0)
    ∙ ap (λ o. option_and_then (λ v. option_and_then (applied_width op v) o) (fitting_width scope a)) (fitting_kept scope small b both.1)
fitting_kept scope small (Inverted a) m = fitting_kept scope small a m
fitting_kept scope small (Chosen c a b) m =
    let outer = or_parts (misnames scope c || misnames scope a) (misnames scope b) m in
    let both = or_parts (misnames scope c) (misnames scope a) outer.0 in
    ap (λ o. option_and_then (λ t. option_and_then (λ v. option_and_then (chosen_width t v) (fitting_width scope (kept_expr b))) (fitting_width scope (kept_expr a))) o) (fitting_kept scope small c both.0)
    ∙ ap (λ o. option_and_then (λ t. option_and_then (λ v. option_and_then (chosen_width t v) (fitting_width scope (kept_expr b))) o) (fitting_width scope c)) (fitting_kept scope small a both.1)
    ∙ ap (λ o. option_and_then (λ t. option_and_then (λ v. option_and_then (chosen_width t v) o) (fitting_width scope a)) (fitting_width scope c)) (fitting_kept scope small b outer.1)
fitting_kept scope small (Joined a b) m =
    let both = or_parts (misnames scope a) (misnames scope b) m in
    ap (λ o. option_and_then (λ v. option_and_then (joined_width v) (fitting_width scope (kept_expr b))) o) (fitting_kept scope small a both.0)
    ∙ ap (λ o. option_and_then (λ v. option_and_then (joined_width v) o) (fitting_width scope a)) (fitting_kept scope small b both.1)

-- one that breaks neither is kept as it is
pub unbroken_kept : (scope : Scope) (small : (n : List ℕ) → width_of (scope n) < 256) (e : PlainExpr) → misnames scope e ≡ false → is_some (fitting_width scope e) ≡ true → kept_expr e ≡ e
unbroken_kept scope small e m f = expr_kept e (numbers_held scope small e m f)
