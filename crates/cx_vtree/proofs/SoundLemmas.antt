-- Facts of what `Sound` defines, that several crates above take.
use Rattle.std.proofs.Common.{◌≡◌, true, Option, Some, None, is_none, refl, ℕ, ◌≤◌, ◌||◌, false, ap, ◌∙◌, arith, ◌==◌}
use Rattle.cx_vtree.specs.Sound.{Break, bad_width}
use Rattle.std.specs.Prelude.{nat_lt}
use Rattle.std.proofs.lemmas.Bool.{ne_eqb, le-ltb, or_parts, ltb-false}

pub no_break : (o : Option Break) → is_none o ≡ true → o ≡ None
no_break None e = refl
no_break (Some b) e = absurd (cc)

pub not_wide : (w : ℕ) → 1 ≤ w → w ≤ 128 → bad_width w ≡ false
not_wide w low high = ap (λ b. b || nat_lt 128 w) (ne_eqb w 0 (λ e. omega arith)) ∙ le-ltb 128 w high

pub small_width : (w : ℕ) → bad_width w ≡ false → w ≤ 128
small_width w h = ltb-false 128 w (or_parts (w == 0) (nat_lt 128 w) h).1
