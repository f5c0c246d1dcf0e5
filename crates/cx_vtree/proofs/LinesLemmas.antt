-- Facts of what `Lines` defines, that several crates above take.
use Rattle.std.proofs.Common.{◌≡◌, ℕ, ◌<◌, map, ap, arith, if◌then◌else◌}
use Rattle.std.specs.Prelude.{codes}
use Rattle.std.specs.Int.Digits.{digits_of}
use Rattle.std.proofs.lemmas.Bool.{ne_eqb}
use Rattle.cx_vtree.specs.Lines.{glyph, number_text}

pub positive_text : (base n : ℕ) → 0 < n → number_text base n ≡ map glyph (digits_of base n)
positive_text base n lt = ap (λ b. if b then codes "0" else map glyph (digits_of base n)) (ne_eqb n 0 (λ e. omega arith))
