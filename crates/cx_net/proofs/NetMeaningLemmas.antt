-- Facts of what `NetMeaning` defines, that several crates above take.
use Rattle.std.proofs.Common.{◌≡◌, Bool, true, false, ◌&&◌, refl, ◌||◌, not}
use Rattle.cx_net.specs.NetMeaning.{truth_bit}
use Rattle.cx_bits.specs.Operators.{and_of, or_of, complement_of}
use Rattle.cx_bits.proofs.OperatorLaws.{Fits-bit_of}
use Rattle.cx_prim.specs.Rows.{IsOfWidth}

pub and_two : (a b : Bool) → and_of (truth_bit a) (truth_bit b) ≡ truth_bit (a && b)
and_two true true = refl
and_two true false = refl
and_two false true = refl
and_two false false = refl

pub or_two : (a b : Bool) → or_of (truth_bit a) (truth_bit b) ≡ truth_bit (a || b)
or_two true true = refl
or_two true false = refl
or_two false true = refl
or_two false false = refl

pub not_bit : (a : Bool) → complement_of (truth_bit a) ≡ truth_bit (not a)
not_bit true = refl
not_bit false = refl

pub bit_width : (b : Bool) → IsOfWidth 1 (truth_bit b)
bit_width b = record { same_width = refl; fits = Fits-bit_of b }
