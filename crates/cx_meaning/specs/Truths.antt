-- What a guard is: four values without fields, so that its logic is a table.
use Rattle.std.specs.Prelude.{ℕ, Bool, true, false, not, nat_lt, ◌==◌}
use Rattle.cx_meaning.specs.declared.sights.Seen.{Seen}
use Rattle.cx_meaning.specs.declared.sights.Seen.TheVariants as sights
use Rattle.cx_meaning.specs.declared.ports.Comparison.{Comparison}
use Rattle.cx_meaning.specs.declared.ports.Comparison.TheVariants.{Equal, NotEqual, Less, Greater, AtMost, AtLeast}

-- 1, 0, or no value: a conflict, or undefined
pub data Truth : Type 0 where
  One : Truth
  Zero : Truth
  Conflict : Truth
  Undefined : Truth

abbrev pub truth_of_bit : Bool → Truth
truth_of_bit true = One
truth_of_bit false = Zero

-- what a port says as a guard
abbrev pub truth_of : Seen → Truth
truth_of (sights.Value b) = truth_of_bit (b.value == 1)
truth_of sights.Conflict = Conflict
truth_of sights.Undefined = Undefined

abbrev pub not_truth : Truth → Truth
not_truth One = Zero
not_truth Zero = One
not_truth Conflict = Conflict
not_truth Undefined = Undefined

-- x & y is 0 where either side is 0, 1 where both are 1, and otherwise the first side that is no value
abbrev pub and_truth : Truth → Truth → Truth
and_truth One b = b
and_truth Zero b = Zero
and_truth Conflict Zero = Zero
and_truth Conflict b = Conflict
and_truth Undefined Zero = Zero
and_truth Undefined b = Undefined

-- x | y is 1 where either side is 1, 0 where both are 0, and otherwise the first side that is no value
abbrev pub or_truth : Truth → Truth → Truth
or_truth One b = One
or_truth Zero b = b
or_truth Conflict One = One
or_truth Conflict b = Conflict
or_truth Undefined One = One
or_truth Undefined b = Undefined

-- of unsigned numbers
abbrev pub compares : Comparison → ℕ → ℕ → Bool
compares Equal x y = x == y
compares NotEqual x y = not (x == y)
compares Less x y = nat_lt x y
compares Greater x y = nat_lt y x
compares AtMost x y = not (nat_lt y x)
compares AtLeast x y = not (nat_lt x y)

-- a comparison of something that is no value is the first side that is none
abbrev pub compared : Comparison → Seen → Seen → Truth
compared c (sights.Value a) (sights.Value b) = truth_of_bit (compares c a.value b.value)
compared c (sights.Value a) sights.Conflict = Conflict
compared c (sights.Value a) sights.Undefined = Undefined
compared c sights.Conflict y = Conflict
compared c sights.Undefined y = Undefined
