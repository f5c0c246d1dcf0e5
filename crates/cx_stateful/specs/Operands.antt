-- The operands of a pipe.
use Rattle.std.specs.Prelude.{◌≡◌, ℕ, Some}
use Rattle.cx_bits.specs.BitVector.{BitVector}
use Rattle.cx_prim.specs.Rows.{Inputs, input}

-- the values at ports 1 and 2 have this width
pub record HasOperands (width : ℕ) (inputs : Inputs) : Type 0 where
  pub left : (b : BitVector) → input inputs 1 ≡ Some b → b.width ≡ width
  pub right : (b : BitVector) → input inputs 2 ≡ Some b → b.width ≡ width
