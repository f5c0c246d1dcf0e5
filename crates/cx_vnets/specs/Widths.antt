-- Codes and the widths of their values.
use Rattle.std.specs.Prelude.{◌≡◌, ℕ, List, Some}
use Rattle.cx_bits.specs.BitVector.{BitVector}
use Rattle.cx_vnets.specs.declared.arrays.Words.{Words}
use Rattle.cx_vnets.specs.declared.codes.Code.{Code}
use Rattle.cx_vnets.specs.declared.codes.NetPosition.{NetPosition}
use Rattle.cx_vnets.specs.Arrays.{IsEven}
use Rattle.cx_vnets.specs.Edges.{code_of, width_of}

-- a value of a code is as wide as the code
abbrev pub HaveWidths : Type 0
HaveWidths =
    (values : List BitVector) (arrays : List Words) (p : NetPosition) (c : Code) (w : ℕ) (v : BitVector)
    → IsEven arrays
    → width_of values arrays p c ≡ Some w → code_of values arrays p c ≡ Some v → v.width ≡ w
