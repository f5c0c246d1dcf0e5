use Rattle.std.proofs.Common.{◌≡◌, ℕ, ◌<◌, Some, slice_get}
use Rattle.cx_bits.specs.BitVector.{BitVector}
use Rattle.cx_prim.specs.declared.ports.PortRow.{PortRow}
use Rattle.cx_prim.specs.Rows.{input}
use Rattle.cx_cell_tests.proofs.conditions.inputs_fit.Given as goal

abbrev pub invariant-loop-n : goal.invariant-loop-n
invariant-loop-n g l =
    (m : ℕ) (port : PortRow) (b : BitVector) → m < l.n → slice_get (g.C.Cycle.meaning l.cell).ports m ≡ Some port → input l.inputs m ≡ Some b → b.width ≡ port.width
