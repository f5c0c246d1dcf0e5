use Rattle.std.proofs.Common.{◌≡◌, ◌++◌, drop, map}
use Rattle.cx_ast.specs.PlainTree as ast
use Rattle.cx_meaning.specs.Designs.{PlainComponent}
use Rattle.cx_sharing.specs.SharedTree.{left_cells}
use Rattle.cx_share.specs.Givings.{AreKeepers}
use Rattle.cx_share.proofs.components.left_cells.Given as goal

-- the cells so far, and those that are left, are all
abbrev pub invariant-loop-number : goal.invariant-loop-number
invariant-loop-number l = (part : PlainComponent) → AreKeepers part l.keepers → map ast.plain_cell l.left.items ++ left_cells part l.number (map ast.plain_cell (drop l.number l.cells)) ≡ left_cells part 0 (map ast.plain_cell l.cells)
