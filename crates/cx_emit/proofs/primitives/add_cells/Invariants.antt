use Rattle.std.proofs.Common.{◌≡◌, drop, map}
use Rattle.cx_design.specs.PlainForms.{plain_cell}
use Rattle.cx_vtree.specs.PlainParts.{plain_modules}
use Rattle.cx_emit.specs.Found.{AreFound}
use Rattle.cx_emit.specs.Sources.{primitives_in, with_primitives}
use Rattle.cx_emit.proofs.primitives.add_cells.Given as goal

-- the modules so far, with those of the cells that are left, are all
abbrev pub invariant-loop-cell : goal.invariant-loop-cell
invariant-loop-cell l = record {
  found : AreFound l.found (plain_modules l.modules.items);
  value : with_primitives (plain_modules l.modules.items) (primitives_in (map plain_cell (drop l.cell-index l.cells)))
      ≡ with_primitives (plain_modules l.initial.modules.items) (primitives_in (map plain_cell l.cells));
}
