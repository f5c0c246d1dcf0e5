use Rattle.std.proofs.Common.{◌≡◌, ◌++◌, drop, map}
use Rattle.cx_design.specs.PlainForms.{plain_cell}
use Rattle.cx_flattening.specs.Flattened.{wire_of}
use Rattle.cx_flat.proofs.cells.with_wires.Given as goal

-- the cells so far, and the wires of the outputs that are left, are all
abbrev pub invariant-loop-output : goal.invariant-loop-output
invariant-loop-output l =
    map plain_cell l.all.items ++ map (wire_of (plain_cell l.cell)) (drop l.output-index l.outputs)
    ≡ map plain_cell l.fn.front.items ++ map (wire_of (plain_cell l.cell)) l.outputs
