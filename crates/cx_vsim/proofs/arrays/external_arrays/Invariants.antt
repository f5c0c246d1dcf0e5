use Rattle.std.proofs.Common.{◌≡◌, Some, map, take}
use Rattle.cx_vtree.specs.PlainParts.{plain_external}
use Rattle.cx_velab.specs.Rows.{placed_of}
use Rattle.cx_vsim.specs.Externals.{array_of}
use Rattle.cx_vsim.proofs.arrays.external_arrays.Given as goal

abbrev pub invariant-loop-external : goal.invariant-loop-external
invariant-loop-external l = map Some l.numbers.items ≡ map (array_of (map placed_of l.instances.rows.now)) (map plain_external (take l.external-index l.external-items))
