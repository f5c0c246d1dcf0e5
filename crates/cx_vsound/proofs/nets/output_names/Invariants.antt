use Rattle.std.proofs.Common.{◌≡◌, ◌++◌, map, drop}
use Rattle.cx_vtree.specs.PlainParts.{plain_port}
use Rattle.cx_vsound.specs.Parts.{output_names}
use Rattle.cx_vsound.proofs.nets.output_names.Given as goal

abbrev pub invariant-loop-p : goal.invariant-loop-p
invariant-loop-p l = l.names ++ output_names (map plain_port (drop l.p-index l.ports)) ≡ output_names (map plain_port l.ports)
