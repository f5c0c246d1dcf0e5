use Rattle.std.proofs.Common.{◌≡◌, map, drop}
use Rattle.std.specs.List.{list_all}
use Rattle.cx_vtree.specs.Layout as layout
use Rattle.cx_vtree.specs.PlainParts.{plain_port}
use Rattle.cx_vscope.proofs.layout.ports_fit.Given as goal

abbrev pub invariant-loop-p : goal.invariant-loop-p
invariant-loop-p l = list_all layout.port_fits (map plain_port (drop l.p-index l.list)) ≡ list_all layout.port_fits (map plain_port l.list)
