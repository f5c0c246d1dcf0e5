use Rattle.std.proofs.Common.{◌≡◌, [], map, drop}
use Rattle.cx_vtree.specs.PlainParts.{plain_port}
use Rattle.cx_vtree.specs.Sound as sound
use Rattle.cx_vsound.specs.Search.{over}
use Rattle.cx_vsound.proofs.parts.ports.Given as goal

abbrev pub invariant-loop-index : goal.invariant-loop-index
invariant-loop-index l = over l.search (sound.ports_faults l.is_main l.drivers l.earlier l.index (map plain_port (drop l.index l.ports))) ≡ over l.initial.search (sound.ports_faults l.is_main l.drivers [] 0 (map plain_port l.ports))
