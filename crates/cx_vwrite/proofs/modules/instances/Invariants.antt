use Rattle.std.proofs.Common.{◌≡◌, ◌++◌, drop, map}
use Rattle.cx_vtree.specs.Lines.{InstanceLine, lines_text}
use Rattle.cx_vtree.specs.PlainParts.{plain_instance}
use Rattle.cx_vwrite.proofs.modules.instances.Given as goal

abbrev pub invariant-loop-i : goal.invariant-loop-i
invariant-loop-i l = l.out.items ++ lines_text (map InstanceLine (map plain_instance (drop l.i-index l.list))) ≡ l.initial.out.items ++ lines_text (map InstanceLine (map plain_instance l.list))
