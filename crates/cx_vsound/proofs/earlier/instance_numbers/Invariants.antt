use Rattle.std.proofs.Common.{map, take}
use Rattle.cx_vtree.specs.PlainParts.{plain_instance}
use Rattle.cx_vsound.specs.Firsts.{HasFirst, instance_names}
use Rattle.cx_vsound.proofs.earlier.instance_numbers.Given as goal

abbrev pub invariant-loop-i : goal.invariant-loop-i
invariant-loop-i l = HasFirst l.first (instance_names (map plain_instance (take l.i l.list)))
