use Rattle.std.proofs.Common.{◌≡◌, ◌++◌, ◌||◌, map, drop}
use Rattle.cx_vtree.specs.PlainParts.{plain_port, plain_conn}
use Rattle.cx_vtree.specs.Sound as sound
use Rattle.cx_vsound.proofs.nets.add_driven.Given as goal

abbrev pub invariant-loop-c : goal.invariant-loop-c
invariant-loop-c l =
    ((l.doubled || sound.doubles l.driven (sound.driven_by (map plain_port l.ports) (map plain_conn (drop l.c-index l.conns))))
    ≡ sound.doubles l.initial.driven (sound.driven_by (map plain_port l.ports) (map plain_conn l.conns)))
    × (l.driven ++ sound.driven_by (map plain_port l.ports) (map plain_conn (drop l.c-index l.conns))
    ≡ l.initial.driven ++ sound.driven_by (map plain_port l.ports) (map plain_conn l.conns))
