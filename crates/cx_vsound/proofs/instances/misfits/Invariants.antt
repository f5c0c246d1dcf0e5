use Rattle.std.proofs.Common.{◌≡◌, map, length}
use Rattle.cx_vtree.specs.PlainParts.{plain_port, plain_conn}
use Rattle.cx_vtree.specs.Sound as sound
use Rattle.cx_vscope.specs.ScopeValues.{scope_by}
use Rattle.cx_vsound.proofs.instances.misfits.Given as goal

abbrev pub invariant-loop-p : goal.invariant-loop-p
invariant-loop-p l = sound.misfits (scope_by l.scope) (map plain_port l.ports) (map plain_conn l.conns) ≡ sound.misfits (scope_by l.scope) (map plain_port l.initial.ports) (map plain_conn l.initial.conns)

abbrev pub decreases-loop-p : goal.decreases-loop-p
decreases-loop-p l = length l.ports
