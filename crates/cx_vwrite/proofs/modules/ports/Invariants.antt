use Rattle.std.proofs.Common.{◌≡◌, ◌++◌, length, map}
use Rattle.cx_vtree.specs.Lines.{lines_text}
use Rattle.cx_vtree.specs.PlainParts.{plain_port}
use Rattle.cx_vtree.specs.Spelling.{port_lines}
use Rattle.cx_vwrite.proofs.modules.ports.Given as goal

abbrev pub invariant-loop-p : goal.invariant-loop-p
invariant-loop-p l = l.out.items ++ lines_text (port_lines (map plain_port l.rest)) ≡ l.initial.out.items ++ lines_text (port_lines (map plain_port l.ps))

abbrev pub decreases-loop-p : goal.decreases-loop-p
decreases-loop-p l = length l.rest
