use Rattle.std.proofs.Common.{◌≡◌, [], ◌∷◌, map, length}
use Rattle.std.specs.Prelude.{codes}
use Rattle.cx_vtree.specs.PlainParts.{plain_port}
use Rattle.cx_vread_exprs.specs.Answers.{place_of}
use Rattle.cx_vread_exprs.specs.Places.{begins, many, with_front}
use Rattle.cx_vread.specs.Parts as parts
use Rattle.cx_vread.proofs.lines.more_ports.Given as goal

abbrev pub invariant-loop-left : goal.invariant-loop-left
invariant-loop-left l = with_front (map plain_port l.list.items) (many (begins (codes ",")) parts.next_port_at l.left (place_of l.here)) ≡ with_front (plain_port l.fn.first ∷ []) (many (begins (codes ",")) parts.next_port_at (length l.fn.at.rest.now) (place_of l.fn.at))

abbrev pub decreases-loop-left : goal.decreases-loop-left
decreases-loop-left l = l.left
