use Rattle.std.proofs.Common.{◌≡◌, map, length}
use Rattle.std.specs.Prelude.{codes}
use Rattle.cx_vtree.specs.PlainParts.{plain_item}
use Rattle.cx_vscope.specs.ScopeValues.{scope_by}
use Rattle.cx_vread_exprs.specs.Answers.{place_of}
use Rattle.cx_vread_exprs.specs.Places.{begins, many, with_front}
use Rattle.cx_vread.specs.Parts as parts
use Rattle.cx_vread.proofs.edges.items.Given as goal

abbrev pub invariant-loop-left : goal.invariant-loop-left
invariant-loop-left l = with_front (map plain_item l.list.items) (many (begins (codes "     ")) (parts.item_at (scope_by l.scope)) l.left (place_of l.here)) ≡ many (begins (codes "     ")) (parts.item_at (scope_by l.scope)) (length l.fn.at.rest.now) (place_of l.fn.at)

abbrev pub decreases-loop-left : goal.decreases-loop-left
decreases-loop-left l = l.left
