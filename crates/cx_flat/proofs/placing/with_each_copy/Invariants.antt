use Rattle.std.proofs.Common.{◌≡◌, ◌++◌, drop}
use Rattle.cx_flat.specs.Placing.{copies_at, plain_places}
use Rattle.cx_flat.proofs.placing.with_each_copy.Given as goal

-- the copies so far, and those for the invokes that are left, are all
abbrev pub invariant-loop-first : goal.invariant-loop-first
invariant-loop-first l =
    plain_places l.all.items ++ copies_at l.child.enabled l.group (drop l.first-index l.child.firsts.items) ≡ plain_places l.fn.front.items ++ copies_at l.child.enabled l.group l.child.firsts.items
