use Rattle.std.proofs.Common.{◌≡◌, ◌++◌, drop, map}
use Rattle.cx_copies.specs.Naming.{named_bind}
use Rattle.cx_copies.proofs.operands.named_binds.Given as goal

-- those so far, and those of what is left, are all
abbrev pub invariant-loop-bind : goal.invariant-loop-bind
invariant-loop-bind g l = l.named.items ++ map (named_bind (g.N.CellNames.renaming l.names)) (drop l.bind-index l.binds) ≡ map (named_bind (g.N.CellNames.renaming l.names)) l.binds
