use Rattle.std.proofs.Common.{◌≡◌, ◌++◌, drop, map}
use Rattle.cx_ast.specs.PlainGuards.{plain_guard}
use Rattle.cx_copies.specs.Naming.{named_guard}
use Rattle.cx_copies.proofs.guards.+guard.Given as goal

-- those so far, and those of what is left, are all
abbrev pub invariant-named_guards-loop-guard : goal.invariant-named_guards-loop-guard
invariant-named_guards-loop-guard g l = map plain_guard l.named.items ++ map (named_guard (g.N.CellNames.renaming l.names)) (map plain_guard (drop l.guard-index l.guards)) ≡ map (named_guard (g.N.CellNames.renaming l.names)) (map plain_guard l.guards)
