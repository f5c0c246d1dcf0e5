use Rattle.std.proofs.Common.{◌≡◌, ◌++◌, drop, map}
use Rattle.cx_design.specs.PlainForms.{plain_guard}
use Rattle.cx_static.proofs.copies.+guard.Given as goal

-- the copies so far, and those of the parts that are left, are all
abbrev pub invariant-copied_guards-loop-guard : goal.invariant-copied_guards-loop-guard
invariant-copied_guards-loop-guard l = map plain_guard l.copies.items ++ map plain_guard (drop l.guard-index l.guards) ≡ map plain_guard l.guards
