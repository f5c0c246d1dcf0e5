use Rattle.std.proofs.Common.{◌≡◌, drop}
use Rattle.cx_print.specs.Pieces.{add_bind, more_of}
use Rattle.cx_print.proofs.operands.some_binds.Given as goal

abbrev pub invariant-loop-item : goal.invariant-loop-item
invariant-loop-item l = more_of add_bind (drop l.item-index l.more) l.out.items ≡ more_of add_bind l.more l.initial.out.items
