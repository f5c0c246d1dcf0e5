use Rattle.std.proofs.Common.{◌≡◌, drop}
use Rattle.cx_print.specs.Pieces.{add_mark, more_of}
use Rattle.cx_print.proofs.headers.marks.Given as goal

abbrev pub invariant-loop-item : goal.invariant-loop-item
invariant-loop-item l = more_of add_mark (drop l.item-index l.more) l.out.items ≡ more_of add_mark l.more l.initial.out.items
