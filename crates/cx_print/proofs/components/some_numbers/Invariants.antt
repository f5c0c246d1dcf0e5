use Rattle.std.proofs.Common.{◌≡◌, drop}
use Rattle.cx_print.specs.Pieces.{put_number, more_of}
use Rattle.cx_print.proofs.components.some_numbers.Given as goal

abbrev pub invariant-loop-item : goal.invariant-loop-item
invariant-loop-item l = more_of put_number (drop l.item-index l.more) l.out.items ≡ more_of put_number l.more l.initial.out.items
