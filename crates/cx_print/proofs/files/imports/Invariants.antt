use Rattle.std.proofs.Common.{◌≡◌, drop}
use Rattle.cx_print.specs.Pieces.{add_import, add_from}
use Rattle.cx_print.proofs.files.imports.Given as goal

abbrev pub invariant-loop-item : goal.invariant-loop-item
invariant-loop-item l = add_from add_import l.gap (drop l.item-index l.items) l.out.items ≡ add_from add_import l.initial.gap l.items l.initial.out.items
