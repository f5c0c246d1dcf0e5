use Rattle.std.proofs.Common.{◌≡◌, ◌++◌, drop, map}
use Rattle.cx_vtree.specs.Lines.{lines_text}
use Rattle.cx_vtree.specs.PlainParts.{plain_item}
use Rattle.cx_vtree.specs.Spelling.{item_line}
use Rattle.cx_vwrite.proofs.modules.items.Given as goal

abbrev pub invariant-loop-i : goal.invariant-loop-i
invariant-loop-i l = l.out.items ++ lines_text (map item_line (map plain_item (drop l.i-index l.list))) ≡ l.initial.out.items ++ lines_text (map item_line (map plain_item l.list))
