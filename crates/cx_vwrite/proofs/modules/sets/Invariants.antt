use Rattle.std.proofs.Common.{◌≡◌, ◌++◌, drop, map}
use Rattle.cx_vtree.specs.Lines.{SetLine, lines_text}
use Rattle.cx_vtree.specs.PlainParts.{plain_assign}
use Rattle.cx_vwrite.proofs.modules.sets.Given as goal

abbrev pub invariant-loop-a : goal.invariant-loop-a
invariant-loop-a l = l.out.items ++ lines_text (map SetLine (map plain_assign (drop l.a-index l.list))) ≡ l.initial.out.items ++ lines_text (map SetLine (map plain_assign l.list))
