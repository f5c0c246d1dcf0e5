use Rattle.std.proofs.Common.{take}
use Rattle.cx_vtree.specs.PlainParts.{plain_modules}
use Rattle.cx_velab.specs.Rows.{HasLast}
use Rattle.cx_velab.proofs.finding.last_numbers.Given as goal

abbrev pub invariant-loop-i : goal.invariant-loop-i
invariant-loop-i l = HasLast l.found (take l.i (plain_modules l.modules))
