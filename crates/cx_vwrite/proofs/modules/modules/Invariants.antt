use Rattle.std.proofs.Common.{◌≡◌, ◌++◌, drop}
use Rattle.cx_vtree.specs.PlainParts.{plain_modules}
use Rattle.cx_vwrite.specs.Pieces.{modules_text}
use Rattle.cx_vwrite.proofs.modules.modules.Given as goal

abbrev pub invariant-loop-m : goal.invariant-loop-m
invariant-loop-m l = l.out.items ++ modules_text (plain_modules (drop l.m-index l.ms)) ≡ l.initial.out.items ++ modules_text (plain_modules l.ms)
