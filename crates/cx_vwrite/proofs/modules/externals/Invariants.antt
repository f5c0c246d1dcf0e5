use Rattle.std.proofs.Common.{◌≡◌, ◌++◌, drop, map}
use Rattle.cx_vtree.specs.Lines.{ExternalLine, lines_text}
use Rattle.cx_vtree.specs.PlainParts.{plain_externals}
use Rattle.cx_vwrite.proofs.modules.externals.Given as goal

abbrev pub invariant-loop-e : goal.invariant-loop-e
invariant-loop-e l = l.out.items ++ lines_text (map ExternalLine (plain_externals (drop l.e-index l.es))) ≡ l.initial.out.items ++ lines_text (map ExternalLine (plain_externals l.es))
