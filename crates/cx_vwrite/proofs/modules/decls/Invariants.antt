use Rattle.std.proofs.Common.{◌≡◌, ◌++◌, drop, map}
use Rattle.cx_vtree.specs.Lines.{DeclLine, lines_text}
use Rattle.cx_vtree.specs.PlainParts.{plain_decl}
use Rattle.cx_vwrite.proofs.modules.decls.Given as goal

abbrev pub invariant-loop-d : goal.invariant-loop-d
invariant-loop-d l = l.out.items ++ lines_text (map DeclLine (map plain_decl (drop l.d-index l.ds))) ≡ l.initial.out.items ++ lines_text (map DeclLine (map plain_decl l.ds))
