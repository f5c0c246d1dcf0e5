use Rattle.std.proofs.Common.{subst, sym}
use Rattle.cx_ast.specs.PlainTree.{plain_tree}
use Rattle.cx_print.specs.Printable.{IsPrintable}
use Rattle.cx_rewritten.proofs.PrintableShared.{printable-shared}
use Rattle.cx_rewritten.proofs.sharing.written.Goals as goal

pub print-requires : goal.print-requires
print-requires c = subst IsPrintable (sym c.in_ok-sharing.ensures.tree) (printable-shared (plain_tree c.args.tree.now) c.requires.printable)
