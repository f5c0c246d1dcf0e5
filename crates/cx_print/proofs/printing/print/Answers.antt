use Rattle.cx_ast.specs.PlainTree.{plain_tree}
use Rattle.cx_print.proofs.PrintLemmas.{tokens_writable}
use Rattle.cx_print.proofs.printing.print.Goals as goal

pub lay_out-requires : goal.lay_out-requires
lay_out-requires c = tokens_writable (plain_tree c.args.tree.now) c.requires
