use Rattle.cx_ast.specs.PlainTree.{plain_tree}
use Rattle.cx_print.proofs.LayoutPrintLemmas.{tree_appended}
use Rattle.cx_print.proofs.laying.lay_out.Goals as goal

pub returns-clause-ok : goal.returns-clause-ok
returns-clause-ok c =
    tree_appended (plain_tree c.args.tree.now) c.new-pieces.result.items c.file.new.out.items c.deref.result.now c.new-text.result.items c.render.new.out.items c.deref-2.result.now c.args.out.now.items c.extend_from_slice.new.self.items
    c.requires c.new-pieces.ensures.items c.in_ok-file.ensures c.deref.ensures.value c.new-text.ensures.items c.in_ok-render.ensures c.deref-2.ensures.value c.in_ok-extend_from_slice.ensures.items
