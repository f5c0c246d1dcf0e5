use Rattle.std.proofs.Common.{ap, ◌∙◌, subst}
use Rattle.cx_ast.specs.PlainTree.{plain_tree}
use Rattle.cx_print.specs.Printed.{AppendsTree}
use Rattle.cx_rewritten.specs.PromotedTexts.{lines}
use Rattle.cx_rewritten.proofs.PromotedLemmas.{promoted_printable}
use Rattle.cx_rewritten.proofs.promoting.written.Goals as goal

pub print-requires : goal.print-requires
print-requires c = promoted_printable (plain_tree c.args.tree.now) (plain_tree c.in_ok-promotion.promotion.tree) c.in_ok-promotion.promotion.rows.items c.in_ok-promotion.ensures.promoted c.requires.printable

pub returns : goal.returns
returns c = record {
  new = plain_tree c.in_ok-promotion.promotion.tree;
  rows = c.in_ok-promotion.promotion.rows.items;
  promoted = c.in_ok-promotion.ensures.promoted;
  printed = subst (λ begun. AppendsTree (plain_tree c.in_ok-promotion.promotion.tree) begun c.print.new.out.items) (c.in_ok-text.ensures ∙ ap lines c.as_slice.ensures.value) c.in_ok-print.ensures.ok;
}
