use Rattle.std.proofs.Common.{refl, sym, ◌∙◌, ap, map}
use Rattle.cx_ast.specs.PlainTree.{plain_cell}
use Rattle.cx_grammar.specs.Calyx.{cell_list, cell, attributes, attribute}
use Rattle.cx_parse.proofs.Lists.{nothing, nearer, step, over, reading_many, keeps_seen}
use Rattle.cx_parse.proofs.cells.cell_list.Goals as goal

pub loop-reader-init : goal.loop-reader-init
unfolding cell_list cell attributes attribute
loop-reader-init c = λ levels. nothing (reading_many levels cell) (ap (map plain_cell) c.new-all.ensures.items)

pub loop-reader-smaller : goal.loop-reader-smaller
unfolding cell_list cell attributes attribute
loop-reader-smaller c = nearer 0 cell refl (sym c.next_in.ensures.value ∙ c.loop-reader-test.true) (c.cell-cell.ensures.value 0) c.keep.ensures.value

pub loop-reader-preserved : goal.loop-reader-preserved
unfolding cell_list cell attributes attribute
loop-reader-preserved c = λ levels. step levels cell refl _ (c.loop-reader.invariant levels) (sym c.next_in.ensures.value ∙ c.loop-reader-test.true) (c.cell-cell.ensures.value levels) (keeps_seen plain_cell c.keep.ensures.value)

pub returns : goal.returns
unfolding cell_list cell attributes attribute
returns c = record { value = λ levels. record { leads = over levels cell refl _ (c.loop-reader.invariant levels) (sym c.next_in.ensures.value ∙ c.loop-reader-test.false) } }
