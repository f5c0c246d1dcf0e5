use Rattle.std.proofs.Common.{◌∙◌, sym, ap}
use Rattle.cx_design.specs.declared.cells.Cell.{Cell}
use Rattle.cx_share.proofs.TreeLemmas.{name_there}
use Rattle.cx_share.proofs.naming.cell_name.Goals as goal

pub returns : goal.returns
returns c = record {
  value = c.in_ok-name.ensures.value
      ∙ ap (λ (x : Cell). x.name) (sym c.index-cells-cell.is)
      ∙ sym (name_there c.args.part.now.cells.items c.args.cell c.index-cells-cell.result c.requires.within (rw c.as_slice-cells.ensures.value at c.index-cells-cell.is));
}
