use Rattle.std.proofs.Common.{◌∙◌, sym, ap}
use Rattle.cx_design.specs.PlainForms.{plain_kind}
use Rattle.cx_design.specs.declared.cells.Cell.{Cell}
use Rattle.cx_share.proofs.GiveLemmas.{kind_there}
use Rattle.cx_share.proofs.giving.kind_at.Goals as goal

pub returns : goal.returns
returns c = record { value = ap (λ (x : Cell). plain_kind x.kind) (sym c.index-cells-cell.is) ∙ sym (kind_there c.args.part.now.cells.items c.args.cell c.index-cells-cell.result c.requires.within (rw c.as_slice-cells.ensures.value at c.index-cells-cell.is)) }
