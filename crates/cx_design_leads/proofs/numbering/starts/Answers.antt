use Rattle.std.proofs.Common.{rules, ◌≡◌, ◌+◌, length, ap, ◌∙◌}
use Rattle.cx_design_leads.proofs.NodeLemmas.{cells_of_part}
use Rattle.cx_design_leads.proofs.numbering.starts.Goals as goal

pub returns-clause-len : goal.returns-clause-len
returns-clause-len c =
    let part = c.component.result.now in
    let design = c.args.design.now in
    let end : c.loop-cell.cell ≡ length part.cells.items = search rules in
    c.loop-cell.invariant.len ∙ ap (λ k. k + 1) (end ∙ cells_of_part design.components.items design.main c.args.number part c.requires.within c.component.ensures.value)
