use Rattle.std.proofs.Common.{◌≡◌, length, map, option_map, sym, ap, ◌∙◌}
use Rattle.std.proofs.lemmas.List.{length-map}
use Rattle.cx_design.specs.PlainForms.{plain_cell}
use Rattle.cx_design_sizes.specs.Capped.{capped}
use Rattle.cx_limits.specs.Rows.{plain_inner, plain_inners}
use Rattle.cx_limits.proofs.InnerCaps.{cells_counted}
use Rattle.cx_limits.proofs.table.cell_count.Goals as goal

pub returns : goal.returns
returns c =
    let cells = map plain_cell c.args.part.now.cells.items in
    let below = plain_inners c.args.below.now in
    let sized : length cells ≡ length below =
    length-map c.args.part.now.cells.items plain_cell ∙ sym c.requires.sized ∙ sym (length-map c.args.below.now (option_map plain_inner)) in
    c.cells_in.ensures ∙ ap capped (sym (cells_counted cells below sized))
