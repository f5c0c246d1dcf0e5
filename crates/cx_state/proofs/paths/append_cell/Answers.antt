use Rattle.std.proofs.Common.{◌≡◌, [], ◌∷◌, ◌++◌, map, get_or, sym, ap, ◌∙◌}
use Rattle.cx_rules.specs.Ports.{cell_name}
use Rattle.cx_design.specs.PlainForms.{plain_cell}
use Rattle.cx_state.proofs.WayLemmas.{name_at}
use Rattle.cx_state.proofs.paths.append_cell.Goals as goal

pub returns : goal.returns
returns c =
    let name : c.bytes.result.now ≡ cell_name (map plain_cell c.args.part.now.cells.items) c.args.cell =
    c.bytes.ensures.value ∙ ap (λ xs. (get_or xs c.args.cell c.index-as_slice-cell.result).name) c.as_slice.ensures.value
    ∙ sym (name_at c.args.part.now.cells.items c.args.cell c.index-as_slice-cell.result c.requires.within) in
    c.in_ok-push.ensures.items ∙ ap (λ xs. xs ++ 46 ∷ []) (c.in_ok-extend_from_slice.ensures.items ∙ ap (λ xs. c.args.text.now.items ++ xs) name)
