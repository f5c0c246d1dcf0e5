use Rattle.std.proofs.Common.{◌∙◌, sym, ap}
use Rattle.cx_numbering.specs.Names.{cell_among}
use Rattle.cx_numbering.specs.DesignOf.{cell_port, found_go}
use Rattle.cx_names.specs.Sites.{tree_at, part_at}
use Rattle.cx_names.proofs.ControlLemmas.{go_named}
use Rattle.cx_names.proofs.invokes.go_port.Goals as goal

pub returns : goal.returns
returns c =
    let tree = tree_at c.args.site.now in
    let part = part_at c.args.site.now in
    c.in_ok-port.ensures
    ∙ ap (λ n. cell_port tree part c.args.cell.now n) (c.as_bytes.ensures.value ∙ c.go_name-name.ensures)
    ∙ sym (go_named tree part (found_go tree part (cell_among c.args.cell.now part.cells)) c.args.cell.now)
