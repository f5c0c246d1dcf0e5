use Rattle.std.proofs.Common.{◌≡◌, length, map}
use Rattle.std.proofs.lemmas.List.{length-map}
use Rattle.cx_names_scopes.specs.Numbered.{AreNumbersOf, number_in}
use Rattle.cx_design.specs.PlainForms.{plain_cell, plain_component}
use Rattle.cx_share.specs.Naming.{AreKeeperNames}
use Rattle.cx_share.proofs.TreeLemmas.{names_kept}
use Rattle.cx_share.proofs.naming.kept_names.Goals as goal

pub returns : goal.returns
returns c =
    let cells = c.args.part.now.cells.items in
    let same : length (map plain_cell cells) ≡ length cells = length-map cells plain_cell in
    let found : AreNumbersOf (map (λ cell. cell.name) (map plain_cell cells)) c.in_ok-numbers.numbers = rw c.as_slice.ensures.value at c.in_ok-numbers.ensures.value in
    let names : AreKeeperNames (plain_component c.args.part.now) (length (map plain_cell cells)) c.in_ok-names.names.items = rw same c.in_ok-names.ensures.value in
    record { value = λ cell. names_kept (plain_component c.args.part.now) c.in_ok-names.names.items (number_in c.in_ok-numbers.numbers cell) cell (found cell) names }
