use Rattle.std.proofs.Common.{◌≡◌, ◌∙◌, Some, None, arith, sym}
use Rattle.std.specs.List.{slice_get}
use Rattle.std.proofs.lemmas.Grind.{common_steps}
use Rattle.std.proofs.lemmas.Option.{gets}
use Rattle.cx_flat.specs.Tables.{plain_table}
use Rattle.cx_flat.proofs.KidLemmas.{kid_of_cell, kid_of_none}
use Rattle.cx_flat.proofs.kids.kid_at_cell.Goals as goal

pub returns-in-Some : goal.returns-in-Some
returns-in-Some c =
    let at : slice_get c.args.cells.now c.args.number ≡ Some c.in-Some.cell.now = grind (arith, common_steps, gets) in
    record { value = c.kid.ensures.value ∙ sym (kid_of_cell (plain_table c.args.table.now) c.args.cells.now c.args.number c.in-Some.cell.now at) }

pub returns-in-None : goal.returns-in-None
returns-in-None c =
    let at : slice_get c.args.cells.now c.args.number ≡ None = grind (arith, common_steps, gets) in
    record { value = sym (kid_of_none (plain_table c.args.table.now) c.args.cells.now c.args.number at) }
