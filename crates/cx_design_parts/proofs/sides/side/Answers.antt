use Rattle.std.proofs.Common.{◌≡◌, sym, ◌∙◌}
use Rattle.cx_design_parts.proofs.CellLemmas.{side_there}
use Rattle.cx_meaning.proofs.RowsLemmas.{side_gone}
use Rattle.cx_design_parts.proofs.sides.side.Goals as goal

pub returns-in-Some : goal.returns-in-Some
returns-in-Some c = record { value = side_there _ c.args.port c.in-Some.row (sym c.port_row.ensures.value ∙ c.in-Some.is) }

pub returns-in-None : goal.returns-in-None
returns-in-None c = record { value = side_gone _ c.args.port (sym c.port_row.ensures.value ∙ c.in-None.is) }
