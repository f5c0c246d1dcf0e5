use Rattle.std.proofs.Common.{sym, ap, ◌∙◌}
use Rattle.cx_prim.specs.Table.{row_of}
use Rattle.cx_meaning.proofs.RowsLemmas.{side_at}
use Rattle.cx_eval_cycle.specs.Ports.{is_side}
use Rattle.cx_eval_cycle.proofs.sides.has_side.Goals as goal

pub returns : goal.returns
returns c = record { value = c.is_on.ensures.value ∙ ap (is_side c.args.side) (sym (side_at (row_of c.args.primitive.now).ports c.args.port c.port.result c.port.ensures.value)) }
