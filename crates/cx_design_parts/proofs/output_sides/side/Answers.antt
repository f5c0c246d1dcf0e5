use Rattle.std.proofs.Common.{rules}
use Rattle.std.proofs.lemmas.Option.{slice_get_past}
use Rattle.cx_prim.specs.Table.{row_of}
use Rattle.cx_design_parts.proofs.CellLemmas.{side_there}
use Rattle.cx_meaning.proofs.RowsLemmas.{side_gone}
use Rattle.cx_design_parts.proofs.output_sides.side.Goals as goal

pub returns-then-port-port_count : goal.returns-then-port-port_count
returns-then-port-port_count c = record { value = side_there (row_of c.args.primitive.now).ports c.args.port c.port.result c.port.ensures.value }

pub returns-else-port-port_count : goal.returns-else-port-port_count
returns-else-port-port_count c = record { value = side_gone (row_of c.args.primitive.now).ports c.args.port (slice_get_past (row_of c.args.primitive.now).ports c.args.port (search rules)) }
