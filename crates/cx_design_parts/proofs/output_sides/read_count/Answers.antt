use Rattle.std.proofs.Common.{sym, ◌∙◌}
use Rattle.cx_prim.specs.Table.{row_of}
use Rattle.cx_design_parts.specs.Outputs.{read_count}
use Rattle.cx_design_parts.proofs.PortLemmas.{count_more, count_stops}
use Rattle.cx_design_parts.proofs.output_sides.read_count.Goals as goal

pub returns-then-not-is_read : goal.returns-then-not-is_read
returns-then-not-is_read c =
    let ports = (row_of c.args.primitive.now).ports in
    record { value = count_stops ports c.loop-port.port (read_count ports) c.port.result c.port.ensures.value (sym c.is_read.ensures.value ∙ c.if-not-is_read.true) c.loop-port.invariant }

pub loop-port-preserved : goal.loop-port-preserved
loop-port-preserved c =
    let ports = (row_of c.args.primitive.now).ports in
    count_more ports c.loop-port.port (read_count ports) c.port.result c.port.ensures.value (sym c.is_read.ensures.value ∙ c.if-not-is_read.false) c.loop-port.invariant
