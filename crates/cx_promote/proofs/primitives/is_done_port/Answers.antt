use Rattle.std.proofs.Common.{◌∙◌, sym, arith}
use Rattle.cx_prim.specs.declared.ports.PortName.TheVariants.{Done}
use Rattle.cx_prim.specs.Table.{row_of}
use Rattle.cx_promote.proofs.PortLemmas.{is_named_at, is_named_out}
use Rattle.cx_promote.proofs.primitives.is_done_port.Goals as goal

pub returns-then-port-port_count : goal.returns-then-port-port_count
returns-then-port-port_count c = record { value = c.is_name.ensures.value ∙ sym (is_named_at Done (row_of c.args.primitive.now).ports c.args.port c.port.result c.port.ensures.value) }

pub returns-else-port-port_count : goal.returns-else-port-port_count
returns-else-port-port_count c = record { value = sym (is_named_out Done (row_of c.args.primitive.now).ports c.args.port (omega (arith, c.if-port-port_count.false, c.port_count.ensures.value))) }
