use Rattle.std.specs.Prelude.{codes}
use Rattle.std.proofs.Common.{arith}
use Rattle.cx_prim.specs.Table.{row_of}
use Rattle.cx_vmods.specs.Modules.{input, port_of}
use Rattle.cx_vmods.proofs.PortLemmas.{one_more, all_taken}
use Rattle.cx_vmods.proofs.rows.ports.Goals as goal

pub loop-n-preserved : goal.loop-n-preserved
loop-n-preserved c =
    one_more port_of (input (codes "clk")) (input (codes "reset")) _ _ (row_of c.args.primitive.now).ports c.loop-n.n _ c.loop-n.invariant c.port.ensures.value c.in_ok-push-3.ensures.value

pub returns : goal.returns
returns c =
    record { value = all_taken port_of (input (codes "clk")) (input (codes "reset")) _ (row_of c.args.primitive.now).ports c.loop-n.n c.loop-n.invariant (omega (arith, c.loop-n-test.false, c.port_count-n-end.ensures.value)) }
