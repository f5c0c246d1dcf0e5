use Rattle.cx_prim.specs.Widths.{IsWidth}
use Rattle.cx_vtree.specs.Plain.{PlainPort}
use Rattle.cx_vtree.specs.PlainParts.{plain_port}
use Rattle.cx_emit.proofs.EmittedNumbers.{all_at}
use Rattle.cx_emit.proofs.driven.undriven_ports.Goals as goal

pub undriven_port-requires : goal.undriven_port-requires
undriven_port-requires c = record {
  wide = all_at (λ (p : PlainPort). IsWidth p.width) plain_port c.args.ports.now c.loop-number.number c.index-ports-number.result c.requires.wide c.loop-number-test.true c.index-ports-number.is;
}
