use Rattle.std.proofs.Common.{All, map, subst, sym}
use Rattle.cx_prim.specs.Widths.{IsWidth}
use Rattle.cx_vtree.specs.Plain.{PlainPort}
use Rattle.cx_vtree.specs.PlainParts.{plain_port}
use Rattle.cx_emit.specs.Emitted.{PortsAreWide}
use Rattle.cx_emit.specs.PlainForms.{plain_cell_ports}
use Rattle.cx_emit.proofs.EmittedNumbers.{all_at}
use Rattle.cx_emit.proofs.driven.undriven_cells.Goals as goal

pub undriven_ports-requires : goal.undriven_ports-requires
undriven_ports-requires c = record {
  wide = subst (λ ports. All (λ (p : PlainPort). IsWidth p.width) (map plain_port ports)) (sym c.deref.ensures.value)
      (all_at PortsAreWide plain_cell_ports c.args.cells.now c.loop-number.number c.index-cells-number.result c.requires.wide c.loop-number-test.true c.index-cells-number.is);
}
