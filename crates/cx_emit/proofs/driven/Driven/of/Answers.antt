use Rattle.std.proofs.Common.{◌-◌, map, arith}
use Rattle.cx_net.specs.PlainNets.{plain_net_driver}
use Rattle.cx_emit.specs.Emitted.{DriverFits}
use Rattle.cx_emit.specs.PlainForms.{plain_cell_ports, plain_driven}
use Rattle.cx_emit.proofs.DrivenLemmas.{one_driver_more}
use Rattle.cx_emit.proofs.EmittedNumbers.{all_at}
use Rattle.cx_emit.proofs.driven.Driven.of.Goals as goal

pub put_driver-requires : goal.put_driver-requires
put_driver-requires c = record {
  fits = all_at DriverFits plain_net_driver c.args.part.now.drivers.items (c.loop-left.left - 1) c.index.result.now c.requires.fits.drivers (omega arith) c.index.ensures;
}

pub loop-left-preserved : goal.loop-left-preserved
loop-left-preserved c = record {
  value = one_driver_more c.args.part.now (map plain_cell_ports c.args.cells.now) (c.loop-left.left - 1) c.loop-left.left c.index.result.now (plain_driven c.loop-left.driven) (plain_driven c.put_driver.new.self)
      (omega arith) (omega arith) c.index.ensures c.in_ok-put_driver.ensures.value c.loop-left.invariant.value;
  within = omega arith;
}
