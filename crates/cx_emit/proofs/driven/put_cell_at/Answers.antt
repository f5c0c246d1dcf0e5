use Rattle.std.proofs.Common.{◌<◌, ◌≤◌, length, option_map, arith}
use Rattle.cx_net.specs.PlainNets.{plain_net_driver}
use Rattle.cx_emit.specs.Driven.{changed_at, driver_before}
use Rattle.cx_emit.specs.PlainForms.{plain_ports_driven}
use Rattle.cx_emit.proofs.DrivenLemmas.{changed_at-set, changed_at-over}
use Rattle.cx_emit.proofs.driven.put_cell_at.Goals as goal

pub returns-in_ok-put_port_at : goal.returns-in_ok-put_port_at
returns-in_ok-put_port_at c =
    let within : c.args.cell < length c.args.driven.now.items = omega (arith, c.args.driven.now.ok.0, c.len.ensures, c.if-at-len.true) in record {
      value = changed_at-set plain_ports_driven (changed_at c.args.port (option_map (driver_before (plain_net_driver c.args.driver.now)))) c.args.driven.now.items c.args.cell c.index_mut.result.now c.put_port_at.new.driven within
          c.index_mut.ensures.value c.in_ok-put_port_at.ensures.value;
    }

pub returns-else-at-len : goal.returns-else-at-len
returns-else-at-len c =
    let over : length c.args.driven.now.items ≤ c.args.cell = omega (arith, c.args.driven.now.ok.0, c.len.ensures, c.if-at-len.false) in
    record { value = changed_at-over plain_ports_driven (changed_at c.args.port (option_map (driver_before (plain_net_driver c.args.driver.now)))) c.args.driven.now.items c.args.cell over }
