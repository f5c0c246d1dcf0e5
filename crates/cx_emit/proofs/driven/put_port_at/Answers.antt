use Rattle.std.proofs.Common.{◌<◌, ◌≤◌, length, option_map, arith}
use Rattle.cx_net.specs.PlainNets.{plain_net_driver}
use Rattle.cx_emit.specs.Driven.{driver_before}
use Rattle.cx_emit.specs.PlainForms.{plain_port_driven}
use Rattle.cx_emit.proofs.DrivenLemmas.{changed_at-set, changed_at-over}
use Rattle.cx_emit.proofs.driven.put_port_at.Goals as goal

pub returns-in_ok-put_port : goal.returns-in_ok-put_port
returns-in_ok-put_port c =
    let within : c.args.port < length c.args.driven.now.items = omega (arith, c.args.driven.now.ok.0, c.len.ensures, c.if-at-len.true) in record {
      value = changed_at-set plain_port_driven (option_map (driver_before (plain_net_driver c.args.driver.now))) c.args.driven.now.items c.args.port c.index_mut.result.now c.put_port.new.driven within
          c.index_mut.ensures.value c.in_ok-put_port.ensures.value;
    }

pub returns-else-at-len : goal.returns-else-at-len
returns-else-at-len c =
    let over : length c.args.driven.now.items ≤ c.args.port = omega (arith, c.args.driven.now.ok.0, c.len.ensures, c.if-at-len.false) in
    record { value = changed_at-over plain_port_driven (option_map (driver_before (plain_net_driver c.args.driver.now))) c.args.driven.now.items c.args.port over }
