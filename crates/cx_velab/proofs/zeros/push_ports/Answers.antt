use Rattle.std.proofs.Common.{◌<◌, length, arith}
use Rattle.cx_vtree.specs.PlainParts.{plain_port}
use Rattle.cx_text.proofs.ListLaws.{item_at}
use Rattle.cx_velab.proofs.zeros.push_ports.Goals as goal

pub zero-requires : goal.zero-requires
zero-requires c =
    let lt : c.loop-port.port-index < length c.args.ports.now = omega arith in
    c.requires c.loop-port.port-index (plain_port c.port-item.result) (item_at plain_port c.args.ports.now c.loop-port.port-index c.port-item.result lt c.port-item.is)
