use Rattle.std.proofs.Common.{◌<◌, length, arith}
use Rattle.cx_vtree.specs.PlainParts.{plain_assign}
use Rattle.cx_text.proofs.ListLaws.{item_at}
use Rattle.cx_velab.proofs.ties.give_nets.Goals as goal

pub net-requires : goal.net-requires
net-requires c =
    let lt : c.loop-assign.assign-index < length c.args.assigns.now = omega arith in
    c.requires.named c.loop-assign.assign-index (plain_assign c.assign-item.result) (item_at plain_assign c.args.assigns.now c.loop-assign.assign-index c.assign-item.result lt c.assign-item.is)
