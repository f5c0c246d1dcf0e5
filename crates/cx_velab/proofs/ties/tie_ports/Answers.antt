use Rattle.std.proofs.Common.{◌<◌, length, subst, arith}
use Rattle.std.specs.Prelude.{IsSome}
use Rattle.cx_vtree.specs.PlainParts.{plain_conn}
use Rattle.cx_vnets.specs.Numberings.{nets_by}
use Rattle.cx_text.proofs.ListLaws.{item_at}
use Rattle.cx_velab.proofs.ties.tie_ports.Goals as goal

pub net-requires : goal.net-requires
net-requires c =
    let lt : c.loop-k.k < length c.args.conns.now = omega (arith, c.requires.same) in
    subst (λ x. IsSome (nets_by c.args.numbers.now x.net)) c.index-conns-k.is
    (c.requires.named c.loop-k.k (plain_conn c.index-conns-k.result) (item_at plain_conn c.args.conns.now c.loop-k.k c.index-conns-k.result lt c.index-conns-k.is))
