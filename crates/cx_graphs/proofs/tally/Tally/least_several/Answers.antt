use Rattle.std.proofs.Common.{rules, ◌+◌, get_or, take, sym, subst}
use Rattle.cx_graphs.specs.Owners.{IsLeast, lesser}
use Rattle.cx_graphs.proofs.Marks.{in_at, take_more}
use Rattle.cx_graphs.proofs.Least.{least_more}
use Rattle.cx_graphs.proofs.tally.Tally.least_several.Goals as goal

pub less-least-requires : goal.less-least-requires
less-least-requires c =
    let ns = c.args.among.now in
    let k = c.loop-node.node-index in
    record { within = c.requires.within (get_or ns k 0) (in_at ns k (search rules)) }

pub loop-node-preserved : goal.loop-node-preserved
loop-node-preserved c =
    let ns = c.args.among.now in
    let k = c.loop-node.node-index in
    let owners = c.args.self.now.owners.items in
    subst (λ r. IsLeast owners (take (k + 1) ns) r) (sym c.less-least.ensures.value)
    (subst (λ l. IsLeast owners l (lesser owners c.loop-node.least (get_or ns k 0))) (sym (take_more ns k (search rules))) (least_more owners (take k ns) (get_or ns k 0) c.loop-node.least c.loop-node.invariant))
