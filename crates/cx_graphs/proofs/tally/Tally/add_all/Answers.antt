use Rattle.std.proofs.Common.{rules, ◌<◌, ◌∷◌, [], get_or, take, sym, subst}
use Rattle.cx_graphs.specs.Tallies.{Added}
use Rattle.cx_graphs.proofs.Marks.{in_at, take_more}
use Rattle.cx_graphs.proofs.TallyAdditions.{added_more}
use Rattle.cx_graphs.proofs.tally.Tally.add_all.Goals as goal

pub add-requires : goal.add-requires
add-requires c =
    let ns = c.args.nodes.now in
    let k = c.loop-node.node-index in
    record { within = subst (λ n. get_or ns k 0 < n) (sym c.loop-node.invariant.same_length) (c.requires.within (get_or ns k 0) (in_at ns k (search rules))) }

pub loop-node-preserved : goal.loop-node-preserved
loop-node-preserved c =
    let ns = c.args.nodes.now in
    let k = c.loop-node.node-index in
    let owners = c.args.self.now.owners.items in
    let touched = c.args.self.now.touched.items in
    let mid = c.loop-node.self in
    let last = c.add.new.self in
    subst (λ l. Added owners touched l c.args.more last.owners.items last.touched.items) (sym (take_more ns k (search rules)))
    (added_more owners touched (take k ns) c.args.more mid.owners.items mid.touched.items (get_or ns k 0 ∷ []) last.owners.items last.touched.items c.loop-node.invariant c.in_ok-add.ensures.added)
