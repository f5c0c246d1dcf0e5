use Rattle.std.proofs.Common.{rules, ◌<◌, ◌∷◌, [], get_or, take, sym, subst}
use Rattle.cx_graphs.specs.Graphs.{Appends}
use Rattle.cx_graphs.proofs.Marks.{in_at, appends_nothing, appends_more, spread_whole, take_more}
use Rattle.cx_graphs.proofs.reaching.mark_all.Goals as goal

pub loop-node-init : goal.loop-node-init
loop-node-init c = appends_nothing c.args.marks.now.items c.args.waiting.now.items c.args.nodes.now

pub mark-requires : goal.mark-requires
mark-requires c =
    let ns = c.args.nodes.now in
    let k = c.loop-node.node-index in
    record { within = subst (λ n. get_or ns k 0 < n) (sym (spread_whole c.args.marks.now.items c.args.waiting.now.items (take k ns) c.loop-node.marks.items c.loop-node.waiting.items c.loop-node.invariant).same_length) (c.requires.within (get_or ns k 0) (in_at ns k (search rules))) }

pub loop-node-preserved : goal.loop-node-preserved
loop-node-preserved c =
    let ns = c.args.nodes.now in
    let k = c.loop-node.node-index in
    subst (λ l. Appends c.args.marks.now.items c.args.waiting.now.items l c.mark.new.marks.items c.mark.new.waiting.items) (sym (take_more ns k (search rules)))
    (appends_more c.args.marks.now.items c.args.waiting.now.items (take k ns) c.loop-node.marks.items c.loop-node.waiting.items (get_or ns k 0 ∷ []) c.mark.new.marks.items c.mark.new.waiting.items c.loop-node.invariant c.in_ok-mark.ensures.appends)
