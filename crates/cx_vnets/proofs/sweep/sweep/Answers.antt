use Rattle.cx_vnets.proofs.RankLemmas.{net_at}
use Rattle.cx_vnets.proofs.sweep.sweep.Goals as goal

pub refresh-requires-clause-within : goal.refresh-requires-clause-within
refresh-requires-clause-within c =
    (net_at c.args.nets.now c.args.order.now c.args.readers.now.ranks.items c.loop-marked.stale (c.requires.readers.ranked c.requires.ranked) c.loop-marked.invariant.sweeping.long c.in-Some.marked
    c.in-Some.ensures.high).0

pub refresh-requires-clause-place : goal.refresh-requires-clause-place
refresh-requires-clause-place c =
    (net_at c.args.nets.now c.args.order.now c.args.readers.now.ranks.items c.loop-marked.stale (c.requires.readers.ranked c.requires.ranked) c.loop-marked.invariant.sweeping.long c.in-Some.marked
    c.in-Some.ensures.high).1
