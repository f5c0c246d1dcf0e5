use Rattle.std.proofs.Common.{◌+◌, length}
use Rattle.cx_vnets.proofs.MarkLemmas.{is_next_on, next_is, none_marked, none_stale_on}
use Rattle.cx_vnets.proofs.stale.search_marked.Goals as goal

pub returns-in-Some : goal.returns-in-Some
returns-in-Some c =
    let near = c.near_marked-near.ensures.near in
    is_next_on c.args.stale.now c.args.from c.near_marked-near.result (c.near_marked-near.result + c.in-Some.steps) near.low near.before
    (next_is c.args.stale.now c.near_marked-near.result c.near_marked-near.ensures.there c.in-Some.steps c.in-Some.ensures.0 c.in-Some.ensures.1)

pub returns-in-None : goal.returns-in-None
returns-in-None c =
    let near = c.near_marked-near.ensures.near in
    none_stale_on c.args.stale.now c.args.from c.near_marked-near.result (length c.args.stale.now) near.before
    (none_marked c.args.stale.now c.near_marked-near.result c.near_marked-near.ensures.there c.in-None.ensures)
