use Rattle.cx_vnets.proofs.ReaderLemmas.{ranked_by}
use Rattle.cx_vnets.proofs.ranks.is_ranked.Goals as goal

pub returns-then-are_behind : goal.returns-then-are_behind
returns-then-are_behind c = λ e.
    let long = c.are_as_many.ensures c.if-are_as_many.true in
    ranked_by c.args.nets.now c.args.order.now c.args.ranks.now long.0 long.1 (c.are_behind.ensures c.if-are_behind.true) (c.have_ranks.ensures e)
