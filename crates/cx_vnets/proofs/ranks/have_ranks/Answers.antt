use Rattle.std.proofs.Common.{◌≡◌, ◌<◌, true, arith}
use Rattle.std.proofs.lemmas.Option.{slice_get-get_or}
use Rattle.cx_vnets.proofs.ReaderLemmas.{ranks_more}
use Rattle.cx_vnets.proofs.ranks.have_ranks.Goals as goal

pub loop-rank-preserved : goal.loop-rank-preserved
loop-rank-preserved c =
    let yes : c.has_rank.result ≡ true = cc in
    let e = c.has_rank.ensures yes in
    ranks_more c.args.order.now c.args.ranks.now c.loop-rank.rank _ c.loop-rank.invariant (slice_get-get_or c.args.order.now c.loop-rank.rank _ c.loop-rank-test.true) e.0 e.1

pub returns : goal.returns
returns c = λ e k f lt at. let below : k < c.loop-rank.rank = omega (arith, lt) in c.loop-rank.invariant k f below at
