use Rattle.std.proofs.Common.{◌<◌, arith}
use Rattle.std.proofs.lemmas.Option.{slice_get_within}
use Rattle.cx_vnets.proofs.StaleLemmas.{member_at}
use Rattle.cx_vnets.proofs.spans.plain_of.Goals as goal

pub returns : goal.returns
returns c = λ f i.
    let r = member_at c.args.row.now f i in
    let lt = slice_get_within c.args.row.now r.0 f r.1 in
    let below : r.0 < c.loop-reader.reader-index = omega (arith, lt) in
    c.loop-reader.invariant r.0 f below r.1
