use Rattle.std.proofs.Common.{◌≡◌, ℕ, ◌<◌, ◌≤◌, Some, slice_get, arith}
use Rattle.std.proofs.lemmas.Option.{slice_get_within}
use Rattle.cx_text.specs.Members.{In}
use Rattle.cx_vnets.specs.Stale.{rank_at}
use Rattle.cx_vnets.proofs.StaleLemmas.{member_at, tells_so}
use Rattle.cx_vnets.proofs.stale.mark_row.Goals as goal

pub returns-clause-tells : goal.returns-clause-tells
returns-clause-tells c =
    tells_so c.args.ranks.now c.args.stale.now c.loop-net.stale
    (λ f. c.args.from ≤ rank_at c.args.ranks.now f → (j : ℕ) → j < c.loop-net.net-index → slice_get c.args.row.now j ≡ Some f → ⊥)
    (λ f. c.args.from ≤ rank_at c.args.ranks.now f → In c.args.row.now f → ⊥) c.loop-net.invariant.tells
    (λ f h le i.
    let r = member_at c.args.row.now f i in
    let lt = slice_get_within c.args.row.now r.0 f r.1 in
    let below : r.0 < c.loop-net.net-index = omega (arith, lt) in
    h le r.0 below r.1)
