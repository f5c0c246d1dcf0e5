use Rattle.std.proofs.Common.{◌≡◌, ◌+◌, ◌≤◌}
use Rattle.cx_text.specs.Members.{In}
use Rattle.cx_graphs.specs.Graphs.{edges_of, targets_of}
use Rattle.cx_vnets.specs.Stale.{rank_at}
use Rattle.cx_vnets.proofs.StaleLemmas.{tells_none, tells_so}
use Rattle.cx_vnets.proofs.sweep.mark_sided.Goals as goal

pub returns-then-is_next-clause-tells : goal.returns-then-is_next-clause-tells
returns-then-is_next-clause-tells c =
    let t = c.args.readers.now in
    tells_none t.ranks.items c.args.stale.now
    (λ f. c.args.from ≤ rank_at t.ranks.items f → In (targets_of (edges_of t.watches.rows.items) c.args.net) f → c.args.new.value ≡ c.args.old.value + 1)
    (λ f place le i. c.is_next.ensures c.if-is_next.true)

pub returns-clause-tells : goal.returns-clause-tells
returns-clause-tells c =
    let t = c.args.readers.now in
    tells_so t.ranks.items c.args.stale.now c.mark_comparing.new.stale (λ f. c.args.from ≤ rank_at t.ranks.items f → In (targets_of (edges_of t.watches.rows.items) c.args.net) f → ⊥)
    (λ f. c.args.from ≤ rank_at t.ranks.items f → In (targets_of (edges_of t.watches.rows.items) c.args.net) f → c.args.new.value ≡ c.args.old.value + 1) c.mark_comparing.ensures.tells
    (λ f h le i. absurd (h le i))
