use Rattle.std.proofs.Common.{◌≡◌, ◌≤◌, true, false, get_or, ◌∙◌}
use Rattle.cx_text.specs.Members.{In}
use Rattle.cx_graphs.specs.Graphs.{edges_of, targets_of}
use Rattle.cx_vnets.specs.Gates.{IsShut}
use Rattle.cx_vnets.specs.Readers.{HearsNot, Passes}
use Rattle.cx_vnets.specs.Stale.{rank_at}
use Rattle.cx_vnets.proofs.StaleLemmas.{tells_more}
use Rattle.cx_vnets.proofs.sweep.mark_hearers.Goals as goal

pub returns-clause-tells : goal.returns-clause-tells
returns-clause-tells c =
    let t = c.args.readers.now in
    let ranks = t.ranks.items in
    let from = c.args.from in
    let net = c.args.net in
    let nonzero = c.args.nonzero.now in
    tells_more ranks c.args.stale.now c.mark_reading.new.stale c.mark_watching.new.stale
    (λ f. from ≤ rank_at ranks f → In (targets_of (edges_of t.of_nets.items) net) f → IsShut t.gates.items nonzero net f)
    (λ f. from ≤ rank_at ranks f → get_or t.watches.compared.items net false ≡ true → Passes t c.args.count net c.args.old c.args.new f)
    (λ f. from ≤ rank_at ranks f → HearsNot t nonzero c.args.count net c.args.old c.args.new f)
    c.mark_reading.ensures.tells c.mark_watching.ensures.tells (λ f p q le. record { reads = p le; compares = q le })

pub returns-clause-below : goal.returns-clause-below
returns-clause-below c = λ k lt. c.mark_watching.ensures.below k lt ∙ c.mark_reading.ensures.below k lt
