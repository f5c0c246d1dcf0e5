use Rattle.std.proofs.Common.{◌≡◌, ◌+◌, ◌≤◌, subst, ◌∙◌}
use Rattle.cx_text.specs.Members.{In}
use Rattle.cx_graphs.specs.Graphs.{edges_of, targets_of}
use Rattle.cx_vnets.specs.Readers.{Passes}
use Rattle.cx_vnets.specs.Stale.{Tells, rank_at}
use Rattle.cx_vnets.specs.Watches.{row_of}
use Rattle.cx_vnets.proofs.StaleLemmas.{tells_three}
use Rattle.cx_vnets.proofs.sweep.mark_rows.Goals as goal

pub returns-clause-tells : goal.returns-clause-tells
returns-clause-tells c =
    let t = c.args.readers.now in
    let ranks = t.ranks.items in
    let watches = edges_of t.watches.rows.items in
    let from = c.args.from in
    let net = c.args.net in
    let old = c.args.stale.now in
    let one = c.mark_comparing.new.stale in
    let two = c.mark_comparing-2.new.stale in
    tells_three ranks old one two c.mark_sided.new.stale
    (λ f. from ≤ rank_at ranks f → In (targets_of watches (row_of net c.args.old c.args.count)) f → ⊥)
    (λ f. from ≤ rank_at ranks f → In (targets_of watches (row_of net c.args.new c.args.count)) f → ⊥)
    (λ f. from ≤ rank_at ranks f → In (targets_of watches net) f → c.args.new.value ≡ c.args.old.value + 1)
    (λ f. from ≤ rank_at ranks f → Passes t c.args.count net c.args.old c.args.new f)
    (subst (λ k. Tells ranks old one (λ f. from ≤ rank_at ranks f → In (targets_of watches k) f → ⊥)) c.row_of-lost.ensures.row c.mark_comparing.ensures.tells)
    (subst (λ k. Tells ranks one two (λ f. from ≤ rank_at ranks f → In (targets_of watches k) f → ⊥)) c.row_of-won.ensures.row c.mark_comparing-2.ensures.tells)
    c.mark_sided.ensures.tells
    (λ f p q r le. record { lost = p le; won = q le; next = r le })

pub returns-clause-below : goal.returns-clause-below
returns-clause-below c = λ k lt. c.mark_sided.ensures.below k lt ∙ c.mark_comparing-2.ensures.below k lt ∙ c.mark_comparing.ensures.below k lt
