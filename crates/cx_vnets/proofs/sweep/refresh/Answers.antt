use Rattle.std.proofs.Common.{◌+◌, ◌≤◌, get_or, set, sym, ap, ◌∙◌, subst}
use Rattle.cx_vnets.specs.Readers.{HearsNot}
use Rattle.cx_vnets.specs.Stale.{Tells, rank_at}
use Rattle.cx_vnets.proofs.GateLemmas.{zeros_given}
use Rattle.cx_vnets.proofs.SweepLemmas.{net_own, net_rows, watch_rows, net_values, refreshed_same, refreshed}
use Rattle.cx_vnets.proofs.WholeLooks.{same_length}
use Rattle.cx_text.proofs.ListLaws.{read_at}
use Rattle.cx_vnets.proofs.sweep.refresh.Goals as goal

pub carry-requires-clause-rows : goal.carry-requires-clause-rows
carry-requires-clause-rows c = (c.requires.readers.1.carriers c.requires.ranked).rows

pub carry-requires-clause-long : goal.carry-requires-clause-long
carry-requires-clause-long c =
    let r = c.requires in
    same_length c.args.values.now c.args.stored.now.nets.items r.sweeping.widths ∙ sym r.fits.long ∙ sym (r.readers.1.carriers r.ranked).long

pub carry-requires-clause-own : goal.carry-requires-clause-own
carry-requires-clause-own c =
    let r = c.requires in
    let values = c.args.values.now in
    let old = c.index-values-net.result in
    let lt = net_values c.args.nets.now c.args.stored.now r.fits r.readers.0 c.args.readers.now r.readers.1 r.ranked c.args.net c.args.rank r.within r.place c.args.stale.now values r.sweeping in
    net_own c.args.nets.now c.args.stored.now r.fits r.readers.0 c.args.readers.now r.readers.1 r.ranked c.args.net c.args.rank r.within r.place c.args.stale.now values r.sweeping old c.drive-value.result
    (read_at values c.args.net old lt c.index-values-net.is) c.drive-value.ensures (c.is_other.ensures.other c.if-is_other.true)

pub mark_hearers-requires-clause-rows : goal.mark_hearers-requires-clause-rows
mark_hearers-requires-clause-rows c =
    let r = c.requires in
    net_rows c.args.nets.now c.args.stored.now r.fits r.readers.0 c.args.readers.now r.readers.1 r.ranked c.args.net c.args.rank r.within r.place c.args.stale.now c.args.values.now r.sweeping ∙ sym (c.len.ensures ∙ c.args.nets.now.drivers.ok.0)

pub mark_hearers-requires-clause-watches : goal.mark_hearers-requires-clause-watches
mark_hearers-requires-clause-watches c =
    let r = c.requires in
    watch_rows c.args.nets.now c.args.stored.now r.fits r.readers.0 c.args.readers.now r.readers.1 r.ranked c.args.net c.args.rank r.within r.place c.args.stale.now c.args.values.now r.sweeping ∙ sym (c.len.ensures ∙ c.args.nets.now.drivers.ok.0)

pub mark_hearers-requires-clause-notes : goal.mark_hearers-requires-clause-notes
mark_hearers-requires-clause-notes c = c.requires.readers.1.notes ∙ sym (c.len.ensures ∙ c.args.nets.now.drivers.ok.0)

pub returns-then-is_other-clause-sweeping : goal.returns-then-is_other-clause-sweeping
returns-then-is_other-clause-sweeping c =
    let t = c.args.readers.now in
    let r = c.requires in
    let n = c.args.nets.now in
    let values = c.args.values.now in
    let origins = t.carriers.origins.items in
    let lt = net_values n c.args.stored.now r.fits r.readers.0 t r.readers.1 r.ranked c.args.net c.args.rank r.within r.place c.args.stale.now values r.sweeping in
    let old = c.index-values-net.result in
    let had = read_at values c.args.net old lt c.index-values-net.is in
    let own = net_own n c.args.stored.now r.fits r.readers.0 t r.readers.1 r.ranked c.args.net c.args.rank r.within r.place c.args.stale.now values r.sweeping old c.drive-value.result had c.drive-value.ensures
    (c.is_other.ensures.other c.if-is_other.true) in
    let zeros = zeros_given origins c.args.nonzero.now c.note_zero.new.nonzero values c.carry.new.values c.args.net c.drive-value.result r.nonzero c.carry.ensures lt c.note_zero.ensures.here c.note_zero.ensures.others in
    let tells = subst (λ k. Tells t.ranks.items (set c.args.stale.now c.args.rank 0) c.mark_hearers.new.stale (λ f. c.args.rank + 1 ≤ rank_at t.ranks.items f → HearsNot t c.note_zero.new.nonzero k c.args.net old c.drive-value.result f))
    (c.len.ensures ∙ n.drivers.ok.0) c.mark_hearers.ensures.tells in
    refreshed n c.args.stored.now r.fits r.readers.0 t r.readers.1 r.ranked c.args.net c.args.rank r.within r.place c.args.stale.now values r.sweeping c.drive-value.result
    c.drive-value.ensures old had own c.carry.new.values c.carry.ensures c.note_zero.new.nonzero zeros c.mark_hearers.new.stale tells c.mark_hearers.ensures.below

pub returns-then-is_other-clause-nonzero : goal.returns-then-is_other-clause-nonzero
returns-then-is_other-clause-nonzero c =
    let r = c.requires in
    let values = c.args.values.now in
    let lt = net_values c.args.nets.now c.args.stored.now r.fits r.readers.0 c.args.readers.now r.readers.1 r.ranked c.args.net c.args.rank r.within r.place c.args.stale.now values r.sweeping in
    zeros_given c.args.readers.now.carriers.origins.items c.args.nonzero.now c.note_zero.new.nonzero values c.carry.new.values c.args.net c.drive-value.result r.nonzero c.carry.ensures lt c.note_zero.ensures.here
    c.note_zero.ensures.others

pub returns-else-is_other-clause-sweeping : goal.returns-else-is_other-clause-sweeping
returns-else-is_other-clause-sweeping c =
    let r = c.requires in
    let same = c.is_other.ensures.same c.if-is_other.false in
    refreshed_same c.args.nets.now c.args.stored.now r.fits r.readers.0 c.args.readers.now r.readers.1 r.ranked c.args.net c.args.rank r.within r.place c.args.stale.now c.args.values.now r.sweeping
    c.drive-value.result c.drive-value.ensures (ap (get_or c.args.values.now c.args.net) (sym same) ∙ sym c.index-values-net.is ∙ same)
