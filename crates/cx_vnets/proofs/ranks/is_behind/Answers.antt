use Rattle.std.proofs.Common.{◌≡◌, ◌<◌, Some, slice_get, ap, ◌∙◌, subst}
use Rattle.cx_vnets.specs.Stale.{rank_at}
use Rattle.cx_vnets.proofs.DriveLemmas.{reads_given}
use Rattle.cx_text.proofs.ListLaws.{read_at}
use Rattle.cx_vnets.proofs.ranks.is_behind.Goals as goal

pub returns-in-Some : goal.returns-in-Some
returns-in-Some c = λ e.
    let n = c.args.nets.now in
    let ranks = c.args.ranks.now in
    let at = read_at n.drivers.items c.args.net c.index.result.now c.requires.within c.index.ensures ∙ ap Some c.in-Given.is in
    let there = subst (λ xs. slice_get xs c.in-Given.code ≡ Some c.in-Some.code.now) c.deref.ensures.value
    (read_at c.deref.result.now c.in-Given.code c.in-Some.code.now c.in-Some.ensures.lookup.3.0 c.in-Some.ensures.lookup.1) in
    reads_given n (λ g. rank_at ranks g < rank_at ranks c.args.net) (λ a. Unit {0}) c.args.net c.in-Given.code c.in-Given.place c.in-Some.code.now at there (c.reads_below.ensures e)
