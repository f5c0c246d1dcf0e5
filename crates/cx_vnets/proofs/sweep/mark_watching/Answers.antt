use Rattle.std.proofs.Common.{◌≡◌, ◌≤◌, ◌<◌, true, false, length, get_or, ap, sym, ◌∙◌, subst}
use Rattle.cx_vnets.specs.Readers.{Passes}
use Rattle.cx_vnets.specs.Stale.{rank_at}
use Rattle.cx_vnets.proofs.StaleLemmas.{tells_none, tells_so}
use Rattle.cx_vnets.proofs.sweep.mark_watching.Goals as goal

pub is_compared-requires : goal.is_compared-requires
is_compared-requires c = record { within = subst (λ xs. c.args.net < length xs) (sym c.deref.ensures.value) c.requires.notes }

pub returns-then-is_compared-clause-tells : goal.returns-then-is_compared-clause-tells
returns-then-is_compared-clause-tells c =
    let t = c.args.readers.now in
    tells_so t.ranks.items c.args.stale.now c.mark_rows.new.stale (λ f. c.args.from ≤ rank_at t.ranks.items f → Passes t c.args.count c.args.net c.args.old c.args.new f)
    (λ f. c.args.from ≤ rank_at t.ranks.items f → get_or t.watches.compared.items c.args.net false ≡ true → Passes t c.args.count c.args.net c.args.old c.args.new f) c.mark_rows.ensures.tells
    (λ f h le e. h le)

pub returns-else-is_compared-clause-tells : goal.returns-else-is_compared-clause-tells
returns-else-is_compared-clause-tells c =
    let t = c.args.readers.now in
    let same = c.is_compared.ensures ∙ ap (λ xs. get_or xs c.args.net false) c.deref.ensures.value in
    let no = c.if-is_compared.false in
    tells_none t.ranks.items c.args.stale.now
    (λ f. c.args.from ≤ rank_at t.ranks.items f → get_or t.watches.compared.items c.args.net false ≡ true → Passes t c.args.count c.args.net c.args.old c.args.new f)
    (λ f place le e. absurd (cc))
