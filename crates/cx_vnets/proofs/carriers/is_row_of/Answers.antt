use Rattle.std.proofs.Common.{◌≡◌, ◌<◌, ⊎_elim, true, length, get_or, slice_get, ap, sym, ◌∙◌, subst, arith}
use Rattle.std.proofs.lemmas.Bool.{cases_lt}
use Rattle.std.proofs.lemmas.Option.{same_Some, slice_get-get_or, slice_get_within}
use Rattle.cx_vnets.specs.Carriers.{origin_at}
use Rattle.cx_vnets.proofs.StaleLemmas.{member_at}
use Rattle.cx_vnets.proofs.carriers.is_row_of.Goals as goal

pub loop-other-preserved : goal.loop-other-preserved
loop-other-preserved c =
    let a = c.args in
    let k = c.loop-other.other-index in
    let there = slice_get-get_or a.row.now k _ c.loop-other-test.true in
    let yes : c.is_of.result ≡ true = cc in
    let e = c.is_of.ensures yes in
    λ j f lt at. ⊎_elim
    (λ l. c.loop-other.invariant j f l at)
    (λ l.
    let place : j ≡ k = omega (arith, lt, l) in
    let same : get_or a.row.now k _ ≡ f = same_Some (get_or a.row.now k _) f (sym there ∙ ap (slice_get a.row.now) (sym place) ∙ at) in
    subst (λ g. (g < length a.origins.now) × (origin_at a.origins.now g ≡ a.net)) same e) (cases_lt j k)

pub returns : goal.returns
returns c = λ e f i.
    let r = member_at c.args.row.now f i in
    let lt = slice_get_within c.args.row.now r.0 f r.1 in
    let below : r.0 < c.loop-other.other-index = omega (arith, lt) in
    c.loop-other.invariant r.0 f below r.1
