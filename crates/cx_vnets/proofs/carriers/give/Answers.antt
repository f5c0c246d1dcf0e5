use Rattle.std.proofs.Common.{◌≡◌, ◌≢◌, ◌<◌, ⊎_elim, Some, set, get_or, slice_get, ap, sym, ◌∙◌, subst, arith}
use Rattle.std.proofs.lemmas.Bool.{cases_eq, cases_lt}
use Rattle.std.proofs.lemmas.List.{length-set}
use Rattle.std.proofs.lemmas.Option.{same_Some, slice_get-get_or, slice_get_within}
use Rattle.cx_text.proofs.ListLaws.{set_other, set_same}
use Rattle.cx_text.proofs.MemberLaws.{in_at}
use Rattle.cx_vnets.proofs.StaleLemmas.{member_at}
use Rattle.cx_vnets.proofs.carriers.give.Goals as goal

pub bounds-values-net : goal.bounds-values-net
bounds-values-net c =
    let row = c.args.row.now in
    let k = c.loop-net.net-index in
    let net = get_or row k _ in
    let within = c.requires.within net (in_at row k net (slice_get-get_or row k _ c.loop-net-test.true)) in
    subst (λ size. net < size) (sym c.loop-net.invariant.long) within

pub loop-net-preserved : goal.loop-net-preserved
loop-net-preserved c =
    let row = c.args.row.now in
    let k = c.loop-net.net-index in
    let inv = c.loop-net.invariant in
    let net = get_or row k _ in
    let values = c.loop-net.values in
    let v = c.args.value in
    let there = slice_get-get_or row k _ c.loop-net-test.true in
    let within = subst (λ size. net < size) (sym inv.long) (c.requires.within net (in_at row k net there)) in
    record {
      long = length-set values net v ∙ inv.long;
      here = λ j f lt at. ⊎_elim
          (λ (same : f ≡ net). ap (slice_get (set values net v)) same ∙ set_same values net v within)
          (λ (ne : f ≢ net). set_other values net f v ne ∙ ⊎_elim
          (λ l. inv.here j f l at)
          (λ l. let place : j ≡ k = omega (arith, lt, l) in absurd (ne (same_Some f net (sym at ∙ ap (slice_get row) place ∙ there)))) (cases_lt j k)) (cases_eq f net);
      kept = λ f e. ⊎_elim
          (λ (same : f ≡ net). ap (slice_get (set values net v)) same ∙ set_same values net v within)
          (λ (ne : f ≢ net). set_other values net f v ne ∙ inv.kept f e) (cases_eq f net);
      others = λ f none.
          let apart : f ≢ net = λ e. none k (omega arith) (there ∙ ap Some (sym e)) in
          set_other values net f v apart ∙ inv.others f (λ j lt at. none j (omega (arith, lt)) at);
    }

pub returns-clause-here : goal.returns-clause-here
returns-clause-here c = λ f i.
    let r = member_at c.args.row.now f i in
    let lt = slice_get_within c.args.row.now r.0 f r.1 in
    let below : r.0 < c.loop-net.net-index = omega (arith, lt) in
    c.loop-net.invariant.here r.0 f below r.1

pub returns-clause-others : goal.returns-clause-others
returns-clause-others c = λ f none. c.loop-net.invariant.others f (λ j lt at. none (in_at c.args.row.now j f at))
