use Rattle.std.proofs.Common.{◌≡◌, ◌+◌, ◌<◌, suc, length, true, refl, subst, arith}
use Rattle.std.proofs.lemmas.Slice.Eq.{slice_eq-Decides}
use Rattle.std.specs.Cmp.{booleans_Decides}
use Rattle.cx_static.specs.PlainLowered.{plain_lowereds}
use Rattle.cx_wiring.specs.Reached.{count}
use Rattle.cx_fsm.specs.Rounds.{IsSpread, MarksReached}
use Rattle.cx_fsm.proofs.RoundLemmas.{counted, spread_more, spread_all}
use Rattle.cx_fsm.proofs.ordering.marks.Goals as goal

pub returns-then-eq : goal.returns-then-eq
returns-then-eq c =
    let d = plain_lowereds c.args.design.now in
    let before : IsSpread d c.loop.marks.items c.in_ok-further.further.items = subst (λ l. IsSpread d l c.in_ok-further.further.items) c.deref.ensures.value c.in_ok-further.ensures.value in
    let same : c.in_ok-further.further.items ≡ c.loop.marks.items = (slice_eq-Decides booleans_Decides c.in_ok-further.further.items c.loop.marks.items true c.if-eq.ensures).0 refl in
    let own : IsSpread d c.loop.marks.items c.loop.marks.items = subst (λ l. IsSpread d c.loop.marks.items l) same before in
    let all : length c.components-count.result.now ≡ count d = counted c.args.design.now c.components-count.result.now c.components-count.ensures.value in
    let within : c.loop.counter < length c.components-count.result.now = c.loop-test.true in
    record { value = spread_all d c.loop.counter c.loop.marks.items c.loop.invariant own (omega arith) }

pub loop-preserved : goal.loop-preserved
loop-preserved c =
    let d = plain_lowereds c.args.design.now in
    let before : IsSpread d c.loop.marks.items c.in_ok-further.further.items = subst (λ l. IsSpread d l c.in_ok-further.further.items) c.deref.ensures.value c.in_ok-further.ensures.value in
    let next : suc c.loop.counter ≡ c.loop.counter + 1 = omega arith in
    subst (λ l. MarksReached d l c.in_ok-further.further.items) next (spread_more d c.loop.counter c.loop.marks.items c.loop.invariant c.in_ok-further.further.items before)
