use Rattle.std.proofs.Common.{◌≡◌, ◌+◌, ◌≤◌, suc, ◌∙◌, sym, ap, subst, arith}
use Rattle.std.proofs.lemmas.Slice.Eq.{bytes_eq-Decides}
use Rattle.cx_static.specs.PlainLowered.{plain_lowereds}
use Rattle.cx_wiring.specs.Reached.{count, height_of}
use Rattle.cx_wiring.proofs.MainLaws.{height_few}
use Rattle.cx_fsm.specs.Rounds.{HasHeights, raised}
use Rattle.cx_fsm.proofs.RoundLemmas.{counted, raised_more, raised_all, height_within}
use Rattle.cx_fsm.proofs.ordering.heights.Goals as goal

pub returns-then-eq-clause-value : goal.returns-then-eq-clause-value
returns-then-eq-clause-value c =
    let d = plain_lowereds c.args.design.now in
    let same : c.in_ok-higher.higher.items ≡ c.loop-levels.heights.items = (bytes_eq-Decides c.in_ok-higher.higher.items c.loop-levels.heights.items).0 (sym c.if-eq.ensures) in
    let own : c.loop-levels.heights.items ≡ raised d c.loop-levels.heights.items = sym same ∙ c.in_ok-higher.ensures.value ∙ ap (raised d) c.deref.ensures.value in
    let all : c.in_ok-count.count ≡ count d = c.in_ok-count.ensures.value ∙ counted c.args.design.now c.components.result.now c.components.ensures.value in
    raised_all d c.loop-levels.levels c.loop-levels.heights.items c.loop-levels.invariant own (omega arith)

pub returns-then-eq-clause-within : goal.returns-then-eq-clause-within
returns-then-eq-clause-within c = λ k.
    let d = plain_lowereds c.args.design.now in
    let same : c.in_ok-higher.higher.items ≡ c.loop-levels.heights.items = (bytes_eq-Decides c.in_ok-higher.higher.items c.loop-levels.heights.items).0 (sym c.if-eq.ensures) in
    let own : c.loop-levels.heights.items ≡ raised d c.loop-levels.heights.items = sym same ∙ c.in_ok-higher.ensures.value ∙ ap (raised d) c.deref.ensures.value in
    let all : c.in_ok-count.count ≡ count d = c.in_ok-count.ensures.value ∙ counted c.args.design.now c.components.result.now c.components.ensures.value in
    height_within d c.loop-levels.levels c.loop-levels.heights.items c.loop-levels.invariant own (omega arith) k

pub loop-levels-preserved : goal.loop-levels-preserved
loop-levels-preserved c =
    let d = plain_lowereds c.args.design.now in
    let next : suc c.loop-levels.levels ≡ c.loop-levels.levels + 1 = omega arith in
    subst (λ l. HasHeights d l c.in_ok-higher.higher.items) next
    (raised_more d c.loop-levels.levels c.loop-levels.heights.items c.in_ok-higher.higher.items c.loop-levels.invariant (c.in_ok-higher.ensures.value ∙ ap (raised d) c.deref.ensures.value))

pub returns-clause-within : goal.returns-clause-within
returns-clause-within c = λ k.
    let d = plain_lowereds c.args.design.now in
    let all : c.in_ok-count.count ≡ count d = c.in_ok-count.ensures.value ∙ counted c.args.design.now c.components.result.now c.components.ensures.value in
    let within : height_of d (count d) k ≤ count d = height_few d (count d) k in
    omega arith
