use Rattle.std.proofs.Common.{rules, ◌≡◌, ◌<◌, ◌+◌, List, [], ◌∷◌, ◌++◌, length, take, sym, ap, ◌∙◌, arith}
use Rattle.std.specs.Prelude.{vec_len}
use Rattle.std.proofs.lemmas.Grind.{common_steps}
use Rattle.std.proofs.lemmas.List.{take_more}
use Rattle.cx_meaning.specs.declared.sights.Seen.{Seen}
use Rattle.cx_state.specs.States.{instance_state}
use Rattle.cx_turns.specs.Machines.{rows_of}
use Rattle.cx_weave.proofs.IslandSupplies.{list_fits, list_filled}
use Rattle.cx_weave.proofs.calls.held_inputs.Goals as goal

pub loop-seen-preserved : goal.loop-seen-preserved
loop-seen-preserved c =
    let seen : List Seen = c.deref-seen-items.result.now in
    let at = c.loop-seen.seen-index in
    let same : seen ≡ (instance_state (rows_of c.args.machine.now) c.args.instance).held = grind (arith, common_steps) in
    let long : length seen ≡ length (instance_state (rows_of c.args.machine.now) c.args.instance).held = ap (λ (xs : List Seen). length xs) same in
    let fits = list_fits c.args.spares.now c.take_inputs-inputs.new.spares c.take_inputs-inputs.result (length (instance_state (rows_of c.args.machine.now) c.args.instance).held) c.requires.room c.take_inputs-inputs.ensures.ledger in
    let less : at < length seen = omega (arith, c.loop-seen-test.true, c.loop-seen.auto.seen-index-end) in
    let count = c.loop-seen.invariant.count in
    let wide = c.loop-seen.invariant.room in
    let items = c.push.ensures.items in
    let len = c.push.ensures.len in
    let more = c.push.ensures.capacity in
    let ok = c.push.ensures.succeeds (omega (arith, less, long, fits, count, wide)) in
    let pushed : c.push.new.self.items ≡ c.loop-seen.inputs.items ++ c.seen-item.result ∷ [] = search (rules, ok, items) in
    let one_more : vec_len c.push.new.self ≡ vec_len c.loop-seen.inputs + 1 = search (rules, ok, len) in
    record {
      items =
          pushed
          ∙ ap (λ (xs : List Seen). xs ++ c.seen-item.result ∷ []) c.loop-seen.invariant.items
          ∙ ap (λ (x : Seen). take at seen ++ x ∷ []) c.seen-item.is
          ∙ sym (take_more seen at c.seen-item.result less);
      count = omega (arith, one_more, count);
      room = omega (arith, wide, more);
    }

pub returns-clause-ledger : goal.returns-clause-ledger
returns-clause-ledger c = list_filled c.args.spares.now c.take_inputs-inputs.new.spares c.take_inputs-inputs.result c.loop-seen.inputs c.loop-seen.invariant.room c.take_inputs-inputs.ensures.ledger
