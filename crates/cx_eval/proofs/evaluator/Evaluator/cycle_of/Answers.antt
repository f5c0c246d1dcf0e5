use Rattle.std.proofs.Common.{◌≡◌, length, sym, subst, arith}
use Rattle.std.proofs.lemmas.List.{with_items_is}
use Rattle.cx_eval_cycle.specs.Passes.{listed_in}
use Rattle.cx_design.specs.PlainDesigns.{plain_design}
use Rattle.cx_state.specs.States.{plain_state}
use Rattle.cx_eval.specs.Evaluated.{Cycled}
use Rattle.cx_eval.specs.Tables.{AreRooms}
use Rattle.cx_eval.proofs.evaluator.Evaluator.cycle_of.Goals as goal

pub returns-clause-value : goal.returns-clause-value
returns-clause-value c =
    subst (λ design. Cycled (plain_design design) (plain_state c.args.state.now) (plain_state c.cycle_anew.new.state) c.args.instance c.args.active.now (listed_in c.args.cells.now) c.cycle_anew.result) c.self.view_is c.cycle_anew.ensures.value

pub cycle_anew-requires-clause-rooms : goal.cycle_anew-requires-clause-rooms
cycle_anew-requires-clause-rooms c = subst (AreRooms c.self.inside.tables) (sym c.deref_mut.ensures.value) c.self.invariant.2

pub invariant_of-self : goal.invariant_of-self
invariant_of-self c =
    let old = c.self.inside.rooms in
    let new = c.cycle_anew.new.rooms in
    let count : length new ≡ old.len = omega (arith, c.cycle_anew.auto.rooms, c.deref_mut.ensures.len) in
    (c.self.invariant.0, c.cycle_anew.ensures.count, subst (AreRooms c.self.inside.tables) (sym (with_items_is old new count)) c.cycle_anew.ensures.rooms)
