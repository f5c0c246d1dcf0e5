use Rattle.std.proofs.Common.{◌≡◌, length, sym, subst, arith}
use Rattle.std.proofs.lemmas.List.{with_items_is}
use Rattle.cx_eval.specs.Tables.{AreRooms}
use Rattle.cx_eval.proofs.evaluator.Evaluator.group_turn.Goals as goal

pub turn_in-requires-clause-rooms : goal.turn_in-requires-clause-rooms
turn_in-requires-clause-rooms c = subst (AreRooms c.self.inside.tables) (sym c.deref_mut.ensures.value) c.self.invariant.2

pub invariant_of-self : goal.invariant_of-self
invariant_of-self c =
    let old = c.self.inside.rooms in
    let new = c.turn_in.new.rooms in
    let count : length new ≡ old.len = omega (arith, c.turn_in.auto.rooms, c.deref_mut.ensures.len) in
    (c.self.invariant.0, c.turn_in.ensures.sized, subst (AreRooms c.self.inside.tables) (sym (with_items_is old new count)) c.turn_in.ensures.rooms)
