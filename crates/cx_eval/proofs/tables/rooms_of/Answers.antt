use Rattle.std.proofs.Common.{rules, ◌≡◌, ◌<◌, Some, length, sym, ap, ◌∙◌, subst}
use Rattle.std.proofs.lemmas.Option.{slice_get-get_or}
use Rattle.cx_eval_cycle.specs.Rooms.{HaveRooms}
use Rattle.cx_eval.proofs.MakingLemmas.{all_rooms, rooms_more}
use Rattle.cx_eval.proofs.tables.rooms_of.Goals as goal

pub loop-number-preserved : goal.loop-number-preserved
loop-number-preserved c =
    let parts = c.args.tables.now.parts.items in
    let n = c.loop-number.number in
    let part = c.index.result.now in
    let own = c.in_ok-rooms_for.field-0 in
    let lt : n < length parts = search rules in
    rooms_more parts n c.loop-number.rooms.items c.push.new.self.items own part c.loop-number.invariant c.in_ok-push.ensures.items
    (slice_get-get_or parts n part lt ∙ ap Some (sym c.index.ensures)) (subst (λ cells. HaveRooms cells own.items) c.deref.ensures.value c.in_ok-rooms_for.ensures.value)

pub returns : goal.returns
returns c =
    let parts = c.args.tables.now.parts.items in
    let all : c.loop-number.number ≡ length parts = search rules in
    record { value = all_rooms parts c.loop-number.number c.loop-number.rooms.items c.loop-number.invariant all }
