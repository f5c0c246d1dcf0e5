use Rattle.std.proofs.Common.{◌≡◌, get_or, length, sym, subst, arith}
use Rattle.std.proofs.lemmas.List.{with_items_is}
use Rattle.std.specs.Vec.{with_items}
use Rattle.cx_eval_cycle.specs.Rooms.{HaveRooms}
use Rattle.cx_eval.specs.Tables.{kept_of}
use Rattle.cx_eval.proofs.TableLemmas.{own_rooms, rooms_again, rooms_below}
use Rattle.cx_eval.proofs.cycling.cycle_listed.Goals as goal

pub bounds-rooms-part : goal.bounds-rooms-part
bounds-rooms-part c = rooms_below c.args.tables.now c.requires.tables c.args.instance c.requires.instance c.index.result.now c.index.ensures c.args.rooms.now c.requires.rooms

pub cycle_in-requires-clause-rooms : goal.cycle_in-requires-clause-rooms
cycle_in-requires-clause-rooms c =
    subst (HaveRooms (kept_of c.args.tables.now c.args.instance)) (sym c.deref_mut.ensures.value)
    (own_rooms c.args.tables.now c.requires.tables c.args.instance c.requires.instance c.index.result.now c.index.ensures c.args.rooms.now c.requires.rooms c.index-rooms-part.result)

pub returns-clause-rooms : goal.returns-clause-rooms
returns-clause-rooms c =
    let own = get_or c.args.rooms.now c.index.result.now.component c.index-rooms-part.result in
    let new = c.cycle_in.new.rooms in
    let count : length new ≡ own.len = omega (arith, c.cycle_in.auto.rooms, c.deref_mut.ensures.len) in
    rooms_again c.args.tables.now c.requires.tables c.args.instance c.requires.instance c.index.result.now c.index.ensures c.args.rooms.now c.requires.rooms (with_items own new)
    (subst (HaveRooms (kept_of c.args.tables.now c.args.instance)) (sym (with_items_is own new count)) c.cycle_in.ensures.rooms)
