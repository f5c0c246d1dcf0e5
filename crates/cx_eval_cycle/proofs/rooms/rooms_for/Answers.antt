use Rattle.std.proofs.Common.{rules, ◌≡◌, None, length, ap, ◌∙◌, subst}
use Rattle.cx_eval_cycle.specs.Rooms.{HasRoom, ports_of}
use Rattle.cx_eval_cycle.proofs.RoomLemmas.{kept_same, rooms_more}
use Rattle.cx_eval_cycle.proofs.rooms.rooms_for.Goals as goal

pub loop-cell-preserved : goal.loop-cell-preserved
loop-cell-preserved c =
    let cells = c.args.cells.now in
    let n = c.loop-cell.cell in
    let room = c.in_ok-room_for.field-0 in
    rooms_more cells n c.loop-cell.rooms.items c.push.new.self.items room c.loop-cell.invariant c.in_ok-push.ensures.items
    (subst (λ ports. HasRoom ports room) (ap ports_of c.index-cells-cell.is ∙ ap ports_of (kept_same cells n c.index-cells-cell.result None c.loop-cell-test.true)) c.in_ok-room_for.ensures.value)

pub returns : goal.returns
returns c =
    let all : c.loop-cell.cell ≡ length c.args.cells.now = search rules in
    record { value = record { count = c.loop-cell.invariant.sized ∙ all; each = c.loop-cell.invariant.each } }
