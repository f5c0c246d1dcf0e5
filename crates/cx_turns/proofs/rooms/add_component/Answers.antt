use Rattle.std.proofs.Common.{◌≤◌, map, ap, ◌∙◌, arith}
use Rattle.std.specs.Vec.{vec_len, vec_capacity}
use Rattle.cx_design.specs.PlainForms.{plain_component, plain_form}
use Rattle.cx_design_parts.specs.Items.{plain_visited}
use Rattle.cx_interp_islands.specs.Rooms.{form_groups}
use Rattle.cx_turns.proofs.RoomLemmas.{fits_next, item_is, part_fits}
use Rattle.cx_turns.proofs.rooms.add_component.Goals as goal

pub loop-statement-init : goal.loop-statement-init
loop-statement-init c = (λ v h. absurd h, omega arith, omega arith)

pub loop-statement-preserved : goal.loop-statement-preserved
loop-statement-preserved c =
    let items = c.deref-statement-items.result.now in
    let more_samples : vec_len c.loop-statement.samples ≤ vec_len c.add_samples.new.samples = c.in_ok-add_samples.ensures.grows in
    let more_entries : vec_capacity c.loop-statement.entries ≤ vec_capacity c.reserve_entries.new.into = c.in_ok-reserve_entries.ensures.grows in
    let groups : form_groups (plain_form c.statement-item.result.form.now) ≤ vec_capacity c.reserve_entries.new.into = omega (arith, c.in_ok-reserve_entries.ensures.room) in
    let had_samples = c.loop-statement.invariant.1 in
    let had_entries = c.loop-statement.invariant.2 in (
      fits_next (map plain_visited items) c.loop-statement.statement-index (vec_len c.loop-statement.samples) (vec_capacity c.loop-statement.entries) (vec_len c.add_samples.new.samples) (vec_capacity c.reserve_entries.new.into)
          (plain_visited c.statement-item.result) (item_is items c.loop-statement.statement-index c.statement-item.result c.loop-statement-test.true c.statement-item.is) more_samples more_entries c.loop-statement.invariant.0 (c.in_ok-add_samples.ensures.room, groups),
      omega (arith, had_samples, more_samples),
      omega (arith, had_entries, more_entries),
    )

pub returns-clause-room : goal.returns-clause-room
returns-clause-room c =
    let items = c.deref-statement-items.result.now in
    part_fits items (plain_component c.args.component.now) c.loop-statement.statement-index (vec_len c.loop-statement.samples) (vec_capacity c.loop-statement.entries)
    (ap (map plain_visited) c.deref-statement-items.ensures.value ∙ c.in_ok-list.ensures.value) c.loop-statement-test.false c.loop-statement.invariant.0
