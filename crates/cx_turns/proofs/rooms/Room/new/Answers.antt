use Rattle.std.proofs.Common.{◌≡◌, length, ap, arith}
use Rattle.std.proofs.lemmas.List.{length-map}
use Rattle.std.specs.Vec.{vec_len, vec_capacity}
use Rattle.cx_meaning.specs.Designs.{no_component}
use Rattle.cx_design.specs.PlainDesigns.{plain_design}
use Rattle.cx_design.specs.PlainForms.{plain_component}
use Rattle.cx_turns.proofs.RoomLemmas.{parts_next, component_read}
use Rattle.cx_turns.proofs.rooms.Room.new.Goals as goal

pub loop-component-preserved : goal.loop-component-preserved
loop-component-preserved c =
    let k = c.loop-component.component-index in
    parts_next (plain_design c.args.design.now).components no_component k (vec_len c.loop-component.samples) (vec_capacity c.loop-component.entries) (vec_len c.add_component.new.samples) (vec_capacity c.add_component.new.entries)
    (plain_component c.component-item.result) (component_read c.args.design.now.components.items c.deref-component-items.result.now k c.component-item.result c.deref-component-items.ensures.value c.loop-component-test.true c.component-item.is)
    c.in_ok-add_component.ensures.samples c.in_ok-add_component.ensures.entries c.loop-component.invariant c.in_ok-add_component.ensures.room

pub returns : goal.returns
returns c = record {
  holds = tt;
  fits = λ k lt.
      let long : length (plain_design c.args.design.now).components ≡ length c.args.design.now.components.items = length-map c.args.design.now.components.items plain_component in
      let same : length c.deref-component-items.result.now ≡ length c.args.design.now.components.items = ap length c.deref-component-items.ensures.value in
      let all = c.loop-component-test.false in
      c.loop-component.invariant k (omega (arith, lt, long, same, all));
  marks = λ k lt. (let most = c.most_cells-count.ensures k lt in let count = c.in_ok-marks.ensures.count in let whole = c.in_ok-marks.marks.ok.0 in omega (arith, most, count, whole));
  clear = c.in_ok-marks.ensures.unset;
  lists = let count = c.in_ok-marks.ensures.count in let whole = c.in_ok-marks.marks.ok.0 in let room = c.in_ok-cells.ensures.capacity in omega (arith, count, whole, room);
}
