use Rattle.std.proofs.Common.{◌<◌, ◌^◌, map, length, ap, arith}
use Rattle.cx_vtree.specs.PlainParts.{plain_decl}
use Rattle.cx_vtree.specs.InstanceTree.{declared_arrays}
use Rattle.cx_velab.specs.Rows.{placed_of}
use Rattle.cx_velab.proofs.BaseLemmas.{nets_next, arrays_next, nets_small, arrays_small, placed_next}
use Rattle.cx_text.proofs.ListLaws.{item_at}
use Rattle.cx_velab.proofs.bases.places.Goals as goal

pub overflow_cast-nets : goal.overflow_cast-nets
overflow_cast-nets c =
    let lt : c.loop-row.row-index < length c.args.rows.now = omega arith in
    let at = item_at placed_of c.args.rows.now c.loop-row.row-index c.row-item.result lt c.row-item.is in
    let small = nets_small (map placed_of c.args.rows.now) c.loop-row.row-index (placed_of c.row-item.result) at (length c.args.rows.now) (2 ^ 32) lt c.requires.nets in
    omega (arith, small, c.net_count.ensures)

pub overflow_add-nets : goal.overflow_add-nets
overflow_add-nets c =
    let lt : c.loop-row.row-index < length c.args.rows.now = omega arith in
    let at = item_at placed_of c.args.rows.now c.loop-row.row-index c.row-item.result lt c.row-item.is in
    let small = nets_small (map placed_of c.args.rows.now) c.loop-row.row-index (placed_of c.row-item.result) at (length c.args.rows.now) (2 ^ 32) lt c.requires.nets in
    omega (arith, small, c.net_count.ensures, c.loop-row.invariant.nets)

pub overflow_cast-arrays : goal.overflow_cast-arrays
overflow_cast-arrays c =
    let lt : c.loop-row.row-index < length c.args.rows.now = omega arith in
    let at = item_at placed_of c.args.rows.now c.loop-row.row-index c.row-item.result lt c.row-item.is in
    let small = arrays_small (map placed_of c.args.rows.now) c.loop-row.row-index (placed_of c.row-item.result) at (length c.args.rows.now) (2 ^ 32) lt c.requires.arrays in
    let same = ap (λ l. length (declared_arrays (map plain_decl l))) c.deref.ensures.value in
    omega (arith, small, same, c.array_count.ensures)

pub overflow_add-arrays : goal.overflow_add-arrays
overflow_add-arrays c =
    let lt : c.loop-row.row-index < length c.args.rows.now = omega arith in
    let at = item_at placed_of c.args.rows.now c.loop-row.row-index c.row-item.result lt c.row-item.is in
    let small = arrays_small (map placed_of c.args.rows.now) c.loop-row.row-index (placed_of c.row-item.result) at (length c.args.rows.now) (2 ^ 32) lt c.requires.arrays in
    let same = ap (λ l. length (declared_arrays (map plain_decl l))) c.deref.ensures.value in
    omega (arith, small, same, c.array_count.ensures, c.loop-row.invariant.arrays)

pub loop-row-preserved : goal.loop-row-preserved
loop-row-preserved c =
    let lt : c.loop-row.row-index < length c.args.rows.now = omega arith in
    let at = item_at placed_of c.args.rows.now c.loop-row.row-index c.row-item.result lt c.row-item.is in
    let nets = nets_next (map placed_of c.args.rows.now) c.loop-row.row-index (placed_of c.row-item.result) at in
    let arrays = arrays_next (map placed_of c.args.rows.now) c.loop-row.row-index (placed_of c.row-item.result) at in
    let same = ap (λ l. length (declared_arrays (map plain_decl l))) c.deref.ensures.value in
    record {
      placed = placed_next (map placed_of c.args.rows.now) c.loop-row.row-index c.loop-row.nets c.loop-row.arrays c.loop-row.places.items c.push.new.self.items
          c.in_ok-push.ensures.items c.loop-row.invariant.placed c.loop-row.invariant.nets c.loop-row.invariant.arrays;
      nets = omega (arith, nets, c.net_count.ensures, c.loop-row.invariant.nets);
      arrays = omega (arith, arrays, same, c.array_count.ensures, c.loop-row.invariant.arrays);
    }
