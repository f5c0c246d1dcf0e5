use Rattle.std.proofs.Common.{◌≡◌, ◌+◌, ◌<◌, ◌++◌, ◌∷◌, [], length, map, ap, ◌∙◌, arith, length-append}
use Rattle.cx_velab.specs.Rows.{placed_of}
use Rattle.cx_velab.proofs.PartLemmas.{stand_more}
use Rattle.cx_text.proofs.ListLaws.{length-map, there_below}
use Rattle.cx_velab.proofs.parts.all_parts.Goals as goal

pub loop-i-preserved : goal.loop-i-preserved
loop-i-preserved c =
    let one : length (c.loop-i.of_rows.items ++ c.in_ok-part_number.field-0 ∷ []) ≡ length c.loop-i.of_rows.items + 1 = length-append c.loop-i.of_rows.items (c.in_ok-part_number.field-0 ∷ []) in
    record {
      found = c.in_ok-part_number.ensures.found;
      count = ap length c.in_ok-push.ensures.items ∙ one ∙ ap (λ n. n + 1) c.loop-i.invariant.count;
      each = stand_more (map placed_of c.args.rows.now) c.loop-i.list.items c.part_number.new.list.items c.loop-i.codes.items c.part_number.new.codes.items
          c.loop-i.of_rows.items c.push.new.self.items c.loop-i.i c.in_ok-part_number.field-0 c.in_ok-push.ensures.items c.loop-i.invariant.count
          c.in_ok-part_number.ensures.kept c.in_ok-part_number.ensures.number c.loop-i.invariant.each;
    }

pub returns : goal.returns
returns c =
    λ i p at.
    let lt = there_below (map placed_of c.args.rows.now) i p at in
    let within : i < c.loop-i.i = omega (arith, lt, length-map placed_of c.args.rows.now, c.loop-i-test.false) in
    c.loop-i.invariant.each i p within at
