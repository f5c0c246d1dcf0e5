use Rattle.std.proofs.Common.{◌≡◌, ◌∷◌, ◌+◌, drop, map}
use Rattle.cx_text.proofs.ListLaws.{drop_item}
use Rattle.cx_design.specs.PlainForms.{plain_component}
use Rattle.cx_share.proofs.TreeLemmas.{keepers_at, rows_next}
use Rattle.cx_share.proofs.rows.all_rows.Goals as goal

pub add_rows-requires : goal.add_rows-requires
add_rows-requires c = record {
  keepers = rw c.as_slice.ensures.value
      (keepers_at _ c.args.parts.now c.args.keepers.now c.loop-number.number c.index-parts-number.result c.index-keepers-number.result c.requires.keepers c.loop-number-test.true c.index-parts-number.is c.index-keepers-number.is);
}

pub loop-number-preserved : goal.loop-number-preserved
loop-number-preserved c =
    let parts = c.args.parts.now in
    let n = c.loop-number.number in
    let part = c.index-parts-number.result in
    let first : drop n parts ≡ part ∷ drop (n + 1) parts = drop_item parts n part c.index-parts-number.is c.loop-number-test.true in
    rows_next (plain_component part) (map plain_component (drop (n + 1) parts)) c.loop-number.rows.items c.add_rows.new.rows.items _ c.in_ok-add_rows.ensures.value (rw first at c.loop-number.invariant)
