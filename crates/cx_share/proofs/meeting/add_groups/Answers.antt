use Rattle.std.proofs.Common.{◌∙◌, ◌<◌, Bool, List, ap, sym, subst, get_or, length, take}
use Rattle.std.proofs.lemmas.List.{length-map}
use Rattle.cx_design.specs.PlainForms.{plain_cell, plain_component}
use Rattle.cx_share.specs.Tables.{IsTable, Joins, marked_pairs, pairs_of}
use Rattle.cx_share.proofs.MeetLemmas.{groups_joined}
use Rattle.cx_share.proofs.TableLemmas.{joined_table, joins_all, joins_step}
use Rattle.cx_share.proofs.UseLemmas.{group_long}
use Rattle.cx_share.proofs.meeting.add_groups.Goals as goal

pub add_pairs-requires-clause-table : goal.add_pairs-requires-clause-table
add_pairs-requires-clause-table c =
    let part = plain_component c.args.part.now in
    let cells = c.args.part.now.cells.items in
    let g = c.loop-cells.cells-index in
    let set = c.cells-item.result in
    let lt = subst (λ (us : List (List Bool)). g < length us) c.requires.used c.loop-cells-test.true in
    let at = c.cells-item.is ∙ ap (λ (us : List (List Bool)). get_or us g set) c.requires.used in
    let table = joined_table (length cells) c.args.table.now.items c.loop-cells.table.items (pairs_of (λ s. marked_pairs s s) (take g c.args.used.now)) c.requires.table c.loop-cells.invariant in
    subst (λ n. IsTable n c.loop-cells.table.items) (sym (group_long part g set lt at ∙ length-map cells plain_cell)) table

pub loop-cells-preserved : goal.loop-cells-preserved
loop-cells-preserved c =
    joins_step (λ s. marked_pairs s s) c.args.used.now c.loop-cells.cells-index c.cells-item.result c.args.table.now.items c.loop-cells.table.items c.add_pairs.new.table.items c.loop-cells-test.true c.cells-item.is c.loop-cells.invariant c.add_pairs.ensures.value

pub returns : goal.returns
returns c =
    let cells = c.args.part.now.cells.items in
    let a = c.args.table.now.items in
    let b = c.loop-cells.table.items in
    record {
      value = groups_joined (plain_component c.args.part.now) a b (subst (λ n. IsTable n a) (sym (length-map cells plain_cell)) c.requires.table)
          (subst (λ us. Joins a b (pairs_of (λ s. marked_pairs s s) us)) c.requires.used (joins_all (λ s. marked_pairs s s) c.args.used.now c.loop-cells.cells-index a b c.loop-cells-test.false c.loop-cells.invariant));
    }
