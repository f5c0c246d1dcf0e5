use Rattle.std.proofs.Common.{length, map, slice_get, ap, sym, ◌∙◌, arith}
use Rattle.std.proofs.lemmas.List.{length-map}
use Rattle.cx_vtree.specs.PlainParts.{plain_assign}
use Rattle.cx_vnets.specs.Numberings.{nets_by}
use Rattle.cx_velab.specs.Rows.{placed_of}
use Rattle.cx_vsim.specs.Tables.{tree_of}
use Rattle.cx_vsim.proofs.RowLemmas.{numbers_within, assign_named, assigns_short, give_right}
use Rattle.cx_text.proofs.ListLaws.{item_at}
use Rattle.cx_vsim.proofs.driving.give_row.Goals as goal

pub give_nets-requires-clause-named : goal.give_nets-requires-clause-named
give_nets-requires-clause-named c =
    let t = c.args.table.now in
    let row = c.index-row.result.now in
    let at = item_at placed_of t.rows.items c.args.i row c.requires.within c.index-row.ensures in
    λ j a there.
    assign_named (tree_of t) t.codes.items c.requires.tree c.args.i (placed_of row) at (nets_by c.part-part.result.now.numbers) c.part-part.ensures.nets j a
    (ap (λ l. slice_get (map plain_assign l) j) (sym c.deref.ensures.value) ∙ there)

pub give_nets-requires-clause-within : goal.give_nets-requires-clause-within
give_nets-requires-clause-within c =
    let t = c.args.table.now in
    numbers_within (tree_of t) t.codes.items c.requires.tree c.args.i (nets_by c.part-part.result.now.numbers) c.place-place.result.nets (length c.args.drivers.now) c.part-part.ensures.nets
    (ap (λ p. p.nets) c.place-place.ensures) c.requires.whole

pub give_nets-requires-clause-codes : goal.give_nets-requires-clause-codes
give_nets-requires-clause-codes c =
    let t = c.args.table.now in
    let row = c.index-row.result.now in
    let at = item_at placed_of t.rows.items c.args.i row c.requires.within c.index-row.ensures in
    let short = assigns_short (tree_of t) t.codes.items c.requires.tree c.args.i (placed_of row) at c.part-part.result.now c.part-part.ensures in
    let long = length-map row.module.now.assigns.items plain_assign in
    let same = ap length c.deref.ensures.value in
    omega (arith, short, long, same)

pub returns-clause-kept : goal.returns-clause-kept
returns-clause-kept c =
    let t = c.args.table.now in
    let row = c.index-row.result.now in
    let at = item_at placed_of t.rows.items c.args.i row c.requires.within c.index-row.ensures in
    (give_right (tree_of t) t.codes.items c.requires.tree c.args.i (placed_of row) at c.drivers_are_right.ensures.givens c.part-part.result.now c.part-part.ensures c.place-place.result c.place-place.ensures
    c.args.drivers.now c.give_nets.new.drivers c.requires.whole (map plain_assign c.deref.result.now) (ap (map plain_assign) c.deref.ensures.value) c.give_nets.ensures).0

pub returns-clause-given : goal.returns-clause-given
returns-clause-given c =
    let t = c.args.table.now in
    let row = c.index-row.result.now in
    let at = item_at placed_of t.rows.items c.args.i row c.requires.within c.index-row.ensures in
    (give_right (tree_of t) t.codes.items c.requires.tree c.args.i (placed_of row) at c.drivers_are_right.ensures.givens c.part-part.result.now c.part-part.ensures c.place-place.result c.place-place.ensures
    c.args.drivers.now c.give_nets.new.drivers c.requires.whole (map plain_assign c.deref.result.now) (ap (map plain_assign) c.deref.ensures.value) c.give_nets.ensures).2
