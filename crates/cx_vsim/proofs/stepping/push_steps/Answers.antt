use Rattle.std.proofs.Common.{◌+◌, length, map, option_map, slice_get, ap, sym, ◌∙◌, arith}
use Rattle.std.proofs.lemmas.List.{length-map}
use Rattle.cx_vtree.specs.PlainParts.{plain_assign, plain_item, plain_edge}
use Rattle.cx_vnets.specs.Numberings.{nets_by, arrays_by}
use Rattle.cx_velab.specs.Coded.{items_exprs}
use Rattle.cx_velab.specs.Rows.{placed_of}
use Rattle.cx_vsim.specs.Tables.{tree_of}
use Rattle.cx_vsim.proofs.StepLemmas.{no_sets, no_stores, nets_small, arrays_small, items_named, edge_short, sets_added, stores_added}
use Rattle.cx_text.proofs.ListLaws.{item_at}
use Rattle.cx_vsim.proofs.stepping.push_steps.Goals as goal

pub push_items-requires-clause-named : goal.push_items-requires-clause-named
push_items-requires-clause-named c =
    let t = c.args.table.now in
    let row = c.index.result.now in
    let at = item_at placed_of t.rows.items c.args.i row c.requires.within c.index.ensures in
    λ j x there.
    items_named (tree_of t) t.codes.items c.requires.tree c.args.i (placed_of row) at (plain_edge c.in-Some.edge) (ap (option_map plain_edge) c.in-Some.is)
    (nets_by c.part-part.result.now.numbers) (arrays_by c.part-part.result.now.numbers) c.part-part.ensures.nets c.part-part.ensures.arrays j x
    (ap (λ l. slice_get (map plain_item l) j) (sym c.deref.ensures.value) ∙ there)

pub push_items-requires-clause-nets : goal.push_items-requires-clause-nets
push_items-requires-clause-nets c =
    let t = c.args.table.now in
    nets_small (tree_of t) t.codes.items c.requires.tree c.args.i (nets_by c.part-part.result.now.numbers) c.place-place.result.nets c.part-part.ensures.nets (ap (λ p. p.nets) c.place-place.ensures)

pub push_items-requires-clause-arrays : goal.push_items-requires-clause-arrays
push_items-requires-clause-arrays c =
    let t = c.args.table.now in
    arrays_small (tree_of t) t.codes.items c.requires.tree c.args.i (arrays_by c.part-part.result.now.numbers) c.place-place.result.arrays c.part-part.ensures.arrays (ap (λ p. p.arrays) c.place-place.ensures)

pub push_items-requires-clause-codes : goal.push_items-requires-clause-codes
push_items-requires-clause-codes c =
    let t = c.args.table.now in
    let row = c.index.result.now in
    let at = item_at placed_of t.rows.items c.args.i row c.requires.within c.index.ensures in
    let short = edge_short (tree_of t) t.codes.items c.requires.tree c.args.i (placed_of row) at (plain_edge c.in-Some.edge) (ap (option_map plain_edge) c.in-Some.is) c.part-part.result.now c.part-part.ensures in
    let one = length-map row.module.now.assigns.items plain_assign in
    let two = length-map c.in-Some.edge.reset.items plain_assign in
    let same = ap (λ l. length (items_exprs (map plain_item l))) c.deref.ensures.value in
    omega (arith, short, one, two, same, c.len.ensures, row.module.now.assigns.ok.0, c.len-in-Some.ensures, c.in-Some.edge.reset.ok.0)

pub returns-in-None-clause-sets : goal.returns-in-None-clause-sets
returns-in-None-clause-sets c =
    let t = c.args.table.now in
    let row = c.index.result.now in
    let at = item_at placed_of t.rows.items c.args.i row c.requires.within c.index.ensures in
    no_sets (tree_of t) t.codes.items 0 c.args.i (placed_of row) c.args.sets.now.items at (ap (option_map plain_edge) c.in-None.is)

pub returns-in-None-clause-stores : goal.returns-in-None-clause-stores
returns-in-None-clause-stores c =
    let t = c.args.table.now in
    let row = c.index.result.now in
    let at = item_at placed_of t.rows.items c.args.i row c.requires.within c.index.ensures in
    no_stores (tree_of t) t.codes.items c.args.i (placed_of row) c.args.stores.now.items at (ap (option_map plain_edge) c.in-None.is)

pub returns-in_ok-push_items-in-Some-clause-sets : goal.returns-in_ok-push_items-in-Some-clause-sets
returns-in_ok-push_items-in-Some-clause-sets c =
    let t = c.args.table.now in
    let row = c.index.result.now in
    let at = item_at placed_of t.rows.items c.args.i row c.requires.within c.index.ensures in
    let one = length-map row.module.now.assigns.items plain_assign in
    let two = length-map c.in-Some.edge.reset.items plain_assign in
    let x = c.part-part.result.now in
    sets_added (tree_of t) t.codes.items c.requires.tree c.args.i (placed_of row) at (plain_edge c.in-Some.edge) (ap (option_map plain_edge) c.in-Some.is) x c.part-part.ensures
    (nets_by x.numbers) (arrays_by x.numbers) c.part-part.ensures.nets c.part-part.ensures.arrays c.place-place.result c.place-place.ensures
    (x.first + c.len.result + c.len-in-Some.result) (omega (arith, one, two, c.len.ensures, row.module.now.assigns.ok.0, c.len-in-Some.ensures, c.in-Some.edge.reset.ok.0)) c.args.sets.now.items c.push_items.new.sets.items
    (map plain_item c.deref.result.now) (ap (map plain_item) c.deref.ensures.value) c.in_ok-push_items-in-Some.ensures.sets

pub returns-in_ok-push_items-in-Some-clause-stores : goal.returns-in_ok-push_items-in-Some-clause-stores
returns-in_ok-push_items-in-Some-clause-stores c =
    let t = c.args.table.now in
    let row = c.index.result.now in
    let at = item_at placed_of t.rows.items c.args.i row c.requires.within c.index.ensures in
    let one = length-map row.module.now.assigns.items plain_assign in
    let two = length-map c.in-Some.edge.reset.items plain_assign in
    let x = c.part-part.result.now in
    stores_added (tree_of t) t.codes.items c.requires.tree c.args.i (placed_of row) at (plain_edge c.in-Some.edge) (ap (option_map plain_edge) c.in-Some.is) x c.part-part.ensures
    (nets_by x.numbers) (arrays_by x.numbers) c.part-part.ensures.nets c.part-part.ensures.arrays c.place-place.result c.place-place.ensures
    (x.first + c.len.result + c.len-in-Some.result) (omega (arith, one, two, c.len.ensures, row.module.now.assigns.ok.0, c.len-in-Some.ensures, c.in-Some.edge.reset.ok.0)) c.args.stores.now.items c.push_items.new.stores.items
    (map plain_item c.deref.result.now) (ap (map plain_item) c.deref.ensures.value) c.in_ok-push_items-in-Some.ensures.stores
