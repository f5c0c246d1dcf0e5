use Rattle.std.proofs.Common.{◌+◌, length, map, option_map, slice_get, ap, sym, ◌∙◌, arith}
use Rattle.std.proofs.lemmas.List.{length-map}
use Rattle.cx_vtree.specs.PlainParts.{plain_assign, plain_edge}
use Rattle.cx_vnets.specs.Numberings.{nets_by, arrays_by}
use Rattle.cx_velab.specs.Rows.{placed_of}
use Rattle.cx_vsim.specs.Tables.{tree_of}
use Rattle.cx_vsim.proofs.StepLemmas.{no_sets, nets_small, resets_named, edge_short, resets_added}
use Rattle.cx_text.proofs.ListLaws.{item_at}
use Rattle.cx_vsim.proofs.stepping.push_resets.Goals as goal

pub push_sets-requires-clause-named : goal.push_sets-requires-clause-named
push_sets-requires-clause-named c =
    let t = c.args.table.now in
    let row = c.index.result.now in
    let at = item_at placed_of t.rows.items c.args.i row c.requires.within c.index.ensures in
    λ j a there.
    resets_named (tree_of t) t.codes.items c.requires.tree c.args.i (placed_of row) at (plain_edge c.in-Some.edge) (ap (option_map plain_edge) c.in-Some.is)
    (nets_by c.part-part.result.now.numbers) c.part-part.ensures.nets j a (ap (λ l. slice_get (map plain_assign l) j) (sym c.deref.ensures.value) ∙ there)

pub push_sets-requires-clause-small : goal.push_sets-requires-clause-small
push_sets-requires-clause-small c =
    let t = c.args.table.now in
    nets_small (tree_of t) t.codes.items c.requires.tree c.args.i (nets_by c.part-part.result.now.numbers) c.place-place.result.nets c.part-part.ensures.nets (ap (λ p. p.nets) c.place-place.ensures)

pub push_sets-requires-clause-codes : goal.push_sets-requires-clause-codes
push_sets-requires-clause-codes c =
    let t = c.args.table.now in
    let row = c.index.result.now in
    let at = item_at placed_of t.rows.items c.args.i row c.requires.within c.index.ensures in
    let short = edge_short (tree_of t) t.codes.items c.requires.tree c.args.i (placed_of row) at (plain_edge c.in-Some.edge) (ap (option_map plain_edge) c.in-Some.is) c.part-part.result.now c.part-part.ensures in
    let one = length-map row.module.now.assigns.items plain_assign in
    let two = length-map c.in-Some.edge.reset.items plain_assign in
    let same = ap length c.deref.ensures.value in
    omega (arith, short, one, two, same, c.len.ensures, row.module.now.assigns.ok.0)

pub returns-in-None : goal.returns-in-None
returns-in-None c =
    let t = c.args.table.now in
    let row = c.index.result.now in
    let at = item_at placed_of t.rows.items c.args.i row c.requires.within c.index.ensures in
    no_sets (tree_of t) t.codes.items 1 c.args.i (placed_of row) c.args.sets.now.items at (ap (option_map plain_edge) c.in-None.is)

pub returns-in_ok-push_sets-in-Some : goal.returns-in_ok-push_sets-in-Some
returns-in_ok-push_sets-in-Some c =
    let t = c.args.table.now in
    let row = c.index.result.now in
    let at = item_at placed_of t.rows.items c.args.i row c.requires.within c.index.ensures in
    let one = length-map row.module.now.assigns.items plain_assign in
    let x = c.part-part.result.now in
    resets_added (tree_of t) t.codes.items c.requires.tree c.args.i (placed_of row) at (plain_edge c.in-Some.edge) (ap (option_map plain_edge) c.in-Some.is) x c.part-part.ensures
    (nets_by x.numbers) (arrays_by x.numbers) c.part-part.ensures.nets c.part-part.ensures.arrays c.place-place.result c.place-place.ensures
    (x.first + c.len.result) (omega (arith, one, c.len.ensures, row.module.now.assigns.ok.0)) c.args.sets.now.items c.push_sets.new.sets.items
    (map plain_assign c.deref.result.now) (ap (map plain_assign) c.deref.ensures.value) c.in_ok-push_sets-in-Some.ensures
