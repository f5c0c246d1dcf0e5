use Rattle.std.proofs.Common.{length, map, slice_get, ap, sym, ◌∙◌, arith}
use Rattle.std.proofs.lemmas.List.{length-map}
use Rattle.cx_vtree.specs.PlainParts.{plain_port, plain_conn}
use Rattle.cx_vnets.specs.Numberings.{nets_by}
use Rattle.cx_velab.specs.Rows.{placed_of}
use Rattle.cx_vsim.specs.Tables.{tree_of}
use Rattle.cx_vsim.proofs.RowLemmas.{numbers_within, conn_named, ports_within, tie_right}
use Rattle.cx_text.proofs.ListLaws.{item_at}
use Rattle.cx_vsim.proofs.driving.tie_row.Goals as goal

pub part-around-requires-clause-within : goal.part-around-requires-clause-within
part-around-requires-clause-within c =
    let t = c.args.table.now in
    let row = c.index-row.result.now in
    let at = item_at placed_of t.rows.items c.args.i row c.requires.within c.index-row.ensures in
    let lt = c.requires.tree.rooted.holders c.args.i (placed_of row) at c.requires.inner in
    let long = length-map t.rows.items placed_of in
    omega (arith, lt, long)

pub place-outer-requires-clause-within : goal.place-outer-requires-clause-within
place-outer-requires-clause-within c =
    let t = c.args.table.now in
    let row = c.index-row.result.now in
    let at = item_at placed_of t.rows.items c.args.i row c.requires.within c.index-row.ensures in
    let lt = c.requires.tree.rooted.holders c.args.i (placed_of row) at c.requires.inner in
    let long = length-map t.rows.items placed_of in
    omega (arith, lt, long)

pub tie_ports-requires-clause-same : goal.tie_ports-requires-clause-same
tie_ports-requires-clause-same c =
    let t = c.args.table.now in
    let row = c.index-row.result.now in
    let at = item_at placed_of t.rows.items c.args.i row c.requires.within c.index-row.ensures in
    let same = c.requires.tree.tidy.conns c.args.i (placed_of row) at c.requires.inner in
    let ports = length-map row.module.now.ports.items plain_port in
    let conns = length-map row.instance.now.conns.items plain_conn in
    let first = ap length c.deref.ensures.value in
    let second = ap length c.deref-2.ensures.value in
    omega (arith, same, ports, conns, first, second)

pub tie_ports-requires-clause-named : goal.tie_ports-requires-clause-named
tie_ports-requires-clause-named c =
    let t = c.args.table.now in
    let row = c.index-row.result.now in
    let at = item_at placed_of t.rows.items c.args.i row c.requires.within c.index-row.ensures in
    λ j x there.
    conn_named (tree_of t) t.codes.items c.requires.tree c.args.i (placed_of row) at c.requires.inner (nets_by c.part-around.result.now.numbers) c.part-around.ensures.nets j x
    (ap (λ l. slice_get (map plain_conn l) j) (sym c.deref-2.ensures.value) ∙ there)

pub tie_ports-requires-clause-inner : goal.tie_ports-requires-clause-inner
tie_ports-requires-clause-inner c =
    let t = c.args.table.now in
    let row = c.index-row.result.now in
    let at = item_at placed_of t.rows.items c.args.i row c.requires.within c.index-row.ensures in
    let short = ports_within (tree_of t) t.codes.items c.requires.tree c.args.i (placed_of row) at c.requires.inner c.place-inner.result.nets (length c.args.drivers.now)
    (ap (λ p. p.nets) c.place-inner.ensures) c.requires.whole in
    let ports = length-map row.module.now.ports.items plain_port in
    let same = ap length c.deref.ensures.value in
    omega (arith, short, ports, same)

pub tie_ports-requires-clause-outer : goal.tie_ports-requires-clause-outer
tie_ports-requires-clause-outer c =
    let t = c.args.table.now in
    numbers_within (tree_of t) t.codes.items c.requires.tree c.index-row.result.now.holder (nets_by c.part-around.result.now.numbers) c.place-outer.result.nets (length c.args.drivers.now) c.part-around.ensures.nets
    (ap (λ p. p.nets) c.place-outer.ensures) c.requires.whole

pub returns-clause-kept : goal.returns-clause-kept
returns-clause-kept c =
    let t = c.args.table.now in
    let row = c.index-row.result.now in
    let at = item_at placed_of t.rows.items c.args.i row c.requires.within c.index-row.ensures in
    (tie_right (tree_of t) t.codes.items c.requires.tree c.args.i (placed_of row) at c.requires.inner c.drivers_are_right.ensures.ties (nets_by c.part-around.result.now.numbers) c.part-around.ensures.nets
    c.place-inner.result c.place-outer.result c.place-inner.ensures c.place-outer.ensures c.args.drivers.now c.tie_ports.new.drivers c.requires.whole
    (map plain_port c.deref.result.now) (map plain_conn c.deref-2.result.now) (ap (map plain_port) c.deref.ensures.value) (ap (map plain_conn) c.deref-2.ensures.value) c.tie_ports.ensures).0

pub returns-clause-tied : goal.returns-clause-tied
returns-clause-tied c =
    let t = c.args.table.now in
    let row = c.index-row.result.now in
    let at = item_at placed_of t.rows.items c.args.i row c.requires.within c.index-row.ensures in
    (tie_right (tree_of t) t.codes.items c.requires.tree c.args.i (placed_of row) at c.requires.inner c.drivers_are_right.ensures.ties (nets_by c.part-around.result.now.numbers) c.part-around.ensures.nets
    c.place-inner.result c.place-outer.result c.place-inner.ensures c.place-outer.ensures c.args.drivers.now c.tie_ports.new.drivers c.requires.whole
    (map plain_port c.deref.result.now) (map plain_conn c.deref-2.result.now) (ap (map plain_port) c.deref.ensures.value) (ap (map plain_conn) c.deref-2.ensures.value) c.tie_ports.ensures).2
