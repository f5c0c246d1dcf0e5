use Rattle.std.proofs.Common.{◌<◌, length, arith}
use Rattle.std.proofs.lemmas.List.{length-map}
use Rattle.cx_velab.specs.Rows.{placed_of}
use Rattle.cx_vsim.specs.Tables.{tree_of}
use Rattle.cx_vsim.proofs.RowLemmas.{own_row, own_part, part_read}
use Rattle.cx_vsim.proofs.tables.Table.part.Goals as goal

pub index-requires : goal.index-requires
index-requires c =
    let t = c.args.self.now in
    let long = length-map t.rows.items placed_of in
    let lt : c.args.i < length (tree_of t) = omega (arith, long, c.requires.within) in
    let own = own_row (tree_of t) t.codes.items t.parts.list.items t.parts.of_rows.items c.requires.stands.parts c.args.i lt in
    omega (arith, own, t.parts.of_rows.ok.0)

pub index-requires-2 : goal.index-requires-2
index-requires-2 c =
    let t = c.args.self.now in
    let long = length-map t.rows.items placed_of in
    let lt : c.args.i < length (tree_of t) = omega (arith, long, c.requires.within) in
    let own = own_part (tree_of t) t.codes.items t.parts.list.items t.parts.of_rows.items c.requires.stands.parts c.args.i lt c.index.result.now c.index.ensures in
    omega (arith, own, t.parts.list.ok.0)

pub returns : goal.returns
returns c =
    let t = c.args.self.now in
    let long = length-map t.rows.items placed_of in
    let lt : c.args.i < length (tree_of t) = omega (arith, long, c.requires.within) in
    part_read (tree_of t) t.codes.items t.parts.list.items t.parts.of_rows.items c.requires.stands.parts c.args.i lt c.index.result.now c.index-2.result.now c.index.ensures c.index-2.ensures c.requires.stands.small
