use Rattle.std.proofs.Common.{◌≡◌, length, ap, ◌∙◌, arith}
use Rattle.cx_vsim.specs.Tables.{tree_of}
use Rattle.cx_vsim.proofs.RowLemmas.{place_read}
use Rattle.cx_velab.proofs.TablesLemmas.{places_length}
use Rattle.cx_vsim.proofs.tables.Table.place.Goals as goal

pub index-requires : goal.index-requires
index-requires c =
    let t = c.args.self.now in
    let long : length t.places.items ≡ length t.rows.items = ap length c.requires.stands.places ∙ places_length (tree_of t) (length t.rows.items) in
    omega (arith, long, c.requires.within, t.places.ok.0)

pub returns : goal.returns
returns c =
    let t = c.args.self.now in
    place_read (tree_of t) t.places.items (length t.rows.items) c.args.i c.index.result.now c.requires.stands.places c.requires.within c.index.ensures
