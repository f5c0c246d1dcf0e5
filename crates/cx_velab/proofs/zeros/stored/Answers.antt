use Rattle.std.proofs.Common.{◌<◌, map, length, slice_get, ap, sym, ◌∙◌, arith}
use Rattle.cx_vtree.specs.PlainParts.{plain_decl}
use Rattle.cx_velab.specs.Rows.{placed_of}
use Rattle.cx_text.proofs.ListLaws.{item_at}
use Rattle.cx_velab.proofs.zeros.stored.Goals as goal

pub push_nets-requires : goal.push_nets-requires
push_nets-requires c =
    let lt : c.loop-row.row-index < length c.args.rows.now = omega arith in
    c.requires c.loop-row.row-index (placed_of c.row-item.result) (item_at placed_of c.args.rows.now c.loop-row.row-index c.row-item.result lt c.row-item.is)

pub push_arrays-requires : goal.push_arrays-requires
push_arrays-requires c =
    let lt : c.loop-row.row-index < length c.args.rows.now = omega arith in
    let wide = c.requires c.loop-row.row-index (placed_of c.row-item.result) (item_at placed_of c.args.rows.now c.loop-row.row-index c.row-item.result lt c.row-item.is) in
    λ j d e. wide.decls j d (ap (λ l. slice_get (map plain_decl l) j) (sym c.deref.ensures.value) ∙ e)
