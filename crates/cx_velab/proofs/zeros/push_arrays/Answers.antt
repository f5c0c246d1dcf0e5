use Rattle.std.proofs.Common.{◌<◌, length, subst, arith}
use Rattle.cx_vtree.specs.PlainParts.{plain_decl}
use Rattle.cx_velab.specs.Tables.{IsWidth, decl_width}
use Rattle.cx_text.proofs.ListLaws.{item_at}
use Rattle.cx_velab.proofs.zeros.push_arrays.Goals as goal

pub zero_words-requires : goal.zero_words-requires
zero_words-requires c =
    let lt : c.loop-decl.decl-index < length c.args.decls.now = omega arith in
    subst (λ d. IsWidth (decl_width (plain_decl d))) c.in-Array.is
    (c.requires c.loop-decl.decl-index (plain_decl c.decl-item.result) (item_at plain_decl c.args.decls.now c.loop-decl.decl-index c.decl-item.result lt c.decl-item.is))
