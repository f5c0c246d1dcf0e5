use Rattle.std.proofs.Common.{◌<◌, length, ⊎_elim, subst, arith}
use Rattle.cx_vtree.specs.PlainParts.{plain_decl}
use Rattle.cx_velab.specs.Tables.{IsWidth, decl_width}
use Rattle.cx_text.proofs.ListLaws.{item_at}
use Rattle.cx_velab.proofs.zeros.push_decls.Goals as goal

pub zero-requires : goal.zero-requires
zero-requires c =
    let lt : c.loop-decl.decl-index < length c.args.decls.now = omega arith in
    let wide = c.requires c.loop-decl.decl-index (plain_decl c.decl-item.result) (item_at plain_decl c.args.decls.now c.loop-decl.decl-index c.decl-item.result lt c.decl-item.is) in
    ⊎_elim (λ e. subst (λ d. IsWidth (decl_width (plain_decl d))) e.1 wide) (λ e. subst (λ d. IsWidth (decl_width (plain_decl d))) e.1 wide) c.in-Wire.is
