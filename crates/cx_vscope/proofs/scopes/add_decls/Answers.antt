use Rattle.std.proofs.Common.{◌≡◌, ◌+◌, ◌-◌, map, drop, ap, ◌∙◌, arith}
use Rattle.cx_vscope.specs.Drafts.{draft_decl}
use Rattle.cx_vtree.specs.Sound.{meant_decl}
use Rattle.cx_vscope.proofs.Maps.{decl_put}
use Rattle.cx_vscope.proofs.scopes.add_decls.Goals as goal

pub loop-i-preserved : goal.loop-i-preserved
loop-i-preserved c =
    let next : c.loop-i.i ≡ c.loop-i.i - 1 + 1 = omega arith in
    record {
      meant = decl_put c.loop-i.meanings c.insert.new.self c.decl_meaning.result c.args.decls.now (c.loop-i.i - 1) c.index-decls-i.result c.decl_name.result.now
          c.in_ok-insert.ensures.updates.0 c.decl_name.ensures c.decl_meaning.ensures (omega arith) c.index-decls-i.is
          (λ q. c.loop-i.invariant.meant q ∙ ap (λ k. meant_decl (map draft_decl (drop k c.args.decls.now)) q) next);
      within = omega arith;
    }
