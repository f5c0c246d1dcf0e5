use Rattle.std.proofs.Common.{◌≡◌, ◌+◌, ◌-◌, map, drop, ap, ◌∙◌, arith}
use Rattle.cx_vtree.specs.PlainParts.{plain_port}
use Rattle.cx_vscope.specs.Drafts.{draft_decl}
use Rattle.cx_vtree.specs.Sound.{meant_in}
use Rattle.cx_vscope.proofs.Maps.{port_put}
use Rattle.cx_vscope.proofs.scopes.add_ports.Goals as goal

pub loop-i-preserved : goal.loop-i-preserved
loop-i-preserved c =
    let next : c.loop-i.i ≡ c.loop-i.i - 1 + 1 = omega arith in
    record {
      meant = port_put c.loop-i.meanings c.insert.new.self c.port_meaning.result c.args.ports.now (map draft_decl c.args.decls.now) (c.loop-i.i - 1) c.index-ports-i.result
          c.in_ok-insert.ensures.updates.0 c.port_meaning.ensures (omega arith) c.index-ports-i.is
          (λ q. c.loop-i.invariant.meant q ∙ ap (λ k. meant_in (map plain_port (drop k c.args.ports.now)) (map draft_decl c.args.decls.now) q) next);
      within = omega arith;
    }
