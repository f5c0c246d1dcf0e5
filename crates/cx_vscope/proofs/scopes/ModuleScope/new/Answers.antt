use Rattle.std.proofs.Common.{map, ap, ◌∙◌}
use Rattle.std.proofs.Math.Path.{fun_ext}
use Rattle.cx_vtree.specs.PlainParts.{plain_port}
use Rattle.cx_vscope.specs.Drafts.{draft_decl}
use Rattle.cx_vtree.specs.Sound.{meant_in}
use Rattle.cx_vscope.proofs.scopes.ModuleScope.new.Goals as goal

pub returns : goal.returns
returns c = fun_ext (λ n.
    c.in_ok-add_ports.ensures n
    ∙ ap (λ ps. meant_in (map plain_port ps) (map draft_decl c.deref-3.result.now) n) c.deref-2.ensures.value
    ∙ ap (λ ds. meant_in (map plain_port c.args.m.now.ports.items) (map draft_decl ds) n) c.deref-3.ensures.value)
