use Rattle.std.proofs.Common.{◌≡◌, ◌+◌, ◌-◌, ◌<◌, length, map, sym, ◌∙◌, ap, slice_get, arith}
use Rattle.std.proofs.lemmas.Grind.{common_steps}
use Rattle.cx_vtree.specs.InstanceTree.{declared_nets}
use Rattle.cx_vtree.specs.PlainParts.{plain_decl}
use Rattle.cx_velab.proofs.PathLemmas.{net-front, net-back}
use Rattle.cx_velab.proofs.paths.net.Goals as goal

pub returns-then-number-len : goal.returns-then-number-len
returns-then-number-len c =
    let lt : c.args.number < length c.args.part.now.ports.items = grind (arith, common_steps) in
    net-front c.args.part.now.ports.items _ (declared_nets (map plain_decl c.args.part.now.decls.items)) c.args.number _ c.deref.ensures.value lt c.port.ensures

pub returns-else-number-len : goal.returns-else-number-len
returns-else-number-len c =
    let after : c.args.number ≡ length c.args.part.now.ports.items + (c.args.number - c.len-else-number-len.result) = grind (arith, common_steps) in
    c.declared.ensures ∙ ap (λ (l : _). slice_get (declared_nets (map plain_decl l)) (c.args.number - c.len-else-number-len.result)) c.deref-else-number-len.ensures.value
    ∙ sym (net-back c.args.part.now.ports.items (declared_nets (map plain_decl c.args.part.now.decls.items)) c.args.number (c.args.number - c.len-else-number-len.result) after)
