use Rattle.std.proofs.Common.{◌≡◌, ◌∷◌, ◌+◌, sym, ◌∙◌, drop, map, arith}
use Rattle.cx_ast.specs.PlainTree.{plain_port}
use Rattle.cx_names_scopes.proofs.NameLemmas.{ports_step}
use Rattle.cx_names.proofs.PortLemmas.{counted_step}
use Rattle.cx_text.proofs.ListLaws.{drop_item}
use Rattle.cx_names.proofs.ports.add_ports.Goals as goal

pub loop-port-preserved : goal.loop-port-preserved
loop-port-preserved c =
    let other : drop c.loop-port.port-index c.args.ports.now ≡ c.port-item.result ∷ drop (c.loop-port.port-index + 1) c.args.ports.now = drop_item _ _ _ c.port-item.is c.loop-port-test.true in
    let rest = map plain_port (drop (c.loop-port.port-index + 1) c.args.ports.now) in
    let is_other = sym c.is_own_name.ensures ∙ c.if-is_own_name.false in
    record {
      few = omega (arith, c.loop-port.invariant.few);
      counted = counted_step c.loop-port.behind (plain_port c.port-item.result) rest _ is_other (rw other at c.loop-port.invariant.counted);
      numbered = λ n. ports_step _ _ _ n (plain_port c.port-item.result) rest _ is_other (c.in_ok-add.ensures n) (rw other at (c.loop-port.invariant.numbered n));
    }
