use Rattle.std.proofs.Common.{◌≡◌, ◌∷◌, ◌+◌, sym, ◌∙◌, drop, map, arith}
use Rattle.cx_ast.specs.PlainTree.{plain_port}
use Rattle.cx_names_scopes.proofs.NameLemmas.{numbers_start, ports_step}
use Rattle.cx_text.proofs.ListLaws.{drop_item}
use Rattle.cx_names_scopes.proofs.index.port_numbers.Goals as goal

pub loop-port-init : goal.loop-port-init
loop-port-init c = record { few = omega arith; numbered = λ n. numbers_start _ n _ (c.new-numbers.ensures n) }

pub loop-port-preserved : goal.loop-port-preserved
loop-port-preserved c = record {
  few = omega arith;
  numbered = λ n.
      let other : drop c.loop-port.port-index c.args.ports.now ≡ c.port-item.result ∷ drop (c.loop-port.port-index + 1) c.args.ports.now = drop_item _ _ _ c.port-item.is c.loop-port-test.true in
      ports_step _ _ _ n (plain_port c.port-item.result) (map plain_port (drop (c.loop-port.port-index + 1) c.args.ports.now)) _ (sym c.is_own_name.ensures ∙ c.if-is_own_name.false) (c.in_ok-add.ensures n) (rw other at (c.loop-port.invariant.numbered n));
}
