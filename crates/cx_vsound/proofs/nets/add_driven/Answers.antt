use Rattle.std.proofs.Common.{◌≡◌, ◌∷◌, ◌+◌, List, map, drop, ap, sym, ◌∙◌}
use Rattle.cx_vtree.specs.Plain.{PlainConn, PlainPort}
use Rattle.cx_vtree.specs.PlainParts.{plain_port, plain_conn}
use Rattle.cx_vtree.specs.Sound.{has_name, has_output}
use Rattle.cx_text.proofs.ListLaws.{drop_item}
use Rattle.cx_vsound.proofs.Outputs.{driven_by_output, driven_by_other, has_name_outputs}
use Rattle.cx_vsound.proofs.nets.add_driven.Goals.{then-has+in_ok-doubled, else-has}
use Rattle.cx_vsound.proofs.nets.add_driven.Goals as goal

pub loop-c-preserved : goal.loop-c-preserved
loop-c-preserved c =
    let ps : List PlainPort = map plain_port c.args.ports.now in
    let k : PlainConn = plain_conn c.c-item.result in
    let rest : List PlainConn = map plain_conn (drop (c.loop-c.c-index + 1) c.args.conns.now) in
    let front : map plain_conn (drop c.loop-c.c-index c.args.conns.now) ≡ k ∷ rest = ap (map plain_conn) (drop_item _ _ _ c.c-item.is c.loop-c-test.true) in
    let is : has_output ps k.port ≡ c.has.result = sym (c.has.ensures ∙ ap (λ ns. has_name ns k.port) c.in_ok-outputs.ensures ∙ has_name_outputs ps k.port) in
    elim c.if-has.branch [
      | then-has+in_ok-doubled w ↦ driven_by_output ps k rest _ front (is ∙ w.if-has.true) _ _ _ _ _ _ c.loop-c.invariant.0 c.loop-c.invariant.1
          (w.doubled-is ∙ w.in_ok-doubled.ensures.value) (w.driven-is ∙ w.in_ok-doubled.ensures.names)
      | else-has w ↦ driven_by_other ps k rest _ front (is ∙ w.if-has.false) _ _ _ _ _ _ c.loop-c.invariant.0 c.loop-c.invariant.1 w.doubled-is w.driven-is
    ]
