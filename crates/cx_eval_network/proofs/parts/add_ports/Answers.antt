use Rattle.std.proofs.Common.{◌≡◌, ◌+◌, Some, None, sym, ap, ◌∙◌, subst, arith}
use Rattle.cx_design_leads.specs.Nodes.{below, node_of}
use Rattle.cx_eval_network.specs.Parts.{ArePorts}
use Rattle.cx_eval_network.proofs.PartLemmas.{not_below, ports_more}
use Rattle.cx_eval_network.proofs.parts.add_ports.Goals as goal
use Rattle.cx_design_leads.proofs.NodeLemmas.{is_below}

pub returns-in-None : goal.returns-in-None
returns-in-None c = record {
  value = λ i count start h span before.
      let held = c.loop-number.invariant i count start h span before in
      let none : below count start c.loop-number.number ≡ None = sym (span c.loop-number.number) ∙ ap (node_of i) (sym c.numbered-port.ensures.value) ∙ sym (c.in-None.ensures.value i h) in
      let past = not_below count start c.loop-number.number none in
      let within = held.0 in
      let same : c.loop-number.number ≡ count = omega (arith, past, within) in
      subst (λ k. ArePorts i (start + k) c.loop-number.ports.items) same held.1;
}

pub loop-number-preserved : goal.loop-number-preserved
loop-number-preserved c = λ i count start h span before.
    let held = c.loop-number.invariant i count start h span before in
    let some : below count start c.loop-number.number ≡ Some c.in-Some.field-0 = sym (span c.loop-number.number) ∙ ap (node_of i) (sym c.numbered-port.ensures.value) ∙ sym (c.in-Some.ensures.value i h) in
    let b = is_below count start c.loop-number.number c.in-Some.field-0 some in
    let lt = b.lt in
    let one : start + c.loop-number.number + 1 ≡ start + (c.loop-number.number + 1) = omega arith in (
      omega (arith, lt),
      subst (λ k. ArePorts i k c.push.new.self.items) one
          (ports_more i (start + c.loop-number.number) c.loop-number.ports.items c.push.new.self.items c.numbered-port.result held.1
          (sym (c.in-Some.ensures.value i h) ∙ ap Some b.is) c.in_ok-push-in-Some.ensures.items),
    )
