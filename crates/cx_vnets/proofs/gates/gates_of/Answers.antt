use Rattle.std.proofs.Common.{◌+◌, IfSome, length, ap, sym, ◌∙◌, subst}
use Rattle.std.proofs.lemmas.List.{length_push}
use Rattle.cx_vnets.specs.Gates.{GatesStand, HasGate}
use Rattle.cx_vnets.proofs.GateLemmas.{gates_more}
use Rattle.cx_vnets.proofs.gates.gates_of.Goals as goal

pub loop-net-preserved : goal.loop-net-preserved
loop-net-preserved c =
    let n = c.args.nets.now in
    let origins = c.args.origins.now in
    let gates = c.loop-net.gates.items in
    let inv = c.loop-net.invariant in
    let items = c.in_ok-push.ensures.items in
    record {
      stand = subst (GatesStand n origins) (sym items)
          (gates_more n origins gates c.net_gate.result c.loop-net.net inv.stand inv.long (λ g e. subst (λ o. IfSome o (HasGate n origins c.loop-net.net)) e c.net_gate.ensures));
      long = ap length items ∙ length_push gates c.net_gate.result ∙ ap (λ k. k + 1) inv.long;
    }
