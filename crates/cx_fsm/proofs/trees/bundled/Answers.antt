use Rattle.std.proofs.Common.{◌≡◌, suc, ◌∷◌, ◌∙◌, length, min, ap}
use Rattle.std.specs.Slice.Iter.{chunks_rest, chunks_size}
use Rattle.std.proofs.lemmas.List.{map_push}
use Rattle.cx_net.specs.PlainNets.{plain_net_driver, plain_net_drivers, plain_net_target}
use Rattle.cx_wiring.specs.Trees.{together, bundles}
use Rattle.cx_fsm.proofs.TreeSteps.{chunk_first, next_heads, next_drivers, next_widths, next_wire}
use Rattle.cx_fsm.proofs.trees.bundled.Goals as goal

pub loop-bundle-preserved : goal.loop-bundle-preserved
loop-bundle-preserved c =
    let all = chunks_rest c.loop-bundle.bundle-iterator in
    let rest = chunks_rest c.next.new.self in
    let bundle = c.in-Some.bundle.now in
    let step = c.in-Some.ensures.steps in
    let size : chunks_size c.loop-bundle.bundle-iterator ≡ 16 = c.loop-bundle.invariant.size in
    let next = c.loop-bundle.trees.next in
    let b = plain_net_drivers bundle in
    let bs = bundles together (plain_net_drivers rest) in
    let first : bundles together (plain_net_drivers all) ≡ b ∷ bs = chunk_first bundle all rest step.1.0 (step.1.1 ∙ ap (λ n. min n (length all)) size) step.1.2 in
    let head = c.head_of-head.result in
    let kept = c.push.ensures.kept in
    let grows = c.head_of-head.ensures.grows in
    record {
      all = λ h. c.loop-bundle.invariant.all (grows.whole (kept.whole h));
      heads = λ h.
          rw (c.push.ensures.value h, map_push plain_net_driver c.loop-bundle.heads.items head, grows.next (kept.whole h))
          (next_heads next b bs (plain_net_target c.args.target) (plain_net_drivers c.loop-bundle.heads.items) _ (plain_net_driver head) (c.head_of-head.ensures.head (kept.whole h))
          (rw first at (c.loop-bundle.invariant.heads (grows.whole (kept.whole h)))));
      drivers = λ h. rw (kept.kept, grows.next (kept.whole h)) (next_drivers next b bs _ _ _ (grows.drivers (kept.whole h)) (rw first at (c.loop-bundle.invariant.drivers (grows.whole (kept.whole h)))));
      widths = λ h. next_widths next b bs c.args.width _ _ _ (grows.widths (kept.whole h)) (rw first at (c.loop-bundle.invariant.widths (grows.whole (kept.whole h))));
      next = λ h. rw (grows.next (kept.whole h)) (next_wire next b bs _ (rw first at (c.loop-bundle.invariant.next (grows.whole (kept.whole h)))));
      size = step.0 ∙ size;
    }
