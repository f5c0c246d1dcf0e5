use Rattle.std.proofs.Common.{◌≡◌, ◌∙◌, ◌<◌, ◌≤◌, length, sym, ap, arith, rules}
use Rattle.std.proofs.lemmas.List.{length-map}
use Rattle.cx_net.specs.PlainNets.{plain_net_driver, plain_net_drivers, plain_net_target}
use Rattle.cx_wiring.specs.Trees.{together, bundles, heads}
use Rattle.cx_fsm.specs.Drafts.{IsWhole}
use Rattle.cx_fsm.proofs.TreeSteps.{level_drivers, level_widths, level_wire, fewer_heads, top_drivers, top_widths, top_wire}
use Rattle.cx_fsm.proofs.trees.add_tree.Goals as goal

pub loop-trees-smaller : goal.loop-trees-smaller
loop-trees-smaller c =
    let target = plain_net_target c.args.leaves.target in
    let ds = plain_net_drivers c.loop-trees.level.items in
    let up = plain_net_drivers c.bundled-level.result.items in
    let whole : IsWhole c.bundled-level.new.trees.draft = search rules in
    let slice : plain_net_drivers c.as_slice.result.now ≡ ds = ap plain_net_drivers c.as_slice.ensures.value in
    let long : length ds ≡ length c.loop-trees.level.items = length-map c.loop-trees.level.items plain_net_driver in
    let longer : length up ≡ length c.bundled-level.result.items = length-map c.bundled-level.result.items plain_net_driver in
    let len : c.len.result ≡ length c.loop-trees.level.items = search rules in
    let more : 16 < length ds = omega (arith, long, len, c.loop-trees-test.true) in
    let less : length up < length ds = fewer_heads target c.loop-trees.trees.next ds up more (c.bundled-level.ensures.heads whole ∙ ap (λ l. heads target c.loop-trees.trees.next (bundles together l)) slice) in
    omega (arith, less, long, longer)

pub loop-trees-preserved : goal.loop-trees-preserved
loop-trees-preserved c =
    let target = plain_net_target c.args.leaves.target in
    let ds = plain_net_drivers c.loop-trees.level.items in
    let up = plain_net_drivers c.bundled-level.result.items in
    let whole : IsWhole c.bundled-level.new.trees.draft = search rules in
    let grows = c.bundled-level.ensures.grows in
    let slice : plain_net_drivers c.as_slice.result.now ≡ ds = ap plain_net_drivers c.as_slice.ensures.value in
    let long : length ds ≡ length c.loop-trees.level.items = length-map c.loop-trees.level.items plain_net_driver in
    let len : c.len.result ≡ length c.loop-trees.level.items = search rules in
    let more : 16 < length ds = omega (arith, long, len, c.loop-trees-test.true) in
    let is = rw slice at (c.bundled-level.ensures.heads whole) in
    let before = grows.whole whole in
    record {
      all = λ h. c.loop-trees.invariant.all before;
      drivers = λ h. level_drivers target c.loop-trees.trees.next ds up more is c.bundled-level.new.trees.next _ _ _ (rw slice at (grows.drivers whole)) (rw slice at (grows.next whole)) (c.loop-trees.invariant.drivers before);
      widths = λ h. level_widths target c.loop-trees.trees.next ds up more is c.of-width.result _ _ _ (rw slice at (grows.widths whole)) (c.loop-trees.invariant.widths before);
      next = λ h. level_wire target c.loop-trees.trees.next ds up more is c.bundled-level.new.trees.next _ (rw slice at (grows.next whole)) (c.loop-trees.invariant.next before);
    }

pub returns : goal.returns
returns c =
    let target = plain_net_target c.args.leaves.target in
    let ds = plain_net_drivers c.loop-trees.level.items in
    let slice : plain_net_drivers c.as_slice-2.result.now ≡ ds = ap plain_net_drivers c.as_slice-2.ensures.value in
    let long : length ds ≡ length c.loop-trees.level.items = length-map c.loop-trees.level.items plain_net_driver in
    let len : c.len.result ≡ length c.loop-trees.level.items = search rules in
    let few : length ds ≤ 16 = omega (arith, long, len, c.loop-trees-test.false) in
    let moved = c.move_all.ensures.driven in
    record {
      grows = record {
        whole = λ h. c.loop-trees.invariant.all (moved.whole h);
        drivers = λ h. top_drivers target c.loop-trees.trees.next ds few _ _ _ (rw slice at (moved.driven h)) (c.loop-trees.invariant.drivers (moved.whole h));
        widths = λ h. rw (sym c.of-width.ensures.value) (top_widths ds few c.of-width.result _ _ (c.loop-trees.invariant.widths (moved.whole h)));
        next = λ h. top_wire ds few c.loop-trees.trees.next _ (c.loop-trees.invariant.next (moved.whole h));
      };
    }
