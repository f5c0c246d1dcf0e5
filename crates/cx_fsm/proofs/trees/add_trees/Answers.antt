use Rattle.std.proofs.Common.{◌≡◌, [], ◌∷◌, ◌++◌, ◌∙◌, refl, sym, ap, rules}
use Rattle.std.specs.Vec.Iter.{into_iter_items}
use Rattle.std.proofs.lemmas.List.{nil_from_length}
use Rattle.cx_net.specs.PlainNets.{plain_net_driver, plain_net_drivers, plain_net_target}
use Rattle.cx_wiring.specs.Trees.{driven}
use Rattle.cx_fsm.specs.KnownWidths.{width_in}
use Rattle.cx_fsm.specs.Leaves.{all_drivers, all_widths}
use Rattle.cx_fsm.proofs.TreeSteps.{first_leaves, first_widths, last_leaves, last_widths}
use Rattle.cx_fsm.proofs.trees.add_trees.Goals as goal

pub loop-driver-init : goal.loop-driver-init
loop-driver-init c =
    let items : into_iter_items c.into_iter-driver-iterator.result ≡ c.args.drivers.items = search rules in
    let made = c.args.trees.now in
    record {
      drivers = λ h.
          rw (ap plain_net_drivers c.new.ensures.items, items)
          (ap (λ l. plain_net_drivers made.draft.drivers.items ++ l) (first_leaves made.next (driven (plain_net_drivers c.args.drivers.items))));
      widths = λ h.
          rw (ap plain_net_drivers c.new.ensures.items, items)
          (ap (λ l. made.widths.items ++ l) (first_widths (width_in c.args.widths.now) (driven (plain_net_drivers c.args.drivers.items))));
      left = search rules;
    }

pub loop-driver-preserved : goal.loop-driver-preserved
loop-driver-preserved c =
    let d = plain_net_driver c.in-Some.driver in
    let rest = plain_net_drivers (into_iter_items c.next.new.self) in
    let items : into_iter_items c.loop-driver.driver-iterator ≡ c.in-Some.driver ∷ into_iter_items c.next.new.self = search rules in
    let made = c.loop-driver.trees in
    let leaves = c.loop-driver.leaves in
    let width = width_in c.args.widths.now in
    record {
      drivers = λ h.
          c.with_leaf-leaves.ensures.drivers h rest ∙ c.leaves_of-leaves.ensures.drivers (c.with_leaf-leaves.ensures.whole h) d rest refl
          ∙ ap (all_drivers made leaves) (sym (ap plain_net_drivers items)) ∙ c.loop-driver.invariant.drivers (c.leaves_of-leaves.ensures.whole (c.with_leaf-leaves.ensures.whole h));
      widths = λ h.
          c.with_leaf-leaves.ensures.widths h width rest ∙ c.leaves_of-leaves.ensures.widths (c.with_leaf-leaves.ensures.whole h) d rest refl
          ∙ ap (all_widths width made leaves) (sym (ap plain_net_drivers items)) ∙ c.loop-driver.invariant.widths (c.leaves_of-leaves.ensures.whole (c.with_leaf-leaves.ensures.whole h));
      left = search rules;
    }

pub returns : goal.returns
returns c =
    let none : into_iter_items c.loop-driver.driver-iterator ≡ [] = nil_from_length (into_iter_items c.loop-driver.driver-iterator) (sym c.loop-driver.invariant.left ∙ c.in-None.ensures.steps.0) in
    let made = c.loop-driver.trees in
    let leaves = c.loop-driver.leaves in
    let before = plain_net_drivers leaves.drivers.items in
    let width = width_in c.args.widths.now in
    record {
      drivers = λ h.
          c.add_tree.ensures.grows.drivers h
          ∙ ap (λ l. plain_net_drivers made.draft.drivers.items ++ l) (sym (last_leaves (plain_net_target leaves.target) made.next before))
          ∙ ap (all_drivers made leaves) (sym (ap plain_net_drivers none)) ∙ c.loop-driver.invariant.drivers (c.add_tree.ensures.grows.whole h);
      widths = λ h.
          c.add_tree.ensures.grows.widths h
          ∙ ap (λ l. made.widths.items ++ l) (sym (last_widths width (plain_net_target leaves.target) before))
          ∙ ap (all_widths width made leaves) (sym (ap plain_net_drivers none)) ∙ c.loop-driver.invariant.widths (c.add_tree.ensures.grows.whole h);
    }
