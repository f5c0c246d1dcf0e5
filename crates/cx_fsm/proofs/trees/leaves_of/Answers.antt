use Rattle.std.proofs.Common.{◌≡◌, ap}
use Rattle.std.proofs.lemmas.Bool.{iff_false}
use Rattle.cx_net.specs.PlainNets.{plain_net_drivers, plain_net_target}
use Rattle.cx_fsm.specs.KnownWidths.{width_in}
use Rattle.cx_fsm.proofs.LeafLemmas.{one_target}
use Rattle.cx_fsm.proofs.TreeSteps.{begun_drivers, begun_widths}
use Rattle.cx_fsm.proofs.trees.leaves_of.Goals as goal

pub returns-clause-drivers : goal.returns-clause-drivers
returns-clause-drivers c = λ h d ds of.
    let differs : plain_net_target c.args.target ≡ plain_net_target c.args.leaves.target → ⊥ = λ e. iff_false c.is_same.ensures.value c.if-is_same.false (one_target c.args.target c.args.leaves.target e) in
    rw (ap plain_net_drivers c.new.ensures.items)
    (begun_drivers d ds (plain_net_target c.args.leaves.target) (plain_net_target c.args.target) (plain_net_drivers c.args.leaves.drivers.items) of differs
    c.args.trees.now.next c.add_tree.new.trees.next (plain_net_drivers c.args.trees.now.draft.drivers.items) (plain_net_drivers c.add_tree.new.trees.draft.drivers.items)
    (c.add_tree.ensures.grows.drivers h) (c.add_tree.ensures.grows.next h))

pub returns-clause-widths : goal.returns-clause-widths
returns-clause-widths c = λ h d ds of.
    let differs : plain_net_target c.args.target ≡ plain_net_target c.args.leaves.target → ⊥ = λ e. iff_false c.is_same.ensures.value c.if-is_same.false (one_target c.args.target c.args.leaves.target e) in
    rw (ap plain_net_drivers c.new.ensures.items)
    (begun_widths d ds (plain_net_target c.args.leaves.target) (plain_net_target c.args.target) (plain_net_drivers c.args.leaves.drivers.items) of differs
    (width_in c.args.widths.now) c.args.trees.now.widths.items c.add_tree.new.trees.widths.items (c.add_tree.ensures.grows.widths h))
