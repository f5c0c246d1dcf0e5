use Rattle.std.proofs.Common.{◌≡◌, ◌++◌, length}
use Rattle.std.specs.Vec.Iter.{into_iter_items, into_iter_len}
use Rattle.cx_net.specs.PlainNets.{plain_net_drivers}
use Rattle.cx_wiring.specs.Trees.{driven, trees, tree_widths}
use Rattle.cx_fsm.specs.Drafts.{IfWhole}
use Rattle.cx_fsm.specs.Leaves.{all_drivers, all_widths}
use Rattle.cx_fsm.specs.KnownWidths.{width_in}
use Rattle.cx_fsm.proofs.trees.add_trees.Given as goal

-- the trees so far, and those of the drivers that are left, are all
abbrev pub invariant-loop-driver : goal.invariant-loop-driver
invariant-loop-driver l =
    let rest = plain_net_drivers (into_iter_items l.driver-iterator) in
    let whole = driven (plain_net_drivers l.fn.drivers.items) in
    record {
      drivers : IfWhole l.trees.draft (all_drivers l.trees l.leaves rest ≡ plain_net_drivers l.initial.trees.draft.drivers.items ++ trees l.initial.trees.next whole);
      widths : IfWhole l.trees.draft (all_widths (width_in l.widths) l.trees l.leaves rest ≡ l.initial.trees.widths.items ++ tree_widths (width_in l.widths) whole);
      left : into_iter_len l.driver-iterator ≡ length (into_iter_items l.driver-iterator);
    }
