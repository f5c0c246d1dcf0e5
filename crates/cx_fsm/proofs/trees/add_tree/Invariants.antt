use Rattle.std.proofs.Common.{◌≡◌, ◌++◌, length}
use Rattle.cx_net.specs.PlainNets.{plain_net_drivers, plain_net_target}
use Rattle.cx_wiring.specs.Trees.{tree, pairs, pair_widths, behind}
use Rattle.cx_fsm.specs.Drafts.{IfWhole, IsWhole}
use Rattle.cx_fsm.proofs.trees.add_tree.Given as goal

-- the levels so far, and the tree of the level that is left, are the whole tree
abbrev pub invariant-loop-trees : goal.invariant-loop-trees
invariant-loop-trees l =
    let rest = plain_net_drivers l.level.items in
    let whole = plain_net_drivers l.fn.leaves.drivers.items in
    let target = plain_net_target l.target in
    record {
      all : IfWhole l.trees.draft (IsWhole l.initial.trees.draft);
      drivers : IfWhole l.trees.draft (plain_net_drivers l.trees.draft.drivers.items ++ tree target l.trees.next rest ≡ plain_net_drivers l.initial.trees.draft.drivers.items ++ tree target l.initial.trees.next whole);
      widths : IfWhole l.trees.draft (l.trees.widths.items ++ pair_widths l.width (pairs (length rest)) ≡ l.initial.trees.widths.items ++ pair_widths l.width (pairs (length whole)));
      next : IfWhole l.trees.draft (behind l.trees.next (pairs (length rest)) ≡ behind l.initial.trees.next (pairs (length whole)));
    }

abbrev pub decreases-loop-trees : goal.decreases-loop-trees
decreases-loop-trees l = length l.level.items
