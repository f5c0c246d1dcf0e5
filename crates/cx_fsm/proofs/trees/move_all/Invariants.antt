use Rattle.std.proofs.Common.{drop}
use Rattle.cx_net.specs.PlainNets.{plain_net_drivers, plain_net_target}
use Rattle.cx_wiring.specs.Trees.{moved}
use Rattle.cx_fsm.specs.Drafts.{AddsRest}
use Rattle.cx_fsm.proofs.trees.move_all.Given as goal

-- the drivers so far, and those of the bundle that are left, are all
abbrev pub invariant-loop-driver : goal.invariant-loop-driver
invariant-loop-driver l =
    AddsRest l.initial.draft l.draft
    (moved (plain_net_target l.target) (plain_net_drivers (drop l.driver-index l.bundle)))
    (moved (plain_net_target l.target) (plain_net_drivers l.bundle))
