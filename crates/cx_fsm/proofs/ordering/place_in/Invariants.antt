use Rattle.std.proofs.Common.{◌≡◌, drop}
use Rattle.cx_wiring.specs.Reached.{place_in}
use Rattle.cx_fsm.proofs.OrderingLemmas.{place_from}
use Rattle.cx_fsm.proofs.ordering.place_in.Given as goal

-- it is not among those so far
abbrev pub invariant-loop-place : goal.invariant-loop-place
invariant-loop-place l =
    place_from l.component l.place (drop l.place l.order) ≡ place_in l.component l.order
