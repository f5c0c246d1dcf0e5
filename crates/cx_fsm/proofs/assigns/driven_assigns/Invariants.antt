use Rattle.std.proofs.Common.{◌≡◌, ◌++◌, drop, filter, map}
use Rattle.cx_design_parts.specs.Plain.{plain_owned}
use Rattle.cx_static.specs.PlainLowered.{plain_lowered}
use Rattle.cx_wiring.specs.Assignments.{is_driven}
use Rattle.cx_fsm.proofs.assigns.driven_assigns.Given as goal

-- those so far, and those of the assignments that are left, are all
abbrev pub invariant-loop-owned : goal.invariant-loop-owned
invariant-loop-owned l =
    map plain_owned l.list.items ++ filter (is_driven (plain_lowered l.component)) (map plain_owned (drop l.owned-index l.owned-items))
    ≡ filter (is_driven (plain_lowered l.component)) (map plain_owned l.owned-items)
