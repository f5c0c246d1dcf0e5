use Rattle.std.proofs.Common.{◌≡◌, ◌+◌, drop, map}
use Rattle.cx_design_parts.specs.Plain.{plain_owned}
use Rattle.cx_wiring.specs.Assignments as wired
use Rattle.cx_fsm.specs.Drafts.{AddsRest, IfWhole}
use Rattle.cx_fsm.proofs.assigns.assigns_drivers.Given as goal

-- the drivers so far, and those of the assignments that are left, are all
abbrev pub invariant-loop-owned : goal.invariant-loop-owned
invariant-loop-owned l =
    let rest = map plain_owned (drop l.owned-index l.assigns) in
    let whole = map plain_owned l.assigns in
    record {
      wires : IfWhole l.draft (l.wire + wired.assigns_wires rest ≡ l.first + wired.assigns_wires whole);
      driven : AddsRest l.initial.draft l.draft (wired.assigns_drivers l.groups l.wire rest) (wired.assigns_drivers l.groups l.first whole);
    }
