use Rattle.std.proofs.Common.{◌≡◌, drop, map}
use Rattle.cx_meaning.specs.Calls.{captures_in}
use Rattle.cx_meaning.specs.Instances.{cells_of}
use Rattle.cx_rules.specs.Ports.{component_of}
use Rattle.cx_design.specs.PlainForms.{plain_assign}
use Rattle.cx_design.specs.PlainDesigns.{plain_design}
use Rattle.cx_turns.proofs.calling.drive_enables.Given as goal

-- whether they capture is told by the assignments that are left
abbrev pub invariant-loop-assign : goal.invariant-loop-assign
invariant-loop-assign l =
    let cells = cells_of (component_of (plain_design l.design) l.number) in
    captures_in cells (map plain_assign (drop l.assign-index l.assigns)) ≡ captures_in cells (map plain_assign l.assigns)
