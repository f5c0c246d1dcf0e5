use Rattle.std.proofs.Common.{◌≡◌, [], drop, map}
use Rattle.cx_design.specs.PlainForms.{plain_assign, plain_component}
use Rattle.cx_shape_calls.specs.Forms.{registers_in}
use Rattle.cx_shape_calls.proofs.captures.captured.Given as goal

-- the registers so far, with those of the assignments that are left, are all
abbrev pub invariant-loop-assign : goal.invariant-loop-assign
invariant-loop-assign l =
    let part = plain_component l.component in registers_in part l.found.keys (map plain_assign (drop l.assign-index l.assigns)) ≡ registers_in part [] (map plain_assign l.assigns)
