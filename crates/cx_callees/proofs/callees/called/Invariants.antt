use Rattle.std.proofs.Common.{◌≡◌, ◌++◌, None, drop, map}
use Rattle.cx_rules.specs.Ports.{component_of}
use Rattle.cx_design.specs.PlainForms.{plain_assign}
use Rattle.cx_design.specs.PlainDesigns.{plain_design}
use Rattle.cx_callees.specs.Callees.{plain_callee, callees_of, apart}
use Rattle.cx_callees.proofs.callees.called.Given as goal

-- what is found so far, with the assignments that are left, is all
abbrev pub invariant-loop-assign : goal.invariant-loop-assign
invariant-loop-assign l =
    let i = component_of (plain_design l.design) l.number in
    map plain_callee l.list.items ++ apart l.last (callees_of i (map plain_assign (drop l.assign-index l.assigns))) ≡ apart None (callees_of i (map plain_assign l.assigns))
