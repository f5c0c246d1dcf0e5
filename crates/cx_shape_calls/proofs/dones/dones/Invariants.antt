use Rattle.std.proofs.Common.{◌≡◌, ◌++◌, drop, map}
use Rattle.cx_meaning.specs.declared.ports.PortRef.TheVariants as ports
use Rattle.cx_rules.specs.CallShape.{with_target}
use Rattle.cx_design.specs.PlainForms.{plain_assign}
use Rattle.cx_shape_calls.proofs.dones.dones.Given as goal

-- what is found so far, with what is left, is all
abbrev pub invariant-loop-assign : goal.invariant-loop-assign
invariant-loop-assign l =
    map (λ a. plain_assign a.now) l.list.items ++ with_target (ports.Done l.group) (map plain_assign (drop l.assign-index l.assigns)) ≡ with_target (ports.Done l.group) (map plain_assign l.assigns)
