use Rattle.std.proofs.Common.{◌≡◌, drop}
use Rattle.cx_meaning.specs.declared.ports.PortRef.TheVariants as ports
use Rattle.cx_meaning.specs.Active.{same_port}
use Rattle.cx_rules.specs.ShapeRules.{some_target}
use Rattle.cx_design.specs.PlainForms.{plain_assigns}
use Rattle.cx_promote.proofs.starts.drives.Given as goal

-- one that drives the port is among those that are left
abbrev pub invariant-loop-assign : goal.invariant-loop-assign
invariant-loop-assign l =
    some_target (same_port (ports.Cell l.cell l.number)) (plain_assigns (drop l.assign-index l.assigns)) ≡ some_target (same_port (ports.Cell l.cell l.number)) (plain_assigns l.assigns)
