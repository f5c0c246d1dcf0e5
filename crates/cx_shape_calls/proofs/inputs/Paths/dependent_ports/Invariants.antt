use Rattle.std.proofs.Common.{ℕ, map, take}
use Rattle.cx_rules.specs.Ports.{component_of}
use Rattle.cx_design.specs.PlainForms.{plain_assign}
use Rattle.cx_design.specs.PlainDesigns.{plain_design}
use Rattle.cx_shape_calls.specs.Inputs.{AreDependentPorts, HasPaths}
use Rattle.cx_shape_calls.proofs.inputs.Paths.dependent_ports.Given as goal

-- the targets so far
abbrev pub invariant-loop-assign : goal.invariant-loop-assign
invariant-loop-assign l =
    let i = component_of (plain_design l.design) l.number in
    record {
      kept : (g : ℕ) → HasPaths i g l.initial.self → HasPaths i g l.self;
      so_far : (g : ℕ) → HasPaths i g l.initial.self → AreDependentPorts i g (map plain_assign (take l.assign-index l.assigns)) l.ports.items;
    }
