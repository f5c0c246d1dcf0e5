use Rattle.std.proofs.Common.{◌≡◌, drop}
use Rattle.cx_rules.specs.Ports.{component_of}
use Rattle.cx_design.specs.PlainDesigns.{plain_design}
use Rattle.cx_shape_state.specs.StateBreaks.{all_rest}
use Rattle.cx_shape_state.proofs.assigns.ports_rest.Given as goal

-- the ports so far rest
abbrev pub invariant-loop-port : goal.invariant-loop-port
invariant-loop-port l =
    let i = component_of (plain_design l.design) l.number in all_rest i l.inputs (drop l.port-index l.ports) ≡ all_rest i l.inputs l.ports
