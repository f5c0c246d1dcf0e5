use Rattle.std.proofs.Common.{◌≡◌, drop}
use Rattle.cx_rules.specs.Ports.{component_of}
use Rattle.cx_design.specs.PlainForms.{plain_assigns}
use Rattle.cx_design.specs.PlainDesigns.{plain_design}
use Rattle.cx_shape_calls.specs.StaticInvokes.{is_restless}
use Rattle.cx_shape_calls.proofs.invokes.is_restless.Given as goal

-- all sources so far rest
abbrev pub invariant-loop-input : goal.invariant-loop-input
invariant-loop-input l =
    let i = component_of (plain_design l.design) l.number in is_restless i (plain_assigns (drop l.input-index l.inputs)) ≡ is_restless i (plain_assigns l.inputs)
