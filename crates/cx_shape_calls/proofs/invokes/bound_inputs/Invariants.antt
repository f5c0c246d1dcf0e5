use Rattle.std.proofs.Common.{take}
use Rattle.cx_design.specs.PlainForms.{plain_assigns}
use Rattle.cx_shape_calls.specs.StaticInvokes.{AreBound}
use Rattle.cx_shape_calls.proofs.invokes.bound_inputs.Given as goal

-- by the assignments so far
abbrev pub invariant-loop-input : goal.invariant-loop-input
invariant-loop-input l = AreBound l.cell (plain_assigns (take l.input-index l.inputs)) l.count l.marks.items
