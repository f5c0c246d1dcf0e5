use Rattle.std.proofs.Common.{◌≡◌, drop}
use Rattle.cx_design.specs.PlainForms.{plain_assigns}
use Rattle.cx_flattening.specs.Events.{source_in}
use Rattle.cx_flat.proofs.ports.bound.Given as goal

-- what is bound by the inputs that are left is what is bound
abbrev pub invariant-loop-input : goal.invariant-loop-input
invariant-loop-input l = source_in 0 (plain_assigns (drop l.input-index l.inputs)) l.port ≡ source_in 0 (plain_assigns l.inputs) l.port
