use Rattle.std.proofs.Common.{◌≡◌, drop}
use Rattle.cx_shape_state.specs.StateBreaks.{none_input}
use Rattle.cx_shape_state.proofs.assigns.none_input.Given as goal

-- the ports so far are no signature inputs
abbrev pub invariant-loop-port : goal.invariant-loop-port
invariant-loop-port l = none_input (drop l.port-index l.ports) ≡ none_input l.ports
