use Rattle.std.proofs.Common.{◌≡◌, ◌++◌, drop}
use Rattle.cx_design.specs.PlainForms.{plain_assigns}
use Rattle.cx_profile.specs.Growing as growing
use Rattle.cx_profile.proofs.outputs.with_output_assigns.Given as goal

-- the assignments so far, and those for the ports that are left, are all
abbrev pub invariant-loop-port : goal.invariant-loop-port
invariant-loop-port l = plain_assigns l.all.items ++ growing.port_assigns l.place l.output (drop l.port-index l.ports) ≡ plain_assigns l.fn.always.items ++ growing.port_assigns l.place l.first l.ports
