use Rattle.std.proofs.Common.{◌≡◌, drop}
use Rattle.cx_rules.specs.Ports.{component_of}
use Rattle.cx_rules.specs.WidthRules.{first_wide}
use Rattle.cx_design.specs.PlainDesigns.{plain_design}
use Rattle.cx_widths.proofs.unequal.first_wide.Given as goal

-- the first wide port is among those that are left
abbrev pub invariant-loop-port : goal.invariant-loop-port
invariant-loop-port l = let i = component_of (plain_design l.design) l.number in first_wide i (drop l.port-index l.ports) ≡ first_wide i l.ports
