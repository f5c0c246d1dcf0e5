use Rattle.std.proofs.Common.{◌≡◌, drop, map}
use Rattle.cx_rules.specs.Ports.{component_of}
use Rattle.cx_rules.specs.WidthRules.{first_unequal}
use Rattle.cx_design.specs.PlainDesigns.{plain_design}
use Rattle.cx_design_parts.specs.Items.{plain_pair}
use Rattle.cx_widths.proofs.unequal.first_unequal_pair.Given as goal

-- the first unequal pair is among those that are left
abbrev pub invariant-loop-pair : goal.invariant-loop-pair
invariant-loop-pair l =
    let i = component_of (plain_design l.design) l.number in first_unequal i (map plain_pair (drop l.pair-index l.pairs)) ≡ first_unequal i (map plain_pair l.pairs)
