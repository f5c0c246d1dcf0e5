use Rattle.std.proofs.Common.{◌≡◌, drop, flat_map}
use Rattle.cx_rules.specs.Ports.{component_of}
use Rattle.cx_design.specs.PlainDesigns.{plain_design}
use Rattle.cx_design_parts.specs.Breaks.{first_of, plain_spot}
use Rattle.cx_widths.specs.WidthBreaks.{operand_breaks}
use Rattle.cx_widths.proofs.assigns.add_operands.Given as goal

-- the first so far, with the operands that are left, is the first of all
abbrev pub invariant-loop-operand : goal.invariant-loop-operand
invariant-loop-operand l =
    let f = operand_breaks (component_of (plain_design l.design) l.spot.component) (plain_spot l.spot) in
    first_of l.first (flat_map f (drop l.operand-index l.operands)) ≡ first_of l.initial.first (flat_map f l.operands)
