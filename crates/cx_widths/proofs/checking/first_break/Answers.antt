use Rattle.std.proofs.Common.{rules, None, length}
use Rattle.cx_design.specs.PlainDesigns.{plain_design}
use Rattle.cx_design_parts.specs.Breaks.{first_of}
use Rattle.cx_design_parts.specs.Numbered.{counted}
use Rattle.cx_widths.specs.WidthBreaks.{component_breaks}
use Rattle.cx_widths.proofs.WidthLemmas.{next_component}
use Rattle.cx_widths.proofs.checking.first_break.Goals as goal

pub loop-number-preserved : goal.loop-number-preserved
loop-number-preserved c =
    let d = plain_design c.args.design.now in
    next_component d c.loop-number.number (length c.args.design.now.components.items) c.loop-number.first c.add_assigns.new.first c.add_conditions.new.first c.add_binds.new.first (first_of None (counted (component_breaks d) 0 (length c.args.design.now.components.items)))
    (search rules) c.in_ok-add_assigns.ensures.value c.in_ok-add_conditions.ensures.value c.in_ok-add_binds.ensures.value c.loop-number.invariant
