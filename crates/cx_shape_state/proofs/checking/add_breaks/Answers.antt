use Rattle.std.proofs.Common.{rules, length}
use Rattle.cx_design.specs.PlainDesigns.{plain_design}
use Rattle.cx_design_parts.specs.Breaks.{first_of}
use Rattle.cx_design_parts.specs.Numbered.{counted}
use Rattle.cx_shape_state.specs.StateBreaks.{component_breaks}
use Rattle.cx_design_parts.proofs.Lists.{next_counted}
use Rattle.cx_shape_state.proofs.checking.add_breaks.Goals as goal

pub loop-number-preserved : goal.loop-number-preserved
loop-number-preserved c =
    let d = plain_design c.args.design.now in
    let count = length c.args.design.now.components.items in
    next_counted (component_breaks d) c.loop-number.number count c.loop-number.first c.add_component.new.first (first_of c.args.first.now (counted (component_breaks d) 0 count)) (search rules) c.in_ok-add_component.ensures.value c.loop-number.invariant
