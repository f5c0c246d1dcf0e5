use Rattle.std.proofs.Common.{rules, length}
use Rattle.cx_design.specs.PlainDesigns.{plain_design}
use Rattle.cx_design_parts.specs.Breaks.{first_of}
use Rattle.cx_design_parts.specs.Numbered.{counted}
use Rattle.cx_shape_rules.specs.ShapeBreaks.{component_breaks}
use Rattle.cx_shape_rules.proofs.ShapeLemmas.{next_component}
use Rattle.cx_shape_rules.proofs.checking.add_breaks.Goals as goal

pub loop-number-preserved : goal.loop-number-preserved
loop-number-preserved c =
    let d = plain_design c.args.design.now in
    let count = length c.args.design.now.components.items in
    next_component d c.loop-number.number count c.loop-number.first c.add_groups.new.first c.add_assigns.new.first c.add_statements.new.first c.add_control.new.first (first_of c.args.first.now (counted (component_breaks d) 0 count))
    (search rules) c.in_ok-add_groups.ensures.value c.in_ok-add_assigns.ensures.value c.in_ok-add_statements.ensures.value c.in_ok-add_control.ensures.value c.loop-number.invariant
