use Rattle.std.proofs.Common.{rules, ◌<◌, ◌++◌, length, arith}
use Rattle.std.proofs.lemmas.List.{length-map}
use Rattle.cx_meaning.specs.Designs.{component_at}
use Rattle.cx_meaning.specs.Active.{source_order}
use Rattle.cx_design.specs.PlainForms.{plain_component}
use Rattle.cx_design.specs.PlainDesigns.{plain_design}
use Rattle.cx_design_parts.specs.Numbered.{numbered}
use Rattle.cx_rules.specs.Items.{statements_in}
use Rattle.cx_shape_calls.specs.Decisions.{assign_breaks_at, group_breaks_at, component_breaks}
use Rattle.cx_shape_calls.specs.StaticInvokes.{statement_breaks_at}
use Rattle.cx_shape_calls.proofs.BreakLemmas.{are_shapes, both_kinds, first_more}
use Rattle.cx_shape_calls.proofs.StatementLemmas.{are_invokes}
use Rattle.cx_shape_calls.proofs.checking.add_component.Goals as goal

pub returns : goal.returns
returns c =
    let d = plain_design c.args.design.now in
    let k = c.args.number in
    let shapes = c.in_ok-shapes.shapes.items in
    let marks = c.in_ok-marks.marks.items in
    let within : k < length d.components = omega (arith, c.requires.within, length-map c.args.design.now.components.items plain_component) in
    let assigns = numbered (assign_breaks_at d k shapes) 0 (source_order (component_at d k)) in
    let groups = numbered (group_breaks_at k shapes) 0 (component_at d k).groups in
    let statements = numbered (statement_breaks_at d k marks) 0 (statements_in (component_at d k)) in
    record {
      value = (
        component_breaks d k shapes ++ statements,
        both_kinds d k (component_breaks d k shapes) statements (are_shapes d k within shapes c.in_ok-shapes.ensures.value) (are_invokes d k within marks c.in_ok-marks.ensures.marks),
        first_more c.args.first.now c.add_groups.new.first c.add_statements.new.first (component_breaks d k shapes) statements
            (first_more c.args.first.now c.add_assigns.new.first c.add_groups.new.first assigns groups (search rules) (search rules)) (search rules),
      );
    }
