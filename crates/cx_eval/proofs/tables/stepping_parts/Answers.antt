use Rattle.std.proofs.Common.{rules, ◌≡◌, length, sym, ◌∙◌, subst}
use Rattle.std.proofs.lemmas.List.{length-map}
use Rattle.cx_design.specs.PlainDesigns.{plain_design}
use Rattle.cx_design.specs.PlainForms.{plain_component}
use Rattle.cx_eval_cycle.specs.Stepping.{AreSteppingCells}
use Rattle.cx_eval.proofs.MakingLemmas.{all_parts, cells_are, few_cells, parts_more}
use Rattle.cx_eval.proofs.tables.stepping_parts.Goals as goal

pub new-requires : goal.new-requires
new-requires c = record {
  numbered = few_cells (plain_design c.args.design.now) c.loop-number.number c.component.result.now c.component.ensures.value c.as_slice-cells.result.now c.as_slice-cells.ensures.value c.requires.design;
}

pub loop-number-preserved : goal.loop-number-preserved
loop-number-preserved c =
    let d = plain_design c.args.design.now in
    let n = c.loop-number.number in
    let part = c.in_ok-new.field-0 in
    parts_more d n c.loop-number.parts.items c.push.new.self.items part c.loop-number.invariant c.in_ok-push.ensures.items
    (subst (λ cells. AreSteppingCells cells part) (cells_are d n c.component.result.now c.component.ensures.value c.as_slice-cells.result.now c.as_slice-cells.ensures.value) c.in_ok-new.ensures.value)

pub returns : goal.returns
returns c =
    let components = c.args.design.now.components.items in
    let all : c.loop-number.number ≡ length components = search rules in
    record { value = all_parts (plain_design c.args.design.now) c.loop-number.number c.loop-number.parts.items c.loop-number.invariant (all ∙ sym (length-map components plain_component)) }
