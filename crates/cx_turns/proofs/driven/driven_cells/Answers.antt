use Rattle.std.proofs.Common.{◌≡◌, ◌||◌, ℕ, true, false, [], ◌∷◌, ◌≤◌, length, sym, ap, ◌∙◌, arith}
use Rattle.std.specs.Prelude.{vec_capacity}
use Rattle.cx_meaning.specs.Control.{form_drives, group_drives}
use Rattle.cx_meaning.specs.Instances.{part_of, instance_at, tree_of}
use Rattle.cx_design.specs.declared.statements.Form.TheFolds.{fold-roll-Form}
use Rattle.cx_design.specs.declared.statements.Form.TheVariants as forms
use Rattle.cx_design.specs.PlainForms.{form_step, statement_step, plain_form}
use Rattle.cx_meaning.specs.Designs.{PlainForm, PlainStatement, Enable}
use Rattle.cx_text.proofs.BoolLaws.{or_false}
use Rattle.cx_turns.specs.Machines.{design_of}
use Rattle.cx_turns.proofs.driven.driven_cells.Goals as goal

pub list_group-requires : goal.list_group-requires
list_group-requires c = record {
  plan = c.requires.plan;
  instance = c.requires.instance;
  group = c.is_group.ensures.group c.if-is_group.true;
  room = λ path number. (let marks = c.requires.marks path number in let room = c.requires.room in omega (arith, marks, room));
}

pub returns-then-is_group-clause-driven : goal.returns-then-is_group-clause-driven
returns-then-is_group-clause-driven c path k number =
    let part = part_of (instance_at (tree_of (design_of c.args.plan.now)) path) in
    let whole : plain_form c.args.form.now ≡ Enable c.in-Enable.group = ap plain_form c.in-Enable.is ∙ ap plain_form (sym (forms.rolls-Enable c.in-Enable.group)) ∙ fold-roll-Form PlainForm PlainStatement form_step statement_step _ in
    c.list_group.ensures.driven path k number ∙ sym (or_false (group_drives part c.in-Enable.group k)) ∙ sym (ap (λ f. form_drives part f k) whole)
