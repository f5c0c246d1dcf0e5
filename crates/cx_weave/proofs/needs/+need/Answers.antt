use Rattle.std.proofs.Common.{rules, ◌≡◌, ◌+◌, List, length, sym, ap, ◌∙◌, subst, arith}
use Rattle.cx_meaning.specs.Designs.{PlainForm, PlainStatement, Placed, Enable, Seq, Par, If, While, Repeat, list_of}
use Rattle.cx_meaning.specs.Instances.{instance_at, tree_of}
use Rattle.cx_design.specs.PlainForms.{plain_form, plain_statement, plain_statements, form_step, statement_step}
use Rattle.cx_design.specs.declared.statements.Form.TheFolds.{fold-roll-Form, fold-roll-Statement}
use Rattle.cx_design.specs.declared.statements.Form.TheVariants as forms
use Rattle.cx_design.specs.declared.statements.Statement.{Statement}
use Rattle.cx_turns.specs.Machines.{design_of, FormStands, StandsIn}
use Rattle.cx_turns.proofs.PartLemmas.{part_stands, part_falls, yes_stands, no_stands}
use Rattle.cx_turns.proofs.Measures.{form_steps, steps}
use Rattle.cx_turns.proofs.StandLemmas.{enabled_group}
use Rattle.cx_weave.specs.Rows.{Covers}
use Rattle.cx_weave.specs.Takes as takes
use Rattle.cx_weave.specs.Takes.{all_needs, need, needs}
use Rattle.cx_weave.proofs.NeedSteps.{all_next, list_length, most_next, of_form}
use Rattle.cx_weave.proofs.needs.+need.Goals as goal

pub statement_need-form_need-requires : goal.statement_need-form_need-requires
statement_need-form_need-requires t c =
    let whole : plain_statement c.args.statement.now ≡ Placed (plain_form c.args.statement.now.form) c.args.statement.now.place = fold-roll-Statement PlainForm PlainStatement form_step statement_step _ in
    let falls : steps (plain_statement c.args.statement.now) ≡ 1 + form_steps (plain_form c.args.statement.now.form) = ap steps whole in (
      omega (arith, c.decreases, falls),
      (c.requires.plan, (c.requires.instance, (c.requires.table, (c.requires.known, (c.args.statement.now.place, subst (λ s. StandsIn (design_of c.args.plan.now) c.args.instance s) whole c.requires.statement))))),
    )

pub form_need-enable_need-requires-clause-group : goal.form_need-enable_need-requires-clause-group
form_need-enable_need-requires-clause-group t c =
    let whole : plain_form c.args.form.now ≡ Enable c.in-Enable.group = ap plain_form c.in-Enable.is ∙ ap plain_form (sym (forms.rolls-Enable c.in-Enable.group)) ∙ fold-roll-Form PlainForm PlainStatement form_step statement_step _ in
    enabled_group (design_of c.args.plan.now) c.requires.plan.accepted c.requires.plan.design c.args.plan.now.table.rows.items c.args.plan.now.table.children.items c.requires.plan.table c.args.instance c.in-Enable.group
    (subst (λ f. FormStands (design_of c.args.plan.now) c.args.instance f) whole c.requires.form)

pub form_need-statement_need-one-requires : goal.form_need-statement_need-one-requires
form_need-statement_need-one-requires t c =
    let d = design_of c.args.plan.now in
    let whole : plain_form c.args.form.now ≡ If c.in-If.test c.in-If.comb (plain_statement c.in-If.yes.value) (plain_statement c.in-If.no.value) =
    ap plain_form c.in-If.is ∙ ap plain_form (sym (forms.rolls-If c.in-If.test c.in-If.comb c.in-If.yes c.in-If.no)) ∙ fold-roll-Form PlainForm PlainStatement form_step statement_step _ in
    let falls : form_steps (plain_form c.args.form.now) ≡ 1 + (steps (plain_statement c.in-If.yes.value) + steps (plain_statement c.in-If.no.value)) = ap form_steps whole in
    let same : c.deref-in-If.result.now ≡ c.in-If.yes.value = search rules in
    let size : steps (plain_statement c.deref-in-If.result.now) ≡ steps (plain_statement c.in-If.yes.value) = ap (λ (x : Statement). steps (plain_statement x)) same in
    let stands = yes_stands d c.args.instance c.in-If.test c.in-If.comb (plain_statement c.in-If.yes.value) (plain_statement c.in-If.no.value) (subst (λ f. FormStands d c.args.instance f) whole c.requires.form) in (
      omega (arith, c.decreases, falls, size),
      (c.requires.plan, (c.requires.instance, (c.requires.table, (c.requires.known, subst (λ (x : Statement). StandsIn d c.args.instance (plain_statement x)) (sym same) stands)))),
    )

pub form_need-statement_need-other-requires : goal.form_need-statement_need-other-requires
form_need-statement_need-other-requires t c =
    let d = design_of c.args.plan.now in
    let whole : plain_form c.args.form.now ≡ If c.in-If.test c.in-If.comb (plain_statement c.in-If.yes.value) (plain_statement c.in-If.no.value) =
    ap plain_form c.in-If.is ∙ ap plain_form (sym (forms.rolls-If c.in-If.test c.in-If.comb c.in-If.yes c.in-If.no)) ∙ fold-roll-Form PlainForm PlainStatement form_step statement_step _ in
    let falls : form_steps (plain_form c.args.form.now) ≡ 1 + (steps (plain_statement c.in-If.yes.value) + steps (plain_statement c.in-If.no.value)) = ap form_steps whole in
    let same : c.deref-in-If-2.result.now ≡ c.in-If.no.value = search rules in
    let size : steps (plain_statement c.deref-in-If-2.result.now) ≡ steps (plain_statement c.in-If.no.value) = ap (λ (x : Statement). steps (plain_statement x)) same in
    let stands = no_stands d c.args.instance c.in-If.test c.in-If.comb (plain_statement c.in-If.yes.value) (plain_statement c.in-If.no.value) (subst (λ f. FormStands d c.args.instance f) whole c.requires.form) in (
      omega (arith, c.decreases, falls, size),
      (c.requires.plan, (c.requires.instance, (c.requires.table, (c.requires.known, subst (λ (x : Statement). StandsIn d c.args.instance (plain_statement x)) (sym same) stands)))),
    )

pub most_need-statement_need-requires : goal.most_need-statement_need-requires
most_need-statement_need-requires t c = (
  omega (arith, c.decreases, part_falls c.args.parts.now c.loop-part.part-index c.part-item.result (omega arith) c.part-item.is),
  (
    c.requires.plan,
    (c.requires.instance, (c.requires.table, (c.requires.known, part_stands (design_of c.args.plan.now) c.args.instance c.args.parts.now c.loop-part.part-index c.part-item.result (omega arith) c.part-item.is c.requires.parts))),
  ),
)

pub all_need-statement_need-requires : goal.all_need-statement_need-requires
all_need-statement_need-requires t c = (
  omega (arith, c.decreases, part_falls c.args.arms.now c.loop-arm.arm-index c.arm-item.result (omega arith) c.arm-item.is),
  (
    c.requires.plan,
    (c.requires.instance, (c.requires.table, (c.requires.known, part_stands (design_of c.args.plan.now) c.args.instance c.args.arms.now c.loop-arm.arm-index c.arm-item.result (omega arith) c.arm-item.is c.requires.arms))),
  ),
)

pub most_need-loop-part-preserved : goal.most_need-loop-part-preserved
most_need-loop-part-preserved t c path number =
    let i = instance_at (tree_of (design_of c.args.plan.now)) path in
    most_next c.args.piece i c.args.parts.now c.loop-part.part-index c.loop-part.most c.statement_need.result c.most_of-most.result c.part-item.result (omega arith) c.part-item.is (c.loop-part.invariant path number) (c.statement_need.ensures path number)
    c.most_of-most.ensures

pub all_need-loop-arm-preserved : goal.all_need-loop-arm-preserved
all_need-loop-arm-preserved t c path number =
    let i = instance_at (tree_of (design_of c.args.plan.now)) path in
    all_next c.args.piece i c.args.arms.now c.loop-arm.arm-index c.loop-arm.all c.statement_need.result c.sum_of-all.result c.arm-item.result (omega arith) c.arm-item.is (c.loop-arm.invariant path number) (c.statement_need.ensures path number)
    c.sum_of-all.ensures

pub form_need-returns-in-Par : goal.form_need-returns-in-Par
form_need-returns-in-Par t c path number =
    let i = instance_at (tree_of (design_of c.args.plan.now)) path in
    let arms = c.in-Par.arms.items in
    let whole : plain_form c.args.form.now ≡ Par (plain_statements arms) = ap plain_form c.in-Par.is ∙ ap plain_form (sym (forms.rolls-Par c.in-Par.arms)) ∙ fold-roll-Form PlainForm PlainStatement form_step statement_step _ in
    let count : c.len.result ≡ length arms = search rules in
    let long : length arms ≡ length (list_of (plain_statements arms)) = sym (list_length arms) in
    let boxes : Covers c.par_takes.result (takes.par_takes c.args.piece (length (list_of (plain_statements arms)))) = subst (λ m. Covers c.par_takes.result (takes.par_takes c.args.piece m)) (count ∙ long) c.par_takes.ensures in
    let all : Covers c.all_need-all.result (all_needs c.args.piece i (plain_statements arms)) = subst (λ (xs : List Statement). Covers c.all_need-all.result (all_needs c.args.piece i (plain_statements xs))) c.deref-in-Par.ensures.value (c.all_need-all.ensures path number) in
    of_form c.args.piece i c.sum_of.result (plain_form c.args.form.now) (Par (plain_statements arms)) whole
    (c.sum_of.ensures (takes.par_takes c.args.piece (length (list_of (plain_statements arms)))) (all_needs c.args.piece i (plain_statements arms)) boxes all)

pub form_need-returns-in-Seq : goal.form_need-returns-in-Seq
form_need-returns-in-Seq t c path number =
    let i = instance_at (tree_of (design_of c.args.plan.now)) path in
    let parts = c.in-Seq.parts.items in
    let whole : plain_form c.args.form.now ≡ Seq (plain_statements parts) = ap plain_form c.in-Seq.is ∙ ap plain_form (sym (forms.rolls-Seq c.in-Seq.parts)) ∙ fold-roll-Form PlainForm PlainStatement form_step statement_step _ in
    let most : Covers c.most_need-most.result (needs c.args.piece i (plain_statements parts)) = subst (λ (xs : List Statement). Covers c.most_need-most.result (needs c.args.piece i (plain_statements xs))) c.deref.ensures.value (c.most_need-most.ensures path number) in
    of_form c.args.piece i c.around.result (plain_form c.args.form.now) (Seq (plain_statements parts)) whole (c.around.ensures (needs c.args.piece i (plain_statements parts)) most)

pub form_need-returns-in-While : goal.form_need-returns-in-While
form_need-returns-in-While t c path number =
    let i = instance_at (tree_of (design_of c.args.plan.now)) path in
    let body = c.in-While.body.value in
    let whole : plain_form c.args.form.now ≡ While c.in-While.test c.in-While.comb (plain_statement body) =
    ap plain_form c.in-While.is ∙ ap plain_form (sym (forms.rolls-While c.in-While.test c.in-While.comb c.in-While.body)) ∙ fold-roll-Form PlainForm PlainStatement form_step statement_step _ in
    let same : c.deref-in-While.result.now ≡ body = search rules in
    let inner : Covers c.statement_need-inner.result (need c.args.piece i (plain_statement body)) = subst (λ (x : Statement). Covers c.statement_need-inner.result (need c.args.piece i (plain_statement x))) same (c.statement_need-inner.ensures path number) in
    of_form c.args.piece i c.around-in-While.result (plain_form c.args.form.now) (While c.in-While.test c.in-While.comb (plain_statement body)) whole (c.around-in-While.ensures (need c.args.piece i (plain_statement body)) inner)

pub form_need-returns-in-Repeat : goal.form_need-returns-in-Repeat
form_need-returns-in-Repeat t c path number =
    let i = instance_at (tree_of (design_of c.args.plan.now)) path in
    let body = c.in-Repeat.body.value in
    let whole : plain_form c.args.form.now ≡ Repeat c.in-Repeat.count (plain_statement body) =
    ap plain_form c.in-Repeat.is ∙ ap plain_form (sym (forms.rolls-Repeat c.in-Repeat.count c.in-Repeat.body)) ∙ fold-roll-Form PlainForm PlainStatement form_step statement_step _ in
    let same : c.deref-in-Repeat.result.now ≡ body = search rules in
    let inner : Covers c.statement_need-inner-in-Repeat.result (need c.args.piece i (plain_statement body)) = subst (λ (x : Statement). Covers c.statement_need-inner-in-Repeat.result (need c.args.piece i (plain_statement x))) same (c.statement_need-inner-in-Repeat.ensures path number) in
    of_form c.args.piece i c.around-in-Repeat.result (plain_form c.args.form.now) (Repeat c.in-Repeat.count (plain_statement body)) whole (c.around-in-Repeat.ensures (need c.args.piece i (plain_statement body)) inner)
