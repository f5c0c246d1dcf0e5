use Rattle.std.proofs.Common.{◌≡◌, refl, sym, ap, ◌∙◌, arith}
use Rattle.cx_design.specs.PlainForms.{form_step, statement_step, plain_component, plain_form, plain_statement}
use Rattle.cx_design.specs.declared.statements.Form.TheFolds.{fold-roll-Form}
use Rattle.cx_meaning.specs.Designs.{PlainForm, PlainStatement, If, StaticIf}
use Rattle.cx_design.specs.declared.statements.Form.TheVariants.{rolls-If, rolls-StaticIf}
use Rattle.cx_design_sizes.specs.Capped.{capped}
use Rattle.cx_rules.specs.Items.{Branch, below_dynamic, visit_parts}
use Rattle.cx_design_sizes.specs.StatementSizes.{context_of, statements_size}
use Rattle.cx_design_sizes.proofs.StepLemmas.{all_size_step, both_size}
use Rattle.cx_design_sizes.proofs.sizes.+statement.Goals as goal

pub all_size-loop-statement-preserved : goal.all_size-loop-statement-preserved
all_size-loop-statement-preserved t c = (
  all_size_step (plain_component c.args.part.now) c.loop-statement.size c.statement_size.result c.saturating_add-size.result (context_of c.args.context) c.args.statements.now
      c.loop-statement.statement-index c.statement-item.result c.loop-statement-test.true c.statement-item.is c.statement_size.ensures c.saturating_add-size.ensures ∙ c.loop-statement.invariant.0,
  omega arith,
)

pub parts_size-returns-in-If : goal.parts_size-returns-in-If
parts_size-returns-in-If t c =
    let form : plain_form c.args.form.now ≡ If c.in-If.test c.in-If.comb (plain_statement c.in-If.yes.value) (plain_statement c.in-If.no.value) =
    ap plain_form c.in-If.is ∙ ap plain_form (sym (rolls-If c.in-If.test c.in-If.comb c.in-If.yes c.in-If.no)) ∙ fold-roll-Form PlainForm PlainStatement form_step statement_step _ in
    both_size (plain_component c.args.part.now) c.statement_size-one.result c.statement_size.result c.saturating_add.result (context_of c.below_dynamic.result) (context_of c.below_dynamic-in-If.result) (below_dynamic (context_of c.args.context)) c.deref.result.now c.deref-in-If.result.now c.in-If.yes.value c.in-If.no.value
    c.below_dynamic.ensures c.below_dynamic-in-If.ensures c.deref.ensures c.deref-in-If.ensures c.statement_size-one.ensures c.statement_size.ensures c.saturating_add.ensures
    ∙ ap (λ x. capped (statements_size (plain_component c.args.part.now) (visit_parts (context_of c.args.context) x))) (sym form)

pub parts_size-returns-in-StaticIf : goal.parts_size-returns-in-StaticIf
parts_size-returns-in-StaticIf t c =
    let form : plain_form c.args.form.now ≡ StaticIf c.in-StaticIf.length c.in-StaticIf.test (plain_statement c.in-StaticIf.yes.value) (plain_statement c.in-StaticIf.no.value) =
    ap plain_form c.in-StaticIf.is ∙ ap plain_form (sym (rolls-StaticIf c.in-StaticIf.length c.in-StaticIf.test c.in-StaticIf.yes c.in-StaticIf.no)) ∙ fold-roll-Form PlainForm PlainStatement form_step statement_step _ in
    both_size (plain_component c.args.part.now) c.statement_size-one-in-StaticIf.result c.statement_size-in-StaticIf.result c.saturating_add-in-StaticIf.result Branch Branch Branch c.deref-in-StaticIf.result.now c.deref-in-StaticIf-2.result.now c.in-StaticIf.yes.value c.in-StaticIf.no.value
    refl refl c.deref-in-StaticIf.ensures c.deref-in-StaticIf-2.ensures c.statement_size-one-in-StaticIf.ensures c.statement_size-in-StaticIf.ensures c.saturating_add-in-StaticIf.ensures
    ∙ ap (λ x. capped (statements_size (plain_component c.args.part.now) (visit_parts (context_of c.args.context) x))) (sym form)
