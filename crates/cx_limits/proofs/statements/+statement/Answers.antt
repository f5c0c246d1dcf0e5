use Rattle.std.proofs.Common.{◌≡◌, refl, sym, ap, ◌∙◌}
use Rattle.cx_design.specs.PlainForms.{form_step, statement_step, plain_component, plain_form, plain_statement}
use Rattle.cx_meaning.specs.Designs.{PlainForm, PlainStatement, If, StaticIf}
use Rattle.cx_design.specs.declared.statements.Form.TheFolds.{fold-roll-Form}
use Rattle.cx_design.specs.declared.statements.Form.TheVariants.{rolls-If, rolls-StaticIf}
use Rattle.cx_rules.specs.Items.{Branch, below_dynamic, visit_parts}
use Rattle.cx_design_sizes.specs.StatementSizes.{context_of}
use Rattle.cx_limits.specs.Rows.{plain_inners}
use Rattle.cx_limits.specs.Scan.{past_statements}
use Rattle.cx_limits.proofs.ScanLemmas.{past_all_step, both_past}
use Rattle.cx_limits.proofs.statements.+statement.Goals as goal

pub past_all-loop-statement-preserved : goal.past_all-loop-statement-preserved
past_all-loop-statement-preserved t c =
    past_all_step (plain_component c.args.part.now) (plain_inners c.args.below.now) c.loop-statement.best c.past-best.result (context_of c.args.context) c.args.statements.now
    c.loop-statement.statement-index c.statement-item.result c.loop-statement-test.true c.statement-item.is c.past-best.ensures ∙ c.loop-statement.invariant

pub past_parts-returns-in-If : goal.past_parts-returns-in-If
past_parts-returns-in-If t c =
    let form : plain_form c.args.form.now ≡ If c.in-If.test c.in-If.comb (plain_statement c.in-If.yes.value) (plain_statement c.in-If.no.value) =
    ap plain_form c.in-If.is ∙ ap plain_form (sym (rolls-If c.in-If.test c.in-If.comb c.in-If.yes c.in-If.no)) ∙ fold-roll-Form PlainForm PlainStatement form_step statement_step _ in
    both_past (plain_component c.args.part.now) (plain_inners c.args.below.now) c.args.best c.past-best.result c.past.result (context_of c.below_dynamic.result) (context_of c.below_dynamic-in-If.result) (below_dynamic (context_of c.args.context)) c.deref.result.now c.deref-in-If.result.now c.in-If.yes.value c.in-If.no.value
    c.below_dynamic.ensures c.below_dynamic-in-If.ensures c.deref.ensures c.deref-in-If.ensures c.past-best.ensures c.past.ensures
    ∙ ap (λ x. past_statements (plain_component c.args.part.now) (plain_inners c.args.below.now) c.args.best (visit_parts (context_of c.args.context) x)) (sym form)

pub past_parts-returns-in-StaticIf : goal.past_parts-returns-in-StaticIf
past_parts-returns-in-StaticIf t c =
    let form : plain_form c.args.form.now ≡ StaticIf c.in-StaticIf.length c.in-StaticIf.test (plain_statement c.in-StaticIf.yes.value) (plain_statement c.in-StaticIf.no.value) =
    ap plain_form c.in-StaticIf.is ∙ ap plain_form (sym (rolls-StaticIf c.in-StaticIf.length c.in-StaticIf.test c.in-StaticIf.yes c.in-StaticIf.no)) ∙ fold-roll-Form PlainForm PlainStatement form_step statement_step _ in
    both_past (plain_component c.args.part.now) (plain_inners c.args.below.now) c.args.best c.past-best-in-StaticIf.result c.past-in-StaticIf.result Branch Branch Branch c.deref-in-StaticIf.result.now c.deref-in-StaticIf-2.result.now c.in-StaticIf.yes.value c.in-StaticIf.no.value
    refl refl c.deref-in-StaticIf.ensures c.deref-in-StaticIf-2.ensures c.past-best-in-StaticIf.ensures c.past-in-StaticIf.ensures
    ∙ ap (λ x. past_statements (plain_component c.args.part.now) (plain_inners c.args.below.now) c.args.best (visit_parts (context_of c.args.context) x)) (sym form)
