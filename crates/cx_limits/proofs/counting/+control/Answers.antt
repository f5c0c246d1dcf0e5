use Rattle.std.proofs.Common.{◌≡◌, refl, sym, ap, ◌∙◌, subst}
use Rattle.cx_meaning.specs.Designs.{PlainForm, PlainStatement, If, StaticIf}
use Rattle.cx_rules.specs.Items.{Branch, below_dynamic, visit_parts}
use Rattle.cx_design.specs.PlainForms.{form_step, statement_step, plain_component, plain_form, plain_statement}
use Rattle.cx_design.specs.declared.statements.Form.TheFolds.{fold-roll-Form}
use Rattle.cx_design.specs.declared.statements.Form.TheVariants.{rolls-If, rolls-StaticIf}
use Rattle.cx_design_sizes.specs.StatementSizes.{context_of}
use Rattle.cx_limits.specs.Rows.{IsCounted, plain_inners}
use Rattle.cx_limits.proofs.CountingLemmas.{counted_both, counted_step}
use Rattle.cx_limits.proofs.counting.+control.Goals as goal

pub all_counts-loop-statement-preserved : goal.all_counts-loop-statement-preserved
all_counts-loop-statement-preserved t c =
    counted_step (plain_component c.args.part.now) (plain_inners c.args.below.now) (context_of c.args.context) c.args.statements.now c.loop-statement.statement-index c.statement-item.result
    c.loop-statement.counts c.statement_counts.result c.together-counts.result c.loop-statement-test.true c.statement-item.is c.loop-statement.invariant c.statement_counts.ensures
    c.together-counts.ensures.statements c.together-counts.ensures.occurrences

pub parts_counts-returns-in-If : goal.parts_counts-returns-in-If
parts_counts-returns-in-If t c =
    let form : plain_form c.args.form.now ≡ If c.in-If.test c.in-If.comb (plain_statement c.in-If.yes.value) (plain_statement c.in-If.no.value) =
    ap plain_form c.in-If.is ∙ ap plain_form (sym (rolls-If c.in-If.test c.in-If.comb c.in-If.yes c.in-If.no)) ∙ fold-roll-Form PlainForm PlainStatement form_step statement_step _ in
    subst (λ x. IsCounted (plain_component c.args.part.now) (plain_inners c.args.below.now) (visit_parts (context_of c.args.context) x) c.together.result) (sym form)
    (counted_both (plain_component c.args.part.now) (plain_inners c.args.below.now) c.statement_counts.result c.statement_counts-in-If.result c.together.result
    (context_of c.below_dynamic.result) (context_of c.below_dynamic-in-If.result) (below_dynamic (context_of c.args.context)) c.deref.result.now c.deref-in-If.result.now c.in-If.yes.value c.in-If.no.value
    c.below_dynamic.ensures c.below_dynamic-in-If.ensures c.deref.ensures c.deref-in-If.ensures c.statement_counts.ensures c.statement_counts-in-If.ensures
    c.together.ensures.statements c.together.ensures.occurrences)

pub parts_counts-returns-in-StaticIf : goal.parts_counts-returns-in-StaticIf
parts_counts-returns-in-StaticIf t c =
    let form : plain_form c.args.form.now ≡ StaticIf c.in-StaticIf.length c.in-StaticIf.test (plain_statement c.in-StaticIf.yes.value) (plain_statement c.in-StaticIf.no.value) =
    ap plain_form c.in-StaticIf.is ∙ ap plain_form (sym (rolls-StaticIf c.in-StaticIf.length c.in-StaticIf.test c.in-StaticIf.yes c.in-StaticIf.no)) ∙ fold-roll-Form PlainForm PlainStatement form_step statement_step _ in
    subst (λ x. IsCounted (plain_component c.args.part.now) (plain_inners c.args.below.now) (visit_parts (context_of c.args.context) x) c.together-in-StaticIf.result) (sym form)
    (counted_both (plain_component c.args.part.now) (plain_inners c.args.below.now) c.statement_counts-in-StaticIf.result c.statement_counts-in-StaticIf-2.result c.together-in-StaticIf.result
    Branch Branch Branch c.deref-in-StaticIf.result.now c.deref-in-StaticIf-2.result.now c.in-StaticIf.yes.value c.in-StaticIf.no.value
    refl refl c.deref-in-StaticIf.ensures c.deref-in-StaticIf-2.ensures c.statement_counts-in-StaticIf.ensures c.statement_counts-in-StaticIf-2.ensures
    c.together-in-StaticIf.ensures.statements c.together-in-StaticIf.ensures.occurrences)
