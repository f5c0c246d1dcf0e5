use Rattle.std.proofs.Common.{rules, ◌≡◌, ◌∷◌, ◌++◌, ◌∙◌, sym, ap, map}
use Rattle.cx_meaning.specs.Designs.{PlainForm, PlainStatement, Placed, If, StaticRepeat, form_of}
use Rattle.cx_design.specs.PlainForms.{form_step, statement_step, plain_component, plain_form, plain_statement}
use Rattle.cx_design.specs.declared.statements.Form.TheFolds.{fold-roll-Form, fold-roll-Statement}
use Rattle.cx_design.specs.declared.statements.Form.TheVariants.{rolls-If, rolls-StaticRepeat}
use Rattle.cx_rules.specs.Items.{InStatic, below_dynamic, visit, visit_parts}
use Rattle.cx_design_parts.specs.Items.{plain_context}
use Rattle.cx_shape_rules.specs.Measures.{measure_in, measure_of}
use Rattle.cx_shape_rules.proofs.LengthLemmas.{placed, two_more, repeated}
use Rattle.cx_shape_rules.proofs.measures.+measure.Goals as goal

pub add_statement-returns-clause-list : goal.add_statement-returns-clause-list
add_statement-returns-clause-list t c =
    let f = measure_of (plain_component c.args.part.now) in
    let context = plain_context c.args.context in
    let rest = map f (visit_parts context (plain_form c.args.statement.now.form)) in
    let whole : plain_statement c.args.statement.now ≡ Placed (plain_form c.args.statement.now.form) c.args.statement.now.place = fold-roll-Statement PlainForm PlainStatement form_step statement_step _ in
    placed c.args.list.now.items c.push.new.self.items c.add_form.new.list.items rest c.none.result c.in_ok-measure.measure c.len-place.result c.in_ok-push.ensures.items c.in_ok-measure.ensures.list (search rules)
    ∙ ap (λ m. c.args.list.now.items ++ m ∷ rest) c.in_ok-measure.ensures.value
    ∙ ap (λ s. c.args.list.now.items ++ map f (visit context s)) (sym whole)

pub add_form-returns-in_ok-add_statement-in-If-2-clause-list : goal.add_form-returns-in_ok-add_statement-in-If-2-clause-list
add_form-returns-in_ok-add_statement-in-If-2-clause-list t c =
    let f = measure_of (plain_component c.args.part.now) in
    let old = c.args.list.now.items in
    let yes = plain_statement c.in-If.yes.value in
    let no = plain_statement c.in-If.no.value in
    let form : plain_form c.args.form.now ≡ If c.in-If.test c.in-If.comb yes no =
    ap plain_form c.in-If.is ∙ ap plain_form (sym (rolls-If c.in-If.test c.in-If.comb c.in-If.yes c.in-If.no)) ∙ fold-roll-Form PlainForm PlainStatement form_step statement_step _ in
    let context = plain_context c.args.context in
    let inner = plain_context c.below-context.result in
    let first = plain_statement c.deref-in-If.result.now in
    let second = plain_statement c.deref-in-If-2.result.now in
    two_more f old c.add_statement-in-If.new.list.items c.add_statement-in-If-2.new.list.items (visit inner first) (visit inner second) c.in_ok-add_statement-in-If.ensures.list c.in_ok-add_statement-in-If-2.ensures.list
    ∙ ap (λ x. old ++ map f (visit x first ++ visit x second)) c.below-context.ensures.value
    ∙ ap (λ s. old ++ map f (visit (below_dynamic context) (plain_statement s) ++ visit (below_dynamic context) second)) c.deref-in-If.ensures
    ∙ ap (λ s. old ++ map f (visit (below_dynamic context) yes ++ visit (below_dynamic context) (plain_statement s))) c.deref-in-If-2.ensures
    ∙ ap (λ x. old ++ map f (visit_parts context x)) (sym form)

pub add_form-returns-in_ok-body-in-StaticRepeat-clause-value : goal.add_form-returns-in_ok-body-in-StaticRepeat-clause-value
add_form-returns-in_ok-body-in-StaticRepeat-clause-value t c =
    let count = c.in-StaticRepeat.count in
    let body = plain_statement c.in-StaticRepeat.body.value in
    let part = plain_component c.args.part.now in
    let form : plain_form c.args.form.now ≡ StaticRepeat c.in-StaticRepeat.length count body =
    ap plain_form c.in-StaticRepeat.is ∙ ap plain_form (sym (rolls-StaticRepeat c.in-StaticRepeat.length count c.in-StaticRepeat.body)) ∙ fold-roll-Form PlainForm PlainStatement form_step statement_step _ in
    let context = plain_context c.args.context in
    repeated part context c.in-StaticRepeat.length count c.saturating_mul.result body c.in_ok-body-in-StaticRepeat.body
    (c.in_ok-body-in-StaticRepeat.ensures.value ∙ ap (λ s. measure_in part InStatic (form_of (plain_statement s))) c.deref-in-StaticRepeat.ensures) c.saturating_mul.ensures
    ∙ ap (measure_in part context) (sym form)
