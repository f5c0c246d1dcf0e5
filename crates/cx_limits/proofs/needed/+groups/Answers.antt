use Rattle.std.proofs.Common.{◌≡◌, ◌++◌, sym, ap, ◌∙◌}
use Rattle.cx_meaning.specs.Designs.{PlainForm, PlainStatement, If, StaticIf}
use Rattle.cx_meaning.specs.Control.{groups_in, groups_of}
use Rattle.cx_design.specs.PlainForms.{form_step, statement_step, plain_form, plain_statement}
use Rattle.cx_design.specs.declared.statements.Form.TheFolds.{fold-roll-Form}
use Rattle.cx_design.specs.declared.statements.Form.TheVariants.{rolls-If, rolls-StaticIf}
use Rattle.cx_limits.specs.Inners.{set_all}
use Rattle.cx_limits.proofs.FlagLemmas.{flag_step, flag_both, flag_comb}
use Rattle.cx_limits.proofs.needed.+groups.Goals as goal

pub flag_all-loop-statement-preserved : goal.flag_all-loop-statement-preserved
flag_all-loop-statement-preserved t c =
    flag_step c.loop-statement.flags c.flag_groups.new.flags c.args.parts.now c.loop-statement.statement-index c.statement-item.result c.loop-statement-test.true c.statement-item.is c.flag_groups.ensures
    ∙ c.loop-statement.invariant

pub flag_form-returns-in-If : goal.flag_form-returns-in-If
flag_form-returns-in-If t c =
    let form : plain_form c.args.form.now ≡ If c.in-If.test c.in-If.comb (plain_statement c.in-If.yes.value) (plain_statement c.in-If.no.value) =
    ap plain_form c.in-If.is ∙ ap plain_form (sym (rolls-If c.in-If.test c.in-If.comb c.in-If.yes c.in-If.no)) ∙ fold-roll-Form PlainForm PlainStatement form_step statement_step _ in
    let both = groups_of (plain_statement c.in-If.yes.value) ++ groups_of (plain_statement c.in-If.no.value) in
    flag_both c.flag_some.new.flags c.flag_groups.new.flags c.flag_groups-in-If.new.flags c.deref.result.now c.deref-in-If.result.now c.in-If.yes.value c.in-If.no.value
    c.deref.ensures c.deref-in-If.ensures c.flag_groups.ensures c.flag_groups-in-If.ensures
    ∙ ap (λ x. set_all x both) c.flag_some.ensures ∙ flag_comb c.args.flags.now c.in-If.comb both
    ∙ ap (λ x. set_all c.args.flags.now (groups_in x)) (sym form)

pub flag_form-returns-in-StaticIf : goal.flag_form-returns-in-StaticIf
flag_form-returns-in-StaticIf t c =
    let form : plain_form c.args.form.now ≡ StaticIf c.in-StaticIf.length c.in-StaticIf.test (plain_statement c.in-StaticIf.yes.value) (plain_statement c.in-StaticIf.no.value) =
    ap plain_form c.in-StaticIf.is ∙ ap plain_form (sym (rolls-StaticIf c.in-StaticIf.length c.in-StaticIf.test c.in-StaticIf.yes c.in-StaticIf.no)) ∙ fold-roll-Form PlainForm PlainStatement form_step statement_step _ in
    flag_both c.args.flags.now c.flag_groups-in-StaticIf.new.flags c.flag_groups-in-StaticIf-2.new.flags c.deref-in-StaticIf.result.now c.deref-in-StaticIf-2.result.now c.in-StaticIf.yes.value c.in-StaticIf.no.value
    c.deref-in-StaticIf.ensures c.deref-in-StaticIf-2.ensures c.flag_groups-in-StaticIf.ensures c.flag_groups-in-StaticIf-2.ensures
    ∙ ap (λ x. set_all c.args.flags.now (groups_in x)) (sym form)
