use Rattle.std.proofs.Common.{◌≡◌, map, sym, ap, ◌∙◌}
use Rattle.cx_meaning.specs.Designs.{PlainForm, PlainStatement, Par, StaticPar, statements_of}
use Rattle.cx_rules.specs.RaceRule.{arms_of}
use Rattle.cx_design.specs.declared.statements.Form.TheFolds.{fold-roll-Form}
use Rattle.cx_design.specs.declared.statements.Form.TheVariants.{rolls-Par, rolls-StaticPar}
use Rattle.cx_design.specs.PlainForms.{form_step, statement_step, plain_form, plain_statement}
use Rattle.cx_race.proofs.ArmLemmas.{par_arms}
use Rattle.cx_race.proofs.arms.arms.Goals as goal

pub returns-in-Par : goal.returns-in-Par
returns-in-Par c =
    let arms = c.in-Par.arms in
    let is : plain_form c.args.form.now ≡ Par (statements_of (map plain_statement arms.items)) =
    ap plain_form c.in-Par.is ∙ ap plain_form (sym (rolls-Par arms)) ∙ fold-roll-Form PlainForm PlainStatement form_step statement_step _ in
    record { value = ap (λ l. map plain_statement l) c.as_slice.ensures.value ∙ par_arms arms.items ∙ ap arms_of (sym is) }

pub returns-in-StaticPar : goal.returns-in-StaticPar
returns-in-StaticPar c =
    let arms = c.in-StaticPar.parts in
    let is : plain_form c.args.form.now ≡ StaticPar c.in-StaticPar.length (statements_of (map plain_statement arms.items)) =
    ap plain_form c.in-StaticPar.is ∙ ap plain_form (sym (rolls-StaticPar c.in-StaticPar.length arms)) ∙ fold-roll-Form PlainForm PlainStatement form_step statement_step _ in
    record { value = ap (λ l. map plain_statement l) c.as_slice-in-StaticPar.ensures.value ∙ par_arms arms.items ∙ ap arms_of (sym is) }
