use Rattle.std.proofs.Common.{◌≡◌, true, false, ◌∷◌, ◌+◌, [], ◌∙◌, sym, ap, refl, drop, map, option_map}
use Rattle.std.proofs.lemmas.List.{drop_all, map_push}
use Rattle.cx_ast.specs.PlainStatements as written
use Rattle.cx_meaning.specs.Designs.{PlainForm, PlainStatement}
use Rattle.cx_meaning.proofs.DesignsLemmas.{joined_none, if_is, static_if_is}
use Rattle.cx_design.specs.declared.statements.Form.TheFolds.{fold-roll-Form}
use Rattle.cx_design.specs.declared.statements.Form.TheVariants as forms
use Rattle.cx_design.specs.PlainForms.{form_step, statement_step, plain_form, plain_statement}
use Rattle.cx_numbering.specs.DesignOf.{past, invokes_in, invokes_of, invokes_else, form_of, else_of}
use Rattle.cx_names.specs.Sites.{tree_at, part_at}
use Rattle.cx_names.specs.Added.{made_of, next_of, added, invokes_at}
use Rattle.cx_names.proofs.ControlLemmas.{added_append, next_added, one_more, added_more}
use Rattle.cx_text.proofs.ListLaws.{drop_item}
use Rattle.cx_ast.proofs.PlainStatementsLemmas.{if_form, static_if_form}
use Rattle.cx_names.proofs.control.+control.Goals as goal

pub form-returns-in_ok-no-in-If-clause-value : goal.form-returns-in_ok-no-in-If-clause-value
form-returns-in_ok-no-in-If-clause-value t c =
    let tree = tree_at c.args.site.now in
    let part = part_at c.args.site.now in
    let made = made_of c.args.draft.now in
    let yes = invokes_of (written.plain_block c.in-If.yes) in
    let item : written.plain_form c.args.item.now ≡ written.If c.in-If.test c.in-If.comb (written.plain_block c.in-If.yes) (written.else_of (option_map written.plain_block c.in-If.no)) =
    ap written.plain_form c.in-If.is ∙ if_form c.in-If.test c.in-If.comb c.in-If.yes c.in-If.no in
    let count : next_of (made_of c.boxed_block.new.draft) ≡ past tree part (next_of made) yes = ap next_of c.in_ok-yes-in-If.ensures.made ∙ next_added tree part made yes in
    ap plain_form (sym (forms.rolls-If c.in_ok-test-in-If.test c.in_ok-comb-in-If.comb c.in_ok-yes-in-If.yes c.in_ok-no-in-If.no))
    ∙ fold-roll-Form PlainForm PlainStatement form_step statement_step _
    ∙ if_is c.in_ok-test-in-If.ensures c.in_ok-comb-in-If.ensures c.in_ok-yes-in-If.ensures.value (c.in_ok-no-in-If.ensures.value ∙ ap (λ m. else_of tree part false m c.args.place (written.else_of (option_map written.plain_block c.in-If.no))) count)
    ∙ ap (form_of tree part (next_of made) c.args.place) (sym item)

pub form-returns-in_ok-no-in-If-clause-made : goal.form-returns-in_ok-no-in-If-clause-made
form-returns-in_ok-no-in-If-clause-made t c =
    let tree = tree_at c.args.site.now in
    let part = part_at c.args.site.now in
    let made = made_of c.args.draft.now in
    let yes = invokes_of (written.plain_block c.in-If.yes) in
    let item : written.plain_form c.args.item.now ≡ written.If c.in-If.test c.in-If.comb (written.plain_block c.in-If.yes) (written.else_of (option_map written.plain_block c.in-If.no)) =
    ap written.plain_form c.in-If.is ∙ if_form c.in-If.test c.in-If.comb c.in-If.yes c.in-If.no in
    let no = invokes_else (written.else_of (option_map written.plain_block c.in-If.no)) in
    c.in_ok-no-in-If.ensures.made
    ∙ ap (λ xs. added tree part xs no) c.in_ok-yes-in-If.ensures.made
    ∙ sym (added_append tree part made yes no)
    ∙ ap (λ f. added tree part made (invokes_in f c.args.place)) (sym item)

pub form-returns-in_ok-no-in-StaticIf-clause-value : goal.form-returns-in_ok-no-in-StaticIf-clause-value
form-returns-in_ok-no-in-StaticIf-clause-value t c =
    let tree = tree_at c.args.site.now in
    let part = part_at c.args.site.now in
    let made = made_of c.args.draft.now in
    let yes = invokes_of (written.plain_block c.in-StaticIf.yes) in
    let item : written.plain_form c.args.item.now ≡ written.StaticIf c.in-StaticIf.length c.in-StaticIf.test (written.plain_block c.in-StaticIf.yes) (written.else_of (option_map written.plain_block c.in-StaticIf.no)) =
    ap written.plain_form c.in-StaticIf.is ∙ static_if_form c.in-StaticIf.length c.in-StaticIf.test c.in-StaticIf.yes c.in-StaticIf.no in
    let count : next_of (made_of c.boxed_block-in-StaticIf.new.draft) ≡ past tree part (next_of made) yes = ap next_of c.in_ok-yes-in-StaticIf.ensures.made ∙ next_added tree part made yes in
    ap plain_form (sym (forms.rolls-StaticIf c.in-StaticIf.length c.in_ok-test-in-StaticIf.test c.in_ok-yes-in-StaticIf.yes c.in_ok-no-in-StaticIf.no))
    ∙ fold-roll-Form PlainForm PlainStatement form_step statement_step _
    ∙ static_if_is c.in-StaticIf.length c.in_ok-test-in-StaticIf.ensures c.in_ok-yes-in-StaticIf.ensures.value (c.in_ok-no-in-StaticIf.ensures.value ∙ ap (λ m. else_of tree part true m c.args.place (written.else_of (option_map written.plain_block c.in-StaticIf.no))) count)
    ∙ ap (form_of tree part (next_of made) c.args.place) (sym item)

pub form-returns-in_ok-no-in-StaticIf-clause-made : goal.form-returns-in_ok-no-in-StaticIf-clause-made
form-returns-in_ok-no-in-StaticIf-clause-made t c =
    let tree = tree_at c.args.site.now in
    let part = part_at c.args.site.now in
    let made = made_of c.args.draft.now in
    let yes = invokes_of (written.plain_block c.in-StaticIf.yes) in
    let item : written.plain_form c.args.item.now ≡ written.StaticIf c.in-StaticIf.length c.in-StaticIf.test (written.plain_block c.in-StaticIf.yes) (written.else_of (option_map written.plain_block c.in-StaticIf.no)) =
    ap written.plain_form c.in-StaticIf.is ∙ static_if_form c.in-StaticIf.length c.in-StaticIf.test c.in-StaticIf.yes c.in-StaticIf.no in
    let no = invokes_else (written.else_of (option_map written.plain_block c.in-StaticIf.no)) in
    c.in_ok-no-in-StaticIf.ensures.made
    ∙ ap (λ xs. added tree part xs no) c.in_ok-yes-in-StaticIf.ensures.made
    ∙ sym (added_append tree part made yes no)
    ∙ ap (λ f. added tree part made (invokes_in f c.args.place)) (sym item)

pub statements-loop-item-init : goal.statements-loop-item-init
statements-loop-item-init t c = record { value = rw c.in_ok-all.ensures.items refl; made = refl }

pub statements-loop-item-preserved : goal.statements-loop-item-preserved
statements-loop-item-preserved t c =
    let tree = tree_at c.args.site.now in
    let part = part_at c.args.site.now in
    let other : drop c.loop-item.item-index c.args.items.now ≡ c.item-item.result ∷ drop (c.loop-item.item-index + 1) c.args.items.now = drop_item _ _ _ c.item-item.is c.loop-item-test.true in
    let rest = written.statements_of (written.plain_statements (drop (c.loop-item.item-index + 1) c.args.items.now)) in
    let s = written.plain_statement c.item-item.result in
    let made = made_of c.loop-item.draft in
    record {
      value =
          rw (c.in_ok-push.ensures.items, map_push plain_statement c.loop-item.all.items c.in_ok-next.next)
          (one_more tree part (next_of made) _ (map plain_statement c.loop-item.all.items) s (plain_statement c.in_ok-next.next) rest _ c.in_ok-next.ensures.value (ap next_of c.in_ok-next.ensures.made ∙ next_added tree part made (invokes_at s)) (rw other at c.loop-item.invariant.value));
      made = added_more tree part made _ s rest _ c.in_ok-next.ensures.made (rw other at c.loop-item.invariant.made);
    }

pub statements-returns : goal.statements-returns
statements-returns t c =
    let none : drop c.loop-item.item-index c.args.items.now ≡ [] = drop_all _ _ c.loop-item-test.false in
    record {
      value = sym (joined_none (map plain_statement c.loop-item.all.items)) ∙ (rw none at c.loop-item.invariant.value);
      made = rw none at c.loop-item.invariant.made;
    }
