use Rattle.std.proofs.Common.{rules, ◌+◌, ◌∷◌, ◌∙◌, ap, drop, map}
use Rattle.std.proofs.lemmas.List.{drop_more}
use Rattle.cx_rules.specs.Invokes.{invoke_in}
use Rattle.cx_rules.specs.Spots.{AStatement}
use Rattle.cx_design.specs.PlainForms.{plain_form}
use Rattle.cx_design.specs.PlainDesigns.{plain_design}
use Rattle.cx_design_parts.specs.Items.{plain_visited}
use Rattle.cx_design_parts.specs.Breaks.{first_of}
use Rattle.cx_design_parts.specs.Numbered.{numbered}
use Rattle.cx_design_parts.proofs.Lists.{next_number}
use Rattle.cx_shape_calls.specs.StaticInvokes.{invoke_breaks, statement_breaks_at}
use Rattle.cx_shape_calls.proofs.checking.add_statements.Goals as goal

pub loop-place-preserved : goal.loop-place-preserved
loop-place-preserved c =
    let f = statement_breaks_at (plain_design c.args.design.now) c.args.number c.args.marks.now in
    let items = c.in_ok-list.list.items in
    let n = c.loop-place.place in
    let x = c.index.result.now in
    next_number plain_visited f n items x c.loop-place.first c.add_statement.new.first (first_of c.args.first.now (numbered f 0 (map plain_visited items)))
    (drop_more items n x (search rules) ∙ ap (λ y. y ∷ drop (n + 1) items) (search rules))
    (c.in_ok-add_statement.ensures.value
    ∙ ap (λ p. first_of c.loop-place.first (invoke_breaks p c.args.marks.now (record { component = c.args.number; part = AStatement n }) x.place (invoke_in (plain_form x.form.now)))) c.component-in-loop-place.ensures.value)
    c.loop-place.invariant
