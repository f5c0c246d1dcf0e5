use Rattle.std.proofs.Common.{rules, ◌+◌, ◌∷◌, ◌∙◌, sym, ap, drop, map}
use Rattle.std.proofs.lemmas.List.{drop_more}
use Rattle.cx_design.specs.PlainForms.{plain_component}
use Rattle.cx_design.specs.PlainDesigns.{plain_design}
use Rattle.cx_rules.specs.Spots.{AStatement}
use Rattle.cx_design_parts.specs.Items.{plain_visited}
use Rattle.cx_design_parts.specs.Breaks.{first_of}
use Rattle.cx_design_parts.specs.Numbered.{numbered}
use Rattle.cx_design_parts.proofs.Lists.{next_number}
use Rattle.cx_shape_rules.specs.Measures.{measure_of}
use Rattle.cx_shape_rules.specs.ShapeBreaks.{statement_breaks, statement_breaks_at}
use Rattle.cx_shape_rules.proofs.LengthLemmas.{at_both}
use Rattle.cx_shape_rules.proofs.checking.add_statements.Goals as goal

pub add_statement-requires : goal.add_statement-requires
add_statement-requires c = record {
  measured = at_both plain_visited (measure_of (plain_component c.component-part.result.now)) c.in_ok-list.list.items c.in_ok-measures.measures.items c.loop-place.place c.index.result.now c.index-in-loop-place.result.now
      (c.in_ok-measures.ensures.value ∙ ap (map (measure_of (plain_component c.component-part.result.now))) (sym c.in_ok-list.ensures.value)) (search rules) (search rules) (search rules);
}

pub loop-place-preserved : goal.loop-place-preserved
loop-place-preserved c =
    let f = statement_breaks_at (plain_design c.args.design.now) c.args.number in
    let items = c.in_ok-list.list.items in
    let n = c.loop-place.place in
    next_number plain_visited f n items c.index.result.now c.loop-place.first c.add_statement.new.first (first_of c.args.first.now (numbered f 0 (map plain_visited items)))
    (drop_more items n c.index.result.now (search rules) ∙ ap (λ x. x ∷ drop (n + 1) items) (search rules))
    (c.in_ok-add_statement.ensures.value ∙ ap (λ part. first_of c.loop-place.first (statement_breaks part (record { component = c.args.number; part = AStatement n }) (plain_visited c.index.result.now))) c.component-part.ensures.value)
    c.loop-place.invariant
