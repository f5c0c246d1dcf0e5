use Rattle.std.proofs.Common.{rules, arith, ◌≡◌, length, Some, slice_get, refl, sym, ap, subst, ◌∙◌}
use Rattle.std.specs.Prelude.{option_map}
use Rattle.std.proofs.lemmas.List.{length-map}
use Rattle.std.proofs.lemmas.Option.{slice_get-map, slice_get_read}
use Rattle.cx_meaning.specs.Designs.{component_at}
use Rattle.cx_rules.specs.Items.{statements_in}
use Rattle.cx_design.specs.PlainDesigns.{plain_design}
use Rattle.cx_design_parts.specs.Items.{plain_visited}
use Rattle.cx_race.specs.Races.{AreClear}
use Rattle.cx_race.specs.RaceBreaks.{IsBefore}
use Rattle.cx_race.proofs.RaceLemmas.{looked_none, next_statement, component_looked}
use Rattle.cx_race.proofs.checking.add_component.Goals as goal

pub loop-place-init : goal.loop-place-init
loop-place-init c =
    let d = plain_design c.args.design.now in
    let f = c.in_ok-footprints.footprints in
    let cells : c.len.result ≡ length f.links.items = omega (arith, c.len.ensures, f.links.ok.0) in
    let groups : c.len-2.result ≡ length f.driven.items = omega (arith, c.len-2.ensures, f.driven.ok.0) in (
      looked_none d (IsBefore c.args.number 0) c.args.first.now (λ spot at. let few = at.1.1 in absurd (omega (arith, few))),
      subst (λ n. AreClear n (length f.driven.items) c.in_ok-tallies.tallies) cells (subst (λ n. AreClear c.len.result n c.in_ok-tallies.tallies) groups c.in_ok-tallies.ensures.clear),
    )

pub add_statement-requires-clause-stands : goal.add_statement-requires-clause-stands
add_statement-requires-clause-stands c =
    let items = c.in_ok-list.list.items in
    let n = c.loop-place.place in
    let at : slice_get items n ≡ Some c.index.result.now = slice_get_read items (length items) n c.index.result.now refl (search rules) (search rules) in
    ap (λ p. slice_get (statements_in p) n) (sym c.component-part.ensures.value)
    ∙ ap (λ l. slice_get l n) (sym c.in_ok-list.ensures.value)
    ∙ slice_get-map plain_visited items n
    ∙ ap (λ o. option_map plain_visited o) at

pub loop-place-preserved : goal.loop-place-preserved
loop-place-preserved c =
    let d = plain_design c.args.design.now in (
      next_statement d c.args.number c.loop-place.place c.args.first.now c.loop-place.first c.add_statement.new.first c.loop-place.invariant.0 c.in_ok-add_statement.ensures.looked,
      c.in_ok-add_statement.ensures.clear,
    )

pub returns : goal.returns
returns c =
    let d = plain_design c.args.design.now in
    let k = c.args.number in
    let items = c.in_ok-list.list.items in
    let long : length (statements_in (component_at d k)) ≡ length items = ap (λ p. length (statements_in p)) (sym c.component-part.ensures.value) ∙ ap length (sym c.in_ok-list.ensures.value) ∙ length-map items plain_visited in
    record { looked = component_looked d k c.loop-place.place c.args.first.now c.loop-place.first (omega (arith, long, c.in_ok-list.list.ok.0, c.len-place-end.ensures)) c.loop-place.invariant.0 }
