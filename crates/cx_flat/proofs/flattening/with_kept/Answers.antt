use Rattle.std.proofs.Common.{◌≡◌, ◌∙◌, ◌<◌, ◌++◌, ◌∷◌, [], true, false, append-nil, get_or, length, map, ap, sym, arith, subst}
use Rattle.std.proofs.lemmas.List.{length-map, map-append}
use Rattle.cx_meaning.specs.Designs.{component_at}
use Rattle.cx_design.proofs.DesignFacts.{component_is}
use Rattle.cx_design.specs.PlainForms.{plain_component}
use Rattle.cx_design.specs.PlainDesigns.{plain_design}
use Rattle.cx_flattening.specs.FlatDesign.{is_reached, flat_of, renumbered_part}
use Rattle.cx_flat.specs.Flats.{renumbered_by}
use Rattle.cx_flat.specs.Tables.{plain_table}
use Rattle.cx_flat.proofs.MarkLemmas.{kept_none, kept_one, mark_is, marks_length, part_made}
use Rattle.cx_flat.proofs.flattening.with_kept.Goals as goal

pub bounds-marks-number : goal.bounds-marks-number
bounds-marks-number c =
    let d = plain_design c.args.design.now in
    let there = c.requires.there in
    let sized = marks_length d c.args.marks.now c.requires.marks in
    let size = length-map c.args.design.now.components.items plain_component in
    omega (arith, there, sized, size)

pub returns-in_ok-push : goal.returns-in_ok-push
returns-in_ok-push c =
    let d = plain_design c.args.design.now in
    let n = c.args.number in
    let less : n < length d.components = subst (λ k. n < k) (sym (length-map c.args.design.now.components.items plain_component)) c.requires.there in
    let part = c.index-components-number.result in
    let own : plain_component part ≡ component_at d n =
    component_is c.args.design.now.components.items n part c.requires.there (c.index-components-number.is ∙ ap (λ xs. get_or xs n part) c.as_slice-components.ensures.value) in
    let reached : is_reached d n ≡ true = sym (mark_is d c.args.marks.now n c.requires.marks less) ∙ c.if-marks-number.true in
    let made : plain_component c.in_ok-part.part ≡ renumbered_part d (flat_of d n) =
    c.in_ok-part.ensures.value ∙ ap (λ ns. renumbered_by ns (plain_component c.in_ok-flat.flat)) c.requires.numbers
    ∙ part_made d c.args.design.now.keeps (plain_table c.args.kids.now) c.args.marks.now n (plain_component part) (plain_component c.in_ok-flat.flat) c.requires.kids c.requires.marks less reached own c.in_ok-flat.ensures.value in
    record {
      value = ap (map plain_component) c.in_ok-push.ensures.items ∙ map-append plain_component c.args.front.items (c.in_ok-part.part ∷ [])
          ∙ ap (λ l. map plain_component c.args.front.items ++ l) (kept_one d n (plain_component c.in_ok-part.part) reached made);
    }

pub returns-else-marks-number : goal.returns-else-marks-number
returns-else-marks-number c =
    let d = plain_design c.args.design.now in
    let n = c.args.number in
    let less : n < length d.components = subst (λ k. n < k) (sym (length-map c.args.design.now.components.items plain_component)) c.requires.there in
    let reached : is_reached d n ≡ false = sym (mark_is d c.args.marks.now n c.requires.marks less) ∙ c.if-marks-number.false in
    record { value = sym (append-nil (map plain_component c.args.front.items)) ∙ ap (λ l. map plain_component c.args.front.items ++ l) (kept_none d n reached) }
