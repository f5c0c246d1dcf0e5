use Rattle.std.proofs.Common.{rules, ◌+◌, ◌∷◌, ◌∙◌, ap, drop, map}
use Rattle.std.proofs.lemmas.List.{drop_more}
use Rattle.cx_design.specs.PlainForms.{plain_group}
use Rattle.cx_design_parts.specs.Breaks.{first_of}
use Rattle.cx_design_parts.specs.Numbered.{numbered}
use Rattle.cx_design_parts.proofs.Lists.{next_number}
use Rattle.cx_shape_rules.specs.ShapeBreaks.{group_breaks_at}
use Rattle.cx_shape_rules.proofs.checking.add_groups.Goals as goal

pub loop-place-preserved : goal.loop-place-preserved
loop-place-preserved c =
    let f = group_breaks_at c.args.number in
    let items = c.as_slice-groups.result.now in
    let n = c.loop-place.place in
    next_number plain_group f n items c.index-groups-place.result c.loop-place.first c.add_group.new.first (first_of c.args.first.now (numbered f 0 (map plain_group items)))
    (drop_more items n c.index-groups-place.result (search rules) ∙ ap (λ x. x ∷ drop (n + 1) items) (search rules)) c.in_ok-add_group.ensures.value c.loop-place.invariant
