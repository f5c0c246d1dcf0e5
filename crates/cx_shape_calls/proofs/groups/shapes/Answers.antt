use Rattle.std.proofs.Common.{rules, ◌≡◌, ◌∙◌, ◌+◌, ap, sym, subst, length, map, get_or}
use Rattle.cx_meaning.specs.Designs.{group_at, no_group}
use Rattle.cx_meaning.specs.Instances.{part_of}
use Rattle.cx_rules.specs.Ports.{component_of}
use Rattle.cx_design.specs.PlainForms.{plain_group}
use Rattle.cx_design.specs.PlainDesigns.{plain_design}
use Rattle.cx_shape_calls.specs.Decisions.{AreShapesOf, IsShapeOf}
use Rattle.cx_shape_calls.proofs.BreakLemmas.{shapes_more}
use Rattle.cx_meaning.proofs.DesignsLemmas.{same_part}
use Rattle.cx_design.proofs.GroupsLemmas.{got_group}
use Rattle.cx_shape_calls.proofs.groups.shapes.Goals as goal

pub loop-place-preserved : goal.loop-place-preserved
loop-place-preserved c =
    let d = plain_design c.args.design.now in
    let i = component_of d c.args.number in
    let n = c.loop-place.place in
    let same : plain_group c.index-groups-place.result ≡ group_at (part_of i) n =
    got_group c.as_slice-groups.result.now n c.index-groups-place.result (search rules) c.index-groups-place.is
    ∙ ap (λ l. get_or (map plain_group l) n no_group) c.as_slice-groups.ensures.value
    ∙ ap (λ p. group_at p n) (c.component.ensures.value ∙ sym (same_part d (length d.components) c.args.number)) in
    record {
      many = search rules;
      so_far = subst (λ l. AreShapesOf i (n + 1) l) (sym c.in_ok-push.ensures.items)
          (shapes_more i n c.loop-place.list.items c.in_ok-shape.shape c.loop-place.invariant.many c.loop-place.invariant.so_far (subst (λ g. IsShapeOf i n g c.in_ok-shape.shape) same c.in_ok-shape.ensures.value));
      paths = c.in_ok-shape.ensures.paths;
    }
