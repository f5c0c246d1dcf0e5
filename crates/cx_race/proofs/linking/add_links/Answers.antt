use Rattle.std.proofs.Common.{rules, ◌≡◌, ◌++◌, ◌∷◌, [], length, take, sym, subst, ◌∙◌}
use Rattle.cx_graphs.specs.Graphs.{edges_of}
use Rattle.std.proofs.lemmas.List.{length-map}
use Rattle.cx_design.specs.PlainForms.{plain_assign, plain_assigns}
use Rattle.cx_race.specs.Cells.{target_in}
use Rattle.cx_race.specs.Links.{HasLinks, Within}
use Rattle.cx_race.proofs.LinkLemmas.{in_map, map_take_more, links_more}
use Rattle.cx_race.proofs.linking.add_links.Goals as goal

pub add_link-requires : goal.add_link-requires
add_link-requires c =
    let a = c.assign-item.result in
    record {
      within = subst (λ n. Within n (target_in (plain_assign a))) (sym c.loop-assign.invariant.0)
          (c.requires.within (plain_assign a) (in_map plain_assign c.args.assigns.now c.loop-assign.assign-index a (search rules) c.assign-item.is));
    }

pub loop-assign-preserved : goal.loop-assign-preserved
loop-assign-preserved c =
    let a = c.assign-item.result in
    let assigns = c.args.assigns.now in
    let k = c.loop-assign.assign-index in
    let before = c.loop-assign.graph.items in
    let after = c.add_link.new.graph.items in
    let long : length (edges_of before) ≡ length c.args.graph.now.items = length-map before _ ∙ c.loop-assign.invariant.0 in
    let within : Within (length (edges_of before)) (target_in (plain_assign a)) =
    subst (λ n. Within n (target_in (plain_assign a))) (sym long) (c.requires.within (plain_assign a) (in_map plain_assign assigns k a (search rules) c.assign-item.is)) in (
      c.in_ok-add_link.ensures.len ∙ c.loop-assign.invariant.0,
      subst (λ l. HasLinks l (edges_of after)) (sym (map_take_more plain_assign assigns k a (search rules) c.assign-item.is))
          (subst (HasLinks (plain_assigns (take k assigns) ++ plain_assign a ∷ [])) (sym c.in_ok-add_link.ensures.value)
          (links_more (plain_assigns (take k assigns)) (plain_assign a) (edges_of before) c.loop-assign.invariant.1 within)),
    )
