use Rattle.std.proofs.Common.{◌≡◌, ◌<◌, [], length, sym, subst, ◌∙◌, ap}
use Rattle.std.proofs.lemmas.List.{length-map}
use Rattle.cx_graphs.specs.Graphs.{edges_of}
use Rattle.cx_meaning.specs.Designs.{component_at}
use Rattle.cx_text.specs.Members.{In}
use Rattle.cx_design.specs.PlainForms.{plain_assigns}
use Rattle.cx_design.specs.PlainDesigns.{plain_design}
use Rattle.cx_race.specs.Cells.{target_in}
use Rattle.cx_race.specs.Links.{HasLinks, Within}
use Rattle.cx_race.proofs.LinkLemmas.{no_links, size_is}
use Rattle.cx_race.proofs.Bounds.{always_target, are_links}
use Rattle.cx_race.proofs.linking.links.Goals as goal

pub add_links-requires-clause-within : goal.add_links-requires-clause-within
add_links-requires-clause-within c =
    let d = plain_design c.args.design.now in
    let k = c.args.number in
    let part = component_at d k in
    let graph = c.in_ok-graph.graph.items in
    let within : k < length d.components = subst (λ n. k < n) (sym (length-map c.args.design.now.components.items _)) c.requires.within in
    let same : plain_assigns c.as_slice.result.now ≡ part.always = ap plain_assigns c.as_slice.ensures.value ∙ ap (λ p. p.always) c.component-part.ensures.value in
    let size : length part.cells ≡ length graph = size_is c.component-part.result.now part c.len.result graph c.component-part.ensures.value c.len.ensures c.in_ok-graph.ensures.value in
    λ a i. subst (λ n. Within n (target_in a)) size (always_target d c.args.design.now.keeps k within a (subst (λ l. In l a) same i))

pub add_links-requires-clause-none : goal.add_links-requires-clause-none
add_links-requires-clause-none c = subst (HasLinks []) (sym c.in_ok-graph.ensures.value) (no_links c.len.result)

pub returns : goal.returns
returns c =
    let d = plain_design c.args.design.now in
    let k = c.args.number in
    let part = component_at d k in
    let graph = c.in_ok-graph.graph.items in
    let new = c.add_links.new.graph.items in
    let within : k < length d.components = subst (λ n. k < n) (sym (length-map c.args.design.now.components.items _)) c.requires.within in
    let same : plain_assigns c.as_slice.result.now ≡ part.always = ap plain_assigns c.as_slice.ensures.value ∙ ap (λ p. p.always) c.component-part.ensures.value in
    let size : length part.cells ≡ length graph = size_is c.component-part.result.now part c.len.result graph c.component-part.ensures.value c.len.ensures c.in_ok-graph.ensures.value in
    record {
      links = are_links d c.args.design.now.keeps k within (edges_of new) (length-map new _ ∙ c.in_ok-add_links.ensures.len ∙ sym size) (subst (λ l. HasLinks l (edges_of new)) same c.in_ok-add_links.ensures.links);
    }
