use Rattle.std.proofs.Common.{◌≡◌, ◌<◌, ◌++◌, ◌∙◌, length, ap, sym, subst}
use Rattle.std.proofs.lemmas.List.{length-map}
use Rattle.cx_text.specs.Members.{In}
use Rattle.cx_graphs.specs.Graphs.{edges_of, IsReached}
use Rattle.cx_meaning.specs.Designs.{component_at}
use Rattle.cx_design.specs.PlainForms.{plain_assigns, plain_invoke}
use Rattle.cx_design.specs.PlainDesigns.{plain_design}
use Rattle.cx_race.specs.Cells.{named_in_all}
use Rattle.cx_race.proofs.ArmLemmas.{from_node}
use Rattle.cx_shape_calls.proofs.InvokeLemmas.{invoked_there, named_there, reached_feeds, feeds_reached}
use Rattle.cx_shape_calls.proofs.invokes.is_fed_back.Goals as goal

pub lead_to-requires : goal.lead_to-requires
lead_to-requires c =
    let d = plain_design c.args.design.now in
    let k = c.args.number in
    let w = plain_invoke c.args.invoke.now in
    let links = c.args.links.now in
    let within : k < length d.components = subst (λ n. k < n) (sym (length-map c.args.design.now.components.items _)) c.requires.within in
    let are : c.add_assigns.new.cells.items ≡ named_in_all w.inputs =
    c.in_ok-add_assigns.ensures.value ∙ ap (λ l. l ++ named_in_all (plain_assigns c.as_slice.result.now)) c.new-named.ensures.items ∙ ap (λ l. named_in_all (plain_assigns l)) c.as_slice.ensures.value in
    let size : length (component_at d k).cells ≡ length links = sym c.requires.links.size ∙ length-map links _ in
    record {
      graph = c.requires.links.graph;
      tally = c.requires.tally;
      cells = λ n i.
          subst (λ m. n < m) size (named_there d c.args.design.now.keeps k within w c.requires.stands n (from_node (named_in_all w.inputs) n (subst (λ l. In l n) are i)));
      within = subst (λ n. w.cell < n) size (invoked_there d c.args.design.now.keeps k within w c.requires.stands);
    }

pub returns : goal.returns
returns c =
    let d = plain_design c.args.design.now in
    let k = c.args.number in
    let part = component_at d k in
    let w = plain_invoke c.args.invoke.now in
    let links = c.args.links.now in
    let are : c.add_assigns.new.cells.items ≡ named_in_all w.inputs =
    c.in_ok-add_assigns.ensures.value ∙ ap (λ l. l ++ named_in_all (plain_assigns c.as_slice.result.now)) c.new-named.ensures.items ∙ ap (λ l. named_in_all (plain_assigns l)) c.as_slice.ensures.value in
    record {
      tally = c.in_ok-fed_back.ensures.tally;
      value = (
        λ e. reached_feeds part (edges_of links) c.requires.links w.inputs w.cell (subst (λ l. IsReached (edges_of links) l w.cell) are (c.in_ok-fed_back.ensures.value.0 e)),
        λ f. c.in_ok-fed_back.ensures.value.1 (subst (λ l. IsReached (edges_of links) l w.cell) (sym are) (feeds_reached part (edges_of links) c.requires.links w.inputs w.cell f)),
      );
    }
