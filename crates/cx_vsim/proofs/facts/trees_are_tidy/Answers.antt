use Rattle.std.proofs.Common.{◌≡◌, ap, sym, ◌∙◌}
use Rattle.cx_vtree.specs.InstanceTree.{Placed, instances_of}
use Rattle.cx_vsim.proofs.TidyLemmas.{tidy_tree}
use Rattle.cx_vsim.proofs.facts.trees_are_tidy.Goals as goal

pub returns : goal.returns
returns c = λ source sound.
    let main = c.main_comes_first.ensures source sound in
    tidy_tree (instances_of source)
    (λ i name. c.nets_have_origins.ensures source i name sound)
    (λ i k p port. c.inputs_are_tied.ensures source i k p port sound)
    (λ i k p port. c.outputs_are_tied.ensures source i k p port sound)
    (λ i k h name. c.names_are_apart.ensures.nets source i sound k h name)
    (λ p at. let e = main.1 in let same : main.0 ≡ p = cc in ap (λ (q : Placed). q.conns) (sym same) ∙ main.5)
    (λ i p. c.connections_are_of_ports.ensures source i p sound)
