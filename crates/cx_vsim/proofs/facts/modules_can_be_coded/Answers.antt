use Rattle.cx_vtree.specs.InstanceTree.{instances_of}
use Rattle.cx_vsim.proofs.CodedLemmas.{coded_tree}
use Rattle.cx_vsim.proofs.facts.modules_can_be_coded.Goals as goal

pub returns : goal.returns
returns c = λ source sound.
    coded_tree (instances_of source)
    (λ i name. c.nets_have_origins.ensures source i name sound)
    c.names_have_numbers.ensures
    (λ i k p a. c.assigned_are_given.ensures source i k p a sound)
    (λ i reset k a. c.sets_are_of_registers.ensures.sets source i reset k a sound)
    (λ i reset k s. c.stores_are_of_arrays.ensures.stores source i reset k s sound)
    (c.numbers_are_small.ensures source sound)
    (λ i j p q. c.modules_have_names.ensures source i j p q sound)
    (λ i k q. c.widths_are_bounded.ensures.ports source i k q sound)
    (λ i k d. c.widths_are_bounded.ensures.decls source i k d sound)
