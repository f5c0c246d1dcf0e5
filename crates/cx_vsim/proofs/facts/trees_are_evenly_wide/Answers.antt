use Rattle.cx_vtree.specs.InstanceTree.{instances_of}
use Rattle.cx_vsim.proofs.WideLemmas.{wide_tree}
use Rattle.cx_vsim.proofs.facts.trees_are_evenly_wide.Goals as goal

pub returns : goal.returns
returns c = λ source sound.
    let main = c.main_comes_first.ensures source sound in
    wide_tree (instances_of source)
    (λ i name. c.nets_have_origins.ensures source i name sound)
    (λ i k p. c.names_stand_for_their_parts.ensures.ports source i k p sound)
    (λ i k d. c.names_stand_for_their_parts.ensures.decls source i k d sound)
    (λ i reset k a. c.sets_are_of_registers.ensures.sets source i reset k a sound)
    (λ i reset k s. c.stores_are_of_arrays.ensures.stores source i reset k s sound)
    (λ i w n. c.registers_are_held.ensures source i w n sound)
    (λ i n. c.meant_is_there.ensures.arrays (instances_of source) i n)
    main.0 main.1 main.3
