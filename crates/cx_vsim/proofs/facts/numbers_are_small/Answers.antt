use Rattle.std.proofs.Common.{◌+◌, refl, arith}
use Rattle.cx_vtree.specs.InstanceTree.{instances_of}
use Rattle.cx_vnets.specs.Numbers.{nets_before, arrays_before}
use Rattle.cx_vsim.proofs.facts.numbers_are_small.Goals as goal

pub returns : goal.returns
returns c = λ source sound.
    let tree = instances_of source in
    let nets = c.counts_go_by_instances.ensures.nets tree (nets_before tree) refl (λ i. refl) in
    let arrays = c.counts_go_by_instances.ensures.arrays tree (arrays_before tree) refl (λ i. refl) in
    let few = c.counts_are_bounded.ensures.nets source sound in
    let words = c.counts_are_bounded.ensures.words source sound in
    let less = c.counts_are_bounded.ensures.arrays source sound in
    record { nets = omega (arith, nets, few); arrays = omega (arith, arrays, words, less); both = omega (arith, nets, few, arrays, words, less) }
