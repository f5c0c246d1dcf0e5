use Rattle.cx_vtree.specs.InstanceTree.{instances_of}
use Rattle.std.proofs.lemmas.Option.{slice_get_within}
use Rattle.cx_vsim.proofs.facts.trees_are_rooted.Goals as goal

pub returns : goal.returns
returns c = λ source sound.
    let main = c.main_comes_first.ensures source sound in
    record {
      main = (main.0, main.1, main.3);
      holders = λ i p at inner. let r = c.instances_are_held.ensures source i p sound at inner in slice_get_within (instances_of source) p.holder r.1.0 r.1.1;
      givens = λ i j p a. c.assigned_are_given.ensures source i j p a sound;
    }
