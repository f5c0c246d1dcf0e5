use Rattle.std.proofs.Common.{ℕ, List, [], map, sym, subst, if◌then◌else◌}
use Rattle.cx_vtree.specs.PlainSources.{plain_source}
use Rattle.cx_vtree.specs.SimRun.{SimRun}
use Rattle.cx_vnets.specs.Stores.{plain_words}
use Rattle.cx_vsim.specs.Models.{Loaded}
use Rattle.cx_vsim.specs.Stands.{IsToldAs, TellsNet, outcome_by, words_by}
use Rattle.cx_vsim.proofs.SimLemmas.{tells_net, ran_is, sim_is}
use Rattle.cx_vsim.proofs.simulating.Sim.run.Goals as goal

pub told-answer-requires : goal.told-answer-requires
told-answer-requires c =
    let s = plain_source c.self.inside.source.now in
    let words : List (List ℕ) = if c.self.inside.loaded then words_by c.self.inside.arrays.items (map plain_words c.self.inside.built.stored.arrays.items) else [] in
    let sound = c.modules.ensures.sound in
    record {
      there = subst (λ ps. TellsNet ps c.run-answer.result) (sym c.deref.ensures.value)
          (tells_net s words c.self.inside.built c.self.inside.arrays.items c.self.inside.places.items c.self.invariant (c.trees_can_be_built.ensures s sound) (c.memories_are_arrays.ensures s sound)
          (c.memories_stand.ensures s sound) c.runs_are_same.ensures (c.instances_are_few.ensures s sound) c.args.cycles c.run-answer.result c.run-answer.new.stored c.run-answer.ensures.value);
    }

pub invariant_of-result : goal.invariant_of-result
invariant_of-result c =
    let s = plain_source c.self.inside.source.now in
    let words : List (List ℕ) = if c.self.inside.loaded then words_by c.self.inside.arrays.items (map plain_words c.self.inside.built.stored.arrays.items) else [] in
    let sound = c.modules.ensures.sound in
    ran_is s words c.self.inside.built c.self.inside.arrays.items c.self.inside.places.items c.self.invariant (c.trees_can_be_built.ensures s sound) (c.memories_are_arrays.ensures s sound)
    (c.memories_stand.ensures s sound) c.runs_are_same.ensures (c.instances_are_few.ensures s sound) c.args.cycles c.run-answer.result c.run-answer.new.stored c.run-answer.ensures.value
    c.run-answer.ensures.widths c.told-answer.result (subst (λ ps. IsToldAs ps c.run-answer.result c.told-answer.result) c.deref.ensures.value c.told-answer.ensures)

pub returns-clause-run : goal.returns-clause-run
returns-clause-run c =
    let s = plain_source c.self.inside.source.now in
    let words : List (List ℕ) = if c.self.inside.loaded then words_by c.self.inside.arrays.items (map plain_words c.self.inside.built.stored.arrays.items) else [] in
    let sound = c.modules.ensures.sound in
    subst (λ (l : Loaded). SimRun (plain_source l.source) l.words c.args.cycles (outcome_by c.told-answer.result (words_by c.self.inside.arrays.items (map plain_words c.run-answer.new.stored.arrays.items)))) c.self.view_is
    (sim_is s words c.self.inside.built c.self.inside.arrays.items c.self.inside.places.items c.self.invariant (c.trees_can_be_built.ensures s sound) (c.memories_are_arrays.ensures s sound)
    (c.memories_stand.ensures s sound) c.runs_are_same.ensures (c.instances_are_few.ensures s sound) c.args.cycles c.run-answer.result c.run-answer.new.stored c.run-answer.ensures.value
    c.told-answer.result (subst (λ ps. IsToldAs ps c.run-answer.result c.told-answer.result) c.deref.ensures.value c.told-answer.ensures))
