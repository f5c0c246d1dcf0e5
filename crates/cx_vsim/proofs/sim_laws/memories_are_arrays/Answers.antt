use Rattle.cx_vsim.proofs.sim_laws.memories_are_arrays.Goals as goal

pub returns : goal.returns
returns c = λ s sound. record {
  apart = (c.trees_can_be_built.ensures s sound).apart.names;
  each = λ k e at. c.externals_are_memories.ensures s k e sound at;
  once = λ j k i d e here there one other. c.externals_are_apart.ensures.numbers s j k i d e sound here there one other;
}
