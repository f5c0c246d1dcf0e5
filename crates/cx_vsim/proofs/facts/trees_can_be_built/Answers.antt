use Rattle.cx_vsim.proofs.facts.trees_can_be_built.Goals as goal

pub returns : goal.returns
returns c = λ source sound. record {
  tidy = c.trees_are_tidy.ensures source sound;
  coded = c.modules_can_be_coded.ensures source sound;
  small = c.numbers_are_small.ensures source sound;
  apart = c.names_and_edges_are_apart.ensures source sound;
  wide = c.trees_are_evenly_wide.ensures source sound;
  rooted = c.trees_are_rooted.ensures source sound;
}
