-- The shared design: the given cells are removed, and each port of a given cell is that of the cell that stands for it.
use Rattle.std.specs.Prelude.{ℕ, suc, List, [], ◌∷◌, map, if◌then◌else◌}
use Rattle.cx_meaning.specs.Designs.{PlainCell, PlainInvoke, PlainComponent, PlainDesign}
use Rattle.cx_meaning.specs.Instances.{Set}
use Rattle.cx_rewrites.specs.Moving.{moved_assign, moved_group, moved_statement}
use Rattle.cx_rewrites.specs.Renaming.{renamed}
use Rattle.cx_sharing.specs.Giving.{stays, new_cell}

-- the cells of a set, the first of the list having number c
abbrev pub remaining : Set → ℕ → List PlainCell → List PlainCell
remaining set c [] = []
remaining set c (cell ∷ cells) = if set c then cell ∷ remaining set (suc c) cells else remaining set (suc c) cells

abbrev pub shared_invoke : (ℕ → ℕ) → PlainInvoke → PlainInvoke
shared_invoke number invoke = record {
  cell = number invoke.cell;
  written = invoke.written;
  length = invoke.length;
  latency = invoke.latency;
  inputs = map (moved_assign (renamed number)) invoke.inputs;
  captures = invoke.captures;
}

abbrev pub shared_part : PlainComponent → PlainComponent
shared_part part = record {
  name = part.name;
  latency = part.latency;
  inputs = part.inputs;
  outputs = part.outputs;
  cells = remaining (stays part) 0 part.cells;
  groups = map (moved_group (renamed (new_cell part))) part.groups;
  invokes = map (shared_invoke (new_cell part)) part.invokes;
  always = map (moved_assign (renamed (new_cell part))) part.always;
  control = moved_statement (renamed (new_cell part)) part.control;
  place = part.place;
}

abbrev pub shared_design : PlainDesign → PlainDesign
shared_design d = record { components = map shared_part d.components; main = d.main }
