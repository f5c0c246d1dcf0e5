-- Counts over a design: its size, its weight, its instances and its memory words.
use Rattle.std.specs.Prelude.{ℕ, ◌+◌, max, List, [], ◌∷◌, length}
use Rattle.cx_prim.specs.CellStates.{StateShape, NoState, RegisterOf, MemoryOf, SequentialMemoryOf, MultiplierOf, DividerOf, TimerOf}
use Rattle.cx_meaning.specs.Designs.{PlainAssign, PlainGroup, PlainComponent, PlainDesign}
use Rattle.cx_meaning.specs.Instances.{Instance, Node, Cells, no_cells, a_primitive, an_instance, tree_of}
use Rattle.cx_rules.specs.Items.{guard_nodes, statements_in}
use Rattle.cx_rules.specs.StaticControl.{occurrences_of}

-- assignments, each with the nodes of its guard
abbrev pub assigns_size : List PlainAssign → ℕ
assigns_size [] = 0
assigns_size (a ∷ rest) = 1 + guard_nodes a.guard + assigns_size rest

abbrev pub groups_size : List PlainGroup → ℕ
groups_size [] = 0
groups_size (g ∷ gs) = 1 + assigns_size g.assigns + groups_size gs

-- SIZE: the signature ports, cells, groups, assignments, guard nodes, statements, and occurrences before repetition
abbrev pub size_of : PlainComponent → ℕ
size_of part =
    length part.inputs + length part.outputs + length part.cells + groups_size part.groups + assigns_size part.always
    + length (statements_in part) + occurrences_of part (statements_in part)

-- WEIGHT: the sum of size and 1 over the instances of the tree
abbrev mutual
  pub weight_below : Instance → ℕ
  weight_below (Node part cells) = size_of part + 1 + weight_in cells

  pub weight_in : Cells → ℕ
  weight_in no_cells = 0
  weight_in (a_primitive row rest) = weight_in rest
  weight_in (an_instance child rest) = weight_below child + weight_in rest

abbrev pub weight_of : PlainDesign → ℕ
weight_of d = weight_below (tree_of d)

-- S, which bounds the text of compile: the sum of size and 1 over the components, each once
abbrev pub sizes_of : List PlainComponent → ℕ
sizes_of [] = 0
sizes_of (part ∷ parts) = size_of part + 1 + sizes_of parts

abbrev pub design_size : PlainDesign → ℕ
design_size d = sizes_of d.components

-- the instances of the tree
abbrev mutual
  pub instances_below : Instance → ℕ
  instances_below (Node part cells) = 1 + instances_in cells

  pub instances_in : Cells → ℕ
  instances_in no_cells = 0
  instances_in (a_primitive row rest) = instances_in rest
  instances_in (an_instance child rest) = instances_below child + instances_in rest

-- the depth of the tree; main alone is 1
abbrev mutual
  pub depth_below : Instance → ℕ
  depth_below (Node part cells) = 1 + depth_in cells

  pub depth_in : Cells → ℕ
  depth_in no_cells = 0
  depth_in (a_primitive row rest) = depth_in rest
  depth_in (an_instance child rest) = max (depth_below child) (depth_in rest)

-- the words of a memory
abbrev pub shape_words : StateShape → ℕ
shape_words NoState = 0
shape_words (RegisterOf width) = 0
shape_words (MemoryOf width count) = count
shape_words (SequentialMemoryOf width count) = count
shape_words (MultiplierOf width latency) = 0
shape_words (DividerOf width latency) = 0
shape_words (TimerOf length) = 0

-- the memory words over the tree
abbrev mutual
  pub words_below : Instance → ℕ
  words_below (Node part cells) = words_in cells

  pub words_in : Cells → ℕ
  words_in no_cells = 0
  words_in (a_primitive row rest) = shape_words row.shape + words_in rest
  words_in (an_instance child rest) = words_below child + words_in rest
