-- The graph of a component's cells, whose edges are those of its continuous assignments.
use Rattle.std.specs.Prelude.{◌≡◌, ℕ, ◌<◌, List, [], ◌∷◌, ◌++◌, length, slice_set}
use Rattle.cx_graphs.specs.Graphs as graphs
use Rattle.cx_graphs.specs.Graphs.{Edges, IsGraph, targets_of}
use Rattle.cx_meaning.specs.Designs.{PlainAssign, PlainComponent}
use Rattle.cx_text.specs.Members.{In}
use Rattle.cx_race.specs.Cells.{target_in, named_in}

-- an edge leads from a cell of which one of the assignments drives a port to each cell that this assignment names
pub record HasLinks (assigns : List PlainAssign) (g : Edges) : Type 0 where
  pub sound : (c e : ℕ) → In (targets_of g c) e
      → (a : PlainAssign) × In assigns a × In (target_in a) c × In (named_in a) e
  pub all : (c e : ℕ) (a : PlainAssign) → In assigns a → In (target_in a) c → In (named_in a) e → In (targets_of g c) e

-- LINKS of the cells of a component, by its continuous assignments
pub record AreLinks (part : PlainComponent) (g : Edges) : Type 0 where
  pub size : length g ≡ length part.cells
  pub graph : IsGraph g
  pub links : HasLinks part.always g

-- the numbers name cells
abbrev pub Within : ℕ → List ℕ → Type 0
Within count cells = (c : ℕ) → In cells c → c < count

-- a graph with more edges of a node
abbrev pub linked : Edges → List ℕ → List ℕ → Edges
linked g [] more = g
linked g (c ∷ _) more = slice_set g c (targets_of g c ++ more)
