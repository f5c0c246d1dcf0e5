-- The graph of components: an edge from each to those of its cells.
use Rattle.std.specs.Prelude.{ℕ, List, [], ◌∷◌, ◌++◌, map}
use Rattle.cx_meaning.specs.Designs.{PlainCell, PlainComponent, PlainDesign, component_of_kind}
use Rattle.cx_graphs.specs.Graphs.{Edges}

abbrev pub children_of : List PlainCell → List ℕ
children_of [] = []
children_of (c ∷ cs) = component_of_kind c.kind ++ children_of cs

abbrev pub edges_from : List PlainComponent → Edges
edges_from parts = map (λ part. children_of part.cells) parts

abbrev pub component_edges : PlainDesign → Edges
component_edges d = edges_from d.components
