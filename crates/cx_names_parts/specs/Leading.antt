-- The graph of components, and which components lead back to one of a name.
use Rattle.std.specs.Prelude.{◌≡◌, ◌↔◌, ℕ, Bool, false, List, [], ◌∷◌, Option, Some, None, IsTrue, map, length, slice_get}
use Rattle.std.specs.declared.vec.Vec.{Vec}
use Rattle.cx_text.specs.Members.{In}
use Rattle.cx_prim.specs.declared.names.PrimitiveName.{PrimitiveName}
use Rattle.cx_ast.specs.PlainTree.{PlainTree, PlainComponent, PlainCell}
use Rattle.cx_numbering.specs.Names.{number_of, primitive_of, component_names, CellOf, Neither, APrimitive, AComponent}
use Rattle.cx_numbering.specs.NameRules.{leads_back}
use Rattle.cx_graphs.specs.Graphs.{Edges, edges_of, targets_of}
use Rattle.cx_graphs.specs.Ways.{HasCircle, IsTurned}
use Rattle.cx_names_parts.specs.declared.circles.CellCircles.{CellCircles}

-- a primitive's name is no component's
abbrev pub number_or : Option PrimitiveName → Option ℕ → Option ℕ
number_or (Some name) number = None
number_or None number = number

-- the number of the component that a cell is of
abbrev pub cell_number : PlainTree → PlainCell → Option ℕ
cell_number tree cell = number_or (primitive_of cell.kind) (number_of cell.kind (component_names tree))

abbrev pub if_some : Option ℕ → List ℕ → List ℕ
if_some None ns = ns
if_some (Some n) ns = n ∷ ns

abbrev pub numbers_in : PlainTree → List PlainCell → List ℕ
numbers_in tree [] = []
numbers_in tree (cell ∷ cells) = if_some (cell_number tree cell) (numbers_in tree cells)

-- the graph of components, each by its number
abbrev pub component_edges : PlainTree → Edges
component_edges tree = map (λ part. numbers_in tree part.cells) tree.components

-- whether the component of a number leads to one of a name by so many cells
abbrev pub at_part : (PlainComponent → Bool) → Option PlainComponent → Bool
at_part test None = false
at_part test (Some part) = test part

abbrev pub leads_at : PlainTree → List ℕ → ℕ → ℕ → Bool
leads_at tree name n k = at_part (leads_back tree name n) (slice_get tree.components k)

-- whether what a cell is of leads back to the component of a name
abbrev pub is_recursive : PlainTree → List ℕ → CellOf → Bool
is_recursive tree name Neither = false
is_recursive tree name (APrimitive primitive) = false
is_recursive tree name (AComponent part) = leads_back tree name (length tree.components) part

-- the edges, turned round, and whether they have a circle
pub record AreCircles (tree : PlainTree) (circles : CellCircles) : Type 0 where
  pub users : IsTurned (component_edges tree) (edges_of circles.users.items)
  pub circular : IsTrue circles.is_circular ↔ HasCircle (targets_of (component_edges tree))

-- of the components that the cells of a component are of, those that lead back to it are marked
abbrev pub AreMarks : PlainTree → PlainComponent → List Bool → Type 0
AreMarks tree part marks =
    (k : ℕ) → In (numbers_in tree part.cells) k
    → slice_get marks k ≡ Some (leads_at tree part.name (length tree.components) k)

-- without marks none leads back
abbrev pub IsLeading : {A : Type 0} → PlainTree → PlainComponent → Option (Vec Bool A) → Type 0
IsLeading tree part None =
    (k : ℕ) → In (numbers_in tree part.cells) k → leads_at tree part.name (length tree.components) k ≡ false
IsLeading tree part (Some marks) = AreMarks tree part marks.items

-- the cell is one of these
abbrev pub StandsIn : List PlainCell → PlainCell → Type 0
StandsIn cells cell = (i : ℕ) × (slice_get cells i ≡ Some cell)
