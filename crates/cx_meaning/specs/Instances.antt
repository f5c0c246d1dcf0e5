-- The instance tree of a design, and its states.
use Rattle.std.specs.Prelude.{◌≡◌, ℕ, zero, suc, Bool, true, false, List, [], ◌∷◌, ◌++◌, length, map, if◌then◌else◌}
use Rattle.cx_prim.specs.CellStates.{CellState, Stateless}
use Rattle.cx_prim.specs.CellStates as cell_states
use Rattle.cx_prim.specs.Rows.{Row}
use Rattle.cx_prim.specs.Table.{row_of}
use Rattle.cx_meaning.specs.Designs.{PlainKind, OfPrimitive, OfComponent, PlainCell, PlainComponent, PlainDesign, component_at, no_component}

-- an instance: its component, and for each of its cells, in cell order, the row of the primitive or an instance of the component
mutual
  pub data Instance : Type 0 where
    Node : (part : PlainComponent) (cells : Cells) → Instance

  pub data Cells : Type 0 where
    no_cells : Cells
    a_primitive : (row : Row) (rest : Cells) → Cells
    an_instance : (child : Instance) (rest : Cells) → Cells

abbrev pub part_of : Instance → PlainComponent
part_of (Node part cells) = part

abbrev pub cells_of : Instance → Cells
cells_of (Node part cells) = cells

-- what stands at a cell's number
pub data At : Type 0 where
  Nothing : At
  OfRow : (row : Row) → At
  OfInstance : (child : Instance) → At

-- how many inputs a component cell has
abbrev pub input_count : At → ℕ
input_count Nothing = 0
input_count (OfRow row) = 0
input_count (OfInstance child) = length (part_of child).inputs

abbrev pub cell_at : Cells → ℕ → At
cell_at no_cells c = Nothing
cell_at (a_primitive row rest) zero = OfRow row
cell_at (a_primitive row rest) (suc c) = cell_at rest c
cell_at (an_instance child rest) zero = OfInstance child
cell_at (an_instance child rest) (suc c) = cell_at rest c

abbrev pub cell_count : Cells → ℕ
cell_count no_cells = 0
cell_count (a_primitive row rest) = suc (cell_count rest)
cell_count (an_instance child rest) = suc (cell_count rest)

-- THE INSTANCE TREE: a primitive cell has its row, and a component cell an instance
abbrev pub add_cell : (ℕ → Instance) → PlainKind → Cells → Cells
add_cell child (OfPrimitive primitive) rest = a_primitive (row_of primitive) rest
add_cell child (OfComponent k) rest = an_instance (child k) rest

abbrev pub cells_for : (ℕ → Instance) → List PlainCell → Cells
cells_for child [] = no_cells
cells_for child (c ∷ cs) = add_cell child c.kind (cells_for child cs)

-- the tree below a component, with at most so many levels below it
abbrev pub tree_within : PlainDesign → ℕ → ℕ → Instance
tree_within d zero k = Node (component_at d k) no_cells
tree_within d (suc n) k = Node (component_at d k) (cells_for (tree_within d n) (component_at d k).cells)

-- no cell of a design leads back to its component, so no tree has more levels than there are components
abbrev pub tree_of : PlainDesign → Instance
tree_of d = tree_within d (length d.components) d.main

-- a path names a cell: the numbers of the cells that lead from an instance to it. A state gives each primitive cell its state
abbrev pub Path : Type 0
Path = List ℕ

abbrev pub State : Type 0
State = Path → CellState

-- the state of the child at a cell
abbrev pub under : ℕ → State → State
under c s path = s (c ∷ path)

-- a set of cells of an instance. A component's cell stands for all that is below it
abbrev pub Set : Type 0
Set = ℕ → Bool

-- the cells of the set from one state, and the others from another
abbrev pub merge : Set → State → State → State
merge set a b [] = b []
merge set a b (c ∷ path) = if set c then a (c ∷ path) else b (c ∷ path)

abbrev pub just : ℕ → Set
just zero zero = true
just zero (suc d) = false
just (suc c) zero = false
just (suc c) (suc d) = just c d

-- a child's state, put back at its cell
abbrev pub beneath : State → State
beneath own [] = own []
beneath own (c ∷ path) = own path

abbrev pub put : ℕ → State → State → State
put c own s = merge (just c) (beneath own) s

-- in pre-order: the paths of the instances of the tree, the instance itself first
abbrev pub behind : ℕ → List Path → List Path
behind c paths = map (λ path. c ∷ path) paths

abbrev mutual
  pub paths_of : Instance → List Path
  paths_of (Node part cells) = [] ∷ paths_below cells 0

  pub paths_below : Cells → ℕ → List Path
  paths_below no_cells c = []
  paths_below (a_primitive row rest) c = paths_below rest (suc c)
  paths_below (an_instance child rest) c = behind c (paths_of child) ++ paths_below rest (suc c)

-- the instance at a path
abbrev mutual
  pub instance_at : Instance → Path → Instance
  instance_at (Node part cells) [] = Node part cells
  instance_at (Node part cells) (c ∷ path) = child_at cells c path

  pub child_at : Cells → ℕ → Path → Instance
  child_at no_cells c path = Node no_component no_cells
  child_at (a_primitive row rest) zero path = Node no_component no_cells
  child_at (a_primitive row rest) (suc c) path = child_at rest c path
  child_at (an_instance child rest) zero path = instance_at child path
  child_at (an_instance child rest) (suc c) path = child_at rest c path

-- every cell in the idle edge of its row
abbrev mutual
  pub idle_at : Instance → Path → CellState → CellState
  idle_at (Node part cells) [] d = d
  idle_at (Node part cells) (c ∷ path) d = idle_below cells c path d

  pub idle_below : Cells → ℕ → Path → CellState → CellState
  idle_below no_cells c path d = d
  idle_below (a_primitive row rest) zero [] d = row.idle d
  idle_below (a_primitive row rest) zero (e ∷ path) d = d
  idle_below (a_primitive row rest) (suc c) path d = idle_below rest c path d
  idle_below (an_instance child rest) zero path d = idle_at child path d
  idle_below (an_instance child rest) (suc c) path d = idle_below rest c path d

abbrev pub idle : Instance → State → State
idle i s path = idle_at i path (s path)

-- an idle turn changes nothing
abbrev pub IsSettled : Instance → State → Type 0
IsSettled i s = (path : Path) → idle i s path ≡ s path

-- every cell at its row's start
abbrev mutual
  pub start_at : Instance → Path → CellState
  start_at (Node part cells) [] = Stateless
  start_at (Node part cells) (c ∷ path) = start_below cells c path

  pub start_below : Cells → ℕ → Path → CellState
  start_below no_cells c path = Stateless
  start_below (a_primitive row rest) zero path = row.start
  start_below (a_primitive row rest) (suc c) path = start_below rest c path
  start_below (an_instance child rest) zero path = start_at child path
  start_below (an_instance child rest) (suc c) path = start_below rest c path

-- the external memories of main among its cells, in cell order
abbrev pub if_external : Bool → ℕ → List ℕ → List ℕ
if_external true c cs = c ∷ cs
if_external false c cs = cs

abbrev pub externals_from : ℕ → List PlainCell → List ℕ
externals_from c [] = []
externals_from c (cell ∷ cells) = if_external cell.external c (externals_from (suc c) cells)

abbrev pub externals_of : PlainComponent → List ℕ
externals_of part = externals_from 0 part.cells

-- the words that stand for a cell in a list for the external memories, or none of the list
abbrev pub loaded_at : List ℕ → List (List ℕ) → ℕ → CellState → CellState
loaded_at [] words c d = d
loaded_at (e ∷ es) [] c d = d
loaded_at (e ∷ es) (w ∷ ws) c d = if just e c then cell_states.with_words w d else loaded_at es ws c d

-- START: every cell at its row's start, but the external memories of main with the loaded words
abbrev pub start : Instance → List (List ℕ) → State
start i words [] = start_at i []
start i words (c ∷ []) = loaded_at (externals_of (part_of i)) words c (start_at i (c ∷ []))
start i words (c ∷ e ∷ path) = start_at i (c ∷ e ∷ path)

-- the words of the external memories
abbrev pub words_of : Instance → State → List (List ℕ)
words_of i s = map (λ c. cell_states.words_of (s (c ∷ []))) (externals_of (part_of i))
