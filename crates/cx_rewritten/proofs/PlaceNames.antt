-- NAMES OF PORTS hang on no place: from main on a port has one name in two trees that are the same apart from places.
use Rattle.std.proofs.Common.{◌≡◌, ℕ, zero, suc, List, [], ◌∷◌, ◌++◌, codes, map, refl, sym, ap, ap₂, ◌∙◌}
use Rattle.std.specs.Prelude.{get_or}
use Rattle.cx_prim.specs.Rows.{Row}
use Rattle.cx_meaning.specs.declared.ports.PortRef.{PortRef}
use Rattle.cx_meaning.specs.declared.ports.PortRef.TheVariants as ports
use Rattle.cx_meaning.specs.Designs.{PlainGroup, PlainCell, PlainComponent, PlainDesign, group_at, no_group, no_component}
use Rattle.cx_meaning.specs.Instances.{Instance, Node, Cells, no_cells, a_primitive, an_instance, At, part_of, cells_of, Path, instance_at, child_at, tree_of}
use Rattle.cx_meaning.specs.Sights.{PartPort, Go, AnInput, AnOutput, ItsDone, part_port}
use Rattle.cx_rules.specs.Ports.{declared_name, part_port_name, row_port_name, cell_port_name, cell_name}
use Rattle.cx_rules.specs.FullPaths.{cell_path, own_path, names_along, full_path}
use Rattle.cx_rewrites.specs.Places.{unplaced_cell, unplaced_group, SamePart, SameDesign}
use Rattle.cx_rewrites.proofs.PlaceLemmas.{SameTree, SameCells, SameAt, none_there, a_row_there, a_child_there, same_at, same_parts, same_cells, part_port-same}
use Rattle.cx_rewrites.proofs.PlaceRuns.{same_tree_itself}
use Rattle.cx_rewrites.proofs.PlaceDesigns.{tree_of-same}

-- CELLS and groups
cell_name-unplaced : (cells : List PlainCell) (c : ℕ) → cell_name (map unplaced_cell cells) c ≡ cell_name cells c
cell_name-unplaced [] c = refl
cell_name-unplaced (cell ∷ cells) zero = refl
cell_name-unplaced (cell ∷ cells) (suc c) = cell_name-unplaced cells c

cell_name-same : (part other : PlainComponent) → SamePart part other → (c : ℕ) → cell_name part.cells c ≡ cell_name other.cells c
cell_name-same part other same c = sym (cell_name-unplaced part.cells c) ∙ ap (λ cells. cell_name cells c) same.cells ∙ cell_name-unplaced other.cells c

group_name-unplaced : (groups : List PlainGroup) (g : ℕ) → (get_or (map unplaced_group groups) g no_group).name ≡ (get_or groups g no_group).name
group_name-unplaced [] g = refl
group_name-unplaced (x ∷ xs) zero = refl
group_name-unplaced (x ∷ xs) (suc g) = group_name-unplaced xs g

group_name-same : (part other : PlainComponent) → SamePart part other → (g : ℕ) → (group_at part g).name ≡ (group_at other g).name
group_name-same part other same g =
    sym (group_name-unplaced part.groups g) ∙ ap (λ (groups : List PlainGroup). (get_or groups g no_group).name) same.groups ∙ group_name-unplaced other.groups g

-- PORTS of a component and of what stands at a cell
part_port_name-same : (part other : PlainComponent) → SamePart part other → (p : PartPort) → part_port_name part p ≡ part_port_name other p
part_port_name-same part other same Go = refl
part_port_name-same part other same (AnInput n) = ap (λ decls. declared_name decls n) same.inputs
part_port_name-same part other same (AnOutput n) = ap (λ decls. declared_name decls n) same.outputs
part_port_name-same part other same ItsDone = refl

cell_port_name-same : {at to : At} → SameAt at to → (p : ℕ) → cell_port_name at p ≡ cell_port_name to p
cell_port_name-same none_there p = refl
cell_port_name-same (a_row_there e) p = ap (λ (row : Row). row_port_name row.ports p) e
cell_port_name-same (a_child_there {child = child} {twin = twin} t) p =
    let same = same_parts child twin t in
    part_port_name-same (part_of child) (part_of twin) same (part_port (part_of child) p) ∙ ap (part_port_name (part_of twin)) (part_port-same (part_of child) (part_of twin) same p)

own_path-same : (i j : Instance) → SameTree i j → (port : PortRef) → own_path i port ≡ own_path j port
own_path-same i j t (ports.Cell c p) =
    ap₂ cell_path (cell_name-same (part_of i) (part_of j) (same_parts i j t) c) (cell_port_name-same (same_at (cells_of i) (cells_of j) (same_cells i j t) c) p)
own_path-same i j t (ports.Input n) = ap (λ decls. declared_name decls n) (same_parts i j t).inputs
own_path-same i j t (ports.Output n) = ap (λ decls. declared_name decls n) (same_parts i j t).outputs
own_path-same i j t (ports.Done g) = ap (λ name. name ++ codes "[done]") (group_name-same (part_of i) (part_of j) (same_parts i j t) g)
own_path-same i j t (ports.Literal w v) = refl

-- INSTANCES at a path are the same
mutual
  instance_at-same : (i j : Instance) → SameTree i j → (path : Path) → SameTree (instance_at i path) (instance_at j path)
  instance_at-same (Node part cells) (Node other more) t [] = t
  instance_at-same (Node part cells) (Node other more) t (c ∷ path) = child_at-same cells more t.1 c path

  child_at-same : (cells more : Cells) → SameCells cells more → (c : ℕ) (path : Path) → SameTree (child_at cells c path) (child_at more c path)
  child_at-same no_cells no_cells h c path = same_tree_itself (Node no_component no_cells)
  child_at-same no_cells (a_primitive twin more) h c path = absurd h
  child_at-same no_cells (an_instance twin more) h c path = absurd h
  child_at-same (a_primitive row rest) no_cells h c path = absurd h
  child_at-same (a_primitive row rest) (a_primitive twin more) h zero path = same_tree_itself (Node no_component no_cells)
  child_at-same (a_primitive row rest) (a_primitive twin more) h (suc c) path = child_at-same rest more h.1 c path
  child_at-same (a_primitive row rest) (an_instance twin more) h c path = absurd h
  child_at-same (an_instance child rest) no_cells h c path = absurd h
  child_at-same (an_instance child rest) (a_primitive twin more) h c path = absurd h
  child_at-same (an_instance child rest) (an_instance twin more) h zero path = instance_at-same child twin h.0 path
  child_at-same (an_instance child rest) (an_instance twin more) h (suc c) path = child_at-same rest more h.1 c path

names_along-same : (i j : Instance) → SameTree i j → (path : Path) → names_along i path ≡ names_along j path
names_along-same i j t [] = refl
names_along-same i j t (c ∷ path) =
    ap₂ (λ name rest. name ++ codes "." ++ rest) (cell_name-same (part_of i) (part_of j) (same_parts i j t) c)
    (names_along-same (instance_at i (c ∷ [])) (instance_at j (c ∷ [])) (instance_at-same i j t (c ∷ [])) path)

-- A PORT from main on
pub full_path-same : (d e : PlainDesign) → SameDesign d e → (path : Path) (port : PortRef) → full_path (tree_of d) path port ≡ full_path (tree_of e) path port
full_path-same d e same path port =
    let t = tree_of-same d e same in
    ap₂ ◌++◌ (names_along-same (tree_of d) (tree_of e) t path) (own_path-same (instance_at (tree_of d) path) (instance_at (tree_of e) path) (instance_at-same (tree_of d) (tree_of e) t path) port)
