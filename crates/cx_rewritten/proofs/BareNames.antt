-- NAMES of a tree and of its parts hang on no place.
use Rattle.std.proofs.Common.{◌≡◌, ℕ, Bool, true, false, List, [], ◌∷◌, ◌++◌, Option, Some, None, codes, map, flat_map, option_map, refl, ap, ◌∙◌, if◌then◌else◌}
use Rattle.std.proofs.lemmas.List.{map-append}
use Rattle.cx_prim.specs.declared.names.PrimitiveName.{PrimitiveName}
use Rattle.cx_ast.specs.PlainTree as ast
use Rattle.cx_print.specs.Places.{bare_port, bare_cell, bare_assign, bare_group, bare_wire, bare_component, without_places}
use Rattle.cx_numbering.specs.Names.{same_name, primitive_of, is_own_name, if_not_own, signature_ports, port_names, component_names, cell_names, groups_in, always_in, group_names, component_among, cell_among, group_among, CellOf, Neither, APrimitive, AComponent, primitive_or, cell_of, cell_port_names, found_cell_ports, latency_of, found_latency, cell_go}

-- LISTS: two ways round a square
pub both_ways : {A B C D : Type 0} (f : A → B) (k : B → D) (h : A → C) (g : C → D) → ((x : A) → k (f x) ≡ g (h x)) → (xs : List A) → map k (map f xs) ≡ map g (map h xs)
both_ways f k h g e [] = refl
both_ways f k h g e (x ∷ xs) = ap (λ y. y ∷ map k (map f xs)) (e x) ∙ ap (λ ys. g (h x) ∷ ys) (both_ways f k h g e xs)

pub each_way : {A B C D : Type 0} (f : A → List B) (k : B → D) (h : A → C) (g : C → List D) → ((x : A) → map k (f x) ≡ g (h x)) → (xs : List A) → map k (flat_map f xs) ≡ flat_map g (map h xs)
each_way f k h g e [] = refl
each_way f k h g e (x ∷ xs) = map-append k (f x) (flat_map f xs) ∙ ap (λ ys. ys ++ map k (flat_map f xs)) (e x) ∙ ap (λ ys. g (h x) ++ ys) (each_way f k h g e xs)

pub same_map : {A B : Type 0} (h : A → A) (n : A → B) → ((x : A) → n (h x) ≡ n x) → (xs : List A) → map n (map h xs) ≡ map n xs
same_map h n e [] = refl
same_map h n e (x ∷ xs) = ap (λ y. y ∷ map n (map h xs)) (e x) ∙ ap (λ ys. n x ∷ ys) (same_map h n e xs)

found : {A B : Type 0} (f : A → B) (t : Bool) (x : A) (rest : Option A) (other : Option B) → other ≡ option_map f rest → (if t then Some (f x) else other) ≡ option_map f (if t then Some x else rest)
found f true x rest other e = refl
found f false x rest other e = e

-- PORTS of a signature
pub signature_ports-bare : (list : List ast.PlainPort) → signature_ports (map bare_port list) ≡ map bare_port (signature_ports list)
signature_ports-bare [] = refl
signature_ports-bare (port ∷ rest) = by (is_own_name port.name) (signature_ports-bare rest)
  where
    by : (own : Bool) → signature_ports (map bare_port rest) ≡ map bare_port (signature_ports rest)
        → if_not_own own (bare_port port) (signature_ports (map bare_port rest)) ≡ map bare_port (if_not_own own port (signature_ports rest))
    by true e = e
    by false e = ap (λ ports. bare_port port ∷ ports) e

pub port_names-bare : (list : List ast.PlainPort) → port_names (map bare_port list) ≡ port_names list
port_names-bare list = ap (map (λ port. port.name)) (signature_ports-bare list) ∙ same_map bare_port (λ port. port.name) (λ port. refl) (signature_ports list)

-- COMPONENTS, cells and groups
pub component_names-bare : (tree : ast.PlainTree) → component_names (without_places tree) ≡ component_names tree
component_names-bare tree = same_map bare_component (λ part. part.name) (λ part. refl) tree.components

pub component_among-bare : (name : List ℕ) (parts : List ast.PlainComponent) → component_among name (map bare_component parts) ≡ option_map bare_component (component_among name parts)
component_among-bare name [] = refl
component_among-bare name (part ∷ parts) =
    found bare_component (same_name part.name name) part (component_among name parts) (component_among name (map bare_component parts)) (component_among-bare name parts)

pub cell_names-bare : (part : ast.PlainComponent) → cell_names (bare_component part) ≡ cell_names part
cell_names-bare part = same_map bare_cell (λ cell. cell.name) (λ cell. refl) part.cells

pub cell_among-bare : (name : List ℕ) (cells : List ast.PlainCell) → cell_among name (map bare_cell cells) ≡ option_map bare_cell (cell_among name cells)
cell_among-bare name [] = refl
cell_among-bare name (cell ∷ cells) =
    found bare_cell (same_name cell.name name) cell (cell_among name cells) (cell_among name (map bare_cell cells)) (cell_among-bare name cells)

pub groups_in-bare : (wires : List ast.PlainWire) → groups_in (map bare_wire wires) ≡ map bare_group (groups_in wires)
groups_in-bare [] = refl
groups_in-bare (ast.Group g ∷ rest) = ap (λ gs. bare_group g ∷ gs) (groups_in-bare rest)
groups_in-bare (ast.Assign a ∷ rest) = groups_in-bare rest

pub always_in-bare : (wires : List ast.PlainWire) → always_in (map bare_wire wires) ≡ map bare_assign (always_in wires)
always_in-bare [] = refl
always_in-bare (ast.Group g ∷ rest) = always_in-bare rest
always_in-bare (ast.Assign a ∷ rest) = ap (λ list. bare_assign a ∷ list) (always_in-bare rest)

pub group_names-bare : (part : ast.PlainComponent) → group_names (bare_component part) ≡ group_names part
group_names-bare part = ap (map (λ g. g.name)) (groups_in-bare part.wires) ∙ same_map bare_group (λ g. g.name) (λ g. refl) (groups_in part.wires)

pub group_among-bare : (name : List ℕ) (gs : List ast.PlainGroup) → group_among name (map bare_group gs) ≡ option_map bare_group (group_among name gs)
group_among-bare name [] = refl
group_among-bare name (g ∷ gs) = found bare_group (same_name g.name name) g (group_among name gs) (group_among name (map bare_group gs)) (group_among-bare name gs)

-- WHAT A CELL IS OF
abbrev pub bare_of : CellOf → CellOf
bare_of Neither = Neither
bare_of (APrimitive primitive) = APrimitive primitive
bare_of (AComponent component) = AComponent (bare_component component)

pub cell_of-bare : (tree : ast.PlainTree) (cell : ast.PlainCell) → cell_of (without_places tree) (bare_cell cell) ≡ bare_of (cell_of tree cell)
cell_of-bare tree cell =
    ap (primitive_or (primitive_of cell.kind) cell.numbers) (component_among-bare cell.kind tree.components) ∙ by (primitive_of cell.kind) (component_among cell.kind tree.components)
  where
    by : (name : Option PrimitiveName) (part : Option ast.PlainComponent) → primitive_or name cell.numbers (option_map bare_component part) ≡ bare_of (primitive_or name cell.numbers part)
    by None None = refl
    by None (Some part) = refl
    by (Some name) part = refl

pub cell_port_names-bare : (x : CellOf) → cell_port_names (bare_of x) ≡ cell_port_names x
cell_port_names-bare Neither = refl
cell_port_names-bare (APrimitive primitive) = refl
cell_port_names-bare (AComponent part) =
    ap (λ inputs. codes "go" ∷ (inputs ++ (port_names (map bare_port part.outputs) ++ (codes "done" ∷ [])))) (port_names-bare part.inputs)
    ∙ ap (λ outputs. codes "go" ∷ (port_names part.inputs ++ (outputs ++ (codes "done" ∷ [])))) (port_names-bare part.outputs)

pub found_cell_ports-bare : (tree : ast.PlainTree) (name : List ℕ) (cells : List ast.PlainCell) → found_cell_ports (without_places tree) (cell_among name (map bare_cell cells)) ≡ found_cell_ports tree (cell_among name cells)
found_cell_ports-bare tree name cells = ap (found_cell_ports (without_places tree)) (cell_among-bare name cells) ∙ by (cell_among name cells)
  where
    by : (cell : Option ast.PlainCell) → found_cell_ports (without_places tree) (option_map bare_cell cell) ≡ found_cell_ports tree cell
    by None = refl
    by (Some cell) = ap cell_port_names (cell_of-bare tree cell) ∙ cell_port_names-bare (cell_of tree cell)

pub cell_go-bare : (x : CellOf) → cell_go (bare_of x) ≡ cell_go x
cell_go-bare Neither = refl
cell_go-bare (APrimitive primitive) = refl
cell_go-bare (AComponent part) = refl

latency_of-bare : (x : CellOf) → latency_of (bare_of x) ≡ latency_of x
latency_of-bare Neither = refl
latency_of-bare (APrimitive primitive) = refl
latency_of-bare (AComponent part) = refl

pub found_latency-bare : (tree : ast.PlainTree) (name : List ℕ) (cells : List ast.PlainCell) → found_latency (without_places tree) (cell_among name (map bare_cell cells)) ≡ found_latency tree (cell_among name cells)
found_latency-bare tree name cells = ap (found_latency (without_places tree)) (cell_among-bare name cells) ∙ by (cell_among name cells)
  where
    by : (cell : Option ast.PlainCell) → found_latency (without_places tree) (option_map bare_cell cell) ≡ found_latency tree cell
    by None = refl
    by (Some cell) = ap latency_of (cell_of-bare tree cell) ∙ latency_of-bare (cell_of tree cell)
