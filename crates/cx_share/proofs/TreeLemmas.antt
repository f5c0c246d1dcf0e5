-- Rows, cells and names of a shared tree.
use Rattle.std.proofs.Common.{◌≡◌, ℕ, zero, suc, ◌+◌, ◌<◌, true, false, nat_eq, List, [], ◌∷◌, ◌++◌, Option, None, Some, option_map, get_or, length, map, flat_map, refl, sym, ap, ◌∙◌, arith, append_assoc, add-one}
use Rattle.std.proofs.Math.Path.{fun_ext}
use Rattle.std.proofs.lemmas.List.{length-map, get_or-map}
use Rattle.cx_text.proofs.ListLaws.{two_maps}
use Rattle.cx_ast.specs.PlainTree as ast
use Rattle.cx_ast.specs.declared.components.Attribute.{Attribute}
use Rattle.cx_ast.specs.declared.components.Mark.{Mark}
use Rattle.cx_ast.specs.PlainStatements.{PlainBlock}
use Rattle.cx_copies.specs.Naming.{named_wire, named_block}
use Rattle.cx_ast.specs.declared.trees.ImportItem.{ImportItem}
use Rattle.cx_ast.specs.declared.trees.Tree.{Tree}
use Rattle.cx_design.specs.declared.cells.Cell.{Cell}
use Rattle.cx_design.specs.declared.components.Component.{Component}
use Rattle.cx_design.specs.PlainForms as design
use Rattle.cx_numbering.specs.DesignOf.{design_of, component_of, plain_cell_of}
use Rattle.cx_meaning.specs.Designs.{PlainCell, PlainComponent, PlainDesign, no_component}
use Rattle.cx_rules.specs.Ports.{cell_name}
use Rattle.cx_numbering.specs.Names.{number_of}
use Rattle.cx_names_scopes.proofs.NameLemmas.{number_within}
use Rattle.cx_sharing.specs.declared.rows.SharedRow.{SharedRow}
use Rattle.cx_sharing.specs.Giving.{keeper, stays}
use Rattle.cx_sharing.specs.SharedRows.{row_of, rows_from, rows_of, shared_rows}
use Rattle.cx_sharing.specs.SharedTree.{left_cells, kept_name, keeper_name, shared_component, shared_components, shared_tree}
use Rattle.std.specs.declared.vec.Vec.{Vec}
use Rattle.cx_share.specs.Marks.{lists_of}
use Rattle.cx_share.specs.Givings.{AreKeepers, AllKeepers}
use Rattle.cx_share.specs.Naming.{name_by, AreKeeperNames}
use Rattle.cx_meaning.proofs.InstancesLemmas.{just_other, just_is, just_same}

pub stays_itself : (part : PlainComponent) (c : ℕ) → keeper part c ≡ c → stays part c ≡ true
stays_itself part c e = ap (λ k. nat_eq k c) e ∙ sym (just_is c c) ∙ just_same c

pub goes : (part : PlainComponent) (c : ℕ) → (keeper part c ≡ c → ⊥) → stays part c ≡ false
goes part c h = sym (just_is (keeper part c) c) ∙ just_other (keeper part c) c h

-- a cell that stays has no row
pub row_none : (part : PlainComponent) (c more less : ℕ) (before whole : List SharedRow) → more ≡ suc less → stays part c ≡ true
    → before ++ rows_from part c more ≡ whole → before ++ rows_from part (c + 1) less ≡ whole
row_none part c more less before whole e stay h = rw (add-one c) (rw (e, stay) at h)

-- and a given one has its row
pub row_more : (part : PlainComponent) (c more less : ℕ) (before whole : List SharedRow) (row : SharedRow) → more ≡ suc less → stays part c ≡ false → row ≡ row_of part c
    → before ++ rows_from part c more ≡ whole → (before ++ row ∷ []) ++ rows_from part (c + 1) less ≡ whole
row_more part c more less before whole row e gone is h =
    rw (add-one c) (append_assoc before (row ∷ []) (rows_from part (suc c) less) ∙ ap (λ r. before ++ r ∷ rows_from part (suc c) less) is ∙ (rw (e, gone) at h))

-- cells that are left
pub cell_stays : (part : PlainComponent) (c : ℕ) (cell copy : ast.PlainCell) (rest before whole : List ast.PlainCell) → stays part c ≡ true → copy ≡ cell
    → before ++ left_cells part c (cell ∷ rest) ≡ whole → (before ++ copy ∷ []) ++ left_cells part (c + 1) rest ≡ whole
cell_stays part c cell copy rest before whole stay is h =
    rw (add-one c) (append_assoc before (copy ∷ []) (left_cells part (suc c) rest) ∙ ap (λ x. before ++ x ∷ left_cells part (suc c) rest) is ∙ (rw stay at h))

pub cell_goes : (part : PlainComponent) (c : ℕ) (cell : ast.PlainCell) (rest before whole : List ast.PlainCell) → stays part c ≡ false
    → before ++ left_cells part c (cell ∷ rest) ≡ whole → before ++ left_cells part (c + 1) rest ≡ whole
cell_goes part c cell rest before whole gone h = rw (add-one c) (rw gone at h)

names_kept_at : (part : PlainComponent) (names : List (List ℕ)) (found : Option ℕ) (name : List ℕ) → number_of name (map (λ cell. cell.name) part.cells) ≡ found
    → AreKeeperNames part (length part.cells) names → name_by found names name ≡ keeper_name part found name
names_kept_at part names None name e k = refl
names_kept_at part names (Some n) name e k =
    let within : n < length (map (λ cell. cell.name) part.cells) = number_within name (map (λ cell. cell.name) part.cells) n e in
    let below : n < length part.cells = rw (length-map part.cells (λ cell. cell.name)) at within in
    k.named n below name

-- the names of kept cells, by numbers
pub names_kept : (part : PlainComponent) (names : List (List ℕ)) (found : Option ℕ) (name : List ℕ) → found ≡ number_of name (map (λ cell. cell.name) part.cells)
    → AreKeeperNames part (length part.cells) names → name_by found names name ≡ kept_name part name
names_kept part names found name e k =
    ap (λ o. name_by o names name) e ∙ names_kept_at part names (number_of name (map (λ cell. cell.name) part.cells)) name refl k

pub name_at_cell : (cells : List PlainCell) (c : ℕ) (d : PlainCell) → c < length cells → cell_name cells c ≡ (get_or cells c d).name
name_at_cell [] c d lt = absurd (omega arith)
name_at_cell (cell ∷ cells) zero d lt = refl
name_at_cell (cell ∷ cells) (suc c) d lt = name_at_cell cells c d (let h : suc c < suc (length cells) = lt in omega arith)

-- counts that are alike, list by list
pub counts_at : {A B : Type 0} (f : A → ℕ) (g : B → ℕ) (xs : List A) (ys : List B) (i : ℕ) (x : A) (y : B) → map f xs ≡ map g ys → i < length xs → i < length ys
    → x ≡ get_or xs i x → y ≡ get_or ys i y → f x ≡ g y
counts_at f g xs ys i x y e lt lt' at at' =
    ap f at ∙ sym (get_or-map f xs i x 0 lt) ∙ ap (λ l. get_or l i 0) e ∙ get_or-map g ys i y 0 lt' ∙ ap g (sym at')

pub counts_long : {A B : Type 0} (f : A → ℕ) (g : B → ℕ) (xs : List A) (ys : List B) → map f xs ≡ map g ys → length xs ≡ length ys
counts_long f g xs ys e = sym (length-map xs f) ∙ ap length e ∙ length-map ys g

-- a component of the design of a tree has as many cells as that of the tree
pub counts_alike : (tree : Tree) (parts : List Component) → map design.plain_component parts ≡ (design_of (ast.plain_tree tree)).components
    → map (λ part. length part.cells.items) parts ≡ map (λ item. length item.cells.items) tree.components.items
counts_alike tree parts e =
    sym (two_maps design.plain_component (λ c. length c.cells) (λ part. length part.cells.items) (λ part. length-map part.cells.items design.plain_cell) parts)
    ∙ ap (map (λ c. length c.cells)) e
    ∙ two_maps (component_of (ast.plain_tree tree)) (λ c. length c.cells) (λ item. length item.cells) (λ item. length-map item.cells (plain_cell_of (ast.plain_tree tree) item)) (map ast.plain_component tree.components.items)
    ∙ two_maps ast.plain_component (λ item. length item.cells) (λ item. length item.cells.items) (λ item. length-map item.cells.items ast.plain_cell) tree.components.items

-- THE SHARED TREE and its rows
pub tree_made : (d : PlainDesign) (t : ast.PlainTree) (imports : List ImportItem) (components : List ast.PlainComponent) (whole : ast.PlainTree) → d ≡ design_of t → imports ≡ t.imports
    → components ≡ shared_components d.components t.components → whole ≡ record { imports = imports; components = components } → whole ≡ shared_tree t
tree_made d t imports components whole e i k w =
    w ∙ ap (λ x. record { imports = x; components = components }) i ∙ ap (λ x. record { imports = t.imports; components = x }) (k ∙ ap (λ v. shared_components v.components t.components) e)

pub rows_made : (d : PlainDesign) (t : ast.PlainTree) (rows : List SharedRow) → d ≡ design_of t → rows ≡ flat_map rows_of d.components → rows ≡ shared_rows t
rows_made d t rows e r = r ∙ ap (λ v. flat_map rows_of v.components) e

-- lists of keepers as they lie in memory
pub keepers_long : (A : Type 0) (parts : List Component) (keepers : List (Vec ℕ A)) → AllKeepers (map design.plain_component parts) (lists_of keepers) → length keepers ≡ length parts
keepers_long A parts keepers k = sym (length-map keepers (λ (v : Vec ℕ A). v.items)) ∙ k.count ∙ length-map parts design.plain_component

pub keepers_at : (A : Type 0) (parts : List Component) (keepers : List (Vec ℕ A)) (n : ℕ) (part : Component) (list : Vec ℕ A) → AllKeepers (map design.plain_component parts) (lists_of keepers)
    → n < length parts → part ≡ get_or parts n part → list ≡ get_or keepers n list → AreKeepers (design.plain_component part) list.items
keepers_at A parts keepers n part list k lt at there =
    let below : n < length (map design.plain_component parts) = rw (length-map parts design.plain_component) lt in
    let inside : n < length keepers = rw (keepers_long A parts keepers k) lt in
    let one : get_or (map design.plain_component parts) n no_component ≡ design.plain_component part = get_or-map design.plain_component parts n part no_component lt ∙ ap design.plain_component (sym at) in
    let two : get_or (lists_of keepers) n [] ≡ list.items = get_or-map (λ (v : Vec ℕ A). v.items) keepers n list [] inside ∙ ap (λ (v : Vec ℕ A). v.items) (sym there) in
    rw (one, two) at (k.each n below)

-- one more component
pub components_step : (part : PlainComponent) (item copy : ast.PlainComponent) (parts : List PlainComponent) (items before whole : List ast.PlainComponent) → copy ≡ shared_component part item
    → before ++ shared_components (part ∷ parts) (item ∷ items) ≡ whole → (before ++ copy ∷ []) ++ shared_components parts items ≡ whole
components_step part item copy parts items before whole is h =
    append_assoc before (copy ∷ []) (shared_components parts items) ∙ ap (λ x. before ++ x ∷ shared_components parts items) is ∙ h

abbrev component_by : ast.PlainComponent → List Attribute → List ℕ → List Mark → List ast.PlainPort → List ast.PlainPort → List ast.PlainCell → List ast.PlainWire → Option PlainBlock → ast.PlainComponent
component_by item attributes name marks inputs outputs cells wires control = record {
  attributes = attributes;
  length = item.length;
  name = name;
  marks = marks;
  inputs = inputs;
  outputs = outputs;
  cells = cells;
  wires = wires;
  control = control;
  place = item.place;
}

-- a component whose parts are copied, with the names of kept cells
pub component_made : (part : PlainComponent) (item : ast.PlainComponent) (names : List ℕ → List ℕ) (attributes : List Attribute) (name : List ℕ) (marks : List Mark) (inputs outputs : List ast.PlainPort)
    (cells : List ast.PlainCell) (wires : List ast.PlainWire) (control : Option PlainBlock) → ((cell : List ℕ) → names cell ≡ kept_name part cell)
    → attributes ≡ item.attributes → name ≡ item.name → marks ≡ item.marks → inputs ≡ item.inputs → outputs ≡ item.outputs → cells ≡ left_cells part 0 item.cells
    → wires ≡ map (named_wire names) item.wires → control ≡ option_map (named_block names) item.control
    → component_by item attributes name marks inputs outputs cells wires control ≡ shared_component part item
component_made part item names attributes name marks inputs outputs cells wires control kept ea en em ei eo ec ew et =
    ap (λ x. component_by item x name marks inputs outputs cells wires control) ea
    ∙ ap (λ x. component_by item item.attributes x marks inputs outputs cells wires control) en
    ∙ ap (λ x. component_by item item.attributes item.name x inputs outputs cells wires control) em
    ∙ ap (λ x. component_by item item.attributes item.name item.marks x outputs cells wires control) ei
    ∙ ap (λ x. component_by item item.attributes item.name item.marks item.inputs x cells wires control) eo
    ∙ ap (λ x. component_by item item.attributes item.name item.marks item.inputs item.outputs x wires control) ec
    ∙ ap (λ x. component_by item item.attributes item.name item.marks item.inputs item.outputs (left_cells part 0 item.cells) x control) (ew ∙ ap (λ f. map (named_wire f) item.wires) same)
    ∙ ap (component_by item item.attributes item.name item.marks item.inputs item.outputs (left_cells part 0 item.cells) (map (named_wire (kept_name part)) item.wires))
    (et ∙ ap (λ f. option_map (named_block f) item.control) same)
  where
    same : names ≡ kept_name part
    same = fun_ext kept

pub name_there : (cells : List Cell) (c : ℕ) (cell : Cell) → c < length cells → cell ≡ get_or cells c cell → cell_name (map design.plain_cell cells) c ≡ cell.name
name_there cells c cell lt at =
    name_at_cell (map design.plain_cell cells) c (design.plain_cell cell) (rw (length-map cells design.plain_cell) lt)
    ∙ ap (λ (k : PlainCell). k.name) (get_or-map design.plain_cell cells c cell (design.plain_cell cell) lt ∙ ap design.plain_cell (sym at))

-- the row of a given cell
pub row_made : (part : PlainComponent) (c k : ℕ) (row : SharedRow) → k ≡ keeper part c → row.component ≡ part.name → row.cell ≡ cell_name part.cells c → row.kept ≡ cell_name part.cells k → row ≡ row_of part c
row_made part c k row same e f g =
    ap (λ x. record { component = x; cell = row.cell; kept = row.kept }) e
    ∙ ap (λ x. record { component = part.name; cell = x; kept = row.kept }) f
    ∙ ap (λ x. record { component = part.name; cell = cell_name part.cells c; kept = x }) (g ∙ ap (cell_name part.cells) same)

-- the rows of one more component
pub rows_next : (part : PlainComponent) (parts : List PlainComponent) (before after whole : List SharedRow) → after ≡ before ++ rows_of part → before ++ flat_map rows_of (part ∷ parts) ≡ whole
    → after ++ flat_map rows_of parts ≡ whole
rows_next part parts before after whole e h = ap (λ xs. xs ++ flat_map rows_of parts) e ∙ append_assoc before (rows_of part) (flat_map rows_of parts) ∙ h
