-- The names of a source are its own, whatever net it is of.
use Rattle.std.proofs.Common.{◌≡◌, ℕ, suc, Bool, true, false, List, [], ◌∷◌, ◌++◌, map, All, refl, sym, subst, if◌then◌else◌}
use Rattle.std.specs.Prelude.{codes, ◌==◌, ◌||◌}
use Rattle.std.proofs.lemmas.List.Elements.{All-nil, All-cons}
use Rattle.cx_text.specs.Members.{Each}
use Rattle.cx_text.proofs.MemberLaws.{each_append}
use Rattle.cx_prim.specs.PortNames.{text_of}
use Rattle.cx_prim.specs.declared.ports.PortRow.{PortRow}
use Rattle.cx_prim.specs.Table.{PrimitiveRow, row_of}
use Rattle.cx_vtree.specs.InstanceTree.{same_name}
use Rattle.cx_vtree.specs.Plain.{PlainPort, PlainInstance, PlainModule}
use Rattle.cx_vtree.specs.Sound.{decl_name}
use Rattle.cx_vmods.specs.Spelling.{spelled}
use Rattle.cx_vmods.specs.Parts.{Piece, Wire, Output, Register, Array, Store, Interior, nothing, with_piece, with_pieces}
use Rattle.cx_vmods.specs.Modules.{port_of, pieces_of, module_of}
use Rattle.cx_net.specs.Nets.{PlainNetComponent, PlainNet}
use Rattle.cx_net.proofs.NetsLemmas.{each_all}
use Rattle.cx_emit.specs.Names.{numbered, module_name, primitive_name}
use Rattle.cx_emit.specs.Numbered.{numbered_from, with_numbers, lists_from}
use Rattle.cx_emit.specs.Signatures.{PlainCellPorts, input_port, output_port, module_ports, primitive_module, cell_ports}
use Rattle.cx_emit.specs.Sources.{port_decl, cell_decls, wire_decl, register_decl, decls_with, cell_instance, component_module, primitive_modules, source_of}
use Rattle.cx_emit.specs.Shapes.{is_own_name, named_in, HasOwnNames}
use Rattle.cx_emit.proofs.NetPrimitives.{its_primitives}
use Rattle.cx_emit.proofs.PortPlaces.{done_port}
use Rattle.cx_vtree.proofs.InstanceTreeLemmas.{same_is}

abbrev IsOwn : List ℕ → Type 0
IsOwn name = is_own_name name ≡ true

-- LISTS of names that are its own
abbrev Own : {A : Type 0} → (A → List ℕ) → List A → Type 0
Own name xs = Each (λ x. IsOwn (name x)) xs

own_map : {A : Type 0} (name : A → List ℕ) (xs : List A) → Own name xs → Each IsOwn (map name xs)
own_map name [] h = tt
own_map name (x ∷ xs) h = (h.0, own_map name xs h.1)

own_numbered : {A B : Type 0} (name : B → List ℕ) (f : ℕ → A → B) → ((n : ℕ) (x : A) → IsOwn (name (f n x))) → (b : ℕ) (xs : List A) → Own name (numbered_from f b xs)
own_numbered name f own b [] = tt
own_numbered name f own b (x ∷ xs) = (own b x, own_numbered name f own (suc b) xs)

-- a name behind `cx_`
behind_own : (rest : List ℕ) → IsOwn (codes "cx_" ++ rest)
behind_own rest = refl

-- NAMES of the module of a primitive
spelled_own : (name : List ℕ) → IsOwn (spelled name)
unfolding spelled
spelled_own name = by_go (same_name name (codes "go")) (same_name name (codes "done")) refl refl where
  by_go : (g d : Bool) → same_name name (codes "go") ≡ g → same_name name (codes "done") ≡ d → IsOwn (if g || d then name else codes "cx_" ++ name)
  by_go true d is other = subst IsOwn (sym (same_is name (codes "go") is)) refl
  by_go false true is other = subst IsOwn (sym (same_is name (codes "done") other)) refl
  by_go false false is other = behind_own name

piece_own : (i : Interior) (p : Piece) → Own decl_name i.decls → Own decl_name (with_piece i p).decls
unfolding with_piece
piece_own i (Wire name width value) h = each_append _ i.decls _ h (spelled_own name, tt)
piece_own i (Output name value) h = h
piece_own i (Register name width next) h = each_append _ i.decls _ h (spelled_own name, tt)
piece_own i (Array name width size) h = each_append _ i.decls _ h (spelled_own name, tt)
piece_own i (Store guard array index value) h = h

pieces_own : (i : Interior) (ps : List Piece) → Own decl_name i.decls → Own decl_name (with_pieces i ps).decls
pieces_own i [] h = h
pieces_own i (p ∷ ps) h = pieces_own (with_piece i p) ps (piece_own i p h)

row_own : (ports : List PortRow) → Own (λ (p : PlainPort). p.name) (map port_of ports)
row_own [] = tt
row_own (p ∷ ports) = (spelled_own (text_of p.name), row_own ports)

primitive_own : (p : PrimitiveRow) (name : List ℕ) → IsOwn name → Each IsOwn (named_in (module_of p name))
primitive_own p name own =
    let m : PlainModule = module_of p name in (
      own,
      each_append _ (map (λ q. q.name) m.ports) _ (refl, (refl, own_map (λ (q : PlainPort). q.name) (map port_of (row_of p).ports) (row_own (row_of p).ports)))
          (each_append _ (map decl_name m.decls) [] (own_map decl_name m.decls (pieces_own nothing (pieces_of p.name p.numbers) tt)) tt),
    )

-- NAMES of the module of a component
module_own : (main k : ℕ) → IsOwn (module_name main k)
module_own main k = by_main (k == main) where
  by_main : (b : Bool) → IsOwn (if b then codes "main" else numbered (codes "m") k)
  by_main true = refl
  by_main false = refl

cells_own : (b : ℕ) (cells : List PlainCellPorts) → Own decl_name (lists_from cell_decls b cells)
cells_own b [] = tt
cells_own b (cell ∷ cells) = each_append _ (cell_decls b cell) (lists_from cell_decls (suc b) cells) (own_numbered decl_name (port_decl b) (λ n x. refl) 0 cell.ports) (cells_own (suc b) cells)

decls_own : (part : PlainNetComponent) (cells : List PlainCellPorts) → Own decl_name (decls_with part cells)
decls_own part cells =
    each_append _ (lists_from cell_decls 0 cells ++ with_numbers wire_decl part.wires) (with_numbers register_decl part.registers)
    (each_append _ (lists_from cell_decls 0 cells) (with_numbers wire_decl part.wires) (cells_own 0 cells) (own_numbered decl_name wire_decl (λ n x. refl) 0 part.wires))
    (own_numbered decl_name register_decl (λ n x. refl) 0 part.registers)

ports_own : (part : PlainNetComponent) → Own (λ (p : PlainPort). p.name) (module_ports part)
ports_own part =
    let signature = each_append _ (with_numbers input_port part.inputs ++ with_numbers output_port part.outputs) (done_port ∷ [])
    (each_append _ (with_numbers input_port part.inputs) (with_numbers output_port part.outputs) (own_numbered (λ (p : PlainPort). p.name) input_port (λ n x. refl) 0 part.inputs)
    (own_numbered (λ (p : PlainPort). p.name) output_port (λ n x. refl) 0 part.outputs))
    (refl, tt) in
    (refl, (refl, (refl, signature)))

component_own : (net : PlainNet) (k : ℕ) (part : PlainNetComponent) → Each IsOwn (named_in (component_module net k part))
component_own net k part =
    let m : PlainModule = component_module net k part in (
      module_own net.main k,
      each_append _ (map (λ p. p.name) m.ports) _ (own_map (λ (p : PlainPort). p.name) m.ports (ports_own part))
          (each_append _ (map decl_name m.decls) _ (own_map decl_name m.decls (decls_own part (map (cell_ports net) part.cells)))
          (own_map (λ (i : PlainInstance). i.name) m.instances (own_numbered (λ (i : PlainInstance). i.name) cell_instance (λ n x. refl) 0 (map (cell_ports net) part.cells)))),
    )

-- THE MODULES of a net
abbrev AreOwn : List PlainModule → Type 0
AreOwn ms = Each (λ m. Each IsOwn (named_in m)) ms

primitives_own : (ps : List PrimitiveRow) → AreOwn (map primitive_module ps)
primitives_own [] = tt
primitives_own (p ∷ ps) = (primitive_own p (primitive_name p) refl, primitives_own ps)

components_own : (net : PlainNet) (b : ℕ) (parts : List PlainNetComponent) → AreOwn (numbered_from (component_module net) b parts)
components_own net b [] = tt
components_own net b (part ∷ parts) = (component_own net b part, components_own net (suc b) parts)

modules_own : (net : PlainNet) → AreOwn (source_of net).modules
modules_own net = each_append _ (primitive_modules net) (with_numbers (component_module net) net.components) (primitives_own (its_primitives net)) (components_own net 0 net.components)

all_own : (ms : List PlainModule) → AreOwn ms → All (λ m. All IsOwn (named_in m)) ms
all_own [] h = All-nil (λ m. All IsOwn (named_in m))
all_own (m ∷ ms) h = All-cons (λ x. All IsOwn (named_in x)) m ms (each_all IsOwn (named_in m) h.0) (all_own ms h.1)

-- all names in the source of a net are its own
pub source_own_names : (net : PlainNet) → HasOwnNames (source_of net)
source_own_names net = all_own (source_of net).modules (modules_own net)
