-- The reset of each module of the source of a net.
use Rattle.std.proofs.Common.{◌≡◌, ℕ, suc, ◌==◌, List, [], ◌∷◌, ◌++◌, Some, None, length, map, if◌then◌else◌, refl, sym, ap, subst, arith}
use Rattle.std.specs.Prelude.{All}
use Rattle.std.proofs.lemmas.Bool.{ne_eqb}
use Rattle.std.proofs.lemmas.List.Elements.{All-nil, All-cons, All-append}
use Rattle.cx_prim.specs.Table.{PrimitiveRow}
use Rattle.cx_vtree.specs.Edges.{acting_sets}
use Rattle.cx_vtree.specs.Plain.{PlainDecl, PlainAssign, PlainItem}
use Rattle.cx_net.specs.Nets.{PlainNetComponent, PlainNet}
use Rattle.cx_emit.specs.Names.{primitive_name}
use Rattle.cx_emit.specs.Numbered.{numbered_from, with_numbers, lists_from}
use Rattle.cx_emit.specs.Signatures.{PlainCellPorts, primitive_module, cell_ports}
use Rattle.cx_emit.specs.Sources.{port_decl, cell_decls, wire_decl, register_decl, register_reset, register_step, edge_of, decls_with, component_module, primitive_modules, source_of}
use Rattle.cx_emit.proofs.NetPrimitives.{its_primitives}
use Rattle.cx_emitted.specs.Resets.{IsZero, IsSetAmong, HasReset, IsReset}
use Rattle.cx_emitted.proofs.SetLemmas.{set_left, set_right, set_alone}
use Rattle.cx_emitted.proofs.PieceLemmas.{primitive_reset}

-- lists that are made element by element
all_numbered : {A B : Type 0} (P : B → Type 0) (f : ℕ → A → B) → ((n : ℕ) (x : A) → P (f n x)) → (b : ℕ) (xs : List A) → All P (numbered_from f b xs)
all_numbered P f each b [] = All-nil P
all_numbered P f each b (x ∷ xs) = All-cons P (f b x) (numbered_from f (suc b) xs) (each b x) (all_numbered P f each (suc b) xs)

all_lists : {A B : Type 0} (P : B → Type 0) (f : ℕ → A → List B) → ((n : ℕ) (x : A) → All P (f n x)) → (b : ℕ) (xs : List A) → All P (lists_from f b xs)
all_lists P f each b [] = All-nil P
all_lists P f each b (x ∷ xs) = All-append P (f b x) (lists_from f (suc b) xs) (each b x) (all_lists P f each (suc b) xs)

-- the registers of a component, from number b on
sets_zero : (b : ℕ) (ws : List ℕ) → All IsZero (numbered_from register_reset b ws)
sets_zero b ws = all_numbered IsZero register_reset (λ n w. (record { width = w; value = 0 }, refl, refl)) b ws

sets_each : (b : ℕ) (ws : List ℕ) → All (IsSetAmong (numbered_from register_reset b ws)) (numbered_from register_decl b ws)
sets_each b [] = All-nil (IsSetAmong [])
sets_each b (w ∷ ws) =
    let own : PlainAssign = register_reset b w in
    let later : List PlainAssign = numbered_from register_reset (suc b) ws in
    All-cons (IsSetAmong (own ∷ later)) (register_decl b w) (numbered_from register_decl (suc b) ws)
    (set_left (own ∷ []) later (register_decl b w) (set_alone own w))
    (λ k d lt. set_right (own ∷ []) later _ (sets_each (suc b) ws k d lt))

-- where there is no register nothing is set
acts : (ws : List ℕ) (step : List PlainItem) → acting_sets 1 (if length ws == 0 then None else Some (record { reset = with_numbers register_reset ws; step = step })) ≡ with_numbers register_reset ws
acts [] step = refl
acts (w ∷ ws) step =
    ap (λ b. acting_sets 1 (if b then None else Some (record { reset = with_numbers register_reset (w ∷ ws); step = step })))
    (ne_eqb (suc (length ws)) 0 (λ q. omega arith))

component_reset : (net : PlainNet) (k : ℕ) (part : PlainNetComponent) → HasReset (component_module net k part)
component_reset net k part =
    let sets : List PlainAssign = with_numbers register_reset part.registers in
    let cells : List PlainCellPorts = map (cell_ports net) part.cells in
    let P : PlainDecl → Type 0 = IsSetAmong sets in
    let same : sets ≡ acting_sets 1 (edge_of part) = sym (acts part.registers (with_numbers (register_step part.drivers) part.registers)) in
    let declared : All P (decls_with part cells) =
    All-append P (lists_from cell_decls 0 cells ++ with_numbers wire_decl part.wires) (with_numbers register_decl part.registers)
    (All-append P (lists_from cell_decls 0 cells) (with_numbers wire_decl part.wires)
    (all_lists P cell_decls (λ n cell. all_numbered P (port_decl n) (λ p port. tt) 0 cell.ports) 0 cells)
    (all_numbered P wire_decl (λ n w. tt) 0 part.wires))
    (sets_each 0 part.registers) in
    record {
      zeros = subst (All IsZero) same (sets_zero 0 part.registers);
      registers = subst (λ s. All (IsSetAmong s) (decls_with part cells)) same declared;
    }

primitives_reset : (ps : List PrimitiveRow) → All HasReset (map primitive_module ps)
primitives_reset [] = All-nil HasReset
primitives_reset (p ∷ ps) = All-cons HasReset (primitive_module p) (map primitive_module ps) (primitive_reset p (primitive_name p)) (primitives_reset ps)

-- THE SOURCE OF EVERY NET has its reset
pub source_reset : (net : PlainNet) → IsReset (source_of net)
source_reset net =
    All-append HasReset (primitive_modules net) (with_numbers (component_module net) net.components)
    (primitives_reset (its_primitives net))
    (all_numbered HasReset (component_module net) (component_reset net) 0 net.components)
