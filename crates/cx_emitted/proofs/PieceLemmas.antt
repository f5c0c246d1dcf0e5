-- The reset of the module of each primitive, by its pieces.
use Rattle.std.proofs.Common.{◌≡◌, ℕ, suc, ◌%◌, ◌^◌, ◌==◌, List, [], ◌∷◌, ◌++◌, false, Some, None, length, if◌then◌else◌, refl, ap, arith}
use Rattle.std.specs.Prelude.{All}
use Rattle.std.proofs.lemmas.Bool.{ne_eqb}
use Rattle.std.proofs.lemmas.List.Elements.{All-nil, All-cons, All-append}
use Rattle.std.proofs.lemmas.Nat.{pow_pos}
use Rattle.std.proofs.Math.Nat.{mod-eq_of_lt}
use Rattle.cx_prim.specs.Table.{PrimitiveRow}
use Rattle.cx_vtree.specs.Edges.{acting_sets}
use Rattle.cx_vtree.specs.Plain.{PlainDecl, WireOf, RegisterOf, ArrayOf, PlainAssign, PlainItem, SetTo, StoreTo}
use Rattle.cx_vmods.specs.Parts.{Interior, Piece, Wire, Output, Register, Array, Store, with_piece, with_pieces, nothing, literal, assign}
use Rattle.cx_vmods.specs.Spelling.{spelled}
use Rattle.cx_vmods.specs.Modules.{edge_of, pieces_of, module_of}
use Rattle.cx_emitted.specs.Resets.{IsZero, IsSetAmong, HasReset}
use Rattle.cx_emitted.proofs.SetLemmas.{set_left, set_right, set_alone}

-- what stands in a module so far: its reset sets zeros, and each register; and the branch acts, where there is something to set
record IsResetSoFar (i : Interior) : Type 0 where
  zeros : All IsZero i.reset
  registers : All (IsSetAmong i.reset) i.decls
  acts : acting_sets 1 (edge_of i) ≡ i.reset

some_behind : (xs : List PlainItem) (x : PlainItem) → (length (xs ++ x ∷ []) == 0) ≡ false
some_behind [] x = refl
some_behind (y ∷ xs) x = ne_eqb (suc (length (xs ++ x ∷ []))) 0 (λ q. omega arith)

-- with one more item the edge is there
acts_with : (i : Interior) (x : PlainItem) → acting_sets 1 (edge_of (record i { step = i.step ++ x ∷ [] })) ≡ i.reset
acts_with i x = ap (λ b. acting_sets 1 (if b then None else Some (record { reset = i.reset; step = i.step ++ x ∷ [] }))) (some_behind i.step x)

also : (xs : List PlainAssign) (d : PlainDecl) (ds : List PlainDecl) → All (IsSetAmong xs) ds → IsSetAmong xs d → All (IsSetAmong xs) (ds ++ d ∷ [])
also xs d ds all own = All-append (IsSetAmong xs) ds (d ∷ []) all (All-cons (IsSetAmong xs) d [] own (All-nil (IsSetAmong xs)))

reset_piece : (i : Interior) (p : Piece) → IsResetSoFar i → IsResetSoFar (with_piece i p)
unfolding with_piece
reset_piece i (Wire name width value) r = record { zeros = r.zeros; registers = also i.reset (WireOf (spelled name) width) i.decls r.registers tt; acts = r.acts }
reset_piece i (Output name value) r = record { zeros = r.zeros; registers = r.registers; acts = r.acts }
reset_piece i (Register name width next) r =
    let own : PlainAssign = assign name (literal width 0) in
    let sets : List PlainAssign = i.reset ++ own ∷ [] in
    record {
      zeros = All-append IsZero i.reset (own ∷ []) r.zeros (All-cons IsZero own [] (record { width = width; value = 0 % 2 ^ width }, refl, mod-eq_of_lt (pow_pos width)) (All-nil IsZero));
      registers = also sets (RegisterOf (spelled name) width) i.decls (λ k d lt. set_left i.reset (own ∷ []) _ (r.registers k d lt)) (set_right i.reset (own ∷ []) (RegisterOf (spelled name) width) (set_alone own width));
      acts = acts_with (record i { reset = sets }) (SetTo (assign name next));
    }
reset_piece i (Array name width size) r = record { zeros = r.zeros; registers = also i.reset (ArrayOf (spelled name) width size) i.decls r.registers tt; acts = r.acts }
reset_piece i (Store guard array index value) r =
    record { zeros = r.zeros; registers = r.registers; acts = acts_with i (StoreTo (record { guard = guard; array = spelled array; index = index; value = value })) }

reset_pieces : (ps : List Piece) (i : Interior) → IsResetSoFar i → IsResetSoFar (with_pieces i ps)
reset_pieces [] i r = r
reset_pieces (p ∷ ps) i r = reset_pieces ps (with_piece i p) (reset_piece i p r)

reset_nothing : IsResetSoFar nothing
reset_nothing = record { zeros = All-nil IsZero; registers = All-nil (IsSetAmong []); acts = refl }

pub primitive_reset : (p : PrimitiveRow) (name : List ℕ) → HasReset (module_of p name)
primitive_reset p name =
    let inner : Interior = with_pieces nothing (pieces_of p.name p.numbers) in
    let r : IsResetSoFar inner = reset_pieces (pieces_of p.name p.numbers) nothing reset_nothing in
    record { zeros = rw r.acts r.zeros; registers = rw r.acts r.registers }
