-- Names of primitives: which designs can write.
use Rattle.std.proofs.Common.{◌≡◌, ◌≢◌, ℕ, Bool, true, false, not, ◌&&◌, cond, is_some, List, [], ◌∷◌, Some, refl, sym, ap, ◌∙◌, true≢false}
use Rattle.cx_prim.specs.declared.names.PrimitiveName.{PrimitiveName}
use Rattle.cx_prim.specs.declared.names.PrimitiveName.TheVariants as primitives
use Rattle.cx_prim.specs.PrimitiveNames.{name_text}
use Rattle.cx_numbering.specs.Names.{same_name, primitive_among, primitive_of, primitive_names}

abbrev is_timer : PrimitiveName → Bool
is_timer primitives.Timer = true
is_timer _ = false

abbrev are_nameable : List PrimitiveName → Bool
are_nameable [] = true
are_nameable (p ∷ ps) = not (is_timer p) && are_nameable ps

-- a name that is found is none of the timer
among_nameable : (text : List ℕ) (ps : List PrimitiveName) (name : PrimitiveName) → are_nameable ps ≡ true → primitive_among text ps ≡ Some name → is_timer name ≡ false
among_nameable text [] name all h = absurd cc
among_nameable text (p ∷ ps) name all h = by (same_name (name_text p) text) (is_timer p) refl all h (among_nameable text ps name)
  where
    by : (b t : Bool) → is_timer p ≡ t → (not t && are_nameable ps) ≡ true → cond b (Some p) (primitive_among text ps) ≡ Some name → (are_nameable ps ≡ true → primitive_among text ps ≡ Some name → is_timer name ≡ false) → is_timer name ≡ false
    by b true e all h rest = absurd (true≢false (sym all))
    by true false e all h rest = let same : p ≡ name = cc in ap is_timer (sym same) ∙ e
    by false false e all h rest = rest all h

pub no_timer : (text : List ℕ) (name : PrimitiveName) → primitive_of text ≡ Some name → name ≢ primitives.Timer
no_timer text name h = λ e. true≢false (ap is_timer (sym e) ∙ among_nameable text primitive_names name refl h)

-- each other name is found
pub nameable : (name : PrimitiveName) → name ≢ primitives.Timer → is_some (primitive_of (name_text name)) ≡ true
nameable primitives.Const h = refl
nameable primitives.Wire h = refl
nameable primitives.Add h = refl
nameable primitives.Sub h = refl
nameable primitives.And h = refl
nameable primitives.Or h = refl
nameable primitives.Xor h = refl
nameable primitives.Not h = refl
nameable primitives.Lsh h = refl
nameable primitives.Rsh h = refl
nameable primitives.Lt h = refl
nameable primitives.Gt h = refl
nameable primitives.Equal h = refl
nameable primitives.Neq h = refl
nameable primitives.Le h = refl
nameable primitives.Ge h = refl
nameable primitives.Slt h = refl
nameable primitives.Sgt h = refl
nameable primitives.Seq h = refl
nameable primitives.Sneq h = refl
nameable primitives.Sle h = refl
nameable primitives.Sge h = refl
nameable primitives.Slice h = refl
nameable primitives.Pad h = refl
nameable primitives.Mux h = refl
nameable primitives.Reg h = refl
nameable primitives.StdMemD1 h = refl
nameable primitives.StdMemD2 h = refl
nameable primitives.StdMemD3 h = refl
nameable primitives.StdMemD4 h = refl
nameable primitives.CombMemD1 h = refl
nameable primitives.CombMemD2 h = refl
nameable primitives.CombMemD3 h = refl
nameable primitives.CombMemD4 h = refl
nameable primitives.SeqMemD1 h = refl
nameable primitives.SeqMemD2 h = refl
nameable primitives.SeqMemD3 h = refl
nameable primitives.SeqMemD4 h = refl
nameable primitives.MultPipe h = refl
nameable primitives.DivPipe h = refl
nameable primitives.Timer h = absurd (h refl)
