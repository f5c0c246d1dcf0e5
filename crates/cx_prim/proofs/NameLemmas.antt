-- The table of the names that designs can write.
use Rattle.std.specs.Prelude.{◌≡◌, ◌≢◌, ℕ, ◌+◌, ◌<◌, nat_lt, Bool, true, false, List, [], ◌∷◌, Some, slice_get, refl}
use Rattle.std.proofs.Common.{ap, sym, ◌∙◌, subst, arith, lit<, nat_eq, ◌&&◌, if◌then◌else◌}
use Rattle.cx_prim.specs.declared.names.PrimitiveName.{PrimitiveName}
use Rattle.cx_prim.specs.declared.names.PrimitiveName.TheVariants.{Const, Wire, Add, Sub, And, Or, Xor, Not, Lsh, Rsh, Lt, Gt, Equal, Neq, Le, Ge, Slt, Sgt, Seq, Sneq, Sle, Sge, Slice, Pad, Mux, Reg, StdMemD1, StdMemD2, StdMemD3, StdMemD4, CombMemD1, CombMemD2, CombMemD3, CombMemD4, SeqMemD1, SeqMemD2, SeqMemD3, SeqMemD4, MultPipe, DivPipe, Timer}
use Rattle.std.proofs.lemmas.Bool.{ltb-true}
use Rattle.std.proofs.lemmas.Bool.Decides.{nat_tests}
use Rattle.cx_prim.specs.PrimitiveNames.{name_text}
use Rattle.cx_prim.specs.CombinationalLaws.{passes_at}

abbrev pub all_names : List PrimitiveName
all_names = Const ∷ Wire ∷ Add ∷ Sub ∷ And ∷ Or ∷ Xor ∷ Not ∷ Lsh ∷ Rsh ∷ Lt ∷ Gt ∷ Equal ∷ Neq ∷ Le ∷ Ge ∷ Slt ∷ Sgt ∷ Seq ∷ Sneq ∷ Sle ∷ Sge ∷ Slice ∷ Pad ∷ Mux ∷ Reg ∷ StdMemD1 ∷ StdMemD2 ∷ StdMemD3 ∷ StdMemD4 ∷ CombMemD1 ∷ CombMemD2 ∷ CombMemD3 ∷ CombMemD4 ∷ SeqMemD1 ∷ SeqMemD2 ∷ SeqMemD3 ∷ SeqMemD4 ∷ MultPipe ∷ DivPipe ∷ []

abbrev is_nameable : PrimitiveName → Bool
is_nameable Timer = false
is_nameable _ = true

-- the table has no name that designs cannot write
pub nameable_at : (k : ℕ) (name : PrimitiveName) → slice_get all_names k ≡ Some name → name ≢ Timer
nameable_at k name at is_timer =
    let passes : is_nameable name ≡ true = passes_at is_nameable all_names k name refl at in
    let wrong : false ≡ true = sym (ap is_nameable is_timer) ∙ passes in cc

-- where a name stands
pub stands : (name : PrimitiveName) → name ≢ Timer → (k : ℕ) × (k < 40) × (slice_get all_names k ≡ Some name)
stands Const nameable = (0, lit< tt, refl)
stands Wire nameable = (1, lit< tt, refl)
stands Add nameable = (2, lit< tt, refl)
stands Sub nameable = (3, lit< tt, refl)
stands And nameable = (4, lit< tt, refl)
stands Or nameable = (5, lit< tt, refl)
stands Xor nameable = (6, lit< tt, refl)
stands Not nameable = (7, lit< tt, refl)
stands Lsh nameable = (8, lit< tt, refl)
stands Rsh nameable = (9, lit< tt, refl)
stands Lt nameable = (10, lit< tt, refl)
stands Gt nameable = (11, lit< tt, refl)
stands Equal nameable = (12, lit< tt, refl)
stands Neq nameable = (13, lit< tt, refl)
stands Le nameable = (14, lit< tt, refl)
stands Ge nameable = (15, lit< tt, refl)
stands Slt nameable = (16, lit< tt, refl)
stands Sgt nameable = (17, lit< tt, refl)
stands Seq nameable = (18, lit< tt, refl)
stands Sneq nameable = (19, lit< tt, refl)
stands Sle nameable = (20, lit< tt, refl)
stands Sge nameable = (21, lit< tt, refl)
stands Slice nameable = (22, lit< tt, refl)
stands Pad nameable = (23, lit< tt, refl)
stands Mux nameable = (24, lit< tt, refl)
stands Reg nameable = (25, lit< tt, refl)
stands StdMemD1 nameable = (26, lit< tt, refl)
stands StdMemD2 nameable = (27, lit< tt, refl)
stands StdMemD3 nameable = (28, lit< tt, refl)
stands StdMemD4 nameable = (29, lit< tt, refl)
stands CombMemD1 nameable = (30, lit< tt, refl)
stands CombMemD2 nameable = (31, lit< tt, refl)
stands CombMemD3 nameable = (32, lit< tt, refl)
stands CombMemD4 nameable = (33, lit< tt, refl)
stands SeqMemD1 nameable = (34, lit< tt, refl)
stands SeqMemD2 nameable = (35, lit< tt, refl)
stands SeqMemD3 nameable = (36, lit< tt, refl)
stands SeqMemD4 nameable = (37, lit< tt, refl)
stands MultPipe nameable = (38, lit< tt, refl)
stands DivPipe nameable = (39, lit< tt, refl)
stands Timer nameable = absurd (nameable refl)

-- no name up to a place spells the text, where none before it does, and not the one at it
pub unnamed_next : (text : List ℕ) (place : ℕ) (here : PrimitiveName) → slice_get all_names place ≡ Some here → name_text here ≢ text
    → ((k : ℕ) (name : PrimitiveName) → k < place → slice_get all_names k ≡ Some name → name_text name ≢ text)
    → (k : ℕ) (name : PrimitiveName) → k < place + 1 → slice_get all_names k ≡ Some name → name_text name ≢ text
unnamed_next text place here at differs before k name below at_k = by_test (nat_lt k place) refl
  where
    by_test : (b : Bool) → nat_lt k place ≡ b → name_text name ≢ text
    by_test true e = before k name (ltb-true k place e) at_k
    by_test false e =
        let same_place : k ≡ place = grind (arith, nat_tests, e) in
        let at_place : slice_get all_names place ≡ Some name = subst (λ (j : ℕ). slice_get all_names j ≡ Some name) same_place at_k in
        let same : here ≡ name = cc in
        λ spelled. differs (ap name_text same ∙ spelled)

abbrev every_name : List PrimitiveName
every_name = Const ∷ Wire ∷ Add ∷ Sub ∷ And ∷ Or ∷ Xor ∷ Not ∷ Lsh ∷ Rsh ∷ Lt ∷ Gt ∷ Equal ∷ Neq ∷ Le ∷ Ge ∷ Slt ∷ Sgt ∷ Seq ∷ Sneq ∷ Sle ∷ Sge ∷ Slice ∷ Pad ∷ Mux ∷ Reg ∷ StdMemD1 ∷ StdMemD2 ∷ StdMemD3 ∷ StdMemD4 ∷ CombMemD1 ∷ CombMemD2 ∷ CombMemD3 ∷ CombMemD4 ∷ SeqMemD1 ∷ SeqMemD2 ∷ SeqMemD3 ∷ SeqMemD4 ∷ MultPipe ∷ DivPipe ∷ Timer ∷ []

-- a primitive's name tells it
abbrev same_text : List ℕ → List ℕ → Bool
same_text [] [] = true
same_text [] (y ∷ ys) = false
same_text (x ∷ xs) [] = false
same_text (x ∷ xs) (y ∷ ys) = nat_eq x y && same_text xs ys

abbrev named_in : List PrimitiveName → List ℕ → PrimitiveName
named_in [] text = Timer
named_in (name ∷ names) text = if same_text (name_text name) text then name else named_in names text

pub told_name : (name : PrimitiveName) → named_in every_name (name_text name) ≡ name
told_name Const = refl
told_name Wire = refl
told_name Add = refl
told_name Sub = refl
told_name And = refl
told_name Or = refl
told_name Xor = refl
told_name Not = refl
told_name Lsh = refl
told_name Rsh = refl
told_name Lt = refl
told_name Gt = refl
told_name Equal = refl
told_name Neq = refl
told_name Le = refl
told_name Ge = refl
told_name Slt = refl
told_name Sgt = refl
told_name Seq = refl
told_name Sneq = refl
told_name Sle = refl
told_name Sge = refl
told_name Slice = refl
told_name Pad = refl
told_name Mux = refl
told_name Reg = refl
told_name StdMemD1 = refl
told_name StdMemD2 = refl
told_name StdMemD3 = refl
told_name StdMemD4 = refl
told_name CombMemD1 = refl
told_name CombMemD2 = refl
told_name CombMemD3 = refl
told_name CombMemD4 = refl
told_name SeqMemD1 = refl
told_name SeqMemD2 = refl
told_name SeqMemD3 = refl
told_name SeqMemD4 = refl
told_name MultPipe = refl
told_name DivPipe = refl
told_name Timer = refl

pub one_name : (one other : PrimitiveName) → name_text one ≡ name_text other → one ≡ other
one_name one other e = sym (told_name one) ∙ ap (named_in every_name) e ∙ told_name other
