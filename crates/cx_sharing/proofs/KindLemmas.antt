-- Kinds that are the same to sharing are equal.
use Rattle.std.proofs.Common.{◌≡◌, ℕ, true, List, [], ◌∷◌, Option, Some, None, refl, sym, ap, ◌∙◌}
use Rattle.std.specs.Prelude.{nat_eq}
use Rattle.std.proofs.lemmas.Bool.{eqb-true}
use Rattle.cx_text.proofs.BoolLaws.{and_both}
use Rattle.cx_prim.specs.declared.names.PrimitiveName.{PrimitiveName}
use Rattle.cx_prim.specs.declared.names.PrimitiveName.TheVariants.{Const, Wire, Add, Sub, And, Or, Xor, Not, Lsh, Rsh, Lt, Gt, Equal, Neq, Le, Ge, Slt, Sgt, Seq, Sneq, Sle, Sge, Slice, Pad, Mux, Reg, StdMemD1, StdMemD2, StdMemD3, StdMemD4, CombMemD1, CombMemD2, CombMemD3, CombMemD4, SeqMemD1, SeqMemD2, SeqMemD3, SeqMemD4, MultPipe, DivPipe, Timer}
use Rattle.cx_prim.specs.PrimitiveNames.{name_text}
use Rattle.cx_prim.specs.Table.{PrimitiveRow}
use Rattle.cx_meaning.specs.Designs.{PlainKind, OfPrimitive, OfComponent}
use Rattle.cx_numbering.specs.Names.{same_name, primitive_of}
use Rattle.cx_numbering.proofs.NamesLemmas.{same_name-true}
use Rattle.cx_sharing.specs.Giving.{same_numbers, same_kind}

same_numbers-is : (xs ys : List ℕ) → same_numbers xs ys ≡ true → xs ≡ ys
same_numbers-is [] [] e = refl
same_numbers-is [] (b ∷ ys) e = absurd (cc)
same_numbers-is (a ∷ xs) [] e = absurd (cc)
same_numbers-is (a ∷ xs) (b ∷ ys) e =
    let both = and_both (nat_eq a b) (same_numbers xs ys) e in
    ap (λ n. n ∷ xs) (eqb-true a b both.0) ∙ ap (λ ns. b ∷ ns) (same_numbers-is xs ys both.1)

-- the timer is the one primitive that no text names
abbrev or_timer : Option PrimitiveName → PrimitiveName
or_timer None = Timer
or_timer (Some name) = name

named_again : (name : PrimitiveName) → or_timer (primitive_of (name_text name)) ≡ name
named_again Const = refl
named_again Wire = refl
named_again Add = refl
named_again Sub = refl
named_again And = refl
named_again Or = refl
named_again Xor = refl
named_again Not = refl
named_again Lsh = refl
named_again Rsh = refl
named_again Lt = refl
named_again Gt = refl
named_again Equal = refl
named_again Neq = refl
named_again Le = refl
named_again Ge = refl
named_again Slt = refl
named_again Sgt = refl
named_again Seq = refl
named_again Sneq = refl
named_again Sle = refl
named_again Sge = refl
named_again Slice = refl
named_again Pad = refl
named_again Mux = refl
named_again Reg = refl
named_again StdMemD1 = refl
named_again StdMemD2 = refl
named_again StdMemD3 = refl
named_again StdMemD4 = refl
named_again CombMemD1 = refl
named_again CombMemD2 = refl
named_again CombMemD3 = refl
named_again CombMemD4 = refl
named_again SeqMemD1 = refl
named_again SeqMemD2 = refl
named_again SeqMemD3 = refl
named_again SeqMemD4 = refl
named_again MultPipe = refl
named_again DivPipe = refl
named_again Timer = refl

one_name : (a b : PrimitiveName) → name_text a ≡ name_text b → a ≡ b
one_name a b e = sym (named_again a) ∙ ap (λ text. or_timer (primitive_of text)) e ∙ named_again b

primitive-is : (p q : PrimitiveRow) → same_kind (OfPrimitive p) (OfPrimitive q) ≡ true → p ≡ q
primitive-is p q e =
    let both = and_both (same_name (name_text p.name) (name_text q.name)) (same_numbers p.numbers q.numbers) e in
    let names : p.name ≡ q.name = one_name p.name q.name (same_name-true (name_text p.name) (name_text q.name) both.0) in
    let numbers : p.numbers ≡ q.numbers = same_numbers-is p.numbers q.numbers both.1 in
    ap (λ n. record { name = n; numbers = p.numbers }) names ∙ ap (λ ns. record { name = q.name; numbers = ns }) numbers

-- THE SAME KIND is an equal one
pub same_kind-is : (a b : PlainKind) → same_kind a b ≡ true → a ≡ b
same_kind-is (OfPrimitive p) (OfPrimitive q) e = ap OfPrimitive (primitive-is p q e)
same_kind-is (OfPrimitive p) (OfComponent k) e = absurd (cc)
same_kind-is (OfComponent j) (OfPrimitive q) e = absurd (cc)
same_kind-is (OfComponent j) (OfComponent k) e = absurd (cc)
