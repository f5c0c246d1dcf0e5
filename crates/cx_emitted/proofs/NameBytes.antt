-- How long the name of a primitive's module is at most: 76 bytes, and of a timer's 22.
use Rattle.std.proofs.Common.{◌≡◌, ℕ, ◌+◌, ◌^◌, ◌<◌, ◌≤◌, ◌&&◌, Bool, true, false, List, [], ◌∷◌, ◌++◌, length, length-append, Some, None, refl, sym, subst, if◌then◌else◌, arith}
use Rattle.std.specs.Prelude.{decimal, IsSome, nat_le, nat_lt}
use Rattle.std.proofs.lemmas.Bool.{ltb-true}
use Rattle.std.proofs.lemmas.Fmt.{length-decimal-le_wide}
use Rattle.cx_prim.specs.declared.names.PrimitiveName.{PrimitiveName}
use Rattle.cx_prim.specs.declared.names.PrimitiveName.TheVariants.{Timer}
use Rattle.cx_prim.specs.PipeRows.{timer_row}
use Rattle.cx_prim.specs.PrimitiveNames.{name_text}
use Rattle.cx_prim.specs.Table.{PrimitiveRow, HasRow, timer_at, row_at}
use Rattle.cx_prim.proofs.NameLemmas.{one_name}
use Rattle.cx_vtree.specs.InstanceTree.{same_name}
use Rattle.cx_vtree.proofs.InstanceTreeLemmas.{same_is}
use Rattle.cx_emit.specs.Names.{primitive_name}
use Rattle.cx_emit.proofs.PrimitiveNames.{primitive_name_short}
use Rattle.cx_text.proofs.BoolLaws.{and_right}

abbrev pub is_timer : PrimitiveName → Bool
is_timer name = same_name (name_text name) (name_text Timer)

abbrev pub name_bytes : PrimitiveName → ℕ
name_bytes name = if is_timer name then 22 else 76

pub name_most : (name : PrimitiveName) → name_bytes name ≤ 76
name_most name = by (is_timer name)
  where
    by : (b : Bool) → (if b then 22 else 76) ≤ 76
    by true = omega arith
    by false = omega arith

timer_short : (numbers : List ℕ) → IsSome (timer_at numbers) → length (primitive_name (record { name = Timer; numbers = numbers })) ≤ 22
timer_short [] there = absurd (let wrong : false ≡ true = there in cc)
timer_short (n ∷ []) there =
    let few : n < 2 ^ 32 = ltb-true n (2 ^ 32) (and_right (nat_le 1 n) (nat_lt n (2 ^ 32)) (by (nat_le 1 n && nat_lt n (2 ^ 32)) there)) in
    let digits : length (decimal n) ≤ 10 = length-decimal-le_wide 10 n (omega arith) (omega (arith, few)) (omega (arith, few)) in
    let whole : length (decimal n ++ []) ≡ length (decimal n) + 0 = length-append (decimal n) [] in
    omega (arith, digits, whole)
  where
    by : (b : Bool) → IsSome (if b then Some (timer_row n) else None) → b ≡ true
    by true h = refl
    by false h = absurd (let wrong : false ≡ true = h in cc)
timer_short (n ∷ m ∷ rest) there = absurd (let wrong : false ≡ true = there in cc)

-- of each primitive
pub name_few : (p : PrimitiveRow) → HasRow p → length (primitive_name p) ≤ name_bytes p.name
name_few p has = by (is_timer p.name) refl
  where
    timer : (name : PrimitiveName) → name ≡ Timer → IsSome (row_at name p.numbers) → length (primitive_name (record { name = name; numbers = p.numbers })) ≤ 22
    timer name is there =
        subst (λ (n : PrimitiveName). length (primitive_name (record { name = n; numbers = p.numbers })) ≤ 22) (sym is) (timer_short p.numbers (subst (λ (n : PrimitiveName). IsSome (row_at n p.numbers)) is there))

    by : (b : Bool) → is_timer p.name ≡ b → length (primitive_name p) ≤ (if b then 22 else 76)
    by true is = timer p.name (one_name p.name Timer (same_is (name_text p.name) (name_text Timer) is)) has
    by false is = primitive_name_short p has
