-- What a primitive cell has of bytes, in its own module and in that of the component around it, and that its module is narrow.
use Rattle.std.proofs.Common.{◌≡◌, ℕ, ◌+◌, ◌*◌, ◌^◌, ◌≤◌, ◌&&◌, Bool, true, false, List, [], ◌∷◌, length, Option, Some, None, refl, ap, sym, subst, arith}
use Rattle.std.specs.Prelude.{codes, nat_le, nat_lt, unwrap_or, if◌then◌else◌}
use Rattle.cx_text.specs.Members.{Each}
use Rattle.cx_prim.specs.declared.names.PrimitiveName.{PrimitiveName}
use Rattle.cx_prim.specs.declared.names.PrimitiveName.TheVariants.{DivPipe, Timer}
use Rattle.cx_prim.specs.PrimitiveNames.{name_text}
use Rattle.cx_prim.specs.Widths.{is_width}
use Rattle.cx_prim.specs.PipeRows.{divider_row, timer_row}
use Rattle.cx_prim.specs.Table.{PrimitiveRow, HasRow, row_of, no_row}
use Rattle.cx_vtree.specs.Plain.{PlainPort, PlainDecl, WireOf, RegisterOf, ArrayOf, PlainAssign, PlainItem, SetTo, StoreTo, PlainEdge, PlainModule}
use Rattle.cx_vtree.specs.Layout.{is_name}
use Rattle.cx_vtree.specs.Sound.{width_of, drivers_in}
use Rattle.cx_vmods.specs.Modules.{pieces_of, module_of}
use Rattle.cx_emit.proofs.CleanModules as clean
use Rattle.cx_emit.proofs.PrimitiveModules.{primitive_owes}
use Rattle.cx_emitted.proofs.TextBytes.{AreNarrow, DeclNarrow, ItemNarrow}
use Rattle.cx_emitted.proofs.ModuleBytes.{EdgeNarrow, IsNarrow}
use Rattle.cx_emitted.proofs.NarrowLemmas.{narrow_by, scope_wide}
use Rattle.cx_emitted.proofs.PrimitiveBytes.{pieces_cost, pieces_few, others_few}
use Rattle.cx_prim.proofs.NameLemmas.{one_name}
use Rattle.cx_vtree.specs.InstanceTree.{same_name}
use Rattle.cx_vtree.proofs.InstanceTreeLemmas.{same_is}
use Rattle.std.proofs.lemmas.Bool.{both_ways}

-- KEPT MODULES are narrow
each_so : {A : Type 0} (P Q : A → Type 0) (xs : List A) → ((x : A) → P x → Q x) → Each P xs → Each Q xs
each_so P Q [] so each = tt
each_so P Q (x ∷ xs) so each = (so x each.0, each_so P Q xs so each.1)

module _ (before : List PlainModule) (m : PlainModule) (kept : clean.IsKept before m) where
  ports_narrow : Each (λ (p : PlainPort). p.width ≤ 128) m.ports
  ports_narrow = each_so (clean.KeepsPort (drivers_in before m)) (λ (p : PlainPort). p.width ≤ 128) m.ports (λ p h. h.wide.few_bits) kept.ports

  decl_narrow : (names : List (List ℕ)) (d : PlainDecl) → clean.KeepsDecl names d → DeclNarrow d
  decl_narrow names (WireOf n w) h = h.1.few_bits
  decl_narrow names (RegisterOf n w) h = h.1.few_bits
  decl_narrow names (ArrayOf n w k) h = (h.1.few_bits, h.3)

  decls_narrow : Each DeclNarrow m.decls
  decls_narrow = each_so (clean.KeepsDecl (drivers_in before m)) DeclNarrow m.decls (decl_narrow (drivers_in before m)) kept.decls

  wide : (n : List ℕ) → width_of (clean.scope_of m n) ≤ 128
  wide n = scope_wide m.ports m.decls n ports_narrow decls_narrow

  item_narrow : (i : PlainItem) → clean.KeepsItem (clean.scope_of m) i → ItemNarrow i
  item_narrow (SetTo a) h = narrow_by (clean.scope_of m) wide a.value (width_of (clean.scope_of m a.name)) h.value.names h.value.width
  item_narrow (StoreTo s) h = (
    narrow_by (clean.scope_of m) wide s.guard 1 h.guard.names h.guard.width,
    (
      narrow_by (clean.scope_of m) wide s.index h.index_width h.index.names h.index.width,
      narrow_by (clean.scope_of m) wide s.value (width_of (clean.scope_of m s.array)) h.value.names h.value.width,
    ),
  )

  edge_narrow : (e : Option PlainEdge) → clean.KeepsEdges (clean.scope_of m) e → EdgeNarrow e
  edge_narrow None h = tt
  edge_narrow (Some e) h = (
    each_so (clean.KeepsSet (clean.scope_of m)) (λ (a : PlainAssign). AreNarrow a.value) e.reset (λ a k. narrow_by (clean.scope_of m) wide a.value (width_of (clean.scope_of m a.name)) k.value.names k.value.width) h.reset,
    each_so (clean.KeepsItem (clean.scope_of m)) ItemNarrow e.step item_narrow h.step,
  )

  pub kept_narrow : IsNarrow m
  kept_narrow = record {
    ports = ports_narrow;
    decls = decls_narrow;
    assigns = each_so (clean.KeepsAssign (clean.scope_of m)) (λ (a : PlainAssign). AreNarrow a.value) m.assigns (λ a k. narrow_by (clean.scope_of m) wide a.value (width_of (clean.scope_of m a.name)) k.value.names k.value.width) kept.assigns;
    edge = edge_narrow m.edge kept.edge;
  }

-- PRIMITIVES
pub primitive_narrow : (p : PrimitiveRow) (name : List ℕ) → is_name name ≡ true → HasRow p → IsNarrow (module_of p name)
primitive_narrow p name named has = kept_narrow [] (module_of p name) (primitive_owes [] name named p has).kept

-- no more ports and pieces than these, since the divider has few ports
is_divider : PrimitiveName → Bool
is_divider name = same_name (name_text name) (name_text DivPipe)

divider_ports : (numbers : List ℕ) → length (row_of (record { name = DivPipe; numbers = numbers })).ports ≤ 6
divider_ports [] = omega arith
divider_ports (w ∷ []) = by (is_width w)
  where
    by : (b : Bool) → length (unwrap_or (if b then Some (divider_row w) else None) no_row).ports ≤ 6
    by true = omega arith
    by false = omega arith
divider_ports (w ∷ v ∷ rest) = omega arith

pub parts_few : (p : PrimitiveRow) → HasRow p → 174 * length (row_of p).ports + pieces_cost (pieces_of p.name p.numbers) ≤ 3566
unfolding is_divider
parts_few p has = by (is_divider p.name) refl
  where
    few : length (row_of p).ports ≤ 9
    few = (primitive_owes [] (codes "x") refl p has).few

    divider : (name : PrimitiveName) → name ≡ DivPipe → 174 * length (row_of (record { name = name; numbers = p.numbers })).ports + pieces_cost (pieces_of name p.numbers) ≤ 3566
    divider name is =
        let ports = divider_ports p.numbers in
        let pieces = pieces_few DivPipe p.numbers in
        subst (λ (n : PrimitiveName). 174 * length (row_of (record { name = n; numbers = p.numbers })).ports + pieces_cost (pieces_of n p.numbers) ≤ 3566) (sym is) (omega (arith, ports, pieces))

    by : (b : Bool) → is_divider p.name ≡ b → 174 * length (row_of p).ports + pieces_cost (pieces_of p.name p.numbers) ≤ 3566
    by true is = divider p.name (one_name p.name DivPipe (same_is (name_text p.name) (name_text DivPipe) is))
    by false is =
        let pieces : pieces_cost (pieces_of p.name p.numbers) ≤ 2000 = others_few p.name p.numbers (λ e. both_ways (is_divider p.name) is (ap is_divider e)) in
        let ports = few in
        omega (arith, ports, pieces)

-- a timer
pub timer_ports : (numbers : List ℕ) → length (row_of (record { name = Timer; numbers = numbers })).ports ≤ 3
timer_ports [] = omega arith
timer_ports (n ∷ []) = by (nat_le 1 n && nat_lt n (2 ^ 32))
  where
    by : (b : Bool) → length (unwrap_or (if b then Some (timer_row n) else None) no_row).ports ≤ 3
    by true = omega arith
    by false = omega arith
timer_ports (n ∷ m ∷ rest) = omega arith
