-- Expressions that keep the rules of a text in a scope of narrow nets are narrow.
use Rattle.std.proofs.Common.{◌≡◌, ℕ, ◌+◌, ◌-◌, ◌^◌, ◌<◌, ◌≤◌, ◌==◌, ◌&&◌, ◌||◌, Bool, true, false, List, [], ◌∷◌, Option, Some, None, option_and_then, refl, arith, if◌then◌else◌}
use Rattle.std.specs.Prelude.{nat_le, nat_lt}
use Rattle.std.proofs.lemmas.Bool.{or_parts, leb-true, leb-false, ltb-true, ltb-false}
use Rattle.cx_text.specs.Members.{Each}
use Rattle.cx_vtree.specs.InstanceTree.{same_name}
use Rattle.cx_vtree.specs.Plain.{PlainExpr, Named, Number, Part, Word, Applied, Inverted, Chosen, Joined, PlainPort, PlainDecl, WireOf, RegisterOf, ArrayOf}
use Rattle.cx_vtree.specs.Sound.{Scope, decl_name, decl_meaning, port_meaning, meant_decl, meant_in, width_of, misnames, bad_width, applied_width, chosen_width, joined_width, fitting_width}
use Rattle.cx_emitted.proofs.TextBytes.{AreNarrow, DeclNarrow}

-- what an option leads to hangs on what it has
pub record Step {A B : Type 0} (f : A → Option B) (o : Option A) (w : B) : Type 0 where
  pub value : A
  pub has : o ≡ Some value
  pub gives : f value ≡ Some w

pub step_of : {A B : Type 0} (f : A → Option B) (o : Option A) (w : B) → option_and_then f o ≡ Some w → Step f o w
step_of f None w e = absurd (cc)
step_of f (Some v) w e = record { value = v; has = refl; gives = e }

number_narrow : (width value : ℕ) (b : Bool) (w : ℕ) → bad_width width ≡ b → (if b then None else Some width) ≡ Some w → nat_le (2 ^ width) value ≡ false → (width ≤ 128) × (value < 2 ^ width)
number_narrow width value true w test e low = absurd (cc)
number_narrow width value false w test e low =
    let parts = or_parts (width == 0) (nat_lt 128 width) test in
    (ltb-false 128 width parts.1, leb-false (2 ^ width) value low)

part_narrow : (u high low w : ℕ) → u ≤ 128 → (a b : Bool) → nat_le low high ≡ a → nat_lt high u ≡ b → (if a && b then Some (high + 1 - low) else None) ≡ Some w → (high < 1000) × (low < 1000)
part_narrow u high low w few true true order within e =
    let h : low ≤ high = leb-true low high order in
    let k : high < u = ltb-true high u within in
    (omega (arith, k, few), omega (arith, h, k, few))
part_narrow u high low w few true false order within e = absurd (cc)
part_narrow u high low w few false b order within e = absurd (cc)

module _ (scope : Scope) (wide : (n : List ℕ) → width_of (scope n) ≤ 128) where
  pub narrow_by : (e : PlainExpr) (w : ℕ) → misnames scope e ≡ false → fitting_width scope e ≡ Some w → AreNarrow e
  narrow_by (Named n) w names fits = tt
  narrow_by (Number b) w names fits = number_narrow b.width b.value (bad_width b.width) w refl fits names
  narrow_by (Part n high low) w names fits = part_narrow (width_of (scope n)) high low w (wide n) (nat_le low high) (nat_lt high (width_of (scope n))) refl refl fits
  narrow_by (Word n i) w names fits =
      let s = step_of (λ v. Some (width_of (scope n))) (fitting_width scope i) w fits in
      narrow_by i s.value (or_parts _ (misnames scope i) names).1 s.has
  narrow_by (Applied op a b) w names fits =
      let parts = or_parts (misnames scope a) (misnames scope b) names in
      let s = step_of (λ v. option_and_then (applied_width op v) (fitting_width scope b)) (fitting_width scope a) w fits in
      let t = step_of (applied_width op s.value) (fitting_width scope b) w s.gives in
      (narrow_by a s.value parts.0 s.has, narrow_by b t.value parts.1 t.has)
  narrow_by (Inverted a) w names fits = narrow_by a w names fits
  narrow_by (Chosen c a b) w names fits =
      let parts = or_parts (misnames scope c || misnames scope a) (misnames scope b) names in
      let front = or_parts (misnames scope c) (misnames scope a) parts.0 in
      let r = step_of (λ t. option_and_then (λ v. option_and_then (chosen_width t v) (fitting_width scope b)) (fitting_width scope a)) (fitting_width scope c) w fits in
      let s = step_of (λ v. option_and_then (chosen_width r.value v) (fitting_width scope b)) (fitting_width scope a) w r.gives in
      let t = step_of (chosen_width r.value s.value) (fitting_width scope b) w s.gives in
      (narrow_by c r.value front.0 r.has, (narrow_by a s.value front.1 s.has, narrow_by b t.value parts.1 t.has))
  narrow_by (Joined a b) w names fits =
      let parts = or_parts (misnames scope a) (misnames scope b) names in
      let s = step_of (λ v. option_and_then (joined_width v) (fitting_width scope b)) (fitting_width scope a) w fits in
      let t = step_of (joined_width s.value) (fitting_width scope b) w s.gives in
      (narrow_by a s.value parts.0 s.has, narrow_by b t.value parts.1 t.has)

-- SCOPES of narrow ports and declarations
decl_wide : (d : PlainDecl) → DeclNarrow d → width_of (decl_meaning d) ≤ 128
decl_wide (WireOf n w) few = few
decl_wide (RegisterOf n w) few = few
decl_wide (ArrayOf n w k) few = few.0

decls_wide : (ds : List PlainDecl) (n : List ℕ) → Each DeclNarrow ds → width_of (meant_decl ds n) ≤ 128
decls_wide [] n each = omega arith
decls_wide (d ∷ ds) n each = by (same_name (decl_name d) n) (decls_wide ds n each.1)
  where
    by : (b : Bool) → width_of (meant_decl ds n) ≤ 128 → width_of (if b then decl_meaning d else meant_decl ds n) ≤ 128
    by true later = decl_wide d each.0
    by false later = later

port_wide : (p : PlainPort) → p.width ≤ 128 → width_of (port_meaning p) ≤ 128
port_wide p few = by p.output
  where
    by : (b : Bool) → width_of (port_meaning (record { output = b; name = p.name; width = p.width })) ≤ 128
    by true = few
    by false = few

pub scope_wide : (ps : List PlainPort) (ds : List PlainDecl) (n : List ℕ) → Each (λ (p : PlainPort). p.width ≤ 128) ps → Each DeclNarrow ds → width_of (meant_in ps ds n) ≤ 128
scope_wide [] ds n ports decls = decls_wide ds n decls
scope_wide (p ∷ ps) ds n ports decls = by (same_name p.name n) (scope_wide ps ds n ports.1 decls)
  where
    by : (b : Bool) → width_of (meant_in ps ds n) ≤ 128 → width_of (if b then port_meaning p else meant_in ps ds n) ≤ 128
    by true later = port_wide p ports.0
    by false later = later
