-- What the parts of a module that breaks no rule keep.
use Rattle.std.proofs.Common.{◌≡◌, ℕ, zero, suc, ◌+◌, ◌==◌, List, [], ◌∷◌, ◌++◌, Bool, true, false, ◌&&◌, ◌||◌, not, map, Option, Some, None, is_none, slice_get, nat_lt, refl, ap, subst, arith}
use Rattle.std.specs.Option.{option_map_or}
use Rattle.std.proofs.lemmas.Bool.{or_parts, not-false, eqb-true}
use Rattle.cx_vtree.specs.Plain.{PlainExpr, PlainPort, PlainDecl, WireOf, RegisterOf, ArrayOf, PlainAssign, PlainInstance, PlainModule}
use Rattle.cx_vtree.specs.Sound.{Faults, no_faults, Scope, has_name, decl_name, decl_meaning, driven_by, driven_by_all, ports_of, doubles, undriven, bad_width, wrong_port, ports_faults, decl_faults, decls_faults, assigns_faults, instances_faults, set_faults, misconnects, module_named, width_of, is_driven, is_register, misnames, has_width, fitting_width, too_deep}
use Rattle.cx_vlaws.specs.Widths.{IsExpression}
use Rattle.cx_vlaws.proofs.Cleans.{Clean}
use Rattle.cx_vlaws.proofs.Fresh.{Fresh, fresh_both}
use Rattle.cx_vlaws.proofs.Scopes.{port_names}
use Rattle.cx_text.proofs.BoolLaws.{none_goes_on}

-- ports
pub ports_fresh : (is_main : Bool) (drivers earlier : List (List ℕ)) (index : ℕ) (ps : List PlainPort) → Clean (ports_faults is_main drivers earlier index ps) → Fresh earlier (port_names ps)
ports_fresh is_main drivers earlier index [] c = tt
ports_fresh is_main drivers earlier index (p ∷ ps) c = (
  (none_goes_on (has_name earlier p.name) (wrong_port is_main index p) (p.output && undriven drivers p.name) (ap (λ (f : Faults). f.name) c.0)).0,
  ports_fresh is_main drivers (earlier ++ p.name ∷ []) (index + 1) ps c.1,
)

-- a port keeps its rules
pub record PortKeeps (is_main : Bool) (drivers : List (List ℕ)) (index : ℕ) (p : PlainPort) : Type 0 where
  pub right : wrong_port is_main index p ≡ false
  pub driven : p.output ≡ true → has_name drivers p.name ≡ true
  pub width : bad_width p.width ≡ false
  pub one_bit : ((is_main || (nat_lt index 2)) && not (p.width == 1)) ≡ false

driven_from : (output driven : Bool) → (output && not driven) ≡ false → output ≡ true → driven ≡ true
driven_from true true e h = refl
driven_from true false e h = absurd (cc)
driven_from false driven e h = absurd (cc)

pub port_keeps : (is_main : Bool) (drivers earlier : List (List ℕ)) (index at : ℕ) (ps : List PlainPort) → Clean (ports_faults is_main drivers earlier index ps)
    → (k : ℕ) (p : PlainPort) → slice_get ps k ≡ Some p → at ≡ index + k → PortKeeps is_main drivers at p
port_keeps is_main drivers earlier index at [] c k p e same = absurd (cc)
port_keeps is_main drivers earlier index at (q ∷ ps) c zero p e same =
    let first : index ≡ at = omega arith in
    let is : q ≡ p = cc in
    let names = none_goes_on (has_name earlier q.name) (wrong_port is_main index q) (q.output && undriven drivers q.name) (ap (λ (f : Faults). f.name) c.0) in
    let widths = or_parts (bad_width q.width) ((is_main || nat_lt index 2) && not (q.width == 1)) (ap (λ (f : Faults). f.width) c.0) in
    subst (λ i. PortKeeps is_main drivers i p) first (subst (PortKeeps is_main drivers index) is
    (record { right = names.1; driven = driven_from q.output (has_name drivers q.name) names.2; width = widths.0; one_bit = widths.1 }))
port_keeps is_main drivers earlier index at (q ∷ ps) c (suc k) p e same =
    let next : at ≡ index + 1 + k = omega arith in port_keeps is_main drivers (earlier ++ q.name ∷ []) (index + 1) at ps c.1 k p e next

-- declarations
decl_clear : (drivers earlier : List (List ℕ)) (d : PlainDecl) → decl_faults drivers earlier d ≡ no_faults → (has_name earlier (decl_name d) ≡ false) × (bad_width (width_of (decl_meaning d)) ≡ false)
    × (is_driven (decl_meaning d) ≡ true → has_name drivers (decl_name d) ≡ true)
decl_clear drivers earlier (WireOf n w) e =
    let names = or_parts (has_name earlier n) (undriven drivers n) (ap (λ (f : Faults). f.name) e) in
    (names.0, ap (λ (f : Faults). f.width) e, λ driven. not-false (has_name drivers n) names.1)
decl_clear drivers earlier (RegisterOf n w) e = (ap (λ (f : Faults). f.name) e, ap (λ (f : Faults). f.width) e, λ driven. absurd (cc))
decl_clear drivers earlier (ArrayOf n w k) e = (ap (λ (f : Faults). f.name) e, ap (λ (f : Faults). f.width) e, λ driven. absurd (cc))

pub decls_fresh : (drivers earlier : List (List ℕ)) (ds : List PlainDecl) → Clean (decls_faults drivers earlier ds) → Fresh earlier (map decl_name ds)
decls_fresh drivers earlier [] c = tt
decls_fresh drivers earlier (d ∷ ds) c = ((decl_clear drivers earlier d c.0).0, decls_fresh drivers (earlier ++ decl_name d ∷ []) ds c.1)

pub decl_keeps : (drivers earlier : List (List ℕ)) (ds : List PlainDecl) → Clean (decls_faults drivers earlier ds) → (k : ℕ) (d : PlainDecl) → slice_get ds k ≡ Some d
    → (bad_width (width_of (decl_meaning d)) ≡ false) × (is_driven (decl_meaning d) ≡ true → has_name drivers (decl_name d) ≡ true)
decl_keeps drivers earlier [] c k d e = absurd (cc)
decl_keeps drivers earlier (x ∷ ds) c zero d e =
    let same : x ≡ d = cc in
    let clear = decl_clear drivers earlier x c.0 in
    subst (λ (y : PlainDecl). (bad_width (width_of (decl_meaning y)) ≡ false) × (is_driven (decl_meaning y) ≡ true → has_name drivers (decl_name y) ≡ true)) same (clear.1, clear.2)
decl_keeps drivers earlier (x ∷ ds) c (suc k) d e = decl_keeps drivers (earlier ++ decl_name x ∷ []) ds c.1 k d e

-- expressions
width_is : (o : Option ℕ) (w : ℕ) → option_map_or (λ v. v == w) o false ≡ true → o ≡ Some w
width_is None w e = absurd (cc)
width_is (Some v) w e = ap Some (eqb-true v w e)

pub expression : (scope : Scope) (e : PlainExpr) (w : ℕ) → misnames scope e ≡ false → not (has_width scope e w) ≡ false → too_deep e ≡ false → IsExpression scope e w
expression scope e w named width shallow = record { named = named; width = width_is (fitting_width scope e) w (not-false (has_width scope e w) width); shallow = shallow }

-- assigns
pub assigns_fresh : (scope : Scope) (earlier : List (List ℕ)) (xs : List PlainAssign) → Clean (assigns_faults scope earlier xs) → Fresh earlier (map (λ a. a.name) xs)
assigns_fresh scope earlier [] c = tt
assigns_fresh scope earlier (a ∷ xs) c = (
  (none_goes_on (not (is_driven (scope a.name))) (has_name earlier a.name) (misnames scope a.value) (ap (λ (f : Faults). f.name) c.0)).1,
  assigns_fresh scope (earlier ++ a.name ∷ []) xs c.1,
)

pub assign_keeps : (scope : Scope) (earlier : List (List ℕ)) (xs : List PlainAssign) → Clean (assigns_faults scope earlier xs) → (k : ℕ) (a : PlainAssign) → slice_get xs k ≡ Some a
    → (is_driven (scope a.name) ≡ true) × IsExpression scope a.value (width_of (scope a.name))
assign_keeps scope earlier [] c k a e = absurd (cc)
assign_keeps scope earlier (x ∷ xs) c zero a e =
    let same : x ≡ a = cc in
    let names = none_goes_on (not (is_driven (scope x.name))) (has_name earlier x.name) (misnames scope x.value) (ap (λ (f : Faults). f.name) c.0) in
    subst (λ (y : PlainAssign). (is_driven (scope y.name) ≡ true) × IsExpression scope y.value (width_of (scope y.name))) same
    (not-false (is_driven (scope x.name)) names.0, expression scope x.value (width_of (scope x.name)) names.2 (ap (λ (f : Faults). f.width) c.0) (ap (λ (f : Faults). f.limit) c.0))
assign_keeps scope earlier (x ∷ xs) c (suc k) a e = assign_keeps scope (earlier ++ x.name ∷ []) xs c.1 k a e

-- nets that instances drive
doubles_fresh : (driven ns : List (List ℕ)) → doubles driven ns ≡ false → Fresh driven ns
doubles_fresh driven [] e = tt
doubles_fresh driven (n ∷ ns) e = let ends = or_parts (has_name driven n) (doubles (driven ++ n ∷ []) ns) e in (ends.0, doubles_fresh (driven ++ n ∷ []) ns ends.1)

pub instances_drive : (before : List PlainModule) (scope : Scope) (earlier driven : List (List ℕ)) (xs : List PlainInstance) → Clean (instances_faults before scope earlier driven xs) → Fresh driven (driven_by_all before xs)
instances_drive before scope earlier driven [] c = tt
instances_drive before scope earlier driven (x ∷ xs) c =
    let name : (has_name earlier x.name || is_none (module_named before x.kind) || misconnects scope (ports_of before x.kind) x.conns || doubles driven (driven_by (ports_of before x.kind) x.conns)) ≡ false =
    ap (λ (f : Faults). f.name) c.0 in
    fresh_both driven (driven_by (ports_of before x.kind) x.conns) (driven_by_all before xs)
    (doubles_fresh driven (driven_by (ports_of before x.kind) x.conns) (or_parts (has_name earlier x.name || is_none (module_named before x.kind) || misconnects scope (ports_of before x.kind) x.conns) (doubles driven (driven_by (ports_of before x.kind) x.conns)) name).1)
    (instances_drive before scope (earlier ++ x.name ∷ []) (driven ++ driven_by (ports_of before x.kind) x.conns) xs c.1)

pub instances_fresh : (before : List PlainModule) (scope : Scope) (earlier driven : List (List ℕ)) (xs : List PlainInstance) → Clean (instances_faults before scope earlier driven xs) → Fresh earlier (map (λ x. x.name) xs)
instances_fresh before scope earlier driven [] c = tt
instances_fresh before scope earlier driven (x ∷ xs) c =
    let name : (has_name earlier x.name || is_none (module_named before x.kind) || misconnects scope (ports_of before x.kind) x.conns || doubles driven (driven_by (ports_of before x.kind) x.conns)) ≡ false =
    ap (λ (f : Faults). f.name) c.0 in
    let outer = or_parts (has_name earlier x.name || is_none (module_named before x.kind) || misconnects scope (ports_of before x.kind) x.conns) (doubles driven (driven_by (ports_of before x.kind) x.conns)) name in
    let inner = none_goes_on (has_name earlier x.name) (is_none (module_named before x.kind)) (misconnects scope (ports_of before x.kind) x.conns) outer.0 in
    (inner.0, instances_fresh before scope (earlier ++ x.name ∷ []) (driven ++ driven_by (ports_of before x.kind) x.conns) xs c.1)

-- edges: what a branch sets, and what it stores
pub set_keeps : (scope : Scope) (earlier : List (List ℕ)) (x : PlainAssign) → set_faults scope earlier x ≡ no_faults → (is_register (scope x.name) ≡ true) × (has_name earlier x.name ≡ false) × IsExpression scope x.value (width_of (scope x.name))
set_keeps scope earlier x e =
    let names = none_goes_on (not (is_register (scope x.name))) (has_name earlier x.name) (misnames scope x.value) (ap (λ (f : Faults). f.name) e) in
    (not-false (is_register (scope x.name)) names.0, names.1, expression scope x.value (width_of (scope x.name)) names.2 (ap (λ (f : Faults). f.width) e) (ap (λ (f : Faults). f.limit) e))
