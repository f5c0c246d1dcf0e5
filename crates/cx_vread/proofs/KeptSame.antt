-- A source that a tree holds is kept as it is.
use Rattle.std.proofs.Common.{◌≡◌, not, Bool, true, ◌&&◌, List, [], ◌∷◌, map, Option, Some, None, refl, ◌∙◌, ap, if◌then◌else◌}
use Rattle.std.specs.Prelude.{nat_lt, option_map}
use Rattle.std.specs.List.{list_all}
use Rattle.std.proofs.lemmas.Bool.{and_parts, not-true}
use Rattle.cx_vtree.specs.Plain.{PlainPort, PlainDecl, WireOf, RegisterOf, ArrayOf, PlainAssign, PlainItem, SetTo, StoreTo, PlainEdge, PlainModule, PlainExternal, PlainSource, PlainExpr}
use Rattle.cx_vtree.specs.Sound.{Scope, nests_over}
use Rattle.cx_vread_exprs.specs.Deep.{stand_for}
use Rattle.cx_vscope.specs.Shapes.{shape_of}
use Rattle.cx_vread_exprs.specs.Holds.{numbers_fit, holds_expr}
use Rattle.cx_vread_exprs.proofs.ExprAgain.{small_kept, expr_kept}
use Rattle.cx_vread_exprs.proofs.Kept.{kept_expr, kept_by}
use Rattle.cx_vread.specs.Held.{holds_port, holds_decl, holds_assign, holds_item, holds_edge, holds_module, holds_external, is_held}
use Rattle.cx_vread.proofs.Kept.{kept_port, kept_decl, kept_assign, kept_item, kept_edge, kept_scope, kept_module, kept_external, kept_source}

-- lists whose items are kept
pub map_same : {X : Type 0} (kept : X → X) (good : X → Bool) → ((x : X) → good x ≡ true → kept x ≡ x) → (xs : List X) → list_all good xs ≡ true → map kept xs ≡ xs
map_same kept good same [] h = refl
map_same kept good same (x ∷ xs) h =
    let both = and_parts (good x) (list_all good xs) h in
    ap (λ y. y ∷ map kept xs) (same x both.0) ∙ ap (λ ys. x ∷ ys) (map_same kept good same xs both.1)

pub expr_same : (scope : Scope) (e : PlainExpr) → holds_expr e ≡ true → kept_by scope e ≡ e
expr_same scope e h =
    let both = and_parts (numbers_fit e) (not (nests_over 128 e)) h in
    ap (λ t. if t then stand_for (shape_of scope (kept_expr e)) else kept_expr e) (not-true (nests_over 128 e) both.1) ∙ expr_kept e both.0

pub port_same : (p : PlainPort) → holds_port p ≡ true → kept_port p ≡ p
port_same p h = ap (λ w. record { output = p.output; name = p.name; width = w }) (small_kept p.width h)

pub decl_same : (d : PlainDecl) → holds_decl d ≡ true → kept_decl d ≡ d
decl_same (WireOf n w) h = ap (WireOf n) (small_kept w h)
decl_same (RegisterOf n w) h = ap (RegisterOf n) (small_kept w h)
decl_same (ArrayOf n w k) h = ap (λ v. ArrayOf n v k) (small_kept w (and_parts (nat_lt w 256) (nat_lt k 18446744073709551616) h).0)

assign_same : (scope : Scope) (a : PlainAssign) → holds_assign a ≡ true → kept_assign scope a ≡ a
assign_same scope a h = ap (λ v. record { name = a.name; value = v }) (expr_same scope a.value h)

item_same : (scope : Scope) (i : PlainItem) → holds_item i ≡ true → kept_item scope i ≡ i
item_same scope (SetTo a) h = ap SetTo (assign_same scope a h)
item_same scope (StoreTo s) h =
    let h2 = and_parts (holds_expr s.guard && holds_expr s.index) (holds_expr s.value) h in
    let h1 = and_parts (holds_expr s.guard) (holds_expr s.index) h2.0 in
    ap (λ g. StoreTo (record { guard = g; array = s.array; index = kept_by scope s.index; value = kept_by scope s.value })) (expr_same scope s.guard h1.0)
    ∙ ap (λ i. StoreTo (record { guard = s.guard; array = s.array; index = i; value = kept_by scope s.value })) (expr_same scope s.index h1.1)
    ∙ ap (λ v. StoreTo (record { guard = s.guard; array = s.array; index = s.index; value = v })) (expr_same scope s.value h2.1)

edge_same : (scope : Scope) (e : Option PlainEdge) → holds_edge e ≡ true → option_map (kept_edge scope) e ≡ e
edge_same scope None h = refl
edge_same scope (Some e) h =
    let both = and_parts (list_all holds_assign e.reset) (list_all holds_item e.step) h in
    ap (λ r. Some (record { reset = r; step = map (kept_item scope) e.step })) (map_same (kept_assign scope) holds_assign (assign_same scope) e.reset both.0)
    ∙ ap (λ s. Some (record { reset = e.reset; step = s })) (map_same (kept_item scope) holds_item (item_same scope) e.step both.1)

pub record ModuleHeld (m : PlainModule) : Type 0 where
  pub ports : list_all holds_port m.ports ≡ true
  pub decls : list_all holds_decl m.decls ≡ true
  pub assigns : list_all holds_assign m.assigns ≡ true
  pub edge : holds_edge m.edge ≡ true

pub module_held : (m : PlainModule) → holds_module m ≡ true → ModuleHeld m
module_held m h =
    let h3 = and_parts (list_all holds_port m.ports && list_all holds_decl m.decls && list_all holds_assign m.assigns) (holds_edge m.edge) h in
    let h2 = and_parts (list_all holds_port m.ports && list_all holds_decl m.decls) (list_all holds_assign m.assigns) h3.0 in
    let h1 = and_parts (list_all holds_port m.ports) (list_all holds_decl m.decls) h2.0 in
    record { ports = h1.0; decls = h1.1; assigns = h2.1; edge = h3.1 }

module_same : (m : PlainModule) → holds_module m ≡ true → kept_module m ≡ m
module_same m h =
    let held = module_held m h in
    let scope : Scope = kept_scope m in
    ap (λ ps. record { name = m.name; ports = ps; decls = map kept_decl m.decls; assigns = map (kept_assign scope) m.assigns; instances = m.instances; edge = option_map (kept_edge scope) m.edge }) (map_same kept_port holds_port port_same m.ports held.ports)
    ∙ ap (λ ds. record { name = m.name; ports = m.ports; decls = ds; assigns = map (kept_assign scope) m.assigns; instances = m.instances; edge = option_map (kept_edge scope) m.edge }) (map_same kept_decl holds_decl decl_same m.decls held.decls)
    ∙ ap (λ xs. record { name = m.name; ports = m.ports; decls = m.decls; assigns = xs; instances = m.instances; edge = option_map (kept_edge scope) m.edge }) (map_same (kept_assign scope) holds_assign (assign_same scope) m.assigns held.assigns)
    ∙ ap (λ e. record { name = m.name; ports = m.ports; decls = m.decls; assigns = m.assigns; instances = m.instances; edge = e }) (edge_same scope m.edge held.edge)

external_same : (e : PlainExternal) → holds_external e ≡ true → kept_external e ≡ e
external_same e h =
    let both = and_parts (nat_lt e.width 256) (list_all (λ k. nat_lt k 18446744073709551616) e.sizes) h in
    ap (λ w. record { name = e.name; instance = e.instance; width = w; sizes = e.sizes }) (small_kept e.width both.0)

pub held_kept : (s : PlainSource) → is_held s ≡ true → kept_source s ≡ s
held_kept s h =
    let both = and_parts (list_all holds_external s.externals) (list_all holds_module s.modules) h in
    ap (λ es. record { externals = es; modules = map kept_module s.modules }) (map_same kept_external holds_external external_same s.externals both.0)
    ∙ ap (λ ms. record { externals = s.externals; modules = ms }) (map_same kept_module holds_module module_same s.modules both.1)
