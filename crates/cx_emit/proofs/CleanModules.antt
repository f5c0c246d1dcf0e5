-- What a module has to keep for no line of it to break a rule, part by part.
use Rattle.std.proofs.Common.{◌≡◌, ℕ, ◌+◌, ◌^◌, ◌<◌, ◌≤◌, ◌==◌, ◌&&◌, ◌||◌, not, Bool, true, false, List, [], ◌∷◌, ◌++◌, map, length, Option, Some, None, is_none, refl, ap, sym, ◌∙◌, subst, if◌then◌else◌, arith, le-ltb, lt-ltb, ne_eqb}
use Rattle.std.specs.Prelude.{nat_lt, codes}
use Rattle.std.specs.List.{list_all}
use Rattle.std.proofs.lemmas.Bool.{lt-leb, and_from, or_from}
use Rattle.cx_text.specs.Members.{Each}
use Rattle.cx_prim.specs.Widths.{IsWidth}
use Rattle.cx_vtree.specs.Plain.{PlainPort, PlainDecl, WireOf, RegisterOf, ArrayOf, PlainAssign, PlainInstance, PlainStore, PlainItem, SetTo, StoreTo, PlainEdge, PlainModule}
use Rattle.cx_vtree.specs.InstanceTree.{same_name}
use Rattle.cx_vtree.specs.Layout.{is_name, expr_fits, port_fits, decl_fits, assign_fits, conn_fits, instance_fits, item_fits, edge_fits, module_fits}
use Rattle.cx_vtree.specs.Sound.{no_faults, Scope, meant_in, width_of, is_array, is_register, is_driven, misnames, bad_width, has_width, too_deep, fitting_width, has_name, module_named, driven_by, ports_of, driven_by_all, drivers_in, decl_name, is_port, wrong_port, undriven, port_faults, ports_faults, decl_faults, decls_faults, assign_faults, assigns_faults, misconnects, misfits, doubles, instance_faults, instances_faults, set_faults, sets_faults, item_faults, item_name, items_faults, edge_faults, Counts, too_large, module_faults, lines_faults}
use Rattle.cx_vlaws.proofs.Fresh.{Fresh, fresh_left, fresh_right}
use Rattle.cx_emit.specs.Signatures.{one_bit}
use Rattle.cx_emit.proofs.FaultLaws.{IsClean, AreClean, no_lines, a_line, clean-append}
use Rattle.cx_emit.proofs.Keeping.{Keeps, keeps_width}
use Rattle.cx_vtree.proofs.SoundLemmas.{not_wide}

pub record KeepsPort (drivers : List (List ℕ)) (p : PlainPort) : Type 0 where
  pub named : is_name p.name ≡ true
  pub wide : IsWidth p.width
  pub driven : p.output ≡ true → has_name drivers p.name ≡ true

abbrev pub KeepsDecl : List (List ℕ) → PlainDecl → Type 0
KeepsDecl drivers (WireOf n w) = (is_name n ≡ true) × IsWidth w × (has_name drivers n ≡ true)
KeepsDecl drivers (RegisterOf n w) = (is_name n ≡ true) × IsWidth w
KeepsDecl drivers (ArrayOf n w k) = (is_name n ≡ true) × IsWidth w × (0 < k) × (k < 2 ^ 64)

pub record KeepsAssign (scope : Scope) (a : PlainAssign) : Type 0 where
  pub named : is_name a.name ≡ true
  pub drives : is_driven (scope a.name) ≡ true
  pub value : Keeps scope 64 a.value (width_of (scope a.name))

pub record KeepsInstance (before : List PlainModule) (scope : Scope) (i : PlainInstance) : Type 0 where
  pub kind : is_name i.kind ≡ true
  pub named : is_name i.name ≡ true
  pub known : is_none (module_named before i.kind) ≡ false
  pub connects : misconnects scope (ports_of before i.kind) i.conns ≡ false
  pub fits : misfits scope (ports_of before i.kind) i.conns ≡ false
  pub some : 0 < length i.conns
  pub conns : Each (λ c. conn_fits c ≡ true) i.conns

pub record KeepsSet (scope : Scope) (a : PlainAssign) : Type 0 where
  pub named : is_name a.name ≡ true
  pub sets : is_register (scope a.name) ≡ true
  pub value : Keeps scope 64 a.value (width_of (scope a.name))

pub record KeepsStore (scope : Scope) (s : PlainStore) : Type 0 where
  pub named : is_name s.array ≡ true
  pub stores : is_array (scope s.array) ≡ true
  pub guard : Keeps scope 64 s.guard 1
  pub index_width : ℕ
  pub index : Keeps scope 64 s.index index_width
  pub value : Keeps scope 64 s.value (width_of (scope s.array))

abbrev pub KeepsItem : Scope → PlainItem → Type 0
KeepsItem scope (SetTo a) = KeepsSet scope a
KeepsItem scope (StoreTo s) = KeepsStore scope s

pub record KeepsEdge (scope : Scope) (e : PlainEdge) : Type 0 where
  pub reset_once : Fresh [] (map (λ a. a.name) e.reset)
  pub reset : Each (KeepsSet scope) e.reset
  pub step_once : Fresh [] (map item_name e.step)
  pub step : Each (KeepsItem scope) e.step

abbrev pub KeepsEdges : Scope → Option PlainEdge → Type 0
KeepsEdges scope None = Unit {0}
KeepsEdges scope (Some e) = KeepsEdge scope e

abbrev pub scope_of : PlainModule → Scope
scope_of m = meant_in m.ports m.decls

pub record IsKept (before : List PlainModule) (m : PlainModule) : Type 0 where
  pub named : is_name m.name ≡ true
  -- the ports behind the clock and the reset
  pub behind : List PlainPort
  pub clocked : m.ports ≡ one_bit (codes "clk") ∷ one_bit (codes "reset") ∷ behind
  pub names : Fresh [] (map (λ p. p.name) m.ports ++ (map decl_name m.decls ++ map (λ i. i.name) m.instances))
  pub ports : Each (KeepsPort (drivers_in before m)) m.ports
  pub decls : Each (KeepsDecl (drivers_in before m)) m.decls
  pub driven_once : Fresh [] (drivers_in before m)
  pub assigns : Each (KeepsAssign (scope_of m)) m.assigns
  pub instances : Each (KeepsInstance before (scope_of m)) m.instances
  pub edge : KeepsEdges (scope_of m) m.edge

-- LINES
width_fine : (w : ℕ) → IsWidth w → bad_width w ≡ false
width_fine w wide = not_wide w wide.some_bits wide.few_bits

blank : IsClean no_faults
blank = record { name = refl; width = refl; limit = refl }

-- an output is driven, and an input needs not be
driven_fine : (drivers : List (List ℕ)) (p : PlainPort) → KeepsPort drivers p → (p.output && undriven drivers p.name) ≡ false
driven_fine drivers p k = go p.output k.driven where
  go : (b : Bool) → (b ≡ true → has_name drivers p.name ≡ true) → (b && undriven drivers p.name) ≡ false
  go true h = ap not (h refl)
  go false h = refl

-- ports behind the clock and the reset of a module that is not main
port_clean : (drivers earlier : List (List ℕ)) (index : ℕ) (p : PlainPort) → 2 ≤ index → has_name earlier p.name ≡ false → KeepsPort drivers p → IsClean (port_faults false drivers earlier index p)
port_clean drivers earlier index p behind fresh k = record {
  name = or_from (has_name earlier p.name || wrong_port false index p) (p.output && undriven drivers p.name)
      (or_from (has_name earlier p.name) (wrong_port false index p) fresh placed) (driven_fine drivers p k);
  width = or_from (bad_width p.width) (nat_lt index 2 && not (p.width == 1)) (width_fine p.width k.wide) (ap (λ b. b && not (p.width == 1)) (le-ltb index 2 behind));
  limit = refl;
}
  where
    placed : wrong_port false index p ≡ false
    placed =
        ap (λ b. if b then not (is_port (codes "clk") false p) else (if index == 1 then not (is_port (codes "reset") false p) else false)) (ne_eqb index 0 (λ e. absurd (omega (arith, e, behind))))
        ∙ ap (λ b. if b then not (is_port (codes "reset") false p) else false) (ne_eqb index 1 (λ e. absurd (omega (arith, e, behind))))

ports_clean : (drivers earlier : List (List ℕ)) (index : ℕ) (ps : List PlainPort) → 2 ≤ index → Fresh earlier (map (λ p. p.name) ps) → Each (KeepsPort drivers) ps → AreClean (ports_faults false drivers earlier index ps)
ports_clean drivers earlier index [] behind fresh each = no_lines
ports_clean drivers earlier index (p ∷ ps) behind fresh each =
    a_line (port_clean drivers earlier index p behind fresh.0 each.0) (ports_clean drivers (earlier ++ p.name ∷ []) (index + 1) ps (omega (arith, behind)) fresh.1 each.1)

decl_clean : (drivers earlier : List (List ℕ)) (d : PlainDecl) → has_name earlier (decl_name d) ≡ false → KeepsDecl drivers d → IsClean (decl_faults drivers earlier d)
decl_clean drivers earlier (WireOf n w) fresh k = record { name = or_from (has_name earlier n) (undriven drivers n) fresh (ap not k.2); width = width_fine w k.1; limit = refl }
decl_clean drivers earlier (RegisterOf n w) fresh k = record { name = fresh; width = width_fine w k.1; limit = refl }
decl_clean drivers earlier (ArrayOf n w size) fresh k = record { name = fresh; width = width_fine w k.1; limit = lt-leb (2 ^ 64) size k.3 }

decls_clean : (drivers earlier : List (List ℕ)) (ds : List PlainDecl) → Fresh earlier (map decl_name ds) → Each (KeepsDecl drivers) ds → AreClean (decls_faults drivers earlier ds)
decls_clean drivers earlier [] fresh each = no_lines
decls_clean drivers earlier (d ∷ ds) fresh each = a_line (decl_clean drivers earlier d fresh.0 each.0) (decls_clean drivers (earlier ++ decl_name d ∷ []) ds fresh.1 each.1)

assigns_clean : (scope : Scope) (earlier : List (List ℕ)) (xs : List PlainAssign) → Fresh earlier (map (λ a. a.name) xs) → Each (KeepsAssign scope) xs → AreClean (assigns_faults scope earlier xs)
assigns_clean scope earlier [] fresh each = no_lines
assigns_clean scope earlier (a ∷ xs) fresh each = a_line here (assigns_clean scope (earlier ++ a.name ∷ []) xs fresh.1 each.1) where
  here : IsClean (assign_faults scope earlier a)
  here = record {
    name = or_from (not (is_driven (scope a.name)) || has_name earlier a.name) (misnames scope a.value)
        (or_from (not (is_driven (scope a.name))) (has_name earlier a.name) (ap not each.0.drives) fresh.0) each.0.value.names;
    width = ap not (keeps_width scope 64 a.value (width_of (scope a.name)) each.0.value);
    limit = each.0.value.shallow;
  }

not_doubled : (driven ns : List (List ℕ)) → Fresh driven ns → doubles driven ns ≡ false
not_doubled driven [] f = refl
not_doubled driven (n ∷ ns) f = or_from (has_name driven n) (doubles (driven ++ n ∷ []) ns) f.0 (not_doubled (driven ++ n ∷ []) ns f.1)

instances_clean : (before : List PlainModule) (scope : Scope) (earlier driven : List (List ℕ)) (is : List PlainInstance) → Fresh earlier (map (λ i. i.name) is)
    → Fresh driven (driven_by_all before is) → Each (KeepsInstance before scope) is → AreClean (instances_faults before scope earlier driven is)
instances_clean before scope earlier driven [] fresh once each = no_lines
instances_clean before scope earlier driven (i ∷ is) fresh once each =
    a_line here (instances_clean before scope (earlier ++ i.name ∷ []) (driven ++ driven_by (ports_of before i.kind) i.conns) is fresh.1
    (fresh_right driven (driven_by (ports_of before i.kind) i.conns) (driven_by_all before is) once) each.1)
  where
    here : IsClean (instance_faults before scope earlier driven i)
    here = record {
      name = or_from (has_name earlier i.name || is_none (module_named before i.kind) || misconnects scope (ports_of before i.kind) i.conns) (doubles driven (driven_by (ports_of before i.kind) i.conns))
          (or_from (has_name earlier i.name || is_none (module_named before i.kind)) (misconnects scope (ports_of before i.kind) i.conns)
          (or_from (has_name earlier i.name) (is_none (module_named before i.kind)) fresh.0 each.0.known) each.0.connects)
          (not_doubled driven (driven_by (ports_of before i.kind) i.conns) (fresh_left driven (driven_by (ports_of before i.kind) i.conns) (driven_by_all before is) once));
      width = each.0.fits;
      limit = refl;
    }

set_clean : (scope : Scope) (earlier : List (List ℕ)) (a : PlainAssign) → has_name earlier a.name ≡ false → KeepsSet scope a → IsClean (set_faults scope earlier a)
set_clean scope earlier a fresh k = record {
  name = or_from (not (is_register (scope a.name)) || has_name earlier a.name) (misnames scope a.value)
      (or_from (not (is_register (scope a.name))) (has_name earlier a.name) (ap not k.sets) fresh) k.value.names;
  width = ap not (keeps_width scope 64 a.value (width_of (scope a.name)) k.value);
  limit = k.value.shallow;
}

sets_clean : (scope : Scope) (earlier : List (List ℕ)) (xs : List PlainAssign) → Fresh earlier (map (λ a. a.name) xs) → Each (KeepsSet scope) xs → AreClean (sets_faults scope earlier xs)
sets_clean scope earlier [] fresh each = no_lines
sets_clean scope earlier (a ∷ xs) fresh each = a_line (set_clean scope earlier a fresh.0 each.0) (sets_clean scope (earlier ++ a.name ∷ []) xs fresh.1 each.1)

item_clean : (scope : Scope) (earlier : List (List ℕ)) (i : PlainItem) → has_name earlier (item_name i) ≡ false → KeepsItem scope i → IsClean (item_faults scope earlier i)
item_clean scope earlier (SetTo a) fresh k = set_clean scope earlier a fresh k
item_clean scope earlier (StoreTo s) fresh k = record {
  name = or_from (not (is_array (scope s.array)) || has_name earlier s.array || misnames scope s.guard || misnames scope s.index) (misnames scope s.value)
      (or_from (not (is_array (scope s.array)) || has_name earlier s.array || misnames scope s.guard) (misnames scope s.index)
      (or_from (not (is_array (scope s.array)) || has_name earlier s.array) (misnames scope s.guard)
      (or_from (not (is_array (scope s.array))) (has_name earlier s.array) (ap not k.stores) fresh) k.guard.names) k.index.names) k.value.names;
  width = or_from (not (has_width scope s.guard 1) || is_none (fitting_width scope s.index)) (not (has_width scope s.value (width_of (scope s.array))))
      (or_from (not (has_width scope s.guard 1)) (is_none (fitting_width scope s.index)) (ap not (keeps_width scope 64 s.guard 1 k.guard)) (ap is_none k.index.width))
      (ap not (keeps_width scope 64 s.value (width_of (scope s.array)) k.value));
  limit = or_from (too_deep s.guard || too_deep s.index) (too_deep s.value) (or_from (too_deep s.guard) (too_deep s.index) k.guard.shallow k.index.shallow) k.value.shallow;
}

items_clean : (scope : Scope) (earlier : List (List ℕ)) (is : List PlainItem) → Fresh earlier (map item_name is) → Each (KeepsItem scope) is → AreClean (items_faults scope earlier is)
items_clean scope earlier [] fresh each = no_lines
items_clean scope earlier (i ∷ is) fresh each = a_line (item_clean scope earlier i fresh.0 each.0) (items_clean scope (earlier ++ item_name i ∷ []) is fresh.1 each.1)

edge_clean : (scope : Scope) (o : Option PlainEdge) → KeepsEdges scope o → AreClean (edge_faults scope o)
edge_clean scope None k = no_lines
edge_clean scope (Some e) k =
    clean-append _ _
    (clean-append _ _ (a_line blank (a_line blank (sets_clean scope [] e.reset k.reset_once k.reset))) (a_line blank (items_clean scope [] e.step k.step_once k.step)))
    (a_line blank (a_line blank no_lines))

-- the lines of a module, where the first ones, to its last port, break no rule
pub lines_clean : (is_main : Bool) (before : List PlainModule) (own : Counts) (m : PlainModule) → IsKept before m
    → AreClean (module_faults is_main before own m ∷ ports_faults is_main (drivers_in before m) [] 0 m.ports) → AreClean (lines_faults is_main before own m)
lines_clean is_main before own m k front =
    let ports : List (List ℕ) = map (λ p. p.name) m.ports in
    let decls : List (List ℕ) = map decl_name m.decls in
    let parts : List (List ℕ) = map (λ i. i.name) m.instances in
    let assigned : List (List ℕ) = map (λ a. a.name) m.assigns in
    let names : Fresh ports (decls ++ parts) = fresh_right [] ports (decls ++ parts) k.names in
    clean-append _ _
    (clean-append _ _
    (clean-append _ _
    (clean-append _ _
    (clean-append _ _ front (a_line blank (decls_clean (drivers_in before m) ports m.decls (fresh_left ports decls parts names) k.decls)))
    (assigns_clean (scope_of m) [] m.assigns (fresh_left [] assigned (driven_by_all before m.instances) k.driven_once) k.assigns))
    (instances_clean before (scope_of m) (ports ++ decls) assigned m.instances (fresh_right ports decls parts names) (fresh_right [] assigned (driven_by_all before m.instances) k.driven_once) k.instances))
    (edge_clean (scope_of m) m.edge k.edge))
    (a_line blank no_lines)

-- a module that is not main
pub module_clean : (before : List PlainModule) (own : Counts) (m : PlainModule) → IsKept before m → has_name (map (λ m. m.name) before) m.name ≡ false → AreClean (lines_faults false before own m)
module_clean before own m k fresh = lines_clean false before own m k (a_line first ports) where
  first : IsClean (module_faults false before own m)
  first = record {
    name = or_from (has_name (map (λ m. m.name) before) m.name || nat_lt (length m.ports) 2) false
        (or_from (has_name (map (λ m. m.name) before) m.name) (nat_lt (length m.ports) 2) fresh
        (le-ltb (length m.ports) 2 (subst (λ ps. 2 ≤ length ps) (sym k.clocked) (omega arith)))) refl;
    width = refl;
    limit = refl;
  }

  ports : AreClean (ports_faults false (drivers_in before m) [] 0 m.ports)
  ports =
      let each : Each (KeepsPort (drivers_in before m)) (one_bit (codes "clk") ∷ one_bit (codes "reset") ∷ k.behind) = subst (Each (KeepsPort (drivers_in before m))) k.clocked k.ports in
      let names : Fresh [] (map (λ p. p.name) (one_bit (codes "clk") ∷ one_bit (codes "reset") ∷ k.behind)) =
      subst (λ ps. Fresh [] (map (λ (p : PlainPort). p.name) ps)) k.clocked (fresh_left [] (map (λ p. p.name) m.ports) (map decl_name m.decls ++ map (λ i. i.name) m.instances) k.names) in
      subst (λ ps. AreClean (ports_faults false (drivers_in before m) [] 0 ps)) (sym k.clocked)
      (a_line (record { name = refl; width = refl; limit = refl }) (a_line (record { name = refl; width = refl; limit = refl })
      (ports_clean (drivers_in before m) (codes "clk" ∷ codes "reset" ∷ []) 2 k.behind (omega arith) names.1.1 each.1.1)))

-- main, whose ports are these four
pub main_clean : (before : List PlainModule) (own : Counts) (m : PlainModule) → IsKept before m → has_name (map (λ m. m.name) before) m.name ≡ false
    → m.name ≡ codes "main" → m.ports ≡ one_bit (codes "clk") ∷ one_bit (codes "reset") ∷ one_bit (codes "go") ∷ record { output = true; name = codes "done"; width = 1 } ∷ []
    → too_large own ≡ false → AreClean (lines_faults true before own m)
main_clean before own m k fresh named ported fits = lines_clean true before own m k (a_line first ports) where
  first : IsClean (module_faults true before own m)
  first = record {
    name = or_from (has_name (map (λ m. m.name) before) m.name || nat_lt (length m.ports) 4) (not (same_name m.name (codes "main")))
        (or_from (has_name (map (λ m. m.name) before) m.name) (nat_lt (length m.ports) 4) fresh (ap (λ ps. nat_lt (length ps) 4) ported)) (ap (λ n. not (same_name n (codes "main"))) named);
    width = refl;
    limit = fits;
  }

  done_driven : has_name (drivers_in before m) (codes "done") ≡ true
  done_driven = (subst (Each (KeepsPort (drivers_in before m))) ported k.ports).1.1.1.0.driven refl

  ports : AreClean (ports_faults true (drivers_in before m) [] 0 m.ports)
  ports =
      subst (λ ps. AreClean (ports_faults true (drivers_in before m) [] 0 ps)) (sym ported)
      (a_line (record { name = refl; width = refl; limit = refl }) (a_line (record { name = refl; width = refl; limit = refl }) (a_line (record { name = refl; width = refl; limit = refl })
      (a_line (record { name = ap not done_driven; width = refl; limit = refl }) no_lines))))

-- LAYOUT
pub each_all : {A : Type 0} (test : A → Bool) (xs : List A) → Each (λ x. test x ≡ true) xs → list_all test xs ≡ true
each_all test [] each = refl
each_all test (x ∷ xs) each = and_from (test x) (list_all test xs) each.0 (each_all test xs each.1)

pub each_more : {A : Type 0} {P Q : A → Type 0} (xs : List A) → ((x : A) → P x → Q x) → Each P xs → Each Q xs
each_more [] h each = tt
each_more (x ∷ xs) h each = (h x each.0, each_more xs h each.1)

some_bits : (w : ℕ) → IsWidth w → nat_lt 0 w ≡ true
some_bits w wide = let some = wide.some_bits in lt-ltb 0 w (omega (arith, some))

decl_laid : (drivers : List (List ℕ)) (d : PlainDecl) → KeepsDecl drivers d → decl_fits d ≡ true
decl_laid drivers (WireOf n w) k = and_from (is_name n) (nat_lt 0 w) k.0 (some_bits w k.1)
decl_laid drivers (RegisterOf n w) k = and_from (is_name n) (nat_lt 0 w) k.0 (some_bits w k.1)
decl_laid drivers (ArrayOf n w size) k = and_from (is_name n && nat_lt 0 w) (nat_lt 0 size) (and_from (is_name n) (nat_lt 0 w) k.0 (some_bits w k.1)) (lt-ltb 0 size k.2)

item_laid : (scope : Scope) (i : PlainItem) → KeepsItem scope i → item_fits i ≡ true
item_laid scope (SetTo a) k = and_from (is_name a.name) (expr_fits a.value) k.named k.value.laid
item_laid scope (StoreTo s) k =
    and_from (is_name s.array && expr_fits s.guard && expr_fits s.index) (expr_fits s.value)
    (and_from (is_name s.array && expr_fits s.guard) (expr_fits s.index) (and_from (is_name s.array) (expr_fits s.guard) k.named k.guard.laid) k.index.laid) k.value.laid

edge_laid : (scope : Scope) (o : Option PlainEdge) → KeepsEdges scope o → edge_fits o ≡ true
edge_laid scope None k = refl
edge_laid scope (Some e) k =
    and_from (list_all assign_fits e.reset) (list_all item_fits e.step)
    (each_all assign_fits e.reset (each_more e.reset (λ a h. and_from (is_name a.name) (expr_fits a.value) h.named h.value.laid) k.reset))
    (each_all item_fits e.step (each_more e.step (item_laid scope) k.step))

pub module_laid : (before : List PlainModule) (m : PlainModule) → IsKept before m → module_fits m ≡ true
module_laid before m k =
    and_from (is_name m.name && nat_lt 0 (length m.ports) && list_all port_fits m.ports && list_all decl_fits m.decls && list_all assign_fits m.assigns && list_all instance_fits m.instances) (edge_fits m.edge)
    (and_from (is_name m.name && nat_lt 0 (length m.ports) && list_all port_fits m.ports && list_all decl_fits m.decls && list_all assign_fits m.assigns) (list_all instance_fits m.instances)
    (and_from (is_name m.name && nat_lt 0 (length m.ports) && list_all port_fits m.ports && list_all decl_fits m.decls) (list_all assign_fits m.assigns)
    (and_from (is_name m.name && nat_lt 0 (length m.ports) && list_all port_fits m.ports) (list_all decl_fits m.decls)
    (and_from (is_name m.name && nat_lt 0 (length m.ports)) (list_all port_fits m.ports)
    (and_from (is_name m.name) (nat_lt 0 (length m.ports)) k.named (lt-ltb 0 (length m.ports) (subst (λ ps. 0 < length ps) (sym k.clocked) (omega arith))))
    (each_all port_fits m.ports (each_more m.ports (λ p h. and_from (is_name p.name) (nat_lt 0 p.width) h.named (some_bits p.width h.wide)) k.ports)))
    (each_all decl_fits m.decls (each_more m.decls (decl_laid (drivers_in before m)) k.decls)))
    (each_all assign_fits m.assigns (each_more m.assigns (λ a h. and_from (is_name a.name) (expr_fits a.value) h.named h.value.laid) k.assigns)))
    (each_all instance_fits m.instances (each_more m.instances (λ i h.
    and_from (is_name i.kind && is_name i.name && nat_lt 0 (length i.conns)) (list_all conn_fits i.conns)
    (and_from (is_name i.kind && is_name i.name) (nat_lt 0 (length i.conns)) (and_from (is_name i.kind) (is_name i.name) h.kind h.named) (lt-ltb 0 (length i.conns) h.some))
    (each_all conn_fits i.conns h.conns)) k.instances)))
    (edge_laid (scope_of m) m.edge k.edge)
