-- What a tree keeps of the modules of a source breaks the same rules.
use Rattle.std.proofs.Common.{◌≡◌, ℕ, ◌==◌, not, Bool, true, false, ◌&&◌, ◌||◌, List, [], ◌∷◌, ◌++◌, map, length, Option, Some, None, refl, ◌∙◌, ap, sym, subst, if◌then◌else◌}
use Rattle.std.specs.Prelude.{codes, nat_lt, is_none, option_map}
use Rattle.std.specs.List.{list_all}
use Rattle.std.specs.Option.{option_map_or}
use Rattle.std.proofs.lemmas.Bool.{and_parts, and_from}
use Rattle.std.proofs.lemmas.List.{map-append, length-map}
use Rattle.std.proofs.lemmas.List.Folds.{list_all-append}
use Rattle.cx_vtree.specs.InstanceTree.{same_name}
use Rattle.cx_vtree.specs.Plain.{PlainPort, PlainDecl, WireOf, RegisterOf, ArrayOf, PlainAssign, PlainInstance, PlainModule}
use Rattle.cx_vtree.specs.Sound.{Faults, no_faults, Scope, Counts, meant_in, has_name, module_named, ports_of, decl_name, driven_by, driven_by_all, drivers_in, misconnects, misfits, doubles, decl_counts, decls_counts, sum_counts, counts_named, instances_counts, module_counts, module_faults, ports_faults, decls_faults, assigns_faults, instance_faults, instances_faults, edge_faults, lines_faults, modules_faults, too_large}
use Rattle.cx_vread.specs.Held.{holds_port, holds_decl}
use Rattle.cx_vread.proofs.Alike.{Alike, alike_refl, alike_append}
use Rattle.cx_vread.proofs.HeldSources.{split}
use Rattle.cx_vread.proofs.GoodWidths.{is_fine, ports_good, decls_good, meant_fine}
use Rattle.cx_vread.proofs.Kept.{kept_port, kept_decl, kept_assign, kept_edge, kept_scope, kept_module}
use Rattle.cx_vread.proofs.KeptLines.{ports_alike, decls_alike, assigns_alike, edge_alike}
use Rattle.cx_vread.proofs.KeptSame.{map_same, port_same, decl_same}
use Rattle.cx_vread.proofs.SoundHeld.{is_clean, ports_held, decls_held, meant_small}

-- modules whose ports are kept as they are
abbrev pub has_held_ports : PlainModule → Bool
has_held_ports m = list_all holds_port m.ports

ports_same : (ps : List PlainPort) → list_all holds_port ps ≡ true → map kept_port ps ≡ ps
ports_same ps h = map_same kept_port holds_port port_same ps h

decls_same : (ds : List PlainDecl) → list_all holds_decl ds ≡ true → map kept_decl ds ≡ ds
decls_same ds h = map_same kept_decl holds_decl decl_same ds h

-- names
assign_names : (scope : Scope) (xs : List PlainAssign) → map (λ a. a.name) (map (kept_assign scope) xs) ≡ map (λ a. a.name) xs
assign_names scope [] = refl
assign_names scope (a ∷ xs) = ap (λ ns. a.name ∷ ns) (assign_names scope xs)

module_names : (ms : List PlainModule) → map (λ m. m.name) (map kept_module ms) ≡ map (λ m. m.name) ms
module_names [] = refl
module_names (m ∷ ms) = ap (λ ns. m.name ∷ ns) (module_names ms)

port_names : (ps : List PlainPort) → map (λ p. p.name) (map kept_port ps) ≡ map (λ p. p.name) ps
port_names [] = refl
port_names (p ∷ ps) = ap (λ ns. p.name ∷ ns) (port_names ps)

-- the module of a name
either_kept : (b : Bool) (m : PlainModule) (o p : Option PlainModule) → o ≡ option_map kept_module p → (if b then Some (kept_module m) else o) ≡ option_map kept_module (if b then Some m else p)
either_kept true m o p e = refl
either_kept false m o p e = e

pub module_named_kept : (ms : List PlainModule) (name : List ℕ) → module_named (map kept_module ms) name ≡ option_map kept_module (module_named ms name)
module_named_kept [] name = refl
module_named_kept (m ∷ ms) name = either_kept (same_name m.name name) m (module_named (map kept_module ms) name) (module_named ms name) (module_named_kept ms name)

none_kept : (o : Option PlainModule) → is_none (option_map kept_module o) ≡ is_none o
none_kept None = refl
none_kept (Some m) = refl

either_ports : (b : Bool) (m : PlainModule) (o p : Option PlainModule) → has_held_ports m ≡ true → option_map_or (λ m. m.ports) o [] ≡ option_map_or (λ m. m.ports) p []
    → option_map_or (λ m. m.ports) (if b then Some (kept_module m) else o) [] ≡ option_map_or (λ m. m.ports) (if b then Some m else p) []
either_ports true m o p h e = ports_same m.ports h
either_ports false m o p h e = e

ports_of_kept : (before : List PlainModule) (kind : List ℕ) → list_all has_held_ports before ≡ true → ports_of (map kept_module before) kind ≡ ports_of before kind
ports_of_kept [] kind h = refl
ports_of_kept (m ∷ ms) kind h =
    let both = and_parts (has_held_ports m) (list_all has_held_ports ms) h in
    either_ports (same_name m.name kind) m (module_named (map kept_module ms) kind) (module_named ms kind) both.0 (ports_of_kept ms kind both.1)

-- drivers
driven_kept : (before : List PlainModule) (is : List PlainInstance) → list_all has_held_ports before ≡ true → driven_by_all (map kept_module before) is ≡ driven_by_all before is
driven_kept before [] h = refl
driven_kept before (i ∷ is) h =
    ap (λ ps. driven_by ps i.conns ++ driven_by_all (map kept_module before) is) (ports_of_kept before i.kind h)
    ∙ ap (λ ns. driven_by (ports_of before i.kind) i.conns ++ ns) (driven_kept before is h)

drivers_kept : (before : List PlainModule) (m : PlainModule) → list_all has_held_ports before ≡ true → drivers_in (map kept_module before) (kept_module m) ≡ drivers_in before m
drivers_kept before m h =
    ap (λ ns. ns ++ driven_by_all (map kept_module before) m.instances) (assign_names (kept_scope m) m.assigns)
    ∙ ap (λ ns. map (λ a. a.name) m.assigns ++ ns) (driven_kept before m.instances h)

-- counts
decl_counts_kept : (d : PlainDecl) → decl_counts (kept_decl d) ≡ decl_counts d
decl_counts_kept (WireOf n w) = refl
decl_counts_kept (RegisterOf n w) = refl
decl_counts_kept (ArrayOf n w k) = refl

decls_counts_kept : (sum : Counts) (ds : List PlainDecl) → decls_counts sum (map kept_decl ds) ≡ decls_counts sum ds
decls_counts_kept sum [] = refl
decls_counts_kept sum (d ∷ ds) = ap (λ c. decls_counts (sum_counts sum c) (map kept_decl ds)) (decl_counts_kept d) ∙ decls_counts_kept (sum_counts sum (decl_counts d)) ds

counts_named_kept : (ms : List PlainModule) (counts : List Counts) (name : List ℕ) → counts_named (map kept_module ms) counts name ≡ counts_named ms counts name
counts_named_kept [] counts name = refl
counts_named_kept (m ∷ ms) [] name = refl
counts_named_kept (m ∷ ms) (c ∷ cs) name = ap (λ x. if same_name m.name name then c else x) (counts_named_kept ms cs name)

instances_counts_kept : (before : List PlainModule) (counts : List Counts) (sum : Counts) (is : List PlainInstance)
    → instances_counts (map kept_module before) counts sum is ≡ instances_counts before counts sum is
instances_counts_kept before counts sum [] = refl
instances_counts_kept before counts sum (i ∷ is) =
    ap (λ c. instances_counts (map kept_module before) counts (sum_counts sum c) is) (counts_named_kept before counts i.kind)
    ∙ instances_counts_kept before counts (sum_counts sum (counts_named before counts i.kind)) is

counts_kept : (before : List PlainModule) (counts : List Counts) (m : PlainModule) → module_counts (map kept_module before) counts (kept_module m) ≡ module_counts before counts m
counts_kept before counts m =
    ap (λ n. instances_counts (map kept_module before) counts (decls_counts (record { nets = n; instances = 1; words = 0 }) (map kept_decl m.decls)) m.instances) (length-map m.ports kept_port)
    ∙ ap (λ c. instances_counts (map kept_module before) counts c m.instances) (decls_counts_kept (record { nets = length m.ports; instances = 1; words = 0 }) m.decls)
    ∙ instances_counts_kept before counts (decls_counts (record { nets = length m.ports; instances = 1; words = 0 }) m.decls) m.instances

-- instances
instances_kept : (before : List PlainModule) (scope : Scope) (earlier driven : List (List ℕ)) (is : List PlainInstance) → list_all has_held_ports before ≡ true
    → instances_faults (map kept_module before) scope earlier driven is ≡ instances_faults before scope earlier driven is
instances_kept before scope earlier driven [] h = refl
instances_kept before scope earlier driven (i ∷ is) h =
    let none : is_none (module_named (map kept_module before) i.kind) ≡ is_none (module_named before i.kind) = ap is_none (module_named_kept before i.kind) ∙ none_kept (module_named before i.kind) in
    let ports = ports_of_kept before i.kind h in
    ap (λ b. record { name = has_name earlier i.name || b || misconnects scope (ports_of (map kept_module before) i.kind) i.conns || doubles driven (driven_by (ports_of (map kept_module before) i.kind) i.conns); width = misfits scope (ports_of (map kept_module before) i.kind) i.conns; limit = false }
    ∷ instances_faults (map kept_module before) scope (earlier ++ i.name ∷ []) (driven ++ driven_by (ports_of (map kept_module before) i.kind) i.conns) is) none
    ∙ ap (λ ps. record { name = has_name earlier i.name || is_none (module_named before i.kind) || misconnects scope ps i.conns || doubles driven (driven_by ps i.conns); width = misfits scope ps i.conns; limit = false }
    ∷ instances_faults (map kept_module before) scope (earlier ++ i.name ∷ []) (driven ++ driven_by ps i.conns) is) ports
    ∙ ap (λ fs. instance_faults before scope earlier driven i ∷ fs) (instances_kept before scope (earlier ++ i.name ∷ []) (driven ++ driven_by (ports_of before i.kind) i.conns) is h)

-- the line of a module
module_line_kept : (is_main : Bool) (before : List PlainModule) (own : Counts) (m : PlainModule) → module_faults is_main (map kept_module before) own (kept_module m) ≡ module_faults is_main before own m
module_line_kept is_main before own m =
    ap (λ ns. record { name = has_name ns m.name || nat_lt (length (map kept_port m.ports)) (if is_main then 4 else 2) || (is_main && not (same_name m.name (codes "main"))); width = false; limit = is_main && too_large own }) (module_names before)
    ∙ ap (λ n. record { name = has_name (map (λ m. m.name) before) m.name || nat_lt n (if is_main then 4 else 2) || (is_main && not (same_name m.name (codes "main"))); width = false; limit = is_main && too_large own }) (length-map m.ports kept_port)

-- its lines to the last declaration, and what stands there where none of them breaks a rule
front_alike : (is_main : Bool) (before : List PlainModule) (own : Counts) (m : PlainModule) → list_all has_held_ports before ≡ true
    → Alike ((module_faults is_main before own m ∷ ports_faults is_main (drivers_in before m) [] 0 m.ports) ++ (no_faults ∷ decls_faults (drivers_in before m) (map (λ p. p.name) m.ports) m.decls))
    ((module_faults is_main (map kept_module before) own (kept_module m) ∷ ports_faults is_main (drivers_in (map kept_module before) (kept_module m)) [] 0 (map kept_port m.ports))
    ++ (no_faults ∷ decls_faults (drivers_in (map kept_module before) (kept_module m)) (map (λ p. p.name) (map kept_port m.ports)) (map kept_decl m.decls)))
front_alike is_main before own m h =
    let drivers : List (List ℕ) = drivers_in before m in
    let names : List (List ℕ) = map (λ p. p.name) m.ports in
    subst (λ f. Alike ((module_faults is_main before own m ∷ ports_faults is_main drivers [] 0 m.ports) ++ (no_faults ∷ decls_faults drivers names m.decls))
    ((f ∷ ports_faults is_main (drivers_in (map kept_module before) (kept_module m)) [] 0 (map kept_port m.ports)) ++ (no_faults ∷ decls_faults (drivers_in (map kept_module before) (kept_module m)) (map (λ p. p.name) (map kept_port m.ports)) (map kept_decl m.decls))))
    (sym (module_line_kept is_main before own m))
    (subst (λ ds. Alike ((module_faults is_main before own m ∷ ports_faults is_main drivers [] 0 m.ports) ++ (no_faults ∷ decls_faults drivers names m.decls))
    ((module_faults is_main before own m ∷ ports_faults is_main ds [] 0 (map kept_port m.ports)) ++ (no_faults ∷ decls_faults ds (map (λ p. p.name) (map kept_port m.ports)) (map kept_decl m.decls))))
    (sym (drivers_kept before m h))
    (subst (λ ns. Alike ((module_faults is_main before own m ∷ ports_faults is_main drivers [] 0 m.ports) ++ (no_faults ∷ decls_faults drivers names m.decls))
    ((module_faults is_main before own m ∷ ports_faults is_main drivers [] 0 (map kept_port m.ports)) ++ (no_faults ∷ decls_faults drivers ns (map kept_decl m.decls))))
    (sym (port_names m.ports))
    (alike_append (module_faults is_main before own m ∷ ports_faults is_main drivers [] 0 m.ports) (module_faults is_main before own m ∷ ports_faults is_main drivers [] 0 (map kept_port m.ports))
    (no_faults ∷ decls_faults drivers names m.decls) (no_faults ∷ decls_faults drivers names (map kept_decl m.decls))
    (λ line later. refl, λ clean. ports_alike is_main drivers [] 0 m.ports)
    (λ all. (λ line later. refl, λ clean. decls_alike drivers names m.decls)))))

pub record FrontHeld (m : PlainModule) : Type 0 where
  pub ports : list_all holds_port m.ports ≡ true
  pub decls : list_all holds_decl m.decls ≡ true
  pub fine : (n : List ℕ) → is_fine (meant_in m.ports m.decls n) ≡ true

pub front_held : (is_main : Bool) (before : List PlainModule) (own : Counts) (m : PlainModule) (drivers names : List (List ℕ))
    → list_all is_clean ((module_faults is_main before own m ∷ ports_faults is_main drivers [] 0 m.ports) ++ (no_faults ∷ decls_faults drivers names m.decls)) ≡ true → FrontHeld m
front_held is_main before own m drivers names h =
    let both = split (module_faults is_main before own m ∷ ports_faults is_main drivers [] 0 m.ports) (no_faults ∷ decls_faults drivers names m.decls) h in
    let ports = (and_parts (is_clean (module_faults is_main before own m)) (list_all is_clean (ports_faults is_main drivers [] 0 m.ports)) both.0).1 in
    record {
      ports = ports_held is_main drivers [] 0 m.ports ports;
      decls = decls_held drivers names m.decls both.1;
      fine = λ n. meant_fine m.ports m.decls n (ports_good is_main drivers [] 0 m.ports ports) (decls_good drivers names m.decls both.1);
    }

scope_same : (m : PlainModule) → FrontHeld m → kept_scope m ≡ meant_in m.ports m.decls
scope_same m held = ap (λ ps. meant_in ps (map kept_decl m.decls)) (ports_same m.ports held.ports) ∙ ap (meant_in m.ports) (decls_same m.decls held.decls)

assigns_part : (m : PlainModule) → FrontHeld m
    → Alike (assigns_faults (meant_in m.ports m.decls) [] m.assigns) (assigns_faults (kept_scope m) [] (map (kept_assign (kept_scope m)) m.assigns))
assigns_part m held =
    subst (λ s. Alike (assigns_faults (meant_in m.ports m.decls) [] m.assigns) (assigns_faults s [] (map (kept_assign s) m.assigns))) (sym (scope_same m held))
    (assigns_alike (meant_in m.ports m.decls) (λ n. meant_small m.ports m.decls n held.ports held.decls) held.fine [] m.assigns)

instances_part : (before : List PlainModule) (m : PlainModule) → list_all has_held_ports before ≡ true → FrontHeld m
    → Alike (instances_faults before (meant_in m.ports m.decls) (map (λ p. p.name) m.ports ++ map decl_name m.decls) (map (λ a. a.name) m.assigns) m.instances)
    (instances_faults (map kept_module before) (meant_in (map kept_port m.ports) (map kept_decl m.decls)) (map (λ p. p.name) (map kept_port m.ports) ++ map decl_name (map kept_decl m.decls)) (map (λ a. a.name) (map (kept_assign (kept_scope m)) m.assigns)) m.instances)
instances_part before m h held =
    let names : List (List ℕ) = map (λ p. p.name) m.ports ++ map decl_name m.decls in
    let e : instances_faults (map kept_module before) (meant_in (map kept_port m.ports) (map kept_decl m.decls)) (map (λ p. p.name) (map kept_port m.ports) ++ map decl_name (map kept_decl m.decls)) (map (λ a. a.name) (map (kept_assign (kept_scope m)) m.assigns)) m.instances
    ≡ instances_faults before (meant_in m.ports m.decls) names (map (λ a. a.name) m.assigns) m.instances =
    ap (λ ps. instances_faults (map kept_module before) (meant_in ps (map kept_decl m.decls)) (map (λ p. p.name) ps ++ map decl_name (map kept_decl m.decls)) (map (λ a. a.name) (map (kept_assign (kept_scope m)) m.assigns)) m.instances) (ports_same m.ports held.ports)
    ∙ ap (λ ds. instances_faults (map kept_module before) (meant_in m.ports ds) (map (λ p. p.name) m.ports ++ map decl_name ds) (map (λ a. a.name) (map (kept_assign (kept_scope m)) m.assigns)) m.instances) (decls_same m.decls held.decls)
    ∙ ap (λ ns. instances_faults (map kept_module before) (meant_in m.ports m.decls) names ns m.instances) (assign_names (kept_scope m) m.assigns)
    ∙ instances_kept before (meant_in m.ports m.decls) names (map (λ a. a.name) m.assigns) m.instances h in
    subst (λ fs. Alike (instances_faults before (meant_in m.ports m.decls) names (map (λ a. a.name) m.assigns) m.instances) fs) (sym e) (alike_refl (instances_faults before (meant_in m.ports m.decls) names (map (λ a. a.name) m.assigns) m.instances))

edge_part : (m : PlainModule) → FrontHeld m
    → Alike (edge_faults (meant_in m.ports m.decls) m.edge) (edge_faults (kept_scope m) (option_map (kept_edge (kept_scope m)) m.edge))
edge_part m held =
    subst (λ s. Alike (edge_faults (meant_in m.ports m.decls) m.edge) (edge_faults s (option_map (kept_edge s) m.edge))) (sym (scope_same m held))
    (edge_alike (meant_in m.ports m.decls) (λ n. meant_small m.ports m.decls n held.ports held.decls) held.fine m.edge)

lines_alike : (is_main : Bool) (before : List PlainModule) (own : Counts) (m : PlainModule) → list_all has_held_ports before ≡ true
    → Alike (lines_faults is_main before own m) (lines_faults is_main (map kept_module before) own (kept_module m))
lines_alike is_main before own m h =
    let drivers : List (List ℕ) = drivers_in before m in
    let names : List (List ℕ) = map (λ p. p.name) m.ports in
    let a : List Faults = (module_faults is_main before own m ∷ ports_faults is_main drivers [] 0 m.ports) ++ (no_faults ∷ decls_faults drivers names m.decls) in
    let b : List Faults = assigns_faults (meant_in m.ports m.decls) [] m.assigns in
    let c : List Faults = instances_faults before (meant_in m.ports m.decls) (names ++ map decl_name m.decls) (map (λ a. a.name) m.assigns) m.instances in
    let d : List Faults = edge_faults (meant_in m.ports m.decls) m.edge in
    let kept_drivers : List (List ℕ) = drivers_in (map kept_module before) (kept_module m) in
    let kept_names : List (List ℕ) = map (λ p. p.name) (map kept_port m.ports) in
    let own_scope : Scope = kept_scope m in
    let ka : List Faults = (module_faults is_main (map kept_module before) own (kept_module m) ∷ ports_faults is_main kept_drivers [] 0 (map kept_port m.ports)) ++ (no_faults ∷ decls_faults kept_drivers kept_names (map kept_decl m.decls)) in
    let kb : List Faults = assigns_faults own_scope [] (map (kept_assign own_scope) m.assigns) in
    let kc : List Faults = instances_faults (map kept_module before) own_scope (kept_names ++ map decl_name (map kept_decl m.decls)) (map (λ a. a.name) (map (kept_assign (kept_scope m)) m.assigns)) m.instances in
    let kd : List Faults = edge_faults own_scope (option_map (kept_edge own_scope) m.edge) in
    let held = λ (all : list_all is_clean a ≡ true). front_held is_main before own m drivers names all in
    alike_append (((a ++ b) ++ c) ++ d) (((ka ++ kb) ++ kc) ++ kd) (no_faults ∷ []) (no_faults ∷ [])
    (alike_append ((a ++ b) ++ c) ((ka ++ kb) ++ kc) d kd
    (alike_append (a ++ b) (ka ++ kb) c kc
    (alike_append a ka b kb (front_alike is_main before own m h) (λ all. assigns_part m (held all)))
    (λ all. instances_part before m h (held (split a b all).0)))
    (λ all. edge_part m (held (split a b (split (a ++ b) c all).0).0)))
    (λ all. alike_refl (no_faults ∷ []))

-- after lines that break nothing, the ports are kept as they are
lines_held : (is_main : Bool) (before : List PlainModule) (own : Counts) (m : PlainModule) → list_all is_clean (lines_faults is_main before own m) ≡ true → has_held_ports m ≡ true
lines_held is_main before own m h =
    let drivers : List (List ℕ) = drivers_in before m in
    let names : List (List ℕ) = map (λ p. p.name) m.ports in
    let a : List Faults = (module_faults is_main before own m ∷ ports_faults is_main drivers [] 0 m.ports) ++ (no_faults ∷ decls_faults drivers names m.decls) in
    let b : List Faults = assigns_faults (meant_in m.ports m.decls) [] m.assigns in
    let c : List Faults = instances_faults before (meant_in m.ports m.decls) (names ++ map decl_name m.decls) (map (λ a. a.name) m.assigns) m.instances in
    let d : List Faults = edge_faults (meant_in m.ports m.decls) m.edge in
    let s4 = split (((a ++ b) ++ c) ++ d) (no_faults ∷ []) h in
    let s3 = split ((a ++ b) ++ c) d s4.0 in
    let s2 = split (a ++ b) c s3.0 in
    (front_held is_main before own m drivers names (split a b s2.0).0).ports

pub modules_alike : (before : List PlainModule) (counts : List Counts) (ms : List PlainModule) → list_all has_held_ports before ≡ true
    → Alike (modules_faults before counts ms) (modules_faults (map kept_module before) counts (map kept_module ms))
modules_alike before counts [] h = tt
modules_alike before counts (m ∷ ms) h =
    let own : Counts = module_counts before counts m in
    let rest = λ (all : list_all is_clean (lines_faults (length ms == 0) before own m) ≡ true).
    let front = list_all-append has_held_ports before (m ∷ []) in
    let ports = lines_held (length ms == 0) before own m all in
    let more = front ∙ and_from (list_all has_held_ports before) (has_held_ports m && true) h (ap (λ b. b && true) ports) in
    subst (λ bs. Alike (modules_faults (before ++ m ∷ []) (counts ++ own ∷ []) ms) (modules_faults bs (counts ++ own ∷ []) (map kept_module ms))) (map-append kept_module before (m ∷ []))
    (modules_alike (before ++ m ∷ []) (counts ++ own ∷ []) ms more) in
    subst (λ n. Alike (modules_faults before counts (m ∷ ms)) (lines_faults (n == 0) (map kept_module before) (module_counts (map kept_module before) counts (kept_module m)) (kept_module m) ++ modules_faults (map kept_module before ++ kept_module m ∷ []) (counts ++ module_counts (map kept_module before) counts (kept_module m) ∷ []) (map kept_module ms)))
    (sym (length-map ms kept_module))
    (subst (λ c. Alike (modules_faults before counts (m ∷ ms)) (lines_faults (length ms == 0) (map kept_module before) c (kept_module m) ++ modules_faults (map kept_module before ++ kept_module m ∷ []) (counts ++ c ∷ []) (map kept_module ms)))
    (sym (counts_kept before counts m))
    (alike_append (lines_faults (length ms == 0) before own m) (lines_faults (length ms == 0) (map kept_module before) own (kept_module m))
    (modules_faults (before ++ m ∷ []) (counts ++ own ∷ []) ms) (modules_faults (map kept_module before ++ kept_module m ∷ []) (counts ++ own ∷ []) (map kept_module ms)) (lines_alike (length ms == 0) before own m h) rest))
