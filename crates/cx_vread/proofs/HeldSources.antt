-- A tree holds each sound source: modules, and external memories.
use Rattle.std.proofs.Common.{◌≡◌, ℕ, ◌*◌, ◌<◌, ◌≤◌, zero, suc, ◌==◌, Bool, true, false, ◌&&◌, ◌||◌, List, [], ◌∷◌, ◌++◌, map, length, Option, Some, None, refl, ◌∙◌, ap, sym, subst, arith, if◌then◌else◌}
use Rattle.std.specs.Prelude.{codes, nat_lt, option_and_then, is_none}
use Rattle.std.specs.List.{list_all}
use Rattle.std.specs.Option.{option_map_or}
use Rattle.std.proofs.Math.Nat.{le-mul_of_pos_right, mul_comm}
use Rattle.std.proofs.lemmas.Bool.{and_parts, and_from, or_parts, eqb-true, ltb-true, ltb-false, lt-ltb}
use Rattle.std.proofs.lemmas.List.Folds.{list_all-append}
use Rattle.cx_text.specs.Loading.{word_count}
use Rattle.cx_vtree.specs.InstanceTree.{same_name}
use Rattle.cx_vtree.specs.Layout.{is_name, port_fits, decl_fits, assign_fits, instance_fits, edge_fits, module_fits, external_fits, is_laid_out}
use Rattle.cx_vtree.specs.Plain.{PlainDecl, WireOf, RegisterOf, ArrayOf, PlainEdge, PlainModule, PlainExternal, PlainSource}
use Rattle.cx_vtree.specs.Sound.{Faults, no_faults, Scope, Counts, width_of, meant_in, decl_name, drivers_in, module_named, module_counts, module_faults, ports_faults, decls_faults, assigns_faults, instances_faults, edge_faults, sets_faults, items_faults, lines_faults, modules_faults, last_named, instance_kind, memory_module, arrays_in, not_this_memory, memory_arrays, not_this_width, has_name, external_faults, externals_faults, faults_of, break_of, is_sound}
use Rattle.cx_vread.specs.Held.{holds_port, holds_decl, holds_assign, holds_item, holds_edge, holds_module, holds_external, is_held}
use Rattle.cx_vread.proofs.KeptSame.{module_held as parts_held}
use Rattle.cx_vread.proofs.SoundHeld.{is_clean, no_break, ports_held, decls_held, meant_small, assigns_held, sets_held, items_held, parts_of}
use Rattle.cx_vtree.proofs.SoundLemmas.{no_break as none_is}
use Rattle.cx_text.proofs.BoolLaws.{not_not}

pub split : (xs ys : List Faults) → list_all is_clean (xs ++ ys) ≡ true → (list_all is_clean xs ≡ true) × (list_all is_clean ys ≡ true)
split xs ys h = and_parts (list_all is_clean xs) (list_all is_clean ys) (sym (list_all-append is_clean xs ys) ∙ h)

edge_held : (scope : Scope) (small : (n : List ℕ) → width_of (scope n) < 256) (e : Option PlainEdge) → list_all is_clean (edge_faults scope e) ≡ true → holds_edge e ≡ true
edge_held scope small None h = refl
edge_held scope small (Some e) h =
    let outer = split ((no_faults ∷ no_faults ∷ sets_faults scope [] e.reset) ++ (no_faults ∷ items_faults scope [] e.step)) (no_faults ∷ no_faults ∷ []) h in
    let both = split (no_faults ∷ no_faults ∷ sets_faults scope [] e.reset) (no_faults ∷ items_faults scope [] e.step) outer.0 in
    and_from (list_all holds_assign e.reset) (list_all holds_item e.step) (sets_held scope small [] e.reset both.0) (items_held scope small [] e.step both.1)

module_held : (is_main : Bool) (before : List PlainModule) (own : Counts) (m : PlainModule) → list_all is_clean (lines_faults is_main before own m) ≡ true → holds_module m ≡ true
module_held is_main before own m h =
    let scope : Scope = meant_in m.ports m.decls in
    let drivers : List (List ℕ) = drivers_in before m in
    let names : List (List ℕ) = map (λ p. p.name) m.ports in
    let a : List Faults = module_faults is_main before own m ∷ ports_faults is_main drivers [] 0 m.ports in
    let b : List Faults = no_faults ∷ decls_faults drivers names m.decls in
    let c : List Faults = assigns_faults scope [] m.assigns in
    let d : List Faults = instances_faults before scope (names ++ map decl_name m.decls) (map (λ a. a.name) m.assigns) m.instances in
    let e : List Faults = edge_faults scope m.edge in
    let s5 = split ((((a ++ b) ++ c) ++ d) ++ e) (no_faults ∷ []) h in
    let s4 = split (((a ++ b) ++ c) ++ d) e s5.0 in
    let s3 = split ((a ++ b) ++ c) d s4.0 in
    let s2 = split (a ++ b) c s3.0 in
    let s1 = split a b s2.0 in
    let ports : list_all holds_port m.ports ≡ true = ports_held is_main drivers [] 0 m.ports (and_parts (is_clean (module_faults is_main before own m)) (list_all is_clean (ports_faults is_main drivers [] 0 m.ports)) s1.0).1 in
    let decls : list_all holds_decl m.decls ≡ true = decls_held drivers names m.decls s1.1 in
    let small = λ (n : List ℕ). meant_small m.ports m.decls n ports decls in
    and_from (list_all holds_port m.ports && list_all holds_decl m.decls && list_all holds_assign m.assigns) (holds_edge m.edge)
    (and_from (list_all holds_port m.ports && list_all holds_decl m.decls) (list_all holds_assign m.assigns)
    (and_from (list_all holds_port m.ports) (list_all holds_decl m.decls) ports decls)
    (assigns_held scope small [] m.assigns s2.1))
    (edge_held scope small m.edge s4.1)

modules_held : (before : List PlainModule) (counts : List Counts) (ms : List PlainModule) → list_all is_clean (modules_faults before counts ms) ≡ true → list_all holds_module ms ≡ true
modules_held before counts [] h = refl
modules_held before counts (m ∷ ms) h =
    let own : Counts = module_counts before counts m in
    let both = split (lines_faults (length ms == 0) before own m) (modules_faults (before ++ m ∷ []) (counts ++ own ∷ []) ms) h in
    ap (λ b. b && list_all holds_module ms) (module_held (length ms == 0) before own m both.0) ∙ modules_held (before ++ m ∷ []) (counts ++ own ∷ []) ms both.1

-- The arrays of a module have from 1 to 2^64 - 1 words.
abbrev is_length : (ℕ × ℕ) → Bool
is_length a = nat_lt 0 a.1 && nat_lt a.1 18446744073709551616

abbrev has_lengths : PlainModule → Bool
has_lengths m = list_all is_length (arrays_in m.decls)

lengths_of : (ds : List PlainDecl) → list_all decl_fits ds ≡ true → list_all holds_decl ds ≡ true → list_all is_length (arrays_in ds) ≡ true
lengths_of [] f h = refl
lengths_of (WireOf n w ∷ ds) f h = lengths_of ds (and_parts (decl_fits (WireOf n w)) (list_all decl_fits ds) f).1 (and_parts (holds_decl (WireOf n w)) (list_all holds_decl ds) h).1
lengths_of (RegisterOf n w ∷ ds) f h = lengths_of ds (and_parts (decl_fits (RegisterOf n w)) (list_all decl_fits ds) f).1 (and_parts (holds_decl (RegisterOf n w)) (list_all holds_decl ds) h).1
lengths_of (ArrayOf n w k ∷ ds) f h =
    let fit = and_parts (decl_fits (ArrayOf n w k)) (list_all decl_fits ds) f in
    let held = and_parts (holds_decl (ArrayOf n w k)) (list_all holds_decl ds) h in
    and_from (is_length (w, k)) (list_all is_length (arrays_in ds))
    (and_from (nat_lt 0 k) (nat_lt k 18446744073709551616) (and_parts (is_name n && nat_lt 0 w) (nat_lt 0 k) fit.0).1 (and_parts (nat_lt w 256) (nat_lt k 18446744073709551616) held.0).1)
    (lengths_of ds fit.1 held.1)

module_lengths : (ms : List PlainModule) → list_all module_fits ms ≡ true → list_all holds_module ms ≡ true → list_all has_lengths ms ≡ true
module_lengths [] f h = refl
module_lengths (m ∷ ms) f h =
    let fit = and_parts (module_fits m) (list_all module_fits ms) f in
    let held = and_parts (holds_module m) (list_all holds_module ms) h in
    let f6 = and_parts (is_name m.name && nat_lt 0 (length m.ports) && list_all port_fits m.ports && list_all decl_fits m.decls && list_all assign_fits m.assigns && list_all instance_fits m.instances) (edge_fits m.edge) fit.0 in
    let f5 = and_parts (is_name m.name && nat_lt 0 (length m.ports) && list_all port_fits m.ports && list_all decl_fits m.decls && list_all assign_fits m.assigns) (list_all instance_fits m.instances) f6.0 in
    let f4 = and_parts (is_name m.name && nat_lt 0 (length m.ports) && list_all port_fits m.ports && list_all decl_fits m.decls) (list_all assign_fits m.assigns) f5.0 in
    let f3 = and_parts (is_name m.name && nat_lt 0 (length m.ports) && list_all port_fits m.ports) (list_all decl_fits m.decls) f4.0 in
    ap (λ b. b && list_all has_lengths ms) (lengths_of m.decls f3.1 (parts_held m held.0).decls) ∙ module_lengths ms fit.1 held.1

-- what all modules have, the one that is found has
one_of : (b : Bool) (m : PlainModule) (o : Option PlainModule) → has_lengths m ≡ true → option_map_or has_lengths o true ≡ true → option_map_or has_lengths (if b then Some m else o) true ≡ true
one_of true m o h k = h
one_of false m o h k = k

named : (ms : List PlainModule) (name : List ℕ) → list_all has_lengths ms ≡ true → option_map_or has_lengths (module_named ms name) true ≡ true
named [] name h = refl
named (m ∷ ms) name h =
    let both = and_parts (has_lengths m) (list_all has_lengths ms) h in
    one_of (same_name m.name name) m (module_named ms name) both.0 (named ms name both.1)

by_kind : (ms : List PlainModule) (kind : Option (List ℕ)) → list_all has_lengths ms ≡ true → option_map_or has_lengths (option_and_then (module_named ms) kind) true ≡ true
by_kind ms None h = refl
by_kind ms (Some k) h = named ms k h

by_main : (ms : List PlainModule) (main : Option PlainModule) (name : List ℕ) → list_all has_lengths ms ≡ true
    → option_map_or has_lengths (option_and_then (λ m. option_and_then (module_named ms) (instance_kind m.instances name)) main) true ≡ true
by_main ms None name h = refl
by_main ms (Some m) name h = by_kind ms (instance_kind m.instances name) h

arrays_of : (o : Option PlainModule) → option_map_or has_lengths o true ≡ true → list_all is_length (option_map_or (λ m. arrays_in m.decls) o []) ≡ true
arrays_of None h = refl
arrays_of (Some m) h = h

counted : (arrays : List (ℕ × ℕ)) (e : PlainExternal) → not_this_memory arrays e ≡ false → list_all is_length arrays ≡ true → is_length (0, word_count e.sizes) ≡ true
counted [] e n h = absurd (cc)
counted (a ∷ []) e n h =
    let same : a.1 ≡ word_count e.sizes = eqb-true a.1 (word_count e.sizes) (not_not (a.1 == word_count e.sizes) n) in
    subst (λ k. nat_lt 0 k && nat_lt k 18446744073709551616 ≡ true) same (and_parts (is_length a) true h).0
counted (a ∷ b ∷ rest) e n h = absurd (cc)

some_product : (k r : ℕ) → 0 < k * r → (0 < k) × (0 < r)
some_product zero r h = let e : zero * r ≡ 0 = omega arith in absurd (omega arith)
some_product (suc k) zero h = let e : suc k * zero ≡ 0 = omega arith in absurd (omega arith)
some_product (suc k) (suc r) h = (omega arith, omega arith)

sizes_held : (ks : List ℕ) → 0 < word_count ks → word_count ks < 18446744073709551616 → list_all (λ k. nat_lt k 18446744073709551616) ks ≡ true
sizes_held [] l h = refl
sizes_held (k ∷ ks) l h =
    let bound : k * word_count ks < 18446744073709551616 = h in
    let both = some_product k (word_count ks) l in
    let left : k ≤ k * word_count ks = le-mul_of_pos_right k both.1 in
    let right : word_count ks ≤ word_count ks * k = le-mul_of_pos_right (word_count ks) both.0 in
    let comm : word_count ks * k ≡ k * word_count ks = mul_comm (word_count ks) k in
    and_from (nat_lt k 18446744073709551616) (list_all (λ k. nat_lt k 18446744073709551616) ks)
    (lt-ltb k 18446744073709551616 (omega arith)) (sizes_held ks both.1 (omega arith))

external_held : (ms : List PlainModule) (names instances : List (List ℕ)) (e : PlainExternal) → list_all has_lengths ms ≡ true → is_clean (external_faults ms names instances e) ≡ true → holds_external e ≡ true
external_held ms names instances e h c =
    let f : Faults = external_faults ms names instances e in
    let own = parts_of f.name f.width f.limit c in
    let lengths : list_all is_length (memory_arrays ms e) ≡ true = arrays_of (memory_module ms e) (by_main ms (last_named ms (codes "main")) e.instance h) in
    let count = and_parts (nat_lt 0 (word_count e.sizes)) (nat_lt (word_count e.sizes) 18446744073709551616)
    (counted (memory_arrays ms e) e (or_parts (has_name names e.name || has_name instances e.instance) (not_this_memory (memory_arrays ms e) e) own.name).1 lengths) in
    let width : e.width ≤ 64 = ltb-false 64 e.width (or_parts (nat_lt 64 e.width) (not_this_width (memory_arrays ms e) e) own.width).0 in
    and_from (nat_lt e.width 256) (list_all (λ k. nat_lt k 18446744073709551616) e.sizes) (lt-ltb e.width 256 (omega arith))
    (sizes_held e.sizes (ltb-true 0 (word_count e.sizes) count.0) (ltb-true (word_count e.sizes) 18446744073709551616 count.1))

externals_held : (ms : List PlainModule) (names instances : List (List ℕ)) (es : List PlainExternal) → list_all has_lengths ms ≡ true → list_all is_clean (externals_faults ms names instances es) ≡ true → list_all holds_external es ≡ true
externals_held ms names instances [] h c = refl
externals_held ms names instances (e ∷ es) h c =
    let both = and_parts (is_clean (external_faults ms names instances e)) (list_all is_clean (externals_faults ms (names ++ e.name ∷ []) (instances ++ e.instance ∷ []) es)) c in
    ap (λ b. b && list_all holds_external es) (external_held ms names instances e h both.0) ∙ externals_held ms (names ++ e.name ∷ []) (instances ++ e.instance ∷ []) es h both.1

-- each sound source
pub sound_held : (s : PlainSource) → is_sound s ≡ true → is_held s ≡ true
sound_held s h =
    let both = and_parts (is_laid_out s) (is_none (break_of s)) h in
    let fits = and_parts (list_all external_fits s.externals && nat_lt 0 (length s.modules)) (list_all module_fits s.modules) both.0 in
    let clean = no_break 1 (faults_of s) (none_is (break_of s) both.1) in
    let parts = split (externals_faults s.modules [] [] s.externals) (modules_faults [] [] s.modules) clean in
    let modules : list_all holds_module s.modules ≡ true = modules_held [] [] s.modules parts.1 in
    and_from (list_all holds_external s.externals) (list_all holds_module s.modules)
    (externals_held s.modules [] [] s.externals (module_lengths s.modules fits.1 modules) parts.0) modules

pub sound_externals : (s : PlainSource) → is_sound s ≡ true → list_all holds_external s.externals ≡ true
sound_externals s h = (and_parts (list_all holds_external s.externals) (list_all holds_module s.modules) (sound_held s h)).0

pub sound_modules : (s : PlainSource) → is_sound s ≡ true → list_all holds_module s.modules ≡ true
sound_modules s h = (and_parts (list_all holds_external s.externals) (list_all holds_module s.modules) (sound_held s h)).1
