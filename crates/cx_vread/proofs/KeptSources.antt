-- What a tree keeps of a source has its first break.
use Rattle.std.proofs.Common.{◌≡◌, ℕ, ◌≤◌, ◌==◌, not, Bool, true, false, ◌||◌, List, [], ◌∷◌, ◌++◌, map, Option, Some, None, refl, ◌∙◌, ap, sym, subst, arith, ⊎_elim, if◌then◌else◌}
use Rattle.std.specs.Prelude.{codes, nat_lt, min, option_and_then, option_map}
use Rattle.std.specs.Option.{option_map_or}
use Rattle.std.proofs.lemmas.Bool.{lt-ltb, cases_lt, ne_eqb}
use Rattle.cx_vtree.specs.InstanceTree.{same_name}
use Rattle.cx_vtree.specs.Plain.{PlainDecl, WireOf, RegisterOf, ArrayOf, PlainModule, PlainExternal, PlainSource}
use Rattle.cx_vtree.specs.Sound.{has_name, module_named, last_named, instance_kind, memory_module, arrays_in, not_this_memory, not_this_width, memory_arrays, external_faults, externals_faults, modules_faults, faults_of, break_of}
use Rattle.cx_vread_exprs.specs.Tokens.{kept_small}
use Rattle.cx_vread.proofs.Alike.{Alike, alike_refl, alike_append, alike_break}
use Rattle.cx_vread.proofs.Kept.{kept_decl, kept_module, kept_external, kept_source}
use Rattle.cx_vread.proofs.KeptModules.{module_named_kept, modules_alike}

-- The arrays of the module of an external memory.
abbrev kept_array : (ℕ × ℕ) → (ℕ × ℕ)
kept_array a = (kept_small a.0, a.1)

arrays_kept : (ds : List PlainDecl) → arrays_in (map kept_decl ds) ≡ map kept_array (arrays_in ds)
arrays_kept [] = refl
arrays_kept (WireOf n w ∷ ds) = arrays_kept ds
arrays_kept (RegisterOf n w ∷ ds) = arrays_kept ds
arrays_kept (ArrayOf n w k ∷ ds) = ap (λ xs. (kept_small w, k) ∷ xs) (arrays_kept ds)

later_or : (b : Bool) (m : PlainModule) (o p : Option PlainModule) → o ≡ option_map kept_module p
    → option_map_or Some o (if b then Some (kept_module m) else None) ≡ option_map kept_module (option_map_or Some p (if b then Some m else None))
later_or true m o None e = ap (λ x. option_map_or Some x (Some (kept_module m))) e
later_or true m o (Some p) e = ap (λ x. option_map_or Some x (Some (kept_module m))) e
later_or false m o None e = ap (λ x. option_map_or Some x None) e
later_or false m o (Some p) e = ap (λ x. option_map_or Some x None) e

last_named_kept : (ms : List PlainModule) (name : List ℕ) → last_named (map kept_module ms) name ≡ option_map kept_module (last_named ms name)
last_named_kept [] name = refl
last_named_kept (m ∷ ms) name = later_or (same_name m.name name) m (last_named (map kept_module ms) name) (last_named ms name) (last_named_kept ms name)

of_kind : (ms : List PlainModule) (kind : Option (List ℕ)) → option_and_then (module_named (map kept_module ms)) kind ≡ option_map kept_module (option_and_then (module_named ms) kind)
of_kind ms None = refl
of_kind ms (Some k) = module_named_kept ms k

of_main : (ms : List PlainModule) (main : Option PlainModule) (name : List ℕ)
    → option_and_then (λ m. option_and_then (module_named (map kept_module ms)) (instance_kind m.instances name)) (option_map kept_module main)
    ≡ option_map kept_module (option_and_then (λ m. option_and_then (module_named ms) (instance_kind m.instances name)) main)
of_main ms None name = refl
of_main ms (Some m) name = of_kind ms (instance_kind m.instances name)

memory_module_kept : (ms : List PlainModule) (e : PlainExternal) → memory_module (map kept_module ms) (kept_external e) ≡ option_map kept_module (memory_module ms e)
memory_module_kept ms e =
    ap (λ o. option_and_then (λ m. option_and_then (module_named (map kept_module ms)) (instance_kind m.instances e.instance)) o) (last_named_kept ms (codes "main"))
    ∙ of_main ms (last_named ms (codes "main")) e.instance

arrays_of_kept : (o : Option PlainModule) → option_map_or (λ m. arrays_in m.decls) (option_map kept_module o) [] ≡ map kept_array (option_map_or (λ m. arrays_in m.decls) o [])
arrays_of_kept None = refl
arrays_of_kept (Some m) = arrays_kept m.decls

memory_arrays_kept : (ms : List PlainModule) (e : PlainExternal) → memory_arrays (map kept_module ms) (kept_external e) ≡ map kept_array (memory_arrays ms e)
memory_arrays_kept ms e = ap (λ o. option_map_or (λ m. arrays_in m.decls) o []) (memory_module_kept ms e) ∙ arrays_of_kept (memory_module ms e)

-- The number of words.
memory_kept : (arrays : List (ℕ × ℕ)) (e : PlainExternal) → not_this_memory (map kept_array arrays) (kept_external e) ≡ not_this_memory arrays e
memory_kept [] e = refl
memory_kept (a ∷ []) e = refl
memory_kept (a ∷ b ∷ rest) e = refl

-- The width.
same_width : (v w : ℕ) → w ≤ 64 → (kept_small v == kept_small w) ≡ (v == w)
same_width v w le =
    let own : min w 255 ≡ w = omega arith in
    ap (λ k. kept_small v == k) own ∙ ⊎_elim
    (λ lt. let e : min v 255 ≡ v = omega arith in ap (λ k. k == w) e)
    (λ more. ne_eqb (min v 255) w (λ e. omega arith) ∙ sym (ne_eqb v w (λ e. omega arith)))
    (cases_lt v 256)

narrow_kept : (arrays : List (ℕ × ℕ)) (e : PlainExternal) → e.width ≤ 64 → not_this_width (map kept_array arrays) (kept_external e) ≡ not_this_width arrays e
narrow_kept [] e le = refl
narrow_kept (a ∷ []) e le = ap not (same_width a.0 e.width le)
narrow_kept (a ∷ b ∷ rest) e le = refl

width_kept : (arrays : List (ℕ × ℕ)) (e : PlainExternal)
    → (nat_lt 64 (kept_small e.width) || not_this_width (map kept_array arrays) (kept_external e)) ≡ (nat_lt 64 e.width || not_this_width arrays e)
width_kept arrays e = ⊎_elim
    (λ lt. ap (λ b. b || not_this_width (map kept_array arrays) (kept_external e)) (lt-ltb 64 (min e.width 255) (omega arith)) ∙ sym (ap (λ b. b || not_this_width arrays e) (lt-ltb 64 e.width lt)))
    (λ le. let own : min e.width 255 ≡ e.width = omega arith in
    ap (λ k. nat_lt 64 k || not_this_width (map kept_array arrays) (kept_external e)) own
    ∙ ap (λ b. nat_lt 64 e.width || b) (narrow_kept arrays e (omega arith)))
    (cases_lt 64 e.width)

external_kept : (ms : List PlainModule) (names instances : List (List ℕ)) (e : PlainExternal)
    → external_faults (map kept_module ms) names instances (kept_external e) ≡ external_faults ms names instances e
external_kept ms names instances e =
    ap (λ arrays. record { name = has_name names e.name || has_name instances e.instance || not_this_memory arrays (kept_external e); width = nat_lt 64 (kept_small e.width) || not_this_width arrays (kept_external e); limit = false }) (memory_arrays_kept ms e)
    ∙ ap (λ b. record { name = has_name names e.name || has_name instances e.instance || b; width = nat_lt 64 (kept_small e.width) || not_this_width (map kept_array (memory_arrays ms e)) (kept_external e); limit = false }) (memory_kept (memory_arrays ms e) e)
    ∙ ap (λ b. record { name = has_name names e.name || has_name instances e.instance || not_this_memory (memory_arrays ms e) e; width = b; limit = false }) (width_kept (memory_arrays ms e) e)

externals_kept : (ms : List PlainModule) (names instances : List (List ℕ)) (es : List PlainExternal)
    → externals_faults (map kept_module ms) names instances (map kept_external es) ≡ externals_faults ms names instances es
externals_kept ms names instances [] = refl
externals_kept ms names instances (e ∷ es) =
    ap (λ f. f ∷ externals_faults (map kept_module ms) (names ++ e.name ∷ []) (instances ++ e.instance ∷ []) (map kept_external es)) (external_kept ms names instances e)
    ∙ ap (λ fs. external_faults ms names instances e ∷ fs) (externals_kept ms (names ++ e.name ∷ []) (instances ++ e.instance ∷ []) es)

-- the first break
pub break_kept : (s : PlainSource) → break_of (kept_source s) ≡ break_of s
break_kept s =
    sym (alike_break (faults_of s) (faults_of (kept_source s)) 1
    (alike_append (externals_faults s.modules [] [] s.externals) (externals_faults (map kept_module s.modules) [] [] (map kept_external s.externals)) (modules_faults [] [] s.modules) (modules_faults [] [] (map kept_module s.modules))
    (subst (λ fs. Alike (externals_faults s.modules [] [] s.externals) fs) (sym (externals_kept s.modules [] [] s.externals)) (alike_refl (externals_faults s.modules [] [] s.externals)))
    (λ all. modules_alike [] [] s.modules refl)))
