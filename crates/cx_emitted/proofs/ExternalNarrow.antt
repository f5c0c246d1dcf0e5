-- The external lines of a sound source: names of at most 255 bytes, four sizes at most, of 64 bits each.
use Rattle.std.proofs.Common.{◌≡◌, ℕ, zero, suc, ◌+◌, ◌*◌, ◌^◌, ◌<◌, ◌≤◌, ◌==◌, ◌&&◌, not, Bool, true, false, List, [], ◌∷◌, ◌++◌, length, Option, Some, None, is_none, option_and_then, refl, subst, arith, if◌then◌else◌, zero-mul, suc-mul}
use Rattle.std.specs.Prelude.{nat_le, nat_lt, codes}
use Rattle.std.specs.Option.{option_map_or}
use Rattle.std.specs.List.{list_all}
use Rattle.std.proofs.lemmas.Bool.{or_parts, and_parts, leb-true, ltb-true, ltb-false, eqb-true}
use Rattle.cx_text.specs.Members.{Each}
use Rattle.cx_text.specs.Loading.{word_count}
use Rattle.cx_vtree.specs.InstanceTree.{same_name}
use Rattle.cx_vtree.specs.Plain.{PlainDecl, WireOf, RegisterOf, ArrayOf, PlainModule, PlainExternal, PlainSource}
use Rattle.cx_vtree.specs.Layout.{is_word, is_name, decl_fits, assign_fits, instance_fits, edge_fits, module_fits, external_fits, is_laid_out}
use Rattle.cx_vtree.specs.Sound.{module_named, last_named, instance_kind, memory_module, arrays_in, not_this_memory, not_this_width, memory_arrays, external_faults, externals_faults, modules_faults, faults_of, break_of, is_sound}
use Rattle.cx_emitted.proofs.TextBytes.{DeclNarrow, AreShort, sizes_bytes}
use Rattle.cx_emitted.proofs.ModuleBytes.{IsNarrow, ExternalNarrow, external_bytes}
use Rattle.cx_emitted.proofs.NarrowLemmas.{step_of}
use Rattle.cx_emitted.proofs.SoundNarrow.{IsFine, all_fine, first_fine, sound_narrow}
use Rattle.cx_text.proofs.NumberLaws.{times_none}
use Rattle.cx_vtree.proofs.SoundLemmas.{no_break}

all_each : {A : Type 0} (p : A → Bool) (xs : List A) → list_all p xs ≡ true → Each (λ x. p x ≡ true) xs
all_each p [] e = tt
all_each p (x ∷ xs) e = let parts = and_parts (p x) (list_all p xs) e in (parts.0, all_each p xs parts.1)

factor_few : (n m : ℕ) → 1 ≤ m → n ≤ n * m
factor_few zero m some = omega arith
factor_few (suc n) m some = let h : n ≤ n * m = factor_few n m some in omega (arith, h, some, suc-mul n m)

some_factor : (n m : ℕ) → 0 < n * m → 1 ≤ m
some_factor n zero some = absurd (omega (arith, some, times_none n))
some_factor n (suc m) some = omega arith

short_sizes : (ns : List ℕ) → 0 < word_count ns → word_count ns < 2 ^ 64 → AreShort ns
short_sizes [] some few = tt
short_sizes (zero ∷ ns) some few = absurd (omega (arith, some, zero-mul (word_count ns)))
short_sizes (suc n ∷ ns) some few =
    let rest : 1 ≤ word_count ns = some_factor (suc n) (word_count ns) some in
    let own : suc n ≤ suc n * word_count ns = factor_few (suc n) (word_count ns) rest in
    let all : suc n * word_count ns ≡ n * word_count ns + word_count ns = suc-mul n (word_count ns) in
    (omega (arith, own, few), short_sizes ns (omega (arith, rest)) (omega (arith, all, few)))

-- ARRAYS
abbrev IsCount : (ℕ × ℕ) → Type 0
IsCount a = (0 < a.1) × (a.1 < 2 ^ 64)

arrays_count : (ds : List PlainDecl) → Each DeclNarrow ds → list_all decl_fits ds ≡ true → Each IsCount (arrays_in ds)
arrays_count [] narrow e = tt
arrays_count (WireOf n w ∷ ds) narrow e = arrays_count ds narrow.1 (and_parts (decl_fits (WireOf n w)) (list_all decl_fits ds) e).1
arrays_count (RegisterOf n w ∷ ds) narrow e = arrays_count ds narrow.1 (and_parts (decl_fits (RegisterOf n w)) (list_all decl_fits ds) e).1
arrays_count (ArrayOf n w k ∷ ds) narrow e =
    let parts = and_parts (decl_fits (ArrayOf n w k)) (list_all decl_fits ds) e in
    ((ltb-true 0 k (and_parts (is_name n && nat_lt 0 w) (nat_lt 0 k) parts.0).1, narrow.0.1), arrays_count ds narrow.1 parts.1)

abbrev Counts : PlainModule → Type 0
Counts m = Each IsCount (arrays_in m.decls)

module_count : (m : PlainModule) → IsNarrow m → module_fits m ≡ true → Counts m
module_count m narrow e =
    let g = and_parts _ (edge_fits m.edge) e in
    let f = and_parts _ (list_all instance_fits m.instances) g.0 in
    let h = and_parts _ (list_all assign_fits m.assigns) f.0 in
    let d = and_parts _ (list_all decl_fits m.decls) h.0 in
    arrays_count m.decls narrow.decls d.1

modules_count : (ms : List PlainModule) → Each IsNarrow ms → list_all module_fits ms ≡ true → Each Counts ms
modules_count [] narrow e = tt
modules_count (m ∷ ms) narrow e =
    let parts = and_parts (module_fits m) (list_all module_fits ms) e in
    (module_count m narrow.0 parts.0, modules_count ms narrow.1 parts.1)

named_counts : (ms : List PlainModule) (n : List ℕ) (m : PlainModule) → Each Counts ms → module_named ms n ≡ Some m → Counts m
named_counts [] n m each e = absurd (cc)
named_counts (x ∷ ms) n m each e = by (same_name x.name n) e (named_counts ms n m each.1)
  where
    by : (b : Bool) → (if b then Some x else module_named ms n) ≡ Some m → (module_named ms n ≡ Some m → Counts m) → Counts m
    by true f later = subst Counts (let same : x ≡ m = cc in same) each.0
    by false f later = later f

memory_counts : (ms : List PlainModule) (e : PlainExternal) → Each Counts ms → Each IsCount (memory_arrays ms e)
memory_counts ms e each = by (memory_module ms e) refl
  where
    by : (o : Option PlainModule) → memory_module ms e ≡ o → Each IsCount (option_map_or (λ (m : PlainModule). arrays_in m.decls) o [])
    by None is = tt
    by (Some m) is =
        let s = step_of (λ (x : PlainModule). option_and_then (module_named ms) (instance_kind x.instances e.instance)) (last_named ms (codes "main")) m is in
        let t = step_of (module_named ms) (instance_kind s.value.instances e.instance) m s.gives in
        named_counts ms t.value m each t.gives

sizes_short : (arrays : List (ℕ × ℕ)) (e : PlainExternal) → Each IsCount arrays → not_this_memory arrays e ≡ false → AreShort e.sizes
sizes_short [] e each f = absurd (cc)
sizes_short (a ∷ []) e each f = by (a.1 == word_count e.sizes) refl f
  where
    by : (b : Bool) → (a.1 == word_count e.sizes) ≡ b → not b ≡ false → AreShort e.sizes
    by true is g =
        let same : a.1 ≡ word_count e.sizes = eqb-true a.1 (word_count e.sizes) is in
        let some = each.0.0 in
        let few = each.0.1 in
        short_sizes e.sizes (omega (arith, same, some)) (omega (arith, same, few))
    by false is g = absurd (cc)
sizes_short (a ∷ b ∷ rest) e each f = absurd (cc)

-- EXTERNAL LINES
sizes_few : (ns : List ℕ) → sizes_bytes ns ≡ 21 * length ns
sizes_few [] = refl
sizes_few (n ∷ ns) = let h : sizes_bytes ns ≡ 21 * length ns = sizes_few ns in omega (arith, h)

pub record IsBrief (e : PlainExternal) : Type 0 where
  pub narrow : ExternalNarrow e
  pub few : external_bytes e ≤ 357 + length e.instance

external_brief : (ms : List PlainModule) (names instances : List (List ℕ)) (e : PlainExternal) → Each Counts ms → external_fits e ≡ true → IsFine (external_faults ms names instances e) → IsBrief e
external_brief ms names instances e each laid fine =
    let sizes = and_parts _ (nat_le (length e.sizes) 4) laid in
    let some = and_parts _ (nat_lt 0 (length e.sizes)) sizes.0 in
    let both = and_parts (is_word e.name) (is_name e.instance) some.0 in
    let word = and_parts _ (nat_le (length e.name) 255) both.0 in
    let four : length e.sizes ≤ 4 = leb-true (length e.sizes) 4 sizes.1 in
    let long : length e.name ≤ 255 = leb-true (length e.name) 255 word.1 in
    let all : sizes_bytes e.sizes ≡ 21 * length e.sizes = sizes_few e.sizes in
    let width : e.width ≤ 64 = ltb-false 64 e.width (or_parts (nat_lt 64 e.width) (not_this_width (memory_arrays ms e) e) fine.width).0 in
    let short = sizes_short (memory_arrays ms e) e (memory_counts ms e each) (or_parts _ (not_this_memory (memory_arrays ms e) e) fine.name).1 in
    record { narrow = (omega (arith, width), short); few = omega (arith, four, long, all) }

externals_brief : (ms : List PlainModule) (names instances : List (List ℕ)) (es : List PlainExternal) → Each Counts ms → list_all external_fits es ≡ true → Each IsFine (externals_faults ms names instances es) → Each IsBrief es
externals_brief ms names instances [] each laid fine = tt
externals_brief ms names instances (e ∷ es) each laid fine =
    let parts = and_parts (external_fits e) (list_all external_fits es) laid in
    (external_brief ms names instances e each parts.0 fine.0, externals_brief ms (names ++ e.name ∷ []) (instances ++ e.instance ∷ []) es each parts.1 fine.1)

pub sound_brief : (s : PlainSource) → is_sound s ≡ true → Each IsBrief s.externals
sound_brief s sound =
    let parts = and_parts (is_laid_out s) (is_none (break_of s)) sound in
    let laid = and_parts _ (list_all module_fits s.modules) parts.0 in
    let front = and_parts (list_all external_fits s.externals) (nat_lt 0 (length s.modules)) laid.0 in
    let fine : Each IsFine (faults_of s) = all_fine 1 (faults_of s) (no_break (break_of s) parts.1) in
    externals_brief s.modules [] [] s.externals (modules_count s.modules (sound_narrow s sound) laid.1) front.0 (first_fine (externals_faults s.modules [] [] s.externals) (modules_faults [] [] s.modules) fine)

pub brief_narrow : (es : List PlainExternal) → Each IsBrief es → Each ExternalNarrow es
brief_narrow [] each = tt
brief_narrow (e ∷ es) each = (each.0.narrow, brief_narrow es each.1)
