-- External memories of a sound source.
use Rattle.std.proofs.Common.{◌≡◌, ℕ, zero, suc, ◌+◌, ◌≤◌, ◌==◌, List, [], ◌∷◌, ◌++◌, Bool, true, false, ◌&&◌, ◌||◌, map, length, reverse, Option, Some, None, slice_get, option_map, option_and_then, refl, ap, sym, ◌∙◌, subst, if◌then◌else◌, arith, codes}
use Rattle.std.specs.Prelude.{nat_lt, nat_le, is_none}
use Rattle.std.specs.Option.{option_map_or}
use Rattle.std.specs.List.{list_all}
use Rattle.std.proofs.lemmas.Bool.{or_parts, and_parts, and_from, not-false, eqb-true, eq-eqb, ltb-false, cond-true, cond-false}
use Rattle.std.proofs.lemmas.Option.{slice_get-map}
use Rattle.std.proofs.lemmas.List.{reverse-reverse}
use Rattle.cx_text.specs.Loading.{word_count}
use Rattle.cx_vtree.specs.Plain.{PlainDecl, WireOf, RegisterOf, ArrayOf, PlainInstance, PlainModule, PlainExternal, PlainSource}
use Rattle.cx_vtree.specs.InstanceTree.{same_name, Placed, decls_at, tree_from, main_instance, instances_of, declared_arrays}
use Rattle.cx_vtree.specs.Layout.{is_word, is_name, external_fits, module_fits, is_laid_out}
use Rattle.cx_vtree.specs.Edges.{array_size}
use Rattle.cx_vtree.specs.SimRun.{instance_named, first_array}
use Rattle.cx_vtree.specs.Sound.{Faults, no_faults, has_name, module_named, last_named, instance_kind, memory_module, width_of, arrays_in, memory_arrays, not_this_memory, not_this_width, external_faults, externals_faults, break_of, is_sound}
use Rattle.cx_vlaws.specs.Names.{AreApart}
use Rattle.cx_vlaws.specs.Memories.{IsMemory}
use Rattle.cx_vlaws.proofs.Cleans.{Clean}
use Rattle.cx_vlaws.proofs.Fresh.{Fresh, fresh_apart}
use Rattle.cx_vlaws.proofs.Modules.{AllKeep, sound-faults, named-reversed, reverse-cons}
use Rattle.cx_vlaws.proofs.Trees.{placed, number_of}
use Rattle.cx_vlaws.proofs.Forest.{part_at}
use Rattle.cx_vlaws.proofs.Parts.{instances_fresh}
use Rattle.cx_vlaws.proofs.Holders.{part_in}
use Rattle.cx_vlaws.proofs.MeaningLemmas.{decl-means}
use Rattle.cx_vlaws.proofs.Mains.{main_at, main_name}
use Rattle.cx_text.proofs.OptionLaws.{bind_some, one_value}
use Rattle.cx_vtree.proofs.InstanceTreeLemmas.{same_is, is_same, same_self}
use Rattle.cx_text.proofs.BoolLaws.{none_goes_on}

name_at : {A : Type 0} (name : A → List ℕ) (xs : List A) (k : ℕ) (x : A) → slice_get xs k ≡ Some x → slice_get (map name xs) k ≡ Some (name x)
name_at name xs k x e = slice_get-map name xs k ∙ ap (option_map name) e

-- the search for an instance of `main` by its name
named_some : (tree : List Placed) (number : ℕ) (name : List ℕ) (k : ℕ) (p : Placed) → slice_get tree k ≡ Some p → p.holder ≡ 0 → p.name ≡ name → (j : ℕ) × (instance_named tree number name ≡ Some j)
named_some [] number name k p e around named = absurd (cc)
named_some (q ∷ tree) number name zero p e around named =
    let same : q ≡ p = cc in
    let holds : (q.holder == 0) ≡ true = eq-eqb q.holder 0 (ap (λ (y : Placed). y.holder) same ∙ around) in
    let is : same_name q.name name ≡ true = is_same q.name name (ap (λ (y : Placed). y.name) same ∙ named) in
    (number, cond-true (q.holder == 0 && same_name q.name name) (Some number) (instance_named tree (number + 1) name) (and_from (q.holder == 0) (same_name q.name name) holds is))
named_some (q ∷ tree) number name (suc k) p e around named = go (q.holder == 0 && same_name q.name name) (named_some tree (number + 1) name k p e around named) where
  go : (here : Bool) → ((j : ℕ) × (instance_named tree (number + 1) name ≡ Some j)) → (j : ℕ) × ((if here then Some number else instance_named tree (number + 1) name) ≡ Some j)
  go true later = (number, refl)
  go false later = later

pub record IsNamed (tree : List Placed) (number : ℕ) (name : List ℕ) (j : ℕ) : Type 0 where
  pub k : ℕ
  pub p : Placed
  pub at : slice_get tree k ≡ Some p
  pub around : p.holder ≡ 0
  pub named : p.name ≡ name
  pub is : j ≡ number + k

pub named_found : (tree : List Placed) (number : ℕ) (name : List ℕ) (j : ℕ) → instance_named tree number name ≡ Some j → IsNamed tree number name j
named_found [] number name j e = absurd (cc)
named_found (q ∷ tree) number name j e = go (q.holder == 0 && same_name q.name name) refl e (named_found tree (number + 1) name j) where
  go : (here : Bool) → (q.holder == 0 && same_name q.name name) ≡ here → (if here then Some number else instance_named tree (number + 1) name) ≡ Some j
      → (instance_named tree (number + 1) name ≡ Some j → IsNamed tree (number + 1) name j) → IsNamed (q ∷ tree) number name j
  go true is h later =
      let both = and_parts (q.holder == 0) (same_name q.name name) is in
      let same : number ≡ j = cc in
      let place : j ≡ number + 0 = omega arith in
      record { k = zero; p = q; at = refl; around = eqb-true q.holder 0 both.0; named = same_is q.name name both.1; is = place }
  go false is h later =
      let n = later h in
      let n-is = n.is in
      let place : j ≡ number + suc n.k = omega arith in
      record { k = suc n.k; p = n.p; at = n.at; around = n.around; named = n.named; is = place }

-- the last module named `main`
last-push : (ms : List PlainModule) (m : PlainModule) (name : List ℕ) → same_name m.name name ≡ true → last_named (ms ++ m ∷ []) name ≡ Some m
last-push [] m name e = cond-true (same_name m.name name) (Some m) None e
last-push (x ∷ ms) m name e = ap (λ o. option_map_or Some o (if same_name x.name name then Some x else None)) (last-push ms m name e)

kind_found : (xs : List PlainInstance) (name kind : List ℕ) → instance_kind xs name ≡ Some kind → (s : ℕ) × (x : PlainInstance) × (slice_get xs s ≡ Some x) × (x.name ≡ name) × (x.kind ≡ kind)
kind_found [] name kind e = absurd (cc)
kind_found (x ∷ xs) name kind e = go (same_name x.name name) refl (kind_found xs name kind) where
  go : (same : Bool) → same_name x.name name ≡ same → (instance_kind xs name ≡ Some kind → (s : ℕ) × (y : PlainInstance) × (slice_get xs s ≡ Some y) × (y.name ≡ name) × (y.kind ≡ kind))
      → (s : ℕ) × (y : PlainInstance) × (slice_get (x ∷ xs) s ≡ Some y) × (y.name ≡ name) × (y.kind ≡ kind)
  go true is later = let same : Some x.kind ≡ Some kind = sym (cond-true (same_name x.name name) (Some x.kind) (instance_kind xs name) is) ∙ e in (zero, x, refl, same_is x.name name is, cc)
  go false is later = let (s, y, at, named, kinds) = later (sym (cond-false (same_name x.name name) (Some x.kind) (instance_kind xs name) is) ∙ e) in (suc s, y, at, named, kinds)

-- one array, of this width and this many words
one_array : (arrays : List (ℕ × ℕ)) (e : PlainExternal) → not_this_memory arrays e ≡ false → not_this_width arrays e ≡ false → arrays ≡ (e.width, word_count e.sizes) ∷ []
one_array [] e h w = absurd (cc)
one_array ((v, n) ∷ []) e h w =
    let width : v ≡ e.width = eqb-true v e.width (not-false (v == e.width) w) in
    let words : n ≡ word_count e.sizes = eqb-true n (word_count e.sizes) (not-false (n == word_count e.sizes) h) in
    ap (λ (x : ℕ). (x, n) ∷ []) width ∙ ap (λ (y : ℕ). (e.width, y) ∷ []) words
one_array (a ∷ b ∷ rest) e h w = absurd (cc)

-- the array of a module that has one
none_declared : (ds : List PlainDecl) → arrays_in ds ≡ [] → declared_arrays ds ≡ []
none_declared [] e = refl
none_declared (WireOf x v ∷ ds) e = none_declared ds e
none_declared (RegisterOf x v ∷ ds) e = none_declared ds e
none_declared (ArrayOf x v k ∷ ds) e = absurd (cc)

record IsOnly (ds : List PlainDecl) (w n : ℕ) : Type 0 where
  pub only : declared_arrays ds ≡ first_array ds ∷ []
  pub size : array_size ds (first_array ds) ≡ n
  pub k : ℕ
  pub there : slice_get ds k ≡ Some (ArrayOf (first_array ds) w n)

only_array : (ds : List PlainDecl) (w n : ℕ) → arrays_in ds ≡ (w, n) ∷ [] → IsOnly ds w n
only_array [] w n e = absurd (cc)
only_array (WireOf x v ∷ ds) w n e = let later = only_array ds w n e in record { only = later.only; size = later.size; k = suc later.k; there = later.there }
only_array (RegisterOf x v ∷ ds) w n e = let later = only_array ds w n e in record { only = later.only; size = later.size; k = suc later.k; there = later.there }
only_array (ArrayOf x v k ∷ ds) w n e =
    let pair : ◌≡◌ {A = ℕ × ℕ} (v, k) (w, n) = cc in
    let rest : arrays_in ds ≡ [] = cc in
    let width : v ≡ w = ap (λ (p : ℕ × ℕ). p.0) pair in
    let words : k ≡ n = ap (λ (p : ℕ × ℕ). p.1) pair in
    record {
      only = ap (λ l. x ∷ l) (none_declared ds rest);
      size = cond-true (same_name x x) k (array_size ds x) (same_self x) ∙ words;
      k = zero;
      there = ap (λ a. Some (ArrayOf x a k)) width ∙ ap (λ a. Some (ArrayOf x w a)) words;
    }

-- an external memory keeps its rules
record ExternalKeeps (modules : List PlainModule) (e : PlainExternal) : Type 0 where
  pub part : PlainModule
  pub is : memory_module modules e ≡ Some part
  pub array : arrays_in part.decls ≡ (e.width, word_count e.sizes) ∷ []
  pub width : e.width ≤ 64

external_keeps : (modules : List PlainModule) (names instances : List (List ℕ)) (e : PlainExternal) → external_faults modules names instances e ≡ no_faults → ExternalKeeps modules e
external_keeps modules names instances e clean = go (memory_module modules e) refl memory width where
  name : (has_name names e.name || has_name instances e.instance || not_this_memory (memory_arrays modules e) e) ≡ false
  name = ap (λ (f : Faults). f.name) clean

  memory : not_this_memory (memory_arrays modules e) e ≡ false
  memory = (none_goes_on (has_name names e.name) (has_name instances e.instance) (not_this_memory (memory_arrays modules e) e) name).2

  widths : (nat_lt 64 e.width ≡ false) × (not_this_width (memory_arrays modules e) e ≡ false)
  widths = or_parts (nat_lt 64 e.width) (not_this_width (memory_arrays modules e) e) (ap (λ (f : Faults). f.width) clean)

  width : not_this_width (memory_arrays modules e) e ≡ false
  width = widths.1

  go : (o : Option PlainModule) → memory_module modules e ≡ o → not_this_memory (memory_arrays modules e) e ≡ false → not_this_width (memory_arrays modules e) e ≡ false → ExternalKeeps modules e
  go None is h w = absurd (let nothing : not_this_memory [] e ≡ false = subst (λ o. not_this_memory (option_map_or (λ m. arrays_in m.decls) o []) e ≡ false) is h in cc)
  go (Some m) is h w = record {
    part = m;
    is = is;
    array = one_array (arrays_in m.decls) e (subst (λ o. not_this_memory (option_map_or (λ m. arrays_in m.decls) o []) e ≡ false) is h) (subst (λ o. not_this_width (option_map_or (λ m. arrays_in m.decls) o []) e ≡ false) is w);
    width = ltb-false 64 e.width widths.0;
  }

externals_keep : (modules : List PlainModule) (names instances : List (List ℕ)) (es : List PlainExternal) → Clean (externals_faults modules names instances es) → (k : ℕ) (e : PlainExternal) → slice_get es k ≡ Some e → ExternalKeeps modules e
externals_keep modules names instances [] c k e at = absurd (cc)
externals_keep modules names instances (x ∷ es) c zero e at = let same : x ≡ e = cc in subst (ExternalKeeps modules) same (external_keeps modules names instances x c.0)
externals_keep modules names instances (x ∷ es) c (suc k) e at = externals_keep modules (names ++ x.name ∷ []) (instances ++ x.instance ∷ []) es c.1 k e at

externals_fresh : (modules : List PlainModule) (names instances : List (List ℕ)) (es : List PlainExternal) → Clean (externals_faults modules names instances es)
    → Fresh names (map (λ e. e.name) es) × Fresh instances (map (λ e. e.instance) es)
externals_fresh modules names instances [] c = (tt, tt)
externals_fresh modules names instances (x ∷ es) c =
    let name = none_goes_on (has_name names x.name) (has_name instances x.instance) (not_this_memory (memory_arrays modules x) x) (ap (λ (f : Faults). f.name) c.0) in
    let later = externals_fresh modules (names ++ x.name ∷ []) (instances ++ x.instance ∷ []) es c.1 in
    ((name.0, later.0), (name.1, later.1))

pub externals_apart : (source : PlainSource) → is_sound source ≡ true → AreApart (map (λ e. e.name) source.externals) × AreApart (map (λ e. e.instance) source.externals)
externals_apart source sound =
    let f = externals_fresh source.modules [] [] source.externals (sound-faults source sound).0 in
    (fresh_apart [] (map (λ e. e.name) source.externals) f.0, fresh_apart [] (map (λ e. e.instance) source.externals) f.1)

-- a name has letters
all_at : {A : Type 0} (test : A → Bool) (xs : List A) → list_all test xs ≡ true → (k : ℕ) (x : A) → slice_get xs k ≡ Some x → test x ≡ true
all_at test [] h k x e = absurd (cc)
all_at test (y ∷ xs) h zero x e = let same : y ≡ x = cc in ap test (sym same) ∙ (and_parts (test y) (list_all test xs) h).0
all_at test (y ∷ xs) h (suc k) x e = all_at test xs (and_parts (test y) (list_all test xs) h).1 k x e

no_name : is_name [] ≡ true → ⊥
no_name e = cc

named_instance : (source : PlainSource) → is_sound source ≡ true → (k : ℕ) (e : PlainExternal) → slice_get source.externals k ≡ Some e → [] ≡ e.instance → ⊥
named_instance source sound k e at nothing =
    let laid = (and_parts (is_laid_out source) (is_none (break_of source)) sound).0 in
    let outer = (and_parts (list_all external_fits source.externals && nat_lt 0 (length source.modules)) (list_all module_fits source.modules) laid).0 in
    let all = (and_parts (list_all external_fits source.externals) (nat_lt 0 (length source.modules)) outer).0 in
    let fits = all_at external_fits source.externals all k e at in
    let three = (and_parts (is_word e.name && is_name e.instance && nat_lt 0 (length e.sizes)) (nat_le (length e.sizes) 4) fits).0 in
    let two = (and_parts (is_word e.name && is_name e.instance) (nat_lt 0 (length e.sizes)) three).0 in
    let name = (and_parts (is_word e.name) (is_name e.instance) two).1 in
    no_name (ap is_name nothing ∙ name)

pub memory_there : (source : PlainSource) → is_sound source ≡ true → (k : ℕ) (e : PlainExternal) → slice_get source.externals k ≡ Some e → IsMemory (instances_of source) e
memory_there source sound k e at =
    let x = externals_keep source.modules [] [] source.externals (sound-faults source sound).0 k e at in
    let r = main_at source sound in
    let modules : source.modules ≡ reverse r.before ++ r.m ∷ [] = sym (reverse-reverse source.modules) ∙ ap reverse r.are ∙ reverse-cons r.m r.before in
    let (main, last, by_kind) = bind_some (λ m. option_and_then (module_named source.modules) (instance_kind m.instances e.instance)) (last_named source.modules (codes "main")) x.part x.is in
    let (kind, kinds, found) = bind_some (module_named source.modules) (instance_kind main.instances e.instance) x.part by_kind in
    let is_main : last_named source.modules (codes "main") ≡ Some r.m = ap (λ l. last_named l (codes "main")) modules ∙ last-push (reverse r.before) r.m (codes "main") (main_name source r) in
    let same : main ≡ r.m = one_value (last_named source.modules (codes "main")) main r.m last is_main in
    let (s, y, there, named, kind_is) = kind_found r.m.instances e.instance kind (ap (λ (m : PlainModule). instance_kind m.instances e.instance) (sym same) ∙ kinds) in
    let (part, known, stands_there) = part_at source sound 0 (placed main_instance 0 r.m) r.first s y there in
    let all : AllKeep true (reverse source.modules) = subst (AllKeep true) (sym r.are) (r.kept, r.earlier) in
    let by_name : module_named (reverse source.modules) y.kind ≡ Some x.part =
    sym (named-reversed true (reverse source.modules) y.kind all) ∙ ap (λ l. module_named l y.kind) (reverse-reverse source.modules) ∙ ap (module_named source.modules) kind_is ∙ found in
    let same_part : part ≡ x.part = one_value (module_named (reverse source.modules) y.kind) part x.part known by_name in
    let number : ℕ = number_of (tree_from (reverse source.modules)) 0 (0 + 1) r.m.instances s in
    let (j, is_named) = named_some (instances_of source) 0 e.instance number (placed y 0 part) stands_there refl named in
    let n = named_found (instances_of source) 0 e.instance j is_named in
    let is_part = part_in source sound 0 (placed main_instance 0 r.m) r.first n.k n.p n.at (λ first. no_main n.k n.p n.at first n.named) n.around in
    let fresh = instances_fresh _ _ _ _ r.m.instances r.kept.instances in
    let names : AreApart (map (λ z. z.name) r.m.instances) = fresh_apart _ (map (λ z. z.name) r.m.instances) fresh in
    let same_s : is_part.s ≡ s = names is_part.s s e.instance (name_at (λ (z : PlainInstance). z.name) r.m.instances is_part.s is_part.x is_part.there ∙ ap Some (sym is_part.name ∙ n.named)) (name_at (λ (z : PlainInstance). z.name) r.m.instances s y there ∙ ap Some named) in
    let same_k : n.k ≡ number = is_part.number ∙ ap (number_of (tree_from (reverse source.modules)) 0 (0 + 1) r.m.instances) same_s in
    let same_p : n.p ≡ placed y 0 part = one_value (slice_get (instances_of source) number) n.p (placed y 0 part) (subst (λ i. slice_get (instances_of source) i ≡ Some n.p) same_k n.at) stands_there in
    let n-is = n.is in
    let j_is : n.k ≡ j = omega arith in
    let at_j : slice_get (instances_of source) j ≡ Some n.p = subst (λ i. slice_get (instances_of source) i ≡ Some n.p) j_is n.at in
    let decls : decls_at (instances_of source) j ≡ x.part.decls =
    ap (λ o. option_map_or (λ q. q.part.decls) o []) at_j ∙ ap (λ (q : Placed). q.part.decls) same_p ∙ ap (λ (m : PlainModule). m.decls) same_part in
    let array : arrays_in (decls_at (instances_of source) j) ≡ (e.width, word_count e.sizes) ∷ [] = ap arrays_in decls ∙ x.array in
    let only = only_array (decls_at (instances_of source) j) e.width (word_count e.sizes) array in
    record {
      number = j;
      found = is_named;
      place = n.p;
      at = at_j;
      name = n.named;
      holder = n.around;
      array = array;
      width = x.width;
      only = only.only;
      size = only.size;
      wide = ap width_of (decl-means source sound j only.k (ArrayOf (first_array (decls_at (instances_of source) j)) e.width (word_count e.sizes)) only.there);
    }
  where
    no_main : (i : ℕ) (p : Placed) → slice_get (instances_of source) i ≡ Some p → i ≡ 0 → p.name ≡ e.instance → ⊥
    no_main i p here first named =
        let r = main_at source sound in
        let same : p ≡ placed main_instance 0 r.m = one_value (slice_get (instances_of source) 0) p (placed main_instance 0 r.m) (subst (λ l. slice_get (instances_of source) l ≡ Some p) first here) r.first in
        named_instance source sound k e at (sym (ap (λ (q : Placed). q.name) same) ∙ named)

-- one instance is of one external memory
pub same_place : (source : PlainSource) → is_sound source ≡ true → (j k i : ℕ) (d e : PlainExternal) → slice_get source.externals j ≡ Some d → slice_get source.externals k ≡ Some e
    → instance_named (instances_of source) 0 d.instance ≡ Some i → instance_named (instances_of source) 0 e.instance ≡ Some i → j ≡ k
same_place source sound j k i d e at at' found found' =
    let m = named_found (instances_of source) 0 d.instance i found in
    let n = named_found (instances_of source) 0 e.instance i found' in
    let m-is = m.is in
    let n-is = n.is in
    let place : m.k ≡ n.k = omega arith in
    let part : m.p ≡ n.p = one_value (slice_get (instances_of source) n.k) m.p n.p (subst (λ l. slice_get (instances_of source) l ≡ Some m.p) place m.at) n.at in
    let name : d.instance ≡ e.instance = sym m.named ∙ ap (λ (p : Placed). p.name) part ∙ n.named in
    (externals_apart source sound).1 j k e.instance (name_at (λ (x : PlainExternal). x.instance) source.externals j d at ∙ ap Some name) (name_at (λ (x : PlainExternal). x.instance) source.externals k e at')
