-- The tree of a sound source, and the module of each instance.
use Rattle.std.proofs.Common.{◌≡◌, ℕ, zero, suc, ◌+◌, List, [], ◌∷◌, ◌++◌, Bool, true, false, ◌||◌, map, length, reverse, Option, Some, None, is_none, slice_get, refl, ap, sym, ◌∙◌, subst, codes}
use Rattle.std.specs.Option.{option_map_or}
use Rattle.std.proofs.lemmas.Bool.{or_parts, or_left, or_right, both_ways, not-false, false_from_ne_true, cond-true, cond-false}
use Rattle.cx_vtree.specs.Plain.{PlainInstance, PlainModule, PlainSource}
use Rattle.cx_vtree.specs.InstanceTree.{same_name, Placed, below, tree_from, main_instance, instances_of}
use Rattle.cx_vtree.specs.Sound.{Faults, no_faults, Counts, Scope, has_name, meant_in, ports_of, driven_by, module_named, misconnects, misfits, doubles, instance_faults, instances_faults, module_counts, is_sound}
use Rattle.cx_vlaws.proofs.Cleans.{Clean}
use Rattle.cx_vlaws.proofs.Modules.{Keeps, KeepsAfter, AllKeep, seen_counts, sound_keeps, new_name, named-reversed}
use Rattle.cx_vlaws.proofs.Trees.{placed, Stands, every_stands, part_stands, number_of}
use Rattle.cx_vtree.proofs.InstanceTreeLemmas.{same_is}

-- an instance keeps its rules
pub record IsWired (before : List PlainModule) (scope : Scope) (x : PlainInstance) : Type 0 where
  pub part : PlainModule
  pub known : module_named before x.kind ≡ Some part
  pub connects : misconnects scope part.ports x.conns ≡ false
  pub fits : misfits scope part.ports x.conns ≡ false

wired : (before : List PlainModule) (scope : Scope) (earlier driven : List (List ℕ)) (x : PlainInstance) → instance_faults before scope earlier driven x ≡ no_faults → IsWired before scope x
wired before scope earlier driven x e = go (module_named before x.kind) refl names.1 names.2 widths where
  name_is : (has_name earlier x.name || is_none (module_named before x.kind) || misconnects scope (ports_of before x.kind) x.conns || doubles driven (driven_by (ports_of before x.kind) x.conns)) ≡ false
  name_is = ap (λ (f : Faults). f.name) e

  names : (has_name earlier x.name ≡ false) × (is_none (module_named before x.kind) ≡ false) × (misconnects scope (ports_of before x.kind) x.conns ≡ false)
  names =
      let outer = or_parts (has_name earlier x.name || is_none (module_named before x.kind) || misconnects scope (ports_of before x.kind) x.conns) (doubles driven (driven_by (ports_of before x.kind) x.conns)) name_is in
      let middle = or_parts (has_name earlier x.name || is_none (module_named before x.kind)) (misconnects scope (ports_of before x.kind) x.conns) outer.0 in
      let inner = or_parts (has_name earlier x.name) (is_none (module_named before x.kind)) middle.0 in
      (inner.0, inner.1, middle.1)

  widths : misfits scope (ports_of before x.kind) x.conns ≡ false
  widths = ap (λ (f : Faults). f.width) e

  go : (o : Option PlainModule) → module_named before x.kind ≡ o → is_none (module_named before x.kind) ≡ false → misconnects scope (ports_of before x.kind) x.conns ≡ false
      → misfits scope (ports_of before x.kind) x.conns ≡ false → IsWired before scope x
  go None is some connects fits = absurd (both_ways (is_none (module_named before x.kind)) some (ap is_none is))
  go (Some m) is some connects fits =
      let ports : ports_of before x.kind ≡ m.ports = ap (λ o. option_map_or (λ q. q.ports) o []) is in
      record { part = m; known = is; connects = subst (λ ps. misconnects scope ps x.conns ≡ false) ports connects; fits = subst (λ ps. misfits scope ps x.conns ≡ false) ports fits }

pub wired_at : (before : List PlainModule) (scope : Scope) (earlier driven : List (List ℕ)) (xs : List PlainInstance) → Clean (instances_faults before scope earlier driven xs)
    → (s : ℕ) (x : PlainInstance) → slice_get xs s ≡ Some x → IsWired before scope x
wired_at before scope earlier driven [] c s x e = absurd (cc)
wired_at before scope earlier driven (y ∷ xs) c zero x e = let same : y ≡ x = cc in subst (IsWired before scope) same (wired before scope earlier driven y c.0)
wired_at before scope earlier driven (y ∷ xs) c (suc s) x e = wired_at before scope (earlier ++ y.name ∷ []) (driven ++ driven_by (ports_of before y.kind) y.conns) xs c.1 s x e

-- the parts of a module that keeps every rule are among the modules before it
pub parts_known : (is_main : Bool) (before : List PlainModule) (own : Counts) (m : PlainModule) → Keeps is_main before own m → (s : ℕ) (x : PlainInstance) → slice_get m.instances s ≡ Some x → IsWired before (meant_in m.ports m.decls) x
parts_known is_main before own m k s x e = wired_at before (meant_in m.ports m.decls) _ _ m.instances k.instances s x e

named_has : (ms : List PlainModule) (kind : List ℕ) (m : PlainModule) → module_named ms kind ≡ Some m → has_name (map (λ x. x.name) ms) kind ≡ true
named_has [] kind m e = absurd (cc)
named_has (x ∷ ms) kind m e = go (same_name x.name kind) refl (named_has ms kind m) where
  go : (same : Bool) → same_name x.name kind ≡ same → (module_named ms kind ≡ Some m → has_name (map (λ y. y.name) ms) kind ≡ true) → has_name (map (λ y. y.name) (x ∷ ms)) kind ≡ true
  go true is later = or_left (same_name x.name kind) (has_name (map (λ y. y.name) ms) kind) is
  go false is later = or_right (same_name x.name kind) (has_name (map (λ y. y.name) ms) kind) (later (sym (cond-false (same_name x.name kind) (Some x) (module_named ms kind) is) ∙ e))

-- a module has another name than one that was found among those before it
differs : (is_main : Bool) (m : PlainModule) (before : List PlainModule) (kind : List ℕ) (part : PlainModule) → AllKeep is_main (m ∷ before) → module_named before kind ≡ Some part → same_name m.name kind ≡ false
differs is_main m before kind part k found =
    false_from_ne_true (same_name m.name kind) (λ same.
    both_ways (has_name (map (λ x. x.name) (reverse before)) kind)
    (subst (λ n. has_name (map (λ x. x.name) (reverse before)) n ≡ false) (same_is m.name kind same) (new_name is_main (reverse before) (module_counts (reverse before) (seen_counts before) m) m k.0))
    (named_has (reverse before) kind part (named-reversed false before kind k.1 ∙ found)))

-- what is found among the modules before is found
named-later : (is_main : Bool) (m : PlainModule) (before : List PlainModule) (kind : List ℕ) (part : PlainModule) → AllKeep is_main (m ∷ before) → module_named before kind ≡ Some part → module_named (m ∷ before) kind ≡ Some part
named-later is_main m before kind part k found = cond-false (same_name m.name kind) (Some m) (module_named before kind) (differs is_main m before kind part k found) ∙ found

tree-later : (is_main : Bool) (m : PlainModule) (before : List PlainModule) (x : PlainInstance) (part : PlainModule) → AllKeep is_main (m ∷ before) → module_named before x.kind ≡ Some part
    → (holder n : ℕ) → tree_from before x holder n ≡ tree_from (m ∷ before) x holder n
tree-later is_main m before x part k found holder n = sym (cond-false (same_name m.name x.kind) _ (tree_from before x holder n) (differs is_main m before x.kind part k found))

-- a module among some, with those before it
pub record Among (modules : List PlainModule) (m : PlainModule) : Type 0 where
  pub is_main : Bool
  pub before : List PlainModule
  pub kept : KeepsAfter is_main before m
  pub earlier : AllKeep false before
  pub later : (kind : List ℕ) (part : PlainModule) → module_named before kind ≡ Some part → module_named modules kind ≡ Some part

-- a module of a name is the first one, or one of the others
pub by_first : {P : Type 0} (x m : PlainModule) (ms : List PlainModule) (kind : List ℕ) → module_named (x ∷ ms) kind ≡ Some m → (same_name x.name kind ≡ true → x ≡ m → P) → (same_name x.name kind ≡ false → module_named ms kind ≡ Some m → P) → P
by_first {P} x m ms kind e here there = go (same_name x.name kind) refl where
  go : (same : Bool) → same_name x.name kind ≡ same → P
  go true is = let same : Some x ≡ Some m = sym (cond-true (same_name x.name kind) (Some x) (module_named ms kind) is) ∙ e in here is cc
  go false is = there is (sym (cond-false (same_name x.name kind) (Some x) (module_named ms kind) is) ∙ e)

pub among : (is_main : Bool) (modules : List PlainModule) → AllKeep is_main modules → (kind : List ℕ) (m : PlainModule) → module_named modules kind ≡ Some m → Among modules m
among is_main [] k kind m e = absurd (cc)
among is_main (x ∷ ms) k kind m e =
    by_first x m ms kind e
    (λ is same. subst (Among (x ∷ ms)) same (record { is_main = is_main; before = ms; kept = k.0; earlier = k.1; later = λ other part found. named-later is_main x ms other part k found }))
    (λ is found.
    let a = among false ms k.1 kind m found in
    record { is_main = a.is_main; before = a.before; kept = a.kept; earlier = a.earlier; later = λ other part at. named-later is_main x ms other part k (a.later other part at) })

-- the instances of a module are of modules that are there
pub closed : (is_main : Bool) (modules : List PlainModule) → AllKeep is_main modules → (kind : List ℕ) (m : PlainModule) → module_named modules kind ≡ Some m
    → (s : ℕ) (y : PlainInstance) → slice_get m.instances s ≡ Some y → (part : PlainModule) × (module_named modules y.kind ≡ Some part)
closed is_main modules k kind m e s y there =
    let a = among is_main modules k kind m e in
    let w = parts_known a.is_main (reverse a.before) _ m a.kept s y there in
    (w.part, a.later y.kind w.part (sym (named-reversed false a.before y.kind a.earlier) ∙ w.known))

below-same : (f g : PlainInstance → ℕ → ℕ → List Placed) (holder next : ℕ) (xs : List PlainInstance) → ((s : ℕ) (y : PlainInstance) → slice_get xs s ≡ Some y → (h n : ℕ) → f y h n ≡ g y h n) → below f holder next xs ≡ below g holder next xs
below-same f g holder next [] h = refl
below-same f g holder next (x ∷ xs) h =
    ap (λ (t : List Placed). t ++ below f holder (next + length t) xs) (h zero x refl holder next)
    ∙ ap (λ l. g x holder next ++ l) (below-same f g holder (next + length (g x holder next)) xs (λ s y e. h (suc s) y e))

-- an instance comes first in its tree, and all that it holds after it
pub unfolds : (is_main : Bool) (modules : List PlainModule) → AllKeep is_main modules → (x : PlainInstance) (holder n : ℕ) (m : PlainModule) → module_named modules x.kind ≡ Some m
    → tree_from modules x holder n ≡ placed x holder m ∷ below (tree_from modules) n (n + 1) m.instances
unfolds is_main [] k x holder n m e = absurd (cc)
unfolds is_main (z ∷ ms) k x holder n m e =
    by_first z m ms x.kind e
    (λ is same.
    cond-true (same_name z.name x.kind) (placed x holder z ∷ below (tree_from ms) n (n + 1) z.instances) (tree_from ms x holder n) is
    ∙ ap (λ l. placed x holder z ∷ l) (below-same (tree_from ms) (tree_from (z ∷ ms)) n (n + 1) z.instances (λ s y there.
    let w = parts_known is_main (reverse ms) _ z k.0 s y there in
    tree-later is_main z ms y w.part k (sym (named-reversed false ms y.kind k.1) ∙ w.known)))
    ∙ ap (λ (q : PlainModule). placed x holder q ∷ below (tree_from (z ∷ ms)) n (n + 1) q.instances) same)
    (λ is found.
    cond-false (same_name z.name x.kind) (placed x holder z ∷ below (tree_from ms) n (n + 1) z.instances) (tree_from ms x holder n) is
    ∙ unfolds false ms k.1 x holder n m found
    ∙ ap (λ l. placed x holder m ∷ l) (below-same (tree_from ms) (tree_from (z ∷ ms)) n (n + 1) m.instances (λ s y there.
    let c = closed false ms k.1 x.kind m found s y there in
    tree-later is_main z ms y c.0 k c.1)))

-- the last module is `main`
pub main_named : (m : PlainModule) (before : List PlainModule) → AllKeep true (m ∷ before) → module_named (m ∷ before) (codes "main") ≡ Some m
main_named m before k =
    let name = ap (λ (f : Faults). f.name) k.0.head in
    cond-true (same_name m.name (codes "main")) (Some m) (module_named before (codes "main")) (not-false (same_name m.name (codes "main")) (or_parts _ _ name).1)

-- what stands where in the tree of a sound source
pub stands : (source : PlainSource) → is_sound source ≡ true → (i : ℕ) (p : Placed) → slice_get (instances_of source) i ≡ Some p
    → Stands (tree_from (reverse source.modules)) (module_named (reverse source.modules)) (instances_of source) i p 0 0 main_instance
stands source sound i p e = go (reverse source.modules) (sound_keeps source sound) e where
  go : (ms : List PlainModule) → AllKeep true ms → slice_get (tree_from ms main_instance 0 0) i ≡ Some p → Stands (tree_from ms) (module_named ms) (tree_from ms main_instance 0 0) i p 0 0 main_instance
  go [] k at = absurd (cc)
  go (m ∷ before) k at = every_stands (tree_from (m ∷ before)) (module_named (m ∷ before)) (unfolds true (m ∷ before) k) (closed true (m ∷ before) k) main_instance m (main_named m before k) i p at

pub part_at : (source : PlainSource) → is_sound source ≡ true → (i : ℕ) (p : Placed) → slice_get (instances_of source) i ≡ Some p → (s : ℕ) (y : PlainInstance) → slice_get p.part.instances s ≡ Some y
    → (part : PlainModule) × (module_named (reverse source.modules) y.kind ≡ Some part)
    × (slice_get (instances_of source) (number_of (tree_from (reverse source.modules)) i (i + 1) p.part.instances s) ≡ Some (placed y i part))
part_at source sound i p e s y there = go (reverse source.modules) (sound_keeps source sound) e where
  go : (ms : List PlainModule) → AllKeep true ms → slice_get (tree_from ms main_instance 0 0) i ≡ Some p
      → (part : PlainModule) × (module_named ms y.kind ≡ Some part) × (slice_get (tree_from ms main_instance 0 0) (number_of (tree_from ms) i (i + 1) p.part.instances s) ≡ Some (placed y i part))
  go [] k at = absurd (cc)
  go (m ∷ before) k at = part_stands (tree_from (m ∷ before)) (module_named (m ∷ before)) (unfolds true (m ∷ before) k) (closed true (m ∷ before) k) main_instance m (main_named m before k) i p at s y there

-- the module of an instance keeps every rule, with those before it
pub instance_keeps : (source : PlainSource) → is_sound source ≡ true → (i : ℕ) (p : Placed) → slice_get (instances_of source) i ≡ Some p → Among (reverse source.modules) p.part
instance_keeps source sound i p e =
    let r = stands source sound i p e in among true (reverse source.modules) (sound_keeps source sound) r.x.kind p.part r.known

-- a module that is found has the name that it was looked for by
found_name : (modules : List PlainModule) (kind : List ℕ) (m : PlainModule) → module_named modules kind ≡ Some m → m.name ≡ kind
found_name [] kind m e = absurd (cc)
found_name (x ∷ ms) kind m e = by_first x m ms kind e (λ is same. ap (λ (y : PlainModule). y.name) (sym same) ∙ same_is x.name kind is) (λ is found. found_name ms kind m found)

-- instances whose modules have one name have one module
pub same_modules : (source : PlainSource) (i j : ℕ) (p q : Placed) → is_sound source ≡ true → slice_get (instances_of source) i ≡ Some p → slice_get (instances_of source) j ≡ Some q
    → p.part.name ≡ q.part.name → p.part ≡ q.part
same_modules source i j p q sound at there named =
    let r = stands source sound i p at in
    let t = stands source sound j q there in
    let modules : List PlainModule = reverse source.modules in
    let kinds : r.x.kind ≡ t.x.kind = sym (found_name modules r.x.kind p.part r.known) ∙ named ∙ found_name modules t.x.kind q.part t.known in
    let same : Some p.part ≡ Some q.part = sym r.known ∙ ap (module_named modules) kinds ∙ t.known in
    cc
