-- Counts by the numbers of instances, and arrays against their words.
use Rattle.std.proofs.Common.{◌≡◌, ℕ, zero, suc, ◌+◌, ◌<◌, ◌≤◌, List, [], ◌∷◌, ◌++◌, true, ◌&&◌, map, length, reverse, Option, Some, None, slice_get, refl, ap, sym, ◌∙◌, subst, arith, length-append}
use Rattle.std.specs.Prelude.{nat_lt, is_none}
use Rattle.std.specs.List.{list_all}
use Rattle.std.specs.Option.{option_map_or}
use Rattle.std.proofs.lemmas.Bool.{and_parts, ltb-true}
use Rattle.std.proofs.lemmas.List.{reverse-reverse}
use Rattle.cx_vtree.specs.Plain.{PlainPort, PlainDecl, WireOf, RegisterOf, ArrayOf, PlainModule, PlainSource}
use Rattle.cx_vtree.specs.InstanceTree.{Placed, decls_at, nets_at, declared_nets, instances_of, declared_arrays, arrays_at}
use Rattle.cx_vtree.specs.Layout.{is_name, port_fits, decl_fits, assign_fits, instance_fits, edge_fits, module_fits, external_fits, is_laid_out}
use Rattle.cx_vtree.specs.Sound.{module_named, break_of, is_sound}
use Rattle.cx_vlaws.specs.Counts.{declared_words, nets_count, arrays_count, words_count}
use Rattle.cx_vlaws.proofs.Modules.{sound_keeps, named-reversed}
use Rattle.cx_vlaws.proofs.Forest.{by_first, stands}
use Rattle.cx_vlaws.proofs.CountLemmas.{counts_bounded}

length-names : (ps : List PlainPort) → length (map (λ p. p.name) ps) ≡ length ps
length-names [] = refl
length-names (p ∷ ps) = ap suc (length-names ps)

nets-length : (p : Placed) → length (map (λ q. q.name) p.part.ports ++ declared_nets p.part.decls) ≡ length p.part.ports + length (declared_nets p.part.decls)
nets-length p = length-append (map (λ q. q.name) p.part.ports) (declared_nets p.part.decls) ∙ ap (λ n. n + length (declared_nets p.part.decls)) (length-names p.part.ports)

nets_from : (tree : List Placed) (start : ℕ) (f : ℕ → ℕ) → f 0 ≡ start → ((i : ℕ) → f (suc i) ≡ f i + length (nets_at tree i)) → f (length tree) ≡ start + nets_count tree
nets_from [] start f first next = first ∙ add-none start
  where
    add-none : (n : ℕ) → n ≡ n + 0
    add-none n = omega arith
nets_from (p ∷ tree) start f first next =
    let here : f (suc zero) ≡ start + (length p.part.ports + length (declared_nets p.part.decls)) =
    next zero ∙ ap (λ a. a + length (map (λ q. q.name) p.part.ports ++ declared_nets p.part.decls)) first ∙ ap (λ a. start + a) (nets-length p) in
    let later = nets_from tree (start + (length p.part.ports + length (declared_nets p.part.decls))) (λ i. f (suc i)) here (λ i. next (suc i)) in
    let sum : start + (length p.part.ports + length (declared_nets p.part.decls)) + nets_count tree ≡ start + (length p.part.ports + length (declared_nets p.part.decls) + nets_count tree) = omega arith in
    later ∙ sum

arrays_from : (tree : List Placed) (start : ℕ) (f : ℕ → ℕ) → f 0 ≡ start → ((i : ℕ) → f (suc i) ≡ f i + length (arrays_at tree i)) → f (length tree) ≡ start + arrays_count tree
arrays_from [] start f first next = let e : start ≡ start + 0 = omega arith in first ∙ e
arrays_from (p ∷ tree) start f first next =
    let here : f (suc zero) ≡ start + length (declared_arrays p.part.decls) = next zero ∙ ap (λ a. a + length (declared_arrays p.part.decls)) first in
    let later = arrays_from tree (start + length (declared_arrays p.part.decls)) (λ i. f (suc i)) here (λ i. next (suc i)) in
    let sum : start + length (declared_arrays p.part.decls) + arrays_count tree ≡ start + (length (declared_arrays p.part.decls) + arrays_count tree) = omega arith in
    later ∙ sum

words_from : (tree : List Placed) (start : ℕ) (f : ℕ → ℕ) → f 0 ≡ start → ((i : ℕ) → f (suc i) ≡ f i + declared_words (decls_at tree i)) → f (length tree) ≡ start + words_count tree
words_from [] start f first next = let e : start ≡ start + 0 = omega arith in first ∙ e
words_from (p ∷ tree) start f first next =
    let here : f (suc zero) ≡ start + declared_words p.part.decls = next zero ∙ ap (λ a. a + declared_words p.part.decls) first in
    let later = words_from tree (start + declared_words p.part.decls) (λ i. f (suc i)) here (λ i. next (suc i)) in
    let sum : start + declared_words p.part.decls + words_count tree ≡ start + (declared_words p.part.decls + words_count tree) = omega arith in
    later ∙ sum

pub nets_by_number : (tree : List Placed) (f : ℕ → ℕ) → f 0 ≡ 0 → ((i : ℕ) → f (suc i) ≡ f i + length (nets_at tree i)) → f (length tree) ≡ nets_count tree
nets_by_number tree f first next = let e = nets_from tree 0 f first next in let g : 0 + nets_count tree ≡ nets_count tree = omega arith in e ∙ g

pub arrays_by_number : (tree : List Placed) (f : ℕ → ℕ) → f 0 ≡ 0 → ((i : ℕ) → f (suc i) ≡ f i + length (arrays_at tree i)) → f (length tree) ≡ arrays_count tree
arrays_by_number tree f first next = let e = arrays_from tree 0 f first next in let g : 0 + arrays_count tree ≡ arrays_count tree = omega arith in e ∙ g

pub words_by_number : (tree : List Placed) (f : ℕ → ℕ) → f 0 ≡ 0 → ((i : ℕ) → f (suc i) ≡ f i + declared_words (decls_at tree i)) → f (length tree) ≡ words_count tree
words_by_number tree f first next = let e = words_from tree 0 f first next in let g : 0 + words_count tree ≡ words_count tree = omega arith in e ∙ g

-- each array has a word
arrays_few : (ds : List PlainDecl) → list_all decl_fits ds ≡ true → length (declared_arrays ds) ≤ declared_words ds
arrays_few [] e = omega arith
arrays_few (WireOf n w ∷ ds) e = arrays_few ds (and_parts (decl_fits (WireOf n w)) (list_all decl_fits ds) e).1
arrays_few (RegisterOf n w ∷ ds) e = arrays_few ds (and_parts (decl_fits (RegisterOf n w)) (list_all decl_fits ds) e).1
arrays_few (ArrayOf n w k ∷ ds) e =
    let both = and_parts (decl_fits (ArrayOf n w k)) (list_all decl_fits ds) e in
    let later = arrays_few ds both.1 in
    let some : 0 < k = ltb-true 0 k (and_parts (is_name n && nat_lt 0 w) (nat_lt 0 k) both.0).1 in
    omega arith

named_fits : (ms : List PlainModule) (kind : List ℕ) (m : PlainModule) → list_all module_fits ms ≡ true → module_named ms kind ≡ Some m → module_fits m ≡ true
named_fits [] kind m all e = absurd (cc)
named_fits (x ∷ ms) kind m all e =
    let both = and_parts (module_fits x) (list_all module_fits ms) all in
    by_first x m ms kind e (λ is same. subst (λ y. module_fits y ≡ true) same both.0) (λ is found. named_fits ms kind m both.1 found)

decls_fit : (m : PlainModule) → module_fits m ≡ true → list_all decl_fits m.decls ≡ true
decls_fit m e =
    let a = (and_parts (is_name m.name && nat_lt 0 (length m.ports) && list_all port_fits m.ports && list_all decl_fits m.decls && list_all assign_fits m.assigns && list_all instance_fits m.instances) (edge_fits m.edge) e).0 in
    let b = (and_parts (is_name m.name && nat_lt 0 (length m.ports) && list_all port_fits m.ports && list_all decl_fits m.decls && list_all assign_fits m.assigns) (list_all instance_fits m.instances) a).0 in
    let c = (and_parts (is_name m.name && nat_lt 0 (length m.ports) && list_all port_fits m.ports && list_all decl_fits m.decls) (list_all assign_fits m.assigns) b).0 in
    (and_parts (is_name m.name && nat_lt 0 (length m.ports) && list_all port_fits m.ports) (list_all decl_fits m.decls) c).1

pub instance_decls_fit : (source : PlainSource) → is_sound source ≡ true → (i : ℕ) (p : Placed) → slice_get (instances_of source) i ≡ Some p → list_all decl_fits p.part.decls ≡ true
instance_decls_fit source sound i p e =
    let r = stands source sound i p e in
    let laid = (and_parts (is_laid_out source) (is_none (break_of source)) sound).0 in
    let all = (and_parts (list_all external_fits source.externals && nat_lt 0 (length source.modules)) (list_all module_fits source.modules) laid).1 in
    let named : module_named source.modules r.x.kind ≡ Some p.part =
    ap (λ l. module_named l r.x.kind) (sym (reverse-reverse source.modules)) ∙ named-reversed true (reverse source.modules) r.x.kind (sound_keeps source sound) ∙ r.known in
    decls_fit p.part (named_fits source.modules r.x.kind p.part all named)

arrays_below : (tree : List Placed) → ((i : ℕ) (p : Placed) → slice_get tree i ≡ Some p → length (declared_arrays p.part.decls) ≤ declared_words p.part.decls) → arrays_count tree ≤ words_count tree
arrays_below [] each = omega arith
arrays_below (p ∷ tree) each = let here = each zero p refl in let later = arrays_below tree (λ i q e. each (suc i) q e) in omega arith

pub arrays_within_words : (source : PlainSource) → is_sound source ≡ true → arrays_count (instances_of source) ≤ words_count (instances_of source)
arrays_within_words source sound = arrays_below (instances_of source) (λ i p e. arrays_few p.part.decls (instance_decls_fit source sound i p e))

-- an array has at least one word
decl_at_fits : (ds : List PlainDecl) → list_all decl_fits ds ≡ true → (k : ℕ) (n : List ℕ) (w size : ℕ) → slice_get ds k ≡ Some (ArrayOf n w size) → 0 < size
decl_at_fits [] all k n w size e = absurd (cc)
decl_at_fits (d ∷ ds) all zero n w size e =
    let same : d ≡ ArrayOf n w size = cc in
    let fits : decl_fits (ArrayOf n w size) ≡ true = ap decl_fits (sym same) ∙ (and_parts (decl_fits d) (list_all decl_fits ds) all).0 in
    ltb-true 0 size (and_parts (is_name n && nat_lt 0 w) (nat_lt 0 size) fits).1
decl_at_fits (d ∷ ds) all (suc k) n w size e = decl_at_fits ds (and_parts (decl_fits d) (list_all decl_fits ds) all).1 k n w size e

word_within : (ds : List PlainDecl) (k : ℕ) (n : List ℕ) (w size : ℕ) → slice_get ds k ≡ Some (ArrayOf n w size) → size ≤ declared_words ds
word_within [] k n w size e = absurd (cc)
word_within (WireOf m v ∷ ds) zero n w size e = absurd (cc)
word_within (RegisterOf m v ∷ ds) zero n w size e = absurd (cc)
word_within (ArrayOf m v long ∷ ds) zero n w size e = let same : long ≡ size = cc in omega arith
word_within (WireOf m v ∷ ds) (suc k) n w size e = word_within ds k n w size e
word_within (RegisterOf m v ∷ ds) (suc k) n w size e = word_within ds k n w size e
word_within (ArrayOf m v long ∷ ds) (suc k) n w size e = let later = word_within ds k n w size e in omega arith

words_within : (tree : List Placed) (i : ℕ) (p : Placed) → slice_get tree i ≡ Some p → declared_words p.part.decls ≤ words_count tree
words_within [] i p e = absurd (cc)
words_within (q ∷ tree) zero p e = let same : declared_words q.part.decls ≡ declared_words p.part.decls = ap (λ (y : Placed). declared_words y.part.decls) (some_is q p e) in omega arith
  where
    some_is : (a b : Placed) → ◌≡◌ {A = Option Placed} (Some a) (Some b) → a ≡ b
    some_is a b h = cc
words_within (q ∷ tree) (suc i) p e = let later = words_within tree i p e in omega arith

pub array_words : (source : PlainSource) → is_sound source ≡ true → (i k : ℕ) (n : List ℕ) (w size : ℕ) → slice_get (decls_at (instances_of source) i) k ≡ Some (ArrayOf n w size) → (0 < size) × (size ≤ 4194304)
array_words source sound i k n w size there = go (slice_get (instances_of source) i) refl there where
  go : (o : Option Placed) → slice_get (instances_of source) i ≡ o → slice_get (option_map_or (λ p. p.part.decls) o []) k ≡ Some (ArrayOf n w size) → (0 < size) × (size ≤ 4194304)
  go None e h = absurd (cc)
  go (Some p) e h =
      let few = word_within p.part.decls k n w size h in
      let all = words_within (instances_of source) i p e in
      let most = (counts_bounded source sound).2 in
      let bounded : size ≤ 4194304 = omega arith in
      (decl_at_fits p.part.decls (instance_decls_fit source sound i p e) k n w size h, bounded)
