-- The counts of a module are those of the tree of its instances, up to the number where they stop.
use Rattle.std.proofs.Common.{◌≡◌, ℕ, zero, suc, ◌+◌, ◌-◌, ◌^◌, ◌<◌, ◌≤◌, min, List, [], ◌∷◌, ◌++◌, Bool, true, false, map, length, reverse, Some, slice_get, refl, ap, sym, ◌∙◌, subst, if◌then◌else◌, arith, length-append}
use Rattle.std.specs.Prelude.{nat_lt}
use Rattle.std.proofs.lemmas.Bool.{or_parts, ltb-false, cond-true, cond-false}
use Rattle.std.proofs.lemmas.List.{length-reverse}
use Rattle.cx_vtree.specs.Plain.{PlainDecl, WireOf, RegisterOf, ArrayOf, PlainInstance, PlainModule, PlainSource}
use Rattle.cx_vtree.specs.InstanceTree.{same_name, Placed, declared_nets, below, tree_from, main_instance, instances_of}
use Rattle.cx_vtree.specs.Sound.{Faults, Counts, sum_counts, no_counts, decl_counts, decls_counts, counts_named, instances_counts, module_counts, has_name, module_named, is_sound}
use Rattle.cx_vlaws.specs.Counts.{declared_words, nets_count, words_count}
use Rattle.cx_vlaws.proofs.Modules.{AllKeep, seen_counts, new_name, named-reversed, reverse-cons}
use Rattle.cx_vlaws.proofs.Trees.{placed}
use Rattle.cx_vlaws.proofs.Forest.{parts_known, by_first}
use Rattle.cx_vlaws.proofs.Mains.{IsMain, main_at, main_name}
use Rattle.cx_vtree.proofs.InstanceTreeLemmas.{same_is}
use Rattle.cx_text.proofs.BoolLaws.{none_goes_on}

abbrev cap : ℕ
cap = 2 ^ 64 - 1

-- the counts are these, up to the cap
pub record Caps (c : Counts) (nets instances words : ℕ) : Type 0 where
  pub nets_are : min c.nets cap ≡ min nets cap
  pub instances_are : min c.instances cap ≡ min instances cap
  pub words_are : min c.words cap ≡ min words cap

min-sum : (a b m n top : ℕ) → min a top ≡ min m top → min b top ≡ min n top → min (min (a + b) top) top ≡ min (m + n) top
min-sum a b m n top e f = omega arith

caps_sum : (a b : Counts) (n i w n' i' w' : ℕ) → Caps a n i w → Caps b n' i' w' → Caps (sum_counts a b) (n + n') (i + i') (w + w')
caps_sum a b n i w n' i' w' x y = record {
  nets_are = min-sum a.nets b.nets n n' cap x.nets_are y.nets_are;
  instances_are = min-sum a.instances b.instances i i' cap x.instances_are y.instances_are;
  words_are = min-sum a.words b.words w w' cap x.words_are y.words_are;
}

caps_same : (c : Counts) (n i w n' i' w' : ℕ) → n ≡ n' → i ≡ i' → w ≡ w' → Caps c n i w → Caps c n' i' w'
caps_same c n i w n' i' w' e f g x = subst (λ a. Caps c a i' w') e (subst (λ a. Caps c n a w') f (subst (λ a. Caps c n i a) g x))

caps_self : (n i w : ℕ) → Caps (record { nets = n; instances = i; words = w }) n i w
caps_self n i w = record { nets_are = refl; instances_are = refl; words_are = refl }

caps_decls : (sum : Counts) (ds : List PlainDecl) (n i w : ℕ) → Caps sum n i w → Caps (decls_counts sum ds) (n + length (declared_nets ds)) i (w + declared_words ds)
caps_decls sum [] n i w x = let e : n ≡ n + 0 = omega arith in let g : w ≡ w + 0 = omega arith in caps_same sum n i w (n + 0) i (w + 0) e refl g x
caps_decls sum (WireOf name v ∷ ds) n i w x =
    let e : n + 1 + length (declared_nets ds) ≡ n + length (name ∷ declared_nets ds) = omega arith in
    let f : i + 0 ≡ i = omega arith in
    let g : w + 0 + declared_words ds ≡ w + declared_words ds = omega arith in
    caps_same _ (n + 1 + length (declared_nets ds)) (i + 0) (w + 0 + declared_words ds) (n + length (name ∷ declared_nets ds)) i (w + declared_words ds) e f g
    (caps_decls (sum_counts sum (decl_counts (WireOf name v))) ds (n + 1) (i + 0) (w + 0) (caps_sum sum (decl_counts (WireOf name v)) n i w 1 0 0 x (caps_self 1 0 0)))
caps_decls sum (RegisterOf name v ∷ ds) n i w x =
    let e : n + 1 + length (declared_nets ds) ≡ n + length (name ∷ declared_nets ds) = omega arith in
    let f : i + 0 ≡ i = omega arith in
    let g : w + 0 + declared_words ds ≡ w + declared_words ds = omega arith in
    caps_same _ (n + 1 + length (declared_nets ds)) (i + 0) (w + 0 + declared_words ds) (n + length (name ∷ declared_nets ds)) i (w + declared_words ds) e f g
    (caps_decls (sum_counts sum (decl_counts (RegisterOf name v))) ds (n + 1) (i + 0) (w + 0) (caps_sum sum (decl_counts (RegisterOf name v)) n i w 1 0 0 x (caps_self 1 0 0)))
caps_decls sum (ArrayOf name v k ∷ ds) n i w x =
    let e : n + 0 + length (declared_nets ds) ≡ n + length (declared_nets ds) = omega arith in
    let f : i + 0 ≡ i = omega arith in
    let g : w + k + declared_words ds ≡ w + (k + declared_words ds) = omega arith in
    caps_same _ (n + 0 + length (declared_nets ds)) (i + 0) (w + k + declared_words ds) (n + length (declared_nets ds)) i (w + (k + declared_words ds)) e f g
    (caps_decls (sum_counts sum (decl_counts (ArrayOf name v k))) ds (n + 0) (i + 0) (w + k) (caps_sum sum (decl_counts (ArrayOf name v k)) n i w 0 0 k x (caps_self 0 0 k)))

nets_count-append : (xs ys : List Placed) → nets_count (xs ++ ys) ≡ nets_count xs + nets_count ys
nets_count-append [] ys = omega arith
nets_count-append (x ∷ xs) ys = let e = nets_count-append xs ys in omega arith

words_count-append : (xs ys : List Placed) → words_count (xs ++ ys) ≡ words_count xs + words_count ys
words_count-append [] ys = omega arith
words_count-append (x ∷ xs) ys = let e = words_count-append xs ys in omega arith

-- the counts are those of the instances
abbrev pub CapsOf : Counts → List Placed → Type 0
CapsOf c tree = Caps c (nets_count tree) (length tree) (words_count tree)

caps_instances : (before : List PlainModule) (counts : List Counts) (tree : PlainInstance → ℕ → ℕ → List Placed) (holder next : ℕ) (sum : Counts) (xs : List PlainInstance) (n i w : ℕ)
    → ((s : ℕ) (y : PlainInstance) → slice_get xs s ≡ Some y → (h k : ℕ) → CapsOf (counts_named before counts y.kind) (tree y h k)) → Caps sum n i w
    → Caps (instances_counts before counts sum xs) (n + nets_count (below tree holder next xs)) (i + length (below tree holder next xs)) (w + words_count (below tree holder next xs))
caps_instances before counts tree holder next sum [] n i w each x =
    let e : n ≡ n + 0 = omega arith in let f : i ≡ i + 0 = omega arith in let g : w ≡ w + 0 = omega arith in caps_same sum n i w (n + 0) (i + 0) (w + 0) e f g x
caps_instances before counts tree holder next sum (y ∷ xs) n i w each x =
    let t : List Placed = tree y holder next in
    let rest : List Placed = below tree holder (next + length t) xs in
    let here : Counts = counts_named before counts y.kind in
    let e : n + nets_count t + nets_count rest ≡ n + nets_count (t ++ rest) = omega (arith, nets_count-append t rest) in
    let f : i + length t + length rest ≡ i + length (t ++ rest) = omega (arith, length-append t rest) in
    let g : w + words_count t + words_count rest ≡ w + words_count (t ++ rest) = omega (arith, words_count-append t rest) in
    caps_same (instances_counts before counts (sum_counts sum here) xs) (n + nets_count t + nets_count rest) (i + length t + length rest) (w + words_count t + words_count rest)
    (n + nets_count (t ++ rest)) (i + length (t ++ rest)) (w + words_count (t ++ rest)) e f g
    (caps_instances before counts tree holder (next + length t) (sum_counts sum here) xs (n + nets_count t) (i + length t) (w + words_count t) (λ s z at. each (suc s) z at)
    (caps_sum sum here n i w (nets_count t) (length t) (words_count t) x (each zero y refl holder next)))

-- the counts of the modules that are found among those before
abbrev AllCounted : List PlainModule → Type 0
AllCounted ms = (y : PlainInstance) (part : PlainModule) → module_named ms y.kind ≡ Some part → (h k : ℕ) → CapsOf (counts_named (reverse ms) (seen_counts ms) y.kind) (tree_from ms y h k)

caps_module : (is_main : Bool) (m : PlainModule) (ms : List PlainModule) → AllKeep is_main (m ∷ ms) → AllCounted ms → (x : PlainInstance) (h n : ℕ)
    → CapsOf (module_counts (reverse ms) (seen_counts ms) m) (placed x h m ∷ below (tree_from ms) n (n + 1) m.instances)
caps_module is_main m ms k all x h n =
    let rest : List Placed = below (tree_from ms) n (n + 1) m.instances in
    let start : Counts = record { nets = length m.ports; instances = 1; words = 0 } in
    let declared = caps_decls start m.decls (length m.ports) 1 0 (caps_self (length m.ports) 1 0) in
    let f : 1 + length rest ≡ length (placed x h m ∷ rest) = omega arith in
    let g : 0 + declared_words m.decls + words_count rest ≡ declared_words m.decls + words_count rest = omega arith in
    caps_same (module_counts (reverse ms) (seen_counts ms) m) (length m.ports + length (declared_nets m.decls) + nets_count rest) (1 + length rest) (0 + declared_words m.decls + words_count rest)
    (length m.ports + length (declared_nets m.decls) + nets_count rest) (length (placed x h m ∷ rest)) (declared_words m.decls + words_count rest) refl f g
    (caps_instances (reverse ms) (seen_counts ms) (tree_from ms) n (n + 1) (decls_counts start m.decls) m.instances (length m.ports + length (declared_nets m.decls)) 1 (0 + declared_words m.decls)
    (λ s y at.
    let w = parts_known is_main (reverse ms) _ m k.0 s y at in
    all y w.part (sym (named-reversed false ms y.kind k.1) ∙ w.known))
    declared)

counts-other : (xs : List PlainModule) (cs : List Counts) (m : PlainModule) (c : Counts) (kind : List ℕ) → length cs ≡ length xs → same_name m.name kind ≡ false → counts_named (xs ++ m ∷ []) (cs ++ c ∷ []) kind ≡ counts_named xs cs kind
counts-other [] [] m c kind e differs = cond-false (same_name m.name kind) c no_counts differs
counts-other [] (d ∷ cs) m c kind e differs = absurd (omega arith)
counts-other (x ∷ xs) [] m c kind e differs = absurd (omega arith)
counts-other (x ∷ xs) (d ∷ cs) m c kind e differs = let same : length cs ≡ length xs = omega arith in ap (λ o. if same_name x.name kind then d else o) (counts-other xs cs m c kind same differs)

counts-new : (xs : List PlainModule) (cs : List Counts) (m : PlainModule) (c : Counts) (kind : List ℕ) → length cs ≡ length xs → same_name m.name kind ≡ true → has_name (map (λ x. x.name) xs) kind ≡ false
    → counts_named (xs ++ m ∷ []) (cs ++ c ∷ []) kind ≡ c
counts-new [] [] m c kind e same other = cond-true (same_name m.name kind) c no_counts same
counts-new [] (d ∷ cs) m c kind e same other = absurd (omega arith)
counts-new (x ∷ xs) [] m c kind e same other = absurd (omega arith)
counts-new (x ∷ xs) (d ∷ cs) m c kind e same other =
    let ends = or_parts (same_name x.name kind) (has_name (map (λ y. y.name) xs) kind) other in
    let long : length cs ≡ length xs = omega arith in
    cond-false (same_name x.name kind) d (counts_named (xs ++ m ∷ []) (cs ++ c ∷ []) kind) ends.0 ∙ counts-new xs cs m c kind long same ends.1

seen-length : (ms : List PlainModule) → length (seen_counts ms) ≡ length ms
seen-length [] = refl
seen-length (m ∷ ms) =
    let own : Counts = module_counts (reverse ms) (seen_counts ms) m in
    let e = seen-length ms in
    let f = length-append (seen_counts ms) (own ∷ []) in
    omega arith

seen_long : (ms : List PlainModule) → length (seen_counts ms) ≡ length (reverse ms)
seen_long ms = seen-length ms ∙ sym (length-reverse ms)

all_counted : (is_main : Bool) (ms : List PlainModule) → AllKeep is_main ms → AllCounted ms
all_counted is_main [] k y part found h n = absurd (cc)
all_counted is_main (m ∷ ms) k y part found h n =
    let own : Counts = module_counts (reverse ms) (seen_counts ms) m in
    let earlier : AllCounted ms = all_counted false ms k.1 in
    let pushed : counts_named (reverse (m ∷ ms)) (seen_counts ms ++ own ∷ []) y.kind ≡ counts_named (reverse ms ++ m ∷ []) (seen_counts ms ++ own ∷ []) y.kind =
    ap (λ l. counts_named l (seen_counts ms ++ own ∷ []) y.kind) (reverse-cons m ms) in
    by_first m part ms y.kind found
    (λ is same.
    let other = subst (λ name. has_name (map (λ x. x.name) (reverse ms)) name ≡ false) (same_is m.name y.kind is) (new_name is_main (reverse ms) own m k.0) in
    let counts = pushed ∙ counts-new (reverse ms) (seen_counts ms) m own y.kind (seen_long ms) is other in
    let tree = cond-true (same_name m.name y.kind) (placed y h m ∷ below (tree_from ms) n (n + 1) m.instances) (tree_from ms y h n) is in
    subst (λ c. CapsOf c (tree_from (m ∷ ms) y h n)) (sym counts) (subst (CapsOf own) (sym tree) (caps_module is_main m ms k earlier y h n)))
    (λ is there.
    let counts = pushed ∙ counts-other (reverse ms) (seen_counts ms) m own y.kind (seen_long ms) is in
    let tree = cond-false (same_name m.name y.kind) (placed y h m ∷ below (tree_from ms) n (n + 1) m.instances) (tree_from ms y h n) is in
    subst (λ c. CapsOf c (tree_from (m ∷ ms) y h n)) (sym counts)
    (subst (CapsOf (counts_named (reverse ms) (seen_counts ms) y.kind)) (sym tree) (earlier y part there h n)))

at_most : (c n top most : ℕ) → min c top ≡ min n top → c ≤ most → most < top → n ≤ most
at_most c n top most e few room = omega arith

pub counts_bounded : (source : PlainSource) → is_sound source ≡ true → (nets_count (instances_of source) ≤ 4194304) × (length (instances_of source) ≤ 131072) × (words_count (instances_of source) ≤ 4194304)
counts_bounded source sound = go (main_at source sound) where
  go : IsMain source → (nets_count (instances_of source) ≤ 4194304) × (length (instances_of source) ≤ 131072) × (words_count (instances_of source) ≤ 4194304)
  go r =
      let own : Counts = module_counts (reverse r.before) (seen_counts r.before) r.m in
      let all : AllKeep true (r.m ∷ r.before) = (r.kept, r.earlier) in
      let unfolded : instances_of source ≡ placed main_instance 0 r.m ∷ below (tree_from r.before) 0 (0 + 1) r.m.instances =
      ap (λ l. tree_from l main_instance 0 0) r.are
      ∙ cond-true (same_name r.m.name main_instance.kind) (placed main_instance 0 r.m ∷ below (tree_from r.before) 0 (0 + 1) r.m.instances) (tree_from r.before main_instance 0 0) (main_name source r) in
      let caps : CapsOf own (instances_of source) = subst (CapsOf own) (sym unfolded) (caps_module true r.m r.before all (all_counted false r.before r.earlier) main_instance 0 0) in
      let few = none_goes_on (nat_lt 4194304 own.nets) (nat_lt 131072 own.instances) (nat_lt 4194304 own.words) (ap (λ (f : Faults). f.limit) r.kept.head) in
      let nets_room : 4194304 < cap = omega arith in
      let instances_room : 131072 < cap = omega arith in (
        at_most own.nets (nets_count (instances_of source)) cap 4194304 caps.nets_are (ltb-false 4194304 own.nets few.0) nets_room,
        at_most own.instances (length (instances_of source)) cap 131072 caps.instances_are (ltb-false 131072 own.instances few.1) instances_room,
        at_most own.words (words_count (instances_of source)) cap 4194304 caps.words_are (ltb-false 4194304 own.words few.2) nets_room,
      )
