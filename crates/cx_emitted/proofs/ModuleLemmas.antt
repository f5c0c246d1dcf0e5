-- What holds of each module of a source holds of the module of each instance.
use Rattle.std.proofs.Common.{◌≡◌, ℕ, ◌+◌, List, [], ◌∷◌, Bool, true, false, length, reverse, Some, slice_get, sym, subst, if◌then◌else◌}
use Rattle.std.specs.Prelude.{All}
use Rattle.std.proofs.lemmas.List.Elements.{All-nil, All-cons, All-append, All-head, All-tail}
use Rattle.std.proofs.lemmas.Option.{slice_get_within, get_or_from_slice_get}
use Rattle.cx_vtree.specs.Plain.{PlainInstance, PlainModule, PlainSource}
use Rattle.cx_vtree.specs.InstanceTree.{Placed, same_name, below, tree_from, main_instance, instances_of}
use Rattle.cx_vlaws.proofs.Modules.{reverse-cons}

all_reverse : {A : Type 0} (P : A → Type 0) (xs : List A) → All P xs → All P (reverse xs)
all_reverse P [] all = all
all_reverse P (x ∷ xs) all =
    subst (All P) (sym (reverse-cons x xs)) (All-append P (reverse xs) (x ∷ []) (all_reverse P xs (All-tail P x xs all)) (All-cons P x [] (All-head P x xs all) (All-nil P)))

module _ (P : PlainModule → Type 0) where
  abbrev OfPart : Placed → Type 0
  OfPart p = P p.part

  below_all : (tree : PlainInstance → ℕ → ℕ → List Placed) → ((x : PlainInstance) (holder n : ℕ) → All OfPart (tree x holder n)) → (holder n : ℕ) (xs : List PlainInstance) → All OfPart (below tree holder n xs)
  below_all tree all holder n [] = All-nil OfPart
  below_all tree all holder n (x ∷ xs) =
      All-append OfPart (tree x holder n) (below tree holder (n + length (tree x holder n)) xs) (all x holder n) (below_all tree all holder (n + length (tree x holder n)) xs)

  tree_all : (ms : List PlainModule) → All P ms → (x : PlainInstance) (holder n : ℕ) → All OfPart (tree_from ms x holder n)
  tree_all [] all x holder n = All-nil OfPart
  tree_all (m ∷ ms) all x holder n = go (same_name m.name x.kind) (tree_all ms (All-tail P m ms all)) where
    go : (same : Bool) → ((y : PlainInstance) (h k : ℕ) → All OfPart (tree_from ms y h k))
        → All OfPart (if same then record { part = m; name = x.name; holder = holder; conns = x.conns } ∷ below (tree_from ms) n (n + 1) m.instances else tree_from ms x holder n)
    go true later = All-cons OfPart _ _ (All-head P m ms all) (below_all (tree_from ms) later n (n + 1) m.instances)
    go false later = later x holder n

  pub part_keeps : (source : PlainSource) → All P source.modules → (i : ℕ) (p : Placed) → slice_get (instances_of source) i ≡ Some p → P p.part
  part_keeps source all i p there =
      subst OfPart (get_or_from_slice_get (instances_of source) i p p there)
      (tree_all (reverse source.modules) (all_reverse P source.modules all) main_instance 0 0 i p (slice_get_within (instances_of source) i p there))
