-- What an edge sets and stores.
use Rattle.std.proofs.Common.{◌≡◌, ℕ, zero, suc, ◌==◌, List, [], ◌∷◌, ◌++◌, Bool, true, false, ◌||◌, not, map, Option, Some, None, is_none, slice_get, option_and_then, refl, ap, subst, if◌then◌else◌}
use Rattle.std.specs.Option.{option_map_or}
use Rattle.std.proofs.lemmas.Bool.{or_parts, not-false}
use Rattle.cx_vtree.specs.declared.meanings.Meaning.{Meaning}
use Rattle.cx_vtree.specs.declared.meanings.Meaning.TheVariants as meant
use Rattle.cx_vtree.specs.Plain.{PlainAssign, PlainStore, PlainItem, SetTo, StoreTo, PlainEdge, PlainSource}
use Rattle.cx_vtree.specs.InstanceTree.{Placed, instances_of}
use Rattle.cx_vtree.specs.Edges.{sets_in, stores_in, edge_at, acting_sets, acting_stores}
use Rattle.cx_vtree.specs.Sound.{Faults, no_faults, Scope, has_name, width_of, is_register, is_array, misnames, fitting_width, has_width, too_deep, meant_in, set_faults, sets_faults, store_faults, item_faults, item_name, items_faults, edge_faults, is_sound}
use Rattle.cx_vlaws.specs.Names.{AreApart}
use Rattle.cx_vlaws.specs.Widths.{scope_at}
use Rattle.cx_vlaws.specs.Edges.{IsSet, IsStore}
use Rattle.cx_vlaws.proofs.Cleans.{Clean, clean_left, clean_right}
use Rattle.cx_vlaws.proofs.Fresh.{Fresh, fresh_apart, Within, within_out, within_next, within_more}
use Rattle.cx_vlaws.proofs.Parts.{expression, set_keeps}
use Rattle.cx_vlaws.proofs.Forest.{instance_keeps}
use Rattle.cx_text.proofs.BoolLaws.{none_goes_on}

register_is : (m : Meaning) → is_register m ≡ true → m ≡ meant.Register (width_of m)
register_is (meant.Input w) e = absurd (cc)
register_is (meant.Output w) e = absurd (cc)
register_is (meant.Wire w) e = absurd (cc)
register_is (meant.Register w) e = refl
register_is (meant.Array w) e = absurd (cc)
register_is meant.Nothing e = absurd (cc)

array_is : (m : Meaning) → is_array m ≡ true → m ≡ meant.Array (width_of m)
array_is (meant.Input w) e = absurd (cc)
array_is (meant.Output w) e = absurd (cc)
array_is (meant.Wire w) e = absurd (cc)
array_is (meant.Register w) e = absurd (cc)
array_is (meant.Array w) e = refl
array_is meant.Nothing e = absurd (cc)

some_width : (o : Option ℕ) → is_none o ≡ false → (w : ℕ) × (o ≡ Some w)
some_width None e = absurd (cc)
some_width (Some w) e = (w, refl)

is_set : (scope : Scope) (earlier : List (List ℕ)) (a : PlainAssign) → set_faults scope earlier a ≡ no_faults → IsSet scope a
is_set scope earlier a e = let k = set_keeps scope earlier a e in record { register = register_is (scope a.name) k.0; value = k.2 }

is_store : (scope : Scope) (earlier : List (List ℕ)) (s : PlainStore) → store_faults scope earlier s ≡ no_faults → IsStore scope s
is_store scope earlier s e =
    let name : (not (is_array (scope s.array)) || has_name earlier s.array || misnames scope s.guard || misnames scope s.index || misnames scope s.value) ≡ false = ap (λ (f : Faults). f.name) e in
    let outer = or_parts (not (is_array (scope s.array)) || has_name earlier s.array || misnames scope s.guard || misnames scope s.index) (misnames scope s.value) name in
    let middle = or_parts (not (is_array (scope s.array)) || has_name earlier s.array || misnames scope s.guard) (misnames scope s.index) outer.0 in
    let inner = none_goes_on (not (is_array (scope s.array))) (has_name earlier s.array) (misnames scope s.guard) middle.0 in
    let widths = none_goes_on (not (has_width scope s.guard 1)) (is_none (fitting_width scope s.index)) (not (has_width scope s.value (width_of (scope s.array)))) (ap (λ (f : Faults). f.width) e) in
    let depths = none_goes_on (too_deep s.guard) (too_deep s.index) (too_deep s.value) (ap (λ (f : Faults). f.limit) e) in
    let index = some_width (fitting_width scope s.index) widths.1 in
    record {
      array = array_is (scope s.array) (not-false (is_array (scope s.array)) inner.0);
      guard = expression scope s.guard 1 inner.2 widths.0 depths.0;
      index_width = index.0;
      index = record { named = middle.1; width = index.1; shallow = depths.1 };
      value = expression scope s.value (width_of (scope s.array)) outer.1 widths.2 depths.2;
    }

-- all of a list
abbrev pub AllSets : Scope → List PlainAssign → Type 0
AllSets scope xs = (k : ℕ) (a : PlainAssign) → slice_get xs k ≡ Some a → IsSet scope a

abbrev pub AllStores : Scope → List PlainStore → Type 0
AllStores scope xs = (k : ℕ) (s : PlainStore) → slice_get xs k ≡ Some s → IsStore scope s

sets_keep : (scope : Scope) (earlier : List (List ℕ)) (xs : List PlainAssign) → Clean (sets_faults scope earlier xs) → AllSets scope xs
sets_keep scope earlier [] c k a e = absurd (cc)
sets_keep scope earlier (x ∷ xs) c zero a e = let same : x ≡ a = cc in subst (IsSet scope) same (is_set scope earlier x c.0)
sets_keep scope earlier (x ∷ xs) c (suc k) a e = sets_keep scope (earlier ++ x.name ∷ []) xs c.1 k a e

sets_fresh : (scope : Scope) (earlier : List (List ℕ)) (xs : List PlainAssign) → Clean (sets_faults scope earlier xs) → Fresh earlier (map (λ a. a.name) xs)
sets_fresh scope earlier [] c = tt
sets_fresh scope earlier (x ∷ xs) c = ((set_keeps scope earlier x c.0).1, sets_fresh scope (earlier ++ x.name ∷ []) xs c.1)

item_fresh : (scope : Scope) (earlier : List (List ℕ)) (x : PlainItem) → item_faults scope earlier x ≡ no_faults → has_name earlier (item_name x) ≡ false
item_fresh scope earlier (SetTo a) e = (set_keeps scope earlier a e).1
item_fresh scope earlier (StoreTo s) e =
    let name : (not (is_array (scope s.array)) || has_name earlier s.array || misnames scope s.guard || misnames scope s.index || misnames scope s.value) ≡ false = ap (λ (f : Faults). f.name) e in
    let outer = or_parts (not (is_array (scope s.array)) || has_name earlier s.array || misnames scope s.guard || misnames scope s.index) (misnames scope s.value) name in
    let middle = or_parts (not (is_array (scope s.array)) || has_name earlier s.array || misnames scope s.guard) (misnames scope s.index) outer.0 in
    (none_goes_on (not (is_array (scope s.array))) (has_name earlier s.array) (misnames scope s.guard) middle.0).1

items_fresh : (scope : Scope) (earlier : List (List ℕ)) (xs : List PlainItem) → Clean (items_faults scope earlier xs) → Fresh earlier (map item_name xs)
items_fresh scope earlier [] c = tt
items_fresh scope earlier (x ∷ xs) c = (item_fresh scope earlier x c.0, items_fresh scope (earlier ++ item_name x ∷ []) xs c.1)

items_sets : (scope : Scope) (earlier : List (List ℕ)) (xs : List PlainItem) → Clean (items_faults scope earlier xs) → AllSets scope (sets_in xs)
items_sets scope earlier [] c k a e = absurd (cc)
items_sets scope earlier (SetTo x ∷ xs) c zero a e = let same : x ≡ a = cc in subst (IsSet scope) same (is_set scope earlier x c.0)
items_sets scope earlier (SetTo x ∷ xs) c (suc k) a e = items_sets scope (earlier ++ x.name ∷ []) xs c.1 k a e
items_sets scope earlier (StoreTo s ∷ xs) c k a e = items_sets scope (earlier ++ s.array ∷ []) xs c.1 k a e

items_stores : (scope : Scope) (earlier : List (List ℕ)) (xs : List PlainItem) → Clean (items_faults scope earlier xs) → AllStores scope (stores_in xs)
items_stores scope earlier [] c k s e = absurd (cc)
items_stores scope earlier (SetTo x ∷ xs) c k s e = items_stores scope (earlier ++ x.name ∷ []) xs c.1 k s e
items_stores scope earlier (StoreTo x ∷ xs) c zero s e = let same : x ≡ s = cc in subst (IsStore scope) same (is_store scope earlier x c.0)
items_stores scope earlier (StoreTo x ∷ xs) c (suc k) s e = items_stores scope (earlier ++ x.array ∷ []) xs c.1 k s e

sets-fresh : (less more : List (List ℕ)) (xs : List PlainItem) → Within less more → Fresh more (map item_name xs) → Fresh less (map (λ a. a.name) (sets_in xs))
sets-fresh less more [] w f = tt
sets-fresh less more (SetTo x ∷ xs) w f = (within_out less more x.name w f.0, sets-fresh (less ++ x.name ∷ []) (more ++ x.name ∷ []) xs (within_next less more x.name w) f.1)
sets-fresh less more (StoreTo s ∷ xs) w f = sets-fresh less (more ++ s.array ∷ []) xs (within_more less more s.array w) f.1

stores-fresh : (less more : List (List ℕ)) (xs : List PlainItem) → Within less more → Fresh more (map item_name xs) → Fresh less (map (λ s. s.array) (stores_in xs))
stores-fresh less more [] w f = tt
stores-fresh less more (SetTo x ∷ xs) w f = stores-fresh less (more ++ x.name ∷ []) xs (within_more less more x.name w) f.1
stores-fresh less more (StoreTo s ∷ xs) w f = (within_out less more s.array w f.0, stores-fresh (less ++ s.array ∷ []) (more ++ s.array ∷ []) xs (within_next less more s.array w) f.1)

-- what a branch keeps
pub record BranchKeeps (scope : Scope) (sets : List PlainAssign) (stores : List PlainStore) : Type 0 where
  pub sets_are : AllSets scope sets
  pub sets_once : AreApart (map (λ a. a.name) sets)
  pub stores_are : AllStores scope stores
  pub stores_once : AreApart (map (λ s. s.array) stores)

edge_keeps : (scope : Scope) (edge : Option PlainEdge) (reset : ℕ) → Clean (edge_faults scope edge) → BranchKeeps scope (acting_sets reset edge) (acting_stores reset edge)
edge_keeps scope None reset c = record { sets_are = λ k a e. absurd (cc); sets_once = λ j k n e f. absurd (cc); stores_are = λ k s e. absurd (cc); stores_once = λ j k n e f. absurd (cc) }
edge_keeps scope (Some edge) reset c = go (reset == 1) where
  sets : List Faults
  sets = sets_faults scope [] edge.reset

  items : List Faults
  items = items_faults scope [] edge.step

  both : Clean (no_faults ∷ no_faults ∷ sets ++ no_faults ∷ items)
  both = clean_left (no_faults ∷ no_faults ∷ sets ++ no_faults ∷ items) (no_faults ∷ no_faults ∷ []) c

  sets_clean : Clean sets
  sets_clean = (clean_left (no_faults ∷ no_faults ∷ sets) (no_faults ∷ items) both).1.1

  items_clean : Clean items
  items_clean = (clean_right (no_faults ∷ no_faults ∷ sets) (no_faults ∷ items) both).1

  fresh : Fresh [] (map item_name edge.step)
  fresh = items_fresh scope [] edge.step items_clean

  go : (is_reset : Bool) → BranchKeeps scope (if is_reset then edge.reset else sets_in edge.step) (if is_reset then [] else stores_in edge.step)
  go true = record {
    sets_are = sets_keep scope [] edge.reset sets_clean;
    sets_once = fresh_apart [] (map (λ a. a.name) edge.reset) (sets_fresh scope [] edge.reset sets_clean);
    stores_are = λ k s e. absurd (cc);
    stores_once = λ j k n e f. absurd (cc);
  }
  go false = record {
    sets_are = items_sets scope [] edge.step items_clean;
    sets_once = fresh_apart [] (map (λ a. a.name) (sets_in edge.step)) (sets-fresh [] [] edge.step (λ n h. h) fresh);
    stores_are = items_stores scope [] edge.step items_clean;
    stores_once = fresh_apart [] (map (λ s. s.array) (stores_in edge.step)) (stores-fresh [] [] edge.step (λ n h. h) fresh);
  }

pub edge_at_keeps : (source : PlainSource) → is_sound source ≡ true → (i reset : ℕ) → BranchKeeps (scope_at (instances_of source) i) (acting_sets reset (edge_at (instances_of source) i)) (acting_stores reset (edge_at (instances_of source) i))
edge_at_keeps source sound i reset = go (slice_get (instances_of source) i) refl where
  go : (o : Option Placed) → slice_get (instances_of source) i ≡ o
      → BranchKeeps (meant_in (option_map_or (λ p. p.part.ports) o []) (option_map_or (λ p. p.part.decls) o [])) (acting_sets reset (option_and_then (λ p. p.part.edge) o)) (acting_stores reset (option_and_then (λ p. p.part.edge) o))
  go None e = edge_keeps (meant_in [] []) None reset tt
  go (Some p) e = let a = instance_keeps source sound i p e in edge_keeps (meant_in p.part.ports p.part.decls) p.part.edge reset a.kept.edge
