-- One instance more.
use Rattle.std.proofs.Common.{◌≡◌, ℕ, zero, suc, ◌+◌, ◌<◌, ◌≤◌, ⊎_elim, Bool, true, false, List, [], ◌∷◌, ◌++◌, map, length, Option, Some, None, option_map, option_and_then, slice_get, refl, ap, sym, ◌∙◌, subst, arith}
use Rattle.std.specs.Prelude.{replicate}
use Rattle.std.specs.Option.{option_map_or}
use Rattle.std.proofs.lemmas.Bool.{cases_lt}
use Rattle.std.proofs.lemmas.Bool.Decides.{eqb_tells}
use Rattle.std.proofs.lemmas.Option.{slice_get_within, slice_get_past}
use Rattle.cx_vtree.specs.Plain.{PlainExpr, PlainAssign, PlainStore, PlainItem, SetTo, StoreTo}
use Rattle.cx_vtree.specs.InstanceTree.{Placed, declared_nets, nets_at, Origin, Outside, Tied, Held, Given, origin_of, declared_arrays, arrays_at}
use Rattle.cx_vtree.specs.Edges.{sets_in, stores_in, edge_at, acting_sets, acting_stores}
use Rattle.cx_vnets.specs.declared.codes.Code.{Code}
use Rattle.cx_vnets.specs.declared.nets.Driver.{Driver}
use Rattle.cx_vnets.specs.declared.nets.Driver.TheVariants as driver
use Rattle.cx_vnets.specs.declared.edges.Set.{Set}
use Rattle.cx_vnets.specs.declared.stores.Store.{Store}
use Rattle.cx_vtree.specs.NameNumbers.{position}
use Rattle.cx_vnets.specs.Numbers.{before, nets_before, arrays_before, place_of}
use Rattle.cx_vnets.specs.Flat.{CodeStands, DriverStands}
use Rattle.cx_vnets.specs.EdgesFlat.{SetStands, StoreStands, SetsStand, StoresStand}
use Rattle.cx_velab.specs.Added.{Paired, Adds}
use Rattle.cx_velab.specs.Coded.{values_of, items_exprs}
use Rattle.cx_velab.specs.Changes.{numbered, numbered_sets, numbered_stores, IsSet, IsStore}
use Rattle.cx_velab.specs.Driven.{KeepsRight, IsWhole, IsTied}
use Rattle.cx_velab.specs.Covered.{IsTidy, IsStored, IsDriven}
use Rattle.cx_vsim.specs.Passes.{RowTied, RowGiven, DrivenBelow, StandBelow}
use Rattle.cx_text.proofs.ListLaws.{behind, front}

-- what stands in one of two lists
two_parts : {A : Type 0} (xs ys : List A) (h : ℕ) (x : A) (P : Type 0) → slice_get (xs ++ ys) h ≡ Some x → (slice_get xs h ≡ Some x → P) → ((j : ℕ) → slice_get ys j ≡ Some x → P) → P
two_parts [] ys h x P e a b = b h e
two_parts (y ∷ xs) ys zero x P e a b = a e
two_parts (y ∷ xs) ys (suc h) x P e a b = two_parts xs ys h x P e a b

module _ {A B : Type 0} (R : B → A → Type 0) where
  -- pairs by either of their sides
  pub paired_left : (xs : List B) (ys : List A) (j : ℕ) (x : B) → Paired R xs ys → slice_get xs j ≡ Some x → (y : A) × (slice_get ys j ≡ Some y) × R x y
  paired_left [] [] j x h e = absurd (cc)
  paired_left (z ∷ xs) (y ∷ ys) zero x h e = let same : z ≡ x = cc in (y, refl, subst (λ v. R v y) same h.0)
  paired_left (z ∷ xs) (y ∷ ys) (suc j) x h e = paired_left xs ys j x h.1 e
  paired_left [] (y ∷ ys) j x h e = absurd h
  paired_left (z ∷ xs) [] j x h e = absurd h

  pub paired_right : (xs : List B) (ys : List A) (j : ℕ) (y : A) → Paired R xs ys → slice_get ys j ≡ Some y → (x : B) × (slice_get xs j ≡ Some x) × R x y
  paired_right [] [] j y h e = absurd (cc)
  paired_right (x ∷ xs) (z ∷ ys) zero y h e = let same : z ≡ y = cc in (x, refl, subst (λ v. R x v) same h.0)
  paired_right (x ∷ xs) (z ∷ ys) (suc j) y h e = paired_right xs ys j y h.1 e
  paired_right [] (z ∷ ys) j y h e = absurd h
  paired_right (x ∷ xs) [] j y h e = absurd h

module _ {A B : Type 0} (acting : ℕ → List A) (Stands : ℕ → A → B → Type 0) where
  pub stand_more : (n : ℕ) (old new : List B) → StandBelow acting Stands n old → Adds (λ x a. Stands n a x) old new (acting n) → StandBelow acting Stands (n + 1) new
  stand_more n old new had added = record {
    each = λ i j a lt at. ⊎_elim
        (λ less.
        let r = had.each i j a less at in
        (r.0, r.1, ap (λ l. slice_get l r.0) added.1 ∙ front old added.0 r.0 r.1 r.2, r.3))
        (λ more.
        let same : n ≡ i = omega arith in
        let r = paired_right (λ x b. Stands n b x) added.0 (acting n) j a added.2 (subst (λ k. slice_get (acting k) j ≡ Some a) (sym same) at) in
        (length old + j, r.0, ap (λ l. slice_get l (length old + j)) added.1 ∙ behind old added.0 (length old + j) j refl ∙ r.1, subst (λ k. Stands k a r.0) same r.2))
        (cases_lt i n);
    only = λ h x at.
        two_parts old added.0 h x ((i : ℕ) × (j : ℕ) × (a : A) × (i < n + 1) × (slice_get (acting i) j ≡ Some a) × Stands i a x)
        (ap (λ l. slice_get l h) (sym added.1) ∙ at)
        (λ here. let r = had.only h x here in let lt = r.3 in let less : r.0 < n + 1 = omega arith in (r.0, r.1, r.2, less, r.4, r.5))
        (λ j there.
        let r = paired_left (λ y b. Stands n b y) added.0 (acting n) j x added.2 there in
        let less : n < n + 1 = omega arith in
        (n, j, r.0, less, r.1, r.2));
  }

-- past the tree no edge acts
sets_past : (tree : List Placed) (reset i : ℕ) → length tree ≤ i → acting_sets reset (edge_at tree i) ≡ []
sets_past tree reset i le = ap (λ o. acting_sets reset (option_and_then (λ (p : Placed). p.part.edge) o)) (slice_get_past tree i le)

stores_past : (tree : List Placed) (reset i : ℕ) → length tree ≤ i → acting_stores reset (edge_at tree i) ≡ []
stores_past tree reset i le = ap (λ o. acting_stores reset (option_and_then (λ (p : Placed). p.part.edge) o)) (slice_get_past tree i le)

pub all_sets_stand : (tree : List Placed) (codes : List Code) (reset : ℕ) (sets : List Set)
    → StandBelow (λ i. acting_sets reset (edge_at tree i)) (SetStands tree codes) (length tree) sets → SetsStand tree codes reset sets
all_sets_stand tree codes reset sets s = record {
  each = λ i j a at. ⊎_elim (λ less. s.each i j a less at) (λ more. let none : slice_get (acting_sets reset (edge_at tree i)) j ≡ None = ap (λ l. slice_get l j) (sets_past tree reset i more) in absurd (cc)) (cases_lt i (length tree));
  only = λ h x at. let r = s.only h x at in (r.0, r.1, r.2, r.4, r.5);
}

pub all_stores_stand : (tree : List Placed) (codes : List Code) (reset : ℕ) (stores : List Store)
    → StandBelow (λ i. acting_stores reset (edge_at tree i)) (StoreStands tree codes) (length tree) stores → StoresStand tree codes reset stores
all_stores_stand tree codes reset stores s = record {
  each = λ i j a at. ⊎_elim (λ less. s.each i j a less at) (λ more. let none : slice_get (acting_stores reset (edge_at tree i)) j ≡ None = ap (λ l. slice_get l j) (stores_past tree reset i more) in absurd (cc)) (cases_lt i (length tree));
  only = λ h x at. let r = s.only h x at in (r.0, r.1, r.2, r.4, r.5);
}

-- lists of lower number end before the end
pub lists_up : (lists : ℕ → List (List ℕ)) (n i : ℕ) → i < n → before lists i + length (lists i) ≤ before lists n
lists_up lists zero i lt = absurd (omega arith)
lists_up lists (suc n) i lt = ⊎_elim
    (λ s.
    let same : before lists i + length (lists i) ≡ before lists n + length (lists n) = ap (λ k. before lists k + length (lists k)) s.1 in
    let step : before lists (suc n) ≡ before lists n + length (lists n) = refl in
    omega arith)
    (λ d.
    let apart = d.1 in
    let lower : i < n = omega arith in
    let less = lists_up lists n i lower in
    let step : before lists (suc n) ≡ before lists n + length (lists n) = refl in
    omega arith)
    (eqb_tells i n)

-- the number of an array is one of all
pub array_within : (tree : List Placed) (i k : ℕ) (name : List ℕ) → slice_get (arrays_at tree i) k ≡ Some name → arrays_before tree i + k < arrays_before tree (length tree)
array_within tree i k name at = ⊎_elim
    (λ less. let up = lists_up (arrays_at tree) (length tree) i less in let lt = slice_get_within (arrays_at tree i) k name at in omega (arith, up, lt))
    (λ more. let none : slice_get (arrays_at tree i) k ≡ None = ap (λ o. slice_get (declared_arrays (option_map_or (λ (p : Placed). p.part.decls) o [])) k) (slice_get_past tree i more) in absurd (cc))
    (cases_lt i (length tree))

module _ (tree : List Placed) (codes : List Code) where
  tied_kept : (b : Bool) (old new : List Driver) (i holder k n : ℕ) → KeepsRight tree codes old new → IsTied tree codes old i holder k n b → IsTied tree codes new i holder k n b
  tied_kept true old new i holder k n keeps t = keeps holder n t
  tied_kept false old new i holder k n keeps t = keeps i k t

  pub row_tied_kept : (old new : List Driver) (i : ℕ) → KeepsRight tree codes old new → RowTied tree codes old i → RowTied tree codes new i
  row_tied_kept old new i keeps t k n p port c at inner there conn number = tied_kept port.output old new i p.holder k n keeps (t k n p port c at inner there conn number)

  pub row_given_kept : (old new : List Driver) (i : ℕ) → KeepsRight tree codes old new → RowGiven tree codes old i → RowGiven tree codes new i
  row_given_kept old new i keeps g j n p a at there number = keeps i n (g j n p a at there number)

  pub driven_more : (n : ℕ) (old new : List Driver) → DrivenBelow tree codes n old → KeepsRight tree codes old new → IsWhole tree new → RowTied tree codes new n → RowGiven tree codes new n
      → DrivenBelow tree codes (n + 1) new
  driven_more n old new had keeps whole tied given = record {
    whole = whole;
    stored = λ i k name o at is stored. keeps i k (had.stored i k name o at is stored);
    ties = λ i lt. ⊎_elim (λ less. row_tied_kept old new i keeps (had.ties i less)) (λ more. let same : n ≡ i = omega arith in subst (λ j. RowTied tree codes new j) same tied) (cases_lt i n);
    givens = λ i lt. ⊎_elim (λ less. row_given_kept old new i keeps (had.givens i less)) (λ more. let same : n ≡ i = omega arith in subst (λ j. RowGiven tree codes new j) same given) (cases_lt i n);
  }

  inside : {A : Type 0} (xs : List A) (i : ℕ) (x : A) → slice_get xs i ≡ Some x → i < length xs
  inside xs i x e = slice_get_within xs i x e

  pub all_driven : (drivers : List Driver) → DrivenBelow tree codes (length tree) drivers → IsDriven tree codes drivers
  all_driven drivers d = record {
    whole = d.whole;
    stored = d.stored;
    ties = λ i k n p port c at inner. d.ties i (inside tree i p at) k n p port c at inner;
    givens = λ i j n p a at. d.givens i (inside tree i p at) j n p a at;
  }

  length-replicate : {A : Type 0} (n : ℕ) (x : A) → length (replicate n x) ≡ n
  length-replicate zero x = refl
  length-replicate (suc n) x = ap suc (length-replicate n x)

  replicated : {A : Type 0} (n k : ℕ) (x : A) → k < n → slice_get (replicate n x) k ≡ Some x
  replicated zero k x lt = absurd (omega arith)
  replicated (suc n) zero x lt = refl
  replicated (suc n) (suc k) x lt = replicated n k x (omega arith)

  held_stands : (i : ℕ) (o : Origin) → IsStored o → DriverStands tree codes i o driver.Held
  held_stands i Outside s = tt
  held_stands i (Tied j net) s = absurd s
  held_stands i (Held w) s = tt
  held_stands i (Given e) s = absurd s

  -- the number of a net is one of all
  pub net_within : (i k : ℕ) (name : List ℕ) → slice_get (nets_at tree i) k ≡ Some name → nets_before tree i + k < nets_before tree (length tree)
  net_within i k name at = ⊎_elim
      (λ less. let up = lists_up (nets_at tree) (length tree) i less in let lt = slice_get_within (nets_at tree i) k name at in omega (arith, up, lt))
      (λ more. let none : slice_get (nets_at tree i) k ≡ None = ap (λ o. slice_get (nets_of o) k) (slice_get_past tree i more) in absurd (cc))
      (cases_lt i (length tree))
    where
      nets_of : Option Placed → List (List ℕ)
      nets_of o = map (λ p. p.name) (option_map_or (λ p. p.part.ports) o []) ++ declared_nets (option_map_or (λ p. p.part.decls) o [])

  pub driven_none : (count : ℕ) → IsTidy tree → count ≡ nets_before tree (length tree) → DrivenBelow tree codes 0 (replicate count driver.Held)
  driven_none count tidy is = record {
    whole = length-replicate count driver.Held ∙ is;
    stored = λ i k name o at origin stored other there.
        let same : name ≡ other = cc in
        let lt = net_within i k name at in
        (o, subst (λ n. origin_of tree i n ≡ Some o) same origin, (driver.Held, replicated count (nets_before tree i + k) driver.Held (omega (arith, lt, is)), held_stands i o stored));
    ties = λ i lt. absurd (omega arith);
    givens = λ i lt. absurd (omega arith);
  }

  -- a set or a store of an instance stands for the assign or the store that it was made of
  set_one : (i code : ℕ) (a : PlainAssign) (x : Set) → CodeStands tree codes i code a.value → (o : Option ℕ) → position (nets_at tree i) a.name ≡ o
      → option_map (λ k. record { net = nets_before tree i + k; code = code; place = place_of tree i }) o ≡ Some x → SetStands tree codes i a x
  set_one i code a x coded None is e = absurd (cc)
  set_one i code a x coded (Some k) is e =
      let same : ◌≡◌ {A = Set} (record { net = nets_before tree i + k; code = code; place = place_of tree i }) x = cc in
      subst (SetStands tree codes i a) same (record { net = ap (option_map (λ j. nets_before tree i + j)) is; place = refl; code = coded })

  store_one : (i code : ℕ) (s : PlainStore) (x : Store) → CodeStands tree codes i code s.guard → CodeStands tree codes i (code + 1) s.index → CodeStands tree codes i (code + 2) s.value
      → (o : Option ℕ) → position (arrays_at tree i) s.array ≡ o
      → option_map (λ a. record { array = arrays_before tree i + a; guard = code; index = code + 1; value = code + 2; place = place_of tree i }) o ≡ Some x → StoreStands tree codes i s x
  store_one i code s x guard index value None is e = absurd (cc)
  store_one i code s x guard index value (Some k) is e =
      let same : ◌≡◌ {A = Store} (record { array = arrays_before tree i + k; guard = code; index = code + 1; value = code + 2; place = place_of tree i }) x = cc in
      subst (StoreStands tree codes i s) same (record { array = ap (option_map (λ j. arrays_before tree i + j)) is; place = refl; guard = guard; index = index; value = value })

  abbrev pub AreCoded : ℕ → ℕ → List PlainExpr → Type 0
  AreCoded i first exprs = (j : ℕ) (e : PlainExpr) → slice_get exprs j ≡ Some e → CodeStands tree codes i (first + j) e

  pub coded_after : (i first : ℕ) (xs ys : List PlainExpr) (next : ℕ) → next ≡ first + length xs → AreCoded i first (xs ++ ys) → AreCoded i next ys
  coded_after i first xs ys next is coded j e at =
      let number : first + (length xs + j) ≡ next + j = omega (arith, is) in
      subst (λ c. CodeStands tree codes i c e) number (coded (length xs + j) e (behind xs ys (length xs + j) j refl ∙ at))

  coded_head : (i first : ℕ) (e : PlainExpr) (rest : List PlainExpr) → AreCoded i first (e ∷ rest) → CodeStands tree codes i first e
  coded_head i first e rest coded = let number : first + 0 ≡ first = omega arith in subst (λ c. CodeStands tree codes i c e) number (coded 0 e refl)

  coded_tail : (i first : ℕ) (e : PlainExpr) (rest : List PlainExpr) → AreCoded i first (e ∷ rest) → AreCoded i (first + 1) rest
  coded_tail i first e rest coded j x at =
      let number : first + suc j ≡ first + 1 + j = omega arith in subst (λ c. CodeStands tree codes i c x) number (coded (suc j) x at)

  pub sets_paired : (i first : ℕ) (made : List Set) (assigns : List PlainAssign) → AreCoded i first (values_of assigns)
      → Paired (IsSet (position (nets_at tree i)) (place_of tree i)) made (numbered first assigns) → Paired (λ x a. SetStands tree codes i a x) made assigns
  sets_paired i first [] [] coded h = tt
  sets_paired i first (x ∷ xs) [] coded h = absurd h
  sets_paired i first [] (a ∷ rest) coded h = absurd h
  sets_paired i first (x ∷ xs) (a ∷ rest) coded h = (
    set_one i first a x (coded_head i first a.value (values_of rest) coded) (position (nets_at tree i) a.name) refl h.0,
    sets_paired i (first + 1) xs rest (coded_tail i first a.value (values_of rest) coded) h.1,
  )

  store_tail : (i first : ℕ) (s : PlainStore) (rest : List PlainExpr) → AreCoded i first (s.guard ∷ s.index ∷ s.value ∷ rest) → AreCoded i (first + 3) rest
  store_tail i first s rest coded = coded_after i first (s.guard ∷ s.index ∷ s.value ∷ []) rest (first + 3) refl coded

  pub item_sets_paired : (i first : ℕ) (made : List Set) (items : List PlainItem) → AreCoded i first (items_exprs items)
      → Paired (IsSet (position (nets_at tree i)) (place_of tree i)) made (numbered_sets first items) → Paired (λ x a. SetStands tree codes i a x) made (sets_in items)
  item_sets_paired i first [] [] coded h = tt
  item_sets_paired i first (x ∷ xs) [] coded h = absurd h
  item_sets_paired i first [] (SetTo a ∷ items) coded h = absurd h
  item_sets_paired i first (x ∷ xs) (SetTo a ∷ items) coded h = (
    set_one i first a x (coded_head i first a.value (items_exprs items) coded) (position (nets_at tree i) a.name) refl h.0,
    item_sets_paired i (first + 1) xs items (coded_tail i first a.value (items_exprs items) coded) h.1,
  )
  item_sets_paired i first made (StoreTo s ∷ items) coded h = item_sets_paired i (first + 3) made items (store_tail i first s (items_exprs items) coded) h

  pub item_stores_paired : (i first : ℕ) (made : List Store) (items : List PlainItem) → AreCoded i first (items_exprs items)
      → Paired (IsStore (position (arrays_at tree i)) (place_of tree i)) made (numbered_stores first items) → Paired (λ x s. StoreStands tree codes i s x) made (stores_in items)
  item_stores_paired i first [] [] coded h = tt
  item_stores_paired i first (x ∷ xs) [] coded h = absurd h
  item_stores_paired i first [] (StoreTo s ∷ items) coded h = absurd h
  item_stores_paired i first (x ∷ xs) (StoreTo s ∷ items) coded h =
      let tail = coded_tail i first s.guard (s.index ∷ s.value ∷ items_exprs items) coded in
      let two : first + 1 + 1 ≡ first + 2 = omega arith in (
        store_one i first s x (coded_head i first s.guard (s.index ∷ s.value ∷ items_exprs items) coded) (coded_head i (first + 1) s.index (s.value ∷ items_exprs items) tail)
            (subst (λ c. CodeStands tree codes i c s.value) two (coded_head i (first + 1 + 1) s.value (items_exprs items) (coded_tail i (first + 1) s.index (s.value ∷ items_exprs items) tail)))
            (position (arrays_at tree i) s.array) refl h.0,
        item_stores_paired i (first + 3) xs items (store_tail i first s (items_exprs items) coded) h.1,
      )
  item_stores_paired i first made (SetTo a ∷ items) coded h = item_stores_paired i (first + 1) made items (coded_tail i first a.value (items_exprs items) coded) h
