-- The sets and stores of one instance.
use Rattle.std.proofs.Common.{◌≡◌, ℕ, ◌+◌, ◌<◌, ◌^◌, List, [], ◌++◌, length, Some, None, option_and_then, slice_get, refl, ap, sym, ◌∙◌, subst, arith, length-append, append-nil}
use Rattle.std.specs.Prelude.{IsSome}
use Rattle.std.specs.Option.{option_map_or}
use Rattle.std.proofs.lemmas.List.{length-map}
use Rattle.cx_vtree.specs.Plain.{PlainAssign, PlainStore, PlainItem, SetTo, StoreTo, PlainEdge}
use Rattle.cx_vtree.specs.InstanceTree.{Placed, nets_at, Held, arrays_at}
use Rattle.cx_vtree.specs.Edges.{edge_at, acting_sets, acting_stores}
use Rattle.cx_vnets.specs.declared.codes.Code.{Code}
use Rattle.cx_vnets.specs.declared.codes.NetPosition.{NetPosition}
use Rattle.cx_vnets.specs.declared.edges.Set.{Set}
use Rattle.cx_vnets.specs.declared.stores.Store.{Store}
use Rattle.cx_vtree.specs.NameNumbers.{position}
use Rattle.cx_vnets.specs.ModuleCodes.{Numbering}
use Rattle.cx_vnets.specs.Numbers.{nets_before, arrays_before, place_of}
use Rattle.cx_vnets.specs.EdgesFlat.{SetStands, StoreStands}
use Rattle.cx_velab.specs.Added.{Paired}
use Rattle.cx_velab.specs.Coded.{values_of, items_exprs, edge_exprs, module_exprs}
use Rattle.cx_velab.specs.Changes.{numbered, numbered_sets, numbered_stores, IsSet, IsStore, AddsSets, AddsStores, ItemIsNamed}
use Rattle.cx_velab.specs.declared.parts.ModulePart.{ModulePart}
use Rattle.cx_vsim.specs.Trees.{CanBeBuilt}
use Rattle.cx_vsim.specs.Tables.{exprs_at, IsPartOf}
use Rattle.cx_vsim.specs.Passes.{AddsRowSets, AddsRowStores}
use Rattle.cx_vsim.proofs.Positions.{origin_position}
use Rattle.cx_vsim.proofs.CodedLemmas.{set_among, store_among}
use Rattle.cx_vsim.proofs.PassLemmas.{AreCoded, coded_after, sets_paired, item_sets_paired, item_stores_paired, array_within}
use Rattle.cx_vsim.proofs.RowLemmas.{numbers_within}
use Rattle.cx_text.proofs.ListLaws.{front}
use Rattle.cx_text.proofs.OptionLaws.{some_by}
use Rattle.cx_vnets.proofs.Numbering.{position_here}

-- an instance without an edge changes nothing
pub no_sets : (tree : List Placed) (codes : List Code) (reset i : ℕ) (p : Placed) (old : List Set) → slice_get tree i ≡ Some p → p.part.edge ≡ None → AddsRowSets tree codes reset i old old
no_sets tree codes reset i p old at is =
    let none : acting_sets reset (edge_at tree i) ≡ [] = ap (acting_sets reset) (ap (option_and_then (λ (q : Placed). q.part.edge)) at ∙ is) in
    ([], sym (append-nil old), subst (Paired (λ x a. SetStands tree codes i a x) []) (sym none) tt)

pub no_stores : (tree : List Placed) (codes : List Code) (i : ℕ) (p : Placed) (old : List Store) → slice_get tree i ≡ Some p → p.part.edge ≡ None → AddsRowStores tree codes i old old
no_stores tree codes i p old at is =
    let none : acting_stores 0 (edge_at tree i) ≡ [] = ap (acting_stores 0) (ap (option_and_then (λ (q : Placed). q.part.edge)) at ∙ is) in
    ([], sym (append-nil old), subst (Paired (λ x s. StoreStands tree codes i s x) []) (sym none) tt)

module _ (tree : List Placed) (codes : List Code) (build : CanBeBuilt tree) (i : ℕ) where
  pub nets_small : (nets : Numbering) (start : ℕ) → nets ≡ position (nets_at tree i) → start ≡ nets_before tree i → (name : List ℕ) (k : ℕ) → nets name ≡ Some k → start + k < 2 ^ 32
  nets_small nets start e f name k is =
      let lt = numbers_within tree codes build i nets start (nets_before tree (length tree)) e f refl name k is in
      let small = build.small.nets in
      omega (arith, lt, small)

  pub arrays_small : (arrays : Numbering) (start : ℕ) → arrays ≡ position (arrays_at tree i) → start ≡ arrays_before tree i → (name : List ℕ) (k : ℕ) → arrays name ≡ Some k → start + k < 2 ^ 32
  arrays_small arrays start e f name k is =
      let number : position (arrays_at tree i) name ≡ Some k = ap (λ h. h name) (sym e) ∙ is in
      let lt = array_within tree i k name (position_here (arrays_at tree i) name k number) in
      let small = build.small.arrays in
      omega (arith, lt, small, f)

  pub set_named : (nets : Numbering) → nets ≡ position (nets_at tree i) → (reset j : ℕ) (a : PlainAssign) → slice_get (acting_sets reset (edge_at tree i)) j ≡ Some a → IsSome (nets a.name)
  set_named nets e reset j a at =
      let held = build.apart.edges.registers reset i j a at in
      let number = origin_position tree i a.name (Held held.0) held.1 in
      some_by (nets a.name) number.0 (ap (λ h. h a.name) e ∙ number.1)

  pub store_named : (arrays : Numbering) → arrays ≡ position (arrays_at tree i) → (j : ℕ) (s : PlainStore) → slice_get (acting_stores 0 (edge_at tree i)) j ≡ Some s → IsSome (arrays s.array)
  store_named arrays e j s at =
      let wide = build.wide.stores 0 i j s at in
      some_by (arrays s.array) wide.number (ap (λ h. h s.array) e ∙ wide.array)

  module _ (p : Placed) (at : slice_get tree i ≡ Some p) (e : PlainEdge) (is : p.part.edge ≡ Some e) where
    edge_is : edge_at tree i ≡ Some e
    edge_is = ap (option_and_then (λ (q : Placed). q.part.edge)) at ∙ is

    pub resets_named : (nets : Numbering) → nets ≡ position (nets_at tree i) → (j : ℕ) (a : PlainAssign) → slice_get e.reset j ≡ Some a → IsSome (nets a.name)
    resets_named nets f j a there = set_named nets f 1 j a (ap (λ o. slice_get (acting_sets 1 o) j) edge_is ∙ there)

    pub items_named : (nets arrays : Numbering) → nets ≡ position (nets_at tree i) → arrays ≡ position (arrays_at tree i) → (j : ℕ) (x : PlainItem) → slice_get e.step j ≡ Some x → ItemIsNamed nets arrays x
    items_named nets arrays f g j (SetTo a) there = let r = set_among e.step j a there in set_named nets f 0 r.0 a (ap (λ o. slice_get (acting_sets 0 o) r.0) edge_is ∙ r.1)
    items_named nets arrays f g j (StoreTo s) there = let r = store_among e.step j s there in store_named arrays g r.0 s (ap (λ o. slice_get (acting_stores 0 o) r.0) edge_is ∙ r.1)

    all_exprs : exprs_at tree i ≡ values_of p.part.assigns ++ (values_of e.reset ++ items_exprs e.step)
    all_exprs = ap (λ o. option_map_or (λ (q : Placed). module_exprs q.part) o []) at ∙ ap (λ o. values_of p.part.assigns ++ edge_exprs o) is

    values_count : (assigns : List PlainAssign) → length (values_of assigns) ≡ length assigns
    values_count assigns = length-map assigns (λ (a : PlainAssign). a.value)

    module _ (x : ModulePart) (part : IsPartOf tree codes i x) where
      pub edge_short : x.first + length p.part.assigns + length e.reset + length (items_exprs e.step) < 2 ^ 32
      edge_short =
          let small = part.small in
          let all = ap length all_exprs in
          let one = length-append (values_of p.part.assigns) (values_of e.reset ++ items_exprs e.step) in
          let two = length-append (values_of e.reset) (items_exprs e.step) in
          let three = values_count p.part.assigns in
          let four = values_count e.reset in
          omega (arith, small, all, one, two, three, four)

      edge_coded : (first : ℕ) → first ≡ x.first + length p.part.assigns → AreCoded tree codes i first (values_of e.reset ++ items_exprs e.step)
      edge_coded first f =
          let count = values_count p.part.assigns in
          let next : first ≡ x.first + length (values_of p.part.assigns) = omega (arith, f, count) in
          coded_after tree codes i x.first (values_of p.part.assigns) (values_of e.reset ++ items_exprs e.step) first next
          (λ j y there. part.coded j y (ap (λ l. slice_get l j) all_exprs ∙ there))

      resets_coded : (first : ℕ) → first ≡ x.first + length p.part.assigns → AreCoded tree codes i first (values_of e.reset)
      resets_coded first f j y there = edge_coded first f j y (front (values_of e.reset) (items_exprs e.step) j y there)

      items_coded : (first : ℕ) → first ≡ x.first + length p.part.assigns + length e.reset → AreCoded tree codes i first (items_exprs e.step)
      items_coded first f =
          let count = values_count e.reset in
          let next : first ≡ x.first + length p.part.assigns + length (values_of e.reset) = omega (arith, f, count) in
          coded_after tree codes i (x.first + length p.part.assigns) (values_of e.reset) (items_exprs e.step) first next (edge_coded (x.first + length p.part.assigns) refl)

      module _ (nets arrays : Numbering) (own : nets ≡ position (nets_at tree i)) (own_arrays : arrays ≡ position (arrays_at tree i)) (place : NetPosition) (here : place ≡ place_of tree i) where
        set_at : (made : List Set) (ps : List (ℕ × PlainAssign)) → Paired (IsSet nets place) made ps → Paired (IsSet (position (nets_at tree i)) (place_of tree i)) made ps
        set_at made ps h = subst (λ (q : NetPosition). Paired (IsSet (position (nets_at tree i)) q) made ps) here (subst (λ n. Paired (IsSet n place) made ps) own h)

        store_at : (made : List Store) (ps : List (ℕ × PlainStore)) → Paired (IsStore arrays place) made ps → Paired (IsStore (position (arrays_at tree i)) (place_of tree i)) made ps
        store_at made ps h = subst (λ (q : NetPosition). Paired (IsStore (position (arrays_at tree i)) q) made ps) here (subst (λ n. Paired (IsStore n place) made ps) own_arrays h)

        pub resets_added : (first : ℕ) → first ≡ x.first + length p.part.assigns → (old new : List Set) (assigns : List PlainAssign) → assigns ≡ e.reset → AddsSets nets place old new (numbered first assigns)
            → AddsRowSets tree codes 1 i old new
        resets_added first f old new assigns same a =
            let h = subst (λ l. Paired (IsSet nets place) a.0 (numbered first l)) same a.2 in (
              a.0,
              a.1,
              subst (Paired (λ y b. SetStands tree codes i b y) a.0) (sym (ap (acting_sets 1) edge_is))
                  (sets_paired tree codes i first a.0 e.reset (resets_coded first f) (set_at a.0 (numbered first e.reset) h)),
            )

        pub sets_added : (first : ℕ) → first ≡ x.first + length p.part.assigns + length e.reset → (old new : List Set) (items : List PlainItem) → items ≡ e.step → AddsSets nets place old new (numbered_sets first items)
            → AddsRowSets tree codes 0 i old new
        sets_added first f old new items same a =
            let h = subst (λ l. Paired (IsSet nets place) a.0 (numbered_sets first l)) same a.2 in (
              a.0,
              a.1,
              subst (Paired (λ y b. SetStands tree codes i b y) a.0) (sym (ap (acting_sets 0) edge_is))
                  (item_sets_paired tree codes i first a.0 e.step (items_coded first f) (set_at a.0 (numbered_sets first e.step) h)),
            )

        pub stores_added : (first : ℕ) → first ≡ x.first + length p.part.assigns + length e.reset → (old new : List Store) (items : List PlainItem) → items ≡ e.step
            → AddsStores arrays place old new (numbered_stores first items) → AddsRowStores tree codes i old new
        stores_added first f old new items same a =
            let h = subst (λ l. Paired (IsStore arrays place) a.0 (numbered_stores first l)) same a.2 in (
              a.0,
              a.1,
              subst (Paired (λ y s. StoreStands tree codes i s y) a.0) (sym (ap (acting_stores 0) edge_is))
                  (item_stores_paired tree codes i first a.0 e.step (items_coded first f) (store_at a.0 (numbered_stores first e.step) h)),
            )
