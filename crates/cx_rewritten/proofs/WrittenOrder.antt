-- Where the places of a tree rise, the source order of a component's assignments is the order in which they are written.
use Rattle.std.proofs.Common.{◌≡◌, ℕ, suc, Bool, true, false, List, [], ◌∷◌, ◌++◌, map, flat_map, Option, Some, None, refl, sym, ap, ◌∙◌, subst, append_assoc, arith}
use Rattle.std.specs.List.{AllByRecursion}
use Rattle.std.proofs.lemmas.List.{map-append}
use Rattle.std.proofs.lemmas.Bool.Decides.{nat_tests}
use Rattle.cx_text.specs.declared.places.Place.{Place}
use Rattle.cx_ast.specs.PlainTree as ast
use Rattle.cx_ast.specs.declared.statements.BindItem.{BindItem}
use Rattle.cx_meaning.specs.Designs.{PlainAssign, PlainGroup}
use Rattle.cx_meaning.specs.Active.{Owned, no_later, owned, owned_by_groups, by_place, source_order}
use Rattle.cx_numbering.specs.Names.{groups_in, always_in}
use Rattle.cx_numbering.specs.DesignOf.{Invoke, Next, assign_of, group_of, input_assign, capture_assigns, done_assign, invoke_group, is_static_invoke, static_capture, capture_group, after, captures_for, groups_for, invoke_groups, first, control_invokes, component_of}
use Rattle.cx_print.specs.Places.{bare_assign, bare_wire, bare_component, without_places}
use Rattle.cx_rewrites.specs.Places.{unplaced_assign, unplaced_group, unplaced_owned}
use Rattle.cx_rewritten.specs.Ordered.{wire_places, invoke_places, places_in, Rise}
use Rattle.cx_rewritten.proofs.SourceOrder.{one_first, NoLaterThan, Behind, Sorted, AllNoLater, AllBehind, all_by_place, placed_first, between_placed, sorted_stays}
use Rattle.cx_rewritten.proofs.BareParts.{assign_of-bare, assigns-bare}
use Rattle.cx_rewritten.proofs.BareControl.{invoked, invoked-bare}

module _ {A : Type 0} where
  weaker : (P Q : A → Type 0) → ((x : A) → P x → Q x) → (xs : List A) → AllByRecursion P xs → AllByRecursion Q xs
  weaker P Q f [] h = tt
  weaker P Q f (x ∷ xs) h = (f x h.0, weaker P Q f xs h.1)

  joined : (P : A → Type 0) (xs ys : List A) → AllByRecursion P xs → AllByRecursion P ys → AllByRecursion P (xs ++ ys)
  joined P [] ys h k = k
  joined P (x ∷ xs) ys h k = (h.0, joined P xs ys h.1 k)

  first_part : (P : A → Type 0) (xs ys : List A) → AllByRecursion P (xs ++ ys) → AllByRecursion P xs
  first_part P [] ys h = tt
  first_part P (x ∷ xs) ys h = (h.0, first_part P xs ys h.1)

  second_part : (P : A → Type 0) (xs ys : List A) → AllByRecursion P (xs ++ ys) → AllByRecursion P ys
  second_part P [] ys h = h
  second_part P (x ∷ xs) ys h = second_part P xs ys h.1

-- LISTS OF PLACES that rise
abbrev After : Place → Place → Type 0
After p q = no_later q p ≡ false

rise_first : (ps qs : List Place) → Rise (ps ++ qs) → Rise ps
rise_first [] qs h = tt
rise_first (p ∷ ps) qs h = (first_part (After p) ps qs h.0, rise_first ps qs h.1)

rise_second : (ps qs : List Place) → Rise (ps ++ qs) → Rise qs
rise_second [] qs h = h
rise_second (p ∷ ps) qs h = rise_second ps qs h.1

rise_over : (ps qs : List Place) → Rise (ps ++ qs) → AllByRecursion (λ p. AllByRecursion (After p) qs) ps
rise_over [] qs h = tt
rise_over (p ∷ ps) qs h = (second_part (After p) ps qs h.0, rise_over ps qs h.1)

no_later_itself : (p : Place) → no_later p p ≡ true
no_later_itself p = grind (arith, nat_tests)

-- ASSIGNMENTS at places of which P holds
abbrev OwnedAt : (Place → Type 0) → List Owned → Type 0
OwnedAt P list = AllByRecursion (λ o. P o.assign.place) list

abbrev AssignsAt : (Place → Type 0) → List PlainAssign → Type 0
AssignsAt P list = AllByRecursion (λ a. P a.place) list

owned_at : (P : Place → Type 0) (w : Option ℕ) (list : List PlainAssign) → AssignsAt P list → OwnedAt P (owned w list)
owned_at P w [] h = tt
owned_at P w (a ∷ rest) h = (h.0, owned_at P w rest h.1)

-- SORTED, one list behind the other
sorted_join : (xs ys : List Owned) → Sorted xs → Sorted ys → AllNoLater xs ys → Sorted (xs ++ ys)
sorted_join [] ys s t h = t
sorted_join (x ∷ xs) ys s t h = (joined (NoLaterThan x) xs ys s.0 h.0, sorted_join xs ys s.1 t h.1)

at_one_place : (p : Place) (list : List Owned) → OwnedAt (λ q. p ≡ q) list → Sorted list
at_one_place p [] h = tt
at_one_place p (x ∷ xs) h =
    (weaker (λ (o : Owned). p ≡ o.assign.place) (NoLaterThan x) (λ o e. subst (λ q. no_later q o.assign.place ≡ true) h.0 (subst (λ q. no_later p q ≡ true) e (no_later_itself p))) xs h.1, at_one_place p xs h.1)

place_first : (p : Place) (xs ys : List Owned) → OwnedAt (λ q. p ≡ q) xs → OwnedAt (After p) ys → AllNoLater xs ys
place_first p [] ys h k = tt
place_first p (x ∷ xs) ys h k =
    (weaker (λ (o : Owned). After p o.assign.place) (NoLaterThan x) (λ o later. subst (λ q. no_later q o.assign.place ≡ true) h.0 (one_first p o.assign.place later)) ys k, place_first p xs ys h.1 k)

-- each of the first stands behind each of the second
turned : (us xs : List Owned) → AllByRecursion (λ x. OwnedAt (After x.assign.place) us) xs → AllBehind us xs
turned [] xs h = tt
turned (u ∷ us) xs h =
    (weaker (λ x. OwnedAt (After x.assign.place) (u ∷ us)) (Behind u) (λ x k. k.0) xs h, turned us xs (weaker (λ x. OwnedAt (After x.assign.place) (u ∷ us)) (λ x. OwnedAt (After x.assign.place) us) (λ x k. k.1) xs h))

module _ (tree : ast.PlainTree) (part : ast.PlainComponent) where
  -- INVOKES: all of a group has the place of the invoke
  invoke_at : (P : Place → Type 0) (g : ℕ) (k : Invoke) → P k.place → AssignsAt P (invoke_group tree part g k).assigns
  invoke_at P g k h =
      joined (λ (a : PlainAssign). P a.place) (map (input_assign tree part k) k.inputs) _ (inputs k.inputs)
      (h, joined (λ (a : PlainAssign). P a.place) (flat_map (capture_assigns tree part k) k.outputs) (done_assign tree part k g k.outputs ∷ []) (captures k.outputs) (done k.outputs, tt))
    where
      inputs : (binds : List BindItem) → AssignsAt P (map (input_assign tree part k) binds)
      inputs [] = tt
      inputs (b ∷ binds) = (h, inputs binds)

      captures : (binds : List BindItem) → AssignsAt P (flat_map (capture_assigns tree part k) binds)
      captures [] = tt
      captures (b ∷ binds) = (h, (h, captures binds))

      done : (binds : List BindItem) → P (done_assign tree part k g binds).place
      done [] = h
      done (b ∷ []) = h
      done (b ∷ c ∷ binds) = h

  capture_at : (P : Place → Type 0) (k : Invoke) → P k.place → AssignsAt P (capture_group tree part k).assigns
  capture_at P k h = captures k.outputs
    where
      captures : (binds : List BindItem) → AssignsAt P (flat_map (static_capture tree part k) binds)
      captures [] = tt
      captures (b ∷ binds) = (h, (h, captures binds))

  -- of one invoke, before those of the others: no group, the one that captures, or the one that calls
  captured_at : (P : Place → Type 0) (k : Invoke) (binds : List BindItem) (m : ℕ) → P k.place → (more : List PlainGroup) → ((n : ℕ) → OwnedAt P (owned_by_groups n more)) → OwnedAt P (owned_by_groups m (captures_for tree part k binds ++ more))
  captured_at P k [] m h more later = later m
  captured_at P k (b ∷ binds) m h more later =
      joined (λ (o : Owned). P o.assign.place) (owned (Some m) (capture_group tree part k).assigns) (owned_by_groups (suc m) more) (owned_at P (Some m) (capture_group tree part k).assigns (capture_at P k h)) (later (suc m))

  one_at : (P : Place → Type 0) (static : Bool) (n : Next) (k : Invoke) (m : ℕ) → P k.place → (more : List PlainGroup) → ((j : ℕ) → OwnedAt P (owned_by_groups j more)) → OwnedAt P (owned_by_groups m (groups_for tree part static n k ++ more))
  one_at P true n k m h more later = captured_at P k k.outputs m h more later
  one_at P false n k m h more later =
      joined (λ (o : Owned). P o.assign.place) (owned (Some m) (invoke_group tree part n.group k).assigns) (owned_by_groups (suc m) more)
      (owned_at P (Some m) (invoke_group tree part n.group k).assigns (invoke_at P n.group k h)) (later (suc m))

  invoked_at : (P : Place → Type 0) (ks : List Invoke) → AllByRecursion P (map (λ k. k.place) ks) → (m : ℕ) (n : Next) → OwnedAt P (owned_by_groups m (invoke_groups tree part n ks))
  invoked_at P [] h m n = tt
  invoked_at P (k ∷ ks) h m n = one_at P (is_static_invoke tree part k) n k m h.0 (invoke_groups tree part (after tree part n k) ks) (λ j. invoked_at P ks h.1 j (after tree part n k))

  behind_group : (k : Invoke) (m : ℕ) (assigns : List PlainAssign) (more : List Owned) → AssignsAt (λ q. k.place ≡ q) assigns → Sorted more → OwnedAt (After k.place) more → Sorted (owned (Some m) assigns ++ more)
  behind_group k m assigns more here sorted later =
      let own = owned_at (λ q. k.place ≡ q) (Some m) assigns here in
      sorted_join (owned (Some m) assigns) more (at_one_place k.place _ own) sorted (place_first k.place _ _ own later)

  captured_sorted : (k : Invoke) (binds : List BindItem) (m : ℕ) (more : List PlainGroup) → ((j : ℕ) → Sorted (owned_by_groups j more)) → ((j : ℕ) → OwnedAt (After k.place) (owned_by_groups j more))
      → Sorted (owned_by_groups m (captures_for tree part k binds ++ more))
  captured_sorted k [] m more sorted later = sorted m
  captured_sorted k (b ∷ binds) m more sorted later =
      behind_group k m (capture_group tree part k).assigns (owned_by_groups (suc m) more) (capture_at (λ q. k.place ≡ q) k refl) (sorted (suc m)) (later (suc m))

  one_sorted : (static : Bool) (n : Next) (k : Invoke) (m : ℕ) (more : List PlainGroup) → ((j : ℕ) → Sorted (owned_by_groups j more)) → ((j : ℕ) → OwnedAt (After k.place) (owned_by_groups j more))
      → Sorted (owned_by_groups m (groups_for tree part static n k ++ more))
  one_sorted true n k m more sorted later = captured_sorted k k.outputs m more sorted later
  one_sorted false n k m more sorted later =
      behind_group k m (invoke_group tree part n.group k).assigns (owned_by_groups (suc m) more) (invoke_at (λ q. k.place ≡ q) n.group k refl) (sorted (suc m)) (later (suc m))

  invoked_sorted : (ks : List Invoke) → Rise (map (λ k. k.place) ks) → (m : ℕ) (n : Next) → Sorted (owned_by_groups m (invoke_groups tree part n ks))
  invoked_sorted [] h m n = tt
  invoked_sorted (k ∷ ks) h m n =
      one_sorted (is_static_invoke tree part k) n k m (invoke_groups tree part (after tree part n k) ks) (λ j. invoked_sorted ks h.1 j (after tree part n k)) (λ j. invoked_at (After k.place) ks h.0 j (after tree part n k))

  -- WIRES
  abbrev in_place : List ast.PlainAssign → List PlainAssign
  in_place list = map (assign_of tree part) list

  assigns_at : (P : Place → Type 0) (w : Option ℕ) (list : List ast.PlainAssign) → AllByRecursion P (map (λ a. a.place) list) → OwnedAt P (owned w (in_place list))
  assigns_at P w [] h = tt
  assigns_at P w (a ∷ rest) h = (h.0, assigns_at P w rest h.1)

  always_at : (P : Place → Type 0) (wires : List ast.PlainWire) → AllByRecursion P (flat_map wire_places wires) → OwnedAt P (owned None (in_place (always_in wires)))
  always_at P [] h = tt
  always_at P (ast.Group g ∷ rest) h = always_at P rest (second_part P (map (λ a. a.place) g.assigns) (flat_map wire_places rest) h)
  always_at P (ast.Assign a ∷ rest) h = (h.0, always_at P rest h.1)

  groups_at : (P : Place → Type 0) (wires : List ast.PlainWire) (last : List PlainGroup) → AllByRecursion P (flat_map wire_places wires) → ((m : ℕ) → OwnedAt P (owned_by_groups m last))
      → (n : ℕ) → OwnedAt P (owned_by_groups n (map (group_of tree part) (groups_in wires) ++ last))
  groups_at P [] last h k n = k n
  groups_at P (ast.Group g ∷ rest) last h k n =
      joined (λ (o : Owned). P o.assign.place) (owned (Some n) (in_place g.assigns)) _
      (assigns_at P (Some n) g.assigns (first_part P (map (λ a. a.place) g.assigns) (flat_map wire_places rest) h))
      (groups_at P rest last (second_part P (map (λ a. a.place) g.assigns) (flat_map wire_places rest) h) k (suc n))
  groups_at P (ast.Assign a ∷ rest) last h k n = groups_at P rest last h.1 k n

  group_sorted : (w : Option ℕ) (list : List ast.PlainAssign) → Rise (map (λ a. a.place) list) → Sorted (owned w (in_place list))
  group_sorted w [] h = tt
  group_sorted w (a ∷ rest) h = (
    weaker (λ (o : Owned). After a.place o.assign.place) (NoLaterThan (record { owner = w; assign = assign_of tree part a })) (λ o k. one_first a.place o.assign.place k) _ (assigns_at (After a.place) w rest h.0),
    group_sorted w rest h.1,
  )

  group_first : (w : Option ℕ) (list : List ast.PlainAssign) (ys : List Owned) → AllByRecursion (λ p. OwnedAt (After p) ys) (map (λ a. a.place) list) → AllNoLater (owned w (in_place list)) ys
  group_first w [] ys h = tt
  group_first w (a ∷ rest) ys h =
      (weaker (λ (o : Owned). After a.place o.assign.place) (NoLaterThan (record { owner = w; assign = assign_of tree part a })) (λ o k. one_first a.place o.assign.place k) ys h.0, group_first w rest ys h.1)

  group_before : (w : Option ℕ) (list : List ast.PlainAssign) (us : List Owned) → AllByRecursion (λ p. OwnedAt (After p) us) (map (λ a. a.place) list) → AllBehind us (owned w (in_place list))
  group_before w list us h = turned us (owned w (in_place list)) (assigns_at (λ p. OwnedAt (After p) us) w list h)

  -- AS THEY ARE WRITTEN: the wires in their order, with the groups numbered from n on, and then the groups of the invokes
  abbrev pub as_written : ℕ → List ast.PlainWire → List PlainGroup → List Owned
  as_written n [] last = owned_by_groups n last
  as_written n (ast.Group g ∷ rest) last = owned (Some n) (in_place g.assigns) ++ as_written (suc n) rest last
  as_written n (ast.Assign a ∷ rest) last = record { owner = None; assign = assign_of tree part a } ∷ as_written n rest last

  -- as they stand in the design
  abbrev by_kind : ℕ → List ast.PlainWire → List PlainGroup → List Owned
  by_kind n wires last = owned None (in_place (always_in wires)) ++ owned_by_groups n (map (group_of tree part) (groups_in wires) ++ last)

  module _ (last : List PlainGroup) (places : List Place) (at : (P : Place → Type 0) → AllByRecursion P places → (m : ℕ) → OwnedAt P (owned_by_groups m last)) (sorted : (m : ℕ) → Sorted (owned_by_groups m last)) where
    by_kind_at : (P : Place → Type 0) (wires : List ast.PlainWire) → AllByRecursion P (flat_map wire_places wires ++ places) → (n : ℕ) → OwnedAt P (by_kind n wires last)
    by_kind_at P wires h n =
        joined (λ (o : Owned). P o.assign.place) (owned None (in_place (always_in wires))) _ (always_at P wires (first_part P (flat_map wire_places wires) places h))
        (groups_at P wires last (first_part P (flat_map wire_places wires) places h) (at P (second_part P (flat_map wire_places wires) places h)) n)

    sorted_by_place : (wires : List ast.PlainWire) → Rise (flat_map wire_places wires ++ places) → (n : ℕ) → by_place (by_kind n wires last) ≡ as_written n wires last
    sorted_by_place [] h n = sorted_stays (owned_by_groups n last) (sorted n)
    sorted_by_place (ast.Assign a ∷ rest) h n =
        let x : Owned = record { owner = None; assign = assign_of tree part a } in
        placed_first x (by_place (by_kind n rest last))
        (all_by_place (NoLaterThan x) (by_kind n rest last) (weaker (λ (o : Owned). After a.place o.assign.place) (NoLaterThan x) (λ o k. one_first a.place o.assign.place k) _ (by_kind_at (After a.place) rest h.0 n)))
        ∙ ap (λ list. x ∷ list) (sorted_by_place rest h.1 n)
    sorted_by_place (ast.Group g ∷ rest) h n =
        let own : List Place = map (λ a. a.place) g.assigns in
        let later : List Place = flat_map wire_places rest in
        let rises : Rise (own ++ (later ++ places)) = subst Rise (append_assoc own later places) h in
        let over = rise_over own (later ++ places) rises in
        let always = owned None (in_place (always_in rest)) in
        let groups = owned_by_groups (suc n) (map (group_of tree part) (groups_in rest) ++ last) in
        between_placed always (owned (Some n) (in_place g.assigns)) groups (group_sorted (Some n) g.assigns (rise_first own (later ++ places) rises))
        (group_first (Some n) g.assigns groups (weaker (λ p. AllByRecursion (After p) (later ++ places)) (λ p. OwnedAt (After p) groups)
        (λ p k. groups_at (After p) rest last (first_part (After p) later places k) (at (After p) (second_part (After p) later places k)) (suc n)) own over))
        (group_before (Some n) g.assigns always (weaker (λ p. AllByRecursion (After p) (later ++ places)) (λ p. OwnedAt (After p) always) (λ p k. always_at (After p) rest (first_part (After p) later places k)) own over))
        ∙ ap (λ list. owned (Some n) (in_place g.assigns) ++ list) (sorted_by_place rest (rise_second own (later ++ places) rises) (suc n))

  -- THE SOURCE ORDER of a component
  invoked_places : (c : Option _) → map (λ k. k.place) (control_invokes tree part c) ≡ invoke_places c
  invoked_places None = refl
  invoked_places (Some block) = refl

  pub source_order_is : Rise (places_in part) → source_order (component_of tree part) ≡ as_written 0 part.wires (invoked tree part)
  source_order_is h =
      let ks = control_invokes tree part part.control in
      let places : List Place = map (λ k. k.place) ks in
      let rises : Rise (flat_map wire_places part.wires ++ places) = subst (λ ps. Rise (flat_map wire_places part.wires ++ ps)) (sym (invoked_places part.control)) h in
      sorted_by_place (invoked tree part) places (λ P k m. invoked_at P ks k m (first tree part)) (λ m. invoked_sorted ks (rise_second (flat_map wire_places part.wires) places rises) m (first tree part))
      part.wires rises 0

-- WITHOUT PLACES
owned-bare : (w : Option ℕ) (list : List PlainAssign) → map unplaced_owned (owned w list) ≡ owned w (map unplaced_assign list)
owned-bare w [] = refl
owned-bare w (a ∷ rest) = ap (λ os. record { owner = w; assign = unplaced_assign a } ∷ os) (owned-bare w rest)

owned_by_groups-bare : (n : ℕ) (gs : List PlainGroup) → map unplaced_owned (owned_by_groups n gs) ≡ owned_by_groups n (map unplaced_group gs)
owned_by_groups-bare n [] = refl
owned_by_groups-bare n (g ∷ gs) =
    map-append unplaced_owned (owned (Some n) g.assigns) (owned_by_groups (suc n) gs)
    ∙ ap (λ os. os ++ map unplaced_owned (owned_by_groups (suc n) gs)) (owned-bare (Some n) g.assigns)
    ∙ ap (λ os. owned (Some n) (map unplaced_assign g.assigns) ++ os) (owned_by_groups-bare (suc n) gs)

as_written-bare : (tree : ast.PlainTree) (part : ast.PlainComponent) (n : ℕ) (wires : List ast.PlainWire) (last : List PlainGroup)
    → map unplaced_owned (as_written tree part n wires last) ≡ as_written (without_places tree) (bare_component part) n (map bare_wire wires) (map unplaced_group last)
as_written-bare tree part n [] last = owned_by_groups-bare n last
as_written-bare tree part n (ast.Group g ∷ rest) last =
    map-append unplaced_owned (owned (Some n) (map (assign_of tree part) g.assigns)) (as_written tree part (suc n) rest last)
    ∙ ap (λ os. os ++ map unplaced_owned (as_written tree part (suc n) rest last)) (owned-bare (Some n) (map (assign_of tree part) g.assigns) ∙ ap (owned (Some n)) (assigns-bare tree part g.assigns))
    ∙ ap (λ os. owned (Some n) (map (assign_of (without_places tree) (bare_component part)) (map bare_assign g.assigns)) ++ os) (as_written-bare tree part (suc n) rest last)
as_written-bare tree part n (ast.Assign a ∷ rest) last =
    ap (λ x. record { owner = None; assign = x } ∷ map unplaced_owned (as_written tree part n rest last)) (assign_of-bare tree part a)
    ∙ ap (λ os. record { owner = None; assign = assign_of (without_places tree) (bare_component part) (bare_assign a) } ∷ os) (as_written-bare tree part n rest last)

-- the source order without places is that of the tree without places, as it is written
abbrev pub bare_order : ast.PlainTree → ast.PlainComponent → List Owned
bare_order tree part = as_written tree part 0 part.wires (invoked tree part)

pub order-bare : (tree : ast.PlainTree) (part : ast.PlainComponent) → Rise (places_in part) → map unplaced_owned (source_order (component_of tree part)) ≡ bare_order (without_places tree) (bare_component part)
order-bare tree part h =
    ap (map unplaced_owned) (source_order_is tree part h) ∙ as_written-bare tree part 0 part.wires (invoked tree part)
    ∙ ap (as_written (without_places tree) (bare_component part) 0 (map bare_wire part.wires)) (invoked-bare tree part)
