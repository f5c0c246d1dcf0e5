-- WHAT DRIVES THE MEMORY OF THE COUNTS while a group stores a count: the assignments of that group alone.
use Rattle.std.proofs.Common.{◌≡◌, ℕ, zero, suc, ◌+◌, ◌*◌, ◌<◌, ◌≤◌, inr, false, if◌then◌else◌, List, [], ◌∷◌, ◌++◌, length, Some, None, slice_get, get_or, refl, sym, ap, ◌∙◌, subst, arith}
use Rattle.std.proofs.lemmas.Bool.{ne_eqb, eq-eqb}
use Rattle.std.proofs.lemmas.List.{get_or-append-add}
use Rattle.cx_text.proofs.MemberLaws.{in_left, in_right}
use Rattle.cx_text.specs.declared.places.Place.{Place}
use Rattle.cx_meaning.specs.declared.kinds.GroupKind.TheVariants as kinds
use Rattle.cx_meaning.specs.declared.ports.PortRef.{PortRef}
use Rattle.cx_meaning.specs.declared.ports.PortRef.TheVariants as ports
use Rattle.cx_meaning.specs.Designs.{PlainAssign, PlainGroup, PlainComponent, PlainDesign, component_at, group_at, no_group}
use Rattle.cx_meaning.specs.Instances.{cells_of}
use Rattle.cx_meaning.specs.Active.{Active, owned, owned_by_groups, group, only_at, same_port, drivers, if_acting}
use Rattle.cx_meaning.proofs.PortsLemmas.{same_self}
use Rattle.cx_rules.specs.Ports.{component_of}
use Rattle.cx_rules.specs.Wellformed.{IsDesign}
use Rattle.cx_profiling.specs.Counters.{counters, counters_from, Shown, shown_in}
use Rattle.cx_profiling.specs.Instrumented.{drive, moved_assigns, counted_groups, store_assigns, store_groups, address_width, name_at, main_component, with_counts}
use Rattle.cx_profiling.proofs.GainedLemmas.{counted_groups-length}
use Rattle.cx_profiling.proofs.PortLemmas.{IsNew}
use Rattle.cx_profiling.proofs.LoneDrivers.{other_port, AllSilent, silent_joined, silent_owner, Lone, here, later, lone_after, lone_before, lone_drives}
use Rattle.cx_profiling.proofs.WalkLemmas.{groups_joined}
use Rattle.cx_profiling.proofs.RoleLemmas.{own_counters}
use Rattle.cx_profiling.proofs.CounterDrives.{Away, old_silent, counted_silent}
use Rattle.cx_profiling.proofs.InsideLemmas.{targets_inside}
use Rattle.cx_profiling.proofs.PairLemmas.{stored}

-- the four assignments of a store
pub data StoreWire : Type 0 where
  to_address : StoreWire
  to_data : StoreWire
  to_write : StoreWire
  to_done : StoreWire

abbrev pub store_target : StoreWire → ℕ → ℕ → PortRef
store_target to_address memory g = ports.Cell memory 0
store_target to_data memory g = ports.Cell memory 1
store_target to_write memory g = ports.Cell memory 2
store_target to_done memory g = ports.Done g

abbrev pub store_source : StoreWire → ℕ → ℕ → ℕ → PortRef → PortRef
store_source to_address memory width j count = ports.Literal width j
store_source to_data memory width j count = count
store_source to_write memory width j count = ports.Literal 1 1
store_source to_done memory width j count = ports.Cell memory 4

abbrev pub stores_one : Place → StoreWire → ℕ → ℕ → ℕ → ℕ → PortRef → PlainAssign
stores_one place w memory width g j count = drive place (store_target w memory g) (store_source w memory width j count)

apart_ports : (c p q : ℕ) → (p ≡ q → ⊥) → same_port (ports.Cell c p) (ports.Cell c q) ≡ false
apart_ports c p q differ = other_port (ports.Cell c p) (ports.Cell c q) (λ h. differ (number c p q h))
  where
    number : (c p q : ℕ) → ports.Cell c p ≡ ports.Cell c q → p ≡ q
    number c p q h = cc

differ_01 : ◌≡◌ {A = ℕ} 0 1 → ⊥
differ_01 e = omega (arith, e)

differ_02 : ◌≡◌ {A = ℕ} 0 2 → ⊥
differ_02 e = omega (arith, e)

differ_12 : ◌≡◌ {A = ℕ} 1 2 → ⊥
differ_12 e = omega (arith, e)

lone_store : (act : Active) (place : Place) (w : StoreWire) (memory width g j : ℕ) (count : PortRef)
    → Lone act (store_target w memory g) (record { owner = Some g; assign = stores_one place w memory width g j count }) (owned (Some g) (store_assigns place memory width g j count))
lone_store act place to_address memory width g j count =
    here (same_self (ports.Cell memory 0)) (inr (apart_ports memory 1 0 (λ e. differ_01 (sym e))), (inr (apart_ports memory 2 0 (λ e. differ_02 (sym e))), (inr refl, tt)))
lone_store act place to_data memory width g j count =
    later (inr (apart_ports memory 0 1 differ_01)) (here (same_self (ports.Cell memory 1)) (inr (apart_ports memory 2 1 (λ e. differ_12 (sym e))), (inr refl, tt)))
lone_store act place to_write memory width g j count =
    later (inr (apart_ports memory 0 2 differ_02)) (later (inr (apart_ports memory 1 2 differ_12)) (here (same_self (ports.Cell memory 2)) (inr refl, tt)))
lone_store act place to_done memory width g j count = later (inr refl) (later (inr refl) (later (inr refl) (here (same_self (ports.Done g)) tt)))

-- a group by itself
other_group : (g h : ℕ) → (g ≡ h → ⊥) → only_at g h ≡ None
other_group g h differ = ap (λ b. if b then Some 0 else None) (ne_eqb g h differ)

this_group : (g : ℕ) → only_at g g ≡ Some 0
this_group g = ap (λ b. if b then Some 0 else None) (eq-eqb g g refl)

later_silent : (g : ℕ) (p : PortRef) (place : Place) (names : List (List ℕ)) (memory width n h j : ℕ) (list : List Shown) → g < h → AllSilent (group g) p (owned_by_groups h (store_groups place names memory width n h j list))
later_silent g p place names memory width n h j [] less = tt
later_silent g p place names memory width n h j (x ∷ xs) less =
    silent_joined (group g) p (owned (Some h) (store_assigns place memory width h j x.port)) (owned_by_groups (suc h) (store_groups place names memory width (suc n) (suc h) (suc j) xs))
    (silent_owner (group g) p (Some h) (store_assigns place memory width h j x.port) (other_group g h (λ e. omega (arith, less, e)))) (later_silent g p place names memory width (suc n) (suc h) (suc j) xs (omega (arith, less)))

lone_in_stores : (g : ℕ) (w : StoreWire) (place : Place) (names : List (List ℕ)) (memory width n h j number : ℕ) (list : List Shown) (x : Shown) → slice_get list number ≡ Some x → h + number ≡ g
    → Lone (group g) (store_target w memory g) (record { owner = Some g; assign = stores_one place w memory width g (j + number) x.port }) (owned_by_groups h (store_groups place names memory width n h j list))
lone_in_stores g w place names memory width n h j number [] x at e = absurd (cc)
lone_in_stores g w place names memory width n h j zero (y ∷ ys) x at e =
    let same : h ≡ g = omega (arith, e) in
    let is : y ≡ x = cc in
    let word : j ≡ j + 0 = omega arith in
    subst (λ q. Lone (group g) (store_target w memory g) (record { owner = Some g; assign = stores_one place w memory width g q x.port }) (owned_by_groups h (store_groups place names memory width n h j (y ∷ ys)))) word
    (subst (λ z. Lone (group g) (store_target w memory g) (record { owner = Some g; assign = stores_one place w memory width g j z.port }) (owned_by_groups h (store_groups place names memory width n h j (y ∷ ys)))) is
    (subst (λ q. Lone (group g) (store_target w memory g) (record { owner = Some g; assign = stores_one place w memory width g j y.port }) (owned_by_groups q (store_groups place names memory width n q j (y ∷ ys)))) (sym same)
    (lone_before (group g) (store_target w memory g) (record { owner = Some g; assign = stores_one place w memory width g j y.port }) (owned_by_groups (suc g) (store_groups place names memory width (suc n) (suc g) (suc j) ys))
    (lone_store (group g) place w memory width g j y.port) (later_silent g (store_target w memory g) place names memory width (suc n) (suc g) (suc j) ys (omega arith)))))
lone_in_stores g w place names memory width n h j (suc number) (y ∷ ys) x at e =
    let word : suc j + number ≡ j + suc number = omega arith in
    lone_after (group g) (store_target w memory g) (record { owner = Some g; assign = stores_one place w memory width g (j + suc number) x.port }) (owned (Some h) (store_assigns place memory width h j y.port))
    (silent_owner (group g) (store_target w memory g) (Some h) (store_assigns place memory width h j y.port) (other_group g h (λ same. omega (arith, e, same))))
    (subst (λ q. Lone (group g) (store_target w memory g) (record { owner = Some g; assign = stores_one place w memory width g q x.port }) (owned_by_groups (suc h) (store_groups place names memory width (suc n) (suc h) (suc j) ys))) word
    (lone_in_stores g w place names memory width (suc n) (suc h) (suc j) number ys x at (omega (arith, e))))

store_group_at : (place : Place) (names : List (List ℕ)) (memory width n h j number : ℕ) (list : List Shown) (x : Shown) → slice_get list number ≡ Some x
    → (name : List ℕ) × (get_or (store_groups place names memory width n h j list) number no_group ≡ record { name = name; kind = kinds.Plain; assigns = store_assigns place memory width (h + number) (j + number) x.port; place = place })
store_group_at place names memory width n h j number [] x at = absurd (cc)
store_group_at place names memory width n h j zero (y ∷ ys) x at =
    let is : y ≡ x = cc in
    let group_is : h ≡ h + 0 = omega arith in
    let word : j ≡ j + 0 = omega arith in (
      name_at names n,
      ap (λ z. record { name = name_at names n; kind = kinds.Plain; assigns = store_assigns place memory width h j z.port; place = place }) is
          ∙ ap (λ q. record { name = name_at names n; kind = kinds.Plain; assigns = store_assigns place memory width q j x.port; place = place }) group_is
          ∙ ap (λ q. record { name = name_at names n; kind = kinds.Plain; assigns = store_assigns place memory width (h + 0) q x.port; place = place }) word,
    )
store_group_at place names memory width n h j (suc number) (y ∷ ys) x at =
    let group_is : suc h + number ≡ h + suc number = omega arith in
    let word : suc j + number ≡ j + suc number = omega arith in
    let r = store_group_at place names memory width (suc n) (suc h) (suc j) number ys x at in (
      r.0,
      r.1 ∙ ap (λ q. record { name = r.0; kind = kinds.Plain; assigns = store_assigns place memory width q (suc j + number) x.port; place = place }) group_is
          ∙ ap (λ q. record { name = r.0; kind = kinds.Plain; assigns = store_assigns place memory width (h + suc number) q x.port; place = place }) word,
    )

module _ (d : PlainDesign) (design : IsDesign d) (k : ℕ) (within : k < length d.components) (names : List (List ℕ)) (is : component_at (with_counts d) k ≡ main_component d k names) where
  abbrev part : PlainComponent
  part = component_at d k

  abbrev counted : List PlainGroup
  counted = counted_groups d part (cells_of (component_of d k)) (length part.cells) part.groups

  abbrev pub memory_place : ℕ
  memory_place = length part.cells + 2 * length (counters (component_of d k))

  abbrev pub memory_width : ℕ
  memory_width = address_width (length (shown_in (component_of d k)))

  wire_new : (w : StoreWire) (g : ℕ) → length part.groups ≤ g → IsNew d part (store_target w memory_place g)
  wire_new to_address g past = omega arith
  wire_new to_data g past = omega arith
  wire_new to_write g past = omega arith
  wire_new to_done g past = past

  wire_away : (w : StoreWire) (g n : ℕ) → n ≡ length (counters (component_of d k)) → Away (length part.cells) n (store_target w memory_place g)
  wire_away to_address g n e = inr (omega (arith, e))
  wire_away to_data g n e = inr (omega (arith, e))
  wire_away to_write g n e = inr (omega (arith, e))
  wire_away to_done g n e = tt

  count : 0 + length counted ≡ length part.groups
  count = let same : length counted ≡ length part.groups = counted_groups-length d part (cells_of (component_of d k)) (length part.cells) part.groups in omega (arith, same)

  -- WHAT A STORE DRIVES
  pub store_driven : (w : StoreWire) (n : ℕ) (x : Shown) → slice_get (shown_in (component_of d k)) n ≡ Some x
      → drivers (component_at (with_counts d) k) (group (length part.groups + n)) (store_target w memory_place (length part.groups + n))
      ≡ record { offset = 0; assign = stores_one part.place w memory_place memory_width (length part.groups + n) n x.port } ∷ []
  store_driven w n x at =
      let g = length part.groups + n in
      let past : length part.groups ≤ g = omega arith in
      let zero_first : 0 + n ≡ n = omega arith in
      ap (λ other. drivers other (group g) (store_target w memory_place g)) is
      ∙ lone_drives (group g) (store_target w memory_place g) (main_component d k names) (record { owner = Some g; assign = stores_one part.place w memory_place memory_width g n x.port })
      (lone_after (group g) (store_target w memory_place g) (record { owner = Some g; assign = stores_one part.place w memory_place memory_width g n x.port }) (owned None (moved_assigns d part part.always))
      (old_silent d part (group g) (store_target w memory_place g) (wire_new w g past) None part.always (λ o i. targets_inside d design k within o (in_left (owned None part.always) (owned_by_groups 0 part.groups) o i)))
      (subst (Lone (group g) (store_target w memory_place g) (record { owner = Some g; assign = stores_one part.place w memory_place memory_width g n x.port })) (sym (groups_joined 0 (length part.groups) counted (stored d design k within names) count))
      (lone_after (group g) (store_target w memory_place g) (record { owner = Some g; assign = stores_one part.place w memory_place memory_width g n x.port }) (owned_by_groups 0 counted)
      (counted_silent d part (group g) (cells_of (component_of d k)) (store_target w memory_place g) (wire_new w g past) (length part.cells) 0 part.groups
      (λ o i. targets_inside d design k within o (in_right (owned None part.always) (owned_by_groups 0 part.groups) o i)) (wire_away w g (length (counters_from (cells_of (component_of d k)) (length part.cells) 0 part.groups)) (ap length (sym (own_counters d k)))))
      (subst (λ q. Lone (group g) (store_target w memory_place g) (record { owner = Some g; assign = stores_one part.place w memory_place memory_width g q x.port }) (owned_by_groups (length part.groups) (stored d design k within names))) zero_first
      (lone_in_stores g w part.place names memory_place memory_width (suc (2 * length (counters (component_of d k)))) (length part.groups) 0 n (shown_in (component_of d k)) x at refl)))))
      ∙ ap (λ o. if_acting o (stores_one part.place w memory_place memory_width g n x.port) []) (this_group g)

  pub store_group : (n : ℕ) (x : Shown) → slice_get (shown_in (component_of d k)) n ≡ Some x
      → (name : List ℕ) × (group_at (component_at (with_counts d) k) (length part.groups + n)
      ≡ record { name = name; kind = kinds.Plain; assigns = store_assigns part.place memory_place memory_width (length part.groups + n) n x.port; place = part.place })
  store_group n x at =
      let zero_first : 0 + n ≡ n = omega arith in
      let r = store_group_at part.place names memory_place memory_width (suc (2 * length (counters (component_of d k)))) (length part.groups) 0 n (shown_in (component_of d k)) x at in
      let first : length counted ≡ length part.groups = counted_groups-length d part (cells_of (component_of d k)) (length part.cells) part.groups in (
        r.0,
        ap (λ other. group_at other (length part.groups + n)) is ∙ ap (λ q. get_or (counted ++ stored d design k within names) (q + n) no_group) (sym first)
            ∙ get_or-append-add counted (stored d design k within names) n no_group ∙ r.1
            ∙ ap (λ q. record { name = r.0; kind = kinds.Plain; assigns = store_assigns part.place memory_place memory_width (length part.groups + n) q x.port; place = part.place }) zero_first,
      )
