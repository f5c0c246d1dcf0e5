-- WHAT DRIVES THE NEW PORTS of an instrumented component: each port of a counter one assignment of its group, and no other.
use Rattle.std.proofs.Common.{◌≡◌, ℕ, suc, ◌+◌, ◌*◌, ◌<◌, ◌≤◌, inl, inr, ◌⊎◌, ⊎_elim, Bool, true, false, if◌then◌else◌, List, [], ◌∷◌, ◌++◌, length, Option, Some, None, refl, sym, ap, ◌∙◌, subst, arith}
use Rattle.cx_text.proofs.MemberLaws.{in_left, in_right}
use Rattle.cx_text.specs.declared.places.Place.{Place}
use Rattle.cx_meaning.specs.declared.ports.PortRef.{PortRef}
use Rattle.cx_meaning.specs.declared.ports.PortRef.TheVariants as ports
use Rattle.cx_meaning.specs.Designs.{PlainAssign, PlainGroup, PlainComponent, PlainDesign, component_at}
use Rattle.cx_meaning.specs.Instances.{Cells, cells_of}
use Rattle.cx_meaning.specs.Active.{Active, Owned, owned, owned_by_groups, if_acting, same_port, drivers}
use Rattle.cx_text.specs.Members.{In}
use Rattle.cx_meaning.proofs.PortsLemmas.{same_self}
use Rattle.cx_rules.specs.Ports.{component_of}
use Rattle.cx_rewrites.specs.Driving.{assigns_of}
use Rattle.cx_profiling.specs.Counters.{is_counted, Counter, counters_from, counters, Shown, shown_in}
use Rattle.cx_profiling.specs.Instrumented.{drive, is_reached, moved_in, moved_assigns, group_with, counted_groups, counter_assigns, output_assigns, store_groups, address_width, main_component, child_component, with_counts}
use Rattle.cx_profiling.proofs.GainedLemmas.{counted_groups-length}
use Rattle.cx_profiling.proofs.PortLemmas.{IsInside, IsNew, old_or_new}
use Rattle.cx_profiling.proofs.LoneDrivers.{other_port, AllSilent, silent_joined, Lone, here, later, lone_after, lone_before, lone_drives}
use Rattle.cx_profiling.proofs.WalkLemmas.{owned_joined, groups_joined}
use Rattle.cx_profiling.proofs.CounterLemmas.{in_counters}
use Rattle.cx_profiling.proofs.RoleLemmas.{Role, as_main, as_child, as_kept, role, own_counters}

cell_number : (c e p q : ℕ) → ports.Cell c p ≡ ports.Cell e q → c ≡ e
cell_number c e p q h = cc

port_number : (c e p q : ℕ) → ports.Cell c p ≡ ports.Cell e q → p ≡ q
port_number c e p q h = cc

-- the four assignments of a counter
pub data Wire : Type 0 where
  to_left : Wire
  to_right : Wire
  to_in : Wire
  to_enable : Wire

abbrev pub wire_target : Wire → ℕ → PortRef
wire_target to_left r = ports.Cell (suc r) 0
wire_target to_right r = ports.Cell (suc r) 1
wire_target to_in r = ports.Cell r 0
wire_target to_enable r = ports.Cell r 1

abbrev pub wire_source : Wire → ℕ → PortRef
wire_source to_left r = ports.Cell r 2
wire_source to_right r = ports.Literal 64 1
wire_source to_in r = ports.Cell (suc r) 2
wire_source to_enable r = ports.Literal 1 1

abbrev pub wire : Place → Wire → ℕ → PlainAssign
wire place w r = drive place (wire_target w r) (wire_source w r)

-- a port of no counter's cell at c, and of none of so many from c on
abbrev pub Away : ℕ → ℕ → PortRef → Type 0
Away c n (ports.Cell e p) = (e < c) ⊎ (c + 2 * n ≤ e)
Away c n (ports.Input m) = Unit {0}
Away c n (ports.Output m) = Unit {0}
Away c n (ports.Done g) = Unit {0}
Away c n (ports.Literal w v) = Unit {0}

away_cell : (c n e q : ℕ) (p : PortRef) → Away c (suc n) p → (e ≡ c) ⊎ (e ≡ suc c) → ports.Cell e q ≡ p → ⊥
away_cell c n e q (ports.Cell f r) away is h =
    let same : e ≡ f = cell_number e f q r h in
    ⊎_elim
    (λ (less : f < c). ⊎_elim (λ (one : e ≡ c). omega (arith, less, same, one)) (λ (two : e ≡ suc c). omega (arith, less, same, two)) is)
    (λ (past : c + 2 * suc n ≤ f). ⊎_elim (λ (one : e ≡ c). omega (arith, past, same, one)) (λ (two : e ≡ suc c). omega (arith, past, same, two)) is) away
away_cell c n e q (ports.Input m) away is h = absurd (cc)
away_cell c n e q (ports.Output m) away is h = absurd (cc)
away_cell c n e q (ports.Done g) away is h = absurd (cc)
away_cell c n e q (ports.Literal w v) away is h = absurd (cc)

away_more : (c n : ℕ) (p : PortRef) → Away c (suc n) p → Away (suc (suc c)) n p
away_more c n (ports.Cell e q) (inl less) = inl (omega (arith, less))
away_more c n (ports.Cell e q) (inr past) = inr (omega (arith, past))
away_more c n (ports.Input m) away = tt
away_more c n (ports.Output m) away = tt
away_more c n (ports.Done g) away = tt
away_more c n (ports.Literal w v) away = tt

wire_new : (w : Wire) (r c n : ℕ) → suc (suc r) ≤ c → Away c n (wire_target w r)
wire_new to_left r c n less = inl less
wire_new to_right r c n less = inl less
wire_new to_in r c n less = inl (omega (arith, less))
wire_new to_enable r c n less = inl (omega (arith, less))

wire_past : (w : Wire) (r c n : ℕ) → c + 2 * n ≤ r → Away c n (wire_target w r)
wire_past to_left r c n past = inr (omega (arith, past))
wire_past to_right r c n past = inr (omega (arith, past))
wire_past to_in r c n past = inr past
wire_past to_enable r c n past = inr past

counter_silent : (act : Active) (p : PortRef) (owner : Option ℕ) (place : Place) (c n : ℕ) → Away c (suc n) p → AllSilent act p (owned owner (counter_assigns place c))
counter_silent act p owner place c n away = (
  inr (other_port (ports.Cell (suc c) 0) p (away_cell c n (suc c) 0 p away (inr refl))),
  (
    inr (other_port (ports.Cell (suc c) 1) p (away_cell c n (suc c) 1 p away (inr refl))),
    (inr (other_port (ports.Cell c 0) p (away_cell c n c 0 p away (inl refl))), (inr (other_port (ports.Cell c 1) p (away_cell c n c 1 p away (inl refl))), tt)),
  ),
)

apart_cells : (c e p q : ℕ) → (c ≡ e → ⊥) → same_port (ports.Cell c p) (ports.Cell e q) ≡ false
apart_cells c e p q differ = other_port (ports.Cell c p) (ports.Cell e q) (λ h. differ (cell_number c e p q h))

apart_ports : (c p q : ℕ) → (p ≡ q → ⊥) → same_port (ports.Cell c p) (ports.Cell c q) ≡ false
apart_ports c p q differ = other_port (ports.Cell c p) (ports.Cell c q) (λ h. differ (port_number c c p q h))

after_not : (r : ℕ) → suc r ≡ r → ⊥
after_not r e = omega (arith, e)

before_not : (r : ℕ) → r ≡ suc r → ⊥
before_not r e = omega (arith, e)

zero_not : ◌≡◌ {A = ℕ} 0 1 → ⊥
zero_not e = omega (arith, e)

one_not : ◌≡◌ {A = ℕ} 1 0 → ⊥
one_not e = omega (arith, e)

lone_counter : (act : Active) (owner : Option ℕ) (place : Place) (w : Wire) (r : ℕ) → Lone act (wire_target w r) (record { owner = owner; assign = wire place w r }) (owned owner (counter_assigns place r))
lone_counter act owner place to_left r =
    here (same_self (ports.Cell (suc r) 0)) (inr (apart_ports (suc r) 1 0 one_not), (inr (apart_cells r (suc r) 0 0 (before_not r)), (inr (apart_cells r (suc r) 1 0 (before_not r)), tt)))
lone_counter act owner place to_right r =
    later (inr (apart_ports (suc r) 0 1 zero_not))
    (here (same_self (ports.Cell (suc r) 1)) (inr (apart_cells r (suc r) 0 1 (before_not r)), (inr (apart_cells r (suc r) 1 1 (before_not r)), tt)))
lone_counter act owner place to_in r =
    later (inr (apart_cells (suc r) r 0 0 (after_not r))) (later (inr (apart_cells (suc r) r 1 0 (after_not r)))
    (here (same_self (ports.Cell r 0)) (inr (apart_ports r 1 0 one_not), tt)))
lone_counter act owner place to_enable r =
    later (inr (apart_cells (suc r) r 0 1 (after_not r))) (later (inr (apart_cells (suc r) r 1 1 (after_not r)))
    (later (inr (apart_ports r 0 1 zero_not)) (here (same_self (ports.Cell r 1)) tt)))

module _ (d : PlainDesign) (part : PlainComponent) (act : Active) where
  pub old_silent : (p : PortRef) → IsNew d part p → (owner : Option ℕ) (list : List PlainAssign) → ((o : Owned) → In (owned owner list) o → IsInside d part o.assign.target)
      → AllSilent act p (owned owner (moved_assigns d part list))
  old_silent p new owner [] h = tt
  old_silent p new owner (a ∷ rest) h =
      (inr (other_port (moved_in d part a.target) p (old_or_new d part a.target p (h (record { owner = owner; assign = a }) (inl refl)) new)), old_silent p new owner rest (λ o i. h o (inr i)))

  group_silent : (p : PortRef) → IsNew d part p → (g : ℕ) (x : PlainGroup) (more : List PlainAssign) → ((o : Owned) → In (owned (Some g) x.assigns) o → IsInside d part o.assign.target)
      → AllSilent act p (owned (Some g) more) → AllSilent act p (owned (Some g) (group_with d part x more).assigns)
  group_silent p new g x more h k =
      subst (AllSilent act p) (sym (owned_joined (Some g) (moved_assigns d part x.assigns) more))
      (silent_joined act p (owned (Some g) (moved_assigns d part x.assigns)) (owned (Some g) more) (old_silent p new (Some g) x.assigns h) k)

  module _ (cells : Cells) where
    pub counted_silent : (p : PortRef) → IsNew d part p → (c g : ℕ) (groups : List PlainGroup) → ((o : Owned) → In (owned_by_groups g groups) o → IsInside d part o.assign.target)
        → Away c (length (counters_from cells c g groups)) p → AllSilent act p (owned_by_groups g (counted_groups d part cells c groups))
    counted_silent p new c g [] h away = tt
    counted_silent p new c g (x ∷ xs) h away = by (is_counted cells x) away (counted_silent p new (suc (suc c)) (suc g) xs rest) (counted_silent p new c (suc g) xs rest)
      where
        first : (o : Owned) → In (owned (Some g) x.assigns) o → IsInside d part o.assign.target
        first o i = h o (in_left (owned (Some g) x.assigns) (owned_by_groups (suc g) xs) o i)

        rest : (o : Owned) → In (owned_by_groups (suc g) xs) o → IsInside d part o.assign.target
        rest o i = h o (in_right (owned (Some g) x.assigns) (owned_by_groups (suc g) xs) o i)

        by : (t : Bool)
            → Away c (length (if t then record { group = g; register = c } ∷ counters_from cells (suc (suc c)) (suc g) xs else counters_from cells c (suc g) xs)) p
            → (Away (suc (suc c)) (length (counters_from cells (suc (suc c)) (suc g) xs)) p → AllSilent act p (owned_by_groups (suc g) (counted_groups d part cells (suc (suc c)) xs)))
            → (Away c (length (counters_from cells c (suc g) xs)) p → AllSilent act p (owned_by_groups (suc g) (counted_groups d part cells c xs)))
            → AllSilent act p (owned_by_groups g (if t then group_with d part x (counter_assigns part.place c) ∷ counted_groups d part cells (suc (suc c)) xs else group_with d part x [] ∷ counted_groups d part cells c xs))
        by true away next same =
            silent_joined act p (owned (Some g) (group_with d part x (counter_assigns part.place c)).assigns) (owned_by_groups (suc g) (counted_groups d part cells (suc (suc c)) xs))
            (group_silent p new g x (counter_assigns part.place c) first (counter_silent act p (Some g) part.place c (length (counters_from cells (suc (suc c)) (suc g) xs)) away))
            (next (away_more c (length (counters_from cells (suc (suc c)) (suc g) xs)) p away))
        by false away next same =
            silent_joined act p (owned (Some g) (group_with d part x []).assigns) (owned_by_groups (suc g) (counted_groups d part cells c xs)) (group_silent p new g x [] first tt) (same away)

    wire_is_new : (w : Wire) (r : ℕ) → length part.cells ≤ r → IsNew d part (wire_target w r)
    wire_is_new to_left r past = omega (arith, past)
    wire_is_new to_right r past = omega (arith, past)
    wire_is_new to_in r past = past
    wire_is_new to_enable r past = past

    -- A WIRE OF A COUNTER stands alone
    abbrev IsLone : Wire → Counter → List Owned → Type 0
    IsLone w x list = Lone act (wire_target w x.register) (record { owner = Some x.group; assign = wire part.place w x.register }) list

    pub lone_wire : (w : Wire) (x : Counter) (c g : ℕ) (groups : List PlainGroup) → ((o : Owned) → In (owned_by_groups g groups) o → IsInside d part o.assign.target) → length part.cells ≤ c
        → In (counters_from cells c g groups) x → IsLone w x (owned_by_groups g (counted_groups d part cells c groups))
    lone_wire w x c g [] h past i = absurd i
    lone_wire w x c g (y ∷ ys) h past i =
        by (is_counted cells y) i (lone_wire w x (suc (suc c)) (suc g) ys rest (omega (arith, past))) (lone_wire w x c (suc g) ys rest past)
      where
        first : (o : Owned) → In (owned (Some g) y.assigns) o → IsInside d part o.assign.target
        first o i = h o (in_left (owned (Some g) y.assigns) (owned_by_groups (suc g) ys) o i)

        rest : (o : Owned) → In (owned_by_groups (suc g) ys) o → IsInside d part o.assign.target
        rest o i = h o (in_right (owned (Some g) y.assigns) (owned_by_groups (suc g) ys) o i)

        here_alone : IsLone w (record { group = g; register = c }) (owned_by_groups g (group_with d part y (counter_assigns part.place c) ∷ counted_groups d part cells (suc (suc c)) ys))
        here_alone =
            lone_before act (wire_target w c) _ (owned_by_groups (suc g) (counted_groups d part cells (suc (suc c)) ys))
            (subst (Lone act (wire_target w c) _) (sym (owned_joined (Some g) (moved_assigns d part y.assigns) (counter_assigns part.place c)))
            (lone_after act (wire_target w c) _ (owned (Some g) (moved_assigns d part y.assigns)) (old_silent (wire_target w c) (wire_is_new w c past) (Some g) y.assigns first)
            (lone_counter act (Some g) part.place w c)))
            (counted_silent (wire_target w c) (wire_is_new w c past) (suc (suc c)) (suc g) ys rest (wire_new w c (suc (suc c)) (length (counters_from cells (suc (suc c)) (suc g) ys)) (omega arith)))

        past_register : (i : In (counters_from cells (suc (suc c)) (suc g) ys) x) → suc (suc c) ≤ x.register
        past_register i =
            let r = in_counters cells (suc (suc c)) (suc g) ys x i in
            let number : x.register ≡ suc (suc c) + 2 * r.0 = r.2 in
            omega (arith, number)

        past_same : (i : In (counters_from cells c (suc g) ys) x) → c ≤ x.register
        past_same i =
            let r = in_counters cells c (suc g) ys x i in
            let number : x.register ≡ c + 2 * r.0 = r.2 in
            omega (arith, number)

        by : (t : Bool) → In (if t then record { group = g; register = c } ∷ counters_from cells (suc (suc c)) (suc g) ys else counters_from cells c (suc g) ys) x
            → (In (counters_from cells (suc (suc c)) (suc g) ys) x → IsLone w x (owned_by_groups (suc g) (counted_groups d part cells (suc (suc c)) ys)))
            → (In (counters_from cells c (suc g) ys) x → IsLone w x (owned_by_groups (suc g) (counted_groups d part cells c ys)))
            → IsLone w x (owned_by_groups g (if t then group_with d part y (counter_assigns part.place c) ∷ counted_groups d part cells (suc (suc c)) ys else group_with d part y [] ∷ counted_groups d part cells c ys))
        by true (inl e) next same = subst (λ z. IsLone w z (owned_by_groups g (group_with d part y (counter_assigns part.place c) ∷ counted_groups d part cells (suc (suc c)) ys))) e here_alone
        by true (inr i) next same =
            let far : suc (suc c) ≤ x.register = past_register i in
            lone_after act (wire_target w x.register) _ (owned (Some g) (group_with d part y (counter_assigns part.place c)).assigns)
            (group_silent (wire_target w x.register) (wire_is_new w x.register (omega (arith, past, far))) g y (counter_assigns part.place c) first
            (counter_silent act (wire_target w x.register) (Some g) part.place c 0 (wire_past w x.register c 1 (omega (arith, far)))))
            (next i)
        by false i next same =
            let far : c ≤ x.register = past_same i in
            lone_after act (wire_target w x.register) _ (owned (Some g) (group_with d part y []).assigns)
            (group_silent (wire_target w x.register) (wire_is_new w x.register (omega (arith, past, far))) g y [] first tt) (same i)

  -- outputs drive no port of a cell, and stores none of a cell before the memory
  abbrev IsCellBefore : ℕ → PortRef → Type 0
  IsCellBefore memory (ports.Cell e p) = e < memory
  IsCellBefore memory (ports.Input m) = ⊥
  IsCellBefore memory (ports.Output m) = ⊥
  IsCellBefore memory (ports.Done g) = ⊥
  IsCellBefore memory (ports.Literal w v) = ⊥

  outputs_silent : (memory : ℕ) (p : PortRef) → IsCellBefore memory p → (place : Place) (n : ℕ) (list : List Shown) → AllSilent act p (owned None (output_assigns place n list))
  outputs_silent memory (ports.Cell e q) before place n [] = tt
  outputs_silent memory (ports.Cell e q) before place n (x ∷ xs) = (inr refl, outputs_silent memory (ports.Cell e q) before place (suc n) xs)
  outputs_silent memory (ports.Input m) before place n list = absurd before
  outputs_silent memory (ports.Output m) before place n list = absurd before
  outputs_silent memory (ports.Done g) before place n list = absurd before
  outputs_silent memory (ports.Literal w v) before place n list = absurd before

  stores_silent : (p : PortRef) (place : Place) (names : List (List ℕ)) (memory width n g j : ℕ) (list : List Shown) → IsCellBefore memory p
      → AllSilent act p (owned_by_groups g (store_groups place names memory width n g j list))
  stores_silent p place names memory width n g j [] before = tt
  stores_silent (ports.Cell e q) place names memory width n g j (x ∷ xs) before =
      let apart : memory ≡ e → ⊥ = λ same. omega (arith, before, same) in
      (inr (apart_cells memory e 0 q apart), (inr (apart_cells memory e 1 q apart), (inr (apart_cells memory e 2 q apart), (inr refl, stores_silent (ports.Cell e q) place names memory width (suc n) (suc g) (suc j) xs before))))
  stores_silent (ports.Input m) place names memory width n g j (x ∷ xs) before = absurd before
  stores_silent (ports.Output m) place names memory width n g j (x ∷ xs) before = absurd before
  stores_silent (ports.Done h) place names memory width n g j (x ∷ xs) before = absurd before
  stores_silent (ports.Literal w v) place names memory width n g j (x ∷ xs) before = absurd before

  pub wire_before : (w : Wire) (r memory : ℕ) → suc (suc r) ≤ memory → IsCellBefore memory (wire_target w r)
  wire_before to_left r memory less = less
  wire_before to_right r memory less = less
  wire_before to_in r memory less = omega (arith, less)
  wire_before to_enable r memory less = omega (arith, less)

-- WHAT DRIVES A COUNTER
module _ (d : PlainDesign) (k : ℕ) (within : k < length d.components) (reached : is_reached d k ≡ true)
    (inside : (o : Owned) → In (assigns_of (component_at d k)) o → IsInside d (component_at d k) o.assign.target) where
  abbrev part : PlainComponent
  part = component_at d k

  abbrev cells : Cells
  cells = cells_of (component_of d k)

  abbrev always_inside : (o : Owned) → In (owned None part.always) o → IsInside d part o.assign.target
  always_inside o i = inside o (in_left (owned None part.always) (owned_by_groups 0 part.groups) o i)

  abbrev groups_inside : (o : Owned) → In (owned_by_groups 0 part.groups) o → IsInside d part o.assign.target
  groups_inside o i = inside o (in_right (owned None part.always) (owned_by_groups 0 part.groups) o i)

  pub counter_driven : (act : Active) (w : Wire) (x : Counter) → In (counters (component_of d k)) x
      → drivers (component_at (with_counts d) k) act (wire_target w x.register) ≡ if_acting (act.offset x.group) (wire part.place w x.register) []
  counter_driven act w x i = by (role d k within)
    where
      listed : In (counters_from cells (length part.cells) 0 part.groups) x
      listed = subst (λ list. In list x) (own_counters d k) i

      number : (n : ℕ) × (n < length (counters_from cells (length part.cells) 0 part.groups)) × (x.register ≡ length part.cells + 2 * n)
      number = in_counters cells (length part.cells) 0 part.groups x listed

      past : length part.cells ≤ x.register
      past = let is : x.register ≡ length part.cells + 2 * number.0 = number.2 in omega (arith, is)

      new : IsNew d part (wire_target w x.register)
      new = wire_is_new d part act cells w x.register past

      groups_lone : Lone act (wire_target w x.register) (record { owner = Some x.group; assign = wire part.place w x.register }) (owned_by_groups 0 (counted_groups d part cells (length part.cells) part.groups))
      groups_lone = lone_wire d part act cells w x (length part.cells) 0 part.groups groups_inside (omega arith) listed

      both : (b : Bool) → b ≡ true → b ≡ false → ⊥
      both true e f = absurd (cc)
      both false e f = absurd (cc)

      before : suc (suc x.register) ≤ length part.cells + 2 * length (counters (component_of d k))
      before =
          let count : length (counters (component_of d k)) ≡ length (counters_from cells (length part.cells) 0 part.groups) = ap length (own_counters d k) in
          let few : number.0 < length (counters_from cells (length part.cells) 0 part.groups) = number.1 in
          let is : x.register ≡ length part.cells + 2 * number.0 = number.2 in
          omega (arith, count, few, is)

      by : Role d k → drivers (component_at (with_counts d) k) act (wire_target w x.register) ≡ if_acting (act.offset x.group) (wire part.place w x.register) []
      by (as_main names is e) =
          ap (λ other. drivers other act (wire_target w x.register)) e
          ∙ lone_drives act (wire_target w x.register) (main_component d k names) (record { owner = Some x.group; assign = wire part.place w x.register })
          (lone_after act (wire_target w x.register) _ (owned None (moved_assigns d part part.always)) (old_silent d part act (wire_target w x.register) new None part.always always_inside)
          (subst (Lone act (wire_target w x.register) _)
          (sym (groups_joined 0 (length part.groups) (counted_groups d part cells (length part.cells) part.groups) _ (let count : length (counted_groups d part cells (length part.cells) part.groups) ≡ length part.groups = counted_groups-length d part cells (length part.cells) part.groups in omega (arith, count))))
          (lone_before act (wire_target w x.register) _ (owned_by_groups (length part.groups) (store_groups part.place names (length part.cells + 2 * length (counters (component_of d k))) (address_width (length (shown_in (component_of d k)))) (suc (2 * length (counters (component_of d k)))) (length part.groups) 0 (shown_in (component_of d k))))
          groups_lone
          (stores_silent d part act (wire_target w x.register) part.place names (length part.cells + 2 * length (counters (component_of d k))) (address_width (length (shown_in (component_of d k)))) (suc (2 * length (counters (component_of d k)))) (length part.groups) 0 (shown_in (component_of d k))
          (wire_before d part act w x.register (length part.cells + 2 * length (counters (component_of d k))) before)))))
      by (as_child names is r e) =
          ap (λ other. drivers other act (wire_target w x.register)) e
          ∙ lone_drives act (wire_target w x.register) (child_component d k names) (record { owner = Some x.group; assign = wire part.place w x.register })
          (lone_after act (wire_target w x.register) _ (owned None (moved_assigns d part part.always ++ output_assigns part.place (length part.outputs) (shown_in (component_of d k))))
          (subst (AllSilent act (wire_target w x.register)) (sym (owned_joined None (moved_assigns d part part.always) (output_assigns part.place (length part.outputs) (shown_in (component_of d k)))))
          (silent_joined act (wire_target w x.register) (owned None (moved_assigns d part part.always)) (owned None (output_assigns part.place (length part.outputs) (shown_in (component_of d k))))
          (old_silent d part act (wire_target w x.register) new None part.always always_inside)
          (outputs_silent d part act (length part.cells + 2 * length (counters (component_of d k))) (wire_target w x.register) (wire_before d part act w x.register (length part.cells + 2 * length (counters (component_of d k))) before) part.place (length part.outputs) (shown_in (component_of d k)))))
          groups_lone)
      by (as_kept is r e) = absurd (both (is_reached d k) reached r)
