-- THE GROUPS of an instrumented component: each has its assignments, moved, and a counted one those of its counter behind them.
use Rattle.std.proofs.Common.{◌≡◌, ℕ, zero, suc, ◌+◌, ◌-◌, ◌*◌, ◌<◌, ◌≤◌, inl, inr, ⊎_elim, Bool, true, false, ◌||◌, if◌then◌else◌, List, [], ◌∷◌, ◌++◌, length, None, get_or, refl, sym, ap, ◌∙◌, subst, arith}
use Rattle.std.proofs.lemmas.Bool.{cases_eq}
use Rattle.std.proofs.lemmas.List.{get_or_append_left, get_or-append_right, get_or_past}
use Rattle.cx_text.specs.declared.places.Place.{Place}
use Rattle.cx_meaning.specs.declared.ports.PortRef.{PortRef}
use Rattle.cx_meaning.specs.declared.ports.PortRef.TheVariants as ports
use Rattle.cx_meaning.specs.Designs.{PlainAssign, PlainGroup, PlainComponent, PlainDesign, component_at, group_at, no_group}
use Rattle.cx_meaning.specs.Instances.{Cells, cells_of, just}
use Rattle.cx_text.specs.Members.{In}
use Rattle.cx_meaning.specs.Islands.{kind_length, group_length}
use Rattle.cx_meaning.specs.Control.{targets_cell, assigns_drive, group_drives}
use Rattle.cx_meaning.proofs.InstancesLemmas.{not_just, just_same}
use Rattle.cx_rules.specs.Ports.{component_of}
use Rattle.cx_profiling.specs.Counters.{is_counted, Counter, counters_from, counters, Shown, shown_in}
use Rattle.cx_profiling.specs.Instrumented.{is_reached, moved_in, moved_assigns, group_with, counted_groups, counter_assigns, store_groups, address_width, with_counts}
use Rattle.cx_profiling.proofs.GainedLemmas.{counted_groups-length}
use Rattle.cx_profiling.proofs.CounterLemmas.{in_counters}
use Rattle.cx_profiling.proofs.RoleLemmas.{Role, as_main, as_child, as_kept, role, own_counters}

-- a group of a list, by whether it is counted
pub data GroupOf (d : PlainDesign) (part : PlainComponent) (cells : Cells) (listed : List Counter) (number : ℕ) (old new : PlainGroup) : Type 0 where
  counted_group : (r : ℕ) → In listed (record { group = number; register = r }) → is_counted cells old ≡ true → new ≡ group_with d part old (counter_assigns part.place r) → GroupOf d part cells listed number old new
  plain_group : is_counted cells old ≡ false → new ≡ group_with d part old [] → GroupOf d part cells listed number old new

module _ (d : PlainDesign) (part : PlainComponent) (cells : Cells) where
  wider : (xs ys : List Counter) (n m : ℕ) (old new : PlainGroup) → n ≡ m → ((x : Counter) → In xs x → In ys x) → GroupOf d part cells xs n old new → GroupOf d part cells ys m old new
  wider xs ys n m old new e h (counted_group r i is same) = counted_group r (subst (λ z. In ys (record { group = z; register = r })) e (h (record { group = n; register = r }) i)) is same
  wider xs ys n m old new e h (plain_group is same) = plain_group is same

  pub group_of : (c g : ℕ) (groups : List PlainGroup) (n : ℕ) → n < length groups
      → GroupOf d part cells (counters_from cells c g groups) (g + n) (get_or groups n no_group) (get_or (counted_groups d part cells c groups) n no_group)
  group_of c g [] n few = absurd (omega (arith, few))
  group_of c g (x ∷ xs) n few = by (is_counted cells x) refl n few (group_of (suc (suc c)) (suc g) xs) (group_of c (suc g) xs)
    where
      by : (t : Bool) → is_counted cells x ≡ t → (n : ℕ) → n < length (x ∷ xs)
          → ((n : ℕ) → n < length xs → GroupOf d part cells (counters_from cells (suc (suc c)) (suc g) xs) (suc g + n) (get_or xs n no_group) (get_or (counted_groups d part cells (suc (suc c)) xs) n no_group))
          → ((n : ℕ) → n < length xs → GroupOf d part cells (counters_from cells c (suc g) xs) (suc g + n) (get_or xs n no_group) (get_or (counted_groups d part cells c xs) n no_group))
          → GroupOf d part cells (if t then record { group = g; register = c } ∷ counters_from cells (suc (suc c)) (suc g) xs else counters_from cells c (suc g) xs) (g + n) (get_or (x ∷ xs) n no_group)
          (get_or (if t then group_with d part x (counter_assigns part.place c) ∷ counted_groups d part cells (suc (suc c)) xs else group_with d part x [] ∷ counted_groups d part cells c xs) n no_group)
      by true e zero few next same = let none : g ≡ g + 0 = omega arith in counted_group c (inl (ap (λ z. record { group = z; register = c }) none)) e refl
      by true e (suc n) few next same =
          wider (counters_from cells (suc (suc c)) (suc g) xs) (record { group = g; register = c } ∷ counters_from cells (suc (suc c)) (suc g) xs) (suc g + n) (g + suc n) (get_or xs n no_group)
          (get_or (counted_groups d part cells (suc (suc c)) xs) n no_group) (omega arith) (λ y i. inr i) (next n (omega (arith, few)))
      by false e zero few next same = plain_group e refl
      by false e (suc n) few next same =
          wider (counters_from cells c (suc g) xs) (counters_from cells c (suc g) xs) (suc g + n) (g + suc n) (get_or xs n no_group) (get_or (counted_groups d part cells c xs) n no_group) (omega arith) (λ y i. i)
          (same n (omega (arith, few)))

  -- the group of a counter is counted by it
  pub counter_group : (c g : ℕ) (groups : List PlainGroup) (x : Counter) → In (counters_from cells c g groups) x
      → (n : ℕ) × (x.group ≡ g + n) × (n < length groups) × (get_or (counted_groups d part cells c groups) n no_group ≡ group_with d part (get_or groups n no_group) (counter_assigns part.place x.register))
      × (is_counted cells (get_or groups n no_group) ≡ true)
  counter_group c g [] x i = absurd i
  counter_group c g (y ∷ ys) x i = by (is_counted cells y) refl i (counter_group (suc (suc c)) (suc g) ys x) (counter_group c (suc g) ys x)
    where
      by : (t : Bool) → is_counted cells y ≡ t → In (if t then record { group = g; register = c } ∷ counters_from cells (suc (suc c)) (suc g) ys else counters_from cells c (suc g) ys) x
          → (In (counters_from cells (suc (suc c)) (suc g) ys) x → (n : ℕ) × (x.group ≡ suc g + n) × (n < length ys)
          × (get_or (counted_groups d part cells (suc (suc c)) ys) n no_group ≡ group_with d part (get_or ys n no_group) (counter_assigns part.place x.register)) × (is_counted cells (get_or ys n no_group) ≡ true))
          → (In (counters_from cells c (suc g) ys) x → (n : ℕ) × (x.group ≡ suc g + n) × (n < length ys)
          × (get_or (counted_groups d part cells c ys) n no_group ≡ group_with d part (get_or ys n no_group) (counter_assigns part.place x.register)) × (is_counted cells (get_or ys n no_group) ≡ true))
          → (n : ℕ) × (x.group ≡ g + n) × (n < length (y ∷ ys))
          × (get_or (if t then group_with d part y (counter_assigns part.place c) ∷ counted_groups d part cells (suc (suc c)) ys else group_with d part y [] ∷ counted_groups d part cells c ys) n no_group
          ≡ group_with d part (get_or (y ∷ ys) n no_group) (counter_assigns part.place x.register)) × (is_counted cells (get_or (y ∷ ys) n no_group) ≡ true)
      by true e (inl h) next same =
          let number : g ≡ x.group = ap (λ z. z.group) h in
          (0, omega (arith, number), omega arith, ap (λ (z : Counter). group_with d part y (counter_assigns part.place z.register)) h, e)
      by true e (inr i) next same = let r = next i in let number : x.group ≡ suc g + r.0 = r.1 in let few : r.0 < length ys = r.2 in (suc r.0, omega (arith, number), omega (arith, few), r.3, r.4)
      by false e i next same = let r = same i in let number : x.group ≡ suc g + r.0 = r.1 in let few : r.0 < length ys = r.2 in (suc r.0, omega (arith, number), omega (arith, few), r.3, r.4)

  -- counters with one register are one
  pub same_register : (c g : ℕ) (groups : List PlainGroup) (x y : Counter) → In (counters_from cells c g groups) x → In (counters_from cells c g groups) y → x.register ≡ y.register → x.group ≡ y.group
  same_register c g [] x y i h e = absurd i
  same_register c g (z ∷ zs) x y i h e = by (is_counted cells z) i h (same_register (suc (suc c)) (suc g) zs x y) (same_register c (suc g) zs x y)
    where
      past : (w : Counter) → In (counters_from cells (suc (suc c)) (suc g) zs) w → suc (suc c) ≤ w.register
      past w i = let r = in_counters cells (suc (suc c)) (suc g) zs w i in let number : w.register ≡ suc (suc c) + 2 * r.0 = r.2 in omega (arith, number)

      by : (t : Bool) → In (if t then record { group = g; register = c } ∷ counters_from cells (suc (suc c)) (suc g) zs else counters_from cells c (suc g) zs) x
          → In (if t then record { group = g; register = c } ∷ counters_from cells (suc (suc c)) (suc g) zs else counters_from cells c (suc g) zs) y
          → (In (counters_from cells (suc (suc c)) (suc g) zs) x → In (counters_from cells (suc (suc c)) (suc g) zs) y → x.register ≡ y.register → x.group ≡ y.group)
          → (In (counters_from cells c (suc g) zs) x → In (counters_from cells c (suc g) zs) y → x.register ≡ y.register → x.group ≡ y.group) → x.group ≡ y.group
      by true (inl a) (inl b) next same = ap (λ w. w.group) (sym a ∙ b)
      by true (inl a) (inr b) next same = let far : suc (suc c) ≤ y.register = past y b in let number : c ≡ x.register = ap (λ w. w.register) a in absurd (omega (arith, far, number, e))
      by true (inr a) (inl b) next same = let far : suc (suc c) ≤ x.register = past x a in let number : c ≡ y.register = ap (λ w. w.register) b in absurd (omega (arith, far, number, e))
      by true (inr a) (inr b) next same = next a b e
      by false a b next same = same a b e

-- CELLS THAT ARE DRIVEN
pub drive_joined : (xs ys : List PlainAssign) (c : ℕ) → assigns_drive (xs ++ ys) c ≡ (assigns_drive xs c || assigns_drive ys c)
drive_joined [] ys c = refl
drive_joined (x ∷ xs) ys c = ap (λ b. targets_cell x.target c || b) (drive_joined xs ys c) ∙ sym (apart (targets_cell x.target c) (assigns_drive xs c) (assigns_drive ys c))
  where
    apart : (a b e : Bool) → ((a || b) || e) ≡ (a || (b || e))
    apart true b e = refl
    apart false b e = refl

moved_target : (d : PlainDesign) (part : PlainComponent) (p : PortRef) (c : ℕ) → targets_cell (moved_in d part p) c ≡ targets_cell p c
moved_target d part (ports.Cell e q) c = refl
moved_target d part (ports.Input n) c = refl
moved_target d part (ports.Output n) c = refl
moved_target d part (ports.Done g) c = refl
moved_target d part (ports.Literal w v) c = refl

pub moved_drive : (d : PlainDesign) (part : PlainComponent) (list : List PlainAssign) (c : ℕ) → assigns_drive (moved_assigns d part list) c ≡ assigns_drive list c
moved_drive d part [] c = refl
moved_drive d part (a ∷ rest) c = ap (λ b. b || assigns_drive (moved_assigns d part rest) c) (moved_target d part a.target c) ∙ ap (λ b. targets_cell a.target c || b) (moved_drive d part rest c)

-- a counter drives its register and its adder alone
counter_drives : (place : Place) (r c : ℕ) → (c ≡ r → ⊥) → (c ≡ suc r → ⊥) → assigns_drive (counter_assigns place r) c ≡ false
counter_drives place r c a b =
    let first : just (suc r) c ≡ false = not_just (suc r) c b in
    let second : just r c ≡ false = not_just r c a in
    ap (λ x. x || (x || (just r c || (just r c || false)))) first ∙ ap (λ x. x || (x || false)) second

pub counter_drives_register : (place : Place) (r : ℕ) → assigns_drive (counter_assigns place r) r ≡ true
counter_drives_register place r = by (just (suc r) r) (just r r) (just_same r)
  where
    by : (a b : Bool) → b ≡ true → (a || (a || (b || (b || false)))) ≡ true
    by true b e = refl
    by false true e = refl
    by false false e = e

module _ (d : PlainDesign) (k : ℕ) (within : k < length d.components) (reached : is_reached d k ≡ true) where
  abbrev part : PlainComponent
  part = component_at d k

  abbrev other : PlainComponent
  other = component_at (with_counts d) k

  abbrev cells : Cells
  cells = cells_of (component_of d k)

  -- the groups of the component stand first
  first_groups : (g : ℕ) → g < length part.groups → group_at other g ≡ get_or (counted_groups d part cells (length part.cells) part.groups) g no_group
  first_groups g few = by (role d k within)
    where
      both : (b : Bool) → b ≡ true → b ≡ false → ⊥
      both true e f = absurd (cc)
      both false e f = absurd (cc)

      by : Role d k → group_at other g ≡ get_or (counted_groups d part cells (length part.cells) part.groups) g no_group
      by (as_main names is e) =
          let count : length (counted_groups d part cells (length part.cells) part.groups) ≡ length part.groups = counted_groups-length d part cells (length part.cells) part.groups in
          ap (λ x. group_at x g) e
          ∙ get_or_append_left (counted_groups d part cells (length part.cells) part.groups) (store_groups part.place names (length part.cells + 2 * length (counters (component_of d k))) (address_width (length (shown_in (component_of d k)))) (suc (2 * length (counters (component_of d k)))) (length part.groups) 0 (shown_in (component_of d k)))
          no_group g (omega (arith, few, count))
      by (as_child names is r e) = ap (λ x. group_at x g) e
      by (as_kept is r e) = absurd (both (is_reached d k) reached r)

  pub group_is : (g : ℕ) → g < length part.groups → GroupOf d part cells (counters (component_of d k)) g (group_at part g) (group_at other g)
  group_is g few =
      let none : 0 + g ≡ g = omega arith in
      subst (GroupOf d part cells (counters (component_of d k)) g (group_at part g)) (sym (first_groups g few))
      (subst (λ list. GroupOf d part cells list g (group_at part g) (get_or (counted_groups d part cells (length part.cells) part.groups) g no_group)) (sym (own_counters d k))
      (subst (λ n. GroupOf d part cells (counters_from cells (length part.cells) 0 part.groups) n (group_at part g) (get_or (counted_groups d part cells (length part.cells) part.groups) g no_group)) none
      (group_of d part cells (length part.cells) 0 part.groups g few)))

  listed : (x : Counter) → In (counters (component_of d k)) x → In (counters_from cells (length part.cells) 0 part.groups) x
  listed x i = subst (λ list. In list x) (own_counters d k) i

  -- the group of a counter
  pub counted_there : (x : Counter) → In (counters (component_of d k)) x → (x.group < length part.groups) × (is_counted cells (group_at part x.group) ≡ true) × (group_drives other x.group x.register ≡ true)
  counted_there x i =
      let r = counter_group d part cells (length part.cells) 0 part.groups x (listed x i) in
      let number : x.group ≡ r.0 = (let e : x.group ≡ 0 + r.0 = r.1 in omega (arith, e)) in
      let few : x.group < length part.groups = (let less : r.0 < length part.groups = r.2 in omega (arith, number, less)) in (
        few,
        ap (λ n. is_counted cells (group_at part n)) number ∙ r.4,
        ap (λ (y : PlainGroup). assigns_drive y.assigns x.register) (first_groups x.group few ∙ ap (λ n. get_or (counted_groups d part cells (length part.cells) part.groups) n no_group) number ∙ r.3)
            ∙ drive_joined (moved_assigns d part (get_or part.groups r.0 no_group).assigns) (counter_assigns part.place x.register) x.register
            ∙ right_true (assigns_drive (moved_assigns d part (get_or part.groups r.0 no_group).assigns) x.register) (assigns_drive (counter_assigns part.place x.register) x.register) (counter_drives_register part.place x.register),
      )
    where
      right_true : (a b : Bool) → b ≡ true → (a || b) ≡ true
      right_true true b e = refl
      right_true false b e = e

  pub register_past : (x : Counter) → In (counters (component_of d k)) x → length part.cells ≤ x.register
  register_past x i = let r = in_counters cells (length part.cells) 0 part.groups x (listed x i) in let number : x.register ≡ length part.cells + 2 * r.0 = r.2 in omega (arith, number)

  left_or : (a b : Bool) → b ≡ false → (a || b) ≡ a
  left_or true b e = refl
  left_or false b e = e

  -- AN OLD CELL is driven by the same groups
  pub old_driven : (g c : ℕ) → g < length part.groups → c < length part.cells → group_drives other g c ≡ group_drives part g c
  old_driven g c few less = by (group_is g few)
    where
      by : GroupOf d part cells (counters (component_of d k)) g (group_at part g) (group_at other g) → group_drives other g c ≡ group_drives part g c
      by (counted_group r i is e) =
          let past : length part.cells ≤ r = register_past (record { group = g; register = r }) i in
          ap (λ (x : PlainGroup). assigns_drive x.assigns c) e ∙ drive_joined (moved_assigns d part (group_at part g).assigns) (counter_assigns part.place r) c
          ∙ left_or (assigns_drive (moved_assigns d part (group_at part g).assigns) c) (assigns_drive (counter_assigns part.place r) c) (counter_drives part.place r c (λ h. omega (arith, less, past, h)) (λ h. omega (arith, less, past, h)))
          ∙ moved_drive d part (group_at part g).assigns c
      by (plain_group is e) =
          ap (λ (x : PlainGroup). assigns_drive x.assigns c) e ∙ drive_joined (moved_assigns d part (group_at part g).assigns) [] c
          ∙ left_or (assigns_drive (moved_assigns d part (group_at part g).assigns) c) false refl ∙ moved_drive d part (group_at part g).assigns c

  -- a cell behind all counters is driven by none of them
  pub behind_undriven : (g c : ℕ) → g < length part.groups → length part.cells + 2 * length (counters (component_of d k)) ≤ c → group_drives part g c ≡ false → group_drives other g c ≡ false
  behind_undriven g c few past none = by (group_is g few)
    where
      register_far : (r : ℕ) → In (counters (component_of d k)) (record { group = g; register = r }) → suc r < c
      register_far r i =
          let a = in_counters cells (length part.cells) 0 part.groups (record { group = g; register = r }) (listed (record { group = g; register = r }) i) in
          let number : r ≡ length part.cells + 2 * a.0 = a.2 in
          let less : a.0 < length (counters (component_of d k)) = subst (λ list. a.0 < length list) (sym (own_counters d k)) a.1 in
          omega (arith, number, less, past)

      by : GroupOf d part cells (counters (component_of d k)) g (group_at part g) (group_at other g) → group_drives other g c ≡ false
      by (counted_group r i is e) =
          let far : suc r < c = register_far r i in
          ap (λ (x : PlainGroup). assigns_drive x.assigns c) e ∙ drive_joined (moved_assigns d part (group_at part g).assigns) (counter_assigns part.place r) c
          ∙ left_or (assigns_drive (moved_assigns d part (group_at part g).assigns) c) (assigns_drive (counter_assigns part.place r) c) (counter_drives part.place r c (λ h. omega (arith, far, h)) (λ h. omega (arith, far, h)))
          ∙ moved_drive d part (group_at part g).assigns c ∙ none
      by (plain_group is e) =
          ap (λ (x : PlainGroup). assigns_drive x.assigns c) e ∙ drive_joined (moved_assigns d part (group_at part g).assigns) [] c
          ∙ left_or (assigns_drive (moved_assigns d part (group_at part g).assigns) c) false refl ∙ moved_drive d part (group_at part g).assigns c ∙ none

  -- A REGISTER is driven by its group alone
  pub register_driven : (x : Counter) → In (counters (component_of d k)) x → (g : ℕ) → g < length part.groups → (group_drives part g x.register ≡ true → ⊥) → group_drives other g x.register ≡ true → g ≡ x.group
  register_driven x i g few not_old driven = by (group_is g few)
    where
      odd : (r : ℕ) → In (counters (component_of d k)) (record { group = g; register = r }) → x.register ≡ suc r → ⊥
      odd r h e =
          let a = in_counters cells (length part.cells) 0 part.groups x (listed x i) in
          let b = in_counters cells (length part.cells) 0 part.groups (record { group = g; register = r }) (listed (record { group = g; register = r }) h) in
          let first : x.register ≡ length part.cells + 2 * a.0 = a.2 in
          let second : r ≡ length part.cells + 2 * b.0 = b.2 in
          omega (arith, e, first, second)

      by : GroupOf d part cells (counters (component_of d k)) g (group_at part g) (group_at other g) → g ≡ x.group
      by (plain_group is e) =
          absurd (not_old (sym (moved_drive d part (group_at part g).assigns x.register) ∙ sym (left_or (assigns_drive (moved_assigns d part (group_at part g).assigns) x.register) false refl)
          ∙ sym (drive_joined (moved_assigns d part (group_at part g).assigns) [] x.register) ∙ sym (ap (λ (y : PlainGroup). assigns_drive y.assigns x.register) e) ∙ driven))
      by (counted_group r h is e) = ⊎_elim (λ (same : x.register ≡ r). sym (same_register d part cells (length part.cells) 0 part.groups x (record { group = g; register = r }) (listed x i) (listed (record { group = g; register = r }) h) same))
          (λ differ. absurd (not_old (sym (moved_drive d part (group_at part g).assigns x.register)
          ∙ sym (left_or (assigns_drive (moved_assigns d part (group_at part g).assigns) x.register) (assigns_drive (counter_assigns part.place r) x.register) (counter_drives part.place r x.register differ (odd r h)))
          ∙ sym (drive_joined (moved_assigns d part (group_at part g).assigns) (counter_assigns part.place r) x.register) ∙ sym (ap (λ (y : PlainGroup). assigns_drive y.assigns x.register) e) ∙ driven)))
          (cases_eq x.register r)

  -- a group behind those of the component is no static one
  pub new_length : (g : ℕ) → length part.groups ≤ g → group_length other g ≡ group_length part g
  new_length g past = by (role d k within) ∙ sym (ap (λ (x : PlainGroup). kind_length x.kind) (get_or_past part.groups g no_group past))
    where
      both : (b : Bool) → b ≡ true → b ≡ false → ⊥
      both true e f = absurd (cc)
      both false e f = absurd (cc)

      count : length (counted_groups d part cells (length part.cells) part.groups) ≡ length part.groups
      count = counted_groups-length d part cells (length part.cells) part.groups

      of_stores : (place : Place) (names : List (List ℕ)) (memory width n g j : ℕ) (list : List Shown) (number : ℕ) → kind_length (get_or (store_groups place names memory width n g j list) number no_group).kind ≡ None
      of_stores place names memory width n g j [] number = refl
      of_stores place names memory width n g j (x ∷ xs) zero = refl
      of_stores place names memory width n g j (x ∷ xs) (suc number) = of_stores place names memory width (suc n) (suc g) (suc j) xs number

      by : Role d k → group_length other g ≡ None
      by (as_main names is e) =
          ap (λ x. group_length x g) e
          ∙ ap (λ (x : PlainGroup). kind_length x.kind)
          (get_or-append_right (counted_groups d part cells (length part.cells) part.groups) (store_groups part.place names (length part.cells + 2 * length (counters (component_of d k))) (address_width (length (shown_in (component_of d k)))) (suc (2 * length (counters (component_of d k)))) (length part.groups) 0 (shown_in (component_of d k)))
          (length part.groups) g no_group count past)
          ∙ of_stores part.place names (length part.cells + 2 * length (counters (component_of d k))) (address_width (length (shown_in (component_of d k)))) (suc (2 * length (counters (component_of d k)))) (length part.groups) 0 (shown_in (component_of d k)) (g - length part.groups)
      by (as_child names is r e) =
          ap (λ x. group_length x g) e
          ∙ ap (λ (x : PlainGroup). kind_length x.kind) (get_or_past (counted_groups d part cells (length part.cells) part.groups) g no_group (omega (arith, past, count)))
      by (as_kept is r e) = absurd (both (is_reached d k) reached r)
