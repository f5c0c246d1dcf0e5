-- THE ASSIGNMENTS OF AN INSTRUMENTED COMPONENT: those of the component, moved, and new ones, whose targets are ports of new parts.
use Rattle.std.proofs.Common.{◌≡◌, ℕ, suc, ◌+◌, ◌≤◌, inl, inr, Bool, true, false, if◌then◌else◌, List, [], ◌∷◌, ◌++◌, length, map, Option, Some, None, refl, sym, ap, ◌∙◌, subst, arith}
use Rattle.cx_text.proofs.MemberLaws.{in_left, in_right}
use Rattle.cx_text.specs.declared.places.Place.{Place}
use Rattle.cx_meaning.specs.declared.ports.PortRef.{PortRef}
use Rattle.cx_meaning.specs.Designs.{PlainAssign, PlainGroup, PlainComponent, PlainDesign}
use Rattle.cx_meaning.specs.Instances.{Cells}
use Rattle.cx_meaning.specs.Active.{Active, Owned, owned, owned_by_groups, same_port, drivers}
use Rattle.cx_text.specs.Members.{In}
use Rattle.cx_meaning.proofs.PortsLemmas.{same_self}
use Rattle.cx_rules.proofs.FoundLemmas.{same_is}
use Rattle.cx_rewrites.specs.Moving.{moved_owned, moved_acting}
use Rattle.cx_rewrites.specs.Driving.{assigns_of, Between, no_assigns, kept, foreign}
use Rattle.cx_rewrites.proofs.DriverLemmas.{driven_between}
use Rattle.cx_profiling.specs.Counters.{is_counted, Shown}
use Rattle.cx_profiling.specs.Instrumented.{moved_in, moved_assigns, group_with, counted_groups, counter_assigns, output_assigns, store_groups}
use Rattle.cx_profiling.proofs.PortLemmas.{IsInside, IsNew, moved_apart, old_or_new}
use Rattle.cx_profiling.proofs.LoneDrivers.{other_port}

pub owned_joined : (owner : Option ℕ) (xs ys : List PlainAssign) → owned owner (xs ++ ys) ≡ owned owner xs ++ owned owner ys
owned_joined owner [] ys = refl
owned_joined owner (x ∷ xs) ys = ap (λ list. record { owner = owner; assign = x } ∷ list) (owned_joined owner xs ys)

pub groups_joined : (g h : ℕ) (xs ys : List PlainGroup) → g + length xs ≡ h → owned_by_groups g (xs ++ ys) ≡ owned_by_groups g xs ++ owned_by_groups h ys
groups_joined g h [] ys e = let same : g ≡ h = omega (arith, e) in ap (λ x. owned_by_groups x ys) same
groups_joined g h (x ∷ xs) ys e =
    ap (λ list. owned (Some g) x.assigns ++ list) (groups_joined (suc g) h xs ys (omega (arith, e)))
    ∙ sym (joined_again (owned (Some g) x.assigns) (owned_by_groups (suc g) xs) (owned_by_groups h ys))
  where
    joined_again : {A : Type 0} (xs ys zs : List A) → (xs ++ ys) ++ zs ≡ xs ++ (ys ++ zs)
    joined_again [] ys zs = refl
    joined_again (x ∷ xs) ys zs = ap (λ list. x ∷ list) (joined_again xs ys zs)

module _ (d : PlainDesign) (part : PlainComponent) where
  -- each assignment of a list, moved, in their order; between them new ones
  pub data Walk : List Owned → List Owned → Type 0 where
    walked : Walk [] []
    old : (o : Owned) {os ns : List Owned} → IsInside d part o.assign.target → Walk os ns → Walk (o ∷ os) (moved_owned (moved_in d part) o ∷ ns)
    new : (n : Owned) {os ns : List Owned} → IsNew d part n.assign.target → Walk os ns → Walk os (n ∷ ns)

  walk_joined : {os ns ps qs : List Owned} → Walk os ns → Walk ps qs → Walk (os ++ ps) (ns ++ qs)
  walk_joined walked k = k
  walk_joined (old o h w) k = old o h (walk_joined w k)
  walk_joined (new n h w) k = new n h (walk_joined w k)

  abbrev AllInside : List Owned → Type 0
  AllInside list = (o : Owned) → In list o → IsInside d part o.assign.target

  abbrev pub AllNew : List PlainAssign → Type 0
  AllNew [] = Unit {0}
  AllNew (a ∷ rest) = IsNew d part a.target × AllNew rest

  owned_walk : (owner : Option ℕ) (list : List PlainAssign) → AllInside (owned owner list) → Walk (owned owner list) (owned owner (moved_assigns d part list))
  owned_walk owner [] h = walked
  owned_walk owner (a ∷ rest) h = old (record { owner = owner; assign = a }) (h (record { owner = owner; assign = a }) (inl refl)) (owned_walk owner rest (λ o i. h o (inr i)))

  new_walk : (owner : Option ℕ) (list : List PlainAssign) → AllNew list → Walk [] (owned owner list)
  new_walk owner [] h = walked
  new_walk owner (a ∷ rest) (e, h) = new (record { owner = owner; assign = a }) e (new_walk owner rest h)

  pub nothing_more : (os : List Owned) → os ++ [] ≡ os
  nothing_more [] = refl
  nothing_more (o ∷ os) = ap (λ list. o ∷ list) (nothing_more os)

  -- the assignments of one owner, moved, and new ones behind them
  grown_walk : (owner : Option ℕ) (list more : List PlainAssign) → AllInside (owned owner list) → AllNew more → Walk (owned owner list) (owned owner (moved_assigns d part list ++ more))
  grown_walk owner list more h k =
      subst (Walk (owned owner list)) (sym (owned_joined owner (moved_assigns d part list) more))
      (subst (λ x. Walk x (owned owner (moved_assigns d part list) ++ owned owner more)) (nothing_more (owned owner list)) (walk_joined (owned_walk owner list h) (new_walk owner more k)))

  counter_new : (place : Place) (c : ℕ) → length part.cells ≤ c → AllNew (counter_assigns place c)
  counter_new place c past = let more : length part.cells ≤ suc c = omega (arith, past) in (more, (more, (past, (past, tt))))

  group_walk : (g : ℕ) (x : PlainGroup) (more : List PlainAssign) {os ns : List Owned} → AllInside (owned (Some g) x.assigns) → AllNew more → Walk os ns
      → Walk (owned (Some g) x.assigns ++ os) (owned (Some g) (group_with d part x more).assigns ++ ns)
  group_walk g x more h k w = walk_joined (grown_walk (Some g) x.assigns more h k) w

  pub counted_walk : (cells : Cells) (c g : ℕ) (groups : List PlainGroup) → length part.cells ≤ c → AllInside (owned_by_groups g groups)
      → Walk (owned_by_groups g groups) (owned_by_groups g (counted_groups d part cells c groups))
  counted_walk cells c g [] past h = walked
  counted_walk cells c g (x ∷ xs) past h = by (is_counted cells x) (counted_walk cells (suc (suc c)) (suc g) xs (omega (arith, past)) rest) (counted_walk cells c (suc g) xs past rest)
    where
      first : AllInside (owned (Some g) x.assigns)
      first o i = h o (in_left (owned (Some g) x.assigns) (owned_by_groups (suc g) xs) o i)

      rest : AllInside (owned_by_groups (suc g) xs)
      rest o i = h o (in_right (owned (Some g) x.assigns) (owned_by_groups (suc g) xs) o i)

      by : (t : Bool) → Walk (owned_by_groups (suc g) xs) (owned_by_groups (suc g) (counted_groups d part cells (suc (suc c)) xs))
          → Walk (owned_by_groups (suc g) xs) (owned_by_groups (suc g) (counted_groups d part cells c xs))
          → Walk (owned_by_groups g (x ∷ xs))
          (owned_by_groups g (if t then group_with d part x (counter_assigns part.place c) ∷ counted_groups d part cells (suc (suc c)) xs else group_with d part x [] ∷ counted_groups d part cells c xs))
      by true later same = group_walk g x (counter_assigns part.place c) first (counter_new part.place c past) later
      by false later same = group_walk g x [] first tt same

  pub kept_walk : (g : ℕ) (groups : List PlainGroup) → AllInside (owned_by_groups g groups) → Walk (owned_by_groups g groups) (owned_by_groups g (map (λ x. group_with d part x []) groups))
  kept_walk g [] h = walked
  kept_walk g (x ∷ xs) h =
      group_walk g x [] (λ o i. h o (in_left (owned (Some g) x.assigns) (owned_by_groups (suc g) xs) o i)) tt
      (kept_walk (suc g) xs (λ o i. h o (in_right (owned (Some g) x.assigns) (owned_by_groups (suc g) xs) o i)))

  outputs_new : (place : Place) (n : ℕ) (list : List Shown) → length part.outputs ≤ n → AllNew (output_assigns place n list)
  outputs_new place n [] past = tt
  outputs_new place n (x ∷ xs) past = (past, outputs_new place (suc n) xs (omega (arith, past)))

  pub store_walk : (place : Place) (names : List (List ℕ)) (memory width n g j : ℕ) (list : List Shown) → length part.cells ≤ memory → length part.groups ≤ g
      → Walk [] (owned_by_groups g (store_groups place names memory width n g j list))
  store_walk place names memory width n g j [] far past = walked
  store_walk place names memory width n g j (x ∷ xs) far past =
      new _ far (new _ far (new _ far (new _ past (store_walk place names memory width (suc n) (suc g) (suc j) xs far (omega (arith, past))))))

  pub outputs_walk : (place : Place) (list : List Shown) (always : List PlainAssign) → AllInside (owned None always)
      → Walk (owned None always) (owned None (moved_assigns d part always ++ output_assigns place (length part.outputs) list))
  outputs_walk place list always h = grown_walk None always (output_assigns place (length part.outputs) list) h (outputs_new place (length part.outputs) list (omega arith))

  pub bare_walk : (always : List PlainAssign) → AllInside (owned None always) → Walk (owned None always) (owned None (moved_assigns d part always))
  bare_walk always h = owned_walk None always h

  pub both_walk : {os ns ps qs : List Owned} → Walk os ns → Walk ps qs → Walk (os ++ ps) (ns ++ qs)
  both_walk w v = walk_joined w v

  -- WHAT DRIVES A PORT, MOVED
  module _ (act : Active) (p : PortRef) (inside : IsInside d part p) where
    aims_alike : (o : Owned) → IsInside d part o.assign.target → same_port (moved_in d part o.assign.target) (moved_in d part p) ≡ same_port o.assign.target p
    aims_alike o there = by (same_port o.assign.target p) refl
      where
        both : (b : Bool) → b ≡ true → b ≡ false → ⊥
        both true e f = absurd (cc)
        both false e f = absurd (cc)

        by : (b : Bool) → same_port o.assign.target p ≡ b → same_port (moved_in d part o.assign.target) (moved_in d part p) ≡ b
        by true e = ap (λ x. same_port (moved_in d part x) (moved_in d part p)) (same_is o.assign.target p e) ∙ same_self (moved_in d part p)
        by false e =
            other_port (moved_in d part o.assign.target) (moved_in d part p)
            (λ h. both (same_port o.assign.target p) (ap (λ x. same_port x p) (moved_apart d part o.assign.target p there inside h) ∙ same_self p) e)

    between : {os ns : List Owned} → Walk os ns → Between (moved_in d part) act act p os ns
    between walked = no_assigns
    between (old o h w) = kept (record { assign = refl; offset = refl; target = λ k e. aims_alike o h }) (between w)
    between (new n h w) = foreign (λ k e. other_port n.assign.target (moved_in d part p) (λ same. old_or_new d part p n.assign.target inside h (sym same))) (between w)

    pub walk_drives : (other : PlainComponent) → Walk (assigns_of part) (assigns_of other)
        → drivers other act (moved_in d part p) ≡ map (moved_acting (moved_in d part)) (drivers part act p)
    walk_drives other w = driven_between (moved_in d part) act act p part other (between w)
