-- Facts of what `Active` defines, that several crates above take.
use Rattle.std.proofs.Common.{◌≡◌, ℕ, if◌then◌else◌, Some, None, refl, ap, inl, inr, Bool, true, false, List, [], ◌∷◌, Option, sym, subst, ◌⊎◌, ⊎_elim, ◌++◌, ◌+◌, arith, get_or, suc, zero, ◌∙◌}
use Rattle.std.proofs.lemmas.Bool.{eq-eqb, eqb-true}
use Rattle.cx_text.proofs.MemberLaws.{in_left, in_right}
use Rattle.cx_meaning.specs.Active.{only_at, Owned, no_later, placed_in, Active, offset_of, if_acting, if_target, acting, same_port, Entry, offset_in, by_place, owned, owned_by_groups, source_order, Acting}
use Rattle.cx_text.specs.Members.{In}
use Rattle.cx_meaning.specs.declared.ports.PortRef.{PortRef}
use Rattle.std.specs.Prelude.{nat_eq}
use Rattle.cx_meaning.specs.Designs.{PlainAssign, PlainGroup, no_group, PlainComponent, group_at}
use Rattle.cx_meaning.proofs.DesignsLemmas.{owned_has}

pub only_self : (g : ℕ) → only_at g g ≡ Some 0
only_self g = ap (λ b. if b then Some 0 else None) (eq-eqb g g refl)

pub only_is : (g h k : ℕ) → only_at g h ≡ Some k → g ≡ h
only_is g h k e = choice (nat_eq g h) refl e
  where
    choice : (b : Bool) → nat_eq g h ≡ b → (if b then Some 0 else None) ≡ Some k → g ≡ h
    choice true f e = eqb-true g h f
    choice false f e = absurd (cc)

pub placed_still : (a : Owned) (list : List Owned) (o : Owned) → In list o → In (placed_in a list) o
placed_still a [] o i = absurd i
placed_still a (b ∷ rest) o i = choice (no_later a.assign.place b.assign.place) i (placed_still a rest o)
  where
    choice : (t : Bool) → In (b ∷ rest) o → (In rest o → In (placed_in a rest) o) → In (if t then a ∷ b ∷ rest else b ∷ placed_in a rest) o
    choice true j h = inr j
    choice false (inl e) h = inl e
    choice false (inr j) h = inr (h j)

pub placed_first : (a : Owned) (list : List Owned) → In (placed_in a list) a
placed_first a [] = inl refl
placed_first a (b ∷ rest) = choice (no_later a.assign.place b.assign.place) (placed_first a rest)
  where
    choice : (t : Bool) → In (placed_in a rest) a → In (if t then a ∷ b ∷ rest else b ∷ placed_in a rest) a
    choice true h = inl refl
    choice false h = inr h

pub acting_has : (act : Active) (p : PortRef) (list : List Owned) (o : Owned) (k : ℕ) → In list o → same_port o.assign.target p ≡ true → offset_of act o.owner ≡ Some k → In (acting act p list) (record { offset = k; assign = o.assign })
acting_has act p [] o k i e f = absurd i
acting_has act p (x ∷ list) o k (inl same) e f =
    subst (λ (y : Owned). In (if_target (same_port y.assign.target p) act y (acting act p list)) (record { offset = k; assign = o.assign })) (sym same)
    (subst (λ t. In (if_target t act o (acting act p list)) (record { offset = k; assign = o.assign })) (sym e)
    (subst (λ t. In (if_acting t o.assign (acting act p list)) (record { offset = k; assign = o.assign })) (sym f) (inl refl)))
acting_has act p (x ∷ list) o k (inr i) e f = by (same_port x.assign.target p) (offset_of act x.owner) (acting_has act p list o k i e f)
  where
    by : (b : Bool) (t : Option ℕ) → In (acting act p list) (record { offset = k; assign = o.assign }) → In (if_target b act x (acting act p list)) (record { offset = k; assign = o.assign })
    by false t j = j
    by true t j = by_offset (offset_of act x.owner)
      where
        by_offset : (u : Option ℕ) → In (if_acting u x.assign (acting act p list)) (record { offset = k; assign = o.assign })
        by_offset None = j
        by_offset (Some m) = inr j

-- an assignment in source order is a continuous one, or one of a group
pub in_placed : (a : Owned) (list : List Owned) (o : Owned) → In (placed_in a list) o → (a ≡ o) ⊎ In list o
in_placed a [] o (inl e) = inl e
in_placed a [] o (inr i) = absurd i
in_placed a (b ∷ rest) o i = go (no_later a.assign.place b.assign.place) i (in_placed a rest o)
  where
    go : (t : Bool) → In (if t then a ∷ b ∷ rest else b ∷ placed_in a rest) o → (In (placed_in a rest) o → (a ≡ o) ⊎ In rest o) → (a ≡ o) ⊎ In (b ∷ rest) o
    go true (inl e) h = inl e
    go true (inr j) h = inr j
    go false (inl e) h = inr (inl e)
    go false (inr j) h = ⊎_elim inl (λ k. inr (inr k)) (h j)

-- an entry of a group
pub entry_of : (os : List Entry) (g o : ℕ) → offset_in os g ≡ Some o → (e : Entry) × In os e × (e.group ≡ g)
entry_of [] g o f = absurd cc
entry_of (x ∷ os) g o f = by (nat_eq x.group g) refl f (entry_of os g o)
  where
    by : (b : Bool) → nat_eq x.group g ≡ b → (if b then Some x.offset else offset_in os g) ≡ Some o → (offset_in os g ≡ Some o → (e : Entry) × In os e × (e.group ≡ g)) → (e : Entry) × In (x ∷ os) e × (e.group ≡ g)
    by true h f later_one = (x, inl refl, eqb-true x.group g h)
    by false h f later_one = let k = later_one f in (k.0, inr k.1, k.2)

-- what stands in a component stands in its source order
pub sorted_has : (list : List Owned) (o : Owned) → In list o → In (by_place list) o
sorted_has [] o i = i
sorted_has (a ∷ rest) o (inl e) = subst (In (by_place (a ∷ rest))) e (placed_first a (by_place rest))
sorted_has (a ∷ rest) o (inr i) = placed_still a (by_place rest) o (sorted_has rest o i)

abbrev pub or_else : Option ℕ → Option ℕ → Option ℕ
or_else None later = later
or_else (Some o) later = Some o

pub offset-both : (xs ys : List Entry) (g : ℕ) → offset_in (xs ++ ys) g ≡ or_else (offset_in xs g) (offset_in ys g)
offset-both [] ys g = refl
offset-both (e ∷ xs) ys g = choice (nat_eq e.group g) (offset-both xs ys g)
  where
    choice : (b : Bool) → offset_in (xs ++ ys) g ≡ or_else (offset_in xs g) (offset_in ys g) → (if b then Some e.offset else offset_in (xs ++ ys) g) ≡ or_else (if b then Some e.offset else offset_in xs g) (offset_in ys g)
    choice true ih = refl
    choice false ih = ih

pub groups_have : (k : ℕ) (groups : List PlainGroup) (g : ℕ) (a : PlainAssign) → In (get_or groups g no_group).assigns a → In (owned_by_groups k groups) (record { owner = Some (k + g); assign = a })
groups_have k [] g a i = absurd i
groups_have k (x ∷ groups) zero a i =
    let e : k ≡ k + 0 = omega arith in
    in_left (owned (Some k) x.assigns) (owned_by_groups (suc k) groups) _ (subst (λ n. In (owned (Some k) x.assigns) (record { owner = Some n; assign = a })) e (owned_has (Some k) x.assigns a i))
groups_have k (x ∷ groups) (suc g) a i =
    let e : suc k + g ≡ k + suc g = omega arith in
    in_right (owned (Some k) x.assigns) (owned_by_groups (suc k) groups) _ (subst (λ n. In (owned_by_groups (suc k) groups) (record { owner = Some n; assign = a })) e (groups_have (suc k) groups g a i))

-- an assignment of a group stands in source order
pub group_stands : (part : PlainComponent) (g : ℕ) (a : PlainAssign) → In (group_at part g).assigns a → In (source_order part) (record { owner = Some g; assign = a })
group_stands part g a i =
    let e : 0 + g ≡ g = omega arith in
    sorted_has (owned None part.always ++ owned_by_groups 0 part.groups) _ (in_right (owned None part.always) (owned_by_groups 0 part.groups) _
    (subst (λ n. In (owned_by_groups 0 part.groups) (record { owner = Some n; assign = a })) e (groups_have 0 part.groups g a i)))

pub always_stands : (part : PlainComponent) (a : PlainAssign) → In part.always a → In (source_order part) (record { owner = None; assign = a })
always_stands part a i = sorted_has (owned None part.always ++ owned_by_groups 0 part.groups) _ (in_left (owned None part.always) (owned_by_groups 0 part.groups) _ (owned_has None part.always a i))

-- the drivers of a port are the active assignments of it
pub record Acts (act : Active) (p : PortRef) (list : List Owned) (b : Acting) : Type 0 where
  pub owned : Owned
  pub stands : In list owned
  pub target : same_port owned.assign.target p ≡ true
  pub acts : offset_of act owned.owner ≡ Some b.offset
  pub same : owned.assign ≡ b.assign

later_acts : {act : Active} {p : PortRef} {list : List Owned} {b : Acting} (o : Owned) → Acts act p list b → Acts act p (o ∷ list) b
later_acts o h = record { owned = h.owned; stands = inr h.stands; target = h.target; acts = h.acts; same = h.same }

pub acting_acts : (act : Active) (p : PortRef) (list : List Owned) (b : Acting) → In (acting act p list) b → Acts act p list b
acting_acts act p [] b i = absurd i
acting_acts act p (o ∷ rest) b i = of_target (same_port o.assign.target p) refl i (acting_acts act p rest b)
  where
    of_offset : same_port o.assign.target p ≡ true → (k : Option ℕ) → offset_of act o.owner ≡ k → In (if_acting k o.assign (acting act p rest)) b → (In (acting act p rest) b → Acts act p rest b) → Acts act p (o ∷ rest) b
    of_offset e None f i h = later_acts o (h i)
    of_offset e (Some k) f (inl g) h = record { owned = o; stands = inl refl; target = e; acts = f ∙ ap (λ a. Some a.offset) g; same = ap (λ a. a.assign) g }
    of_offset e (Some k) f (inr j) h = later_acts o (h j)

    of_target : (t : Bool) → same_port o.assign.target p ≡ t → In (if_target t act o (acting act p rest)) b → (In (acting act p rest) b → Acts act p rest b) → Acts act p (o ∷ rest) b
    of_target true e i h = of_offset e (offset_of act o.owner) refl i h
    of_target false e i h = later_acts o (h i)
