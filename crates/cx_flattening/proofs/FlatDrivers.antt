-- WHAT DRIVES THE PORTS of a flat component: of the caller what drives them there, and of a block what drives them in the static child,
-- by the copies for the invoke that feeds it.
use Rattle.std.proofs.Common.{◌≡◌, ◌≢◌, ℕ, zero, suc, ◌+◌, ◌<◌, ⊎_elim, inl, inr, Bool, true, false, List, [], ◌∷◌, ◌++◌, length, map, Option, Some, None, refl, sym, ap, ◌∙◌, subst, arith}
use Rattle.std.proofs.lemmas.List.{append-nil, length-append}
use Rattle.std.specs.Prelude.{flat_map, take, get_or}
use Rattle.std.proofs.lemmas.Bool.{cases_eq}
use Rattle.cx_text.proofs.MemberLaws.{image_in}
use Rattle.cx_text.specs.Members.{In}
use Rattle.cx_meaning.specs.declared.ports.PortRef.{PortRef}
use Rattle.cx_meaning.specs.declared.ports.PortRef.TheVariants as ports
use Rattle.cx_meaning.specs.Designs.{PlainGuard, Always, Atom, Negation, All, Any, Compared, Within, PlainGuards, no_guards, a_guard, PlainAssign, PlainGroup, PlainInvoke, PlainComponent}
use Rattle.cx_meaning.specs.Active.{Active, owned, owned_by_groups, same_port, acting, drivers}
use Rattle.cx_meaning.specs.Control.{groups_of}
use Rattle.cx_meaning.specs.Sights.{GuardNames, AnyNames}
use Rattle.cx_rules.specs.Footprints.{AssignNames}
use Rattle.cx_rewrites.specs.Moving.{moved_port, moved_guard, moved_guards, moved_assign, moved_group, moved_acting}
use Rattle.cx_flattening.specs.Events.{no_invoke, the_invoke}
use Rattle.cx_flattening.specs.Deeds.{Deed}
use Rattle.cx_rules.specs.Counts.{is_one_of, group_if}
use Rattle.cx_flattening.specs.Copies.{copied_group, enabled_below, enabled_groups}
use Rattle.cx_flattening.specs.Flattened.{Kids, kid_at, own_port, child_port, invoke_port, always_if, always_from, copies_if, copies, flat_groups}
use Rattle.cx_flattening.specs.Targets.{OwnTarget, BlockTarget, AllUsed, HasTargets}
use Rattle.cx_flattening.specs.Acting.{IsUsed, IsIdle, IsFed}
use Rattle.cx_flattening.proofs.Sorting.{acting_both}
use Rattle.cx_flattening.proofs.MovedDrivers.{drivers_mapped}
use Rattle.cx_flattening.proofs.CopiedAssigns.{acting_copied, acting_none, acting_elsewhere}
use Rattle.cx_flattening.proofs.PortLemmas.{not_same, own_same, InBlock, in_block, own_apart, block_apart, child_same}
use Rattle.cx_flattening.proofs.FlatAssigns.{always-two, groups-two, groups_elsewhere, groups_moved, copies_from, copies_act, copies_still}

-- a map of ports moves an assignment as another does that agrees on what it names
module _ (f g : PortRef → PortRef) where
  mutual
    guard_alike : (x : PlainGuard) → ((q : PortRef) → GuardNames x q → f q ≡ g q) → moved_guard f x ≡ moved_guard g x
    guard_alike Always same = refl
    guard_alike (Atom p) same = ap (λ q. Atom (record { port = q; place = p.place })) (same p.port refl)
    guard_alike (Negation x) same = ap Negation (guard_alike x same)
    guard_alike (All xs) same = ap All (guards_alike xs same)
    guard_alike (Any xs) same = ap Any (guards_alike xs same)
    guard_alike (Compared c a b) same =
        ap (λ q. Compared c (record { port = q; place = a.place }) (moved_port f b)) (same a.port (inl refl)) ∙ ap (λ q. Compared c (moved_port g a) (record { port = q; place = b.place })) (same b.port (inr refl))
    guard_alike (Within from to) same = refl

    guards_alike : (xs : PlainGuards) → ((q : PortRef) → AnyNames xs q → f q ≡ g q) → moved_guards f xs ≡ moved_guards g xs
    guards_alike no_guards same = refl
    guards_alike (a_guard x xs) same = ap (λ y. a_guard y (moved_guards f xs)) (guard_alike x (λ q n. same q (inl n))) ∙ ap (a_guard (moved_guard g x)) (guards_alike xs (λ q n. same q (inr n)))

  pub assign_alike : (a : PlainAssign) → f a.target ≡ g a.target → ((q : PortRef) → AssignNames a q → f q ≡ g q) → moved_assign f a ≡ moved_assign g a
  assign_alike a target same =
      ap (λ t. record { target = t; guard = moved_guard f a.guard; source = moved_port f a.source; place = a.place }) target
      ∙ ap (λ x. record { target = g a.target; guard = x; source = moved_port f a.source; place = a.place }) (guard_alike a.guard (λ q n. same q (inl n)))
      ∙ ap (λ q. record { target = g a.target; guard = moved_guard g a.guard; source = record { port = q; place = a.source.place }; place = a.place }) (same a.source.port (inr refl))

  pub assigns_alike : (list : List PlainAssign) → ((a : PlainAssign) → In list a → moved_assign f a ≡ moved_assign g a) → map (moved_assign f) list ≡ map (moved_assign g) list
  assigns_alike [] same = refl
  assigns_alike (a ∷ rest) same = ap (λ x. x ∷ map (moved_assign f) rest) (same a (inl refl)) ∙ ap (λ l. moved_assign g a ∷ l) (assigns_alike rest (λ x i. same x (inr i)))

pub all_used : (P Q : PlainAssign → Type 0) → ((a : PlainAssign) → P a → Q a) → (used : List ℕ) (g : ℕ) (xs : List PlainGroup) → AllUsed P used g xs → AllUsed Q used g xs
all_used P Q f used g [] h = tt
all_used P Q f used g (x ∷ xs) h = (λ e a i. f a (h.0 e a i), all_used P Q f used (suc g) xs h.1)

-- copies that drive other ports
module _ (f : PortRef → PortRef) (used : List ℕ) (q : PortRef) where
  enabled_beside : (g : ℕ) (xs : List PlainGroup) → AllUsed (λ a. same_port (f a.target) q ≡ false) used g xs
      → (x : PlainGroup) (a : PlainAssign) → In (map (copied_group f) (enabled_groups used g xs)) x → In x.assigns a → same_port a.target q ≡ false
  enabled_beside g [] h x a i j = absurd i
  enabled_beside g (y ∷ ys) h x a i j = choice (is_one_of g used) refl (λ k. enabled_beside (suc g) ys h.1 x a k j) i
    where
      choice : (b : Bool) → is_one_of g used ≡ b → (In (map (copied_group f) (enabled_groups used (suc g) ys)) x → same_port a.target q ≡ false)
          → In (map (copied_group f) (group_if b y (enabled_groups used (suc g) ys))) x → same_port a.target q ≡ false
      choice true e later (inl same) =
          let r = image_in (moved_assign f) y.assigns a (subst (λ z. In z.assigns a) (sym same) j) in
          ap (λ z. same_port z.target q) (sym r.2) ∙ h.0 e r.0 r.1
      choice true e later (inr k) = later k
      choice false e later k = later k

  pub enabled_elsewhere : (more : Active) (n g : ℕ) (xs : List PlainGroup) → AllUsed (λ a. same_port (f a.target) q ≡ false) used g xs
      → acting more q (owned_by_groups n (map (copied_group f) (enabled_groups used g xs))) ≡ []
  enabled_elsewhere more n g xs apart = groups_elsewhere more q n (map (copied_group f) (enabled_groups used g xs)) (enabled_beside g xs apart)

-- each static child among some, by its cell
abbrev pub KidHas : (ℕ → PlainComponent → Type 0) → ℕ → Option PlainComponent → Type 0
KidHas P c None = Unit {0}
KidHas P c (Some child) = P c child

abbrev pub AllKids : (ℕ → PlainComponent → Type 0) → ℕ → Kids → Type 0
AllKids P c [] = Unit {0}
AllKids P c (k ∷ ks) = KidHas P c k × AllKids P (suc c) ks

pub all_kids : (P : ℕ → PlainComponent → Type 0) (c : ℕ) (ks : Kids) → ((n : ℕ) (child : PlainComponent) → kid_at ks n ≡ Some child → P (c + n) child) → AllKids P c ks
all_kids P c [] h = tt
all_kids P c (k ∷ ks) h = (first k (λ child e. subst (λ n. P n child) (zero_plus c) (h 0 child e)), all_kids P (suc c) ks (λ n child e. subst (λ m. P m child) (plus c n) (h (suc n) child e)))
  where
    zero_plus : (a : ℕ) → a + 0 ≡ a
    zero_plus a = omega arith

    plus : (a b : ℕ) → a + suc b ≡ suc a + b
    plus a b = omega arith

    first : (o : Option PlainComponent) → ((child : PlainComponent) → o ≡ Some child → P c child) → KidHas P c o
    first None f = tt
    first (Some child) f = f child refl

module _ (kids : Kids) (part : PlainComponent) (has : HasTargets kids part) (more : Active) where
  -- what the continuous assignments of the children do elsewhere
  abbrev AlwaysBeside : PortRef → ℕ → PlainComponent → Type 0
  AlwaysBeside x c child = (a : PlainAssign) → In child.always a → same_port (child_port kids part child c (λ n. ports.Input n) a.target) x ≡ false

  one_beside : (x : PortRef) (c : ℕ) (o : Option PlainComponent) → KidHas (AlwaysBeside x) c o → acting more x (owned None (always_if kids part o c)) ≡ []
  one_beside x c None h = refl
  one_beside x c (Some child) h =
      acting_elsewhere more x None (map (moved_assign (child_port kids part child c (λ n. ports.Input n))) child.always)
      (λ a i. let r = image_in (moved_assign (child_port kids part child c (λ n. ports.Input n))) child.always a i in ap (λ z. same_port z.target x) (sym r.2) ∙ h r.0 r.1)

  all_beside : (x : PortRef) (c : ℕ) (ks : Kids) → AllKids (AlwaysBeside x) c ks → acting more x (owned None (always_from kids part c ks)) ≡ []
  all_beside x c [] h = refl
  all_beside x c (k ∷ ks) h =
      always-two more x (always_if kids part k c) (always_from kids part (suc c) ks)
      ∙ ap (λ l. l ++ acting more x (owned None (always_from kids part (suc c) ks))) (one_beside x c k h.0) ∙ all_beside x (suc c) ks h.1

  -- of the continuous assignments of all children those of one
  one_always : (x : PortRef) (c : ℕ) (ks : Kids) (n : ℕ) (child : PlainComponent) → kid_at ks n ≡ Some child → ((m : ℕ) (other : PlainComponent) → kid_at ks m ≡ Some other → m ≢ n → AlwaysBeside x (c + m) other)
      → acting more x (owned None (always_from kids part c ks)) ≡ acting more x (owned None (map (moved_assign (child_port kids part child (c + n) (λ m. ports.Input m))) child.always))
  one_always x c [] n child e beside = absurd (cc)
  one_always x c (k ∷ ks) zero child e beside =
      always-two more x (always_if kids part k c) (always_from kids part (suc c) ks)
      ∙ ap (λ l. acting more x (owned None (always_if kids part k c)) ++ l)
      (all_beside x (suc c) ks (all_kids (AlwaysBeside x) (suc c) ks (λ m other f. subst (λ i. AlwaysBeside x i other) (plus c m) (beside (suc m) other f (not_zero m)))))
      ∙ append-nil (acting more x (owned None (always_if kids part k c)))
      ∙ ap (λ o. acting more x (owned None (always_if kids part o c))) e
      ∙ ap (λ i. acting more x (owned None (map (moved_assign (child_port kids part child i (λ m. ports.Input m))) child.always))) (zero_plus c)
    where
      plus : (a b : ℕ) → a + suc b ≡ suc a + b
      plus a b = omega arith

      zero_plus : (a : ℕ) → a ≡ a + 0
      zero_plus a = omega arith

      not_zero : (m : ℕ) → suc m ≡ 0 → ⊥
      not_zero m e = omega (arith, e)
  one_always x c (k ∷ ks) (suc n) child e beside =
      always-two more x (always_if kids part k c) (always_from kids part (suc c) ks)
      ∙ ap (λ l. l ++ acting more x (owned None (always_from kids part (suc c) ks))) (one_beside x c k (here k (λ other f. subst (λ i. AlwaysBeside x i other) (zero_plus c) (beside 0 other f (not_suc n)))))
      ∙ one_always x (suc c) ks n child e (λ m other f apart. subst (λ i. AlwaysBeside x i other) (plus c m) (beside (suc m) other f (λ same. apart (less m n same))))
      ∙ ap (λ i. acting more x (owned None (map (moved_assign (child_port kids part child i (λ m. ports.Input m))) child.always))) (sym (plus c n))
    where
      plus : (a b : ℕ) → a + suc b ≡ suc a + b
      plus a b = omega arith

      zero_plus : (a : ℕ) → a + 0 ≡ a
      zero_plus a = omega arith

      not_suc : (m : ℕ) → 0 ≡ suc m → ⊥
      not_suc m e = omega (arith, e)

      less : (a b : ℕ) → suc a ≡ suc b → a ≡ b
      less a b e = omega (arith, e)

      here : (o : Option PlainComponent) → ((other : PlainComponent) → o ≡ Some other → AlwaysBeside x c other) → KidHas (AlwaysBeside x) c o
      here None f = tt
      here (Some other) f = f other refl

  -- the copies for an invoke, where they are of a child and where they drive other ports
  copies_are : (v : PlainInvoke) (child : PlainComponent) → kid_at kids v.cell ≡ Some child
      → copies kids part v ≡ map (copied_group (invoke_port kids part child v)) (enabled_groups (groups_of child.control) 0 child.groups)
  copies_are v child e = ap (λ o. copies_if kids part o v) e

  abbrev CopiesBeside : PortRef → PlainInvoke → Type 0
  CopiesBeside x v = (child : PlainComponent) → kid_at kids v.cell ≡ Some child → (a : PlainAssign) → BlockTarget child a.target → same_port (invoke_port kids part child v a.target) x ≡ false

  invoke_beside : (x : PortRef) (n : ℕ) (v : PlainInvoke) → CopiesBeside x v → acting more x (owned_by_groups n (copies kids part v)) ≡ []
  invoke_beside x n v beside = choice (kid_at kids v.cell) refl
    where
      choice : (o : Option PlainComponent) → kid_at kids v.cell ≡ o → acting more x (owned_by_groups n (copies_if kids part o v)) ≡ []
      choice None e = refl
      choice (Some child) e =
          enabled_elsewhere (invoke_port kids part child v) (groups_of child.control) x more n 0 child.groups
          (all_used (λ a. BlockTarget child a.target) (λ a. same_port (invoke_port kids part child v a.target) x ≡ false) (beside child e) (groups_of child.control) 0 child.groups (has.blocks v.cell child e).used)

  invokes_beside : (x : PortRef) (n : ℕ) (vs : List PlainInvoke) → ((v : PlainInvoke) → CopiesBeside x v) → acting more x (owned_by_groups n (flat_map (copies kids part) vs)) ≡ []
  invokes_beside x n [] beside = refl
  invokes_beside x n (v ∷ vs) beside =
      groups-two more x n (copies kids part v) (flat_map (copies kids part) vs)
      ∙ ap (λ l. l ++ acting more x (owned_by_groups (n + length (copies kids part v)) (flat_map (copies kids part) vs))) (invoke_beside x n v (beside v))
      ∙ invokes_beside x (n + length (copies kids part v)) vs beside

  module _ (K : PlainComponent) (its_groups : K.groups ≡ flat_groups kids part) (its_always : K.always ≡ map (moved_assign (own_port kids part)) part.always ++ always_from kids part 0 kids) where
    length-moved : (xs : List PlainGroup) → length (map (moved_group (own_port kids part)) xs) ≡ length xs
    length-moved [] = refl
    length-moved (x ∷ xs) = ap suc (length-moved xs)

    flat_always : (x : PortRef) → acting more x (owned None K.always) ≡ acting more x (owned None (map (moved_assign (own_port kids part)) part.always)) ++ acting more x (owned None (always_from kids part 0 kids))
    flat_always x = ap (λ l. acting more x (owned None l)) its_always ∙ always-two more x (map (moved_assign (own_port kids part)) part.always) (always_from kids part 0 kids)

    flat_acting : (x : PortRef) → acting more x (owned_by_groups 0 K.groups)
        ≡ acting more x (owned_by_groups 0 (map (moved_group (own_port kids part)) part.groups)) ++ acting more x (owned_by_groups (length part.groups) (flat_map (copies kids part) part.invokes))
    flat_acting x =
        ap (λ l. acting more x (owned_by_groups 0 l)) its_groups
        ∙ groups-two more x 0 (map (moved_group (own_port kids part)) part.groups) (flat_map (copies kids part) part.invokes)
        ∙ ap (λ n. acting more x (owned_by_groups 0 (map (moved_group (own_port kids part)) part.groups)) ++ acting more x (owned_by_groups n (flat_map (copies kids part) part.invokes))) (zero_plus (length (map (moved_group (own_port kids part)) part.groups)) ∙ length-moved part.groups)
      where
        zero_plus : (a : ℕ) → 0 + a ≡ a
        zero_plus a = omega arith

    -- OF THE CALLER
    pub own_drivers : (act : Active) (p : PortRef) → OwnTarget kids part p → ((g : ℕ) → g < length part.groups → more.offset g ≡ act.offset g)
        → drivers K more (own_port kids part p) ≡ map (moved_acting (own_port kids part)) (drivers part act p)
    own_drivers act p own same = drivers_mapped (own_port kids part) part K act more p (own_port kids part p) always groups
      where
        always : acting more (own_port kids part p) (owned None K.always) ≡ map (moved_acting (own_port kids part)) (acting act p (owned None part.always))
        always =
            flat_always (own_port kids part p)
            ∙ ap (λ l. l ++ acting more (own_port kids part p) (owned None (always_from kids part 0 kids)))
            (acting_copied (own_port kids part) act more p (own_port kids part p) None None refl part.always (λ a i. own_same kids part a.target p (has.always a i) own))
            ∙ ap (λ l. map (moved_acting (own_port kids part)) (acting act p (owned None part.always)) ++ l)
            (all_beside (own_port kids part p) 0 kids (all_kids (AlwaysBeside (own_port kids part p)) 0 kids
            (λ n child e a i. not_same (child_port kids part child (0 + n) (λ m. ports.Input m) a.target) (own_port kids part p)
            (λ same. own_apart kids part child (0 + n) p (child_port kids part child (0 + n) (λ m. ports.Input m) a.target) own (in_block kids part child (0 + n) (λ m. ports.Input m) a.target ((has.blocks n child e).always a i)) (sym same)))))
            ∙ append-nil (map (moved_acting (own_port kids part)) (acting act p (owned None part.always)))

        beside : (v : PlainInvoke) → CopiesBeside (own_port kids part p) v
        beside v child e a h = not_same (invoke_port kids part child v a.target) (own_port kids part p)
            (λ same. own_apart kids part child v.cell p (invoke_port kids part child v a.target) own (in_block kids part child v.cell _ a.target h) (sym same))

        groups : acting more (own_port kids part p) (owned_by_groups 0 K.groups) ≡ map (moved_acting (own_port kids part)) (acting act p (owned_by_groups 0 part.groups))
        groups =
            flat_acting (own_port kids part p)
            ∙ ap (λ l. l ++ acting more (own_port kids part p) (owned_by_groups (length part.groups) (flat_map (copies kids part) part.invokes)))
            (groups_moved (own_port kids part) act more p (own_port kids part p) 0 part.groups (λ m less. subst (λ k. more.offset k ≡ act.offset k) (zero_plus m) (same m less)) (λ x a i j. own_same kids part a.target p (has.groups x a i j) own))
            ∙ ap (λ l. map (moved_acting (own_port kids part)) (acting act p (owned_by_groups 0 part.groups)) ++ l) (invokes_beside (own_port kids part p) (length part.groups) part.invokes beside)
            ∙ append-nil (map (moved_acting (own_port kids part)) (acting act p (owned_by_groups 0 part.groups)))
          where
            zero_plus : (a : ℕ) → a ≡ 0 + a
            zero_plus a = omega arith

    -- OF A BLOCK, where its cell is c
    module _ (c : ℕ) (child : PlainComponent) (its : kid_at kids c ≡ Some child) (inner : Active) where
      -- a port of the block is driven by none of the caller's own, nor by another block's
      own_beside : (x : PortRef) → InBlock kids part child c x → (a : PlainAssign) → OwnTarget kids part a.target → same_port (own_port kids part a.target) x ≡ false
      own_beside x inside a own = not_same (own_port kids part a.target) x (own_apart kids part child c a.target x own inside)

      block_always : (sources : ℕ → PortRef) (q : PortRef) → BlockTarget child q
          → acting more (child_port kids part child c sources q) (owned None K.always) ≡ map (moved_acting (child_port kids part child c sources)) (acting inner q (owned None child.always))
      block_always sources q there =
          let x = child_port kids part child c sources q in
          let inside = in_block kids part child c sources q there in
          flat_always x
          ∙ ap (λ l. l ++ acting more x (owned None (always_from kids part 0 kids)))
          (acting_elsewhere more x None (map (moved_assign (own_port kids part)) part.always)
          (λ a i. let r = image_in (moved_assign (own_port kids part)) part.always a i in ap (λ z. same_port z.target x) (sym r.2) ∙ own_beside x inside r.0 (has.always r.0 r.1)))
          ∙ one_always x 0 kids c child its
          (λ m other e apart a i. not_same (child_port kids part other (0 + m) (λ j. ports.Input j) a.target) x
          (block_apart kids part other child (0 + m) c (child_port kids part other (0 + m) (λ j. ports.Input j) a.target) x (λ same. apart (zero_plus m c same))
          (subst (λ j. kid_at kids j ≡ Some other) (plus_zero m) e) its (in_block kids part other (0 + m) (λ j. ports.Input j) a.target ((has.blocks m other e).always a i)) inside))
          ∙ ap (λ j. acting more x (owned None (map (moved_assign (child_port kids part child j (λ i. ports.Input i))) child.always))) (sym (plus_zero c))
          ∙ ap (λ l. acting more x (owned None l)) (assigns_alike (child_port kids part child c (λ i. ports.Input i)) (child_port kids part child c sources) child.always
          (λ a i. assign_alike (child_port kids part child c (λ j. ports.Input j)) (child_port kids part child c sources) a (target_alike a.target ((has.blocks c child its).always a i))
          (λ r n. named_alike r (λ j e. (has.blocks c child its).no_input a j i (subst (AssignNames a) e n)))))
          ∙ acting_copied (child_port kids part child c sources) inner more q x None None refl child.always (λ a i. child_same kids part child c sources a.target q ((has.blocks c child its).always a i) there)
        where
          plus_zero : (a : ℕ) → a ≡ 0 + a
          plus_zero a = omega arith

          zero_plus : (a b : ℕ) → 0 + a ≡ b → a ≡ b
          zero_plus a b e = omega (arith, e)

          target_alike : (r : PortRef) → BlockTarget child r → child_port kids part child c (λ j. ports.Input j) r ≡ child_port kids part child c sources r
          target_alike (ports.Cell e p) h = refl
          target_alike (ports.Input n) h = absurd h
          target_alike (ports.Output n) h = refl
          target_alike (ports.Done g) h = absurd h
          target_alike (ports.Literal w v) h = absurd h

          named_alike : (r : PortRef) → ((n : ℕ) → r ≡ ports.Input n → ⊥) → child_port kids part child c (λ j. ports.Input j) r ≡ child_port kids part child c sources r
          named_alike (ports.Cell e p) h = refl
          named_alike (ports.Input n) h = absurd (h n refl)
          named_alike (ports.Output n) h = refl
          named_alike (ports.Done g) h = refl
          named_alike (ports.Literal w v) h = refl

      block_groups : (x : PortRef) → InBlock kids part child c x → acting more x (owned_by_groups 0 K.groups) ≡ acting more x (owned_by_groups (length part.groups) (flat_map (copies kids part) part.invokes))
      block_groups x inside =
          flat_acting x
          ∙ ap (λ l. l ++ acting more x (owned_by_groups (length part.groups) (flat_map (copies kids part) part.invokes)))
          (groups_elsewhere more x 0 (map (moved_group (own_port kids part)) part.groups) beside)
        where
          beside : (y : PlainGroup) (a : PlainAssign) → In (map (moved_group (own_port kids part)) part.groups) y → In y.assigns a → same_port a.target x ≡ false
          beside y a i j =
              let r = image_in (moved_group (own_port kids part)) part.groups y i in
              let k = image_in (moved_assign (own_port kids part)) r.0.assigns a (subst (λ z. In z.assigns a) (sym r.2) j) in
              ap (λ z. same_port z.target x) (sym k.2) ∙ own_beside x inside k.0 (has.groups r.0 k.0 r.1 k.1)

      -- the copies for an invoke of another cell
      other_beside : (x : PortRef) → InBlock kids part child c x → (v : PlainInvoke) → v.cell ≢ c → CopiesBeside x v
      other_beside x inside v apart other e a h =
          not_same (invoke_port kids part other v a.target) x (block_apart kids part other child v.cell c (invoke_port kids part other v a.target) x apart e its (in_block kids part other v.cell _ a.target h) inside)

      -- the copies for an invoke of the cell, where none acts
      invoke_still : (x : PortRef) (n : ℕ) (v : PlainInvoke) → v.cell ≡ c → ((g : ℕ) → IsUsed child g → more.offset (n + enabled_below (groups_of child.control) g) ≡ None)
          → acting more x (owned_by_groups n (copies kids part v)) ≡ []
      invoke_still x n v at still =
          ap (λ l. acting more x (owned_by_groups n l)) (copies_are v child (ap (kid_at kids) at ∙ its))
          ∙ ap (λ m. acting more x (owned_by_groups m (copies_from (invoke_port kids part child v) (groups_of child.control) n more 0 child.groups))) (plus_zero n)
          ∙ copies_still (invoke_port kids part child v) (groups_of child.control) n more x 0 child.groups still
        where
          plus_zero : (a : ℕ) → a ≡ a + 0
          plus_zero a = omega arith

      -- the number of the first copy for the jth of some invokes
      abbrev begun : ℕ → List PlainInvoke → ℕ → ℕ
      begun n vs j = n + length (flat_map (copies kids part) (take j vs))

      begun_later : (n : ℕ) (v : PlainInvoke) (vs : List PlainInvoke) (j : ℕ) → begun n (v ∷ vs) (suc j) ≡ begun (n + length (copies kids part v)) vs j
      begun_later n v vs j =
          ap (λ k. n + k) (length-append (copies kids part v) (flat_map (copies kids part) (take j vs)))
          ∙ plus n (length (copies kids part v)) (length (flat_map (copies kids part) (take j vs)))
        where
          plus : (a b d : ℕ) → a + (b + d) ≡ a + b + d
          plus a b d = omega arith

      -- the copies for the jth of some invokes are still
      abbrev StillAt : ℕ → List PlainInvoke → ℕ → Type 0
      StillAt n vs j = (g : ℕ) → IsUsed child g → more.offset (begun n vs j + enabled_below (groups_of child.control) g) ≡ None

      one_still : (x : PortRef) → InBlock kids part child c x → (n : ℕ) (v : PlainInvoke) (vs : List PlainInvoke) → (v.cell ≡ c → StillAt n (v ∷ vs) 0) → acting more x (owned_by_groups n (copies kids part v)) ≡ []
      one_still x inside n v vs still =
          ⊎_elim
          (λ (at : v.cell ≡ c). invoke_still x n v at (λ g u. ap (λ k. more.offset (k + enabled_below (groups_of child.control) g)) (plus_zero n) ∙ still at g u))
          (λ (apart : v.cell ≡ c → ⊥). invoke_beside x n v (other_beside x inside v apart))
          (cases_eq v.cell c)
        where
          plus_zero : (a : ℕ) → a ≡ a + 0
          plus_zero a = omega arith

      all_still : (x : PortRef) → InBlock kids part child c x → (n : ℕ) (vs : List PlainInvoke) → ((j : ℕ) → j < length vs → (get_or vs j no_invoke).cell ≡ c → StillAt n vs j)
          → acting more x (owned_by_groups n (flat_map (copies kids part) vs)) ≡ []
      all_still x inside n [] still = refl
      all_still x inside n (v ∷ vs) still =
          groups-two more x n (copies kids part v) (flat_map (copies kids part) vs)
          ∙ ap (λ l. l ++ acting more x (owned_by_groups (n + length (copies kids part v)) (flat_map (copies kids part) vs))) (one_still x inside n v vs (still 0 (omega arith)))
          ∙ all_still x inside (n + length (copies kids part v)) vs
          (λ j less at g u. ap (λ k. more.offset (k + enabled_below (groups_of child.control) g)) (sym (begun_later n v vs j)) ∙ still (suc j) (omega (arith, less)) at g u)

      -- the copies for the invoke that feeds the cell act as the child's groups do
      module _ (v : PlainInvoke) (at : v.cell ≡ c) (q : PortRef) (there : BlockTarget child q) where
        abbrev move : PortRef → PortRef
        move = invoke_port kids part child v

        abbrev ActsAt : ℕ → Type 0
        ActsAt n = (g : ℕ) → IsUsed child g → more.offset (n + enabled_below (groups_of child.control) g) ≡ inner.offset g

        abbrev Unused : Type 0
        Unused = (g : ℕ) → is_one_of g (groups_of child.control) ≡ false → inner.offset g ≡ None

        invoke_acts : (n : ℕ) → ActsAt n → Unused → acting more (move q) (owned_by_groups n (copies kids part v)) ≡ map (moved_acting move) (acting inner q (owned_by_groups 0 child.groups))
        invoke_acts n used unused =
            ap (λ l. acting more (move q) (owned_by_groups n l)) (copies_are v child (ap (kid_at kids) at ∙ its))
            ∙ ap (λ m. acting more (move q) (owned_by_groups m (copies_from move (groups_of child.control) n more 0 child.groups))) (plus_zero n)
            ∙ copies_act move (groups_of child.control) n more inner q (move q) 0 child.groups used unused
            (all_used (λ a. BlockTarget child a.target) (λ a. same_port (move a.target) (move q) ≡ same_port a.target q) (λ a h. child_same kids part child v.cell _ a.target q h there) (groups_of child.control) 0 child.groups (has.blocks c child its).used)
          where
            plus_zero : (a : ℕ) → a ≡ a + 0
            plus_zero a = omega arith

        one_acts : InBlock kids part child c (move q) → (n : ℕ) (vs : List PlainInvoke) (k : ℕ) → k < length vs → get_or vs k no_invoke ≡ v → ActsAt (begun n vs k) → Unused
            → ((j : ℕ) → j < length vs → (get_or vs j no_invoke).cell ≡ c → j ≢ k → StillAt n vs j)
            → acting more (move q) (owned_by_groups n (flat_map (copies kids part) vs)) ≡ map (moved_acting move) (acting inner q (owned_by_groups 0 child.groups))
        one_acts inside n [] k less e used unused still = absurd (omega (arith, less))
        one_acts inside n (w ∷ vs) zero less e used unused still =
            groups-two more (move q) n (copies kids part w) (flat_map (copies kids part) vs)
            ∙ ap (λ l. acting more (move q) (owned_by_groups n (copies kids part w)) ++ l)
            (all_still (move q) inside (n + length (copies kids part w)) vs
            (λ j j_less j_at g u. ap (λ i. more.offset (i + enabled_below (groups_of child.control) g)) (sym (begun_later n w vs j)) ∙ still (suc j) (omega (arith, j_less)) j_at (not_zero j) g u))
            ∙ append-nil (acting more (move q) (owned_by_groups n (copies kids part w)))
            ∙ ap (λ y. acting more (move q) (owned_by_groups n (copies kids part y))) e
            ∙ invoke_acts n (λ g u. ap (λ i. more.offset (i + enabled_below (groups_of child.control) g)) (plus_zero n) ∙ used g u) unused
          where
            plus_zero : (a : ℕ) → a ≡ a + 0
            plus_zero a = omega arith

            not_zero : (m : ℕ) → suc m ≡ 0 → ⊥
            not_zero m z = omega (arith, z)
        one_acts inside n (w ∷ vs) (suc k) less e used unused still =
            groups-two more (move q) n (copies kids part w) (flat_map (copies kids part) vs)
            ∙ ap (λ l. l ++ acting more (move q) (owned_by_groups (n + length (copies kids part w)) (flat_map (copies kids part) vs)))
            (one_still (move q) inside n w vs (λ w_at. still 0 (omega arith) w_at (not_suc k)))
            ∙ one_acts inside (n + length (copies kids part w)) vs k (omega (arith, less)) e
            (λ g u. ap (λ i. more.offset (i + enabled_below (groups_of child.control) g)) (sym (begun_later n w vs k)) ∙ used g u) unused
            (λ j j_less j_at apart g u. ap (λ i. more.offset (i + enabled_below (groups_of child.control) g)) (sym (begun_later n w vs j)) ∙ still (suc j) (omega (arith, j_less)) j_at (λ same. apart (less_one j k same)) g u)
          where
            not_suc : (m : ℕ) → 0 ≡ suc m → ⊥
            not_suc m z = omega (arith, z)

            less_one : (a b : ℕ) → suc a ≡ suc b → a ≡ b
            less_one a b z = omega (arith, z)

    -- where nothing of the child acts
    none_acts : (inner : Active) (x : PortRef) (n : ℕ) (xs : List PlainGroup) → ((g : ℕ) → inner.offset g ≡ None) → acting inner x (owned_by_groups n xs) ≡ []
    none_acts inner x n [] still = refl
    none_acts inner x n (y ∷ ys) still =
        acting_both inner x (owned (Some n) y.assigns) (owned_by_groups (suc n) ys)
        ∙ ap (λ l. l ++ acting inner x (owned_by_groups (suc n) ys)) (acting_none inner x (Some n) y.assigns (still n)) ∙ none_acts inner x (suc n) ys still

    module _ (c : ℕ) (child : PlainComponent) (its : kid_at kids c ≡ Some child) (deeds : List Deed) (inner : Active) where
      -- WHERE INVOKE k FEEDS IT
      pub fed_drivers : (fed : IsFed kids part c child deeds inner more) (q : PortRef) → BlockTarget child q
          → drivers K more (invoke_port kids part child (the_invoke part fed.invoke) q) ≡ map (moved_acting (invoke_port kids part child (the_invoke part fed.invoke))) (drivers child inner q)
      fed_drivers fed q there =
          let v = the_invoke part fed.invoke in
          let here : kid_at kids v.cell ≡ Some child = ap (kid_at kids) fed.its.cell ∙ its in
          let inside : InBlock kids part child c (invoke_port kids part child v q) = subst (λ n. InBlock kids part child n (invoke_port kids part child v q)) fed.its.cell (in_block kids part child v.cell _ q there) in
          drivers_mapped (invoke_port kids part child v) child K inner more q (invoke_port kids part child v q)
          (block_always v.cell child here inner _ q there)
          (block_groups c child its inner (invoke_port kids part child v q) inside
          ∙ one_acts c child its inner v fed.its.cell q there inside (length part.groups) part.invokes fed.invoke fed.its.there refl fed.used fed.unused
          (λ j less at apart g u. fed.others j g (record { there = less; cell = at }) apart u))

      -- WHERE IT IS IDLE
      pub idle_drivers : (idle : IsIdle kids part c child deeds inner more) (sources : ℕ → PortRef) (q : PortRef) → BlockTarget child q
          → drivers K more (child_port kids part child c sources q) ≡ map (moved_acting (child_port kids part child c sources)) (drivers child inner q)
      idle_drivers idle sources q there =
          let inside = in_block kids part child c sources q there in
          drivers_mapped (child_port kids part child c sources) child K inner more q (child_port kids part child c sources q)
          (block_always c child its inner sources q there)
          (block_groups c child its inner (child_port kids part child c sources q) inside
          ∙ all_still c child its inner (child_port kids part child c sources q) inside (length part.groups) part.invokes (λ j less at g u. idle.copies j g (record { there = less; cell = at }) u)
          ∙ ap (map (moved_acting (child_port kids part child c sources))) (sym (none_acts inner q 0 child.groups idle.still)))
