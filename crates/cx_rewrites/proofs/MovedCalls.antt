-- THE FORM OF A CALL where ports are moved: what a group makes of its go, its done and its registers' enables has the form as before, where
-- the ports that the form asks for are told from the others as before.
use Rattle.std.proofs.Common.{◌≡◌, inl, inr, ◌⊎◌, Bool, true, false, ◌||◌, ◌&&◌, List, [], ◌∷◌, map, Option, Some, None, option_map, refl, sym, ap, ap₂, ◌∙◌}
use Rattle.std.specs.Prelude.{nat_eq, if◌then◌else◌}
use Rattle.std.specs.List.{list_all, list_any}
use Rattle.std.proofs.lemmas.List.{map-append, length-map}
use Rattle.cx_text.specs.Members.{In}
use Rattle.cx_text.proofs.BoolLaws.{bools_same}
use Rattle.cx_text.proofs.MemberLaws.{in_either}
use Rattle.cx_meaning.specs.declared.ports.PortRef.{PortRef}
use Rattle.cx_meaning.specs.Designs.{PlainGuard, Always, Atom, Negation, All, Any, Compared, Within, PlainGuards, no_guards, a_guard, PlainAssign}
use Rattle.cx_meaning.specs.Active.{same_port}
use Rattle.cx_meaning.specs.Sights.{GuardNames, AnyNames}
use Rattle.cx_rules.specs.Footprints.{AssignNames}
use Rattle.cx_rules.specs.CallShape.{one, with_target, is_atom, is_always, is_negated, is_right_go, is_right_enable, joined, conjuncts, conjuncts_in, are_dones, is_right_done}
use Rattle.cx_rewrites.specs.Moving.{moved_guard, moved_guards, moved_assign}
use Rattle.cx_rules.proofs.FoundLemmas.{same_is}
use Rattle.cx_meaning.proofs.PortsLemmas.{same_self}

-- two ports are the same where two others are
pub same_both : (x y a b : PortRef) → (x ≡ y → a ≡ b) → (a ≡ b → x ≡ y) → same_port x y ≡ same_port a b
same_both x y a b there back = bools_same (same_port x y) (same_port a b) (λ e. same_at a b (there (same_is x y e))) (λ e. same_at x y (back (same_is a b e)))
  where
    same_at : (p q : PortRef) → p ≡ q → same_port p q ≡ true
    same_at p q e = ap (same_port p) (sym e) ∙ same_self p

pub same_turned : (p q : PortRef) → same_port p q ≡ same_port q p
same_turned p q = same_both p q q p sym sym

-- what a guard is the conjunction of it names
abbrev EachOf : Option (List PortRef) → (PortRef → Type 0) → Type 0
EachOf None P = Unit {0}
EachOf (Some ps) P = (p : PortRef) → In ps p → P p

each_joined : (a b : Option (List PortRef)) (P Q : PortRef → Type 0) → EachOf a P → EachOf b Q → EachOf (joined a b) (λ p. P p ⊎ Q p)
each_joined None b P Q h k = tt
each_joined (Some ps) None P Q h k = tt
each_joined (Some ps) (Some qs) P Q h k = λ p i. by p (in_either ps qs p i)
  where
    by : (p : PortRef) → In ps p ⊎ In qs p → P p ⊎ Q p
    by p (inl j) = inl (h p j)
    by p (inr j) = inr (k p j)

mutual
  conjuncts_named : (g : PlainGuard) → EachOf (conjuncts g) (GuardNames g)
  conjuncts_named Always = tt
  conjuncts_named (Atom p) = λ q i. one_of q i
    where
      one_of : (q : PortRef) → In (p.port ∷ []) q → p.port ≡ q
      one_of q (inl e) = e
      one_of q (inr i) = absurd i
  conjuncts_named (Negation g) = tt
  conjuncts_named (All gs) = conjuncts_in_named gs
  conjuncts_named (Any gs) = tt
  conjuncts_named (Compared c a b) = tt
  conjuncts_named (Within from to) = tt

  conjuncts_in_named : (gs : PlainGuards) → EachOf (conjuncts_in gs) (AnyNames gs)
  conjuncts_in_named no_guards = λ q i. absurd i
  conjuncts_in_named (a_guard g gs) = each_joined (conjuncts g) (conjuncts_in gs) (GuardNames g) (AnyNames gs) (conjuncts_named g) (conjuncts_in_named gs)

each_wider : (o : Option (List PortRef)) (P Q : PortRef → Type 0) → ((p : PortRef) → P p → Q p) → EachOf o P → EachOf o Q
each_wider None P Q f h = tt
each_wider (Some ps) P Q f h = λ p i. f p (h p i)

-- ASSIGNMENTS that name ports inside
pub record AssignInside (Inside : PortRef → Type 0) (a : PlainAssign) : Type 0 where
  pub target : Inside a.target
  pub names : (q : PortRef) → AssignNames a q → Inside q

abbrev pub AllInside : (PortRef → Type 0) → List PlainAssign → Type 0
AllInside Inside list = (a : PlainAssign) → In list a → AssignInside Inside a

-- A PORT THAT STANDS ALONE: no other port inside is moved to where it is
abbrev pub IsAlone : (PortRef → PortRef) → (PortRef → Type 0) → PortRef → Type 0
IsAlone move Inside q = (t : PortRef) → Inside t → same_port (move t) (move q) ≡ same_port t q

-- where each port is inside, a port to whose place no other port is moved
abbrev pub Anywhere : PortRef → Type 0
Anywhere t = Unit {0}

pub all_anywhere : (list : List PlainAssign) → AllInside Anywhere list
all_anywhere list a i = record { target = tt; names = λ q names. tt }

module _ (move : PortRef → PortRef) where
  abbrev pub IsApart : PortRef → Type 0
  IsApart q = (t : PortRef) → move t ≡ move q → t ≡ q

  pub apart_right : (q : PortRef) → IsApart q → (t : PortRef) → same_port (move q) (move t) ≡ same_port q t
  apart_right q apart t = same_both (move q) (move t) q t (λ e. sym (apart t (sym e))) (ap move)

  pub apart_alone : (q : PortRef) → IsApart q → IsAlone move Anywhere q
  apart_alone q apart t inside = same_both (move t) (move q) t q (apart t) (ap move)

module _ (move : PortRef → PortRef) (one_kept : (t : PortRef) → same_port (move t) one ≡ same_port t one) (Inside : PortRef → Type 0) where
  -- GUARDS
  abbrev GuardInside : PlainGuard → Type 0
  GuardInside g = (q : PortRef) → GuardNames g q → Inside q

  is_always-moved : (g : PlainGuard) → is_always (moved_guard move g) ≡ is_always g
  is_always-moved Always = refl
  is_always-moved (Atom p) = refl
  is_always-moved (Negation g) = refl
  is_always-moved (All gs) = refl
  is_always-moved (Any gs) = refl
  is_always-moved (Compared c a b) = refl
  is_always-moved (Within from to) = refl

  module _ (q : PortRef) (alone : IsAlone move Inside q) where
    is_atom-moved : (g : PlainGuard) → GuardInside g → is_atom (move q) (moved_guard move g) ≡ is_atom q g
    is_atom-moved Always inside = refl
    is_atom-moved (Atom p) inside = alone p.port (inside p.port refl)
    is_atom-moved (Negation g) inside = refl
    is_atom-moved (All gs) inside = refl
    is_atom-moved (Any gs) inside = refl
    is_atom-moved (Compared c a b) inside = refl
    is_atom-moved (Within from to) inside = refl

    is_negated-moved : (g : PlainGuard) → GuardInside g → is_negated (move q) (moved_guard move g) ≡ is_negated q g
    is_negated-moved Always inside = refl
    is_negated-moved (Atom p) inside = refl
    is_negated-moved (Negation g) inside = is_atom-moved g inside
    is_negated-moved (All gs) inside = refl
    is_negated-moved (Any gs) inside = refl
    is_negated-moved (Compared c a b) inside = refl
    is_negated-moved (Within from to) inside = refl

    -- LISTS OF ASSIGNMENTS
    pub with_target-moved : (list : List PlainAssign) → AllInside Inside list → with_target (move q) (map (moved_assign move) list) ≡ map (moved_assign move) (with_target q list)
    with_target-moved [] all = refl
    with_target-moved (a ∷ rest) all =
        ap (λ b. if b then moved_assign move a ∷ with_target (move q) (map (moved_assign move) rest) else with_target (move q) (map (moved_assign move) rest)) (alone a.target (all a (inl refl)).target)
        ∙ choice (same_port a.target q) (with_target-moved rest (λ b i. all b (inr i)))
      where
        choice : (b : Bool) → with_target (move q) (map (moved_assign move) rest) ≡ map (moved_assign move) (with_target q rest)
            → (if b then moved_assign move a ∷ with_target (move q) (map (moved_assign move) rest) else with_target (move q) (map (moved_assign move) rest))
            ≡ map (moved_assign move) (if b then a ∷ with_target q rest else with_target q rest)
        choice true e = ap (λ list. moved_assign move a ∷ list) e
        choice false e = e

    pub is_right_go-moved : (list : List PlainAssign) → AllInside Inside list → is_right_go (move q) (map (moved_assign move) list) ≡ is_right_go q list
    is_right_go-moved [] all = refl
    is_right_go-moved (a ∷ []) all = ap₂ ◌&&◌ (one_kept a.source.port) (ap₂ ◌||◌ (is_always-moved a.guard) (is_negated-moved a.guard (λ x n. (all a (inl refl)).names x (inl n))))
    is_right_go-moved (a ∷ b ∷ rest) all = refl

    pub is_right_enable-moved : (list : List PlainAssign) → AllInside Inside list → is_right_enable (move q) (map (moved_assign move) list) ≡ is_right_enable q list
    is_right_enable-moved [] all = refl
    is_right_enable-moved (a ∷ []) all =
        ap₂ ◌||◌ (ap₂ ◌&&◌ (alone a.source.port ((all a (inl refl)).names a.source.port (inr refl))) (is_always-moved a.guard))
        (ap₂ ◌&&◌ (one_kept a.source.port) (is_atom-moved a.guard (λ x n. (all a (inl refl)).names x (inl n))))
    is_right_enable-moved (a ∷ b ∷ rest) all = refl

  -- DONES
  abbrev moved_all : List PortRef → List PortRef
  moved_all list = map move list

  joined-moved : (a b : Option (List PortRef)) → joined (option_map moved_all a) (option_map moved_all b) ≡ option_map moved_all (joined a b)
  joined-moved None b = refl
  joined-moved (Some ps) None = refl
  joined-moved (Some ps) (Some qs) = ap Some (sym (map-append move ps qs))

  mutual
    conjuncts-moved : (g : PlainGuard) → conjuncts (moved_guard move g) ≡ option_map moved_all (conjuncts g)
    conjuncts-moved Always = refl
    conjuncts-moved (Atom p) = refl
    conjuncts-moved (Negation g) = refl
    conjuncts-moved (All gs) = conjuncts_in-moved gs
    conjuncts-moved (Any gs) = refl
    conjuncts-moved (Compared c a b) = refl
    conjuncts-moved (Within from to) = refl

    conjuncts_in-moved : (gs : PlainGuards) → conjuncts_in (moved_guards move gs) ≡ option_map moved_all (conjuncts_in gs)
    conjuncts_in-moved no_guards = refl
    conjuncts_in-moved (a_guard g gs) = ap₂ joined (conjuncts-moved g) (conjuncts_in-moved gs) ∙ joined-moved (conjuncts g) (conjuncts_in gs)

  module _ (wanted : List PortRef) (alone : (w : PortRef) → In wanted w → IsAlone move Inside w) where
    any_same : (w : PortRef) → IsAlone move Inside w → (ps : List PortRef) → ((p : PortRef) → In ps p → Inside p) → list_any (same_port (move w)) (moved_all ps) ≡ list_any (same_port w) ps
    any_same w is [] inside = refl
    any_same w is (p ∷ ps) inside = ap₂ ◌||◌ (same_turned (move w) (move p) ∙ is p (inside p (inl refl)) ∙ same_turned p w) (any_same w is ps (λ q i. inside q (inr i)))

    all_same : (list ps : List PortRef) → ((w : PortRef) → In list w → IsAlone move Inside w) → ((p : PortRef) → In ps p → Inside p)
        → list_all (λ w. list_any (same_port w) (moved_all ps)) (moved_all list) ≡ list_all (λ w. list_any (same_port w) ps) list
    all_same [] ps each inside = refl
    all_same (w ∷ ws) ps each inside = ap₂ ◌&&◌ (any_same w (each w (inl refl)) ps inside) (all_same ws ps (λ x i. each x (inr i)) inside)

    are_dones-moved : (o : Option (List PortRef)) → EachOf o Inside → are_dones (moved_all wanted) (option_map moved_all o) ≡ are_dones wanted o
    are_dones-moved None inside = refl
    are_dones-moved (Some ps) inside = ap₂ ◌&&◌ (ap₂ nat_eq (length-map ps move) (length-map wanted move)) (all_same wanted ps alone inside)

    pub is_right_done-moved : (list : List PlainAssign) → AllInside Inside list → is_right_done (moved_all wanted) (map (moved_assign move) list) ≡ is_right_done wanted list
    is_right_done-moved [] all = refl
    is_right_done-moved (a ∷ []) all =
        ap₂ ◌||◌ (ap₂ ◌&&◌ (is_always-moved a.guard) (are_dones-moved (Some (a.source.port ∷ [])) source))
        (ap₂ ◌&&◌ (one_kept a.source.port)
        (ap (are_dones (moved_all wanted)) (conjuncts-moved a.guard) ∙ are_dones-moved (conjuncts a.guard) (each_wider (conjuncts a.guard) (GuardNames a.guard) Inside (λ q n. (all a (inl refl)).names q (inl n)) (conjuncts_named a.guard))))
      where
        source : (q : PortRef) → In (a.source.port ∷ []) q → Inside q
        source q (inl e) = (all a (inl refl)).names q (inr e)
        source q (inr i) = absurd i
    is_right_done-moved (a ∷ b ∷ rest) all = refl
