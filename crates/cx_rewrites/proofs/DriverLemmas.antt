-- What drives a moved port are the moved assignments that drive the port, with others between or not.
use Rattle.std.proofs.Common.{◌≡◌, ℕ, suc, inl, inr, Bool, true, false, ◌&&◌, List, [], ◌∷◌, ◌++◌, map, Option, Some, None, refl, sym, ap, ◌∙◌, subst}
use Rattle.std.specs.Prelude.{if◌then◌else◌}
use Rattle.std.proofs.lemmas.List.{map-append}
use Rattle.cx_meaning.specs.declared.ports.PortRef.{PortRef}
use Rattle.cx_meaning.specs.Designs.{PlainAssign, PlainGroup, PlainComponent}
use Rattle.cx_meaning.specs.Active.{Active, Acting, Owned, owned, owned_by_groups, no_later, placed_in, by_place, offset_of, if_acting, same_port, if_target, acting, drivers}
use Rattle.cx_rewrites.specs.Moving.{moved_assign, moved_group, moved_owned, moved_acting}
use Rattle.cx_rewrites.specs.Driving.{assigns_of, KeepsApart, Between, no_assigns, kept, foreign}
use Rattle.cx_rewrites.proofs.OrderLemmas.{only, only-by_place}

abbrev is_acting : Option ℕ → Bool
is_acting None = false
is_acting (Some k) = true

-- an assignment is active and drives the port
abbrev acts_on : Active → PortRef → Owned → Bool
acts_on act p o = is_acting (offset_of act o.owner) && same_port o.assign.target p

-- the active ones of a list, whatever their ports
abbrev acting_all : Active → List Owned → List Acting
acting_all act [] = []
acting_all act (o ∷ os) = if_acting (offset_of act o.owner) o.assign (acting_all act os)

acting-only : (act : Active) (p : PortRef) (list : List Owned) → acting act p list ≡ acting_all act (only (acts_on act p) list)
acting-only act p [] = refl
acting-only act p (o ∷ rest) = choice (offset_of act o.owner) (same_port o.assign.target p) refl (acting-only act p rest)
  where
    choice : (k : Option ℕ) (t : Bool) → offset_of act o.owner ≡ k → acting act p rest ≡ acting_all act (only (acts_on act p) rest)
        → if_target t act o (acting act p rest) ≡ acting_all act (if is_acting k && t then o ∷ only (acts_on act p) rest else only (acts_on act p) rest)
    choice None true e h = ap (λ x. if_acting x o.assign (acting act p rest)) e ∙ h
    choice None false e h = h
    choice (Some k) true e h = ap (if_acting (offset_of act o.owner) o.assign) h
    choice (Some k) false e h = h

-- the assignments of a component whose ports are moved
module _ (move : PortRef → PortRef) where
  owned-moved : (owner : Option ℕ) (list : List PlainAssign) → owned owner (map (moved_assign move) list) ≡ map (moved_owned move) (owned owner list)
  owned-moved owner [] = refl
  owned-moved owner (a ∷ rest) = ap (λ x. record { owner = owner; assign = moved_assign move a } ∷ x) (owned-moved owner rest)

  owned_by_groups-moved : (g : ℕ) (list : List PlainGroup) → owned_by_groups g (map (moved_group move) list) ≡ map (moved_owned move) (owned_by_groups g list)
  owned_by_groups-moved g [] = refl
  owned_by_groups-moved g (x ∷ xs) =
      ap (λ z. z ++ owned_by_groups (suc g) (map (moved_group move) xs)) (owned-moved (Some g) x.assigns)
      ∙ ap (λ z. map (moved_owned move) (owned (Some g) x.assigns) ++ z) (owned_by_groups-moved (suc g) xs)
      ∙ sym (map-append (moved_owned move) (owned (Some g) x.assigns) (owned_by_groups (suc g) xs))

  pub assigns_of-moved : (part other : PlainComponent) → other.always ≡ map (moved_assign move) part.always → other.groups ≡ map (moved_group move) part.groups
      → assigns_of other ≡ map (moved_owned move) (assigns_of part)
  assigns_of-moved part other always groups =
      ap (λ z. owned None z ++ owned_by_groups 0 other.groups) always
      ∙ ap (λ z. owned None (map (moved_assign move) part.always) ++ owned_by_groups 0 z) groups
      ∙ ap (λ z. z ++ owned_by_groups 0 (map (moved_group move) part.groups)) (owned-moved None part.always)
      ∙ ap (λ z. map (moved_owned move) (owned None part.always) ++ z) (owned_by_groups-moved 0 part.groups)
      ∙ sym (map-append (moved_owned move) (owned None part.always) (owned_by_groups 0 part.groups))

module _ (move : PortRef → PortRef) (act more : Active) where
  -- pair by pair the assignment and the moved one, at one offset
  data AllMoved : List Owned → List Owned → Type 0 where
    no_more : AllMoved [] []
    one_more : {o n : Owned} {os ns : List Owned} → n.assign ≡ moved_assign move o.assign → offset_of more n.owner ≡ offset_of act o.owner → AllMoved os ns → AllMoved (o ∷ os) (n ∷ ns)

  placed_moved : (a b : Owned) {os ns : List Owned} → b.assign ≡ moved_assign move a.assign → offset_of more b.owner ≡ offset_of act a.owner → AllMoved os ns → AllMoved (placed_in a os) (placed_in b ns)
  placed_moved a b e f no_more = one_more e f no_more
  placed_moved a b e f (one_more {o = o} {n = n} {os = os} {ns = ns} h k rest) =
      choice (no_later a.assign.place o.assign.place) (no_later b.assign.place n.assign.place)
      (ap (λ x. no_later x.place n.assign.place) e ∙ ap (λ x. no_later a.assign.place x.place) h) (placed_moved a b e f rest)
    where
      choice : (t u : Bool) → u ≡ t → AllMoved (placed_in a os) (placed_in b ns) → AllMoved (if t then a ∷ o ∷ os else o ∷ placed_in a os) (if u then b ∷ n ∷ ns else n ∷ placed_in b ns)
      choice true true same later = one_more e f (one_more h k rest)
      choice true false same later = absurd (cc)
      choice false true same later = absurd (cc)
      choice false false same later = one_more h k later

  by_place_moved : {os ns : List Owned} → AllMoved os ns → AllMoved (by_place os) (by_place ns)
  by_place_moved no_more = no_more
  by_place_moved (one_more {o = o} {n = n} h k rest) = placed_moved o n h k (by_place_moved rest)

  acting_all-moved : {os ns : List Owned} → AllMoved os ns → acting_all more ns ≡ map (moved_acting move) (acting_all act os)
  acting_all-moved no_more = refl
  acting_all-moved (one_more {o = o} {n = n} {os = os} {ns = ns} h k rest) =
      ap (λ x. if_acting (offset_of more n.owner) x (acting_all more ns)) h
      ∙ ap (λ x. if_acting x (moved_assign move o.assign) (acting_all more ns)) k
      ∙ ap (if_acting (offset_of act o.owner) (moved_assign move o.assign)) (acting_all-moved rest)
      ∙ choice (offset_of act o.owner)
    where
      choice : (t : Option ℕ) → if_acting t (moved_assign move o.assign) (map (moved_acting move) (acting_all act os)) ≡ map (moved_acting move) (if_acting t o.assign (acting_all act os))
      choice None = refl
      choice (Some j) = refl

  module _ (p : PortRef) where
    only_moved : {os ns : List Owned} → Between move act more p os ns → AllMoved (only (acts_on act p) os) (only (acts_on more (move p)) ns)
    only_moved no_assigns = no_more
    only_moved (kept {o = o} {n = n} {os = os} {ns = ns} here rest) =
        choice (offset_of act o.owner) (offset_of more n.owner) (same_port o.assign.target p) (same_port n.assign.target (move p)) here.offset refl
        (λ k e. ap (λ x. same_port x.target (move p)) here.assign ∙ here.target k e) (only_moved rest)
      where
        choice : (a b : Option ℕ) (t u : Bool) → b ≡ a → offset_of act o.owner ≡ a → ((k : ℕ) → offset_of act o.owner ≡ Some k → u ≡ t)
            → AllMoved (only (acts_on act p) os) (only (acts_on more (move p)) ns)
            → AllMoved (if is_acting a && t then o ∷ only (acts_on act p) os else only (acts_on act p) os) (if is_acting b && u then n ∷ only (acts_on more (move p)) ns else only (acts_on more (move p)) ns)
        choice None None t u e f g h = h
        choice None (Some k) t u e f g h = absurd (cc)
        choice (Some j) None t u e f g h = absurd (cc)
        choice (Some j) (Some k) true true e f g h = one_more here.assign here.offset h
        choice (Some j) (Some k) true false e f g h = absurd (let same : false ≡ true = g j f in cc)
        choice (Some j) (Some k) false true e f g h = absurd (let same : true ≡ false = g j f in cc)
        choice (Some j) (Some k) false false e f g h = h
    only_moved (foreign {n = n} {os = os} {ns = ns} apart rest) = choice (offset_of more n.owner) (same_port n.assign.target (move p)) apart refl (only_moved rest)
      where
        choice : (b : Option ℕ) (u : Bool) → ((k : ℕ) → offset_of more n.owner ≡ Some k → u ≡ false) → offset_of more n.owner ≡ b
            → AllMoved (only (acts_on act p) os) (only (acts_on more (move p)) ns)
            → AllMoved (only (acts_on act p) os) (if is_acting b && u then n ∷ only (acts_on more (move p)) ns else only (acts_on more (move p)) ns)
        choice None u g e h = h
        choice (Some k) true g e h = absurd (let same : true ≡ false = g k e in cc)
        choice (Some k) false g e h = h

    -- WHAT DRIVES THE MOVED PORT
    pub between_drives : (os ns : List Owned) → Between move act more p os ns → acting more (move p) (by_place ns) ≡ map (moved_acting move) (acting act p (by_place os))
    between_drives os ns between =
        acting-only more (move p) (by_place ns)
        ∙ ap (acting_all more) (only-by_place (acts_on more (move p)) ns)
        ∙ acting_all-moved (by_place_moved (only_moved between))
        ∙ ap (λ list. map (moved_acting move) (acting_all act list)) (sym (only-by_place (acts_on act p) os))
        ∙ ap (map (moved_acting move)) (sym (acting-only act p (by_place os)))

    pub driven_between : (part other : PlainComponent) → Between move act more p (assigns_of part) (assigns_of other) → drivers other more (move p) ≡ map (moved_acting move) (drivers part act p)
    driven_between part other between = between_drives (assigns_of part) (assigns_of other) between

    -- all are moved and none stands between, where the groups have their offsets
    module _ (offsets : (g : ℕ) → more.offset g ≡ act.offset g) where
      same_offset : (owner : Option ℕ) → offset_of more owner ≡ offset_of act owner
      same_offset None = refl
      same_offset (Some g) = offsets g

      none_between : (list : List Owned) → KeepsApart move act p list → Between move act more p list (map (moved_owned move) list)
      none_between [] apart = no_assigns
      none_between (o ∷ rest) apart =
          kept (record { assign = refl; offset = same_offset o.owner; target = λ k e. apart o k (inl refl) e }) (none_between rest (λ a k i e. apart a k (inr i) e))

      pub driven_moved : (part other : PlainComponent) → other.always ≡ map (moved_assign move) part.always → other.groups ≡ map (moved_group move) part.groups
          → KeepsApart move act p (assigns_of part) → drivers other more (move p) ≡ map (moved_acting move) (drivers part act p)
      driven_moved part other always groups apart =
          driven_between part other (subst (Between move act more p (assigns_of part)) (sym (assigns_of-moved move part other always groups)) (none_between (assigns_of part) apart))
