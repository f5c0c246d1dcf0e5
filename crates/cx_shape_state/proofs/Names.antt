-- What an assignment names is among its sources, and the continuous drivers of a port.
use Rattle.std.proofs.Common.{◌≡◌, ◌+◌, ℕ, suc, Bool, true, false, List, [], ◌∷◌, ◌++◌, Option, Some, None, get_or, inl, inr, ⊎_elim, refl, sym, ap, ◌∙◌, subst}
use Rattle.cx_text.proofs.MemberLaws.{in_left}
use Rattle.cx_meaning.specs.declared.ports.PortRef.{PortRef}
use Rattle.cx_meaning.specs.Designs.{PlainAssign, PlainGroup, PlainComponent, no_group}
use Rattle.cx_meaning.specs.Active.{Acting, nothing, Owned, owned, owned_by_groups, source_order, offset_of, if_acting, if_target, acting, same_port, drivers}
use Rattle.cx_text.specs.Members.{In}
use Rattle.cx_rules.specs.Footprints.{AssignNames, Mentions}
use Rattle.cx_rules.proofs.FoundLemmas.{same_is}
use Rattle.cx_rules.proofs.ForeignLemmas.{sorted_among, owned_among, split, groups_among}
use Rattle.cx_meaning.proofs.PortsLemmas.{same_self}
use Rattle.cx_meaning.proofs.ActiveLemmas.{sorted_has}

-- the number of a group
pub group_number : (groups : List PlainGroup) (x : PlainGroup) → In groups x → (g : ℕ) × (get_or groups g no_group ≡ x)
group_number [] x i = absurd i
group_number (y ∷ groups) x (inl e) = (0, e)
group_number (y ∷ groups) x (inr i) = let rest = group_number groups x i in (suc rest.0, rest.1)

-- drivers under the continuous assignments alone
pub record Drives (part : PlainComponent) (p q : PortRef) : Type 0 where
  pub assign : PlainAssign
  pub stands : In part.always assign
  pub target : assign.target ≡ p
  pub names : AssignNames assign q

among_owned : (list : List PlainAssign) (a : PlainAssign) → In list a → In (owned None list) (record { owner = None; assign = a })
among_owned [] a i = absurd i
among_owned (x ∷ list) a (inl e) = inl (ap (λ y. record { owner = None; assign = y }) e)
among_owned (x ∷ list) a (inr i) = inr (among_owned list a i)

acting_in : (p : PortRef) (list : List Owned) (a : PlainAssign) → In list (record { owner = None; assign = a }) → a.target ≡ p
    → In (acting nothing p list) (record { offset = 0; assign = a })
acting_in p [] a i t = absurd i
acting_in p (x ∷ rest) a (inl e) t =
    subst (λ y. In (if_target (same_port y.assign.target p) nothing y (acting nothing p rest)) (record { offset = 0; assign = a })) (sym e)
    (subst (λ b. In (if_target b nothing (record { owner = None; assign = a }) (acting nothing p rest)) (record { offset = 0; assign = a }))
    (sym (ap (λ y. same_port y p) t ∙ same_self p)) (inl refl))
acting_in p (x ∷ rest) a (inr i) t = by_target (same_port x.assign.target p) (acting_in p rest a i t)
  where
    by_offset : (o : Option ℕ) → In (acting nothing p rest) (record { offset = 0; assign = a }) → In (if_acting o x.assign (acting nothing p rest)) (record { offset = 0; assign = a })
    by_offset None j = j
    by_offset (Some k) j = inr j

    by_target : (b : Bool) → In (acting nothing p rest) (record { offset = 0; assign = a }) → In (if_target b nothing x (acting nothing p rest)) (record { offset = 0; assign = a })
    by_target true j = by_offset (offset_of nothing x.owner) j
    by_target false j = j

record Acts (p : PortRef) (list : List Owned) (b : Acting) : Type 0 where
  owned : Owned
  stands : In list owned
  target : owned.assign.target ≡ p
  owner : owned.owner ≡ None
  same : owned.assign ≡ b.assign

acts : (p : PortRef) (list : List Owned) (b : Acting) → In (acting nothing p list) b → Acts p list b
acts p [] b i = absurd i
acts p (o ∷ rest) b i = by_target (same_port o.assign.target p) refl i (acts p rest b)
  where
    later : Acts p rest b → Acts p (o ∷ rest) b
    later h = record { owned = h.owned; stands = inr h.stands; target = h.target; owner = h.owner; same = h.same }

    by_owner : (w : Option ℕ) → o.owner ≡ w → same_port o.assign.target p ≡ true → In (if_acting (offset_of nothing w) o.assign (acting nothing p rest)) b → (In (acting nothing p rest) b → Acts p rest b) → Acts p (o ∷ rest) b
    by_owner None e t (inl g) h = record { owned = o; stands = inl refl; target = same_is o.assign.target p t; owner = e; same = ap (λ a. a.assign) g }
    by_owner None e t (inr j) h = later (h j)
    by_owner (Some g) e t j h = later (h j)

    by_target : (t : Bool) → same_port o.assign.target p ≡ t → In (if_target t nothing o (acting nothing p rest)) b → (In (acting nothing p rest) b → Acts p rest b) → Acts p (o ∷ rest) b
    by_target true e j h = by_owner o.owner refl e j h
    by_target false e j h = later (h j)

abbrev all_of : PlainComponent → List Owned
all_of part = owned None part.always ++ owned_by_groups 0 part.groups

pub drives : (part : PlainComponent) (p q : PortRef) → Mentions (drivers part nothing p) q → Drives part p q
drives part p q (b, i, n) =
    let a = acts p (source_order part) b i in
    let among = sorted_among (all_of part) a.owned a.stands in
    ⊎_elim
    (λ j. record { assign = a.owned.assign; stands = (owned_among None part.always a.owned j).1; target = a.target; names = subst (λ x. AssignNames x q) (sym a.same) n })
    (λ j. let g = groups_among 0 part.groups a.owned j in absurd (let wrong : None ≡ Some (0 + g.number) = sym a.owner ∙ g.owner in cc))
    (split (owned None part.always) (owned_by_groups 0 part.groups) a.owned among)

pub mentions : (part : PlainComponent) (p q : PortRef) → Drives part p q → Mentions (drivers part nothing p) q
mentions part p q d = (
  record { offset = 0; assign = d.assign },
  acting_in p (source_order part) d.assign
      (sorted_has (all_of part) (record { owner = None; assign = d.assign }) (in_left (owned None part.always) (owned_by_groups 0 part.groups) (record { owner = None; assign = d.assign }) (among_owned part.always d.assign d.stands)))
      d.target,
  d.names,
)
