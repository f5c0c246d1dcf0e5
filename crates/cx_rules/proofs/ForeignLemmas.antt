-- The enabling ports of a cell that no active group drives are 0.
use Rattle.std.proofs.Common.{◌≡◌, ℕ, suc, ◌+◌, inl, inr, ◌⊎◌, ⊎_elim, Bool, true, false, ◌||◌, Option, Some, None, List, [], ◌∷◌, ◌++◌, length, get_or, refl, sym, ap, ◌∙◌, arith}
use Rattle.cx_text.specs.Members.{In}
use Rattle.cx_prim.specs.declared.ports.Side.TheVariants as sides
use Rattle.cx_prim.specs.Rows.{Row}
use Rattle.cx_meaning.specs.declared.ports.PortRef.{PortRef}
use Rattle.cx_meaning.specs.declared.ports.PortRef.TheVariants as ports
use Rattle.cx_meaning.specs.Rows.{side_of}
use Rattle.cx_meaning.specs.Designs.{PlainAssign, PlainGroup, group_at, no_group, PlainComponent}
use Rattle.cx_meaning.specs.Instances.{Instance, Node, OfRow, cell_at, cells_of, part_of, State, under}
use Rattle.cx_meaning.specs.Active.{Active, Owned, owned, owned_by_groups, by_place, source_order, offset_of, if_acting, if_target, acting, same_port, drivers}
use Rattle.cx_meaning.specs.Sights.{Look, Below, Held, bit_of, target_seen, cell_step, side_step, step, outputs_below, approach, ports_of, seen}
use Rattle.cx_meaning.specs.Control.{targets_cell, assigns_drive, group_drives}
use Rattle.cx_rules.proofs.FoundLemmas.{same_is}
use Rattle.std.proofs.lemmas.Bool.{or_right}
use Rattle.cx_meaning.proofs.InstancesLemmas.{just_same}
use Rattle.cx_meaning.proofs.ActiveLemmas.{in_placed}

pub sorted_among : (list : List Owned) (o : Owned) → In (by_place list) o → In list o
sorted_among [] o i = i
sorted_among (a ∷ rest) o i = ⊎_elim inl (λ k. inr (sorted_among rest o k)) (in_placed a (by_place rest) o i)

pub owned_among : (owner : Option ℕ) (list : List PlainAssign) (o : Owned) → In (owned owner list) o → (o.owner ≡ owner) × In list o.assign
owned_among owner [] o i = absurd i
owned_among owner (a ∷ rest) o (inl e) = (ap (λ x. x.owner) (sym e), inl (ap (λ x. x.assign) e))
owned_among owner (a ∷ rest) o (inr i) = let r = owned_among owner rest o i in (r.0, inr r.1)

pub split : (xs ys : List Owned) (o : Owned) → In (xs ++ ys) o → In xs o ⊎ In ys o
split [] ys o i = inr i
split (x ∷ xs) ys o (inl e) = inl (inl e)
split (x ∷ xs) ys o (inr i) = ⊎_elim (λ j. inl (inr j)) inr (split xs ys o i)

-- the group of the number that is counted on from k
pub record OfGroup (k : ℕ) (groups : List PlainGroup) (o : Owned) : Type 0 where
  pub number : ℕ
  pub owner : o.owner ≡ Some (k + number)
  pub stands : In (get_or groups number no_group).assigns o.assign

first_group : (k : ℕ) (x : PlainGroup) (xs : List PlainGroup) (o : Owned) → In (owned (Some k) x.assigns) o → OfGroup k (x ∷ xs) o
first_group k x xs o j = let r = owned_among (Some k) x.assigns o j in let e : k ≡ k + 0 = omega arith in record { number = 0; owner = r.0 ∙ ap Some e; stands = r.1 }

later_group : (k : ℕ) (x : PlainGroup) (xs : List PlainGroup) (o : Owned) → OfGroup (suc k) xs o → OfGroup k (x ∷ xs) o
later_group k x xs o h = let e : suc k + h.number ≡ k + suc h.number = omega arith in record { number = suc h.number; owner = h.owner ∙ ap Some e; stands = h.stands }

pub groups_among : (k : ℕ) (groups : List PlainGroup) (o : Owned) → In (owned_by_groups k groups) o → OfGroup k groups o
groups_among k [] o i = absurd i
groups_among k (x ∷ xs) o i = ⊎_elim (first_group k x xs o) (λ j. later_group k x xs o (groups_among (suc k) xs o j)) (split (owned (Some k) x.assigns) (owned_by_groups (suc k) xs) o i)

pub assigns_drive_in : (list : List PlainAssign) (a : PlainAssign) (c p : ℕ) → In list a → a.target ≡ ports.Cell c p → assigns_drive list c ≡ true
assigns_drive_in [] a c p i t = absurd i
assigns_drive_in (x ∷ rest) a c p (inl e) t = ap (λ target. targets_cell target c || assigns_drive rest c) (ap (λ y. y.target) e ∙ t) ∙ ap (λ b. b || assigns_drive rest c) (just_same c)
assigns_drive_in (x ∷ rest) a c p (inr i) t = or_right (targets_cell x.target c) (assigns_drive rest c) (assigns_drive_in rest a c p i t)

-- no active assignment where each has no offset
pub acting_none : (act : Active) (p : PortRef) (list : List Owned) → ((o : Owned) → In list o → o.assign.target ≡ p → offset_of act o.owner ≡ None) → acting act p list ≡ []
acting_none act p [] h = refl
acting_none act p (o ∷ rest) h = one (same_port o.assign.target p) (λ e. h o (inl refl) (same_is o.assign.target p e)) (acting_none act p rest (λ x i e. h x (inr i) e))
  where
    one : (b : Bool) → (b ≡ true → offset_of act o.owner ≡ None) → acting act p rest ≡ [] → if_target b act o (acting act p rest) ≡ []
    one true k e = ap (λ x. if_acting x o.assign (acting act p rest)) (k refl) ∙ e
    one false k e = e

module _ (i : Instance) (act : Active) (c p : ℕ)
    (alone : (o : Owned) → In (source_order (part_of i)) o → o.owner ≡ None → o.assign.target ≡ ports.Cell c p → ⊥)
    (apart : (g : ℕ) → group_drives (part_of i) g c ≡ true → act.offset g ≡ None) where
  no_offset : (o : Owned) → In (source_order (part_of i)) o → o.assign.target ≡ ports.Cell c p → offset_of act o.owner ≡ None
  no_offset o j t =
      ⊎_elim
      (λ k. let r = owned_among None (part_of i).always o k in absurd (alone o j r.0 t))
      (λ k. let r = groups_among 0 (part_of i).groups o k in
      let e : 0 + r.number ≡ r.number = omega arith in
      ap (offset_of act) (r.owner ∙ ap Some e) ∙ apart r.number (assigns_drive_in (group_at (part_of i) r.number).assigns o.assign c p r.stands t))
      (split (owned None (part_of i).always) (owned_by_groups 0 (part_of i).groups) o (sorted_among _ o j))

  none_drive : drivers (part_of i) act (ports.Cell c p) ≡ []
  none_drive = acting_none act (ports.Cell c p) (source_order (part_of i)) no_offset

  -- so an enabling port of such a cell is seen as 0
  module _ (row : Row) (stands : cell_at (cells_of i) c ≡ OfRow row) (enabling : side_of row p ≡ sides.Enable) where
    step_zero : (held : Held) (s : State) (look : Look) (below : Below) → step i held act s look below (ports.Cell c p) ≡ bit_of false
    step_zero held s look below =
        ap (cell_step (part_of i) act s look below c p) stands
        ∙ ap (side_step (part_of i) act s look below row c p) enabling
        ∙ ap (target_seen (bit_of false) look) none_drive

    pub foreign_zero : (held : Held) (s : State) → seen i held act s (ports.Cell c p) ≡ bit_of false
    foreign_zero held s = of_node i (λ below. step_zero held s (approach i held act s below (length (ports_of i))) below)
      where
        of_node : (n : Instance) → ((below : Below) → step n held act s (approach n held act s below (length (ports_of n))) below (ports.Cell c p) ≡ bit_of false) → seen n held act s (ports.Cell c p) ≡ bit_of false
        of_node (Node part cells) h = h (outputs_below cells (λ k. under k s))

-- an assignment is a continuous one, or one of a group
pub data OwnerOf (part : PlainComponent) (o : Owned) : Type 0 where
  continuous : o.owner ≡ None → In part.always o.assign → OwnerOf part o
  of_group : (g : ℕ) → o.owner ≡ Some g → In (group_at part g).assigns o.assign → OwnerOf part o

pub owner_of : (part : PlainComponent) (o : Owned) → In (source_order part) o → OwnerOf part o
owner_of part o i =
    ⊎_elim
    (λ j. let r = owned_among None part.always o j in continuous r.0 r.1)
    (λ j. let r = groups_among 0 part.groups o j in let e : 0 + r.number ≡ r.number = omega arith in of_group r.number (r.owner ∙ ap Some e) r.stands)
    (split (owned None part.always) (owned_by_groups 0 part.groups) o (sorted_among _ o i))
