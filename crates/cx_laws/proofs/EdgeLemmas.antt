-- What leads on under an active set, and circles through several groups.
use Rattle.std.proofs.Common.{◌≡◌, ℕ, ◌<◌, inl, inr, ◌⊎◌, ⊎_elim, Bool, true, false, Some, None, length, refl, sym, ap, ◌∙◌, subst}
use Rattle.std.specs.Prelude.{eqb}
use Rattle.std.proofs.lemmas.Bool.{eqb-true, eqb-false}
use Rattle.cx_text.specs.Members.{In}
use Rattle.cx_prim.specs.declared.ports.Side.{Side}
use Rattle.cx_prim.specs.declared.ports.Side.TheVariants as sides
use Rattle.cx_prim.specs.Rows.{Row}
use Rattle.cx_meaning.specs.declared.ports.PortRef.{PortRef}
use Rattle.cx_meaning.specs.declared.ports.PortRef.TheVariants as ports
use Rattle.cx_meaning.specs.Rows.{side_of}
use Rattle.cx_meaning.specs.Designs.{PlainComponent, PlainStatement, Placed, Enable, group_at, no_place}
use Rattle.cx_meaning.specs.Instances.{Instance, At, Nothing, OfRow, OfInstance, cell_at, cells_of, part_of}
use Rattle.cx_meaning.specs.Active.{Active, nothing, group, Owned, source_order, offset_of, same_port, drivers}
use Rattle.cx_meaning.specs.Sights.{PartPort, Go, AnInput, AnOutput, ItsDone, part_port}
use Rattle.cx_meaning.specs.Control.{group_drives}
use Rattle.cx_rules.specs.Footprints as footprints
use Rattle.cx_rules.specs.Footprints.{AssignNames, Reads, Mentions, SideLeads, PartLeads, CellLeads, Leads, Depends, at_once, by_way_of}
use Rattle.cx_rules.specs.Circles.{IsAcyclic}
use Rattle.cx_rules.proofs.FoundLemmas.{same_is}
use Rattle.cx_rules.proofs.ForeignLemmas.{assigns_drive_in, OwnerOf, continuous, of_group, owner_of}
use Rattle.cx_meaning.proofs.ActiveLemmas.{only_self, acting_has, acting_acts}
use Rattle.cx_meaning.proofs.DesignsLemmas.{group_there}

-- an assignment of a port that is active, and what it names
pub record Driver (part : PlainComponent) (act : Active) (p q : PortRef) : Type 0 where
  pub owned : Owned
  pub stands : In (source_order part) owned
  pub target : same_port owned.assign.target p ≡ true
  pub offset : ℕ
  pub acts : offset_of act owned.owner ≡ Some offset
  pub names : AssignNames owned.assign q

pub driver_of : (part : PlainComponent) (act : Active) (p q : PortRef) → Mentions (drivers part act p) q → Driver part act p q
driver_of part act p q (b, i, n) =
    let r = acting_acts act p (source_order part) b i in
    record { owned = r.owned; stands = r.stands; target = r.target; offset = b.offset; acts = r.acts; names = subst (λ a. AssignNames a q) (sym r.same) n }

pub mentions_of : (part : PlainComponent) (act : Active) (p q : PortRef) → Driver part act p q → Mentions (drivers part act p) q
mentions_of part act p q d = (record { offset = d.offset; assign = d.owned.assign }, acting_has act p (source_order part) d.owned d.offset d.stands d.target d.acts, d.names)

-- what leads on does so by an active assignment, or as an output of a cell on an input, under every active set
pub data Link (i : Instance) (act : Active) (p q : PortRef) : Type 0 where
  by_driver : Driver (part_of i) act p q → ((other : Active) → Driver (part_of i) other p q → Leads i other p q) → Link i act p q
  within_cell : (c m n : ℕ) → p ≡ ports.Cell c m → q ≡ ports.Cell c n → ((other : Active) → Leads i other p q) → Link i act p q

module _ (i : Instance) (act : Active) (c p : ℕ) (q : PortRef) where
  at_is : (other : Active) (at : At) → cell_at (cells_of i) c ≡ at → CellLeads (part_of i) other c p at q → Leads i other (ports.Cell c p) q
  at_is other at e l = subst (λ x. CellLeads (part_of i) other c p x q) (sym e) l

  side_link : (row : Row) → cell_at (cells_of i) c ≡ OfRow row → (side : Side) → side_of row p ≡ side → SideLeads (part_of i) act row c p side q → Link i act (ports.Cell c p) q
  side_link row e sides.Enable f l = by_driver (driver_of (part_of i) act (ports.Cell c p) q l) (λ other d. at_is other (OfRow row) e (subst (λ x. SideLeads (part_of i) other row c p x q) (sym f) (mentions_of (part_of i) other (ports.Cell c p) q d)))
  side_link row e sides.Plain f l = by_driver (driver_of (part_of i) act (ports.Cell c p) q l) (λ other d. at_is other (OfRow row) e (subst (λ x. SideLeads (part_of i) other row c p x q) (sym f) (mentions_of (part_of i) other (ports.Cell c p) q d)))
  side_link row e sides.Output f (m, reads, is) = within_cell c p m refl (sym is) (λ other. at_is other (OfRow row) e (subst (λ x. SideLeads (part_of i) other row c p x q) (sym f) (m, reads, is)))
  side_link row e sides.Registered f l = absurd l

  part_link : (child : Instance) → cell_at (cells_of i) c ≡ OfInstance child → (port : PartPort) → part_port (part_of child) p ≡ port → PartLeads (part_of i) act c p port q → Link i act (ports.Cell c p) q
  part_link child e Go f l = by_driver (driver_of (part_of i) act (ports.Cell c p) q l) (λ other d. at_is other (OfInstance child) e (subst (λ x. PartLeads (part_of i) other c p x q) (sym f) (mentions_of (part_of i) other (ports.Cell c p) q d)))
  part_link child e (AnInput n) f l = by_driver (driver_of (part_of i) act (ports.Cell c p) q l) (λ other d. at_is other (OfInstance child) e (subst (λ x. PartLeads (part_of i) other c p x q) (sym f) (mentions_of (part_of i) other (ports.Cell c p) q d)))
  part_link child e (AnOutput n) f l = absurd l
  part_link child e ItsDone f l = absurd l

  at_link : (at : At) → cell_at (cells_of i) c ≡ at → CellLeads (part_of i) act c p at q → Link i act (ports.Cell c p) q
  at_link Nothing e l = absurd l
  at_link (OfRow row) e l = side_link row e (side_of row p) refl l
  at_link (OfInstance child) e l = part_link child e (part_port (part_of child) p) refl l

pub link_of : (i : Instance) (act : Active) (p q : PortRef) → Leads i act p q → Link i act p q
link_of i act (ports.Cell c p) q l = at_link i act c p q (cell_at (cells_of i) c) refl l
link_of i act (ports.Input n) q l = absurd l
link_of i act (ports.Output n) q l = by_driver (driver_of (part_of i) act (ports.Output n) q l) (λ other d. mentions_of (part_of i) other (ports.Output n) q d)
link_of i act (ports.Done g) q l = by_driver (driver_of (part_of i) act (ports.Done g) q l) (λ other d. mentions_of (part_of i) other (ports.Done g) q d)
link_of i act (ports.Literal w v) q l = absurd l

-- a port that may be a source
abbrev pub IsFit : PortRef → Type 0
IsFit (ports.Cell c p) = Unit {0}
IsFit (ports.Input n) = Unit {0}
IsFit (ports.Output n) = ⊥
IsFit (ports.Done g) = ⊥
IsFit (ports.Literal w v) = Unit {0}

abbrev pub IsActive : Active → ℕ → Type 0
IsActive act g = (k : ℕ) × (act.offset g ≡ Some k)

-- the enable of a group, whose reads are what the group looks at
abbrev pub enabled : ℕ → PlainStatement
enabled g = Placed (Enable g) no_place

-- nothing names an output of the signature or a hole, and of two active groups neither looks at what the other drives
pub record StandApart (part : PlainComponent) (act : Active) : Type 0 where
  pub sources : (o : Owned) → In (source_order part) o → (q : PortRef) → AssignNames o.assign q → IsFit q
  pub apart : (g k c : ℕ) → IsActive act g → IsActive act k → (g ≡ k → ⊥) → group_drives part k c ≡ true → Reads part (enabled g) c → ⊥

-- a port of a cell that a group looks at
abbrev InPort : PlainComponent → ℕ → PortRef → Type 0
InPort part g (ports.Cell c p) = Reads part (enabled g) c
InPort part g (ports.Input n) = Unit {0}
InPort part g (ports.Output n) = ⊥
InPort part g (ports.Done h) = ⊥
InPort part g (ports.Literal w v) = Unit {0}

in_port : (part : PlainComponent) (g : ℕ) (q : PortRef) → IsFit q → ((c p : ℕ) → q ≡ ports.Cell c p → Reads part (enabled g) c) → InPort part g q
in_port part g (ports.Cell c p) fit h = h c p refl
in_port part g (ports.Input n) fit h = tt
in_port part g (ports.Output n) fit h = absurd fit
in_port part g (ports.Done k) fit h = absurd fit
in_port part g (ports.Literal w v) fit h = tt

append : {i : Instance} {act : Active} {p q r : PortRef} → Depends i act p q → Depends i act q r → Depends i act p r
append {i} {act} {p} {q} {r} (at_once l) d = by_way_of q l d
append {i} {act} {p} {q} {r} (by_way_of s l e) d = by_way_of s l (append e d)

-- some steps, or none
data Comes (i : Instance) (act : Active) (p : PortRef) : PortRef → Type 0 where
  stays : Comes i act p p
  goes : {q : PortRef} → Depends i act p q → Comes i act p q

then_leads : {i : Instance} {act : Active} {p a b : PortRef} → Comes i act p a → Leads i act a b → Depends i act p b
then_leads stays l = at_once l
then_leads (goes d) l = append d (at_once l)

then_depends : {i : Instance} {act : Active} {b p r : PortRef} → Comes i act b p → Depends i act p r → Depends i act b r
then_depends stays d = d
then_depends (goes e) d = append e d

cell_inj : {c p e q : ℕ} → ports.Cell c p ≡ ports.Cell e q → c ≡ e
cell_inj h = cc

module _ (i : Instance) (act : Active) (fine : StandApart (part_of i) act) where
  continuous_driver : {p q : PortRef} (d : Driver (part_of i) act p q) → d.owned.owner ≡ None → (other : Active) → Driver (part_of i) other p q
  continuous_driver d e other = record { owned = d.owned; stands = d.stands; target = d.target; offset = 0; acts = ap (offset_of other) e; names = d.names }

  group_driver : {p q : PortRef} (d : Driver (part_of i) act p q) (g : ℕ) → d.owned.owner ≡ Some g → Driver (part_of i) (group g) p q
  group_driver d g e = record { owned = d.owned; stands = d.stands; target = d.target; offset = 0; acts = ap (offset_of (group g)) e ∙ only_self g; names = d.names }

  is_active : {p q : PortRef} (d : Driver (part_of i) act p q) (k : ℕ) → d.owned.owner ≡ Some k → IsActive act k
  is_active d k e = (d.offset, ap (offset_of act) (sym e) ∙ d.acts)

  named_port : {p q : PortRef} (d : Driver (part_of i) act p q) (g : ℕ) → In (group_at (part_of i) g).assigns d.owned.assign → InPort (part_of i) g q
  named_port {p} {q} d g j = in_port (part_of i) g q (fine.sources d.owned d.stands q d.names) (λ c n e. footprints.named n g d.owned.assign (inl refl) j (subst (AssignNames d.owned.assign) e d.names))

  -- from a port that an active group looks at, what leads on does so under that group alone
  module _ (g : ℕ) (active : IsActive act g) where
    own_or_other : (k : ℕ) → (g ≡ k) ⊎ (g ≡ k → ⊥)
    own_or_other k = go (eqb g k) refl
      where
        go : (b : Bool) → eqb g k ≡ b → (g ≡ k) ⊎ (g ≡ k → ⊥)
        go true e = inl (eqb-true g k e)
        go false e = inr (eqb-false g k e)

    by_owner : (c p : ℕ) (q : PortRef) → Reads (part_of i) (enabled g) c → (d : Driver (part_of i) act (ports.Cell c p) q) → ((other : Active) → Driver (part_of i) other (ports.Cell c p) q → Leads i other (ports.Cell c p) q)
        → OwnerOf (part_of i) d.owned → Leads i (group g) (ports.Cell c p) q × InPort (part_of i) g q
    by_owner c p q reads d leads (continuous e j) = (
      leads (group g) (continuous_driver d e (group g)),
      in_port (part_of i) g q (fine.sources d.owned d.stands q d.names) (λ b n f. footprints.through c p n d.owned.assign reads j (same_is d.owned.assign.target (ports.Cell c p) d.target) (subst (AssignNames d.owned.assign) f d.names)),
    )
    by_owner c p q reads d leads (of_group k e j) =
        ⊎_elim
        (λ same. (leads (group g) (group_driver d g (e ∙ ap Some (sym same))), named_port d g (subst (λ x. In (group_at (part_of i) x).assigns d.owned.assign) (sym same) j)))
        (λ differ. absurd (fine.apart g k c active (is_active d k e) differ (assigns_drive_in (group_at (part_of i) k).assigns d.owned.assign c p j (same_is d.owned.assign.target (ports.Cell c p) d.target)) reads))
        (own_or_other k)

    by_link : (c p : ℕ) (q : PortRef) → Reads (part_of i) (enabled g) c → Link i act (ports.Cell c p) q → Leads i (group g) (ports.Cell c p) q × InPort (part_of i) g q
    by_link c p q reads (by_driver d leads) = by_owner c p q reads d leads (owner_of (part_of i) d.owned d.stands)
    by_link c p q reads (within_cell e m n is f leads) = (leads (group g), subst (InPort (part_of i) g) (sym f) (subst (Reads (part_of i) (enabled g)) (cell_inj is) reads))

    one_lead : (p q : PortRef) → InPort (part_of i) g p → Leads i act p q → Leads i (group g) p q × InPort (part_of i) g q
    one_lead (ports.Cell c p) q reads l = by_link c p q reads (link_of i act (ports.Cell c p) q l)
    one_lead (ports.Input n) q reads l = absurd l
    one_lead (ports.Output n) q reads l = absurd reads
    one_lead (ports.Done h) q reads l = absurd reads
    one_lead (ports.Literal w v) q reads l = absurd l

    alone : {p q : PortRef} → InPort (part_of i) g p → Depends i act p q → Depends i (group g) p q
    alone {p} {q} reads (at_once l) = at_once (one_lead p q reads l).0
    alone {p} {q} reads (by_way_of r l d) = let h = one_lead p r reads l in by_way_of r h.0 (alone h.1 d)

  -- a way with a step of an active group
  record WithGroup (p q : PortRef) : Type 0 where
    number : ℕ
    active : IsActive act number
    there : number < length (part_of i).groups
    from : PortRef
    to : PortRef
    before : Comes i act p from
    step : Leads i act from to
    looks : InPort (part_of i) number to
    after : Comes i act to q

  step_kind : (p q : PortRef) → Link i act p q → Leads i nothing p q ⊎ ((g : ℕ) × IsActive act g × (g < length (part_of i).groups) × InPort (part_of i) g q)
  step_kind p q (within_cell c m n e f leads) = inl (leads nothing)
  step_kind p q (by_driver d leads) = of_owner (owner_of (part_of i) d.owned d.stands)
    where
      of_owner : OwnerOf (part_of i) d.owned → Leads i nothing p q ⊎ ((g : ℕ) × IsActive act g × (g < length (part_of i).groups) × InPort (part_of i) g q)
      of_owner (continuous e j) = inl (leads nothing (continuous_driver d e nothing))
      of_owner (of_group g e j) = inr (g, is_active d g e, group_there (part_of i) g d.owned.assign j, named_port d g j)

  way : {p q : PortRef} → Depends i act p q → Depends i nothing p q ⊎ WithGroup p q
  way {p} {q} (at_once l) =
      ⊎_elim
      (λ free. inl (at_once free))
      (λ r. inr (record { number = r.0; active = r.1; there = r.2; from = p; to = q; before = stays; step = l; looks = r.3; after = stays }))
      (step_kind p q (link_of i act p q l))
  way {p} {q} (by_way_of r l d) =
      ⊎_elim
      (λ free. ⊎_elim
      (λ bare. inl (by_way_of r free bare))
      (λ w. inr (record { number = w.number; active = w.active; there = w.there; from = w.from; to = w.to; before = goes (more w.before); step = w.step; looks = w.looks; after = w.after }))
      (way d))
      (λ s. inr (record { number = s.0; active = s.1; there = s.2; from = p; to = r; before = stays; step = l; looks = s.3; after = goes d }))
      (step_kind p r (link_of i act p r l))
    where
      more : {a : PortRef} → Comes i act r a → Depends i act p a
      more stays = at_once l
      more (goes e) = by_way_of r l e

  -- so a circle is one of the continuous assignments alone, or with one of the groups
  pub no_shared_circle : IsAcyclic i nothing → ((g : ℕ) → g < length (part_of i).groups → IsAcyclic i (group g)) → IsAcyclic i act
  no_shared_circle bare each (p, circle) =
      ⊎_elim
      (λ free. bare (p, free))
      (λ w. each w.number w.there (w.to, alone w.number w.active w.looks (then_depends w.after (then_leads w.before w.step))))
      (way circle)
