-- A hole takes what the assignments of its group's done give it, whether the group goes or not: holes rest on states alone.
use Rattle.std.proofs.Common.{◌≡◌, ℕ, ◌+◌, ◌≤◌, ◌<◌, ◌==◌, Bool, true, false, if◌then◌else◌, List, [], ◌∷◌, Option, Some, None, refl, sym, ap, ◌∙◌, arith}
use Rattle.std.proofs.lemmas.Bool.{eq-eqb, eqb-true, ne_eqb}
use Rattle.cx_bits.specs.BitVector.{BitVector}
use Rattle.cx_meaning.specs.declared.ports.PortRef.{PortRef}
use Rattle.cx_meaning.specs.declared.ports.PortRef.TheVariants as ports
use Rattle.cx_meaning.specs.Designs.{PlainGuard}
use Rattle.cx_meaning.specs.Active.{group, Owned, offset_of, if_target, if_acting, acting}
use Rattle.cx_control.specs.Flows.{Values, guard_on, first_on}
use Rattle.cx_net.specs.Nets.{PlainNetExpr, OfPort, OfWire, ToHole, ToWire, PlainNetDriver}
use Rattle.cx_net.specs.NetMeaning.{Node, NetAround, same_target}
use Rattle.cx_static.specs.Islands.{PlainIsland}
use Rattle.cx_wiring.specs.Parts.{word}
use Rattle.cx_wiring.specs.Assignments.{looks_of, assign_wires, assigns_wires, assign_drivers, assigns_drivers}
use Rattle.cx_wiring.specs.Bounds.{AllDrive, IslandsName, AssignsName}
use Rattle.cx_wiring.specs.Takings.{value, takes}
use Rattle.cx_wiring.specs.IslandDrivers.{island_wires}
use Rattle.cx_wiring.proofs.AssignTargets.{looking_drives, assigns_drive}
use Rattle.cx_wiring.proofs.TakingLemmas.{takes_append}
use Rattle.cx_wiring_cycles.specs.GuardPorts.{AssignHolds, AssignsHold}
use Rattle.cx_wiring_cycles.specs.Shown.{wide}
use Rattle.cx_wiring_cycles.proofs.AssignLaws.{ReadsBit, no_port_wire, bit_before, bit_behind, always_takes, gated_takes}
use Rattle.cx_text.proofs.OptionLaws.{none_some}

-- the assignments of the done of g stand in g, and their guards look at no offset
module _ (v : Values) (at : ℕ → BitVector) (g : ℕ) where
  pub record HoleFits (a : Owned) : Type 0 where
    pub own : a.assign.target ≡ ports.Done g → a.owner ≡ Some g
    pub no_offset : a.assign.target ≡ ports.Done g → guard_on v (at g).value a.assign.guard ≡ guard_on v 0 a.assign.guard

  abbrev pub HolesFit : List Owned → Type 0
  HolesFit [] = Unit {0}
  HolesFit (a ∷ rest) = HoleFits a × HolesFit rest

module _ (groups : ℕ) (islands : List PlainIsland) (named : IslandsName groups islands) (around : NetAround) (registers : ℕ → Option BitVector) (look : Node → Option BitVector)
    (v : Values) (goes : ℕ → Bool) (at : ℕ → BitVector) (g : ℕ) (z : BitVector) where
  abbrev V : PlainNetExpr → Option BitVector
  V = value around registers look

  abbrev Reads : ℕ → List PlainNetDriver → Type 0
  Reads n ds = ReadsBit groups islands named around registers look n ds

  abbrev Flowing : List Owned → BitVector
  Flowing list = first_on v z (acting (group g) (ports.Done g) list)

  -- the source of an assignment of a done, where it is that of g and its guard is 1
  given_hole : (q : ℕ) (bit : Bool) (a : Owned) (rest : List Owned) → V (OfPort a.assign.source.port) ≡ Some (v a.assign.source.port)
      → (q ≡ g → (a.owner ≡ Some g) × (bit ≡ guard_on v 0 a.assign.guard))
      → (if q == g then (if bit then V (OfPort a.assign.source.port) else Some (Flowing rest)) else Some (Flowing rest)) ≡ Some (first_on v z (if_target (q == g) (group g) a (acting (group g) (ports.Done g) rest)))
  given_hole q bit a rest known own = by (q == g) refl
    where
      first : (b : Bool) → b ≡ bit → (if b then V (OfPort a.assign.source.port) else Some (Flowing rest)) ≡ Some (if b then v a.assign.source.port else Flowing rest)
      first true e = known
      first false e = refl

      acts : (o : Option ℕ) → o ≡ Some 0 → Some (if guard_on v 0 a.assign.guard then v a.assign.source.port else Flowing rest) ≡ Some (first_on v z (if_acting o a.assign (acting (group g) (ports.Done g) rest)))
      acts None e = absurd cc
      acts (Some n) e = let f : n ≡ 0 = cc in ap (λ m. Some (if guard_on v m a.assign.guard then v a.assign.source.port else Flowing rest)) (sym f)

      by : (s : Bool) → (q == g) ≡ s → (if s then (if bit then V (OfPort a.assign.source.port) else Some (Flowing rest)) else Some (Flowing rest)) ≡ Some (first_on v z (if_target s (group g) a (acting (group g) (ports.Done g) rest)))
      by false e = refl
      by true e =
          let is = own (eqb-true q g e) in
          first bit refl ∙ ap (λ b. Some (if b then v a.assign.source.port else Flowing rest)) is.1
          ∙ acts (offset_of (group g) a.owner) (ap (offset_of (group g)) is.0 ∙ ap (λ b. if b then Some 0 else None) (eq-eqb g g refl))

  some_is : (h k : ℕ) → ◌≡◌ {A = Option ℕ} (Some h) (Some k) → h ≡ k
  some_is h k e = cc

  hole_one : (owner : Option ℕ) (target : PortRef) (guard : PlainGuard) (source : _) (place : _) (wire : ℕ) (rest : List Owned) → groups + island_wires islands ≤ wire
      → let a : Owned = record { owner = owner; assign = record { target = target; guard = guard; source = source; place = place } } in
      ((n : ℕ) → wire ≤ n → n < wire + assign_wires a → Reads n (assign_drivers groups wire a)) → AssignHolds around registers look groups goes at v a → HoleFits v at g a
      → takes around registers look (ToHole g) (Some (Flowing rest)) (assign_drivers groups wire a) ≡ Some (Flowing (a ∷ rest))
  hole_one None (ports.Done q) guard source place wire rest low reads h fits =
      always_takes groups islands named around registers look v goes at (ToHole g) tt (word 0) (wide 0) (record { target = ports.Done q; guard = guard; source = source; place = place }) wire (Some (Flowing rest)) low reads h.guard refl
      ∙ given_hole q (guard_on v 0 guard) (record { owner = None; assign = record { target = ports.Done q; guard = guard; source = source; place = place } }) rest h.source (λ e. absurd (none_some g (fits.own (ap ports.Done e))))
  hole_one None (ports.Cell c q) guard source place wire rest low reads h fits =
      always_takes groups islands named around registers look v goes at (ToHole g) tt (word 0) (wide 0) (record { target = ports.Cell c q; guard = guard; source = source; place = place }) wire (Some (Flowing rest)) low reads h.guard refl
  hole_one None (ports.Input q) guard source place wire rest low reads h fits =
      always_takes groups islands named around registers look v goes at (ToHole g) tt (word 0) (wide 0) (record { target = ports.Input q; guard = guard; source = source; place = place }) wire (Some (Flowing rest)) low reads h.guard refl
  hole_one None (ports.Output q) guard source place wire rest low reads h fits =
      always_takes groups islands named around registers look v goes at (ToHole g) tt (word 0) (wide 0) (record { target = ports.Output q; guard = guard; source = source; place = place }) wire (Some (Flowing rest)) low reads h.guard refl
  hole_one None (ports.Literal w x) guard source place wire rest low reads h fits =
      always_takes groups islands named around registers look v goes at (ToHole g) tt (word 0) (wide 0) (record { target = ports.Literal w x; guard = guard; source = source; place = place }) wire (Some (Flowing rest)) low reads h.guard refl
  hole_one (Some k) (ports.Done q) guard source place wire rest low reads h fits =
      always_takes groups islands named around registers look v goes at (ToHole g) tt (OfWire k) (at k) (record { target = ports.Done q; guard = guard; source = source; place = place }) wire (Some (Flowing rest)) low reads h.guard h.owner.1
      ∙ given_hole q (guard_on v (at k).value guard) (record { owner = Some k; assign = record { target = ports.Done q; guard = guard; source = source; place = place } }) rest h.source
      (λ e. let o = fits.own (ap ports.Done e) in (o, ap (λ m. guard_on v (at m).value guard) (some_is k g o) ∙ fits.no_offset (ap ports.Done e)))
  hole_one (Some k) (ports.Cell c q) guard source place wire rest low reads h fits =
      gated_takes groups islands named around registers look v goes at (ToHole g) tt k guard (record { target = ports.Cell c q; guard = guard; source = source; place = place }) wire (Some (Flowing rest)) low reads (λ n. refl) h.guard h.owner
  hole_one (Some k) (ports.Input q) guard source place wire rest low reads h fits =
      gated_takes groups islands named around registers look v goes at (ToHole g) tt k guard (record { target = ports.Input q; guard = guard; source = source; place = place }) wire (Some (Flowing rest)) low reads (λ n. refl) h.guard h.owner
  hole_one (Some k) (ports.Output q) guard source place wire rest low reads h fits =
      gated_takes groups islands named around registers look v goes at (ToHole g) tt k guard (record { target = ports.Output q; guard = guard; source = source; place = place }) wire (Some (Flowing rest)) low reads (λ n. refl) h.guard h.owner
  hole_one (Some k) (ports.Literal w x) guard source place wire rest low reads h fits =
      gated_takes groups islands named around registers look v goes at (ToHole g) tt k guard (record { target = ports.Literal w x; guard = guard; source = source; place = place }) wire (Some (Flowing rest)) low reads (λ n. refl) h.guard h.owner

  -- A HOLE takes what the first assignment of its group's done with a true guard gives it
  pub hole_takes : (list : List Owned) (wire : ℕ) → groups + island_wires islands ≤ wire → AssignsName groups list
      → ((n : ℕ) → wire ≤ n → n < wire + assigns_wires list → Reads n (assigns_drivers groups wire list)) → AssignsHold around registers look groups goes at v list → HolesFit v at g list
      → takes around registers look (ToHole g) (Some z) (assigns_drivers groups wire list) ≡ Some (Flowing list)
  hole_takes [] wire low names reads h fits = refl
  hole_takes (a ∷ rest) wire low names reads h fits =
      takes_append around registers look (ToHole g) (Some z) (assign_drivers groups wire a) (assigns_drivers groups (wire + assign_wires a) rest)
      ∙ ap (λ o. takes around registers look (ToHole g) o (assign_drivers groups wire a))
      (hole_takes rest (wire + assign_wires a) (omega arith) names.1 (λ n l m. bit_behind groups islands named around registers look n (assign_drivers groups wire a) _ (own_skip n l) (reads n (omega arith) (omega arith))) h.1 fits.1)
      ∙ hole_one a.owner a.assign.target a.assign.guard a.assign.source a.assign.place wire rest low (λ n l m. bit_before groups islands named around registers look n (assign_drivers groups wire a) _ (rest_skip n m) (reads n l (omega arith))) h.0 fits.0
    where
      own_skip : (n : ℕ) → wire + assign_wires a ≤ n → AllDrive (λ u. same_target u (ToWire n) ≡ false) (assign_drivers groups wire a)
      own_skip n l = looking_drives (λ u. same_target u (ToWire n) ≡ false) (no_port_wire n) groups (λ k less. refl) (looks_of a.owner a.assign.target) a.assign wire names.0 (record { among = λ m x y. ne_eqb m n (λ e. omega arith) })

      rest_skip : (n : ℕ) → n < wire + assign_wires a → AllDrive (λ u. same_target u (ToWire n) ≡ false) (assigns_drivers groups (wire + assign_wires a) rest)
      rest_skip n l = assigns_drive (λ u. same_target u (ToWire n) ≡ false) (no_port_wire n) groups (λ k less. refl) rest (wire + assign_wires a) names.1 (record { among = λ m x y. ne_eqb m n (λ e. omega arith) })
