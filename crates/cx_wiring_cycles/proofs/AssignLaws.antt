-- The assignments of a component in its net: a port takes the source of the first active one whose guard is true.
use Rattle.std.proofs.Common.{◌≡◌, ℕ, suc, ◌+◌, ◌<◌, ◌≤◌, ◌==◌, inl, inr, Bool, true, false, ◌&&◌, cond, if◌then◌else◌, List, [], ◌∷◌, ◌++◌, Option, Some, None, filter, refl, ap, ◌∙◌, arith}
use Rattle.std.proofs.lemmas.Bool.{eq-eqb, ne_eqb}
use Rattle.cx_bits.specs.BitVector.{BitVector}
use Rattle.cx_meaning.specs.declared.ports.PortRef.{PortRef}
use Rattle.cx_meaning.specs.declared.ports.PortRef.TheVariants as ports
use Rattle.cx_meaning.specs.Designs.{PlainGuard, Always, Atom, Negation, All, Any, Compared, Within, PlainAssign}
use Rattle.cx_meaning.specs.Active.{Active, Owned, Acting, offset_of, same_port, if_target, if_acting, acting}
use Rattle.cx_text.specs.Members.{In}
use Rattle.cx_control.specs.Flows.{Values, guard_on, first_on}
use Rattle.cx_net.specs.Nets.{PlainNetExpr, OfPort, OfWire, PlainNetTarget, ToPort, ToRegister, ToWire, ToHole, ToDone, PlainNetDriver}
use Rattle.cx_net.specs.NetMeaning.{Node, AWire, NetAround, truth_bit, same_target}
use Rattle.cx_static.specs.Islands.{PlainIsland}
use Rattle.cx_wiring.specs.Parts.{word, drive}
use Rattle.cx_wiring.specs.Guards.{guard_wires, guard_expr, guard_drivers}
use Rattle.cx_wiring.specs.Assignments.{target_of, LooksAlways, looks_of, gate_wires, assign_wires, assigns_wires, go, gate_drivers, gated_drivers, looking_drivers, assign_drivers, assigns_drivers}
use Rattle.cx_wiring.specs.Bounds.{AllDrive, IslandsName, AssignsName}
use Rattle.cx_wiring.specs.Takings.{value, Says, takes, takes_of, IsNoWire}
use Rattle.cx_wiring.specs.IslandDrivers.{island_wires}
use Rattle.cx_wiring.proofs.AssignTargets.{guard_drives, looking_drives, assigns_drive}
use Rattle.cx_wiring.proofs.RoomLemmas.{drive_both}
use Rattle.cx_wiring.proofs.TakingLemmas.{takes_append, takes_known, others_pass}
use Rattle.cx_wiring_cycles.specs.GuardPorts.{going_set, acts_on, GuardPorts, GroupSays, AssignHolds, AssignsHold}
use Rattle.cx_wiring_cycles.specs.Shown.{wide}
use Rattle.cx_wiring_cycles.proofs.ConnectLaws.{Reads, read_before}
use Rattle.cx_wiring_cycles.proofs.GuardLaws.{guard_says, guard_connects}

gated_bit : (b c : Bool) → (if b then Some (truth_bit c) else Some (truth_bit false)) ≡ Some (truth_bit (if b then c else false))
gated_bit true c = refl
gated_bit false c = refl

itself : (b : Bool) → b ≡ (if b then true else false)
itself true = refl
itself false = refl

pub no_wire : (n : ℕ) (t : PlainNetTarget) → IsNoWire t → same_target (ToWire n) t ≡ false
no_wire n (ToWire m) h = absurd h
no_wire n (ToPort p) h = refl
no_wire n (ToRegister m) h = refl
no_wire n (ToHole m) h = refl
no_wire n ToDone h = refl

pub no_port_wire : (n : ℕ) (p : PortRef) → same_target (ToPort p) (ToWire n) ≡ false
no_port_wire n (ports.Cell c p) = refl
no_port_wire n (ports.Input i) = refl
no_port_wire n (ports.Output i) = refl
no_port_wire n (ports.Done g) = refl
no_port_wire n (ports.Literal w v) = refl

-- the targets of a cell's port and of an output are those of the net
pub same_cell : (c p : ℕ) (q : PortRef) → same_target (target_of q) (ToPort (ports.Cell c p)) ≡ same_port q (ports.Cell c p)
same_cell c p (ports.Cell d r) = both (d == c)
  where
    both : (b : Bool) → (if b then r == p else false) ≡ (b && (r == p))
    both true = refl
    both false = refl
same_cell c p (ports.Input n) = refl
same_cell c p (ports.Output n) = refl
same_cell c p (ports.Done g) = refl
same_cell c p (ports.Literal w v) = refl

pub same_output : (n : ℕ) (q : PortRef) → same_target (target_of q) (ToPort (ports.Output n)) ≡ same_port q (ports.Output n)
same_output n (ports.Cell d r) = refl
same_output n (ports.Input m) = refl
same_output n (ports.Output m) = refl
same_output n (ports.Done g) = refl
same_output n (ports.Literal w v) = refl

-- the assignments that stand in the net are those that can act
pub acting_filter : (act : Active) (p : PortRef) (stays : Owned → Bool) (list : List Owned) → ((a : Owned) → In list a → same_port a.assign.target p ≡ true → stays a ≡ false → offset_of act a.owner ≡ None)
    → acting act p (filter stays list) ≡ acting act p list
acting_filter act p stays [] h = refl
acting_filter act p stays (a ∷ rest) h = choice (stays a) refl (acting_filter act p stays rest (λ b i. h b (inr i)))
  where
    dropped : (o : Option ℕ) (more : List Acting) → o ≡ None → more ≡ if_acting o a.assign more
    dropped None more e = refl
    dropped (Some n) more e = absurd cc

    off_target : (s : Bool) (more : List Acting) → (s ≡ true → offset_of act a.owner ≡ None) → more ≡ if_target s act a more
    off_target true more e = dropped (offset_of act a.owner) more (e refl)
    off_target false more e = refl

    choice : (b : Bool) → stays a ≡ b → acting act p (filter stays rest) ≡ acting act p rest
        → acting act p (cond b (a ∷ filter stays rest) (filter stays rest)) ≡ if_target (same_port a.assign.target p) act a (acting act p rest)
    choice true e ih = ap (if_target (same_port a.assign.target p) act a) ih
    choice false e ih = ih ∙ off_target (same_port a.assign.target p) (acting act p rest) (λ t. h a (inl refl) t e)

module _ (groups : ℕ) (islands : List PlainIsland) (named : IslandsName groups islands) (around : NetAround) (registers : ℕ → Option BitVector) (look : Node → Option BitVector) where
  -- a wire of one bit has what these drivers give it, and 0 without one
  abbrev pub ReadsBit : ℕ → List PlainNetDriver → Type 0
  ReadsBit n ds = look (AWire n) ≡ takes around registers look (ToWire n) (Some (truth_bit false)) ds

  bit_reads : (n : ℕ) (ds : List PlainNetDriver) → ReadsBit n ds → Reads groups islands named around registers look n ds
  bit_reads n ds h = record { behind_them = Some (truth_bit false); reads = h }

  abbrev Skips : PlainNetTarget → List PlainNetDriver → Type 0
  Skips t ds = AllDrive (λ u. same_target u t ≡ false) ds

  pub bit_before : (n : ℕ) (xs ys : List PlainNetDriver) → Skips (ToWire n) ys → ReadsBit n (xs ++ ys) → ReadsBit n xs
  bit_before n xs ys s h = h ∙ takes_append around registers look (ToWire n) _ xs ys ∙ ap (λ o. takes around registers look (ToWire n) o xs) (others_pass around registers look (ToWire n) _ ys s)

  pub bit_behind : (n : ℕ) (xs ys : List PlainNetDriver) → Skips (ToWire n) xs → ReadsBit n (xs ++ ys) → ReadsBit n ys
  bit_behind n xs ys s h = h ∙ takes_append around registers look (ToWire n) _ xs ys ∙ others_pass around registers look (ToWire n) _ xs s

  driver_takes : (s : Bool) (d : PlainNetDriver) (on : Bool) (later : Option BitVector) → Says around registers look d.guard on
      → takes_of around registers look s d later ≡ (if s then (if on then value around registers look d.source else later) else later)
  driver_takes true d on later h = takes_known around registers look d on later h
  driver_takes false d on later h = refl

  module _ (v : Values) (goes : ℕ → Bool) (at : ℕ → BitVector) where
    abbrev V : PlainNetExpr → Option BitVector
    V = value around registers look

    -- A GATE says its guard where the group goes
    gate_says : (g : ℕ) (guard : PlainGuard) (wire : ℕ) → groups + island_wires islands ≤ wire → ((n : ℕ) → wire ≤ n → n < wire + suc (guard_wires guard) → ReadsBit n (gate_drivers groups g wire guard))
        → GuardPorts around registers look v guard → GroupSays around registers look groups goes at g → Says around registers look (OfWire wire) (if goes g then guard_on v (at g).value guard else false)
    gate_says g guard wire low reads ports_are so =
        let skip = guard_drives (λ u. same_target u (ToWire wire) ≡ false) (OfWire g) guard (suc wire) (record { among = λ m l h. ne_eqb m wire (λ e. omega arith) }) in
        let connects = guard_connects groups islands named around registers look (OfWire g) guard (suc wire)
        (λ n l m. read_before groups islands named around registers look n (guard_drivers (OfWire g) (suc wire) guard) _ (bit_reads n _ (reads n (omega arith) (omega arith)))) in
        let on = guard_says around registers look v (groups + island_wires islands) (at g) (OfWire g) so.1 guard (suc wire) (omega arith) connects ports_are in
        bit_behind wire (guard_drivers (OfWire g) (suc wire) guard) (drive (ToWire wire) (go groups g) (guard_expr (OfWire g) (suc wire) guard) ∷ []) skip (reads wire (omega arith) (omega arith))
        ∙ ap (λ s. takes_of around registers look s (drive (ToWire wire) (go groups g) (guard_expr (OfWire g) (suc wire) guard)) (Some (truth_bit false))) (eq-eqb wire wire refl)
        ∙ takes_known around registers look (drive (ToWire wire) (go groups g) (guard_expr (OfWire g) (suc wire) guard)) (goes g) (Some (truth_bit false)) so.0
        ∙ ap (λ o. if goes g then o else Some (truth_bit false)) on
        ∙ gated_bit (goes g) (guard_on v (at g).value guard)

    module _ (t : PlainNetTarget) (off : IsNoWire t) where
      abbrev T : Option BitVector → List PlainNetDriver → Option BitVector
      T = takes around registers look t

      abbrev given_by : Bool → PlainAssign → Option BitVector → Option BitVector
      given_by on a later = if same_target (target_of a.target) t then (if on then value around registers look (OfPort a.source.port) else later) else later

      -- behind wires of its own the assignment's own driver
      behind_wires : (xs : List PlainNetDriver) (a : PlainAssign) (e : PlainNetExpr) (on : Bool) (later : Option BitVector) → Skips t xs → Says around registers look e on
          → T later (xs ++ drive (target_of a.target) e (OfPort a.source.port) ∷ []) ≡ given_by on a later
      behind_wires xs a e on later skip says =
          takes_append around registers look t later xs (drive (target_of a.target) e (OfPort a.source.port) ∷ [])
          ∙ others_pass around registers look t _ xs skip
          ∙ driver_takes (same_target (target_of a.target) t) (drive (target_of a.target) e (OfPort a.source.port)) on later says

      pub always_takes : (offset : PlainNetExpr) (o : BitVector) (a : PlainAssign) (wire : ℕ) (later : Option BitVector) → groups + island_wires islands ≤ wire
          → ((n : ℕ) → wire ≤ n → n < wire + guard_wires a.guard → ReadsBit n (looking_drivers groups (LooksAlways offset) wire a))
          → GuardPorts around registers look v a.guard → V offset ≡ Some o → T later (looking_drivers groups (LooksAlways offset) wire a) ≡ given_by (guard_on v o.value a.guard) a later
      always_takes offset o a wire later low reads ports_are known =
          let connects = guard_connects groups islands named around registers look offset a.guard wire
          (λ n l m. read_before groups islands named around registers look n (guard_drivers offset wire a.guard) _ (bit_reads n _ (reads n l m))) in
          behind_wires (guard_drivers offset wire a.guard) a (guard_expr offset wire a.guard) (guard_on v o.value a.guard) later
          (guard_drives (λ u. same_target u t ≡ false) offset a.guard wire (record { among = λ m l h. no_wire m t off }))
          (guard_says around registers look v (groups + island_wires islands) o offset known a.guard wire low connects ports_are)

      -- in a group
      in_group : (g : ℕ) (guard : PlainGuard) (a : PlainAssign) (wire : ℕ) (later : Option BitVector) → groups + island_wires islands ≤ wire
          → ((n : ℕ) → wire ≤ n → n < wire + suc (guard_wires guard) → ReadsBit n (gate_drivers groups g wire guard ++ drive (target_of a.target) (OfWire wire) (OfPort a.source.port) ∷ []))
          → ((n : ℕ) → same_target (target_of a.target) (ToWire n) ≡ false) → GuardPorts around registers look v guard → GroupSays around registers look groups goes at g
          → T later (gate_drivers groups g wire guard ++ drive (target_of a.target) (OfWire wire) (OfPort a.source.port) ∷ []) ≡ given_by (if goes g then guard_on v (at g).value guard else false) a later
      in_group g guard a wire later low reads apart ports_are so =
          behind_wires (gate_drivers groups g wire guard) a (OfWire wire) (if goes g then guard_on v (at g).value guard else false) later
          (drive_both (λ u. same_target u t ≡ false) (guard_drivers (OfWire g) (suc wire) guard) _ (guard_drives (λ u. same_target u t ≡ false) (OfWire g) guard (suc wire) (record { among = λ m l h. no_wire m t off })) (no_wire wire t off, tt))
          (gate_says g guard wire low (λ n l h. bit_before n (gate_drivers groups g wire guard) _ (apart n, tt) (reads n l h)) ports_are so)

      pub gated_takes : (g : ℕ) (guard : PlainGuard) (a : PlainAssign) (wire : ℕ) (later : Option BitVector) → groups + island_wires islands ≤ wire
          → ((n : ℕ) → wire ≤ n → n < wire + gate_wires guard → ReadsBit n (gated_drivers groups g wire guard (target_of a.target) (OfPort a.source.port)))
          → ((n : ℕ) → same_target (target_of a.target) (ToWire n) ≡ false) → GuardPorts around registers look v guard → GroupSays around registers look groups goes at g
          → T later (gated_drivers groups g wire guard (target_of a.target) (OfPort a.source.port)) ≡ given_by (if goes g then guard_on v (at g).value guard else false) a later
      gated_takes g Always a wire later low reads apart ports_are so =
          driver_takes (same_target (target_of a.target) t) (drive (target_of a.target) (go groups g) (OfPort a.source.port)) (goes g) later so.0 ∙ ap (λ b. given_by b a later) (itself (goes g))
      gated_takes g (Atom p) a wire later low reads apart ports_are so = in_group g (Atom p) a wire later low reads apart ports_are so
      gated_takes g (Negation h) a wire later low reads apart ports_are so = in_group g (Negation h) a wire later low reads apart ports_are so
      gated_takes g (All gs) a wire later low reads apart ports_are so = in_group g (All gs) a wire later low reads apart ports_are so
      gated_takes g (Any gs) a wire later low reads apart ports_are so = in_group g (Any gs) a wire later low reads apart ports_are so
      gated_takes g (Compared c x y) a wire later low reads apart ports_are so = in_group g (Compared c x y) a wire later low reads apart ports_are so
      gated_takes g (Within from to) a wire later low reads apart ports_are so = in_group g (Within from to) a wire later low reads apart ports_are so

    -- AN ASSIGNMENT gives a port its source where it may act and its guard is true
    module _ (p : PortRef) where
      abbrev TP : Option BitVector → List PlainNetDriver → Option BitVector
      TP = takes around registers look (ToPort p)

      abbrev Given : Owned → Option BitVector → Option BitVector
      Given a later = given_by (ToPort p) tt (acts_on v (offset_of (going_set goes at) a.owner) a.assign.guard) a.assign later

      in_set : (b : Bool) (o : ℕ) (guard : PlainGuard) → (if b then guard_on v o guard else false) ≡ acts_on v (if b then Some o else None) guard
      in_set true o guard = refl
      in_set false o guard = refl

      one_takes : (owner : Option ℕ) (target : PortRef) (guard : PlainGuard) (source : _) (place : _) (wire : ℕ) (later : Option BitVector) → groups + island_wires islands ≤ wire
          → let a : Owned = record { owner = owner; assign = record { target = target; guard = guard; source = source; place = place } } in
          ((n : ℕ) → wire ≤ n → n < wire + assign_wires a → ReadsBit n (assign_drivers groups wire a)) → AssignHolds around registers look groups goes at v a → TP later (assign_drivers groups wire a) ≡ Given a later
      one_takes None target guard source place wire later low reads h =
          always_takes (ToPort p) tt (word 0) (wide 0) (record { target = target; guard = guard; source = source; place = place }) wire later low reads h.guard refl
      one_takes (Some g) (ports.Cell c q) guard source place wire later low reads h =
          gated_takes (ToPort p) tt g guard (record { target = ports.Cell c q; guard = guard; source = source; place = place }) wire later low reads (λ n. refl) h.guard h.owner ∙ ap (λ b. given_by (ToPort p) tt b (record { target = ports.Cell c q; guard = guard; source = source; place = place }) later) (in_set (goes g) (at g).value guard)
      one_takes (Some g) (ports.Input q) guard source place wire later low reads h =
          gated_takes (ToPort p) tt g guard (record { target = ports.Input q; guard = guard; source = source; place = place }) wire later low reads (λ n. refl) h.guard h.owner ∙ ap (λ b. given_by (ToPort p) tt b (record { target = ports.Input q; guard = guard; source = source; place = place }) later) (in_set (goes g) (at g).value guard)
      one_takes (Some g) (ports.Output q) guard source place wire later low reads h =
          gated_takes (ToPort p) tt g guard (record { target = ports.Output q; guard = guard; source = source; place = place }) wire later low reads (λ n. refl) h.guard h.owner ∙ ap (λ b. given_by (ToPort p) tt b (record { target = ports.Output q; guard = guard; source = source; place = place }) later) (in_set (goes g) (at g).value guard)
      one_takes (Some g) (ports.Literal w x) guard source place wire later low reads h =
          gated_takes (ToPort p) tt g guard (record { target = ports.Literal w x; guard = guard; source = source; place = place }) wire later low reads (λ n. refl) h.guard h.owner ∙ ap (λ b. given_by (ToPort p) tt b (record { target = ports.Literal w x; guard = guard; source = source; place = place }) later) (in_set (goes g) (at g).value guard)
      one_takes (Some g) (ports.Done q) guard source place wire later low reads h =
          always_takes (ToPort p) tt (OfWire g) (at g) (record { target = ports.Done q; guard = guard; source = source; place = place }) wire later low reads h.guard h.owner.1

      -- A PORT takes what the first of its active assignments with a true guard gives it
      module _ (same : (q : PortRef) → same_target (target_of q) (ToPort p) ≡ same_port q p) (z : BitVector) where
        abbrev Flowing : List Owned → BitVector
        Flowing list = first_on v z (acting (going_set goes at) p list)

        first_gives : (a : Owned) (rest : List Owned) → V (OfPort a.assign.source.port) ≡ Some (v a.assign.source.port) → Given a (Some (Flowing rest)) ≡ Some (Flowing (a ∷ rest))
        first_gives a rest known =
            ap (λ s. if s then (if acts_on v (offset_of (going_set goes at) a.owner) a.assign.guard then value around registers look (OfPort a.assign.source.port) else Some (Flowing rest)) else Some (Flowing rest)) (same a.assign.target)
            ∙ ap (λ o. if same_port a.assign.target p then (if acts_on v (offset_of (going_set goes at) a.owner) a.assign.guard then o else Some (Flowing rest)) else Some (Flowing rest)) known
            ∙ by_target (same_port a.assign.target p)
          where
            by_bit : (b : Bool) (x y : BitVector) → (if b then Some x else Some y) ≡ Some (if b then x else y)
            by_bit true x y = refl
            by_bit false x y = refl

            by_offset : (o : Option ℕ) → (if acts_on v o a.assign.guard then Some (v a.assign.source.port) else Some (Flowing rest)) ≡ Some (first_on v z (if_acting o a.assign (acting (going_set goes at) p rest)))
            by_offset None = refl
            by_offset (Some k) = by_bit (guard_on v k a.assign.guard) (v a.assign.source.port) (Flowing rest)

            by_target : (s : Bool) → (if s then (if acts_on v (offset_of (going_set goes at) a.owner) a.assign.guard then Some (v a.assign.source.port) else Some (Flowing rest)) else Some (Flowing rest))
                ≡ Some (first_on v z (if_target s (going_set goes at) a (acting (going_set goes at) p rest)))
            by_target true = by_offset (offset_of (going_set goes at) a.owner)
            by_target false = refl

        pub port_takes : (list : List Owned) (wire : ℕ) → groups + island_wires islands ≤ wire → AssignsName groups list
            → ((n : ℕ) → wire ≤ n → n < wire + assigns_wires list → ReadsBit n (assigns_drivers groups wire list)) → AssignsHold around registers look groups goes at v list
            → TP (Some z) (assigns_drivers groups wire list) ≡ Some (Flowing list)
        port_takes [] wire low names reads h = refl
        port_takes (a ∷ rest) wire low names reads h =
            takes_append around registers look (ToPort p) (Some z) (assign_drivers groups wire a) (assigns_drivers groups (wire + assign_wires a) rest)
            ∙ ap (λ o. takes around registers look (ToPort p) o (assign_drivers groups wire a))
            (port_takes rest (wire + assign_wires a) (omega arith) names.1 (λ n l m. bit_behind n (assign_drivers groups wire a) _ (own_skip n l) (reads n (omega arith) (omega arith))) h.1)
            ∙ one_takes a.owner a.assign.target a.assign.guard a.assign.source a.assign.place wire (Some (Flowing rest)) low (λ n l m. bit_before n (assign_drivers groups wire a) _ (rest_skip n m) (reads n l (omega arith))) h.0
            ∙ first_gives a rest h.0.source
          where
            own_skip : (n : ℕ) → wire + assign_wires a ≤ n → Skips (ToWire n) (assign_drivers groups wire a)
            own_skip n l = looking_drives (λ u. same_target u (ToWire n) ≡ false) (no_port_wire n) groups (λ g less. refl) (looks_of a.owner a.assign.target) a.assign wire names.0 (record { among = λ m x y. ne_eqb m n (λ e. omega arith) })

            rest_skip : (n : ℕ) → n < wire + assign_wires a → Skips (ToWire n) (assigns_drivers groups (wire + assign_wires a) rest)
            rest_skip n l = assigns_drive (λ u. same_target u (ToWire n) ≡ false) (no_port_wire n) groups (λ g less. refl) rest (wire + assign_wires a) names.1 (record { among = λ m x y. ne_eqb m n (λ e. omega arith) })
