-- Which drivers of assignments are fed: those in a group that does not go, and those whose ports have values. So a target has a value
-- where the ports that its active assignments name have values.
use Rattle.std.proofs.Common.{◌≡◌, ℕ, suc, ◌+◌, ◌<◌, ◌≤◌, inl, inr, Bool, true, false, if◌then◌else◌, List, [], ◌∷◌, ◌++◌, Option, Some, option_and_then, refl, sym, ap, ◌∙◌, arith}
use Rattle.std.proofs.lemmas.Bool.{eq-eqb, ne_eqb}
use Rattle.cx_text.specs.Members.{In}
use Rattle.cx_text.proofs.OptionLaws.{same_some}
use Rattle.cx_bits.specs.BitVector.{BitVector}
use Rattle.cx_meaning.specs.declared.ports.PortRef.{PortRef}
use Rattle.cx_meaning.specs.declared.ports.PortRef.TheVariants as ports
use Rattle.cx_meaning.specs.Designs.{PlainGuard, Always, Atom, Negation, All, Any, Compared, Within, PlainAssign}
use Rattle.cx_meaning.specs.Active.{Owned}
use Rattle.cx_meaning.specs.Sights.{GuardNames}
use Rattle.cx_rules.specs.Footprints.{AssignNames}
use Rattle.cx_net.specs.Nets.{PlainNetExpr, OfPort, OfWire, PlainNetTarget, ToWire, PlainNetDriver}
use Rattle.cx_net.specs.NetMeaning.{Node, AWire, AHole, NetAround, is_true, truth_bit, same_target}
use Rattle.cx_static.specs.Islands.{PlainIsland}
use Rattle.cx_wiring.specs.Parts.{drive}
use Rattle.cx_wiring.specs.Guards.{guard_wires, guard_expr, guard_drivers}
use Rattle.cx_wiring.specs.Assignments.{target_of, Looks, LooksAlways, LooksIn, looks_of, gate_wires, looking_wires, assign_wires, assigns_wires, go, gate_drivers, gated_drivers, looking_drivers, assign_drivers, assigns_drivers}
use Rattle.cx_wiring.specs.Bounds.{AllDrive, IslandsName, AssignsName}
use Rattle.cx_wiring.specs.Takings.{value, takes_of, AllConnect, IsNoWire}
use Rattle.cx_wiring.specs.IslandDrivers.{island_wires}
use Rattle.cx_wiring.proofs.AssignTargets.{guard_drives, looking_drives_to, looking_drives, assigns_drive}
use Rattle.cx_wiring_cycles.proofs.ConnectLaws.{read_before}
use Rattle.cx_wiring_cycles.proofs.GuardLaws.{guard_connects}
use Rattle.cx_wiring_cycles.proofs.AssignLaws.{ReadsBit, bit_before, bit_behind, no_port_wire, no_wire}
use Rattle.cx_wiring_runs.proofs.KnownLemmas.{known_as, KnownExpr, On, Fed, AllTo, all_to_append, all_to_other, AllOfThem, all_append}
use Rattle.cx_wiring_runs.proofs.GuardsKnown.{guard_known}

target_no_wire : (n : ℕ) (q : PortRef) → same_target (target_of q) (ToWire n) ≡ false
target_no_wire n (ports.Cell c p) = refl
target_no_wire n (ports.Input i) = refl
target_no_wire n (ports.Output i) = refl
target_no_wire n (ports.Done g) = refl
target_no_wire n (ports.Literal w v) = refl

module _ (groups : ℕ) (islands : List PlainIsland) (named : IslandsName groups islands) (around : NetAround) (registers : ℕ → Option BitVector) (look : Node → Option BitVector) where
  abbrev bound : ℕ
  bound = groups + island_wires islands

  abbrev V : PlainNetExpr → Option BitVector
  V = value around registers look

  abbrev F : PlainNetDriver → Type 0
  F = Fed around registers look

  abbrev Bit : ℕ → List PlainNetDriver → Type 0
  Bit n ds = ReadsBit groups islands named around registers look n ds

  abbrev Skips : PlainNetTarget → List PlainNetDriver → Type 0
  Skips t ds = AllDrive (λ u. same_target u t ≡ false) ds

  -- THE WIRES of an assignment have what their own drivers give them
  abbrev GateReads : ℕ → ℕ → PlainGuard → Type 0
  GateReads g wire guard =
      AllConnect around registers look (groups + island_wires islands) (guard_drivers (OfWire g) (suc wire) guard)
      × (look (AWire wire) ≡ takes_of around registers look true (drive (ToWire wire) (go groups g) (guard_expr (OfWire g) (suc wire) guard)) (Some (truth_bit false)))

  abbrev GroupReads : ℕ → ℕ → PlainGuard → Type 0
  GroupReads g wire Always = Unit {0}
  GroupReads g wire (Atom p) = GateReads g wire (Atom p)
  GroupReads g wire (Negation h) = GateReads g wire (Negation h)
  GroupReads g wire (All gs) = GateReads g wire (All gs)
  GroupReads g wire (Any gs) = GateReads g wire (Any gs)
  GroupReads g wire (Compared c a b) = GateReads g wire (Compared c a b)
  GroupReads g wire (Within from to) = GateReads g wire (Within from to)

  abbrev pub LookReads : Looks → ℕ → PlainGuard → Type 0
  LookReads (LooksAlways offset) wire guard = AllConnect around registers look (groups + island_wires islands) (guard_drivers offset wire guard)
  LookReads (LooksIn g) wire guard = GroupReads g wire guard

  abbrev pub AssignsRead : ℕ → List Owned → Type 0
  AssignsRead wire [] = Unit {0}
  AssignsRead wire (a ∷ rest) = LookReads (looks_of a.owner a.assign.target) wire a.assign.guard × AssignsRead (wire + assign_wires a) rest

  gate_reads : (g wire : ℕ) (guard : PlainGuard) → ((n : ℕ) → wire ≤ n → n < wire + suc (guard_wires guard) → Bit n (gate_drivers groups g wire guard)) → GateReads g wire guard
  gate_reads g wire guard reads =
      let skip = guard_drives (λ u. same_target u (ToWire wire) ≡ false) (OfWire g) guard (suc wire) (record { among = λ m l h. ne_eqb m wire (λ e. omega arith) }) in (
        guard_connects groups islands named around registers look (OfWire g) guard (suc wire)
            (λ n l m. read_before groups islands named around registers look n (guard_drivers (OfWire g) (suc wire) guard) _ (record { behind_them = Some (truth_bit false); reads = reads n (omega arith) (omega arith) })),
        bit_behind groups islands named around registers look wire (guard_drivers (OfWire g) (suc wire) guard) (drive (ToWire wire) (go groups g) (guard_expr (OfWire g) (suc wire) guard) ∷ []) skip (reads wire (omega arith) (omega arith))
            ∙ ap (λ s. takes_of around registers look s (drive (ToWire wire) (go groups g) (guard_expr (OfWire g) (suc wire) guard)) (Some (truth_bit false))) (eq-eqb wire wire refl),
      )

  group_reads : (g wire : ℕ) (guard : PlainGuard) (target : PlainNetTarget) (source : PlainNetExpr) → ((n : ℕ) → same_target target (ToWire n) ≡ false)
      → ((n : ℕ) → wire ≤ n → n < wire + gate_wires guard → Bit n (gated_drivers groups g wire guard target source)) → GroupReads g wire guard
  group_reads g wire Always target source apart reads = tt
  group_reads g wire (Atom p) target source apart reads = gate_reads g wire (Atom p) (λ n l h. bit_before groups islands named around registers look n (gate_drivers groups g wire (Atom p)) (drive target (OfWire wire) source ∷ []) (apart n, tt) (reads n l h))
  group_reads g wire (Negation x) target source apart reads = gate_reads g wire (Negation x) (λ n l h. bit_before groups islands named around registers look n (gate_drivers groups g wire (Negation x)) (drive target (OfWire wire) source ∷ []) (apart n, tt) (reads n l h))
  group_reads g wire (All gs) target source apart reads = gate_reads g wire (All gs) (λ n l h. bit_before groups islands named around registers look n (gate_drivers groups g wire (All gs)) (drive target (OfWire wire) source ∷ []) (apart n, tt) (reads n l h))
  group_reads g wire (Any gs) target source apart reads = gate_reads g wire (Any gs) (λ n l h. bit_before groups islands named around registers look n (gate_drivers groups g wire (Any gs)) (drive target (OfWire wire) source ∷ []) (apart n, tt) (reads n l h))
  group_reads g wire (Compared c a b) target source apart reads = gate_reads g wire (Compared c a b) (λ n l h. bit_before groups islands named around registers look n (gate_drivers groups g wire (Compared c a b)) (drive target (OfWire wire) source ∷ []) (apart n, tt) (reads n l h))
  group_reads g wire (Within from to) target source apart reads = gate_reads g wire (Within from to) (λ n l h. bit_before groups islands named around registers look n (gate_drivers groups g wire (Within from to)) (drive target (OfWire wire) source ∷ []) (apart n, tt) (reads n l h))

  look_reads : (l : Looks) (wire : ℕ) (a : PlainAssign) → ((n : ℕ) → wire ≤ n → n < wire + looking_wires l a.guard → Bit n (looking_drivers groups l wire a)) → LookReads l wire a.guard
  look_reads (LooksAlways offset) wire a reads =
      guard_connects groups islands named around registers look offset a.guard wire
      (λ n l h. read_before groups islands named around registers look n (guard_drivers offset wire a.guard) _ (record { behind_them = Some (truth_bit false); reads = reads n l h }))
  look_reads (LooksIn g) wire a reads = group_reads g wire a.guard (target_of a.target) (OfPort a.source.port) (λ n. target_no_wire n a.target) reads

  pub assigns_read : (list : List Owned) (wire : ℕ) → AssignsName groups list → ((n : ℕ) → wire ≤ n → n < wire + assigns_wires list → Bit n (assigns_drivers groups wire list)) → AssignsRead wire list
  assigns_read [] wire names reads = tt
  assigns_read (a ∷ rest) wire names reads = (
    look_reads (looks_of a.owner a.assign.target) wire a.assign (λ n l h. bit_before groups islands named around registers look n (assign_drivers groups wire a) _ (rest_skip n h) (reads n l (omega arith))),
    assigns_read rest (wire + assign_wires a) names.1 (λ n l h. bit_behind groups islands named around registers look n (assign_drivers groups wire a) _ (own_skip n l) (reads n (omega arith) (omega arith))),
  )
    where
      own_skip : (n : ℕ) → wire + assign_wires a ≤ n → Skips (ToWire n) (assign_drivers groups wire a)
      own_skip n l = looking_drives (λ u. same_target u (ToWire n) ≡ false) (no_port_wire n) groups (λ g less. refl) (looks_of a.owner a.assign.target) a.assign wire names.0 (record { among = λ m x y. ne_eqb m n (λ e. omega arith) })

      rest_skip : (n : ℕ) → n < wire + assign_wires a → Skips (ToWire n) (assigns_drivers groups (wire + assign_wires a) rest)
      rest_skip n l = assigns_drive (λ u. same_target u (ToWire n) ≡ false) (no_port_wire n) groups (λ g less. refl) rest (wire + assign_wires a) names.1 (record { among = λ m x y. ne_eqb m n (λ e. omega arith) })

  -- AN ASSIGNMENT IS FED where what it looks at has values: always, or where its group goes
  abbrev pub NamesKnown : PlainAssign → Type 0
  NamesKnown a = (q : PortRef) → AssignNames a q → KnownExpr around registers look (OfPort q)

  pub record GoesKnown (g : ℕ) (a : PlainAssign) : Type 0 where
    pub hole : BitVector
    pub is : look (AHole (groups + g)) ≡ Some hole
    pub names : is_true hole ≡ true → NamesKnown a

  abbrev pub LookFed : Looks → PlainAssign → Type 0
  LookFed (LooksAlways offset) a = KnownExpr around registers look offset × NamesKnown a
  LookFed (LooksIn g) a = KnownExpr around registers look (OfWire g) × GoesKnown g a

  module _ (g : ℕ) (offset : KnownExpr around registers look (OfWire g)) (hole : BitVector) (hole_is : look (AHole (groups + g)) ≡ Some hole) (source : PortRef) (source_known : is_true hole ≡ true → KnownExpr around registers look (OfPort source))
      (wire : ℕ) (low : groups + island_wires islands ≤ wire) (target : PlainNetTarget) where
    module _ (guard : PlainGuard) (names : is_true hole ≡ true → (q : PortRef) → GuardNames guard q → KnownExpr around registers look (OfPort q)) where
      -- the gate, and that the group goes where it is 1
      gate_known : GateReads g wire guard → KnownExpr around registers look (OfWire wire) × (On around registers look (OfWire wire) → is_true hole ≡ true)
      gate_known reads = choice (is_true hole) refl
        where
          gate_is : (t : Bool) → is_true hole ≡ t → look (AWire wire) ≡ (if t then V (guard_expr (OfWire g) (suc wire) guard) else Some (truth_bit false))
          gate_is t e =
              reads.1 ∙ ap (option_and_then (λ x. if is_true x then V (guard_expr (OfWire g) (suc wire) guard) else Some (truth_bit false))) hole_is
              ∙ ap (λ b. if b then V (guard_expr (OfWire g) (suc wire) guard) else Some (truth_bit false)) e

          no_bit : (b : BitVector) → ◌≡◌ {A = Option BitVector} (Some (truth_bit false)) (Some b) → is_true b ≡ true → ⊥
          no_bit b e on = let wrong : false ≡ true = ap is_true (same_some (truth_bit false) b e) ∙ on in absurd (cc)

          choice : (t : Bool) → is_true hole ≡ t → KnownExpr around registers look (OfWire wire) × (On around registers look (OfWire wire) → is_true hole ≡ true)
          choice true e = (
            known_as _ _ (gate_is true e) (guard_known around registers look (OfWire g) (groups + island_wires islands) offset guard (suc wire) (omega arith) reads.0 (names e)).0,
            (λ on. e),
          )
          choice false e = (known_as _ _ (gate_is false e) (truth_bit false, refl), (λ on. absurd (no_bit on.0 (sym (gate_is false e) ∙ on.1) on.2)))

      gate_fed : GateReads g wire guard → F (drive target (OfWire wire) (OfPort source))
      gate_fed reads = let k = gate_known reads in record { guard = k.0; source = λ on. source_known (k.1 on) }

      gated_fed : (t : PlainNetTarget) → IsNoWire t → GateReads g wire guard → AllTo F t (gate_drivers groups g wire guard ++ drive target (OfWire wire) (OfPort source) ∷ [])
      gated_fed t off reads =
          all_to_append F t (gate_drivers groups g wire guard) _
          (all_to_append F t (guard_drivers (OfWire g) (suc wire) guard) _
          (all_to_other F t _ (guard_drives (λ u. same_target u t ≡ false) (OfWire g) guard (suc wire) (record { among = λ m l x. no_wire m t off })))
          (all_to_other F t (drive (ToWire wire) (go groups g) (guard_expr (OfWire g) (suc wire) guard) ∷ []) (no_wire wire t off, tt)))
          ((λ e. gate_fed reads), tt)

      -- where the ports have values also if the group does not go, so do all of its wires
      gated_all : ((q : PortRef) → GuardNames guard q → KnownExpr around registers look (OfPort q)) → GateReads g wire guard → AllOfThem F (gate_drivers groups g wire guard ++ drive target (OfWire wire) (OfPort source) ∷ [])
      gated_all always reads =
          let k = guard_known around registers look (OfWire g) (groups + island_wires islands) offset guard (suc wire) (omega arith) reads.0 always in
          all_append F (gate_drivers groups g wire guard) _ (all_append F (guard_drivers (OfWire g) (suc wire) guard) _ k.1 (record { guard = (hole, hole_is); source = λ on. k.0 }, tt)) (gate_fed reads, tt)

    go_fed : F (drive target (go groups g) (OfPort source))
    go_fed = record { guard = (hole, hole_is); source = λ on. source_known (ap is_true (same_some hole on.0 (sym hole_is ∙ on.1)) ∙ on.2) }

    abbrev Names : PlainGuard → Type 0
    Names guard = (q : PortRef) → GuardNames guard q → KnownExpr around registers look (OfPort q)

    group_fed : (guard : PlainGuard) → (is_true hole ≡ true → Names guard) → (t : PlainNetTarget) → IsNoWire t → GroupReads g wire guard → AllTo F t (gated_drivers groups g wire guard target (OfPort source))
    group_fed Always names t off reads = ((λ e. go_fed), tt)
    group_fed (Atom p) names t off reads = gated_fed (Atom p) names t off reads
    group_fed (Negation x) names t off reads = gated_fed (Negation x) names t off reads
    group_fed (All gs) names t off reads = gated_fed (All gs) names t off reads
    group_fed (Any gs) names t off reads = gated_fed (Any gs) names t off reads
    group_fed (Compared c a b) names t off reads = gated_fed (Compared c a b) names t off reads
    group_fed (Within from to) names t off reads = gated_fed (Within from to) names t off reads

    group_all : (guard : PlainGuard) → Names guard → GroupReads g wire guard → AllOfThem F (gated_drivers groups g wire guard target (OfPort source))
    group_all Always names reads = (go_fed, tt)
    group_all (Atom p) names reads = gated_all (Atom p) (λ on. names) names reads
    group_all (Negation x) names reads = gated_all (Negation x) (λ on. names) names reads
    group_all (All gs) names reads = gated_all (All gs) (λ on. names) names reads
    group_all (Any gs) names reads = gated_all (Any gs) (λ on. names) names reads
    group_all (Compared c a b) names reads = gated_all (Compared c a b) (λ on. names) names reads
    group_all (Within from to) names reads = gated_all (Within from to) (λ on. names) names reads

  -- of one assignment
  look_fed : (l : Looks) (a : PlainAssign) (wire : ℕ) → groups + island_wires islands ≤ wire → (t : PlainNetTarget) → IsNoWire t → LookReads l wire a.guard → LookFed l a → AllTo F t (looking_drivers groups l wire a)
  look_fed (LooksAlways offset) a wire low t off reads h =
      all_to_append F t (guard_drivers offset wire a.guard) _
      (all_to_other F t _ (guard_drives (λ u. same_target u t ≡ false) offset a.guard wire (record { among = λ m l x. no_wire m t off })))
      ((λ e. record { guard = (guard_known around registers look offset (groups + island_wires islands) h.0 a.guard wire low reads (λ q n. h.1 q (inl n))).0; source = λ on. h.1 a.source.port (inr refl) }), tt)
  look_fed (LooksIn g) a wire low t off reads h =
      group_fed g h.0 (GoesKnown.hole h.1) (GoesKnown.is h.1) a.source.port (λ on. GoesKnown.names h.1 on a.source.port (inr refl)) wire low (target_of a.target) a.guard (λ on q n. GoesKnown.names h.1 on q (inl n)) t off reads

  look_all : (l : Looks) (a : PlainAssign) (wire : ℕ) → groups + island_wires islands ≤ wire → LookReads l wire a.guard → LookFed l a → NamesKnown a → AllOfThem F (looking_drivers groups l wire a)
  look_all (LooksAlways offset) a wire low reads h names =
      let k = guard_known around registers look offset (groups + island_wires islands) h.0 a.guard wire low reads (λ q n. names q (inl n)) in
      all_append F (guard_drivers offset wire a.guard) _ k.1 (record { guard = k.0; source = λ on. names a.source.port (inr refl) }, tt)
  look_all (LooksIn g) a wire low reads h names =
      group_all g h.0 (GoesKnown.hole h.1) (GoesKnown.is h.1) a.source.port (λ on. names a.source.port (inr refl)) wire low (target_of a.target) a.guard (λ q n. names q (inl n)) reads

  -- OF ALL: to a target, those of its own assignments
  pub assigns_fed : (t : PlainNetTarget) → IsNoWire t → (list : List Owned) (wire : ℕ) → groups + island_wires islands ≤ wire → AssignsRead wire list
      → ((a : Owned) → In list a → same_target (target_of a.assign.target) t ≡ true → LookFed (looks_of a.owner a.assign.target) a.assign) → AllTo F t (assigns_drivers groups wire list)
  assigns_fed t off [] wire low reads h = tt
  assigns_fed t off (a ∷ rest) wire low reads h =
      all_to_append F t (assign_drivers groups wire a) _ (choice (same_target (target_of a.assign.target) t) refl (h a (inl refl))) (assigns_fed t off rest (wire + assign_wires a) (omega arith) reads.1 (λ b i. h b (inr i)))
    where
      choice : (b : Bool) → same_target (target_of a.assign.target) t ≡ b → (same_target (target_of a.assign.target) t ≡ true → LookFed (looks_of a.owner a.assign.target) a.assign) → AllTo F t (assign_drivers groups wire a)
      choice true e f = look_fed (looks_of a.owner a.assign.target) a.assign wire low t off reads.0 (f e)
      choice false e f = all_to_other F t _ (looking_drives_to (λ u. same_target u t ≡ false) groups (looks_of a.owner a.assign.target) a.assign wire e (record { among = λ m l x. no_wire m t off }))

  pub assigns_all : (list : List Owned) (wire : ℕ) → groups + island_wires islands ≤ wire → AssignsRead wire list → ((a : Owned) → In list a → LookFed (looks_of a.owner a.assign.target) a.assign × NamesKnown a.assign)
      → AllOfThem F (assigns_drivers groups wire list)
  assigns_all [] wire low reads h = tt
  assigns_all (a ∷ rest) wire low reads h =
      let k = h a (inl refl) in
      all_append F (assign_drivers groups wire a) _ (look_all (looks_of a.owner a.assign.target) a.assign wire low reads.0 k.0 k.1) (assigns_all rest (wire + assign_wires a) (omega arith) reads.1 (λ b i. h b (inr i)))
