-- Every node of an instance has a value, where its go and its inputs have, its cells show theirs, and its islands are as they owe.
use Rattle.std.proofs.Common.{◌≡◌, ℕ, ◌+◌, ◌<◌, inl, inr, true, false, List, [], ◌∷◌, length, Option, Some, None, option_map, unwrap_or, slice_get, refl, sym, ap, ◌∙◌, subst, arith}
use Rattle.std.proofs.lemmas.Bool.{eqb-true, lt-ltb, ltb-true, cases_lt, ne_eqb}
use Rattle.cx_text.specs.Members.{In}
use Rattle.cx_bits.specs.BitVector.{BitVector, zero_of}
use Rattle.cx_prim.specs.declared.ports.PortRow.{PortRow}
use Rattle.cx_prim.specs.declared.ports.Side.{Side}
use Rattle.cx_prim.specs.declared.ports.Side.TheVariants as sides
use Rattle.cx_prim.specs.Rows.{Row}
use Rattle.cx_meaning.specs.declared.ports.PortRef.{PortRef}
use Rattle.cx_meaning.specs.declared.ports.PortRef.TheVariants as ports
use Rattle.cx_meaning.specs.Rows.{side_of}
use Rattle.cx_meaning.specs.Designs.{PlainComponent, PlainDesign, PlainStatement, Timed}
use Rattle.cx_meaning.specs.Instances as instances
use Rattle.cx_meaning.specs.Instances.{Instance, Cells, part_of}
use Rattle.cx_meaning.specs.Active.{Active, Owned, source_order}
use Rattle.cx_meaning.specs.Sights.{PartPort, Go, AnInput, AnOutput, ItsDone}
use Rattle.cx_rules.specs.Circles.{IsAcyclic}
use Rattle.cx_control.specs.Together.{IsTogether}
use Rattle.cx_net.specs.Nets.{PlainNetExpr, OfPort, OfWire, OfHole, OfGo, OfRegister, PlainNetTarget, ToPort, ToWire, ToHole, ToDone, PlainNetDriver}
use Rattle.cx_net.specs.NetTree.{NetInstance, NetCells, NetAt, NoCell, ARow, AChild, net_part, net_cell_at}
use Rattle.cx_net.specs.NetMeaning.{NetState, Node, APort, AWire, AHole, TheDone, NetLook, NetAround, is_true, truth_bit, same_target, own_step, is_port_of, is_own_node, driven_node, row_node, child_node, cell_node, decl_width, net_at_width, net_part_port}
use Rattle.cx_static.specs.Islands.{PlainIsland}
use Rattle.cx_static.specs.Lowering.{lowered, lowered_component, lowered_of, unlowered}
use Rattle.cx_wiring.specs.Parts.{equals}
use Rattle.cx_wiring.specs.Counts.{positions_of}
use Rattle.cx_wiring.specs.Stands.{Stand, end_of}
use Rattle.cx_wiring.specs.IslandDrivers.{island_wires}
use Rattle.cx_wiring.specs.Control.{whole_stand, finishing, control_drivers, form_drivers, drivers_of}
use Rattle.cx_wiring.specs.Assignments.{target_of, looks_of, driven_assigns, assigns_drivers}
use Rattle.cx_wiring.specs.Bounds.{AllDrive}
use Rattle.cx_wiring.specs.Wiring.{groups, first_of_control, first_of_assigns, bits, plain_wires, plain_drivers, component_registers}
use Rattle.cx_wiring.specs.PartNets.{timers_of, wired_in, net_of_instance, net_of_cells}
use Rattle.cx_wiring.specs.Takings.{AllConnect, AreRegisters}
use Rattle.cx_wiring.specs.NetBits.{StatementTests}
use Rattle.cx_wiring.proofs.DrivenLemmas.{IsProper}
use Rattle.cx_wiring.proofs.TreeLaws.{NoWireFrom}
use Rattle.cx_wiring.proofs.TakingLemmas.{no_port_done}
use Rattle.cx_wiring.proofs.ControlTargets.{control_drives, drivers_drive}
use Rattle.cx_wiring.proofs.AssignTargets.{assigns_drive}
use Rattle.cx_wiring.proofs.NetTargets.{plain_wires_count}
use Rattle.cx_wiring_cycles.proofs.ConnectLaws.{read_before, statement_connects}
use Rattle.cx_wiring_cycles.specs.IslandTakes.{StatementIslands}
use Rattle.cx_wiring_cycles.proofs.NodeTakes as takings
use Rattle.cx_wiring_cycles.proofs.NodeTakes.{wire_takes, hole_takes, done_takes}
use Rattle.cx_wiring_runs.proofs.InstancePorts.{IsNamed, TestRules, AssignRules, PortRules}
use Rattle.cx_wiring_runs.proofs.NodeRules.{NodeRules, control_tests}
use Rattle.cx_control.proofs.InstanceLemmas.{KeepsPorts}
use Rattle.cx_wiring_runs.proofs.SeamRules.{RestRules, SeamRules}
use Rattle.cx_wiring_runs.proofs.FreeOutputs.{OutputsFree}
use Rattle.cx_wiring_runs.proofs.KnownLemmas.{Known, known_as, KnownExpr, On, Fed, known_equals, AllTo, all_to_append, all_to_other, all_to_map, AllOfThem, all_append, all_any_target, fed_takes, on_takes}
use Rattle.cx_wiring_runs.proofs.NodeReads.{target_known, inner_wires_known}
use Rattle.cx_wiring_runs.proofs.AssignsKnown.{LookFed, NamesKnown, assigns_fed, assigns_all}
use Rattle.cx_wiring_runs.proofs.TogetherGoes.{IsOn, Goes, StatementIsles, statement_goes}
use Rattle.cx_wiring_runs.proofs.ControlFed.{Whole, statement_whole}
use Rattle.cx_laws.proofs.SeenLemmas.{side_there}
use Rattle.cx_wiring_runs.proofs.PortsKnown.{R, IsFed, all_read, CellsShow, rests_known, named_there, stands, always_fed, output_driven, known_stable, ports_known, row_stands, child_stands, gathered}
use Rattle.cx_wiring_runs.proofs.RowPorts.{HasRowPorts}
use Rattle.cx_wiring_runs.proofs.WholeLooks.{part_output}
use Rattle.cx_net.proofs.NetsLemmas.{no_port_hole}

target_hole : (g : ℕ) (q : PortRef) → same_target (target_of q) (ToHole g) ≡ true → q ≡ ports.Done g
target_hole g (ports.Done h) e = let f : h ≡ g = eqb-true h g e in ap ports.Done f
target_hole g (ports.Cell c p) e = absurd cc
target_hole g (ports.Input n) e = absurd cc
target_hole g (ports.Output n) e = absurd cc
target_hole g (ports.Literal w v) e = absurd cc

-- what the cells of a net show: registered outputs, and the outputs and dones of children
pub record NetShows (cells : NetCells) (s : NetState) (look : NetLook) : Type 0 where
  pub rows : (c : ℕ) (row : Row) → net_cell_at cells c ≡ ARow row → HasRowPorts row
  pub registered : (c : ℕ) (row : Row) (n : ℕ) (port : PortRow) → net_cell_at cells c ≡ ARow row → slice_get row.ports n ≡ Some port → port.side ≡ sides.Registered → Known (row.output (s.cell (c ∷ [])) [] n)
  pub outputs : (c : ℕ) (child : NetInstance) (n : ℕ) → net_cell_at cells c ≡ AChild child → n < length (net_part child).outputs → Known (look (c ∷ []) (APort (ports.Output n)))
  pub dones : (c : ℕ) (child : NetInstance) → net_cell_at cells c ≡ AChild child → Known (look (c ∷ []) TheDone)

module _ (d : PlainDesign) (part : PlainComponent) (cells : Cells) (numbers : Instance → NetState → ℕ → ℕ) (seam : SeamRules d (instances.Node part cells)) (around : NetAround) (s : NetState)
    (look : NetLook)
    (solves : (n : Node) → is_own_node (wired_in d part) (net_of_cells (wired_in d) timers_of numbers cells (timers_of part)) n ≡ true
    → look [] n ≡ own_step (wired_in d part) (net_of_cells (wired_in d) timers_of numbers cells (timers_of part)) around s (look []) (λ c. look (c ∷ [])) n)
    (net_shows : NetShows (net_of_cells (wired_in d) timers_of numbers cells (timers_of part)) s look) where
  abbrev pub shows : CellsShow d part cells numbers (SeamRules.node seam) around s look solves
  shows = record {
    rows = λ c row is. NetShows.rows net_shows c row (row_stands (wired_in d) timers_of numbers cells (timers_of part) c row is);
    registered = λ c row n port is. NetShows.registered net_shows c row n port (row_stands (wired_in d) timers_of numbers cells (timers_of part) c row is);
    outputs = λ c child n is less. NetShows.outputs net_shows c (net_of_instance (wired_in d) timers_of numbers child) n (child_stands (wired_in d) timers_of numbers cells (timers_of part) c child is) (same_outputs child n less);
    dones = λ c child is. NetShows.dones net_shows c (net_of_instance (wired_in d) timers_of numbers child) (child_stands (wired_in d) timers_of numbers cells (timers_of part) c child is);
  }
    where
      same_outputs : (child : Instance) (n : ℕ) → n < length (part_of child).outputs → n < length (net_part (net_of_instance (wired_in d) timers_of numbers child)).outputs
      same_outputs (instances.Node q qs) n less = less

  abbrev Inst : Instance
  Inst = instances.Node part cells

  abbrev NC : NetCells
  NC = net_of_cells (wired_in d) timers_of numbers cells (timers_of part)

  abbrev Reg : ℕ → Option BitVector
  Reg = R d part cells numbers (SeamRules.node seam) around s look solves

  abbrev KE : PlainNetExpr → Type 0
  KE = KnownExpr around (R d part cells numbers (SeamRules.node seam) around s look solves) (look [])

  abbrev FedHere : PlainNetDriver → Type 0
  FedHere = Fed around (R d part cells numbers (SeamRules.node seam) around s look solves) (look [])

  abbrev I : List PlainIsland
  I = (lowered_component part).islands

  abbrev control : PlainStatement
  control = lowered part part.control (unlowered part)

  abbrev first : ℕ
  first = first_of_control (lowered_component part)

  abbrev CD : List PlainNetDriver
  CD = control_drivers (groups (lowered_component part)) (lowered_component part).islands (first_of_control (lowered_component part)) (lowered part part.control (unlowered part))

  abbrev SD : List PlainNetDriver
  SD = drivers_of (groups (lowered_component part)) (lowered_component part).islands (whole_stand (first_of_control (lowered_component part))) (lowered part part.control (unlowered part))

  abbrev FD : List PlainNetDriver
  FD = finishing (first_of_control (lowered_component part)) (lowered part part.control (unlowered part))

  abbrev AD : List PlainNetDriver
  AD = assigns_drivers (groups (lowered_component part)) (first_of_assigns (lowered_component part)) (driven_assigns (lowered_component part))

  -- REGISTERS that are there
  pub registers_are : AreRegisters around Reg (look []) (s.register []) 0 (component_registers (lowered_component part))
  registers_are = takings.registers_are (lowered_of d) part NC around s look solves (NodeRules.plain (SeamRules.node seam))

  -- WIRES of control have the values of their drivers' sources
  pub control_connects : AllConnect around Reg (look []) (groups (lowered_component part) + island_wires (lowered_component part).islands) SD
  control_connects =
      statement_connects (groups (lowered_component part)) (lowered_component part).islands (NodeRules.islands_named (SeamRules.node seam)) around Reg (look []) control (whole_stand (first_of_control (lowered_component part))) (NodeRules.control_named (SeamRules.node seam)) (omega arith)
      (λ n low high.
      let count : length (plain_wires (lowered_component part)) ≡ groups (lowered_component part) + bits (lowered_component part) = plain_wires_count (lowered_component part) in
      let there : n < length (plain_wires (lowered_component part)) = omega arith in
      read_before (groups (lowered_component part)) (lowered_component part).islands (NodeRules.islands_named (SeamRules.node seam)) around Reg (look []) n SD FD
      (read_before (groups (lowered_component part)) (lowered_component part).islands (NodeRules.islands_named (SeamRules.node seam)) around Reg (look []) n CD AD
      (record { behind_them = _; reads = wire_takes (lowered_of d) part NC around s look solves (NodeRules.plain (SeamRules.node seam)) n there })))

  -- ITS DONE has a value whatever is around it
  pub done_known : Known (look [] TheDone)
  done_known =
      known_as _ _ (done_takes (lowered_of d) part NC around s look solves (NodeRules.plain (SeamRules.node seam)))
      (fed_takes around Reg (look []) ToDone (Some (zero_of 1)) (plain_drivers (lowered_component part)) all (_, refl))
    where
      of_control : AllDrive (λ u. same_target u ToDone ≡ false) SD
      of_control =
          drivers_drive (λ u. same_target u ToDone ≡ false) no_port_done (groups (lowered_component part)) (lowered_component part).islands (λ n less. refl) (λ g less. refl) (NodeRules.islands_named (SeamRules.node seam)) control
          (whole_stand (first_of_control (lowered_component part))) (NodeRules.control_named (SeamRules.node seam)) (record { wire_in = λ n low high. refl; register_in = λ n low high. refl }) refl

      of_assigns : AllDrive (λ u. same_target u ToDone ≡ false) AD
      of_assigns = assigns_drive (λ u. same_target u ToDone ≡ false) no_port_done (groups (lowered_component part)) (λ g less. refl) (driven_assigns (lowered_component part)) (first_of_assigns (lowered_component part)) (NodeRules.assigns_named (SeamRules.node seam)) (record { among = λ n low high. refl })

      region : KE (OfRegister 0)
      region = (_, registers_are.0)

      all : AllTo FedHere ToDone (plain_drivers (lowered_component part))
      all =
          all_to_append FedHere ToDone CD AD
          (all_to_append FedHere ToDone SD FD (all_to_other FedHere ToDone SD of_control)
          ((λ e. absurd (cc)), ((λ e. absurd (cc)), ((λ e. record { guard = (truth_bit true, refl); source = λ on. known_equals around Reg (look []) (OfRegister 0) (positions_of control) region }), tt))))
          (all_to_other FedHere ToDone AD of_assigns)

  -- ITS OUTPUTS have values whatever is around it
  pub outputs_known : OutputsFree (instances.Node part cells) → (n : ℕ) → n < length part.outputs → Known (look [] (APort (ports.Output n)))
  outputs_known free n less =
      known_as _ _ (solves (APort (ports.Output n)) (lt-ltb n (length part.outputs) less))
      (output_driven d part cells numbers (SeamRules.node seam) around s look solves n (λ a i target.
      let j = stands d part cells numbers (SeamRules.node seam) around s look solves shows a i in
      always_fed d part cells numbers (SeamRules.node seam) around s look solves shows a (outside a j target) (λ q names. known_stable _ (λ no. RestRules.outputs (SeamRules.rests seam) a n q j target names (λ rests.
      no (rests_known d part cells numbers (SeamRules.node seam) around s look solves shows q rests (IsNamed.there (named_there d part cells numbers (SeamRules.node seam) around s look solves shows a j q names)) (λ m small leads. absurd (free a n q j target names m leads)))))))
      (decl_width part.outputs n))
    where
      outside : (a : Owned) → In (source_order part) a → a.assign.target ≡ ports.Output n → a.owner ≡ None
      outside a j target = KeepsPorts.output_outside (SeamRules.keeps seam a j) n target

  -- WHAT ITS ISLANDS OWE: the offsets of groups, what goes in them, and drivers that are fed
  -- the drivers of an island where its statement stands are fed, and its end has a value
  abbrev pub IsleFed : ℕ → Stand → Type 0
  IsleFed k x = AllOfThem FedHere (form_drivers (groups (lowered_component part)) (lowered_component part).islands x (Timed k)) × KE (end_of x.wire)

  pub record IslandsOwe : Type 0 where
    pub offsets : (g : ℕ) → g < groups (lowered_component part) → KE (OfWire g)
    pub goes : StatementIsles part (groups (lowered_component part)) (lowered_component part).islands around Reg (look []) (groups (lowered_component part) + island_wires (lowered_component part).islands) (s.register []) part.control (unlowered part)
        (whole_stand (first_of_control (lowered_component part)))
    pub isles : StatementIslands IsleFed (lowered_component part).islands (whole_stand (first_of_control (lowered_component part))) (lowered part part.control (unlowered part))

  module _ (go_known : Known around.go) (inputs : (n : ℕ) → n < length part.inputs → Known (around.input n)) (free : OutputsFree (instances.Node part cells))
      (acyclic : (act : Active) → IsTogether part.control act → IsAcyclic (instances.Node part cells) act) (owe : IslandsOwe) where
    -- HOLES that say that groups are done
    done_fed : (g : ℕ) → g < groups (lowered_component part) → (a : Owned) → In (driven_assigns (lowered_component part)) a → a.assign.target ≡ ports.Done g → IsFed d part cells numbers (SeamRules.node seam) around s look solves a
    done_fed g less a i target =
        let j = stands d part cells numbers (SeamRules.node seam) around s look solves shows a i in
        let owner : a.owner ≡ Some g = KeepsPorts.own_done (SeamRules.keeps seam a j) g target in
        subst (λ t. LookFed (groups (lowered_component part)) (lowered_component part).islands (NodeRules.islands_named (SeamRules.node seam)) around Reg (look []) (looks_of a.owner t) a.assign) (sym target)
        (subst (λ o. LookFed (groups (lowered_component part)) (lowered_component part).islands (NodeRules.islands_named (SeamRules.node seam)) around Reg (look []) (looks_of o (ports.Done g)) a.assign) (sym owner) (
          IslandsOwe.offsets owe g less,
          (λ q names. known_stable _ (λ no. RestRules.dones (SeamRules.rests seam) a g q j target names (λ rests.
              let named = named_there d part cells numbers (SeamRules.node seam) around s look solves shows a j q names in
              no (rests_known d part cells numbers (SeamRules.node seam) around s look solves shows q rests (IsNamed.there named) (λ n small leads. inputs n small))))),
        ))

    done_hole : (g : ℕ) → g < groups (lowered_component part) → KE (OfHole g)
    done_hole g less =
        known_as _ _ (hole_takes (lowered_of d) part NC around s look solves (NodeRules.plain (SeamRules.node seam)) g (omega arith))
        (fed_takes around Reg (look []) (ToHole g) (Some (zero_of 1)) (plain_drivers (lowered_component part))
        (all_to_append FedHere (ToHole g) CD AD (all_to_other FedHere (ToHole g) CD of_control)
        (assigns_fed (groups (lowered_component part)) (lowered_component part).islands (NodeRules.islands_named (SeamRules.node seam)) around Reg (look []) (ToHole g) tt (driven_assigns (lowered_component part)) (first_of_assigns (lowered_component part)) (omega arith)
        (all_read d part cells numbers (SeamRules.node seam) around s look solves) (λ a i e. done_fed g less a i (target_hole g a.assign.target e))))
        (_, refl))
      where
        of_control : AllDrive (λ u. same_target u (ToHole g) ≡ false) CD
        of_control =
            control_drives (λ u. same_target u (ToHole g) ≡ false) (no_port_hole g) (groups (lowered_component part)) (lowered_component part).islands (λ n small. refl) (λ h small. ne_eqb (groups (lowered_component part) + h) g (λ e. omega arith))
            (NodeRules.islands_named (SeamRules.node seam)) refl (first_of_control (lowered_component part)) control (NodeRules.control_named (SeamRules.node seam)) (record { wire_in = λ n low high. refl; register_in = λ n low high. refl })

    -- WHAT GOES
    what_goes : Goes part (groups (lowered_component part)) (lowered_component part).islands around Reg (look []) (groups (lowered_component part) + island_wires (lowered_component part).islands) (s.register [])
        part.control OfGo (s.register [] 0) 0 (positions_of control) SD
    what_goes =
        statement_goes part (groups (lowered_component part)) (lowered_component part).islands around Reg (look []) (groups (lowered_component part) + island_wires (lowered_component part).islands) (s.register []) done_hole part.control (unlowered part)
        (whole_stand (first_of_control (lowered_component part))) (s.register [] 0) (record { acts_known = go_known; width = 32; is = registers_are.0 }) (omega arith) control_connects registers_are.1 (NodeRules.control_named (SeamRules.node seam))
        (IslandsOwe.goes owe)

    go_hole : (g : ℕ) → g < groups (lowered_component part) → (b : BitVector) × (look [] (AHole (groups (lowered_component part) + g)) ≡ Some b) × (is_true b ≡ true → IsOn (Goes.act what_goes) g)
    go_hole g less =
        let value = hole_takes (lowered_of d) part NC around s look solves (NodeRules.plain (SeamRules.node seam)) (groups (lowered_component part) + g) (omega arith) in
        let known = fed_takes around Reg (look []) (ToHole (groups (lowered_component part) + g)) (Some (zero_of 1)) (plain_drivers (lowered_component part)) (all_to_map Both FedHere (ToHole (groups (lowered_component part) + g)) (λ x h. h.0) (plain_drivers (lowered_component part)) all) (_, refl) in (
          known.0,
          value ∙ known.1,
          (λ on. on_takes around Reg (look []) (ToHole (groups (lowered_component part) + g)) (zero_of 1) refl (plain_drivers (lowered_component part))
              (all_to_map Both (λ x. KE x.guard × (On around Reg (look []) x.guard → IsOn (Goes.act what_goes) g)) (ToHole (groups (lowered_component part) + g)) (λ x h. (Fed.guard h.0, h.1)) (plain_drivers (lowered_component part)) all) known.0 known.1 on),
        )
      where
        Both : PlainNetDriver → Type 0
        Both x = FedHere x × (On around Reg (look []) x.guard → IsOn (Goes.act what_goes) g)

        of_assigns : AllDrive (λ u. same_target u (ToHole (groups (lowered_component part) + g)) ≡ false) AD
        of_assigns =
            assigns_drive (λ u. same_target u (ToHole (groups (lowered_component part) + g)) ≡ false) (no_port_hole (groups (lowered_component part) + g)) (groups (lowered_component part)) (λ h small. ne_eqb h (groups (lowered_component part) + g) (λ e. omega arith))
            (driven_assigns (lowered_component part)) (first_of_assigns (lowered_component part)) (NodeRules.assigns_named (SeamRules.node seam)) (record { among = λ n low high. refl })

        all : AllTo Both (ToHole (groups (lowered_component part) + g)) (plain_drivers (lowered_component part))
        all =
            all_to_append Both (ToHole (groups (lowered_component part) + g)) CD AD
            (all_to_append Both (ToHole (groups (lowered_component part) + g)) SD FD (Goes.goes what_goes g) ((λ e. absurd (cc)), ((λ e. absurd (cc)), ((λ e. absurd (cc)), tt))))
            (all_to_other Both (ToHole (groups (lowered_component part) + g)) AD of_assigns)

    -- ALL PORTS that are named
    port_known : (q : PortRef) → IsNamed (instances.Node part cells) q → KE (OfPort q)
    port_known q named =
        ports_known d part cells numbers (SeamRules.node seam) around s look solves shows (Goes.act what_goes) (acyclic (Goes.act what_goes) (Goes.together what_goes)) go_hole (IslandsOwe.offsets owe) inputs (outputs_known free) q named

    names_known : (a : Owned) → In (driven_assigns (lowered_component part)) a → NamesKnown (groups (lowered_component part)) (lowered_component part).islands (NodeRules.islands_named (SeamRules.node seam)) around Reg (look []) a.assign
    names_known a i q n = port_known q (named_there d part cells numbers (SeamRules.node seam) around s look solves shows a (stands d part cells numbers (SeamRules.node seam) around s look solves shows a i) q n)

    assign_fed : (a : Owned) → In (driven_assigns (lowered_component part)) a → IsFed d part cells numbers (SeamRules.node seam) around s look solves a
    assign_fed a i = by_owner a.owner refl a.assign.target
      where
        owner_there : (g : ℕ) → a.owner ≡ Some g → g < groups (lowered_component part)
        owner_there g e = AssignRules.owner (PortRules.assigns (NodeRules.ports (SeamRules.node seam)) a (stands d part cells numbers (SeamRules.node seam) around s look solves shows a i)) g e

        by_owner : (o : Option ℕ) → a.owner ≡ o → (t : PortRef) → LookFed (groups (lowered_component part)) (lowered_component part).islands (NodeRules.islands_named (SeamRules.node seam)) around Reg (look []) (looks_of o t) a.assign
        by_owner None e t = ((_, refl), names_known a i)
        by_owner (Some g) e (ports.Done h) = (IslandsOwe.offsets owe g (owner_there g e), names_known a i)
        by_owner (Some g) e (ports.Cell c p) = (IslandsOwe.offsets owe g (owner_there g e), record { hole = (go_hole g (owner_there g e)).0; is = (go_hole g (owner_there g e)).1; names = λ on. names_known a i })
        by_owner (Some g) e (ports.Input n) = (IslandsOwe.offsets owe g (owner_there g e), record { hole = (go_hole g (owner_there g e)).0; is = (go_hole g (owner_there g e)).1; names = λ on. names_known a i })
        by_owner (Some g) e (ports.Output n) = (IslandsOwe.offsets owe g (owner_there g e), record { hole = (go_hole g (owner_there g e)).0; is = (go_hole g (owner_there g e)).1; names = λ on. names_known a i })
        by_owner (Some g) e (ports.Literal w v) = (IslandsOwe.offsets owe g (owner_there g e), record { hole = (go_hole g (owner_there g e)).0; is = (go_hole g (owner_there g e)).1; names = λ on. names_known a i })

    -- ALL DRIVERS are fed
    tests_known : StatementTests (λ p. KE (OfPort p)) control
    tests_known = control_tests part (λ p. KE (OfPort p)) (λ v p i e. port_known p.port (TestRules.named (PortRules.tests (NodeRules.ports (SeamRules.node seam)) v p i e)))

    control_whole : Whole (groups (lowered_component part)) (lowered_component part).islands around Reg (look []) (groups (lowered_component part) + island_wires (lowered_component part).islands) (s.register []) done_hole IsleFed
        (whole_stand (first_of_control (lowered_component part))) SD
    control_whole =
        statement_whole (groups (lowered_component part)) (lowered_component part).islands around Reg (look []) (groups (lowered_component part) + island_wires (lowered_component part).islands) (s.register []) done_hole IsleFed (λ k x isle stood low c regs. record { ends = isle.1; fed = isle.0 })
        control (whole_stand (first_of_control (lowered_component part))) (record { acts_known = go_known; register_known = (_, registers_are.0) }) (omega arith) control_connects registers_are.1 (NodeRules.control_named (SeamRules.node seam)) tests_known (IslandsOwe.isles owe)

    all_drivers_fed : AllOfThem FedHere (plain_drivers (lowered_component part))
    all_drivers_fed =
        let region : KE (OfRegister 0) = (_, registers_are.0) in
        let over : KE (equals (OfRegister 0) (positions_of control)) = known_equals around Reg (look []) (OfRegister 0) (positions_of control) region in
        all_append FedHere CD AD
        (all_append FedHere SD FD (Whole.fed control_whole)
        (record { guard = Whole.ends control_whole; source = λ on. (_, refl) }, (record { guard = over; source = λ on. (_, refl) }, (record { guard = (truth_bit true, refl); source = λ on. over }, tt))))
        (assigns_all (groups (lowered_component part)) (lowered_component part).islands (NodeRules.islands_named (SeamRules.node seam)) around Reg (look []) (driven_assigns (lowered_component part)) (first_of_assigns (lowered_component part)) (omega arith)
        (all_read d part cells numbers (SeamRules.node seam) around s look solves) (λ a i. (assign_fed a i, names_known a i)))

    any_target : (t : PlainNetTarget) → IsProper t → NoWireFrom t (length (plain_wires (lowered_component part))) → (w : ℕ) → Known (driven_node (wired_in d part) NC around s (look []) (λ c. look (c ∷ [])) w t)
    any_target t proper free_of w =
        target_known (lowered_of d) part NC around s look solves (NodeRules.plain (SeamRules.node seam)) t proper free_of (all_any_target FedHere t (plain_drivers (lowered_component part)) all_drivers_fed) (zero_of w)

    -- EVERY NODE
    row_port : (c p : ℕ) (row : Row) → net_cell_at NC c ≡ ARow row → p < length row.ports → (side : Side) → side_of row p ≡ side → ((m : ℕ) → m < length row.ports → row.reads p m ≡ true → Known (look [] (APort (ports.Cell c m)))) → Known (look [] (APort (ports.Cell c p)))
    row_port c p row is less side e inputs_known = known_as _ _ has (by side e)
      where
        has : look [] (APort (ports.Cell c p)) ≡ row_node (wired_in d part) NC around s (look []) (λ x. look (x ∷ [])) row c p side
        has =
            solves (APort (ports.Cell c p)) (ap (λ x. is_port_of x p) is ∙ lt-ltb p (length row.ports) less)
            ∙ ap (λ x. cell_node (wired_in d part) NC around s (look []) (λ y. look (y ∷ [])) c p x) is
            ∙ ap (row_node (wired_in d part) NC around s (look []) (λ y. look (y ∷ [])) row c p) e

        by : (x : Side) → side_of row p ≡ x → Known (row_node (wired_in d part) NC around s (look []) (λ y. look (y ∷ [])) row c p x)
        by sides.Enable f = any_target (ToPort (ports.Cell c p)) tt (λ m from. refl) (net_at_width (ARow row) p)
        by sides.Plain f = any_target (ToPort (ports.Cell c p)) tt (λ m from. refl) (net_at_width (ARow row) p)
        by sides.Output f =
            let g = gathered (λ q. look [] (APort (ports.Cell c q))) (row.reads p) 0 row.ports (λ q low high wanted. inputs_known q (omega arith) wanted) in
            (_, ap (option_map (λ ins. unwrap_or (row.output (s.cell (c ∷ [])) ins p) (zero_of (net_at_width (ARow row) p)))) g.1)
        by sides.Registered f =
            let r = side_there row.ports p less in
            NetShows.registered net_shows c row p r.0 is r.1 (sym r.2 ∙ f)

    any_row_port : (c p : ℕ) (row : Row) → net_cell_at NC c ≡ ARow row → p < length row.ports → Known (look [] (APort (ports.Cell c p)))
    any_row_port c p row is less =
        row_port c p row is less (side_of row p) refl (λ m below reads.
        let plain = HasRowPorts.reads_plain (NetShows.rows net_shows c row is) p m reads in
        known_as _ _
        (solves (APort (ports.Cell c m)) (ap (λ x. is_port_of x m) is ∙ lt-ltb m (length row.ports) below)
        ∙ ap (λ x. cell_node (wired_in d part) NC around s (look []) (λ y. look (y ∷ [])) c m x) is
        ∙ ap (row_node (wired_in d part) NC around s (look []) (λ y. look (y ∷ [])) row c m) plain)
        (any_target (ToPort (ports.Cell c m)) tt (λ n from. refl) (net_at_width (ARow row) m)))

    child_port : (c p : ℕ) (child : NetInstance) → net_cell_at NC c ≡ AChild child → is_port_of (AChild child) p ≡ true → Known (look [] (APort (ports.Cell c p)))
    child_port c p child is there =
        known_as _ _
        (solves (APort (ports.Cell c p)) (ap (λ x. is_port_of x p) is ∙ there) ∙ ap (λ x. cell_node (wired_in d part) NC around s (look []) (λ y. look (y ∷ [])) c p x) is)
        (by (net_part_port (net_part child) p) refl)
      where
        by : (port : PartPort) → net_part_port (net_part child) p ≡ port → Known (child_node (wired_in d part) NC around s (look []) (λ y. look (y ∷ [])) child c p port)
        by Go e = any_target (ToPort (ports.Cell c p)) tt (λ m from. refl) 1
        by (AnInput n) e = any_target (ToPort (ports.Cell c p)) tt (λ m from. refl) (net_at_width (AChild child) p)
        by (AnOutput n) e = NetShows.outputs net_shows c child n is (ltb-true n (length (net_part child).outputs) (part_output (net_part child) p n e))
        by ItsDone e = NetShows.dones net_shows c child is

    wire_known : (n : ℕ) → n < length (wired_in d part).wires → Known (look [] (AWire n))
    wire_known n less =
        elim (cases_lt n (length (plain_wires (lowered_component part)))) [
          | inl there ↦
              known_as _ _ (wire_takes (lowered_of d) part NC around s look solves (NodeRules.plain (SeamRules.node seam)) n there)
              (fed_takes around Reg (look []) (ToWire n) (Some _) (plain_drivers (lowered_component part)) (all_any_target FedHere (ToWire n) (plain_drivers (lowered_component part)) all_drivers_fed) (_, refl))
          | inr past ↦ inner_wires_known (lowered_of d) part NC around s look solves (NodeRules.plain (SeamRules.node seam)) all_drivers_fed n past less
        ]

    pub node_known : (n : Node) → is_own_node (wired_in d part) NC n ≡ true → Known (look [] n)
    node_known (APort (ports.Cell c p)) e = by (net_cell_at NC c) refl e
      where
        by : (x : NetAt) → net_cell_at NC c ≡ x → is_port_of (net_cell_at NC c) p ≡ true → Known (look [] (APort (ports.Cell c p)))
        by NoCell is there = absurd (let f = sym (ap (λ x. is_port_of x p) is) ∙ there in cc)
        by (ARow row) is there = any_row_port c p row is (ltb-true p (length row.ports) (sym (ap (λ x. is_port_of x p) is) ∙ there))
        by (AChild child) is there = child_port c p child is (sym (ap (λ x. is_port_of x p) is) ∙ there)
    node_known (APort (ports.Input n)) e = absurd cc
    node_known (APort (ports.Output n)) e = outputs_known free n (ltb-true n (length part.outputs) e)
    node_known (APort (ports.Done g)) e = absurd cc
    node_known (APort (ports.Literal w v)) e = absurd cc
    node_known (AWire n) e = wire_known n (ltb-true n (length (wired_in d part).wires) e)
    node_known (AHole n) e =
        known_as _ _ (hole_takes (lowered_of d) part NC around s look solves (NodeRules.plain (SeamRules.node seam)) n (ltb-true n (groups (lowered_component part) + groups (lowered_component part)) e))
        (fed_takes around Reg (look []) (ToHole n) (Some (zero_of 1)) (plain_drivers (lowered_component part)) (all_any_target FedHere (ToHole n) (plain_drivers (lowered_component part)) all_drivers_fed) (_, refl))
    node_known TheDone e = done_known
