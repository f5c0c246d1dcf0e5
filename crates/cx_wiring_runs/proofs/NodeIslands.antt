-- The islands of an instance are as they owe, where its go and its inputs have values and its cells show theirs.
use Rattle.std.proofs.Common.{◌≡◌, ℕ, ◌+◌, ◌<◌, ◌≤◌, Bool, true, false, List, [], ◌∷◌, ◌++◌, length, Option, Some, slice_get, refl, ap, ◌∙◌, arith}
use Rattle.cx_bits.specs.BitVector.{BitVector}
use Rattle.cx_prim.specs.PipeRows.{timer_row}
use Rattle.cx_meaning.specs.declared.ports.PortRef.TheVariants as ports
use Rattle.cx_meaning.specs.Designs.{PlainComponent, PlainDesign, PlainStatement}
use Rattle.cx_meaning.specs.Instances as instances
use Rattle.cx_meaning.specs.Instances.{Instance, Cells}
use Rattle.cx_rules.specs.Items.{test_in}
use Rattle.cx_net.specs.Nets.{PlainNetExpr, OfPort, OfWire, ToPort, ToWire, PlainNetDriver}
use Rattle.cx_net.specs.NetTree.{NetCells}
use Rattle.cx_net.specs.NetMeaning.{NetState, Node, APort, AWire, NetLook, NetAround, truth_bit, same_target, own_step, is_own_node, is_port_of, cell_node}
use Rattle.cx_static.specs.Islands.{PlainPoint, PlainIsland}
use Rattle.cx_static.specs.Lowering.{lowered, lowered_component, lowered_of, unlowered}
use Rattle.cx_wiring.specs.Control.{whole_stand, finishing, drivers_of}
use Rattle.cx_wiring.specs.Assignments.{driven_assigns, assigns_drivers}
use Rattle.cx_wiring.specs.Bounds.{AllDrive}
use Rattle.cx_wiring.specs.Wiring.{groups, first_of_control, first_of_assigns, bits, plain_wires, plain_drivers}
use Rattle.cx_wiring.specs.PartNets.{timers_of, wired_in, net_of_cells}
use Rattle.cx_wiring.specs.Takings.{takes}
use Rattle.cx_wiring.proofs.AssignTargets.{assigns_drive}
use Rattle.cx_wiring.proofs.NetTargets.{plain_wires_count}
use Rattle.std.proofs.lemmas.Bool.{ne_eqb}
use Rattle.cx_wiring.proofs.IslandCells.{itself}
use Rattle.cx_wiring.proofs.TimerRows.{EachTimer, IsTimerIn, timer_rows}
use Rattle.cx_wiring_cycles.specs.Shown.{wide}
use Rattle.cx_wiring_cycles.specs.IslandNumbers.{count_in, done_bit}
use Rattle.cx_wiring_cycles.specs.IslandTakes.{StatementIslands, TakesIsland}
use Rattle.cx_wiring_cycles.proofs.AssignLaws.{no_port_wire}
use Rattle.cx_wiring_cycles.proofs.ConnectLaws.{Reads, read_before}
use Rattle.cx_wiring_cycles.proofs.IslandStands.{islands_take}
use Rattle.cx_wiring_cycles.proofs.TimerStates.{IsTimer, is_timer}
use Rattle.cx_wiring_cycles.proofs.NodeTakes as takings
use Rattle.cx_wiring_cycles.proofs.NodeTakes.{wire_takes}
use Rattle.cx_wiring_runs.proofs.TimerRules.{TimerRules}
use Rattle.cx_wiring_runs.proofs.InstancePorts.{IsNamed, TestRules, PortRules}
use Rattle.cx_wiring_runs.proofs.NodeRules.{NodeRules}
use Rattle.cx_wiring_runs.proofs.SeamRules.{RestRules, SeamRules}
use Rattle.cx_wiring_runs.proofs.KnownLemmas.{Known, known_as, KnownExpr, Fed, AllTo, all_to_append, all_to_other, fed_takes}
use Rattle.cx_wiring_runs.proofs.PortsKnown.{R, rests_known, known_stable}
use Rattle.cx_wiring_runs.proofs.NodeKnown.{NetShows, IslandsOwe, shows, registers_are, control_connects}
use Rattle.cx_wiring_runs.proofs.IslesOwe.{Passed, statement_pass}
use Rattle.cx_wiring_runs.proofs.PointPorts.{points_keep}

module _ (d : PlainDesign) (part : PlainComponent) (cells : Cells) (numbers : Instance → NetState → ℕ → ℕ) (seam : SeamRules d (instances.Node part cells)) (around : NetAround) (s : NetState)
    (look : NetLook)
    (solves : (n : Node) → is_own_node (wired_in d part) (net_of_cells (wired_in d) timers_of numbers cells (timers_of part)) n ≡ true
    → look [] n ≡ own_step (wired_in d part) (net_of_cells (wired_in d) timers_of numbers cells (timers_of part)) around s (look []) (λ c. look (c ∷ [])) n)
    (net_shows : NetShows (net_of_cells (wired_in d) timers_of numbers cells (timers_of part)) s look)
    (go_known : Known around.go) (inputs : (n : ℕ) → n < length part.inputs → Known (around.input n))
    (narrow : (n : ℕ) (v : BitVector) → groups (lowered_component part) ≤ n → n < first_of_control (lowered_component part) → look [] (AWire n) ≡ Some v → (b : Bool) × (v ≡ truth_bit b)) where
  abbrev Inst : Instance
  Inst = instances.Node part cells

  abbrev NC : NetCells
  NC = net_of_cells (wired_in d) timers_of numbers cells (timers_of part)

  abbrev Reg : ℕ → Option BitVector
  Reg = R d part cells numbers (SeamRules.node seam) around s look solves

  abbrev KE : PlainNetExpr → Type 0
  KE = KnownExpr around (R d part cells numbers (SeamRules.node seam) around s look solves) (look [])

  abbrev FedHere : PlainNetDriver → Type 0
  FedHere = Fed around (R d part cells numbers (SeamRules.node seam) around s look solves) (look [])

  abbrev G : ℕ
  G = groups (lowered_component part)

  abbrev I : List PlainIsland
  I = (lowered_component part).islands

  abbrev control : PlainStatement
  control = lowered part part.control (unlowered part)

  abbrev first : ℕ
  first = first_of_control (lowered_component part)

  abbrev SD : List PlainNetDriver
  SD = drivers_of (groups (lowered_component part)) (lowered_component part).islands (whole_stand (first_of_control (lowered_component part))) (lowered part part.control (unlowered part))

  abbrev FD : List PlainNetDriver
  FD = finishing (first_of_control (lowered_component part)) (lowered part part.control (unlowered part))

  abbrev AD : List PlainNetDriver
  AD = assigns_drivers (groups (lowered_component part)) (first_of_assigns (lowered_component part)) (driven_assigns (lowered_component part))

  -- THE TIMERS show their counts
  rows : EachTimer part (IsTimerIn part (net_of_cells (wired_in d) timers_of numbers cells (timers_of part)))
  rows = timer_rows part (wired_in d) timers_of numbers cells (TimerRules.count (NodeRules.timers (SeamRules.node seam))) (TimerRules.fit (NodeRules.timers (SeamRules.node seam)))

  tells : EachTimer part (λ timer. (look [] (APort (ports.Cell timer.cell 1)) ≡ Some (wide (count_in (s.cell (timer.cell ∷ []))))) × (look [] (APort (ports.Cell timer.cell 2)) ≡ Some (truth_bit (done_bit (s.cell (timer.cell ∷ []))))))
  tells k island is t timer at =
      let row = rows k island is t timer at in
      let x = NetShows.registered net_shows timer.cell (timer_row (IsTimerIn.cycles row)) 1 _ (IsTimerIn.in_net row) refl refl in
      let state = is_timer (s.cell (timer.cell ∷ [])) x.0 x.1 in (
        solves (APort (ports.Cell timer.cell 1)) (ap (λ a. is_port_of a 1) (IsTimerIn.in_net row))
            ∙ ap (λ a. cell_node (wired_in d part) NC around s (look []) (λ e. look (e ∷ [])) timer.cell 1 a) (IsTimerIn.in_net row) ∙ IsTimer.counts state,
        solves (APort (ports.Cell timer.cell 2)) (ap (λ a. is_port_of a 2) (IsTimerIn.in_net row))
            ∙ ap (λ a. cell_node (wired_in d part) NC around s (look []) (λ e. look (e ∷ [])) timer.cell 2 a) (IsTimerIn.in_net row) ∙ IsTimer.dones state,
      )

  -- the go of each takes what control gives it
  timer_goes : EachTimer part (λ timer. look [] (APort (ports.Cell timer.cell 0)) ≡ takes around Reg (look []) (ToPort (ports.Cell timer.cell 0)) (Some (truth_bit false)) SD)
  timer_goes = takings.timer_goes (lowered_of d) part NC around s look solves (NodeRules.plain (SeamRules.node seam)) (TimerRules.targets (NodeRules.timers (SeamRules.node seam))) rows

  -- WIRES take what control gives them
  wires_read : (n : ℕ) → n < first_of_control (lowered_component part) → Reads (groups (lowered_component part)) (lowered_component part).islands (NodeRules.islands_named (SeamRules.node seam)) around Reg (look []) n SD
  wires_read n less =
      let count : length (plain_wires (lowered_component part)) ≡ groups (lowered_component part) + bits (lowered_component part) = plain_wires_count (lowered_component part) in
      let there : n < length (plain_wires (lowered_component part)) = omega arith in
      read_before G I (NodeRules.islands_named (SeamRules.node seam)) around Reg (look []) n SD FD
      (read_before G I (NodeRules.islands_named (SeamRules.node seam)) around Reg (look []) n (SD ++ FD) AD
      (record { behind_them = _; reads = wire_takes (lowered_of d) part NC around s look solves (NodeRules.plain (SeamRules.node seam)) n there }))

  taken : StatementIslands (TakesIsland (groups (lowered_component part)) (lowered_component part).islands around Reg (look [])) (lowered_component part).islands (whole_stand (first_of_control (lowered_component part)))
      (lowered part part.control (unlowered part))
  taken = islands_take part (NodeRules.islands_named (SeamRules.node seam)) around Reg (look []) (TimerRules.untimed (NodeRules.timers (SeamRules.node seam))) wires_read timer_goes

  -- THE PORTS of points rest on state
  points_known : (k : ℕ) (island : PlainIsland) → slice_get (lowered_component part).islands k ≡ Some island → (n : ℕ) (p : PlainPoint) → slice_get island.points n ≡ Some p → KE (OfPort p.port)
  points_known =
      points_keep part (λ q. KE (OfPort q))
      (λ v i written test a b is.
      let named = TestRules.named (PortRules.tests (NodeRules.ports (SeamRules.node seam)) v test i (ap test_in is)) in
      known_stable _ (λ no. RestRules.tests (SeamRules.rests seam) v written test a b i is (λ rests.
      no (rests_known d part cells numbers (SeamRules.node seam) around s look solves (shows d part cells numbers seam around s look solves net_shows) test.port rests (IsNamed.there named) (λ n small leads. inputs n small)))))

  passed : Passed part (NodeRules.islands_named (SeamRules.node seam)) around Reg (look []) (s.register []) narrow (λ c. count_in (s.cell (c ∷ []))) (λ c. done_bit (s.cell (c ∷ []))) tells points_known part.control (unlowered part)
      (whole_stand (first_of_control (lowered_component part)))
  passed =
      let regs = registers_are d part cells numbers seam around s look solves net_shows in
      statement_pass part (NodeRules.islands_named (SeamRules.node seam)) around Reg (look []) (s.register []) narrow (λ c. count_in (s.cell (c ∷ []))) (λ c. done_bit (s.cell (c ∷ []))) tells points_known part.control (unlowered part)
      (whole_stand first) (TimerRules.untimed (NodeRules.timers (SeamRules.node seam))) (record { acts_known = go_known; register_known = (_, regs.0) }) (omega arith)
      (control_connects d part cells numbers seam around s look solves net_shows) regs.1 (itself part _) taken

  -- THE OFFSETS of groups
  offset_known : (g : ℕ) → g < groups (lowered_component part) → KE (OfWire g)
  offset_known g less =
      let count : length (plain_wires (lowered_component part)) ≡ groups (lowered_component part) + bits (lowered_component part) = plain_wires_count (lowered_component part) in
      known_as _ _ (wire_takes (lowered_of d) part NC around s look solves (NodeRules.plain (SeamRules.node seam)) g (omega arith))
      (fed_takes around Reg (look []) (ToWire g) _ (plain_drivers (lowered_component part)) all (_, refl))
    where
      of_assigns : AllDrive (λ u. same_target u (ToWire g) ≡ false) AD
      of_assigns =
          assigns_drive (λ u. same_target u (ToWire g) ≡ false) (no_port_wire g) G (λ h small. refl) (driven_assigns (lowered_component part)) (first_of_assigns (lowered_component part)) (NodeRules.assigns_named (SeamRules.node seam))
          (record { among = λ n low high. ne_eqb n g (λ e. omega arith) })

      all : AllTo FedHere (ToWire g) (plain_drivers (lowered_component part))
      all =
          all_to_append FedHere (ToWire g) (SD ++ FD) AD
          (all_to_append FedHere (ToWire g) SD FD (Passed.offsets passed g less) ((λ e. absurd (cc)), ((λ e. absurd (cc)), ((λ e. absurd (cc)), tt))))
          (all_to_other FedHere (ToWire g) AD of_assigns)

  pub islands_owe : IslandsOwe d part cells numbers seam around s look solves net_shows
  islands_owe = record { offsets = offset_known; goes = Passed.isles passed; isles = Passed.fits passed }
