-- The timers of a node of the tree: what their ports show of their states, and what an edge makes of these.
use Rattle.std.proofs.Common.{◌≡◌, ℕ, zero, suc, ◌<◌, ◌≤◌, ◌==◌, Bool, true, false, if◌then◌else◌, [], ◌∷◌, Option, Some, unwrap_or, slice_get, refl, sym, ap, ◌∙◌, arith}
use Rattle.std.specs.Option.{option_map_or}
use Rattle.cx_text.specs.declared.places.Place.{Place}
use Rattle.cx_bits.specs.BitVector.{BitVector, zero_of}
use Rattle.cx_prim.specs.CellStates.{CellState}
use Rattle.cx_prim.specs.Rows.{Row}
use Rattle.cx_prim.specs.PipeRows.{timer_idle, timer_go, timer_row}
use Rattle.cx_meaning.specs.declared.ports.PortRef.TheVariants as ports
use Rattle.cx_meaning.specs.Designs.{PlainComponent, PlainDesign, Timed, Placed}
use Rattle.cx_meaning.specs.Instances as instances
use Rattle.cx_meaning.specs.Instances.{Cells}
use Rattle.cx_net.specs.Nets.{ToPort}
use Rattle.cx_net.specs.NetTree.{NetCells, no_net_cells, a_row, a_child, ARow, net_cell_at}
use Rattle.cx_net.specs.NetMeaning.{NetState, APort, AWire, NetLook, NetAround, truth_bit, cell_node, is_port_of}
use Rattle.cx_net.specs.NetEdges.{cell_below, inputs_from, own_register}
use Rattle.cx_static.specs.declared.islands.IslandTimer.{IslandTimer}
use Rattle.cx_static.specs.Islands.{PlainIsland}
use Rattle.cx_static.specs.Lowering.{lowered, lowered_component, lowered_of, unlowered}
use Rattle.cx_wiring.specs.Counts.{sample_registers}
use Rattle.cx_wiring.specs.Stands.{Stand}
use Rattle.cx_wiring.specs.Control.{whole_stand, form_drivers, drivers_of}
use Rattle.cx_wiring.specs.Wiring.{groups, first_of_control, bits, plain_wires}
use Rattle.cx_wiring.specs.PartNets.{wired_in, timers_of, net_of_cells}
use Rattle.cx_wiring.specs.Takings.{takes, AllConnect, AreRegisters}
use Rattle.cx_wiring.proofs.TimerRows.{EachTimer, IsTimerIn, timer_rows}
use Rattle.cx_wiring.proofs.NetTargets.{bit_wire}
use Rattle.cx_wiring_cycles.specs.Standing.{IsIn, IsStopped, Away}
use Rattle.cx_wiring_cycles.specs.IslandTakes.{IslandNexts}
use Rattle.cx_wiring_cycles.specs.Shown.{wide}
use Rattle.cx_wiring_cycles.specs.IslandNumbers.{count_in, done_bit}
use Rattle.cx_wiring_cycles.proofs.TimerStates.{IsTimer, is_timer}
use Rattle.cx_wiring_cycles.proofs.NodeTakes.{timer_goes}
use Rattle.cx_wiring_cycles.proofs.KnowLaws.{Known}
use Rattle.cx_wiring_cycles.proofs.IslandAway as islands
use Rattle.cx_wiring_runs.specs.BlockNumbers.{component_numbers}
use Rattle.cx_wiring_runs.specs.Blocks.{block, Solves, after_edge}
use Rattle.cx_wiring_runs.proofs.BlockTells.{IsFineNode, R, hole_now, port_now}
use Rattle.cx_text.proofs.ListLaws.{front}

-- the edge of a row among cells
row_below : (cells : NetCells) (at c : ℕ) (row : Row) (look : NetLook) (d : CellState) → net_cell_at cells at ≡ ARow row → cell_below false cells at c look [] d ≡ row.next d (inputs_from look c 0 row.ports)
row_below no_net_cells at c row look d e = absurd cc
row_below (a_row first rest) zero c row look d e = let same : first ≡ row = cc in ap (λ (r : Row). r.next d (inputs_from look c 0 r.ports)) same
row_below (a_row first rest) (suc at) c row look d e = row_below rest at c row look d e
row_below (a_child child rest) zero c row look d e = absurd cc
row_below (a_child child rest) (suc at) c row look d e = row_below rest at c row look d e

-- a timer whose go is this bit
timer_next : (p c : ℕ) (look : NetLook) (d : CellState) (b : Bool) → look [] (APort (ports.Cell c 0)) ≡ Some (truth_bit b) → Row.next (timer_row p) d (inputs_from look c 0 (Row.ports (timer_row p))) ≡ (if b then timer_go p d else timer_idle d)
timer_next p c look d b e =
    ap (λ o. if ((unwrap_or o (zero_of 1)).value == 1) then timer_go p d else timer_idle d) e ∙ by b
  where
    by : (b : Bool) → (if ((truth_bit b).value == 1) then timer_go p d else timer_idle d) ≡ (if b then timer_go p d else timer_idle d)
    by true = refl
    by false = refl

module _ (d : PlainDesign) (of_island : PlainComponent → NetState → ℕ → ℕ → ℕ → ℕ) (part : PlainComponent) (cells : Cells) (fine : IsFineNode d of_island part cells) (v : NetState) (around : NetAround) (look : NetLook)
    (solves : Solves (block (wired_in d) timers_of (component_numbers of_island) (instances.Node part cells)) around v look) where
  abbrev net_cells : NetCells
  net_cells = net_of_cells (wired_in d) timers_of (component_numbers of_island) cells (timers_of part)

  abbrev registers_now : ℕ → Option BitVector
  registers_now = R d of_island part cells fine v around look solves

  abbrev next : ℕ → ℕ
  next = own_register (wired_in d part) (net_of_cells (wired_in d) timers_of (component_numbers of_island) cells (timers_of part)) around v look

  abbrev pub state_of : ℕ → CellState
  state_of c = v.cell (c ∷ [])

  abbrev pub count_of : ℕ → ℕ
  count_of c = count_in (v.cell (c ∷ []))

  abbrev pub done_of : ℕ → Bool
  done_of c = done_bit (v.cell (c ∷ []))

  pub rows : EachTimer part (IsTimerIn part (net_of_cells (wired_in d) timers_of (component_numbers of_island) cells (timers_of part)))
  rows = timer_rows part (wired_in d) timers_of (component_numbers of_island) cells fine.cell_count fine.timers_fit

  -- a port that is registered shows its state
  port_shows : (c p n : ℕ) → net_cell_at (net_of_cells (wired_in d) timers_of (component_numbers of_island) cells (timers_of part)) c ≡ ARow (timer_row p) → is_port_of (ARow (timer_row p)) n ≡ true
      → look [] (APort (ports.Cell c n)) ≡ cell_node (wired_in d part) (net_of_cells (wired_in d) timers_of (component_numbers of_island) cells (timers_of part)) around v (look []) (λ e. look (e ∷ [])) c n (ARow (timer_row p))
  port_shows c p n is there =
      solves.by_rule [] (APort (ports.Cell c n)) (ap (λ a. is_port_of a n) is ∙ there)
      ∙ ap (λ a. cell_node (wired_in d part) net_cells around v (look []) (λ e. look (e ∷ [])) c n a) is

  -- EACH TIMER'S STATE, and what its ports show of it
  pub timer_is : EachTimer part (λ timer. IsTimer (v.cell (timer.cell ∷ [])))
  timer_is k island is t timer at =
      let row = rows k island is t timer at in
      let x = solves.whole [] (APort (ports.Cell timer.cell 1)) (ap (λ a. is_port_of a 1) row.in_net) in
      is_timer (v.cell (timer.cell ∷ [])) x.0 (sym (port_shows timer.cell row.cycles 1 row.in_net refl) ∙ x.1)

  pub tells : EachTimer part (λ timer. (look [] (APort (ports.Cell timer.cell 1)) ≡ Some (wide (count_in (v.cell (timer.cell ∷ []))))) × (look [] (APort (ports.Cell timer.cell 2)) ≡ Some (truth_bit (done_bit (v.cell (timer.cell ∷ []))))))
  tells k island is t timer at =
      let row = rows k island is t timer at in
      let s = timer_is k island is t timer at in
      (port_shows timer.cell row.cycles 1 row.in_net refl ∙ s.counts, port_shows timer.cell row.cycles 2 row.in_net refl ∙ s.dones)

  -- the wires of islands are bits
  pub island_bits : (n : ℕ) → groups (lowered_component part) ≤ n → n < first_of_control (lowered_component part) → (b : Bool) × (look [] (AWire n) ≡ Some (truth_bit b))
  island_bits n low high =
      let is = bit_wire (groups (lowered_component part)) (bits (lowered_component part)) n low (omega arith) in
      solves.bits [] (AWire n) (ap (λ o. option_map_or (λ w. w == 1) o false) (front (plain_wires (lowered_component part)) _ n 1 is))

  -- AN EDGE of a timer
  pub timer_edge : (go : Bool) → (k : ℕ) (island : PlainIsland) (is : slice_get (lowered_component part).islands k ≡ Some island) (t : ℕ) (timer : IslandTimer) (at : slice_get island.timers t ≡ Some timer)
      → look [] (APort (ports.Cell timer.cell 0)) ≡ Some (truth_bit go)
      → (NetState.cell (after_edge (block (wired_in d) timers_of (component_numbers of_island) (instances.Node part cells)) around v look)) (timer.cell ∷ [])
      ≡ (if go then timer_go (IsTimerIn.cycles (rows k island is t timer at)) (v.cell (timer.cell ∷ [])) else timer_idle (v.cell (timer.cell ∷ [])))
  timer_edge go k island is t timer at e =
      let row = rows k island is t timer at in
      row_below net_cells timer.cell timer.cell (timer_row row.cycles) look (v.cell (timer.cell ∷ [])) row.in_net ∙ timer_next row.cycles timer.cell look (v.cell (timer.cell ∷ [])) go e

  -- NO ISLAND acts where control is not at it, and the end of each is known
  pub node_away : (k : ℕ) (y : Stand) (acts : Bool) (r : ℕ) → IsIn around registers_now (look []) y.acts y.region acts r → IsStopped acts r y.position 1 → first_of_control (lowered_component part) ≤ y.wire
      → AllConnect around registers_now (look []) (first_of_control (lowered_component part)) (form_drivers (groups (lowered_component part)) (lowered_component part).islands y (Timed k))
      → AreRegisters around registers_now (look []) (v.register []) y.register (sample_registers (slice_get (lowered_component part).islands k))
      → IslandNexts (groups (lowered_component part)) (lowered_component part).islands around registers_now (look []) (v.register []) next k y
      → Away around registers_now (look []) y (form_drivers (groups (lowered_component part)) (lowered_component part).islands y (Timed k))
  node_away =
      islands.timed_away part fine.islands_named around registers_now (look []) (v.register []) next (hole_now d of_island part cells fine v around look solves) (port_now d of_island part cells fine v around look solves) island_bits count_of done_of tells

  pub node_known : (k : ℕ) (place : Place) (y : Stand) (acts : Bool) (r : ℕ) → IsIn around registers_now (look []) y.acts y.region acts r → first_of_control (lowered_component part) ≤ y.wire → y.region < y.register
      → AllConnect around registers_now (look []) (first_of_control (lowered_component part)) (form_drivers (groups (lowered_component part)) (lowered_component part).islands y (Timed k))
      → AreRegisters around registers_now (look []) (v.register []) y.register (sample_registers (slice_get (lowered_component part).islands k))
      → IslandNexts (groups (lowered_component part)) (lowered_component part).islands around registers_now (look []) (v.register []) next k y
      → Known (groups (lowered_component part)) (lowered_component part).islands fine.islands_named around registers_now (look []) (first_of_control (lowered_component part)) (v.register []) next
      (hole_now d of_island part cells fine v around look solves) (port_now d of_island part cells fine v around look solves) y (Placed (Timed k) place)
  node_known =
      islands.timed_known part fine.islands_named around registers_now (look []) (v.register []) next (hole_now d of_island part cells fine v around look solves) (port_now d of_island part cells fine v around look solves) island_bits count_of done_of tells

  -- the go of each timer takes what control gives it
  pub go_takes : EachTimer part (λ timer. look [] (APort (ports.Cell timer.cell 0)) ≡ takes around registers_now (look []) (ToPort (ports.Cell timer.cell 0)) (Some (truth_bit false))
      (drivers_of (groups (lowered_component part)) (lowered_component part).islands (whole_stand (first_of_control (lowered_component part))) (lowered part part.control (unlowered part))))
  go_takes =
      timer_goes (lowered_of d) part net_cells around v look (λ n t. solves.by_rule [] n t) fine.plain fine.targets rows
