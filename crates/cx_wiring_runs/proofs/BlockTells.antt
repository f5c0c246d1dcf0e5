-- One cycle of a node of the tree: what a look that solves the rules gives its control, and that its done says whether its place is
-- the end.
use Rattle.std.proofs.Common.{◌≡◌, ℕ, zero, suc, ◌+◌, ◌<◌, ◌==◌, Bool, [], ◌∷◌, length, Option, Some, unwrap_or, sym, ap, ◌∙◌, arith}
use Rattle.std.proofs.lemmas.Bool.{eq-eqb, lt-ltb, ne_eqb}
use Rattle.cx_bits.specs.BitVector.{BitVector, zero_of}
use Rattle.cx_meaning.specs.declared.ports.PortRef.{PortRef}
use Rattle.cx_meaning.specs.declared.ports.PortRef.TheVariants as ports
use Rattle.cx_meaning.specs.Designs.{PlainComponent, PlainDesign, PlainForm, Empty, Enable, Seq, Par, If, While, Repeat, StaticSeq, StaticPar, StaticIf, StaticRepeat, Timed, PlainStatement, Placed, PlainStatements, no_statements, a_statement}
use Rattle.cx_meaning.specs.Instances as instances
use Rattle.cx_meaning.specs.Instances.{Cells, cell_count}
use Rattle.cx_control.specs.Codings.{Coding}
use Rattle.cx_control.specs.Leaves.{Coded, leaf_machines}
use Rattle.cx_control.specs.Controls.{coded_control, coded_below, leaf_codings}
use Rattle.cx_net.specs.Nets.{OfPort, OfHole}
use Rattle.cx_net.specs.NetMeaning.{NetState, Node, APort, AHole, TheDone, NetLook, NetAround, is_true, truth_bit, registers_of}
use Rattle.cx_net.specs.NetEdges.{own_register}
use Rattle.cx_static.specs.Lowering.{lowered, lowered_component, lowered_of, unlowered}
use Rattle.cx_wiring.specs.Counts.{positions_of}
use Rattle.cx_wiring.specs.Wiring.{groups, plain_wires, plain_drivers}
use Rattle.cx_wiring.specs.Assignments.{driven_assigns}
use Rattle.cx_wiring.specs.PartNets.{wired_in, timers_of, net_of_cells}
use Rattle.cx_wiring.specs.Bounds.{AllDrive, IslandsName, FormNames, StatementNames, PartsName, AssignsName}
use Rattle.cx_wiring.specs.NetBits.{IsBitPort, FormTests, StatementTests, PartsTests}
use Rattle.cx_wiring.specs.Takings.{value, Says}
use Rattle.cx_wiring.proofs.TakingLemmas.{true_bit}
use Rattle.cx_wiring.proofs.ComponentTakes.{IsPlain}
use Rattle.cx_wiring.proofs.TimerRows.{TimersFit, IsOwnTarget, timer_rows}
use Rattle.cx_wiring_cycles.specs.Standing.{FormBits, StatementBits, PartsBits}
use Rattle.cx_wiring_cycles.proofs.ComponentLaws as laws
use Rattle.cx_wiring_cycles.proofs.ComponentLaws.{PlainCycle}
use Rattle.cx_wiring_cycles.proofs.CycleLaws.{plain_cycle}
use Rattle.cx_wiring_cycles.proofs.IslandReads.{IsUntimed}
use Rattle.cx_wiring_cycles.proofs.SizeLaws.{size_is, enable_one, island_one}
use Rattle.cx_wiring_runs.specs.BlockNumbers.{component_numbers}
use Rattle.cx_meaning.specs.Active.{Owned}
use Rattle.cx_text.specs.Members.{In}
use Rattle.cx_wiring_runs.specs.Blocks.{block, Solves, TellsDone}

-- the tests of a statement and the holes of its groups are bits, where ports of one bit and all holes are
module _ (groups : ℕ) (around : NetAround) (registers : ℕ → Option BitVector) (look : Node → Option BitVector) (hole : ℕ → Bool) (port : PortRef → Bool) (P : PortRef → Type 0)
    (port_says : (p : PortRef) → P p → Says around registers look (OfPort p) (port p)) (hole_says : (g : ℕ) → g < groups → Says around registers look (OfHole g) (hole g)) where
  mutual
    form_bits : (form : PlainForm) → FormNames groups form → FormTests P form → FormBits around registers look hole port form
    form_bits Empty names tests = tt
    form_bits (Enable g) names tests = hole_says g names
    form_bits (Seq parts) names tests = parts_bits parts names tests
    form_bits (Par arms) names tests = parts_bits arms names tests
    form_bits (If test comb a b) names tests = (port_says test.port tests.0, (statement_bits a names.1.0 tests.1.0, statement_bits b names.1.1 tests.1.1))
    form_bits (While test comb a) names tests = (port_says test.port tests.0, statement_bits a names.1 tests.1)
    form_bits (Repeat zero a) names tests = tt
    form_bits (Repeat (suc n) a) names tests = statement_bits a names tests
    form_bits (StaticSeq written parts) names tests = tt
    form_bits (StaticPar written arms) names tests = tt
    form_bits (StaticIf written test a b) names tests = tt
    form_bits (StaticRepeat written count a) names tests = tt
    form_bits (Timed k) names tests = tt

    pub statement_bits : (s : PlainStatement) → StatementNames groups s → StatementTests P s → StatementBits around registers look hole port s
    statement_bits (Placed form place) names tests = form_bits form names tests

    parts_bits : (ss : PlainStatements) → PartsName groups ss → PartsTests P ss → PartsBits around registers look hole port ss
    parts_bits no_statements names tests = tt
    parts_bits (a_statement s ss) names tests = (statement_bits s names.0 tests.0, parts_bits ss names.1 tests.1)

-- what is a bit is the bit that it is
itself : (o : Option BitVector) (b : Bool) → o ≡ Some (truth_bit b) → o ≡ Some (truth_bit (is_true (unwrap_or o (zero_of 1))))
itself o b e = e ∙ ap (λ c. Some (truth_bit c)) (sym (ap (λ x. is_true (unwrap_or x (zero_of 1))) e ∙ true_bit b))

module _ (d : PlainDesign) (of_island : PlainComponent → NetState → ℕ → ℕ → ℕ → ℕ) (part : PlainComponent) (cells : Cells) where
  -- WHAT A NODE IS LIKE: the groups that it names are there, targets have ranks, tests are of one bit
  pub record IsFineNode : Type 0 where
    pub islands_named : IslandsName (groups (lowered_component part)) (lowered_component part).islands
    pub control_named : StatementNames (groups (lowered_component part)) (lowered part part.control (unlowered part))
    pub assigns_named : AssignsName (groups (lowered_component part)) (driven_assigns (lowered_component part))
    pub plain : AllDrive (IsPlain (length (plain_wires (lowered_component part)))) (plain_drivers (lowered_component part))
    pub untimed : IsUntimed part.control
    pub cell_count : cell_count cells ≡ length part.cells
    pub timers_fit : TimersFit part
    pub targets : (o : Owned) → In (driven_assigns (lowered_component part)) o → IsOwnTarget part o.assign.target
    pub tests : StatementTests (IsBitPort (wired_in d part) (net_of_cells (wired_in d) timers_of (component_numbers of_island) cells (timers_of part))) (lowered part part.control (unlowered part))

  module _ (fine : IsFineNode) (v : NetState) (around : NetAround) (look : NetLook)
      (solves : Solves (block (wired_in d) timers_of (component_numbers of_island) (instances.Node part cells)) around v look) where
    abbrev pub R : ℕ → Option BitVector
    R = registers_of (wired_in d part) (net_of_cells (wired_in d) timers_of (component_numbers of_island) cells (timers_of part)) around v (look []) (λ c. look (c ∷ []))

    abbrev pub hole_now : ℕ → Bool
    hole_now g = is_true (unwrap_or (look [] (AHole g)) (zero_of 1))

    abbrev pub port_now : PortRef → Bool
    port_now p = is_true (unwrap_or (value around R (look []) (OfPort p)) (zero_of 1))

    hole_says : (g : ℕ) → g < groups (lowered_component part) → Says around R (look []) (OfHole g) (hole_now g)
    hole_says g there =
        let holes : g < groups (lowered_component part) + groups (lowered_component part) = omega arith in
        let b = solves.bits [] (AHole g) (lt-ltb g (groups (lowered_component part) + groups (lowered_component part)) holes) in itself (look [] (AHole g)) b.0 b.1

    port_says : (p : PortRef) → IsBitPort (wired_in d part) (net_of_cells (wired_in d) timers_of (component_numbers of_island) cells (timers_of part)) p → Says around R (look []) (OfPort p) (port_now p)
    port_says (ports.Cell c p) is = let b = solves.bits [] (APort (ports.Cell c p)) is in itself (look [] (APort (ports.Cell c p))) b.0 b.1
    port_says (ports.Input n) is = let b = solves.bit_inputs n is in itself (around.input n) b.0 b.1
    port_says (ports.Output n) is = let b = solves.bits [] (APort (ports.Output n)) is in itself (look [] (APort (ports.Output n))) b.0 b.1
    port_says (ports.Done g) is = absurd is
    port_says (ports.Literal w x) is = itself (Some (record { width = w; value = x })) is.0 (ap Some is.1)

    -- THE CYCLE of its control
    pub node_cycle : PlainCycle part fine.islands_named around R (look []) (v.register []) (own_register (wired_in d part) (net_of_cells (wired_in d) timers_of (component_numbers of_island) cells (timers_of part)) around v look) hole_now port_now solves.go.0
    node_cycle =
        plain_cycle (lowered_of d) part fine.islands_named (net_of_cells (wired_in d) timers_of (component_numbers of_island) cells (timers_of part)) around v look (λ n t. solves.by_rule [] n t) (λ n t. solves.whole [] n t) fine.plain
        fine.untimed fine.targets (timer_rows part (wired_in d) timers_of (component_numbers of_island) cells fine.cell_count fine.timers_fit) hole_now port_now solves.go.0 solves.go.1
        (statement_bits (groups (lowered_component part)) around R (look []) hole_now port_now (IsBitPort (wired_in d part) (net_of_cells (wired_in d) timers_of (component_numbers of_island) cells (timers_of part))) port_says hole_says (lowered part part.control (unlowered part)) fine.control_named fine.tests)

    pub done_node : look [] TheDone ≡ Some (truth_bit (v.register [] 0 == positions_of (lowered part part.control (unlowered part))))
    done_node =
        laws.done_is part fine.islands_named around R (look []) (v.register []) (own_register (wired_in d part) (net_of_cells (wired_in d) timers_of (component_numbers of_island) cells (timers_of part)) around v look) hole_now port_now
        fine.control_named fine.assigns_named solves.go.0 node_cycle

  pub end_is : Coding.size (Coded.coding (coded_control (instances.Node part cells))) ≡ positions_of (lowered part part.control (unlowered part))
  end_is =
      size_is (leaf_machines (instances.Node part cells) (coded_below cells)) (leaf_codings (instances.Node part cells) (coded_below cells)) part
      (enable_one (instances.Node part cells) (coded_below cells)) (island_one (instances.Node part cells) (coded_below cells)) part.control (unlowered part)

  -- ITS DONE says whether its place is the end
  pub block_tells : IsFineNode → TellsDone (block (wired_in d) timers_of (component_numbers of_island) (instances.Node part cells))
  block_tells fine = record {
    told = λ v around look solves. (
      truth_bit (v.register [] 0 == positions_of (lowered part part.control (unlowered part))),
      done_node fine v around look solves,
      (λ e. true_bit _ ∙ eq-eqb (v.register [] 0) _ (e ∙ end_is)),
      (λ apart. true_bit _ ∙ ne_eqb (v.register [] 0) _ (λ e. apart (e ∙ sym end_is))),
    );
  }
