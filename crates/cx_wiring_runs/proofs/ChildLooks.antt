-- What stands at a cell solves its rules under what the node's look has around it.
use Rattle.std.proofs.Common.{◌≡◌, ℕ, zero, suc, ◌+◌, ◌-◌, ◌<◌, ◌==◌, ◌&&◌, true, if◌then◌else◌, List, [], ◌∷◌, length, Some, unwrap_or, sym, ap, ap₂, ◌∙◌, arith}
use Rattle.std.proofs.lemmas.Bool.{lt-ltb}
use Rattle.cx_prim.specs.Rows.{Row}
use Rattle.cx_meaning.specs.declared.ports.PortRef.TheVariants as ports
use Rattle.cx_meaning.specs.Designs.{PlainComponent}
use Rattle.cx_meaning.specs.Instances as instances
use Rattle.cx_meaning.specs.Instances.{Instance, Cells, OfInstance, cell_at}
use Rattle.cx_meaning.specs.Sights.{AnInput, output_port}
use Rattle.cx_net.specs.Nets.{PlainNetComponent}
use Rattle.cx_net.specs.NetTree.{NetInstance, AChild, net_part, net_cell_at, NetCells, no_net_cells, a_row, a_child}
use Rattle.cx_net.specs.NetMeaning.{NetState, below_cell, NetLook, NetAround, APort, around_child, child_port_width, net_at_width, net_part_port, is_port_of}
use Rattle.cx_wiring.specs.NetBits.{input_width, input_width_below}
use Rattle.cx_wiring.specs.PartNets.{net_of_instance, net_of_cells}
use Rattle.cx_wiring_runs.specs.Blocks.{block, block_below, Solves}
use Rattle.cx_rules.proofs.PortsLemmas.{declared_less}
use Rattle.cx_wiring_runs.proofs.PortsKnown.{child_stands}

input_at : (cells : NetCells) (c : ℕ) (child : NetInstance) → net_cell_at cells c ≡ AChild child → (n : ℕ) → input_width_below cells c n ≡ input_width child n
input_at no_net_cells c child is n = absurd cc
input_at (a_row row rest) zero child is n = absurd cc
input_at (a_row row rest) (suc c) child is n = input_at rest c child is n
input_at (a_child kid rest) zero child is n = same kid child is
  where
    same : (x y : NetInstance) → AChild x ≡ AChild y → input_width x n ≡ input_width y n
    same x y e = let f : x ≡ y = cc in ap (λ z. input_width z n) f
input_at (a_child kid rest) (suc c) child is n = input_at rest c child is n

-- the go of a component cell is of one bit, and so is an input that is
go_bit : (child : NetInstance) → (is_port_of (AChild child) 0 && (net_at_width (AChild child) 0 == 1)) ≡ true
go_bit child = ap (λ b. b && true) (lt-ltb 0 (2 + length (net_part child).inputs + length (net_part child).outputs) (omega arith))

input_port : (child : NetInstance) (n w : ℕ) → input_width child n ≡ Some w → is_port_of (AChild child) (suc n) ≡ true
input_port child n w e =
    let less : n < length (net_part child).inputs = declared_less (net_part child).inputs n w e in
    lt-ltb (suc n) (2 + length (net_part child).inputs + length (net_part child).outputs) (omega arith)

input_bit : (child : NetInstance) (n : ℕ) → input_width child n ≡ Some 1 → (is_port_of (AChild child) (suc n) && (net_at_width (AChild child) (suc n) == 1)) ≡ true
input_bit child n e =
    let less : n < length (net_part child).inputs = declared_less (net_part child).inputs n 1 e in
    let wide : child_port_width (net_part child) (net_part_port (net_part child) (suc n)) ≡ 1 =
    ap (λ b. child_port_width (net_part child) (if b then AnInput n else output_port (length (net_part child).outputs) (n - length (net_part child).inputs))) (lt-ltb n (length (net_part child).inputs) less)
    ∙ ap (λ o. unwrap_or o 1) e in
    ap₂ (λ a b. a && (b == 1)) (input_port child n 1 e) wide

module _ (wired : PlainComponent → PlainNetComponent) (timers : PlainComponent → List Row) (numbers : Instance → NetState → ℕ → ℕ) where
  -- THE LOOK OF A CHILD
  pub child_solves : (part : PlainComponent) (cells : Cells) (around : NetAround) (v : NetState) (look : NetLook) → Solves (block wired timers numbers (instances.Node part cells)) around v look
      → (c : ℕ) (child : Instance) → cell_at cells c ≡ OfInstance child → Solves (block_below wired timers numbers cells (timers part) c) (around_child c (look [])) (below_cell c v) (λ q. look (c ∷ q))
  child_solves part cells around v look solves c child is =
      let stands = child_stands wired timers numbers cells (timers part) c child is in
      record {
        whole = λ path n t. solves.whole (c ∷ path) n t;
        by_rule = λ path n t. solves.by_rule (c ∷ path) n t;
        bits = λ path n t. solves.bits (c ∷ path) n t;
        go = solves.bits [] (APort (ports.Cell c 0)) (ap (λ x. is_port_of x 0 && (net_at_width x 0 == 1)) stands ∙ go_bit (net_of_instance wired timers numbers child));
        inputs = λ n w e. solves.whole [] (APort (ports.Cell c (suc n)))
            (ap (λ x. is_port_of x (suc n)) stands ∙ input_port (net_of_instance wired timers numbers child) n w (sym (input_at (net_of_cells wired timers numbers cells (timers part)) c (net_of_instance wired timers numbers child) stands n) ∙ e));
        bit_inputs = λ n e. solves.bits [] (APort (ports.Cell c (suc n)))
            (ap (λ x. is_port_of x (suc n) && (net_at_width x (suc n) == 1)) stands
            ∙ input_bit (net_of_instance wired timers numbers child) n (sym (input_at (net_of_cells wired timers numbers cells (timers part)) c (net_of_instance wired timers numbers child) stands n) ∙ e));
      }
