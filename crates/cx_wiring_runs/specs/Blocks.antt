-- What stands in a tree of instances, as its caller knows it: the machine of its control, and its part of the net. The laws of one
-- edge are of these, so that those of an instance follow from those of what stands at its cells.
use Rattle.std.specs.Prelude.{◌≡◌, ℕ, zero, suc, ◌⊎◌, Bool, true, false, List, [], ◌∷◌, Option, Some}
use Rattle.cx_bits.specs.BitVector.{BitVector}
use Rattle.cx_prim.specs.CellStates.{CellState}
use Rattle.cx_prim.specs.Rows.{Row}
use Rattle.cx_meaning.specs.declared.sights.Seen.TheVariants.{Value}
use Rattle.cx_meaning.specs.Designs.{PlainComponent}
use Rattle.cx_meaning.specs.Instances as instances
use Rattle.cx_meaning.specs.Instances.{Instance, Cells, no_cells, a_primitive, an_instance, Path, idle_at, idle_below, cell_at, OfInstance}
use Rattle.cx_lockstep.specs.Worlds.{Control, At, Machine, edge}
use Rattle.cx_control.specs.Codings.{Coding}
use Rattle.cx_control.specs.Spots.{Spot, Cell, Number, Input, Holds, Kept}
use Rattle.cx_control.specs.Leaves.{Coded, code_of}
use Rattle.cx_control.specs.Controls.{coded_control, coded_below}
use Rattle.cx_control.specs.Numbers.{idle_by, number_idle_at, number_idle_below}
use Rattle.cx_control.specs.Standing.{Bare, bare, good_control, good_below}
use Rattle.cx_net.specs.Nets.{PlainNetComponent}
use Rattle.cx_net.specs.NetTree.{NetCells, no_net_cells, a_row, a_child}
use Rattle.cx_net.specs.NetMeaning.{NetState, below_cell, Node, TheDone, NetLook, NetAround, is_node, is_node_below, is_true, truth_bit, net_step, child_step}
use Rattle.cx_net.specs.NetEdges.{cell_after, register_after, register_below}
use Rattle.cx_wiring.specs.PartNets.{net_of_instance, net_of_cells}
use Rattle.cx_wiring.specs.NetBits.{is_bit, is_bit_below, input_width, input_width_below}

pub record Block : Type 1 where
  pub coded : Coded
  pub good : Control (Machine.Place (Coded.machine coded)) → Bare → Type 0
  -- which paths are cells of the design: a net has timers beside them
  pub has_cell : Path → Bool
  pub cell_idle : Path → CellState → CellState
  pub number_idle : Path → ℕ → ℕ → ℕ
  -- the net: which nodes are there, which of them are of one bit, how wide the inputs are, the rule of each node, an edge of registers
  -- and of cells, and where its state has a number
  pub is_there : Path → Node → Bool
  pub is_bit : Path → Node → Bool
  pub input_width : ℕ → Option ℕ
  pub rule : NetAround → NetState → NetLook → Path → Node → Option BitVector
  pub register_after : NetAround → NetState → NetLook → Path → ℕ → ℕ
  pub cell_after : NetLook → Path → CellState → CellState
  pub number_in : NetState → Path → ℕ → ℕ

abbrev mutual
  pub has_cell : Instance → Path → Bool
  has_cell (instances.Node part cells) [] = false
  has_cell (instances.Node part cells) (c ∷ path) = has_cell_below cells c path

  pub has_cell_below : Cells → ℕ → Path → Bool
  has_cell_below no_cells c path = false
  has_cell_below (a_primitive row rest) zero [] = true
  has_cell_below (a_primitive row rest) zero (e ∷ path) = false
  has_cell_below (a_primitive row rest) (suc c) path = has_cell_below rest c path
  has_cell_below (an_instance child rest) zero path = has_cell child path
  has_cell_below (an_instance child rest) (suc c) path = has_cell_below rest c path

module _ (B : Block) where
  -- THE NET SHOWS a place and a store: equations by numbers
  pub record Shows (p : Control (Machine.Place (Coded.machine B.coded))) (s : Kept) (v : NetState) : Type 0 where
    pub cells : (path : Path) → B.has_cell path ≡ true → v.cell path ≡ s (Cell path)
    pub own : (n : ℕ) → B.number_in v [] n ≡ code_of B.coded p n
    pub below : (c : ℕ) (path : Path) (n : ℕ) → B.number_in v (c ∷ path) n ≡ s (Number (c ∷ path) n)

  -- a value of each node, by its own rule, and of one bit where the node is: what a whole look has. So do the go and the inputs
  pub record Solves (around : NetAround) (v : NetState) (look : NetLook) : Type 0 where
    pub whole : (path : Path) (n : Node) → B.is_there path n ≡ true → (x : BitVector) × (look path n ≡ Some x)
    pub by_rule : (path : Path) (n : Node) → B.is_there path n ≡ true → look path n ≡ B.rule around v look path n
    pub bits : (path : Path) (n : Node) → B.is_bit path n ≡ true → (b : Bool) × (look path n ≡ Some (truth_bit b))
    pub go : (b : Bool) × (around.go ≡ Some (truth_bit b))
    pub inputs : (n w : ℕ) → B.input_width n ≡ Some w → (x : BitVector) × (around.input n ≡ Some x)
    pub bit_inputs : (n : ℕ) → B.input_width n ≡ Some 1 → (b : Bool) × (around.input n ≡ Some (truth_bit b))

  abbrev pub HasGo : NetAround → Bool → Type 0
  HasGo around b = (x : BitVector) × (around.go ≡ Some x) × (is_true x ≡ b)

  -- inputs that are values are those of the net
  abbrev pub FitsInputs : Kept → NetAround → Type 0
  FitsInputs s around = (n : ℕ) (x : BitVector) → s (Input n) ≡ Value x → around.input n ≡ Some x

  abbrev pub after_edge : NetAround → NetState → NetLook → NetState
  after_edge around v look =
      record {
        cell = λ path.
            B.cell_after look path (v.cell path);
        register = λ path n. B.register_after around v look path n;
      }

  abbrev pub block_idle : (x : Spot) → Holds x → Holds x
  block_idle = idle_by (λ path d. B.cell_idle path d) (λ path n v. B.number_idle path n v)

  -- the go is 0, or the place is the end
  abbrev pub IsIdle : NetAround → NetState → Type 0
  IsIdle around v = HasGo around false ⊎ (B.number_in v [] 0 ≡ Coding.size (Coded.coding B.coded))

  -- WITH GO, where the net shows a place, it is good and there is no fault, the edge makes the machine's step
  abbrev pub Runs : Type 0
  Runs = (p : Machine.Place (Coded.machine B.coded)) (s : Kept) (v : NetState) (around : NetAround) (look : NetLook)
      → Coding.IsFine (Coded.coding B.coded) p → B.good (At p) (bare s)
      → Machine.faults (Coded.machine B.coded) p s ≡ false → Shows (At p) s v → HasGo around true
      → FitsInputs s around → Solves around v look
      → Shows (Machine.step (Coded.machine B.coded) p s)
      (edge block_idle (Coded.machine B.coded) (At p) s) (after_edge around v look)

  -- WITHOUT GO, or at the end, the edge is idle, whatever the registers hold: neither the invariant nor a fault comes in
  pub record Idles : Type 0 where
    pub cells : (v : NetState) (around : NetAround) (look : NetLook) → IsIdle around v
        → Solves around v look → (path : Path) → B.has_cell path ≡ true
        → B.cell_after look path (v.cell path) ≡ B.cell_idle path (v.cell path)
    pub numbers : (v : NetState) (around : NetAround) (look : NetLook) → IsIdle around v
        → Solves around v look → (path : Path) (n : ℕ)
        → B.number_in (after_edge around v look) path n ≡ B.number_idle path n (B.number_in v path n)

  -- ITS DONE says whether its place is the end
  pub record TellsDone : Type 0 where
    pub told : (v : NetState) (around : NetAround) (look : NetLook) → Solves around v look
        → (x : BitVector) × (look [] TheDone ≡ Some x)
        × (B.number_in v [] 0 ≡ Coding.size (Coded.coding B.coded) → is_true x ≡ true)
        × ((B.number_in v [] 0 ≡ Coding.size (Coded.coding B.coded) → ⊥) → is_true x ≡ false)

-- all of them
pub record BlockLaws (B : Block) : Type 0 where
  pub runs : Runs B
  pub idles : Idles B
  pub done : TellsDone B

-- where the net's state has the numbers of a component, `numbers` says: registers, and of an island the count and the
-- done of its first timer
module _ (wired : PlainComponent → PlainNetComponent) (timers : PlainComponent → List Row)
    (numbers : Instance → NetState → ℕ → ℕ) where
  abbrev mutual
    pub numbers_at : Instance → NetState → Path → ℕ → ℕ
    numbers_at (instances.Node part cells) v [] n = numbers (instances.Node part cells) v n
    numbers_at (instances.Node part cells) v (c ∷ path) n = numbers_below cells c (below_cell c v) path n

    pub numbers_below : Cells → ℕ → NetState → Path → ℕ → ℕ
    numbers_below no_cells c v path n = 0
    numbers_below (a_primitive row rest) zero v path n = 0
    numbers_below (a_primitive row rest) (suc c) v path n = numbers_below rest c v path n
    numbers_below (an_instance child rest) zero v path n = numbers_at child v path n
    numbers_below (an_instance child rest) (suc c) v path n = numbers_below rest c v path n

  -- the edge of the cells of the child at a cell, with the child's own look
  abbrev pub child_cell_after : NetCells → ℕ → NetLook → Path → CellState → CellState
  child_cell_after no_net_cells c look path d = d
  child_cell_after (a_row row rest) zero look path d = d
  child_cell_after (a_row row rest) (suc c) look path d = child_cell_after rest c look path d
  child_cell_after (a_child child rest) zero look path d = cell_after false child look path d
  child_cell_after (a_child child rest) (suc c) look path d = child_cell_after rest c look path d

  abbrev pub block : Instance → Block
  block i = record {
    coded = coded_control i;
    good = good_control i;
    has_cell = has_cell i;
    cell_idle = idle_at i;
    number_idle = number_idle_at i;
    is_there = is_node (net_of_instance wired timers numbers i);
    is_bit = is_bit (net_of_instance wired timers numbers i);
    input_width = input_width (net_of_instance wired timers numbers i);
    rule = net_step (net_of_instance wired timers numbers i);
    register_after = register_after (net_of_instance wired timers numbers i);
    cell_after = cell_after false (net_of_instance wired timers numbers i);
    number_in = numbers_at i;
  }

  -- what stands at a cell; behind the cells there may be timers
  abbrev pub block_below : Cells → List Row → ℕ → Block
  block_below cells more c = record {
    coded = coded_below cells c;
    good = good_below cells c;
    has_cell = has_cell_below cells c;
    cell_idle = idle_below cells c;
    number_idle = number_idle_below cells c;
    is_there = is_node_below (net_of_cells wired timers numbers cells more) c;
    is_bit = is_bit_below (net_of_cells wired timers numbers cells more) c;
    input_width = input_width_below (net_of_cells wired timers numbers cells more) c;
    rule = child_step (net_of_cells wired timers numbers cells more) c;
    register_after = register_below (net_of_cells wired timers numbers cells more) c;
    cell_after = child_cell_after (net_of_cells wired timers numbers cells more) c;
    number_in = numbers_below cells c;
  }

  -- the laws of one node, from those of what stands at its cells
  abbrev pub NodeLaws : PlainComponent → Cells → Type 0
  NodeLaws part cells =
      ((c : ℕ) (child : Instance) → cell_at cells c ≡ OfInstance child →
      BlockLaws (block_below cells (timers part) c)) → BlockLaws (block (instances.Node part cells))
