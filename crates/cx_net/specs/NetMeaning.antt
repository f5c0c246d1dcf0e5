-- One cycle of a net: each port, wire and hole has at most one value, which follows by rules from those of others.
use Rattle.std.specs.Prelude.{◌≡◌, ℕ, zero, suc, ◌+◌, ◌==◌, not, nat_lt, Bool, true, false, List, [], ◌∷◌, length, Option, Some, None, option_map, option_and_then, unwrap_or, slice_get, if◌then◌else◌}
use Rattle.cx_bits.specs.BitVector.{BitVector, zero_of}
use Rattle.cx_bits.specs.Operators.{sum_of, and_of, or_of, complement_of}
use Rattle.cx_prim.specs.declared.ports.PortRow.{PortRow}
use Rattle.cx_prim.specs.declared.ports.Side.{Side}
use Rattle.cx_prim.specs.declared.ports.Side.TheVariants as sides
use Rattle.cx_prim.specs.CellStates.{CellState}
use Rattle.cx_prim.specs.Rows.{Inputs, Row}
use Rattle.cx_meaning.specs.declared.ports.PortRef.{PortRef}
use Rattle.cx_meaning.specs.declared.ports.PortRef.TheVariants as ports
use Rattle.cx_meaning.specs.declared.kinds.PortDecl.{PortDecl}
use Rattle.cx_meaning.specs.Rows.{side_of}
use Rattle.cx_meaning.specs.Instances.{Path}
use Rattle.cx_meaning.specs.Truths.{compares}
use Rattle.cx_meaning.specs.Sights.{PartPort, Go, AnInput, AnOutput, ItsDone, later_port}
use Rattle.cx_net.specs.Nets.{PlainNetExpr, OfPort, OfRegister, OfWire, OfHole, OfGo, Fixed, Inverse, AllOf, AnyOf, Sum, Compares, PlainNetExprs, no_exprs, an_expr, PlainNetTarget, ToPort, ToRegister, ToWire, ToHole, ToDone, PlainNetDriver, PlainNetComponent}
use Rattle.cx_net.specs.NetTree.{NetInstance, NetNode, NetCells, no_net_cells, a_row, a_child, NetAt, NoCell, ARow, AChild, net_part, net_cell_at}

-- what a net keeps between two edges: the states of its cells, and its registers
pub record NetState : Type 0 where
  pub cell : Path → CellState
  pub register : Path → ℕ → ℕ

abbrev pub below_cell : ℕ → NetState → NetState
below_cell c s = record { cell = λ path. s.cell (c ∷ path); register = λ path. s.register (c ∷ path) }

-- the nodes of an instance, which have values in a cycle
pub data Node : Type 0 where
  APort : (p : PortRef) → Node
  AWire : (n : ℕ) → Node
  AHole : (n : ℕ) → Node
  TheDone : Node

-- what is known of the nodes so far
abbrev pub NetLook : Type 0
NetLook = Path → Node → Option BitVector

-- what is known around an instance: its go and its inputs
pub record NetAround : Type 0 where
  pub go : Option BitVector
  pub input : ℕ → Option BitVector

abbrev pub net_part_port : PlainNetComponent → ℕ → PartPort
net_part_port part zero = Go
net_part_port part (suc n) = later_port (length part.inputs) (length part.outputs) n

abbrev pub truth_bit : Bool → BitVector
truth_bit b = record { width = 1; value = if b then 1 else 0 }

abbrev pub both_known : (BitVector → BitVector → BitVector) → Option BitVector → Option BitVector → Option BitVector
both_known f a b = option_and_then (λ x. option_map (f x) b) a

abbrev pub is_true : BitVector → Bool
is_true b = not (b.value == 0)

-- all parts of an expression are needed
module _ (around : NetAround) (registers : ℕ → Option BitVector) (look : Node → Option BitVector) where
  abbrev mutual
    pub net_expr : PlainNetExpr → Option BitVector
    net_expr (OfPort (ports.Cell c p)) = look (APort (ports.Cell c p))
    net_expr (OfPort (ports.Input n)) = around.input n
    net_expr (OfPort (ports.Output n)) = look (APort (ports.Output n))
    net_expr (OfPort (ports.Done g)) = look (APort (ports.Done g))
    net_expr (OfPort (ports.Literal w v)) = Some (record { width = w; value = v })
    net_expr (OfRegister n) = registers n
    net_expr (OfWire n) = look (AWire n)
    net_expr (OfHole n) = look (AHole n)
    net_expr OfGo = around.go
    net_expr (Fixed b) = Some b
    net_expr (Inverse e) = option_map complement_of (net_expr e)
    net_expr (AllOf es) = all_expr es
    net_expr (AnyOf es) = any_expr es
    net_expr (Sum a b) = both_known sum_of (net_expr a) (net_expr b)
    net_expr (Compares c a b) = both_known (λ x y. truth_bit (compares c x.value y.value)) (net_expr a) (net_expr b)

    pub all_expr : PlainNetExprs → Option BitVector
    all_expr no_exprs = Some (truth_bit true)
    all_expr (an_expr e es) = both_known and_of (net_expr e) (all_expr es)

    pub any_expr : PlainNetExprs → Option BitVector
    any_expr no_exprs = Some (truth_bit false)
    any_expr (an_expr e es) = both_known or_of (net_expr e) (any_expr es)

  -- the guards up to the first true one, and that one's source
  abbrev pub chain : BitVector → List PlainNetDriver → Option BitVector
  chain undriven [] = Some undriven
  chain undriven (d ∷ ds) =
      option_and_then (λ g. if is_true g then net_expr d.source else chain undriven ds) (net_expr d.guard)

abbrev pub same_target : PlainNetTarget → PlainNetTarget → Bool
same_target (ToPort (ports.Cell c p)) (ToPort (ports.Cell d q)) = if c == d then p == q else false
same_target (ToPort (ports.Output n)) (ToPort (ports.Output m)) = n == m
same_target (ToRegister n) (ToRegister m) = n == m
same_target (ToWire n) (ToWire m) = n == m
same_target (ToHole n) (ToHole m) = n == m
same_target ToDone ToDone = true
same_target a b = false

abbrev pub drivers_to : PlainNetTarget → List PlainNetDriver → List PlainNetDriver
drivers_to t [] = []
drivers_to t (d ∷ ds) = if same_target d.target t then d ∷ drivers_to t ds else drivers_to t ds

abbrev pub decl_width : List PortDecl → ℕ → ℕ
decl_width decls n = unwrap_or (option_map (λ d. d.width) (slice_get decls n)) 1

abbrev pub child_port_width : PlainNetComponent → PartPort → ℕ
child_port_width part Go = 1
child_port_width part (AnInput n) = decl_width part.inputs n
child_port_width part (AnOutput n) = decl_width part.outputs n
child_port_width part ItsDone = 1

abbrev pub net_at_width : NetAt → ℕ → ℕ
net_at_width NoCell p = 1
net_at_width (ARow row) p = unwrap_or (option_map (λ port. port.width) (slice_get row.ports p)) 1
net_at_width (AChild child) p = child_port_width (net_part child) (net_part_port (net_part child) p)

-- the inputs of a cell that an output reads, where they are known
abbrev pub gather_known : (ℕ → Option BitVector) → (ℕ → Bool) → ℕ → List PortRow → Option Inputs
gather_known look wanted p [] = Some []
gather_known look wanted p (port ∷ rest) =
    if wanted p then option_and_then
    (λ b. option_map (λ more. Some b ∷ more) (gather_known look wanted (suc p) rest)) (look p)
    else option_map (λ more. None ∷ more) (gather_known look wanted (suc p) rest)

-- ONE RULE, of a node of an instance; of the cells below only outputs and dones are looked at
module _ (part : PlainNetComponent) (cells : NetCells) (around : NetAround) (s : NetState)
    (look : Node → Option BitVector) (below : ℕ → Node → Option BitVector) where
  abbrev pub registers_of : ℕ → Option BitVector
  registers_of n = option_map (λ w. record { width = w; value = s.register [] n }) (slice_get part.registers n)

  abbrev pub driven_node : ℕ → PlainNetTarget → Option BitVector
  driven_node w t = chain around registers_of look (zero_of w) (drivers_to t part.drivers)

  abbrev pub row_node : Row → ℕ → ℕ → Side → Option BitVector
  row_node row c p sides.Enable = driven_node (net_at_width (ARow row) p) (ToPort (ports.Cell c p))
  row_node row c p sides.Plain = driven_node (net_at_width (ARow row) p) (ToPort (ports.Cell c p))
  row_node row c p sides.Output =
      option_map (λ inputs. unwrap_or (row.output (s.cell (c ∷ [])) inputs p) (zero_of (net_at_width (ARow row) p)))
      (gather_known (λ q. look (APort (ports.Cell c q))) (row.reads p) 0 row.ports)
  row_node row c p sides.Registered = row.output (s.cell (c ∷ [])) [] p

  abbrev pub child_node : NetInstance → ℕ → ℕ → PartPort → Option BitVector
  child_node child c p Go = driven_node 1 (ToPort (ports.Cell c p))
  child_node child c p (AnInput n) = driven_node (net_at_width (AChild child) p) (ToPort (ports.Cell c p))
  child_node child c p (AnOutput n) = below c (APort (ports.Output n))
  child_node child c p ItsDone = below c TheDone

  abbrev pub cell_node : ℕ → ℕ → NetAt → Option BitVector
  cell_node c p NoCell = None
  cell_node c p (ARow row) = row_node row c p (side_of row p)
  cell_node c p (AChild child) = child_node child c p (net_part_port (net_part child) p)

  abbrev pub own_step : Node → Option BitVector
  own_step (APort (ports.Cell c p)) = cell_node c p (net_cell_at cells c)
  own_step (APort (ports.Input n)) = around.input n
  own_step (APort (ports.Output n)) = driven_node (decl_width part.outputs n) (ToPort (ports.Output n))
  own_step (APort (ports.Done g)) = None
  own_step (APort (ports.Literal w v)) = Some (record { width = w; value = v })
  own_step (AWire n) = option_and_then (λ w. driven_node w (ToWire n)) (slice_get part.wires n)
  own_step (AHole n) = if nat_lt n part.holes then driven_node 1 (ToHole n) else None
  own_step TheDone = driven_node 1 ToDone

-- what stands around the child at a cell
abbrev pub around_child : ℕ → (Node → Option BitVector) → NetAround
around_child c look = record { go = look (APort (ports.Cell c 0)); input = λ n. look (APort (ports.Cell c (suc n))) }

abbrev mutual
  pub net_step : NetInstance → NetAround → NetState → NetLook → Path → Node → Option BitVector
  net_step (NetNode part cells) around s look [] node = own_step part cells around s (look []) (λ c. look (c ∷ [])) node
  net_step (NetNode part cells) around s look (c ∷ path) node =
      child_step cells c (around_child c (look [])) (below_cell c s) (λ q. look (c ∷ q)) path node

  pub child_step : NetCells → ℕ → NetAround → NetState → NetLook → Path → Node → Option BitVector
  child_step no_net_cells c around s look path node = None
  child_step (a_row row rest) zero around s look path node = None
  child_step (a_row row rest) (suc c) around s look path node = child_step rest c around s look path node
  child_step (a_child child rest) zero around s look path node = net_step child around s look path node
  child_step (a_child child rest) (suc c) around s look path node = child_step rest c around s look path node

-- main has no inputs; its go is 1, or 0 in the cycle of the edge with reset
abbrev pub outside : Bool → NetAround
outside go = record { go = Some (truth_bit go); input = λ n. None }

-- A NODE HAS A VALUE: by one rule from nodes that have theirs
pub data NetHas (tree : NetInstance) (go : Bool) (s : NetState) : Path → Node → BitVector → Type 0 where
  by_rule : {path : Path} {node : Node} {v : BitVector} (look : NetLook)
      → ((q : Path) (n : Node) (w : BitVector) → look q n ≡ Some w → NetHas tree go s q n w)
      → net_step tree (outside go) s look path node ≡ Some v → NetHas tree go s path node v

-- whether a node is there
abbrev pub is_port_of : NetAt → ℕ → Bool
is_port_of NoCell p = false
is_port_of (ARow row) p = nat_lt p (length row.ports)
is_port_of (AChild child) p = nat_lt p (2 + length (net_part child).inputs + length (net_part child).outputs)

abbrev pub is_own_node : PlainNetComponent → NetCells → Node → Bool
is_own_node part cells (APort (ports.Cell c p)) = is_port_of (net_cell_at cells c) p
is_own_node part cells (APort (ports.Input n)) = false
is_own_node part cells (APort (ports.Output n)) = nat_lt n (length part.outputs)
is_own_node part cells (APort (ports.Done g)) = false
is_own_node part cells (APort (ports.Literal w v)) = false
is_own_node part cells (AWire n) = nat_lt n (length part.wires)
is_own_node part cells (AHole n) = nat_lt n part.holes
is_own_node part cells TheDone = true

abbrev mutual
  pub is_node : NetInstance → Path → Node → Bool
  is_node (NetNode part cells) [] node = is_own_node part cells node
  is_node (NetNode part cells) (c ∷ path) node = is_node_below cells c path node

  pub is_node_below : NetCells → ℕ → Path → Node → Bool
  is_node_below no_net_cells c path node = false
  is_node_below (a_row row rest) zero path node = false
  is_node_below (a_row row rest) (suc c) path node = is_node_below rest c path node
  is_node_below (a_child child rest) zero path node = is_node child path node
  is_node_below (a_child child rest) (suc c) path node = is_node_below rest c path node
