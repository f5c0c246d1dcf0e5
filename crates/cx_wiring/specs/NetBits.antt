-- Which nodes of a net are of one bit, and how wide the inputs of an instance are.
use Rattle.std.specs.Prelude.{◌≡◌, ℕ, zero, suc, ◌==◌, ◌&&◌, nat_lt, Bool, true, false, [], ◌∷◌, length, Option, Some, None, slice_get}
use Rattle.std.specs.Option.{option_map_or}
use Rattle.cx_bits.specs.BitVector.{BitVector}
use Rattle.cx_meaning.specs.declared.ports.PortRef.{PortRef}
use Rattle.cx_meaning.specs.declared.ports.PortRef.TheVariants as ports
use Rattle.cx_meaning.specs.Instances.{Path}
use Rattle.cx_meaning.specs.Designs.{PlainForm, Empty, Enable, Seq, Par, If, While, Repeat, StaticSeq, StaticPar, StaticIf, StaticRepeat, Timed, PlainStatement, Placed, PlainStatements, no_statements, a_statement}
use Rattle.cx_rules.specs.Ports.{declared_width}
use Rattle.cx_net.specs.Nets.{PlainNetComponent}
use Rattle.cx_net.specs.NetTree.{NetInstance, NetNode, NetCells, no_net_cells, a_row, a_child, net_part, net_cell_at}
use Rattle.cx_net.specs.NetMeaning.{Node, APort, AWire, AHole, TheDone, truth_bit, decl_width, net_at_width, is_port_of}

abbrev pub own_bit : PlainNetComponent → NetCells → Node → Bool
own_bit part cells (APort (ports.Cell c p)) =
    is_port_of (net_cell_at cells c) p && (net_at_width (net_cell_at cells c) p == 1)
own_bit part cells (APort (ports.Input n)) = false
own_bit part cells (APort (ports.Output n)) = nat_lt n (length part.outputs) && (decl_width part.outputs n == 1)
own_bit part cells (APort (ports.Done g)) = false
own_bit part cells (APort (ports.Literal w v)) = false
own_bit part cells (AWire n) = option_map_or (λ w. w == 1) (slice_get part.wires n) false
own_bit part cells (AHole n) = nat_lt n part.holes
own_bit part cells TheDone = true

abbrev mutual
  pub is_bit : NetInstance → Path → Node → Bool
  is_bit (NetNode part cells) [] node = own_bit part cells node
  is_bit (NetNode part cells) (c ∷ path) node = is_bit_below cells c path node

  pub is_bit_below : NetCells → ℕ → Path → Node → Bool
  is_bit_below no_net_cells c path node = false
  is_bit_below (a_row row rest) zero path node = false
  is_bit_below (a_row row rest) (suc c) path node = is_bit_below rest c path node
  is_bit_below (a_child child rest) zero path node = is_bit child path node
  is_bit_below (a_child child rest) (suc c) path node = is_bit_below rest c path node

-- the inputs of an instance, and of what stands at a cell
abbrev pub input_width : NetInstance → ℕ → Option ℕ
input_width i n = declared_width (net_part i).inputs n

abbrev pub input_width_below : NetCells → ℕ → ℕ → Option ℕ
input_width_below no_net_cells c n = None
input_width_below (a_row row rest) zero n = None
input_width_below (a_row row rest) (suc c) n = input_width_below rest c n
input_width_below (a_child child rest) zero n = input_width child n
input_width_below (a_child child rest) (suc c) n = input_width_below rest c n

-- a port of an instance that is one bit
module _ (part : PlainNetComponent) (cells : NetCells) where
  abbrev pub IsBitPort : PortRef → Type 0
  IsBitPort (ports.Cell c p) = own_bit part cells (APort (ports.Cell c p)) ≡ true
  IsBitPort (ports.Input n) = declared_width part.inputs n ≡ Some 1
  IsBitPort (ports.Output n) = own_bit part cells (APort (ports.Output n)) ≡ true
  IsBitPort (ports.Done g) = ⊥
  IsBitPort (ports.Literal w v) = (b : Bool) × (◌≡◌ {A = BitVector} (record { width = w; value = v }) (truth_bit b))

-- the ports of a statement's tests are such
module _ (P : PortRef → Type 0) where
  abbrev mutual
    pub FormTests : PlainForm → Type 0
    FormTests Empty = Unit {0}
    FormTests (Enable g) = Unit {0}
    FormTests (Seq parts) = PartsTests parts
    FormTests (Par arms) = PartsTests arms
    FormTests (If test comb a b) = P test.port × (StatementTests a × StatementTests b)
    FormTests (While test comb a) = P test.port × StatementTests a
    FormTests (Repeat zero a) = Unit {0}
    FormTests (Repeat (suc n) a) = StatementTests a
    FormTests (StaticSeq written parts) = Unit {0}
    FormTests (StaticPar written arms) = Unit {0}
    FormTests (StaticIf written test a b) = Unit {0}
    FormTests (StaticRepeat written count a) = Unit {0}
    FormTests (Timed k) = Unit {0}

    pub StatementTests : PlainStatement → Type 0
    StatementTests (Placed form place) = FormTests form

    pub PartsTests : PlainStatements → Type 0
    PartsTests no_statements = Unit {0}
    PartsTests (a_statement s ss) = StatementTests s × PartsTests ss
