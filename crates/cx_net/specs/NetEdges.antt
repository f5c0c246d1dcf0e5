-- The edge of a net, when all that it looks at has a value.
use Rattle.std.specs.Prelude.{ℕ, zero, suc, Bool, true, false, List, [], ◌∷◌, Option, Some, unwrap_or, if◌then◌else◌}
use Rattle.std.specs.Option.{option_map_or}
use Rattle.cx_bits.specs.BitVector.{BitVector, zero_of}
use Rattle.cx_prim.specs.CellStates.{CellState}
use Rattle.cx_prim.specs.declared.ports.PortRow.{PortRow}
use Rattle.cx_prim.specs.Rows.{Inputs, Row, reset}
use Rattle.cx_meaning.specs.declared.ports.PortRef.TheVariants as ports
use Rattle.cx_meaning.specs.Instances.{Path}
use Rattle.cx_net.specs.Nets.{PlainNetComponent, PlainNetDriver, ToRegister}
use Rattle.cx_net.specs.NetTree.{NetInstance, NetNode, NetCells, no_net_cells, a_row, a_child}
use Rattle.cx_net.specs.NetMeaning.{NetState, below_cell, APort, NetLook, NetAround, around_child, outside, drivers_to, is_true, net_expr, registers_of}

-- a cell makes the step of its row; with reset it goes to its start, but a memory keeps its words
abbrev pub port_or_zero : NetLook → ℕ → ℕ → PortRow → Option BitVector
port_or_zero look c p port = Some (unwrap_or (look [] (APort (ports.Cell c p))) (zero_of port.width))

abbrev pub inputs_from : NetLook → ℕ → ℕ → List PortRow → Inputs
inputs_from look c p [] = []
inputs_from look c p (port ∷ rest) = port_or_zero look c p port ∷ inputs_from look c (suc p) rest

abbrev pub row_after : Bool → NetLook → ℕ → Row → CellState → CellState
row_after true look c row d = reset row d
row_after false look c row d = row.next d (inputs_from look c 0 row.ports)

abbrev mutual
  pub cell_after : Bool → NetInstance → NetLook → Path → CellState → CellState
  cell_after with_reset (NetNode part cells) look [] d = d
  cell_after with_reset (NetNode part cells) look (c ∷ path) d = cell_below with_reset cells c c look path d

  pub cell_below : Bool → NetCells → ℕ → ℕ → NetLook → Path → CellState → CellState
  cell_below with_reset no_net_cells at c look path d = d
  cell_below with_reset (a_row row rest) zero c look [] d = row_after with_reset look c row d
  cell_below with_reset (a_row row rest) zero c look (e ∷ path) d = d
  cell_below with_reset (a_row row rest) (suc at) c look path d = cell_below with_reset rest at c look path d
  cell_below with_reset (a_child child rest) zero c look path d = cell_after with_reset child (λ q. look (c ∷ q)) path d
  cell_below with_reset (a_child child rest) (suc at) c look path d = cell_below with_reset rest at c look path d

-- the first true guard gives a register its source; without one it stays
abbrev pub taken : (guard source : PlainNetDriver → Option BitVector) → ℕ → List PlainNetDriver → ℕ
taken guard source old [] = old
taken guard source old (d ∷ ds) =
    if option_map_or is_true (guard d) false then option_map_or (λ b. b.value) (source d) old
    else taken guard source old ds

module _ (part : PlainNetComponent) (cells : NetCells) (around : NetAround) (s : NetState) (look : NetLook) where
  abbrev pub value_in : PlainNetDriver → Option BitVector
  value_in d = net_expr around (registers_of part cells around s (look []) (λ c. look (c ∷ []))) (look []) d.source

  abbrev pub guard_in : PlainNetDriver → Option BitVector
  guard_in d = net_expr around (registers_of part cells around s (look []) (λ c. look (c ∷ []))) (look []) d.guard

  abbrev pub own_register : ℕ → ℕ
  own_register n = taken guard_in value_in (s.register [] n) (drivers_to (ToRegister n) part.drivers)

abbrev mutual
  pub register_after : NetInstance → NetAround → NetState → NetLook → Path → ℕ → ℕ
  register_after (NetNode part cells) around s look [] n = own_register part cells around s look n
  register_after (NetNode part cells) around s look (c ∷ path) n =
      register_below cells c (around_child c (look [])) (below_cell c s) (λ q. look (c ∷ q)) path n

  pub register_below : NetCells → ℕ → NetAround → NetState → NetLook → Path → ℕ → ℕ
  register_below no_net_cells c around s look path n = s.register path n
  register_below (a_row row rest) zero around s look path n = s.register path n
  register_below (a_row row rest) (suc c) around s look path n = register_below rest c around s look path n
  register_below (a_child child rest) zero around s look path n = register_after child around s look path n
  register_below (a_child child rest) (suc c) around s look path n = register_below rest c around s look path n

-- THE EDGE. With reset the registers go to 0
abbrev pub net_after : NetInstance → Bool → Bool → NetState → NetLook → NetState
net_after tree with_reset go s look = record {
  cell = λ path. cell_after with_reset tree look path (s.cell path);
  register = λ path n. if with_reset then 0 else register_after tree (outside go) s look path n;
}
