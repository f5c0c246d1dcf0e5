-- The module of each primitive.
use Rattle.std.specs.Prelude.{ℕ, ◌==◌, false, List, [], ◌∷◌, Option, Some, None, length, map, take, drop, slice_index, if◌then◌else◌, codes}
use Rattle.cx_prim.specs.declared.ports.PortRow.{PortRow}
use Rattle.cx_prim.specs.declared.names.PrimitiveName.{PrimitiveName}
use Rattle.cx_prim.specs.declared.names.PrimitiveName.TheVariants.{Const, Wire, Add, Sub, And, Or, Xor, Not, Lsh, Rsh, Lt, Gt, Equal, Neq, Le, Ge, Slt, Sgt, Seq, Sneq, Sle, Sge, Slice, Pad, Mux, Reg, StdMemD1, StdMemD2, StdMemD3, StdMemD4, CombMemD1, CombMemD2, CombMemD3, CombMemD4, SeqMemD1, SeqMemD2, SeqMemD3, SeqMemD4, MultPipe, DivPipe, Timer}
use Rattle.cx_prim.specs.PortNames.{text_of}
use Rattle.cx_prim.specs.Rows.{Row, is_output_side}
use Rattle.cx_prim.specs.Table.{PrimitiveRow, row_of}
use Rattle.cx_vtree.specs.declared.operators.Operator.TheVariants as operators
use Rattle.cx_vtree.specs.Plain.{PlainPort, PlainEdge, PlainModule}
use Rattle.cx_vmods.specs.Spelling.{spelled}
use Rattle.cx_vmods.specs.Parts.{Piece, Interior, made_of}
use Rattle.cx_vmods.specs.Combinational as combinational
use Rattle.cx_vmods.specs.Clocked as clocked
use Rattle.cx_vmods.specs.Memories as memories

-- an input of one bit
abbrev pub input : List ℕ → PlainPort
input name = record { output = false; name = name; width = 1 }

-- a port of the row
abbrev pub port_of : PortRow → PlainPort
port_of p = record { output = is_output_side p.side; name = spelled (text_of p.name); width = p.width }

-- the clock and the reset, and behind them the ports of the row in their order
abbrev pub ports_of : Row → List PlainPort
ports_of row = input (codes "clk") ∷ input (codes "reset") ∷ map port_of row.ports

-- numbers: the width and the value
abbrev pub constant_pieces : List ℕ → List Piece
constant_pieces numbers = combinational.constant (slice_index numbers 0) (slice_index numbers 1)

-- numbers: the width of the input and that of the output
abbrev pub slice_pieces : List ℕ → List Piece
slice_pieces numbers = combinational.slice (slice_index numbers 1)

abbrev pub pad_pieces : List ℕ → List Piece
pad_pieces numbers = combinational.pad (slice_index numbers 0) (slice_index numbers 1)

-- numbers: the length in cycles
abbrev pub timer_pieces : List ℕ → List Piece
timer_pieces numbers = clocked.timer (slice_index numbers 0)

-- numbers: the width, the size of each dimension, the address width of each dimension
abbrev pub memory_pieces : ℕ → List ℕ → List Piece
memory_pieces dimensions [] = []
memory_pieces dimensions (width ∷ rest) = memories.combinational width (take dimensions rest) (drop dimensions rest)

abbrev pub sequential_pieces : ℕ → List ℕ → List Piece
sequential_pieces dimensions [] = []
sequential_pieces dimensions (width ∷ rest) = memories.sequential width (take dimensions rest) (drop dimensions rest)

-- what stands in the module of a primitive; the first number is its width, but for the timer
abbrev pub pieces_of : PrimitiveName → List ℕ → List Piece
pieces_of Const numbers = constant_pieces numbers
pieces_of Wire numbers = combinational.wire
pieces_of Not numbers = combinational.complement
pieces_of Slice numbers = slice_pieces numbers
pieces_of Pad numbers = pad_pieces numbers
pieces_of Add numbers = combinational.operator operators.Add
pieces_of Sub numbers = combinational.operator operators.Subtract
pieces_of And numbers = combinational.operator operators.And
pieces_of Or numbers = combinational.operator operators.Or
pieces_of Xor numbers = combinational.operator operators.Xor
pieces_of Lsh numbers = combinational.shift operators.ShiftLeft (slice_index numbers 0)
pieces_of Rsh numbers = combinational.shift operators.ShiftRight (slice_index numbers 0)
pieces_of Lt numbers = combinational.operator operators.Less
pieces_of Gt numbers = combinational.operator operators.Greater
pieces_of Equal numbers = combinational.operator operators.Equal
pieces_of Neq numbers = combinational.operator operators.NotEqual
pieces_of Le numbers = combinational.operator operators.AtMost
pieces_of Ge numbers = combinational.operator operators.AtLeast
pieces_of Seq numbers = combinational.operator operators.Equal
pieces_of Sneq numbers = combinational.operator operators.NotEqual
pieces_of Slt numbers = combinational.signed operators.Less (slice_index numbers 0)
pieces_of Sgt numbers = combinational.signed operators.Greater (slice_index numbers 0)
pieces_of Sle numbers = combinational.signed operators.AtMost (slice_index numbers 0)
pieces_of Sge numbers = combinational.signed operators.AtLeast (slice_index numbers 0)
pieces_of Mux numbers = combinational.mux
pieces_of Reg numbers = clocked.register (slice_index numbers 0)
pieces_of StdMemD1 numbers = memory_pieces 1 numbers
pieces_of StdMemD2 numbers = memory_pieces 2 numbers
pieces_of StdMemD3 numbers = memory_pieces 3 numbers
pieces_of StdMemD4 numbers = memory_pieces 4 numbers
pieces_of CombMemD1 numbers = memory_pieces 1 numbers
pieces_of CombMemD2 numbers = memory_pieces 2 numbers
pieces_of CombMemD3 numbers = memory_pieces 3 numbers
pieces_of CombMemD4 numbers = memory_pieces 4 numbers
pieces_of SeqMemD1 numbers = sequential_pieces 1 numbers
pieces_of SeqMemD2 numbers = sequential_pieces 2 numbers
pieces_of SeqMemD3 numbers = sequential_pieces 3 numbers
pieces_of SeqMemD4 numbers = sequential_pieces 4 numbers
pieces_of MultPipe numbers = clocked.multiplier (slice_index numbers 0)
pieces_of DivPipe numbers = clocked.divider (slice_index numbers 0)
pieces_of Timer numbers = timer_pieces numbers

-- nothing happens at the edges of a module without registers and arrays
abbrev pub edge_of : Interior → Option PlainEdge
edge_of i = if length i.step == 0 then None else Some (record { reset = i.reset; step = i.step })

-- a module of these ports without instances
abbrev pub module_with : List ℕ → List PlainPort → Interior → PlainModule
module_with name ports i =
    record {
      name = name;
      ports = ports;
      decls = i.decls;
      assigns = i.assigns;
      instances = [];
      edge = edge_of i;
    }

-- the module of a primitive, under a name
abbrev pub module_of : PrimitiveRow → List ℕ → PlainModule
module_of p name = module_with name (ports_of (row_of p)) (made_of (pieces_of p.name p.numbers))
