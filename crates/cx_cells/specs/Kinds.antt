-- The row of each kind of primitive, and its states as plain data.
use Rattle.std.specs.Prelude.{◌≡◌, ℕ, List, take, Option, Some, option_map}
use Rattle.cx_prim.specs.CellStates as plain
use Rattle.cx_prim.specs.Rows.{Row, IsLawful}
use Rattle.cx_prim.specs.CombinationalRows.{constant_row, unary_row, binary_row, mux_row}
use Rattle.cx_prim.specs.Operators.{apply_unary, binary_out_width, apply_binary}
use Rattle.cx_prim.specs.OperatorWidths.{constant_lawful, unary_lawful, binary_lawful, mux_lawful}
use Rattle.cx_prim.specs.RegisterRow.{register_row}
use Rattle.cx_prim.proofs.RegisterLaws.{register_lawful}
use Rattle.cx_prim.specs.MemoryRows.{memory_row, sequential_memory_row}
use Rattle.cx_prim.proofs.MemoryLaws.{memory_lawful, sequential_lawful}
use Rattle.cx_prim.specs.PipeRows.{multiplier_row, divider_row, timer_row}
use Rattle.cx_prim.proofs.PipeLaws.{multiplier_lawful, divider_lawful, timer_lawful}
use Rattle.cx_cells.specs.declared.kinds.Kind.{Kind}
use Rattle.cx_cells.specs.declared.kinds.Kind.TheVariants as kinds
use Rattle.cx_cells.specs.declared.kinds.KindState.{KindState}
use Rattle.cx_cells.specs.declared.kinds.KindState.TheVariants as states
use Rattle.cx_stateful.specs.Layouts.{row_at_layout}
use Rattle.cx_stateful.specs.Shown.{register_shown, memory_shown, sequential_shown, multiplier_shown, divider_shown, timer_shown}

abbrev pub kind_row : Kind → Row
kind_row (kinds.Constant p) = constant_row p.width p.value
kind_row (kinds.Unary p) = unary_row p.width p.out_width (apply_unary p.operator p.out_width)
kind_row (kinds.Binary p) = binary_row p.width (binary_out_width p.operator p.width) (apply_binary p.operator)
kind_row (kinds.Mux p) = mux_row p.width
kind_row (kinds.Register p) = register_row p.width
kind_row (kinds.Memory p) = row_at_layout memory_row p.layout
kind_row (kinds.Sequential p) = row_at_layout sequential_memory_row p.layout
kind_row (kinds.Multiplier p) = multiplier_row p.width
kind_row (kinds.Divider p) = divider_row p.width
kind_row (kinds.Timer p) = timer_row p.length

abbrev pub state_shown : KindState → plain.CellState
state_shown (states.Stateless s) = plain.Stateless
state_shown (states.Register s) = register_shown s
state_shown (states.Memory s) = memory_shown s
state_shown (states.Sequential s) = sequential_shown s
state_shown (states.Multiplier s) = multiplier_shown s
state_shown (states.Divider s) = divider_shown s
state_shown (states.Timer s) = timer_shown s

-- the row of each kind keeps the laws
pub kind_lawful : (k : Kind) → IsLawful (kind_row k)
kind_lawful (kinds.Constant p) = constant_lawful p.width p.value p.within
kind_lawful (kinds.Unary p) = unary_lawful p.operator p.width p.out_width p.within
kind_lawful (kinds.Binary p) = binary_lawful p.operator p.width
kind_lawful (kinds.Mux p) = mux_lawful p.width
kind_lawful (kinds.Register p) = register_lawful p.width p.within
kind_lawful (kinds.Memory p) =
    memory_lawful p.layout.width (take p.layout.dimensions p.layout.sizes)
    (take p.layout.dimensions p.layout.address_widths) p.layout.within
kind_lawful (kinds.Sequential p) =
    sequential_lawful p.layout.width (take p.layout.dimensions p.layout.sizes)
    (take p.layout.dimensions p.layout.address_widths) p.layout.within
kind_lawful (kinds.Multiplier p) = multiplier_lawful p.width p.within
kind_lawful (kinds.Divider p) = divider_lawful p.width p.within
kind_lawful (kinds.Timer p) = timer_lawful p.length p.some p.few
