-- Which widths are known of a component.
use Rattle.std.specs.Prelude.{◌≡◌, ℕ, Option, option_map, slice_get}
use Rattle.cx_prim.specs.Table.{PrimitiveRow, row_of}
use Rattle.cx_net.specs.Nets.{PlainNetTarget}
use Rattle.cx_static.specs.PlainLowered.{plain_lowered, plain_lowereds}
use Rattle.cx_wiring.specs.Wiring.{component_registers, plain_wires, target_width}
use Rattle.cx_fsm.specs.declared.widths.Widths.{Widths}

-- the widths are those of the registers and wires of the component
pub record KnowsWidths (w : Widths) : Type 0 where
  pub registers : w.registers.now ≡ component_registers (plain_lowered w.component.now)
  pub wires : w.wires.now ≡ plain_wires (plain_lowered w.component.now)

-- the width of a target
abbrev pub width_in : Widths → PlainNetTarget → ℕ
width_in w = target_width (plain_lowereds w.design.now) (plain_lowered w.component.now)

-- the width of a port of a primitive
abbrev pub primitive_width : PrimitiveRow → ℕ → Option ℕ
primitive_width primitive port = option_map (λ p. p.width) (slice_get (row_of primitive).ports port)
