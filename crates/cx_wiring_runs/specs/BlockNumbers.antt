-- Where the state of a net has the numbers of a component: its place in register 0, those of arms and rounds in registers, and of an
-- island as it is said of it.
use Rattle.std.specs.Prelude.{ℕ, zero, suc, []}
use Rattle.cx_meaning.specs.Designs.{PlainComponent}
use Rattle.cx_meaning.specs.Instances.{Instance, Node}
use Rattle.cx_control.specs.Leaves.{leaf_machines}
use Rattle.cx_control.specs.Controls.{coded_below, leaf_codings}
use Rattle.cx_net.specs.NetMeaning.{NetState}
use Rattle.cx_static.specs.Lowering.{lowered_component, unlowered}
use Rattle.cx_wiring_cycles.specs.Shown.{number_of}

module _ (of_island : PlainComponent → NetState → ℕ → ℕ → ℕ → ℕ) where
  abbrev pub component_numbers : Instance → NetState → ℕ → ℕ
  component_numbers (Node part cells) v zero = v.register [] 0
  component_numbers (Node part cells) v (suc n) =
      number_of (leaf_machines (Node part cells) (coded_below cells))
      (leaf_codings (Node part cells) (coded_below cells)) part (lowered_component part).islands
      (v.register []) (of_island part v)
      part.control (unlowered part) 1 n
