-- The nodes of the first ports of the cells of instances.
use Rattle.std.specs.Prelude.{◌≡◌, ℕ, List, Option, Some, None, length, slice_get}
use Rattle.std.specs.declared.vec.Vec.{Vec}
use Rattle.cx_meaning.specs.declared.ports.PortRef.TheVariants.{Cell}
use Rattle.cx_meaning.specs.Designs.{PlainDesign, component_at}
use Rattle.cx_state.specs.declared.tables.InstanceRow.{InstanceRow}
use Rattle.cx_state.specs.Tables.{row_at}
use Rattle.cx_eval_network.specs.Nodes.{node_at}

abbrev pub or_zero : Option ℕ → ℕ
or_zero None = 0
or_zero (Some n) = n

-- the nodes of the first ports of so many cells of an instance, by the numbers of these; 0 for a cell that has no port
pub record AreFirsts (d : PlainDesign) (rows : List InstanceRow) (n count : ℕ) (firsts : List ℕ) : Type 0 where
  pub sized : length firsts ≡ count
  pub each : (c first : ℕ) → slice_get firsts c ≡ Some first → first ≡ or_zero (node_at d rows n (Cell c 0))

-- those of all cells of each instance
pub record HaveFirsts {A : Type 0} (d : PlainDesign) (rows : List InstanceRow) (firsts : List (Vec ℕ A)) : Type 0 where
  pub count : length firsts ≡ length rows
  pub each : (n : ℕ) (own : Vec ℕ A) → slice_get firsts n ≡ Some own
      → AreFirsts d rows n (length (component_at d (row_at rows n).component).cells) own.items
