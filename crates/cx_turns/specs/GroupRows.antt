-- What is known of a group, and of the groups of a design.
use Rattle.std.specs.Prelude.{◌≡◌, ℕ, ◌<◌, All, List, Some, slice_get, length}
use Rattle.cx_meaning.specs.Designs.{PlainDesign}
use Rattle.cx_meaning.specs.Instances.{Instance, Path, part_of, instance_at, tree_of}
use Rattle.cx_meaning.specs.Calls.{called, captures}
use Rattle.cx_meaning.specs.Islands.{group_length}
use Rattle.cx_meaning.specs.Control.{group_drives}
use Rattle.cx_rules.specs.Ports.{component_of}
use Rattle.cx_state.specs.declared.tables.InstanceRow.{InstanceRow}
use Rattle.cx_state.specs.Tables.{IsNumber, row_at}
use Rattle.cx_eval_cycle.specs.Passes.{listed_in, IsAscending}
use Rattle.cx_turns.specs.declared.tables.GroupRow.{GroupRow}
use Rattle.cx_turns.specs.declared.tables.GroupTable.{GroupTable}

-- the cells of which a group drives a port, in order, the component cell that it calls, whether it captures, and the cycles
-- of a static group
pub record IsGroup (i : Instance) (g : ℕ) (row : GroupRow) : Type 0 where
  pub cells : (c : ℕ) → listed_in row.cells.items c ≡ group_drives (part_of i) g c
  pub ascending : IsAscending row.cells.items
  pub within : All (λ c. c < length (part_of i).cells) row.cells.items
  pub callee : row.callee ≡ called i g
  pub captures : row.captures ≡ captures i g
  pub length : row.length ≡ group_length (part_of i) g

-- a row for each group of an instance, which is that of the group
abbrev pub AreRows : Instance → List GroupRow → Type 0
AreRows i rows = (g : ℕ) (row : GroupRow) → slice_get rows g ≡ Some row → IsGroup i g row

pub record IsTableOf (i : Instance) (table : GroupTable) : Type 0 where
  pub count : length table.rows.items ≡ length (part_of i).groups
  pub right : AreRows i table.rows.items

-- a table for each component
abbrev pub AreRight : PlainDesign → List GroupTable → Type 0
AreRight d tables = (k : ℕ) (table : GroupTable) → slice_get tables k ≡ Some table → IsTableOf (component_of d k) table

pub record AreTables (d : PlainDesign) (tables : List GroupTable) : Type 0 where
  pub count : length tables ≡ length d.components
  pub right : AreRight d tables

-- a table for each component, and in it a row for each group, which is that of the group in each of its instances
pub record AreGroups (d : PlainDesign) (rows : List InstanceRow) (tables : List GroupTable) : Type 0 where
  pub count : length tables ≡ length d.components
  pub each : (n : ℕ) (path : Path) (table : GroupTable) → IsNumber d n path
      → slice_get tables (row_at rows n).component ≡ Some table
      → length table.rows.items ≡ length (part_of (instance_at (tree_of d) path)).groups
  pub right : (n g : ℕ) (path : Path) (table : GroupTable) (row : GroupRow) → IsNumber d n path
      → slice_get tables (row_at rows n).component ≡ Some table → slice_get table.rows.items g ≡ Some row
      → IsGroup (instance_at (tree_of d) path) g row
