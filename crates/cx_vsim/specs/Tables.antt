-- The instances of a source with their places and codes.
use Rattle.std.specs.Prelude.{◌≡◌, ℕ, ◌+◌, ◌<◌, ◌^◌, List, [], Some, length, map, slice_get}
use Rattle.std.specs.Option.{option_map_or}
use Rattle.cx_vtree.specs.Plain.{PlainExpr}
use Rattle.cx_vtree.specs.InstanceTree.{Placed, nets_at, arrays_at}
use Rattle.cx_vnets.specs.declared.codes.Code.{Code}
use Rattle.cx_vtree.specs.NameNumbers.{position}
use Rattle.cx_vnets.specs.Numberings.{nets_by, arrays_by}
use Rattle.cx_velab.specs.Rows.{placed_of}
use Rattle.cx_vnets.specs.Flat.{CodeStands}
use Rattle.cx_velab.specs.Tables.{all_places}
use Rattle.cx_velab.specs.Coded.{module_exprs}
use Rattle.cx_velab.specs.declared.parts.ModulePart.{ModulePart}
use Rattle.cx_velab.specs.Parts.{PartsStand}
use Rattle.cx_vsim.specs.declared.tables.Table.{Table}

abbrev pub tree_of : Table → List Placed
tree_of t = map placed_of t.rows.items

-- each instance has its place and its part
pub record TableStands (t : Table) : Type 0 where
  pub places : t.places.items ≡ all_places (tree_of t) (length t.rows.items)
  pub parts : PartsStand (tree_of t) t.codes.items t.parts.list.items t.parts.of_rows.items
  pub small : length t.codes.items < 2 ^ 32

-- all expressions of the module of an instance
abbrev pub exprs_at : List Placed → ℕ → List PlainExpr
exprs_at tree i = option_map_or (λ p. module_exprs p.part) (slice_get tree i) []

-- the numbers of an instance's names, and the codes of its expressions from the first one on
pub record IsPartOf (tree : List Placed) (codes : List Code) (i : ℕ) (x : ModulePart) : Type 0 where
  pub nets : nets_by x.numbers ≡ position (nets_at tree i)
  pub arrays : arrays_by x.numbers ≡ position (arrays_at tree i)
  pub coded : (j : ℕ) (e : PlainExpr) → slice_get (exprs_at tree i) j ≡ Some e → CodeStands tree codes i (x.first + j) e
  pub small : x.first + length (exprs_at tree i) < 2 ^ 32
