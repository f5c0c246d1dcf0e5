-- The instances of an evaluator's design, by their components.
use Rattle.std.proofs.Common.{◌≡◌, ℕ, zero, suc, ◌<◌, ◌≤◌, ◌^◌, List, length, refl, ap, ◌∙◌, arith}
use Rattle.cx_meaning.specs.Designs.{PlainDesign, component_at}
use Rattle.cx_meaning.specs.Instances.{Instance, Path, cells_for, cells_of, instance_at, part_of, paths_of, tree_of, tree_within}
use Rattle.cx_rules.specs.Accepted.{IsAccepted}
use Rattle.cx_rules.specs.Ports.{component_of}
use Rattle.cx_rules.specs.Sizes.{instances_below}
use Rattle.cx_rules.specs.Wellformed.{IsDesign}
use Rattle.cx_rules.specs.Flat.{IsFlat}
use Rattle.cx_state.proofs.TreeLemmas.{count_paths}
use Rattle.cx_state.specs.declared.tables.InstanceRow.{InstanceRow}
use Rattle.cx_state.specs.Tables.{IsNumber, IsTable, row_at}
use Rattle.cx_state.proofs.TableLemmas.{few_instances}
use Rattle.cx_text.proofs.ListLaws.{there_below}
use Rattle.cx_rules.proofs.SizesLemmas.{few as part_few}
use Rattle.cx_rules.proofs.PortsLemmas.{part_is as component_part}

pub cells_few : (d : PlainDesign) (k : ℕ) → IsDesign d → length (component_at d k).cells < 2 ^ 32
cells_few d k design = let few = part_few d.components k in let all = design.few_parts in omega (arith, few, all)

pub number_few : (d : PlainDesign) (n : ℕ) → IsFlat d → IsAccepted d → n < length (paths_of (tree_of d)) → n < 2 ^ 32
number_few d n flat accepted lt =
    let all : length (paths_of (tree_of d)) ≡ instances_below (tree_of d) = count_paths (tree_of d) in
    let few : instances_below (tree_of d) ≤ 4096 = few_instances d flat accepted.limits in
    omega (arith, all, few, lt)

-- a component's cells in the tree
record HasCells (d : PlainDesign) (k : ℕ) : Type 0 where
  child : ℕ → Instance
  cells : cells_of (component_of d k) ≡ cells_for child (component_at d k).cells

has_cells : (d : PlainDesign) (k : ℕ) → k < length d.components → HasCells d k
has_cells d k lt = choice (length d.components) refl lt
  where
    choice : (n : ℕ) → length d.components ≡ n → k < n → HasCells d k
    choice zero e lt = absurd (omega arith)
    choice (suc n) e lt = record { child = tree_within d n; cells = ap (λ m. cells_of (tree_within d m k)) e }

module _ (d : PlainDesign) (rows : List InstanceRow) (children : List ℕ) (table : IsTable d rows children) (n : ℕ) (path : Path) (number : IsNumber d n path) where
  abbrev k : ℕ
  k = (row_at rows n).component

  pub in_rows : n < length rows
  in_rows = let lt = there_below (paths_of (tree_of d)) n path number in let many = table.count in omega (arith, lt, many)

  pub part_is : part_of (instance_at (tree_of d) path) ≡ component_at d k
  part_is = ap part_of (table.component n path number) ∙ component_part d k

  pub record HasOwnCells : Type 0 where
    pub child : ℕ → Instance
    pub cells : cells_of (instance_at (tree_of d) path) ≡ cells_for child (component_at d k).cells

  pub own_cells : HasOwnCells
  own_cells = let h = has_cells d k (table.there n in_rows) in record { child = h.child; cells = ap cells_of (table.component n path number) ∙ h.cells }
