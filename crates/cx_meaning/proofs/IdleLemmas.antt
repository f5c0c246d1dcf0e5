-- Every primitive cell of a design's tree has a row that keeps its idle edge.
use Rattle.std.specs.Prelude.{ℕ, zero, suc, List, [], ◌∷◌}
use Rattle.cx_prim.specs.Table.{PrimitiveRow, row_of}
use Rattle.cx_prim.proofs.TableLaws.{row_of_lawful}
use Rattle.cx_meaning.specs.Rows.{KeepsIdle}
use Rattle.cx_meaning.specs.Designs.{PlainKind, OfPrimitive, OfComponent, PlainCell, PlainDesign, component_at}
use Rattle.cx_meaning.specs.Instances.{Instance, Cells, add_cell, cells_for, tree_within}
use Rattle.cx_meaning.specs.Laws.{AllRows, AllRowsBelow}

-- every row of the table keeps its idle edge
pub keeps_idle : (p : PrimitiveRow) → KeepsIdle (row_of p)
keeps_idle p = record { once = (row_of_lawful p).idle_once; starts_settled = (row_of_lawful p).starts_settled }

-- and so does every cell of a design's tree
kept_cell : (child : ℕ → Instance) → ((k : ℕ) → AllRows KeepsIdle (child k)) → (kind : PlainKind) (rest : Cells) → AllRowsBelow KeepsIdle rest → AllRowsBelow KeepsIdle (add_cell child kind rest)
kept_cell child h (OfPrimitive p) rest kept = (keeps_idle p, kept)
kept_cell child h (OfComponent k) rest kept = (h k, kept)

kept_below : (child : ℕ → Instance) → ((k : ℕ) → AllRows KeepsIdle (child k)) → (cells : List PlainCell) → AllRowsBelow KeepsIdle (cells_for child cells)
kept_below child h [] = tt
kept_below child h (cell ∷ cells) = kept_cell child h cell.kind (cells_for child cells) (kept_below child h cells)

pub kept_within : (d : PlainDesign) (n k : ℕ) → AllRows KeepsIdle (tree_within d n k)
kept_within d zero k = tt
kept_within d (suc n) k = kept_below (tree_within d n) (kept_within d n) (component_at d k).cells
