-- The cells of a component of a design: how many there are, and what their outputs read.
use Rattle.std.proofs.Common.{◌≡◌, ◌<◌, ℕ, zero, suc, List, [], ◌∷◌, length, ap, subst, arith}
use Rattle.cx_prim.specs.Rows.{Row}
use Rattle.cx_meaning.specs.Designs.{PlainKind, OfPrimitive, OfComponent, PlainCell, PlainDesign, component_at}
use Rattle.cx_meaning.specs.Instances.{Instance, Cells, At, Nothing, OfRow, OfInstance, cells_of, cell_at, cell_count, add_cell, cells_for, tree_within}
use Rattle.cx_meaning.proofs.CycleLemmas.{count_for}
use Rattle.cx_rules.specs.Ports.{component_of}
use Rattle.cx_design_parts.specs.Outputs.{ReadsFirst}
use Rattle.cx_design_parts.proofs.OutputLemmas.{row_of-reads_first}

pub component_cells : (d : PlainDesign) (k : ℕ) → k < length d.components → cell_count (cells_of (component_of d k)) ≡ length (component_at d k).cells
component_cells d k h = choice (length d.components) h
  where
    choice : (n : ℕ) → k < n → cell_count (cells_of (tree_within d n k)) ≡ length (component_at d k).cells
    choice zero h = absurd (omega (arith, h))
    choice (suc n) h = count_for (tree_within d n) (component_at d k).cells

-- the outputs of each primitive read its first inputs
abbrev pub AllRead : Cells → Type 0
AllRead cells = (c : ℕ) (row : Row) → cell_at cells c ≡ OfRow row → ReadsFirst row

abbrev pub row_or : Row → At → Row
row_or other Nothing = other
row_or other (OfRow row) = row
row_or other (OfInstance child) = other

add_reads : (child : ℕ → Instance) (kind : PlainKind) (rest : Cells) → AllRead rest → AllRead (add_cell child kind rest)
add_reads child (OfPrimitive p) rest h zero row e = subst ReadsFirst (ap (row_or row) e) (row_of-reads_first p)
add_reads child (OfPrimitive p) rest h (suc c) row e = h c row e
add_reads child (OfComponent k) rest h zero row e = absurd (cc)
add_reads child (OfComponent k) rest h (suc c) row e = h c row e

for_reads : (child : ℕ → Instance) (cells : List PlainCell) → AllRead (cells_for child cells)
for_reads child [] c row e = absurd (cc)
for_reads child (cell ∷ cells) c row e = add_reads child cell.kind (cells_for child cells) (for_reads child cells) c row e

pub all_read : (d : PlainDesign) (n k : ℕ) → AllRead (cells_of (tree_within d n k))
all_read d zero k c row e = absurd (cc)
all_read d (suc n) k c row e = for_reads (tree_within d n) (component_at d k).cells c row e
