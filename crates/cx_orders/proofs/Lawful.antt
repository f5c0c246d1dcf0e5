-- The instances of an accepted design keep the laws.
use Rattle.std.proofs.Common.{ℕ, zero, suc, [], ◌∷◌}
use Rattle.cx_prim.specs.Rows.{Row}
use Rattle.cx_meaning.specs.Instances.{Instance, Node, Cells, no_cells, a_primitive, an_instance, Path, instance_at, child_at}
use Rattle.cx_meaning.specs.Laws.{AllRows, AllRowsBelow}

mutual
  pub rows_at : (P : Row → Type 0) (i : Instance) → AllRows P i → (path : Path) → AllRows P (instance_at i path)
  rows_at P (Node part cells) h [] = h
  rows_at P (Node part cells) h (c ∷ path) = rows_below P cells h c path

  rows_below : (P : Row → Type 0) (cells : Cells) → AllRowsBelow P cells → (c : ℕ) (path : Path) → AllRows P (child_at cells c path)
  rows_below P no_cells h c path = tt
  rows_below P (a_primitive row rest) (one, h) zero path = tt
  rows_below P (a_primitive row rest) (one, h) (suc c) path = rows_below P rest h c path
  rows_below P (an_instance child rest) (one, h) zero path = rows_at P child one path
  rows_below P (an_instance child rest) (one, h) (suc c) path = rows_below P rest h c path
