-- States of an instance tree and of a tree whose cells have other numbers: the same in every cell that counts.
use Rattle.std.specs.Prelude.{◌≡◌, ℕ, zero, suc, Bool, true, false, [], ◌∷◌}
use Rattle.cx_prim.specs.Rows.{Row}
use Rattle.cx_meaning.specs.Designs.{PlainComponent}
use Rattle.cx_meaning.specs.Instances.{Instance, Node, Cells, no_cells, a_primitive, an_instance, OfRow, OfInstance, cell_at, cells_of, Path, State}

-- where a cell is, by the new numbers of the cells of each component
module _ (number : PlainComponent → ℕ → ℕ) where
  abbrev mutual
    pub renumbered : Instance → Path → Path
    renumbered (Node part cells) [] = []
    renumbered (Node part cells) (c ∷ path) = number part c ∷ renumbered_below cells c path

    pub renumbered_below : Cells → ℕ → Path → Path
    renumbered_below no_cells c path = path
    renumbered_below (a_primitive row rest) zero path = path
    renumbered_below (a_primitive row rest) (suc c) path = renumbered_below rest c path
    renumbered_below (an_instance child rest) zero path = renumbered child path
    renumbered_below (an_instance child rest) (suc c) path = renumbered_below rest c path

-- a primitive cell whose row counts
module _ (counts : Row → Bool) where
  abbrev mutual
    pub holds : Instance → Path → Bool
    holds (Node part cells) [] = false
    holds (Node part cells) (c ∷ path) = holds_below cells c path

    pub holds_below : Cells → ℕ → Path → Bool
    holds_below no_cells c path = false
    holds_below (a_primitive row rest) zero [] = counts row
    holds_below (a_primitive row rest) zero (e ∷ path) = false
    holds_below (a_primitive row rest) (suc c) path = holds_below rest c path
    holds_below (an_instance child rest) zero path = holds child path
    holds_below (an_instance child rest) (suc c) path = holds_below rest c path

module _ (number : PlainComponent → ℕ → ℕ) (counts : Row → Bool) where
  -- THE SAME STATES of all cells that count
  abbrev pub Stands : Instance → State → State → Type 0
  Stands i s z = (path : Path) → holds counts i path ≡ true → z (renumbered number i path) ≡ s path

  -- at the new number of each cell, from cell c on, stands its row, if it counts, or a child that is renumbered so
  abbrev mutual
    pub IsRenumbered : Instance → Instance → Type 0
    IsRenumbered (Node part cells) j = AreRenumbered part cells 0 j

    pub AreRenumbered : PlainComponent → Cells → ℕ → Instance → Type 0
    AreRenumbered part no_cells c j = Unit {0}
    AreRenumbered part (a_primitive row rest) c j =
        (counts row ≡ true → cell_at (cells_of j) (number part c) ≡ OfRow row)
        × AreRenumbered part rest (suc c) j
    AreRenumbered part (an_instance child rest) c j =
        ((twin : Instance) × (cell_at (cells_of j) (number part c) ≡ OfInstance twin) ×
        IsRenumbered child twin) × AreRenumbered part rest (suc c) j
