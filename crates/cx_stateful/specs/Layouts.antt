-- The row of a memory of a layout.
use Rattle.std.specs.Prelude.{ℕ, List, take}
use Rattle.cx_prim.specs.Rows.{Row}
use Rattle.cx_stateful.specs.declared.layout.Layout.{Layout}

-- a row at the width, the sizes and the address widths of a layout
abbrev pub row_at_layout : (ℕ → List ℕ → List ℕ → Row) → Layout → Row
row_at_layout make layout =
    make layout.width (take layout.dimensions layout.sizes) (take layout.dimensions layout.address_widths)
