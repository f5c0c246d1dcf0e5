-- The numbers of instances as they are given out, instance by instance.
use Rattle.std.specs.Prelude.{◌≡◌, ℕ, zero, suc, ◌+◌, ◌≤◌, List, [], ◌∷◌, set}
use Rattle.cx_meaning.specs.Designs.{PlainKind, OfPrimitive, OfComponent, PlainCell}
use Rattle.cx_text.specs.Members.{In}
use Rattle.cx_design_sizes.specs.declared.tallies.LimitTally.{LimitTally}
use Rattle.cx_state.specs.Steps.{instances_at}
use Rattle.cx_state.specs.declared.tables.InstanceRow.{InstanceRow}

-- the instances at cells
abbrev pub total : List LimitTally → List PlainCell → ℕ
total tallies [] = 0
total tallies (cell ∷ cells) = instances_at tallies cell.kind + total tallies cells

-- and at the cells before one
abbrev pub total_before : List LimitTally → List PlainCell → ℕ → ℕ
total_before tallies cells zero = 0
total_before tallies [] (suc c) = 0
total_before tallies (cell ∷ cells) (suc c) = instances_at tallies cell.kind + total_before tallies cells c

-- each component cell has an instance
abbrev pub HaveSome : List LimitTally → List PlainCell → Type 0
HaveSome tallies cells =
    (cell : PlainCell) (k : ℕ) → In cells cell → cell.kind ≡ OfComponent k
    → 1 ≤ instances_at tallies cell.kind

-- a number for each cell: that of the next instance
abbrev pub numbered : List LimitTally → List PlainCell → ℕ → List ℕ
numbered tallies [] next = []
numbered tallies (cell ∷ cells) next = next ∷ numbered tallies cells (next + instances_at tallies cell.kind)

-- the rows, with those of the instances at the cells of an instance, from its cell c on
abbrev pub row_placed : PlainKind → ℕ → ℕ → ℕ → List InstanceRow → List InstanceRow
row_placed (OfPrimitive p) number c next rows = rows
row_placed (OfComponent k) number c next rows =
    set rows next (record { component = k; parent = number; cell = c; first = 0 })

abbrev pub placed : List LimitTally → List PlainCell → ℕ → ℕ → ℕ → List InstanceRow → List InstanceRow
placed tallies [] number c next rows = rows
placed tallies (cell ∷ cells) number c next rows =
    placed tallies cells number (suc c) (next + instances_at tallies cell.kind)
    (row_placed cell.kind number c next rows)
