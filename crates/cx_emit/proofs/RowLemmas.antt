-- The external memories of a source are those of the main component of its net.
use Rattle.std.proofs.Common.{◌≡◌, ℕ, zero, suc, true, false, List, [], ◌∷◌, ◌++◌, slice_get, get_or, if◌then◌else◌, refl, ap}
use Rattle.cx_meaning.specs.Designs.{PlainCell}
use Rattle.cx_rules.specs.Externals.{row_for, if_external, rows_of}
use Rattle.cx_vtree.specs.PlainParts as text
use Rattle.cx_net.specs.Nets.{PlainNetComponent, PlainNet}
use Rattle.cx_net.specs.NetTree.{no_net_component, net_component_at}
use Rattle.cx_emit.specs.Numbered.{lists_from}
use Rattle.cx_emit.specs.Sources.{external_of, cell_externals, externals_at, source_of}

rows_of-externals : (n : ℕ) (cells : List PlainCell) → text.rows_of (lists_from cell_externals n cells) ≡ rows_of cells
rows_of-externals n [] = refl
rows_of-externals n (cell ∷ cells) =
    elim cell.external as (λ b. text.rows_of ((if b then external_of n cell ∷ [] else []) ++ lists_from cell_externals (suc n) cells) ≡ if_external b cell (rows_of cells)) [
      | true ↦ ap (λ rows. row_for cell ∷ rows) (rows_of-externals (suc n) cells)
      | false ↦ rows_of-externals (suc n) cells
    ]

rows_of-externals_at : (parts : List PlainNetComponent) (k : ℕ) → text.rows_of (externals_at (slice_get parts k)) ≡ rows_of (get_or parts k no_net_component).cells
rows_of-externals_at [] k = refl
rows_of-externals_at (part ∷ parts) zero = rows_of-externals 0 part.cells
rows_of-externals_at (part ∷ parts) (suc k) = rows_of-externals_at parts k

-- the external memories of a source, in their order
pub rows_of-source_of : (net : PlainNet) → text.rows_of (source_of net).externals ≡ rows_of (net_component_at net net.main).cells
rows_of-source_of net = rows_of-externals_at net.components net.main
