use Rattle.std.proofs.Common.{◌≡◌, ◌<◌, ◌≤◌, ℕ, Some, get_or, length}
use Rattle.std.specs.List.{slice_get}
use Rattle.cx_meaning.specs.Designs.{OfComponent}
use Rattle.cx_design.specs.declared.cells.Cell.{Cell}
use Rattle.cx_design.specs.PlainForms.{plain_kind}
use Rattle.cx_flat.proofs.lasts.raised.Given as goal

abbrev pub invariant-loop-cell : goal.invariant-loop-cell
invariant-loop-cell l = record {
  sized : length l.all.items ≡ length l.fn.lasts.items;
  more : (j : ℕ) → get_or l.fn.lasts.items j 0 ≤ get_or l.all.items j 0;
  least : (n j : ℕ) (cell : Cell) → n < l.cell-index → slice_get l.cells n ≡ Some cell → plain_kind cell.kind ≡ OfComponent j
      → j < length l.fn.lasts.items → l.last ≤ get_or l.all.items j 0;
}
