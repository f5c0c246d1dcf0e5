-- PROMOTABLE GROUPS ARE SHORT: no primitive takes more cycles than the greatest width.
use Rattle.std.proofs.Common.{◌≡◌, ◌≤◌, ℕ, ◌&&◌, not, Bool, true, false, List, [], ◌∷◌, Option, Some, None, filter, refl, subst, arith, if◌then◌else◌}
use Rattle.cx_text.proofs.OptionLaws.{none_some, same_some}
use Rattle.cx_prim.specs.Rows.{Row}
use Rattle.cx_prim.specs.Table.{PrimitiveRow, row_of}
use Rattle.cx_prim.proofs.TableCases.{of_row}
use Rattle.cx_meaning.specs.declared.ports.PortRef.{PortRef}
use Rattle.cx_meaning.specs.declared.ports.PortRef.TheVariants as ports
use Rattle.cx_meaning.specs.Designs.{PlainAssign, PlainGroup, PlainDesign}
use Rattle.cx_meaning.specs.Instances.{Instance, Cells, At, Nothing, OfRow, OfInstance, cell_at, cells_of, tree_within}
use Rattle.cx_rules.specs.Items.{is_plain}
use Rattle.cx_rules.specs.Ports.{component_of, is_part_port}
use Rattle.cx_rules.specs.ShapeRules.{is_hole, some_target}
use Rattle.cx_rules.specs.CallShape.{is_always}
use Rattle.cx_promotion.specs.Promotable.{cycles_of, keeps_all, length_if, of_cell, of_source, of_dones, promotable}
use Rattle.cx_promotion.proofs.Trees.{rows_within}

-- at most so many, where there are any
abbrev pub Few : Option ℕ → Type 0
Few cycles = (n : ℕ) → cycles ≡ Some n → n ≤ 128

none_few : Few None
none_few n e = absurd (none_some n e)

some_few : (m : ℕ) → m ≤ 128 → Few (Some m)
some_few m few n e = subst (λ k. k ≤ 128) (same_some m n e) few

chosen_few : (b : Bool) (cycles : Option ℕ) → Few cycles → Few (if b then cycles else None)
chosen_few true cycles few = few
chosen_few false cycles few = none_few

-- ROWS of the table
abbrev IsShort : Row → Type 0
IsShort row = Few (cycles_of row.shape)

row_short : (p : PrimitiveRow) → IsShort (row_of p)
row_short = of_row IsShort (record {
  none = none_few;
  constant = λ w v fits. none_few;
  unary = λ operator w v is. none_few;
  binary = λ operator w is. none_few;
  mux = λ w is. none_few;
  register = λ w is. some_few 1 (omega arith);
  memory = λ w sizes address_widths layout. some_few 1 (omega arith);
  sequential = λ w sizes address_widths layout. some_few 1 (omega arith);
  multiplier = λ w is. some_few 3 (omega arith);
  divider = λ w is. some_few w is.few_bits;
  timer = λ m some few. none_few;
})

abbrev AllShort : Cells → Type 0
AllShort cells = (c : ℕ) (row : Row) → cell_at cells c ≡ OfRow row → IsShort row

within_short : (d : PlainDesign) (m k : ℕ) → AllShort (cells_of (tree_within d m k))
within_short d m k c row e = let known = rows_within d m k c row e in subst IsShort known.1 (row_short known.0)

-- GROUPS
module _ (i : Instance) (short : AllShort (cells_of i)) (x : PlainGroup) where
  if_few : (c p : ℕ) (row : Row) (b : Bool) → IsShort row → Few (length_if i x c p row b)
  if_few c p row true few = few
  if_few c p row false few = none_few

  cell_few : (c p : ℕ) (at : At) → cell_at (cells_of i) c ≡ at → Few (of_cell i x c p at)
  cell_few c p Nothing e = none_few
  cell_few c p (OfRow row) e = if_few c p row (keeps_all i x c p row) (short c row e)
  cell_few c p (OfInstance child) e = none_few

  source_few : (port : PortRef) → Few (of_source i x port)
  source_few (ports.Cell c p) = cell_few c p (cell_at (cells_of i) c) refl
  source_few (ports.Input n) = none_few
  source_few (ports.Output n) = none_few
  source_few (ports.Done g) = none_few
  source_few (ports.Literal w v) = none_few

  dones_few : (list : List PlainAssign) → Few (of_dones i x list)
  dones_few [] = none_few
  dones_few (a ∷ []) = chosen_few (is_always a.guard) (of_source i x a.source.port) (source_few a.source.port)
  dones_few (a ∷ b ∷ rest) = none_few

  cycles_few : Few (promotable i x)
  cycles_few = chosen_few (is_plain x.kind && not (some_target (is_part_port i) x.assigns)) _ (dones_few (filter (λ a. is_hole a.target) x.assigns))

-- each group of a design
pub promotable_few : (d : PlainDesign) (k : ℕ) (x : PlainGroup) → Few (promotable (component_of d k) x)
promotable_few d k x = cycles_few (component_of d k) (within_short d _ k) x
