-- The words of the external memories of a design have widths of a data file.
use Rattle.std.proofs.Common.{◌≡◌, ℕ, zero, suc, ◌≤◌, Bool, true, false, List, [], ◌∷◌, None, All, map, inl, inr, refl, sym, subst, arith}
use Rattle.std.proofs.Math.Logic.{∥∥₁_elim}
use denote.Struct.Props.{props}
use Rattle.std.specs.Prelude.{IsSome}
use Rattle.std.proofs.lemmas.List.Elements.{All-nil, All-cons}
use Rattle.cx_bits.specs.Operators.{sum_of, difference_of, and_of, or_of, xor_of, complement_of, left_shift_of, right_shift_of, less_bit_of, equal_bit_of, signed_less_bit_of}
use Rattle.cx_text.specs.Loading.{PlainRow, PlainMemory, FitsRows}
use Rattle.cx_data.specs.Widths.{HasWordWidth}
use Rattle.cx_prim.specs.declared.names.PrimitiveName.{PrimitiveName}
use Rattle.cx_prim.specs.declared.names.PrimitiveName.TheVariants as names
use Rattle.cx_prim.specs.Rows.{Row}
use Rattle.cx_prim.specs.CombinationalRows.{unary_row, binary_row, mux_row, greater_bit_of, unequal_bit_of, at_most_bit_of, at_least_bit_of, signed_greater_bit_of, signed_at_most_bit_of, signed_at_least_bit_of}
use Rattle.cx_prim.specs.RegisterRow.{register_row}
use Rattle.cx_prim.specs.MemoryRows.{memory_row, sequential_memory_row}
use Rattle.cx_prim.specs.PipeRows.{multiplier_row, divider_row}
use Rattle.cx_prim.specs.Table.{PrimitiveRow, HasRow, at_width, constant_at, slice_at, pad_at, memory_at, timer_at, row_at}
use Rattle.cx_meaning.specs.Designs.{PlainKind, OfPrimitive, OfComponent, PlainCell, PlainDesign, component_at}
use Rattle.cx_text.specs.Members.{In}
use Rattle.cx_rules.specs.Wellformed.{IsDesign, IsCell, IsKind, IsExternal, first_number}
use Rattle.cx_rules.specs.Externals.{numbers_of, row_for, if_external, rows_of, external_rows}

-- a primitive whose first number is 0 or is not there has no row
at_width_none : (make : ℕ → Row) (numbers : List ℕ) → first_number numbers ≡ 0 → at_width make numbers ≡ None
at_width_none make [] e = refl
at_width_none make (zero ∷ []) e = refl
at_width_none make (suc n ∷ []) e = absurd (cc)
at_width_none make (n ∷ m ∷ rest) e = refl

constant_none : (numbers : List ℕ) → first_number numbers ≡ 0 → constant_at numbers ≡ None
constant_none [] e = refl
constant_none (n ∷ []) e = refl
constant_none (zero ∷ value ∷ []) e = refl
constant_none (suc n ∷ value ∷ []) e = absurd (cc)
constant_none (n ∷ value ∷ m ∷ rest) e = refl

slice_none : (numbers : List ℕ) → first_number numbers ≡ 0 → slice_at numbers ≡ None
slice_none [] e = refl
slice_none (n ∷ []) e = refl
slice_none (zero ∷ low ∷ []) e = refl
slice_none (suc n ∷ low ∷ []) e = absurd (cc)
slice_none (n ∷ low ∷ m ∷ rest) e = refl

pad_none : (numbers : List ℕ) → first_number numbers ≡ 0 → pad_at numbers ≡ None
pad_none [] e = refl
pad_none (n ∷ []) e = refl
pad_none (zero ∷ wide ∷ []) e = refl
pad_none (suc n ∷ wide ∷ []) e = absurd (cc)
pad_none (n ∷ wide ∷ m ∷ rest) e = refl

memory_none : (dimensions : ℕ) (make : ℕ → List ℕ → List ℕ → Row) (numbers : List ℕ) → first_number numbers ≡ 0 → memory_at dimensions make numbers ≡ None
memory_none dimensions make [] e = refl
memory_none dimensions make (zero ∷ rest) e = refl
memory_none dimensions make (suc n ∷ rest) e = absurd (cc)

timer_none : (numbers : List ℕ) → first_number numbers ≡ 0 → timer_at numbers ≡ None
timer_none [] e = refl
timer_none (zero ∷ []) e = refl
timer_none (suc n ∷ []) e = absurd (cc)
timer_none (n ∷ m ∷ rest) e = refl

row_none : (name : PrimitiveName) (numbers : List ℕ) → first_number numbers ≡ 0 → row_at name numbers ≡ None
row_none names.Const numbers e = constant_none numbers e
row_none names.Wire numbers e = at_width_none (λ w. unary_row w w (λ a. a)) numbers e
row_none names.Add numbers e = at_width_none (λ w. binary_row w w sum_of) numbers e
row_none names.Sub numbers e = at_width_none (λ w. binary_row w w difference_of) numbers e
row_none names.And numbers e = at_width_none (λ w. binary_row w w and_of) numbers e
row_none names.Or numbers e = at_width_none (λ w. binary_row w w or_of) numbers e
row_none names.Xor numbers e = at_width_none (λ w. binary_row w w xor_of) numbers e
row_none names.Not numbers e = at_width_none (λ w. unary_row w w complement_of) numbers e
row_none names.Lsh numbers e = at_width_none (λ w. binary_row w w left_shift_of) numbers e
row_none names.Rsh numbers e = at_width_none (λ w. binary_row w w right_shift_of) numbers e
row_none names.Lt numbers e = at_width_none (λ w. binary_row w 1 less_bit_of) numbers e
row_none names.Gt numbers e = at_width_none (λ w. binary_row w 1 greater_bit_of) numbers e
row_none names.Equal numbers e = at_width_none (λ w. binary_row w 1 equal_bit_of) numbers e
row_none names.Neq numbers e = at_width_none (λ w. binary_row w 1 unequal_bit_of) numbers e
row_none names.Le numbers e = at_width_none (λ w. binary_row w 1 at_most_bit_of) numbers e
row_none names.Ge numbers e = at_width_none (λ w. binary_row w 1 at_least_bit_of) numbers e
row_none names.Slt numbers e = at_width_none (λ w. binary_row w 1 signed_less_bit_of) numbers e
row_none names.Sgt numbers e = at_width_none (λ w. binary_row w 1 signed_greater_bit_of) numbers e
row_none names.Seq numbers e = at_width_none (λ w. binary_row w 1 equal_bit_of) numbers e
row_none names.Sneq numbers e = at_width_none (λ w. binary_row w 1 unequal_bit_of) numbers e
row_none names.Sle numbers e = at_width_none (λ w. binary_row w 1 signed_at_most_bit_of) numbers e
row_none names.Sge numbers e = at_width_none (λ w. binary_row w 1 signed_at_least_bit_of) numbers e
row_none names.Slice numbers e = slice_none numbers e
row_none names.Pad numbers e = pad_none numbers e
row_none names.Mux numbers e = at_width_none mux_row numbers e
row_none names.Reg numbers e = at_width_none register_row numbers e
row_none names.StdMemD1 numbers e = memory_none 1 memory_row numbers e
row_none names.StdMemD2 numbers e = memory_none 2 memory_row numbers e
row_none names.StdMemD3 numbers e = memory_none 3 memory_row numbers e
row_none names.StdMemD4 numbers e = memory_none 4 memory_row numbers e
row_none names.CombMemD1 numbers e = memory_none 1 memory_row numbers e
row_none names.CombMemD2 numbers e = memory_none 2 memory_row numbers e
row_none names.CombMemD3 numbers e = memory_none 3 memory_row numbers e
row_none names.CombMemD4 numbers e = memory_none 4 memory_row numbers e
row_none names.SeqMemD1 numbers e = memory_none 1 sequential_memory_row numbers e
row_none names.SeqMemD2 numbers e = memory_none 2 sequential_memory_row numbers e
row_none names.SeqMemD3 numbers e = memory_none 3 sequential_memory_row numbers e
row_none names.SeqMemD4 numbers e = memory_none 4 sequential_memory_row numbers e
row_none names.MultPipe numbers e = at_width_none multiplier_row numbers e
row_none names.DivPipe numbers e = at_width_none divider_row numbers e
row_none names.Timer numbers e = timer_none numbers e

has_first : (p : PrimitiveRow) → HasRow p → 1 ≤ first_number p.numbers
has_first p has = by (first_number p.numbers) refl
  where
    by : (n : ℕ) → first_number p.numbers ≡ n → 1 ≤ first_number p.numbers
    by zero e = absurd (let none : IsSome {T = Row} None = subst IsSome (row_none p.name p.numbers e) has in cc)
    by (suc n) e = omega (arith, e)

-- an external cell of main has words of 1 to 64 bits
kind_positive : (d : PlainDesign) (kind : PlainKind) → IsKind d kind → IsExternal d d.main kind → 1 ≤ first_number (numbers_of kind)
kind_positive d (OfPrimitive p) h x = has_first p h.0
kind_positive d (OfComponent j) h x = absurd x

kind_narrow : (d : PlainDesign) (kind : PlainKind) → IsExternal d d.main kind → first_number (numbers_of kind) ≤ 64
kind_narrow d (OfPrimitive p) x = x.2
kind_narrow d (OfComponent j) x = absurd x

cell_wide : (d : PlainDesign) → ∥ IsDesign d ∥₁ → (cell : PlainCell) → In (component_at d d.main).cells cell → cell.external ≡ true → HasWordWidth (row_for cell)
cell_wide d keeps cell i e =
    let own : IsDesign d → IsCell d d.main cell = λ k. (k.components d.main k.main_there).cells cell i in
    record {
      positive = ∥∥₁_elim keeps (hlevel props) (λ k. kind_positive d cell.kind (own k).kind ((own k).external e));
      narrow = ∥∥₁_elim keeps (hlevel props) (λ k. kind_narrow d cell.kind ((own k).external e));
    }

if_wide : (b : Bool) (cell : PlainCell) (rest : List PlainRow) → (b ≡ true → HasWordWidth (row_for cell)) → All HasWordWidth rest → All HasWordWidth (if_external b cell rest)
if_wide true cell rest h k = All-cons HasWordWidth (row_for cell) rest (h refl) k
if_wide false cell rest h k = k

all_wide : (cells : List PlainCell) → ((cell : PlainCell) → In cells cell → cell.external ≡ true → HasWordWidth (row_for cell)) → All HasWordWidth (rows_of cells)
all_wide [] h = All-nil HasWordWidth
all_wide (cell ∷ cells) h = if_wide cell.external cell (rows_of cells) (h cell (inl refl)) (all_wide cells (λ x i. h x (inr i)))

pub rows_have_width : (d : PlainDesign) → ∥ IsDesign d ∥₁ → All HasWordWidth (external_rows d)
rows_have_width d keeps = all_wide (component_at d d.main).cells (cell_wide d keeps)

-- memories that fit rows have their widths
pub widths_fit : (rows : List PlainRow) (ms : List PlainMemory) → All HasWordWidth rows → FitsRows rows ms → All HasWordWidth (map (λ m. m.shape) ms)
widths_fit rows ms widths fits =
    let Wide : List PlainRow → Type 0 = λ rs. All HasWordWidth rs in
    subst Wide (sym fits.same_rows) widths
