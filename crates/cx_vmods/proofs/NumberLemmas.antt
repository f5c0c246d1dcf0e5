-- What the numbers of a primitive are, where they keep its row.
use Rattle.std.specs.Prelude.{◌≡◌, ◌≢◌, ℕ, ◌*◌, ◌^◌, ◌<◌, ◌≤◌, ◌==◌, ◌&&◌, Bool, true, false, List, [], ◌∷◌, Some, None, IsSome, nat_lt, nat_le, length, take, drop, slice_index, if◌then◌else◌, refl}
use Rattle.std.specs.List.{list_all}
use Rattle.std.proofs.Common.{arith, lit<, subst}
use Rattle.std.proofs.lemmas.Bool.{eqb-true, leb-true, ltb-true}
use Rattle.cx_bits.specs.Operators.{sum_of, difference_of, and_of, or_of, xor_of, complement_of, left_shift_of, right_shift_of, less_bit_of, equal_bit_of, signed_less_bit_of, low_bits_of, zero_extension_of}
use Rattle.cx_prim.specs.declared.names.PrimitiveName.{PrimitiveName}
use Rattle.cx_prim.specs.declared.names.PrimitiveName.TheVariants.{Const, Wire, Add, Sub, And, Or, Xor, Not, Lsh, Rsh, Lt, Gt, Equal, Neq, Le, Ge, Slt, Sgt, Seq, Sneq, Sle, Sge, Slice, Pad, Mux, Reg, StdMemD1, StdMemD2, StdMemD3, StdMemD4, CombMemD1, CombMemD2, CombMemD3, CombMemD4, SeqMemD1, SeqMemD2, SeqMemD3, SeqMemD4, MultPipe, DivPipe, Timer}
use Rattle.cx_prim.specs.Widths.{IsWidth, is_width}
use Rattle.cx_prim.specs.Rows.{Row}
use Rattle.cx_prim.specs.CombinationalRows.{constant_row, unary_row, binary_row, mux_row, greater_bit_of, unequal_bit_of, at_most_bit_of, at_least_bit_of, signed_greater_bit_of, signed_at_most_bit_of, signed_at_least_bit_of}
use Rattle.cx_prim.specs.RegisterRow.{register_row}
use Rattle.cx_prim.specs.MemoryRows.{IsLayout, are_sizes, is_address_width, memory_row, sequential_memory_row}
use Rattle.cx_prim.specs.PipeRows.{multiplier_row, divider_row, timer_row}
use Rattle.cx_prim.specs.Table.{at_width, constant_at, slice_at, pad_at, memory_at, timer_at, row_at}
use Rattle.cx_prim.proofs.TableCases.{is_width_tells, is_layout_tells}
use Rattle.cx_text.proofs.BoolLaws.{and_left, and_right}

-- the first number is there and is a width
pub record HasWidth (numbers : List ℕ) : Type 0 where
  pub there : 0 < length numbers
  pub width : IsWidth (slice_index numbers 0)

-- a row that is there where a test is true
pub tested : (b : Bool) (row : Row) → IsSome (if b then Some row else None) → b ≡ true
tested true row there = refl
tested false row there = absurd (let wrong : false ≡ true = there in cc)

pub at_width_has : (make : ℕ → Row) (numbers : List ℕ) → IsSome (at_width make numbers) → HasWidth numbers
at_width_has make [] there = absurd (let wrong : false ≡ true = there in cc)
at_width_has make (w ∷ []) there = record { there = lit< tt; width = is_width_tells w (tested (is_width w) (make w) there) }
at_width_has make (w ∷ v ∷ rest) there = absurd (let wrong : false ≡ true = there in cc)

-- a constant: its width and its value
pub record IsConstant (numbers : List ℕ) : Type 0 where
  pub both : length numbers ≡ 2
  pub width : IsWidth (slice_index numbers 0)

pub constant_at_has : (numbers : List ℕ) → IsSome (constant_at numbers) → IsConstant numbers
constant_at_has [] there = absurd (let wrong : false ≡ true = there in cc)
constant_at_has (w ∷ []) there = absurd (let wrong : false ≡ true = there in cc)
constant_at_has (w ∷ v ∷ []) there =
    record { both = refl; width = is_width_tells w (and_left (is_width w) (nat_lt v (2 ^ w)) (tested (is_width w && nat_lt v (2 ^ w)) (constant_row w v) there)) }
constant_at_has (w ∷ v ∷ x ∷ rest) there = absurd (let wrong : false ≡ true = there in cc)

-- both numbers are widths
pub record AreWidths (numbers : List ℕ) : Type 0 where
  pub both : length numbers ≡ 2
  pub input : IsWidth (slice_index numbers 0)
  pub output : IsWidth (slice_index numbers 1)

two_widths : (w v : ℕ) (b : Bool) (row : Row) → IsSome (if (is_width w && is_width v) && b then Some row else None) → AreWidths (w ∷ v ∷ [])
two_widths w v b row there =
    let test = and_left (is_width w && is_width v) b (tested ((is_width w && is_width v) && b) row there) in
    record { both = refl; input = is_width_tells w (and_left (is_width w) (is_width v) test); output = is_width_tells v (and_right (is_width w) (is_width v) test) }

pub slice_at_has : (numbers : List ℕ) → IsSome (slice_at numbers) → AreWidths numbers
slice_at_has [] there = absurd (let wrong : false ≡ true = there in cc)
slice_at_has (w ∷ []) there = absurd (let wrong : false ≡ true = there in cc)
slice_at_has (w ∷ v ∷ []) there = two_widths w v (nat_le v w) (unary_row w v (λ a. low_bits_of a v)) there
slice_at_has (w ∷ v ∷ x ∷ rest) there = absurd (let wrong : false ≡ true = there in cc)

pub pad_at_has : (numbers : List ℕ) → IsSome (pad_at numbers) → AreWidths numbers
pad_at_has [] there = absurd (let wrong : false ≡ true = there in cc)
pad_at_has (w ∷ []) there = absurd (let wrong : false ≡ true = there in cc)
pad_at_has (w ∷ v ∷ []) there = two_widths w v (nat_le w v) (unary_row w v (λ a. zero_extension_of a v)) there
pad_at_has (w ∷ v ∷ x ∷ rest) there = absurd (let wrong : false ≡ true = there in cc)

first_width : (numbers : List ℕ) → AreWidths numbers → HasWidth numbers
first_width numbers widths = let both = widths.both in record { there = omega arith; width = widths.input }

-- a timer: its length
pub record IsLength (numbers : List ℕ) : Type 0 where
  pub lone : length numbers ≡ 1
  pub some : 1 ≤ slice_index numbers 0
  pub few : slice_index numbers 0 < 2 ^ 32

pub timer_at_has : (numbers : List ℕ) → IsSome (timer_at numbers) → IsLength numbers
timer_at_has [] there = absurd (let wrong : false ≡ true = there in cc)
timer_at_has (n ∷ []) there =
    let test = tested (nat_le 1 n && nat_lt n (2 ^ 32)) (timer_row n) there in
    record { lone = refl; some = leb-true 1 n (and_left (nat_le 1 n) (nat_lt n (2 ^ 32)) test); few = ltb-true n (2 ^ 32) (and_right (nat_le 1 n) (nat_lt n (2 ^ 32)) test) }
timer_at_has (n ∷ x ∷ rest) there = absurd (let wrong : false ≡ true = there in cc)

-- a memory of d dimensions: behind its width the sizes, and behind these the widths of the addresses
pub record HasLayout (d : ℕ) (width : ℕ) (rest : List ℕ) : Type 0 where
  pub enough : d ≤ length rest
  pub layout : IsLayout width (take d rest) (drop d rest)

pub memory_at_has : (d : ℕ) (make : ℕ → List ℕ → List ℕ → Row) (width : ℕ) (rest : List ℕ) → d ≤ 4 → IsSome (memory_at d make (width ∷ rest)) → HasLayout d width rest
memory_at_has d make width rest few there =
    let sized : Bool = is_width width && (length rest == 2 * d) in
    let parts : Bool = are_sizes (take d rest) && list_all is_address_width (drop d rest) in
    let test : ((is_width width && (length rest == 2 * d)) && (are_sizes (take d rest) && list_all is_address_width (drop d rest))) ≡ true = tested (sized && parts) (make width (take d rest) (drop d rest)) there in
    let counted : length rest ≡ 2 * d = eqb-true (length rest) (2 * d) (and_right (is_width width) (length rest == 2 * d) (and_left sized parts test)) in
    record { enough = omega arith; layout = is_layout_tells d width rest few test }

-- the numbers behind the width, as they are split off
pub memory_at_split : (d : ℕ) (make : ℕ → List ℕ → List ℕ → Row) (numbers : List ℕ) (width : ℕ) (rest : List ℕ) → numbers ≡ width ∷ rest → d ≤ 4 → IsSome (memory_at d make numbers) → HasLayout d width rest
memory_at_split d make numbers width rest split few there = memory_at_has d make width rest few (subst (λ (ns : List ℕ). IsSome (memory_at d make ns)) split there)

-- some numbers are there
pub memory_at_some : (d : ℕ) (make : ℕ → List ℕ → List ℕ → Row) (numbers : List ℕ) → IsSome (memory_at d make numbers) → 0 < length numbers
memory_at_some d make [] there = absurd (let wrong : false ≡ true = there in cc)
memory_at_some d make (w ∷ rest) there = omega arith

memory_at_width : (d : ℕ) (make : ℕ → List ℕ → List ℕ → Row) (numbers : List ℕ) → d ≤ 4 → IsSome (memory_at d make numbers) → HasWidth numbers
memory_at_width d make [] few there = absurd (let wrong : false ≡ true = there in cc)
memory_at_width d make (w ∷ rest) few there = record { there = omega arith; width = (memory_at_has d make w rest few there).layout.word }

-- the first number of a primitive is its width, but for the timer
pub row_at_width : (name : PrimitiveName) (numbers : List ℕ) → IsSome (row_at name numbers) → name ≢ Timer → HasWidth numbers
row_at_width Const numbers there sized = let has = constant_at_has numbers there in let both = has.both in record { there = omega arith; width = has.width }
row_at_width Wire numbers there sized = at_width_has (λ w. unary_row w w (λ a. a)) numbers there
row_at_width Add numbers there sized = at_width_has (λ w. binary_row w w sum_of) numbers there
row_at_width Sub numbers there sized = at_width_has (λ w. binary_row w w difference_of) numbers there
row_at_width And numbers there sized = at_width_has (λ w. binary_row w w and_of) numbers there
row_at_width Or numbers there sized = at_width_has (λ w. binary_row w w or_of) numbers there
row_at_width Xor numbers there sized = at_width_has (λ w. binary_row w w xor_of) numbers there
row_at_width Not numbers there sized = at_width_has (λ w. unary_row w w complement_of) numbers there
row_at_width Lsh numbers there sized = at_width_has (λ w. binary_row w w left_shift_of) numbers there
row_at_width Rsh numbers there sized = at_width_has (λ w. binary_row w w right_shift_of) numbers there
row_at_width Lt numbers there sized = at_width_has (λ w. binary_row w 1 less_bit_of) numbers there
row_at_width Gt numbers there sized = at_width_has (λ w. binary_row w 1 greater_bit_of) numbers there
row_at_width Equal numbers there sized = at_width_has (λ w. binary_row w 1 equal_bit_of) numbers there
row_at_width Neq numbers there sized = at_width_has (λ w. binary_row w 1 unequal_bit_of) numbers there
row_at_width Le numbers there sized = at_width_has (λ w. binary_row w 1 at_most_bit_of) numbers there
row_at_width Ge numbers there sized = at_width_has (λ w. binary_row w 1 at_least_bit_of) numbers there
row_at_width Slt numbers there sized = at_width_has (λ w. binary_row w 1 signed_less_bit_of) numbers there
row_at_width Sgt numbers there sized = at_width_has (λ w. binary_row w 1 signed_greater_bit_of) numbers there
row_at_width Seq numbers there sized = at_width_has (λ w. binary_row w 1 equal_bit_of) numbers there
row_at_width Sneq numbers there sized = at_width_has (λ w. binary_row w 1 unequal_bit_of) numbers there
row_at_width Sle numbers there sized = at_width_has (λ w. binary_row w 1 signed_at_most_bit_of) numbers there
row_at_width Sge numbers there sized = at_width_has (λ w. binary_row w 1 signed_at_least_bit_of) numbers there
row_at_width Slice numbers there sized = first_width numbers (slice_at_has numbers there)
row_at_width Pad numbers there sized = first_width numbers (pad_at_has numbers there)
row_at_width Mux numbers there sized = at_width_has mux_row numbers there
row_at_width Reg numbers there sized = at_width_has register_row numbers there
row_at_width StdMemD1 numbers there sized = memory_at_width 1 memory_row numbers (omega arith) there
row_at_width StdMemD2 numbers there sized = memory_at_width 2 memory_row numbers (omega arith) there
row_at_width StdMemD3 numbers there sized = memory_at_width 3 memory_row numbers (omega arith) there
row_at_width StdMemD4 numbers there sized = memory_at_width 4 memory_row numbers (omega arith) there
row_at_width CombMemD1 numbers there sized = memory_at_width 1 memory_row numbers (omega arith) there
row_at_width CombMemD2 numbers there sized = memory_at_width 2 memory_row numbers (omega arith) there
row_at_width CombMemD3 numbers there sized = memory_at_width 3 memory_row numbers (omega arith) there
row_at_width CombMemD4 numbers there sized = memory_at_width 4 memory_row numbers (omega arith) there
row_at_width SeqMemD1 numbers there sized = memory_at_width 1 sequential_memory_row numbers (omega arith) there
row_at_width SeqMemD2 numbers there sized = memory_at_width 2 sequential_memory_row numbers (omega arith) there
row_at_width SeqMemD3 numbers there sized = memory_at_width 3 sequential_memory_row numbers (omega arith) there
row_at_width SeqMemD4 numbers there sized = memory_at_width 4 sequential_memory_row numbers (omega arith) there
row_at_width MultPipe numbers there sized = at_width_has multiplier_row numbers there
row_at_width DivPipe numbers there sized = at_width_has divider_row numbers there
row_at_width Timer numbers there sized = absurd (sized refl)
