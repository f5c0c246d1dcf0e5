-- The module of each primitive of the table does what its row says.
use Rattle.std.specs.Prelude.{◌≡◌, ℕ, ◌*◌, ◌^◌, ◌≤◌, ◌==◌, ◌&&◌, true, false, List, [], ◌∷◌, IsSome, nat_lt, nat_le, length, take, drop, slice_index, unwrap_or, refl}
use Rattle.std.specs.List.{list_all}
use Rattle.std.proofs.Common.{arith}
use Rattle.std.proofs.lemmas.Bool.{leb-true, ltb-true}
use Rattle.cx_bits.specs.Operators.{sum_of, difference_of, and_of, or_of, xor_of, left_shift_of, right_shift_of, less_bit_of, equal_bit_of, signed_less_bit_of, low_bits_of, zero_extension_of}
use Rattle.cx_prim.specs.declared.names.PrimitiveName.{PrimitiveName}
use Rattle.cx_prim.specs.declared.names.PrimitiveName.TheVariants.{Const, Wire, Add, Sub, And, Or, Xor, Not, Lsh, Rsh, Lt, Gt, Equal, Neq, Le, Ge, Slt, Sgt, Seq, Sneq, Sle, Sge, Slice, Pad, Mux, Reg, StdMemD1, StdMemD2, StdMemD3, StdMemD4, CombMemD1, CombMemD2, CombMemD3, CombMemD4, SeqMemD1, SeqMemD2, SeqMemD3, SeqMemD4, MultPipe, DivPipe, Timer}
use Rattle.cx_prim.specs.Widths.{IsWidth, is_width}
use Rattle.cx_prim.specs.Rows.{Row}
use Rattle.cx_prim.specs.CombinationalRows.{constant_row, unary_row, greater_bit_of, unequal_bit_of, at_most_bit_of, at_least_bit_of, signed_greater_bit_of, signed_at_most_bit_of, signed_at_least_bit_of}
use Rattle.cx_prim.specs.MemoryRows.{are_sizes, is_address_width, memory_row, sequential_memory_row}
use Rattle.cx_prim.specs.PipeRows.{timer_row}
use Rattle.cx_prim.specs.Table.{at_width, constant_at, slice_at, pad_at, memory_at, timer_at, row_at, no_row}
use Rattle.cx_prim.proofs.TableCases.{is_width_tells, is_layout_tells}
use Rattle.cx_vtree.specs.declared.operators.Operator.TheVariants as operators
use Rattle.cx_vmods.specs.Parts.{Piece, made_of}
use Rattle.cx_vmods.specs.Modules.{ports_of, module_with, constant_pieces, slice_pieces, pad_pieces, timer_pieces, memory_pieces, sequential_pieces, pieces_of}
use Rattle.cx_vmods.specs.Stands.{StandsFor}
use Rattle.cx_vmods.specs.Built.{IsBuilt}
use Rattle.cx_vmods.specs.Laws.{EachIsBuilt}
use Rattle.cx_vmods.proofs.StatelessLaws.{mux_built}
use Rattle.cx_vmods.proofs.CombinationalLaws.{constant_gives, wire_gives, complement_gives, slice_gives, pad_gives, operator_gives, unequal_is, at_most_is, at_least_is, left_shifts, right_shifts, shift_gives, signed_gives, signed_less_is, signed_greater_is, signed_at_most_is, signed_at_least_is}
use Rattle.cx_vmods.proofs.RegisterLaws.{register_built}
use Rattle.cx_vmods.proofs.TimerLaws.{timer_built}
use Rattle.cx_vmods.proofs.MultiplierLaws.{multiplier_built}
use Rattle.cx_vmods.proofs.DividerLaws.{divider_built}
use Rattle.cx_vmods.proofs.MemoryLaws.{memory_built}
use Rattle.cx_vmods.proofs.SequentialLaws.{sequential_built}
use Rattle.cx_prim.proofs.RowsLemmas.{where_true}
use Rattle.cx_text.proofs.BoolLaws.{and_left, and_right}

-- what these pieces under a name owe to a row
abbrev Owes : List ℕ → List Piece → List ℕ → Row → Type 0
Owes name pieces numbers row = IsBuilt (module_with name (ports_of row) (made_of pieces)) row (StandsFor (slice_index numbers 0))

at_width_built : (make : ℕ → Row) (pieces : List ℕ → List Piece) (name : List ℕ) → ((w : ℕ) → IsWidth w → Owes name (pieces (w ∷ [])) (w ∷ []) (make w))
    → (numbers : List ℕ) → IsSome (at_width make numbers) → Owes name (pieces numbers) numbers (unwrap_or (at_width make numbers) no_row)
at_width_built make pieces name each [] there = absurd (let wrong : false ≡ true = there in cc)
at_width_built make pieces name each (w ∷ []) there = where_true (Owes name (pieces (w ∷ [])) (w ∷ [])) (is_width w) (make w) there (λ test. each w (is_width_tells w test))
at_width_built make pieces name each (w ∷ v ∷ rest) there = absurd (let wrong : false ≡ true = there in cc)

constant_at_built : (name numbers : List ℕ) → IsSome (constant_at numbers) → Owes name (constant_pieces numbers) numbers (unwrap_or (constant_at numbers) no_row)
constant_at_built name [] there = absurd (let wrong : false ≡ true = there in cc)
constant_at_built name (w ∷ []) there = absurd (let wrong : false ≡ true = there in cc)
constant_at_built name (w ∷ v ∷ []) there =
    where_true (Owes name (constant_pieces (w ∷ v ∷ [])) (w ∷ v ∷ [])) (is_width w && nat_lt v (2 ^ w)) (constant_row w v) there
    (λ test. constant_gives name w v w (ltb-true v (2 ^ w) (and_right (is_width w) (nat_lt v (2 ^ w)) test)))
constant_at_built name (w ∷ v ∷ x ∷ rest) there = absurd (let wrong : false ≡ true = there in cc)

slice_at_built : (name numbers : List ℕ) → IsSome (slice_at numbers) → Owes name (slice_pieces numbers) numbers (unwrap_or (slice_at numbers) no_row)
slice_at_built name [] there = absurd (let wrong : false ≡ true = there in cc)
slice_at_built name (w ∷ []) there = absurd (let wrong : false ≡ true = there in cc)
slice_at_built name (w ∷ v ∷ []) there =
    where_true (Owes name (slice_pieces (w ∷ v ∷ [])) (w ∷ v ∷ [])) ((is_width w && is_width v) && nat_le v w) (unary_row w v (λ a. low_bits_of a v)) there
    (λ test. slice_gives name w v w (is_width_tells v (and_right (is_width w) (is_width v) (and_left (is_width w && is_width v) (nat_le v w) test))).some_bits)
slice_at_built name (w ∷ v ∷ x ∷ rest) there = absurd (let wrong : false ≡ true = there in cc)

pad_at_built : (name numbers : List ℕ) → IsSome (pad_at numbers) → Owes name (pad_pieces numbers) numbers (unwrap_or (pad_at numbers) no_row)
pad_at_built name [] there = absurd (let wrong : false ≡ true = there in cc)
pad_at_built name (w ∷ []) there = absurd (let wrong : false ≡ true = there in cc)
pad_at_built name (w ∷ v ∷ []) there =
    where_true (Owes name (pad_pieces (w ∷ v ∷ [])) (w ∷ v ∷ [])) ((is_width w && is_width v) && nat_le w v) (unary_row w v (λ a. zero_extension_of a v)) there
    (λ test. pad_gives name w v w (leb-true w v (and_right (is_width w && is_width v) (nat_le w v) test)))
pad_at_built name (w ∷ v ∷ x ∷ rest) there = absurd (let wrong : false ≡ true = there in cc)

timer_at_built : (name numbers : List ℕ) → IsSome (timer_at numbers) → Owes name (timer_pieces numbers) numbers (unwrap_or (timer_at numbers) no_row)
timer_at_built name [] there = absurd (let wrong : false ≡ true = there in cc)
timer_at_built name (n ∷ []) there =
    where_true (Owes name (timer_pieces (n ∷ [])) (n ∷ [])) (nat_le 1 n && nat_lt n (2 ^ 32)) (timer_row n) there
    (λ test. timer_built name n n (leb-true 1 n (and_left (nat_le 1 n) (nat_lt n (2 ^ 32)) test)) (ltb-true n (2 ^ 32) (and_right (nat_le 1 n) (nat_lt n (2 ^ 32)) test)))
timer_at_built name (n ∷ x ∷ rest) there = absurd (let wrong : false ≡ true = there in cc)

memory_at_built : (d : ℕ) → d ≤ 4 → (name numbers : List ℕ) → IsSome (memory_at d memory_row numbers) → Owes name (memory_pieces d numbers) numbers (unwrap_or (memory_at d memory_row numbers) no_row)
memory_at_built d few name [] there = absurd (let wrong : false ≡ true = there in cc)
memory_at_built d few name (w ∷ rest) there =
    where_true (Owes name (memory_pieces d (w ∷ rest)) (w ∷ rest)) ((is_width w && (length rest == 2 * d)) && (are_sizes (take d rest) && list_all is_address_width (drop d rest))) (memory_row w (take d rest) (drop d rest)) there
    (λ test. memory_built name w (take d rest) (drop d rest) (is_layout_tells d w rest few test))

sequential_at_built : (d : ℕ) → d ≤ 4 → (name numbers : List ℕ) → IsSome (memory_at d sequential_memory_row numbers) → Owes name (sequential_pieces d numbers) numbers (unwrap_or (memory_at d sequential_memory_row numbers) no_row)
sequential_at_built d few name [] there = absurd (let wrong : false ≡ true = there in cc)
sequential_at_built d few name (w ∷ rest) there =
    where_true (Owes name (sequential_pieces d (w ∷ rest)) (w ∷ rest)) ((is_width w && (length rest == 2 * d)) && (are_sizes (take d rest) && list_all is_address_width (drop d rest))) (sequential_memory_row w (take d rest) (drop d rest)) there
    (λ test. sequential_built name w (take d rest) (drop d rest) (is_layout_tells d w rest few test))

named_built : (name : List ℕ) (own : PrimitiveName) (numbers : List ℕ) → IsSome (row_at own numbers) → Owes name (pieces_of own numbers) numbers (unwrap_or (row_at own numbers) no_row)
named_built name Const numbers there = constant_at_built name numbers there
named_built name Wire numbers there = at_width_built _ (pieces_of Wire) name (λ w ok. wire_gives name w w) numbers there
named_built name Not numbers there = at_width_built _ (pieces_of Not) name (λ w ok. complement_gives name w w) numbers there
named_built name Slice numbers there = slice_at_built name numbers there
named_built name Pad numbers there = pad_at_built name numbers there
named_built name Add numbers there = at_width_built _ (pieces_of Add) name (λ w ok. operator_gives name w w sum_of operators.Add w (λ a b. refl)) numbers there
named_built name Sub numbers there = at_width_built _ (pieces_of Sub) name (λ w ok. operator_gives name w w difference_of operators.Subtract w (λ a b. refl)) numbers there
named_built name And numbers there = at_width_built _ (pieces_of And) name (λ w ok. operator_gives name w w and_of operators.And w (λ a b. refl)) numbers there
named_built name Or numbers there = at_width_built _ (pieces_of Or) name (λ w ok. operator_gives name w w or_of operators.Or w (λ a b. refl)) numbers there
named_built name Xor numbers there = at_width_built _ (pieces_of Xor) name (λ w ok. operator_gives name w w xor_of operators.Xor w (λ a b. refl)) numbers there
named_built name Lsh numbers there = at_width_built _ (pieces_of Lsh) name (λ w ok. shift_gives name operators.ShiftLeft left_shift_of w w left_shifts ok) numbers there
named_built name Rsh numbers there = at_width_built _ (pieces_of Rsh) name (λ w ok. shift_gives name operators.ShiftRight right_shift_of w w right_shifts ok) numbers there
named_built name Lt numbers there = at_width_built _ (pieces_of Lt) name (λ w ok. operator_gives name w 1 less_bit_of operators.Less w (λ a b. refl)) numbers there
named_built name Gt numbers there = at_width_built _ (pieces_of Gt) name (λ w ok. operator_gives name w 1 greater_bit_of operators.Greater w (λ a b. refl)) numbers there
named_built name Equal numbers there = at_width_built _ (pieces_of Equal) name (λ w ok. operator_gives name w 1 equal_bit_of operators.Equal w (λ a b. refl)) numbers there
named_built name Neq numbers there = at_width_built _ (pieces_of Neq) name (λ w ok. operator_gives name w 1 unequal_bit_of operators.NotEqual w unequal_is) numbers there
named_built name Le numbers there = at_width_built _ (pieces_of Le) name (λ w ok. operator_gives name w 1 at_most_bit_of operators.AtMost w at_most_is) numbers there
named_built name Ge numbers there = at_width_built _ (pieces_of Ge) name (λ w ok. operator_gives name w 1 at_least_bit_of operators.AtLeast w at_least_is) numbers there
named_built name Seq numbers there = at_width_built _ (pieces_of Seq) name (λ w ok. operator_gives name w 1 equal_bit_of operators.Equal w (λ a b. refl)) numbers there
named_built name Sneq numbers there = at_width_built _ (pieces_of Sneq) name (λ w ok. operator_gives name w 1 unequal_bit_of operators.NotEqual w unequal_is) numbers there
named_built name Slt numbers there = at_width_built _ (pieces_of Slt) name (λ w ok. signed_gives name operators.Less signed_less_bit_of w w ok (signed_less_is w ok)) numbers there
named_built name Sgt numbers there = at_width_built _ (pieces_of Sgt) name (λ w ok. signed_gives name operators.Greater signed_greater_bit_of w w ok (signed_greater_is w ok)) numbers there
named_built name Sle numbers there = at_width_built _ (pieces_of Sle) name (λ w ok. signed_gives name operators.AtMost signed_at_most_bit_of w w ok (signed_at_most_is w ok)) numbers there
named_built name Sge numbers there = at_width_built _ (pieces_of Sge) name (λ w ok. signed_gives name operators.AtLeast signed_at_least_bit_of w w ok (signed_at_least_is w ok)) numbers there
named_built name Mux numbers there = at_width_built _ (pieces_of Mux) name (λ w ok. mux_built name w w) numbers there
named_built name Reg numbers there = at_width_built _ (pieces_of Reg) name (λ w ok. register_built name w) numbers there
named_built name StdMemD1 numbers there = memory_at_built 1 (omega arith) name numbers there
named_built name StdMemD2 numbers there = memory_at_built 2 (omega arith) name numbers there
named_built name StdMemD3 numbers there = memory_at_built 3 (omega arith) name numbers there
named_built name StdMemD4 numbers there = memory_at_built 4 (omega arith) name numbers there
named_built name CombMemD1 numbers there = memory_at_built 1 (omega arith) name numbers there
named_built name CombMemD2 numbers there = memory_at_built 2 (omega arith) name numbers there
named_built name CombMemD3 numbers there = memory_at_built 3 (omega arith) name numbers there
named_built name CombMemD4 numbers there = memory_at_built 4 (omega arith) name numbers there
named_built name SeqMemD1 numbers there = sequential_at_built 1 (omega arith) name numbers there
named_built name SeqMemD2 numbers there = sequential_at_built 2 (omega arith) name numbers there
named_built name SeqMemD3 numbers there = sequential_at_built 3 (omega arith) name numbers there
named_built name SeqMemD4 numbers there = sequential_at_built 4 (omega arith) name numbers there
named_built name MultPipe numbers there = at_width_built _ (pieces_of MultPipe) name (λ w ok. multiplier_built name w) numbers there
named_built name DivPipe numbers there = at_width_built _ (pieces_of DivPipe) name (λ w ok. divider_built name w ok) numbers there
named_built name Timer numbers there = timer_at_built name numbers there

-- of each primitive
pub each_is_built : EachIsBuilt
each_is_built p name has = named_built name p.name p.numbers has
