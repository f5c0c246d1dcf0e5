-- The module of each primitive of the table keeps the rules, and has as many nets and words as its row says.
use Rattle.std.proofs.Common.{◌≡◌, ℕ, ◌*◌, ◌^◌, ◌<◌, ◌≤◌, ◌==◌, ◌&&◌, Bool, true, false, List, [], ◌∷◌, ◌++◌, length, length-append, refl, sym, subst, ◌/◌, if◌then◌else◌, arith}
use Rattle.std.specs.Prelude.{IsSome, nat_le, nat_lt, take, drop, unwrap_or}
use Rattle.std.specs.List.{list_all}
use Rattle.std.proofs.lemmas.Bool.{leb-true, eqb-true}
use Rattle.std.proofs.lemmas.List.{length-take}
use Rattle.cx_bits.specs.Operators.{sum_of, difference_of, and_of, or_of, xor_of, complement_of, left_shift_of, right_shift_of, less_bit_of, equal_bit_of, signed_less_bit_of, low_bits_of, zero_extension_of}
use Rattle.cx_prim.specs.declared.names.PrimitiveName.{PrimitiveName}
use Rattle.cx_prim.specs.declared.names.PrimitiveName.TheVariants.{Const, Wire, Add, Sub, And, Or, Xor, Not, Lsh, Rsh, Lt, Gt, Equal, Neq, Le, Ge, Slt, Sgt, Seq, Sneq, Sle, Sge, Slice, Pad, Mux, Reg, StdMemD1, StdMemD2, StdMemD3, StdMemD4, CombMemD1, CombMemD2, CombMemD3, CombMemD4, SeqMemD1, SeqMemD2, SeqMemD3, SeqMemD4, MultPipe, DivPipe, Timer}
use Rattle.cx_prim.specs.Widths.{IsWidth, is_width}
use Rattle.cx_prim.specs.declared.ports.PortRow.{PortRow}
use Rattle.cx_prim.specs.Rows.{Row}
use Rattle.cx_prim.specs.CombinationalRows.{constant_row, unary_row, greater_bit_of, unequal_bit_of, at_most_bit_of, at_least_bit_of, signed_greater_bit_of, signed_at_most_bit_of, signed_at_least_bit_of}
use Rattle.cx_prim.specs.MemoryRows.{address_ports, are_sizes, is_address_width, memory_row, sequential_memory_row}
use Rattle.cx_prim.specs.PipeRows.{timer_row}
use Rattle.cx_prim.specs.Table.{PrimitiveRow, HasRow, row_of, at_width, constant_at, slice_at, pad_at, memory_at, timer_at, row_at, no_row}
use Rattle.cx_prim.proofs.TableCases.{is_width_tells, is_layout_tells}
use Rattle.cx_rules.specs.Sizes.{shape_words}
use Rattle.cx_rules.specs.Wellformed.{is_memory}
use Rattle.cx_rules.specs.Externals.{sizes_in}
use Rattle.cx_vtree.specs.Sound.{arrays_in}
use Rattle.cx_prim.specs.CellStates.{StateShape, NoState, RegisterOf, MemoryOf, SequentialMemoryOf, MultiplierOf, DividerOf, TimerOf}
use Rattle.cx_vtree.specs.declared.operators.Operator.TheVariants as operators
use Rattle.cx_vtree.specs.Plain.{PlainExpr, PlainModule}
use Rattle.cx_vtree.specs.InstanceTree.{declared_nets}
use Rattle.cx_vlaws.specs.Counts.{declared_words}
use Rattle.cx_vtree.specs.Layout.{is_name}
use Rattle.cx_vmods.specs.Parts.{Piece, with_piece, made_of}
use Rattle.cx_vmods.specs.Combinational.{giving}
use Rattle.cx_vmods.specs.Clocked.{multiplier, divider}
use Rattle.cx_vmods.specs.Memories as memories
use Rattle.cx_vmods.specs.Modules.{constant_pieces, slice_pieces, pad_pieces, timer_pieces, memory_pieces, sequential_pieces, pieces_of}
use Rattle.cx_net.specs.NetLimits.{nets_inside}
use Rattle.cx_emit.proofs.CleanModules.{IsKept}
use Rattle.cx_emit.proofs.StatelessModules.{made, one_wide, constant_kept, wire_kept, complement_kept, slice_kept, pad_kept, operator_kept, shift_kept, signed_kept, mux_kept}
use Rattle.cx_emit.proofs.ClockedModules.{register_kept, timer_kept, multiplier_kept, divider_kept}
use Rattle.cx_emit.proofs.MemoryModules.{memory_kept, sequential_kept}
use Rattle.cx_prim.proofs.RowsLemmas.{where_true}
use Rattle.cx_text.proofs.BoolLaws.{and_left, and_right}

-- the arrays of a module, by what its row keeps
abbrev pub arrays_of : StateShape → List (ℕ × ℕ)
arrays_of NoState = []
arrays_of (RegisterOf width) = []
arrays_of (MemoryOf width count) = (width, count) ∷ []
arrays_of (SequentialMemoryOf width count) = (width, count) ∷ []
arrays_of (MultiplierOf width latency) = []
arrays_of (DividerOf width latency) = []
arrays_of (TimerOf length) = []

pub record Owes (before : List PlainModule) (name numbers : List ℕ) (pieces : List Piece) (row : Row) : Type 0 where
  pub kept : IsKept before (made name row pieces)
  pub nets : length (declared_nets (made_of pieces).decls) ≤ nets_inside row.shape
  pub words : declared_words (made_of pieces).decls ≤ shape_words row.shape
  pub few : length row.ports ≤ 9
  pub arrays : arrays_in (made_of pieces).decls ≡ arrays_of row.shape
  pub sizes : is_memory row.shape ≡ true → (0 < length (sizes_in numbers)) × (length (sizes_in numbers) ≤ 4)

length-addresses : (widths : List ℕ) → length (address_ports widths) ≤ 4
length-addresses [] = omega arith
length-addresses (a ∷ []) = omega arith
length-addresses (a ∷ b ∷ []) = omega arith
length-addresses (a ∷ b ∷ c ∷ []) = omega arith
length-addresses (a ∷ b ∷ c ∷ d ∷ widths) = omega arith

length-memory : (widths : List ℕ) (others : List PortRow) → length others ≤ 5 → length (address_ports widths ++ others) ≤ 9
length-memory widths others few = let addresses = length-addresses widths in let whole = length-append (address_ports widths) others in omega (arith, addresses, whole, few)

none_given : (b : Bool) (x y : PlainExpr) → (length (declared_nets (made_of (if b then giving x else giving y)).decls) ≤ 0) × (declared_words (made_of (if b then giving x else giving y)).decls ≤ 0) × (arrays_in (made_of (if b then giving x else giving y)).decls ≡ [])
unfolding with_piece
none_given true x y = (omega arith, omega arith, refl)
none_given false x y = (omega arith, omega arith, refl)

-- as many sizes as dimensions
few_sizes : (d w : ℕ) (rest : List ℕ) → 1 ≤ d → d ≤ 4 → length rest ≡ 2 * d → (0 < length (sizes_in (w ∷ rest))) × (length (sizes_in (w ∷ rest)) ≤ 4)
few_sizes d w rest some few counted =
    let half : length rest / 2 ≡ d = omega (arith, counted) in
    let sizes = length-take d rest in
    subst (λ n. (0 < length (take n rest)) × (length (take n rest) ≤ 4)) (sym half) (omega (arith, sizes, counted, some), omega (arith, sizes, counted, few))

module _ (before : List PlainModule) (name : List ℕ) (named : is_name name ≡ true) where
  at_width_owes : (make : ℕ → Row) (pieces : List ℕ → List Piece) → ((w : ℕ) → IsWidth w → Owes before name (w ∷ []) (pieces (w ∷ [])) (make w))
      → (numbers : List ℕ) → IsSome (at_width make numbers) → Owes before name numbers (pieces numbers) (unwrap_or (at_width make numbers) no_row)
  at_width_owes make pieces each [] there = absurd (let wrong : false ≡ true = there in cc)
  at_width_owes make pieces each (w ∷ []) there = where_true (Owes before name (w ∷ []) (pieces (w ∷ []))) (is_width w) (make w) there (λ test. each w (is_width_tells w test))
  at_width_owes make pieces each (w ∷ v ∷ rest) there = absurd (let wrong : false ≡ true = there in cc)

  constant_owes : (numbers : List ℕ) → IsSome (constant_at numbers) → Owes before name numbers (constant_pieces numbers) (unwrap_or (constant_at numbers) no_row)
  unfolding with_piece
  constant_owes [] there = absurd (let wrong : false ≡ true = there in cc)
  constant_owes (w ∷ []) there = absurd (let wrong : false ≡ true = there in cc)
  constant_owes (w ∷ v ∷ []) there =
      where_true (Owes before name (w ∷ v ∷ []) (constant_pieces (w ∷ v ∷ []))) (is_width w && nat_lt v (2 ^ w)) (constant_row w v) there
      (λ test. record { kept = constant_kept before name named w v (is_width_tells w (and_left (is_width w) (nat_lt v (2 ^ w)) test)); nets = omega arith; words = omega arith; few = omega arith; arrays = refl; sizes = λ e. absurd (cc) })
  constant_owes (w ∷ v ∷ x ∷ rest) there = absurd (let wrong : false ≡ true = there in cc)

  slice_owes : (numbers : List ℕ) → IsSome (slice_at numbers) → Owes before name numbers (slice_pieces numbers) (unwrap_or (slice_at numbers) no_row)
  unfolding with_piece
  slice_owes [] there = absurd (let wrong : false ≡ true = there in cc)
  slice_owes (w ∷ []) there = absurd (let wrong : false ≡ true = there in cc)
  slice_owes (w ∷ v ∷ []) there =
      where_true (Owes before name (w ∷ v ∷ []) (slice_pieces (w ∷ v ∷ []))) ((is_width w && is_width v) && nat_le v w) (unary_row w v (λ a. low_bits_of a v)) there
      (λ test.
      let widths = and_left (is_width w && is_width v) (nat_le v w) test in
      record {
        kept = slice_kept before name named w v (λ a. low_bits_of a v) (is_width_tells w (and_left (is_width w) (is_width v) widths)) (is_width_tells v (and_right (is_width w) (is_width v) widths))
            (leb-true v w (and_right (is_width w && is_width v) (nat_le v w) test));
        nets = omega arith;
        words = omega arith;
        few = omega arith;
        arrays = refl;
        sizes = λ e. absurd (cc);
      })
  slice_owes (w ∷ v ∷ x ∷ rest) there = absurd (let wrong : false ≡ true = there in cc)

  pad_owes : (numbers : List ℕ) → IsSome (pad_at numbers) → Owes before name numbers (pad_pieces numbers) (unwrap_or (pad_at numbers) no_row)
  pad_owes [] there = absurd (let wrong : false ≡ true = there in cc)
  pad_owes (w ∷ []) there = absurd (let wrong : false ≡ true = there in cc)
  pad_owes (w ∷ v ∷ []) there =
      where_true (Owes before name (w ∷ v ∷ []) (pad_pieces (w ∷ v ∷ []))) ((is_width w && is_width v) && nat_le w v) (unary_row w v (λ a. zero_extension_of a v)) there
      (λ test.
      let widths = and_left (is_width w && is_width v) (nat_le w v) test in
      let none = none_given (nat_le v w) _ _ in
      record {
        kept = pad_kept before name named w v (λ a. zero_extension_of a v) (is_width_tells w (and_left (is_width w) (is_width v) widths)) (is_width_tells v (and_right (is_width w) (is_width v) widths))
            (leb-true w v (and_right (is_width w && is_width v) (nat_le w v) test));
        nets = none.0;
        words = none.1;
        few = omega arith;
        arrays = none.2;
        sizes = λ e. absurd (cc);
      })
  pad_owes (w ∷ v ∷ x ∷ rest) there = absurd (let wrong : false ≡ true = there in cc)

  timer_owes : (numbers : List ℕ) → IsSome (timer_at numbers) → Owes before name numbers (timer_pieces numbers) (unwrap_or (timer_at numbers) no_row)
  unfolding with_piece
  timer_owes [] there = absurd (let wrong : false ≡ true = there in cc)
  timer_owes (n ∷ []) there =
      where_true (Owes before name (n ∷ []) (timer_pieces (n ∷ []))) (nat_le 1 n && nat_lt n (2 ^ 32)) (timer_row n) there
      (λ test. record { kept = timer_kept before name named n; nets = omega arith; words = omega arith; few = omega arith; arrays = refl; sizes = λ e. absurd (cc) })
  timer_owes (n ∷ x ∷ rest) there = absurd (let wrong : false ≡ true = there in cc)

  memory_owes : (d : ℕ) → 1 ≤ d → d ≤ 4 → (numbers : List ℕ) → IsSome (memory_at d memory_row numbers) → Owes before name numbers (memory_pieces d numbers) (unwrap_or (memory_at d memory_row numbers) no_row)
  unfolding with_piece memories.combinational
  memory_owes d some few [] there = absurd (let wrong : false ≡ true = there in cc)
  memory_owes d some few (w ∷ rest) there =
      where_true (Owes before name (w ∷ rest) (memory_pieces d (w ∷ rest))) ((is_width w && (length rest == 2 * d)) && (are_sizes (take d rest) && list_all is_address_width (drop d rest))) (memory_row w (take d rest) (drop d rest)) there
      (λ test. record { kept = memory_kept before name named w (take d rest) (drop d rest) (is_layout_tells d w rest few test); nets = omega arith; words = omega arith; few = length-memory (drop d rest) _ (omega arith); arrays = refl; sizes = λ e. few_sizes d w rest some few (eqb-true (length rest) (2 * d) (and_right (is_width w) (length rest == 2 * d) (and_left (is_width w && (length rest == 2 * d)) (are_sizes (take d rest) && list_all is_address_width (drop d rest)) test))) })

  sequential_owes : (d : ℕ) → 1 ≤ d → d ≤ 4 → (numbers : List ℕ) → IsSome (memory_at d sequential_memory_row numbers) → Owes before name numbers (sequential_pieces d numbers) (unwrap_or (memory_at d sequential_memory_row numbers) no_row)
  unfolding with_piece memories.sequential
  sequential_owes d some few [] there = absurd (let wrong : false ≡ true = there in cc)
  sequential_owes d some few (w ∷ rest) there =
      where_true (Owes before name (w ∷ rest) (sequential_pieces d (w ∷ rest))) ((is_width w && (length rest == 2 * d)) && (are_sizes (take d rest) && list_all is_address_width (drop d rest))) (sequential_memory_row w (take d rest) (drop d rest)) there
      (λ test. record { kept = sequential_kept before name named w (take d rest) (drop d rest) (is_layout_tells d w rest few test); nets = omega arith; words = omega arith; few = length-memory (drop d rest) _ (omega arith); arrays = refl; sizes = λ e. few_sizes d w rest some few (eqb-true (length rest) (2 * d) (and_right (is_width w) (length rest == 2 * d) (and_left (is_width w && (length rest == 2 * d)) (are_sizes (take d rest) && list_all is_address_width (drop d rest)) test))) })

  each_owes : (own : PrimitiveName) (numbers : List ℕ) → IsSome (row_at own numbers) → Owes before name numbers (pieces_of own numbers) (unwrap_or (row_at own numbers) no_row)
  unfolding with_piece multiplier divider
  each_owes Const numbers there = constant_owes numbers there
  each_owes Slice numbers there = slice_owes numbers there
  each_owes Pad numbers there = pad_owes numbers there
  each_owes Wire numbers there = at_width_owes _ (pieces_of Wire) (λ w ok. record { kept = wire_kept before name named w (λ a. a) ok; nets = omega arith; words = omega arith; few = omega arith; arrays = refl; sizes = λ e. absurd (cc) }) numbers there
  each_owes Not numbers there = at_width_owes _ (pieces_of Not) (λ w ok. record { kept = complement_kept before name named w complement_of ok; nets = omega arith; words = omega arith; few = omega arith; arrays = refl; sizes = λ e. absurd (cc) }) numbers there
  each_owes Add numbers there = at_width_owes _ (pieces_of Add) (λ w ok. record { kept = operator_kept before name named w w sum_of operators.Add ok ok refl; nets = omega arith; words = omega arith; few = omega arith; arrays = refl; sizes = λ e. absurd (cc) }) numbers there
  each_owes Sub numbers there = at_width_owes _ (pieces_of Sub) (λ w ok. record { kept = operator_kept before name named w w difference_of operators.Subtract ok ok refl; nets = omega arith; words = omega arith; few = omega arith; arrays = refl; sizes = λ e. absurd (cc) }) numbers there
  each_owes And numbers there = at_width_owes _ (pieces_of And) (λ w ok. record { kept = operator_kept before name named w w and_of operators.And ok ok refl; nets = omega arith; words = omega arith; few = omega arith; arrays = refl; sizes = λ e. absurd (cc) }) numbers there
  each_owes Or numbers there = at_width_owes _ (pieces_of Or) (λ w ok. record { kept = operator_kept before name named w w or_of operators.Or ok ok refl; nets = omega arith; words = omega arith; few = omega arith; arrays = refl; sizes = λ e. absurd (cc) }) numbers there
  each_owes Xor numbers there = at_width_owes _ (pieces_of Xor) (λ w ok. record { kept = operator_kept before name named w w xor_of operators.Xor ok ok refl; nets = omega arith; words = omega arith; few = omega arith; arrays = refl; sizes = λ e. absurd (cc) }) numbers there
  each_owes Lt numbers there = at_width_owes _ (pieces_of Lt) (λ w ok. record { kept = operator_kept before name named w 1 less_bit_of operators.Less ok one_wide refl; nets = omega arith; words = omega arith; few = omega arith; arrays = refl; sizes = λ e. absurd (cc) }) numbers there
  each_owes Gt numbers there = at_width_owes _ (pieces_of Gt) (λ w ok. record { kept = operator_kept before name named w 1 greater_bit_of operators.Greater ok one_wide refl; nets = omega arith; words = omega arith; few = omega arith; arrays = refl; sizes = λ e. absurd (cc) }) numbers there
  each_owes Equal numbers there = at_width_owes _ (pieces_of Equal) (λ w ok. record { kept = operator_kept before name named w 1 equal_bit_of operators.Equal ok one_wide refl; nets = omega arith; words = omega arith; few = omega arith; arrays = refl; sizes = λ e. absurd (cc) }) numbers there
  each_owes Neq numbers there = at_width_owes _ (pieces_of Neq) (λ w ok. record { kept = operator_kept before name named w 1 unequal_bit_of operators.NotEqual ok one_wide refl; nets = omega arith; words = omega arith; few = omega arith; arrays = refl; sizes = λ e. absurd (cc) }) numbers there
  each_owes Le numbers there = at_width_owes _ (pieces_of Le) (λ w ok. record { kept = operator_kept before name named w 1 at_most_bit_of operators.AtMost ok one_wide refl; nets = omega arith; words = omega arith; few = omega arith; arrays = refl; sizes = λ e. absurd (cc) }) numbers there
  each_owes Ge numbers there = at_width_owes _ (pieces_of Ge) (λ w ok. record { kept = operator_kept before name named w 1 at_least_bit_of operators.AtLeast ok one_wide refl; nets = omega arith; words = omega arith; few = omega arith; arrays = refl; sizes = λ e. absurd (cc) }) numbers there
  each_owes Seq numbers there = at_width_owes _ (pieces_of Seq) (λ w ok. record { kept = operator_kept before name named w 1 equal_bit_of operators.Equal ok one_wide refl; nets = omega arith; words = omega arith; few = omega arith; arrays = refl; sizes = λ e. absurd (cc) }) numbers there
  each_owes Sneq numbers there = at_width_owes _ (pieces_of Sneq) (λ w ok. record { kept = operator_kept before name named w 1 unequal_bit_of operators.NotEqual ok one_wide refl; nets = omega arith; words = omega arith; few = omega arith; arrays = refl; sizes = λ e. absurd (cc) }) numbers there
  each_owes Lsh numbers there = at_width_owes _ (pieces_of Lsh) (λ w ok. let none = none_given (nat_le w 32) _ _ in record { kept = shift_kept before name named w left_shift_of operators.ShiftLeft ok refl; nets = none.0; words = none.1; few = omega arith; arrays = none.2; sizes = λ e. absurd (cc) }) numbers there
  each_owes Rsh numbers there = at_width_owes _ (pieces_of Rsh) (λ w ok. let none = none_given (nat_le w 32) _ _ in record { kept = shift_kept before name named w right_shift_of operators.ShiftRight ok refl; nets = none.0; words = none.1; few = omega arith; arrays = none.2; sizes = λ e. absurd (cc) }) numbers there
  each_owes Slt numbers there = at_width_owes _ (pieces_of Slt) (λ w ok. record { kept = signed_kept before name named w signed_less_bit_of operators.Less ok refl; nets = omega arith; words = omega arith; few = omega arith; arrays = refl; sizes = λ e. absurd (cc) }) numbers there
  each_owes Sgt numbers there = at_width_owes _ (pieces_of Sgt) (λ w ok. record { kept = signed_kept before name named w signed_greater_bit_of operators.Greater ok refl; nets = omega arith; words = omega arith; few = omega arith; arrays = refl; sizes = λ e. absurd (cc) }) numbers there
  each_owes Sle numbers there = at_width_owes _ (pieces_of Sle) (λ w ok. record { kept = signed_kept before name named w signed_at_most_bit_of operators.AtMost ok refl; nets = omega arith; words = omega arith; few = omega arith; arrays = refl; sizes = λ e. absurd (cc) }) numbers there
  each_owes Sge numbers there = at_width_owes _ (pieces_of Sge) (λ w ok. record { kept = signed_kept before name named w signed_at_least_bit_of operators.AtLeast ok refl; nets = omega arith; words = omega arith; few = omega arith; arrays = refl; sizes = λ e. absurd (cc) }) numbers there
  each_owes Mux numbers there = at_width_owes _ (pieces_of Mux) (λ w ok. record { kept = mux_kept before name named w ok; nets = omega arith; words = omega arith; few = omega arith; arrays = refl; sizes = λ e. absurd (cc) }) numbers there
  each_owes Reg numbers there = at_width_owes _ (pieces_of Reg) (λ w ok. record { kept = register_kept before name named w ok; nets = omega arith; words = omega arith; few = omega arith; arrays = refl; sizes = λ e. absurd (cc) }) numbers there
  each_owes StdMemD1 numbers there = memory_owes 1 (omega arith) (omega arith) numbers there
  each_owes StdMemD2 numbers there = memory_owes 2 (omega arith) (omega arith) numbers there
  each_owes StdMemD3 numbers there = memory_owes 3 (omega arith) (omega arith) numbers there
  each_owes StdMemD4 numbers there = memory_owes 4 (omega arith) (omega arith) numbers there
  each_owes CombMemD1 numbers there = memory_owes 1 (omega arith) (omega arith) numbers there
  each_owes CombMemD2 numbers there = memory_owes 2 (omega arith) (omega arith) numbers there
  each_owes CombMemD3 numbers there = memory_owes 3 (omega arith) (omega arith) numbers there
  each_owes CombMemD4 numbers there = memory_owes 4 (omega arith) (omega arith) numbers there
  each_owes SeqMemD1 numbers there = sequential_owes 1 (omega arith) (omega arith) numbers there
  each_owes SeqMemD2 numbers there = sequential_owes 2 (omega arith) (omega arith) numbers there
  each_owes SeqMemD3 numbers there = sequential_owes 3 (omega arith) (omega arith) numbers there
  each_owes SeqMemD4 numbers there = sequential_owes 4 (omega arith) (omega arith) numbers there
  each_owes MultPipe numbers there = at_width_owes _ (pieces_of MultPipe) (λ w ok. record { kept = multiplier_kept before name named w ok; nets = omega arith; words = omega arith; few = omega arith; arrays = refl; sizes = λ e. absurd (cc) }) numbers there
  each_owes DivPipe numbers there = at_width_owes _ (pieces_of DivPipe) (λ w ok. record { kept = divider_kept before name named w ok; nets = omega arith; words = omega arith; few = omega arith; arrays = refl; sizes = λ e. absurd (cc) }) numbers there
  each_owes Timer numbers there = timer_owes numbers there

  -- of each primitive
  pub primitive_owes : (p : PrimitiveRow) → HasRow p → Owes before name p.numbers (pieces_of p.name p.numbers) (row_of p)
  primitive_owes p has = each_owes p.name p.numbers has
