-- A primitive holds something exactly where it has an enabling port.
use Rattle.std.proofs.Common.{◌≡◌, ℕ, zero, suc, ◌+◌, add-one, nat_eq, slice_get, ◌^◌, ◌&&◌, ◌||◌, Bool, true, false, not, nat_le, nat_lt, List, [], ◌∷◌, ◌++◌, Some, None, take, drop, refl, ap, ◌∙◌, sym, unwrap_or, if◌then◌else◌}
use Rattle.std.specs.List.{list_any}
use Rattle.std.proofs.lemmas.Bool.{or_right, or_parts, or_from}
use Rattle.std.proofs.lemmas.List.Folds.{list_any-append}
use Rattle.cx_prim.specs.declared.names.PrimitiveName.{PrimitiveName}
use Rattle.cx_prim.specs.declared.names.PrimitiveName.TheVariants.{Const, Wire, Add, Sub, And, Or, Xor, Not, Lsh, Rsh, Lt, Gt, Equal, Neq, Le, Ge, Slt, Sgt, Seq, Sneq, Sle, Sge, Slice, Pad, Mux, Reg, StdMemD1, StdMemD2, StdMemD3, StdMemD4, CombMemD1, CombMemD2, CombMemD3, CombMemD4, SeqMemD1, SeqMemD2, SeqMemD3, SeqMemD4, MultPipe, DivPipe, Timer}
use Rattle.cx_prim.specs.declared.ports.PortName.TheVariants.{WriteData, WriteEn, ContentEn, ReadData, Done}
use Rattle.cx_prim.specs.declared.ports.PortRow.{PortRow}
use Rattle.cx_prim.specs.Rows.{Row, is_enable_side, is_plain_side}
use Rattle.cx_bits.specs.Operators.{low_bits_of, zero_extension_of}
use Rattle.cx_prim.specs.Widths.{is_width}
use Rattle.cx_prim.specs.PipeRows.{timer_row}
use Rattle.cx_prim.specs.CombinationalRows.{constant_row, unary_row, enable_port, plain_port, output_port, registered_port}
use Rattle.cx_prim.specs.MemoryRows.{address_ports, memory_row, sequential_memory_row}
use Rattle.cx_prim.specs.Table.{PrimitiveRow, row_at, row_of, no_row, at_width, constant_at, slice_at, pad_at, memory_at, timer_at}
use Rattle.std.specs.Cmp.Lexicographic.{pointwise}
use Rattle.cx_numbering.specs.Names.{same_name}
use Rattle.cx_sharing.specs.Giving.{same_numbers}
use Rattle.cx_sharing.specs.Uses.{is_stateless, is_combinational}
use Rattle.cx_meaning.specs.Designs.{OfPrimitive}

abbrev Alike : Row → Type 0
Alike row = is_stateless row.shape ≡ not (list_any (λ port. is_enable_side port.side) row.ports)

alike_if : (b : Bool) (row : Row) → Alike row → Alike (unwrap_or (if b then Some row else None) no_row)
alike_if true row h = h
alike_if false row h = refl

alike_at_width : (make : ℕ → Row) → ((w : ℕ) → Alike (make w)) → (numbers : List ℕ) → Alike (unwrap_or (at_width make numbers) no_row)
alike_at_width make h [] = refl
alike_at_width make h (w ∷ []) = alike_if _ (make w) (h w)
alike_at_width make h (w ∷ v ∷ rest) = refl

alike_memory : (dimensions : ℕ) (make : ℕ → List ℕ → List ℕ → Row) → ((w : ℕ) (sizes widths : List ℕ) → Alike (make w sizes widths)) → (numbers : List ℕ)
    → Alike (unwrap_or (memory_at dimensions make numbers) no_row)
alike_memory dimensions make h [] = refl
alike_memory dimensions make h (w ∷ rest) = alike_if _ (make w (take dimensions rest) (drop dimensions rest)) (h w _ _)

alike_constant : (numbers : List ℕ) → Alike (unwrap_or (constant_at numbers) no_row)
alike_constant [] = refl
alike_constant (w ∷ []) = refl
alike_constant (w ∷ v ∷ []) = alike_if (is_width w && nat_lt v (2 ^ w)) (constant_row w v) refl
alike_constant (w ∷ v ∷ u ∷ rest) = refl

alike_slice : (numbers : List ℕ) → Alike (unwrap_or (slice_at numbers) no_row)
alike_slice [] = refl
alike_slice (w ∷ []) = refl
alike_slice (w ∷ v ∷ []) = alike_if ((is_width w && is_width v) && nat_le v w) (unary_row w v (λ a. low_bits_of a v)) refl
alike_slice (w ∷ v ∷ u ∷ rest) = refl

alike_pad : (numbers : List ℕ) → Alike (unwrap_or (pad_at numbers) no_row)
alike_pad [] = refl
alike_pad (w ∷ []) = refl
alike_pad (w ∷ v ∷ []) = alike_if ((is_width w && is_width v) && nat_le w v) (unary_row w v (λ a. zero_extension_of a v)) refl
alike_pad (w ∷ v ∷ u ∷ rest) = refl

alike_timer : (numbers : List ℕ) → Alike (unwrap_or (timer_at numbers) no_row)
alike_timer [] = refl
alike_timer (n ∷ []) = alike_if (nat_le 1 n && nat_lt n (2 ^ 32)) (timer_row n) refl
alike_timer (n ∷ m ∷ rest) = refl

-- behind the addresses an enabling port stands
behind_addresses : (ports more : List PortRow) → list_any (λ port. is_enable_side port.side) more ≡ true → false ≡ not (list_any (λ port. is_enable_side port.side) (ports ++ more))
behind_addresses ports more h =
    ap not (sym (list_any-append (λ port. is_enable_side port.side) ports more ∙ or_right (list_any (λ port. is_enable_side port.side) ports) _ h))

alike_memory_row : (w : ℕ) (sizes widths : List ℕ) → Alike (memory_row w sizes widths)
alike_memory_row w sizes widths = behind_addresses (address_ports widths) (plain_port WriteData w ∷ enable_port WriteEn ∷ output_port ReadData w ∷ registered_port Done 1 ∷ []) refl

alike_sequential_row : (w : ℕ) (sizes widths : List ℕ) → Alike (sequential_memory_row w sizes widths)
alike_sequential_row w sizes widths =
    behind_addresses (address_ports widths) (enable_port ContentEn ∷ enable_port WriteEn ∷ plain_port WriteData w ∷ registered_port ReadData w ∷ registered_port Done 1 ∷ []) refl

alike_by_name : (name : PrimitiveName) (numbers : List ℕ) → Alike (unwrap_or (row_at name numbers) no_row)
alike_by_name Const numbers = alike_constant numbers
alike_by_name Wire numbers = alike_at_width _ (λ w. refl) numbers
alike_by_name Not numbers = alike_at_width _ (λ w. refl) numbers
alike_by_name Add numbers = alike_at_width _ (λ w. refl) numbers
alike_by_name Sub numbers = alike_at_width _ (λ w. refl) numbers
alike_by_name And numbers = alike_at_width _ (λ w. refl) numbers
alike_by_name Or numbers = alike_at_width _ (λ w. refl) numbers
alike_by_name Xor numbers = alike_at_width _ (λ w. refl) numbers
alike_by_name Lsh numbers = alike_at_width _ (λ w. refl) numbers
alike_by_name Rsh numbers = alike_at_width _ (λ w. refl) numbers
alike_by_name Lt numbers = alike_at_width _ (λ w. refl) numbers
alike_by_name Gt numbers = alike_at_width _ (λ w. refl) numbers
alike_by_name Equal numbers = alike_at_width _ (λ w. refl) numbers
alike_by_name Neq numbers = alike_at_width _ (λ w. refl) numbers
alike_by_name Le numbers = alike_at_width _ (λ w. refl) numbers
alike_by_name Ge numbers = alike_at_width _ (λ w. refl) numbers
alike_by_name Slt numbers = alike_at_width _ (λ w. refl) numbers
alike_by_name Sgt numbers = alike_at_width _ (λ w. refl) numbers
alike_by_name Seq numbers = alike_at_width _ (λ w. refl) numbers
alike_by_name Sneq numbers = alike_at_width _ (λ w. refl) numbers
alike_by_name Sle numbers = alike_at_width _ (λ w. refl) numbers
alike_by_name Sge numbers = alike_at_width _ (λ w. refl) numbers
alike_by_name Slice numbers = alike_slice numbers
alike_by_name Pad numbers = alike_pad numbers
alike_by_name Mux numbers = alike_at_width _ (λ w. refl) numbers
alike_by_name Reg numbers = alike_at_width _ (λ w. refl) numbers
alike_by_name StdMemD1 numbers = alike_memory 1 memory_row alike_memory_row numbers
alike_by_name StdMemD2 numbers = alike_memory 2 memory_row alike_memory_row numbers
alike_by_name StdMemD3 numbers = alike_memory 3 memory_row alike_memory_row numbers
alike_by_name StdMemD4 numbers = alike_memory 4 memory_row alike_memory_row numbers
alike_by_name CombMemD1 numbers = alike_memory 1 memory_row alike_memory_row numbers
alike_by_name CombMemD2 numbers = alike_memory 2 memory_row alike_memory_row numbers
alike_by_name CombMemD3 numbers = alike_memory 3 memory_row alike_memory_row numbers
alike_by_name CombMemD4 numbers = alike_memory 4 memory_row alike_memory_row numbers
alike_by_name SeqMemD1 numbers = alike_memory 1 sequential_memory_row alike_sequential_row numbers
alike_by_name SeqMemD2 numbers = alike_memory 2 sequential_memory_row alike_sequential_row numbers
alike_by_name SeqMemD3 numbers = alike_memory 3 sequential_memory_row alike_sequential_row numbers
alike_by_name SeqMemD4 numbers = alike_memory 4 sequential_memory_row alike_sequential_row numbers
alike_by_name MultPipe numbers = alike_at_width _ (λ w. refl) numbers
alike_by_name DivPipe numbers = alike_at_width _ (λ w. refl) numbers
alike_by_name Timer numbers = alike_timer numbers

pub stateless_by_ports : (p : PrimitiveRow) → is_stateless (row_of p).shape ≡ not (list_any (λ port. is_enable_side port.side) (row_of p).ports)
stateless_by_ports p = alike_by_name p.name p.numbers

-- a port that passes a test, and one that does not
pub any_found : (test : PortRow → Bool) (ports : List PortRow) (n : ℕ) (port : PortRow) → slice_get ports n ≡ Some port → test port ≡ true → list_any test ports ≡ true
any_found test [] n port e h = absurd (cc)
any_found test (p ∷ ports) zero port e h = let same : p ≡ port = let f : Some p ≡ Some port = e in cc in ap (λ v. v || list_any test ports) (ap test same ∙ h)
any_found test (p ∷ ports) (suc n) port e h = or_right (test p) (list_any test ports) (any_found test ports n port e h)

none_more : (test : PortRow → Bool) (ports : List PortRow) (n : ℕ) (port : PortRow) → slice_get ports n ≡ Some port → test port ≡ false → list_any test (take n ports) ≡ false
    → list_any test (take (suc n) ports) ≡ false
none_more test [] n port e h before = absurd (cc)
none_more test (p ∷ ports) zero port e h before = let same : p ≡ port = let f : Some p ≡ Some port = e in cc in ap (λ v. v || false) (ap test same ∙ h)
none_more test (p ∷ ports) (suc n) port e h before =
    let parts = or_parts (test p) (list_any test (take n ports)) before in
    or_from (test p) (list_any test (take (suc n) ports)) parts.0 (none_more test ports n port e h parts.1)

pub none_next : (test : PortRow → Bool) (ports : List PortRow) (n : ℕ) (port : PortRow) → slice_get ports n ≡ Some port → test port ≡ false → list_any test (take n ports) ≡ false
    → list_any test (take (n + 1) ports) ≡ false
none_next test ports n port e h before = rw (add-one n) (none_more test ports n port e h before)

-- two equal texts and two equal lists of numbers
pub equal_names : (xs ys : List ℕ) → pointwise nat_eq xs ys ≡ same_name xs ys
equal_names [] [] = refl
equal_names [] (y ∷ ys) = refl
equal_names (x ∷ xs) [] = refl
equal_names (x ∷ xs) (y ∷ ys) = ap (λ v. nat_eq x y && v) (equal_names xs ys)

pub equal_numbers : (xs ys : List ℕ) → pointwise nat_eq xs ys ≡ same_numbers xs ys
equal_numbers [] [] = refl
equal_numbers [] (y ∷ ys) = refl
equal_numbers (x ∷ xs) [] = refl
equal_numbers (x ∷ xs) (y ∷ ys) = ap (λ v. nat_eq x y && v) (equal_numbers xs ys)

-- a primitive with an enabling port is none, and of the others those with an input are
pub combinational_by_ports : (p : PrimitiveRow) (enable plain : Bool) → enable ≡ list_any (λ port. is_enable_side port.side) (row_of p).ports
    → plain ≡ list_any (λ port. is_plain_side port.side) (row_of p).ports → (not enable && plain) ≡ is_combinational (OfPrimitive p)
combinational_by_ports p enable plain e f =
    ap (λ v. not v && plain) e ∙ ap (λ v. v && plain) (sym (stateless_by_ports p)) ∙ ap (λ v. is_stateless (row_of p).shape && v) f
