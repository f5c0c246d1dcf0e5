-- THE PORT THAT STARTS A CELL is an enabling port of its row.
use Rattle.std.specs.Prelude.{◌≡◌, ◌<◌, ℕ, suc, ◌+◌, true, List, [], ◌∷◌, ◌++◌, Option, Some, None, length, refl}
use Rattle.std.proofs.Common.{sym, ap, ◌∙◌, subst, arith, length-append}
use Rattle.cx_prim.specs.declared.ports.PortName.TheVariants as names
use Rattle.cx_prim.specs.declared.ports.PortRow.{PortRow}
use Rattle.cx_prim.specs.Rows.{Row, is_enable_side}
use Rattle.cx_prim.specs.CombinationalRows.{enable_port, plain_port, output_port, registered_port}
use Rattle.cx_prim.specs.RegisterRow.{register_row}
use Rattle.cx_prim.specs.MemoryRows.{address_ports, memory_row, sequential_memory_row}
use Rattle.cx_prim.specs.PipeRows.{multiplier_row, divider_row, timer_row}
use Rattle.cx_prim.specs.Table.{PrimitiveRow, row_of}
use Rattle.cx_prim.proofs.TableCases.{of_row}
use Rattle.cx_meaning.specs.Rows.{side_from, side_of}
use Rattle.cx_promotion.specs.Promotable.{first_named, or_else, starting_port}
use Rattle.cx_promotion.proofs.RowPorts.{first_behind, no_content, no_write, addresses}
use Rattle.cx_text.proofs.OptionLaws.{same_some}
use Rattle.cx_promotion.proofs.Impossible.{no_some}

abbrev pub IsStart : Row → ℕ → Type 0
IsStart row e = (is_enable_side (side_of row e) ≡ true) × (e < length row.ports)

abbrev pub Starts : Row → Type 0
Starts row = (e : ℕ) → starting_port row ≡ Some e → IsStart row e

at_start : (row : Row) (k e : ℕ) → Some k ≡ Some e → IsStart row k → IsStart row e
at_start row k e same h = subst (IsStart row) (same_some k e same) h

side_behind : (xs ys : List PortRow) (q : ℕ) → side_from (xs ++ ys) (length xs + q) ≡ side_from ys q
side_behind [] ys q = ap (side_from ys) (omega arith)
side_behind (x ∷ xs) ys q = let e : length (x ∷ xs) + q ≡ suc (length xs + q) = omega arith in ap (side_from (x ∷ (xs ++ ys))) e ∙ side_behind xs ys q

module _ (xs ys : List PortRow) (q : ℕ) (enable : is_enable_side (side_from ys q) ≡ true) (lt : q < length ys) where
  behind_start : (is_enable_side (side_from (xs ++ ys) (length xs + q)) ≡ true) × (length xs + q < length (xs ++ ys))
  behind_start = (ap is_enable_side (side_behind xs ys q) ∙ enable, let e : length (xs ++ ys) ≡ length xs + length ys = length-append xs ys in omega (arith, lt))

register_starts : (w : ℕ) → Starts (register_row w)
register_starts w e is = at_start (register_row w) 1 e is (refl, omega arith)

multiplier_starts : (w : ℕ) → Starts (multiplier_row w)
multiplier_starts w e is = at_start (multiplier_row w) 0 e is (refl, omega arith)

divider_starts : (w : ℕ) → Starts (divider_row w)
divider_starts w e is = at_start (divider_row w) 0 e is (refl, omega arith)

timer_starts : (m : ℕ) → Starts (timer_row m)
timer_starts m e is = at_start (timer_row m) 0 e is (refl, omega arith)

module _ (w : ℕ) (sizes address_widths : List ℕ) where
  abbrev xs : List PortRow
  xs = address_ports address_widths

  abbrev tail : List PortRow
  tail = plain_port names.WriteData w ∷ enable_port names.WriteEn ∷ output_port names.ReadData w ∷ registered_port names.Done 1 ∷ []

  memory_starts : Starts (memory_row w sizes address_widths)
  memory_starts e start =
      let none : first_named names.ContentEn (xs ++ tail) 0 ≡ None = first_behind names.ContentEn addresses address_widths tail 0 no_content in
      let some : first_named names.WriteEn (xs ++ tail) 0 ≡ Some (suc (0 + length xs)) = first_behind names.WriteEn addresses address_widths tail 0 no_write in
      let is : starting_port (memory_row w sizes address_widths) ≡ Some (suc (0 + length xs)) =
      ap (λ (o : Option ℕ). or_else o (or_else (first_named names.WriteEn (xs ++ tail) 0) (first_named names.Go (xs ++ tail) 0))) none
      ∙ ap (λ (o : Option ℕ). or_else o (first_named names.Go (xs ++ tail) 0)) some in
      let same : length xs + 1 ≡ suc (0 + length xs) = omega arith in
      at_start (memory_row w sizes address_widths) (length xs + 1) e (ap Some same ∙ sym is ∙ start) (behind_start xs tail 1 refl (omega arith))

  abbrev end : List PortRow
  end = enable_port names.ContentEn ∷ enable_port names.WriteEn ∷ plain_port names.WriteData w ∷ registered_port names.ReadData w ∷ registered_port names.Done 1 ∷ []

  sequential_starts : Starts (sequential_memory_row w sizes address_widths)
  sequential_starts e start =
      let some : first_named names.ContentEn (xs ++ end) 0 ≡ Some (0 + length xs) = first_behind names.ContentEn addresses address_widths end 0 no_content in
      let is : starting_port (sequential_memory_row w sizes address_widths) ≡ Some (0 + length xs) =
      ap (λ (o : Option ℕ). or_else o (or_else (first_named names.WriteEn (xs ++ end) 0) (first_named names.Go (xs ++ end) 0))) some in
      let same : length xs + 0 ≡ 0 + length xs = omega arith in
      at_start (sequential_memory_row w sizes address_widths) (length xs + 0) e (ap Some same ∙ sym is ∙ start) (behind_start xs end 0 refl (omega arith))

pub row_starts : (p : PrimitiveRow) → Starts (row_of p)
row_starts = of_row Starts (record {
  none = λ e is. no_some e is;
  constant = λ w v fits e is. no_some e is;
  unary = λ operator w v all e is. no_some e is;
  binary = λ operator w all e is. no_some e is;
  mux = λ w all e is. no_some e is;
  register = λ w all. register_starts w;
  memory = λ w sizes address_widths layout. memory_starts w sizes address_widths;
  sequential = λ w sizes address_widths layout. sequential_starts w sizes address_widths;
  multiplier = λ w all. multiplier_starts w;
  divider = λ w all. divider_starts w;
  timer = λ m some few. timer_starts m;
})
