-- Each row of the table gives values of the widths of its outputs, whatever the values at its inputs, and its enabling
-- ports have one bit.
use Rattle.std.proofs.Common.{◌≡◌, ℕ, zero, suc, ◌+◌, ◌==◌, ◌&&◌, Bool, true, false, List, [], ◌∷◌, ◌++◌, Some, None, length, map, if◌then◌else◌, refl, sym, ap, ◌∙◌, arith}
use Rattle.std.specs.Prelude.{slice_get, is_none, option_map, option_and_then}
use Rattle.std.specs.List.{list_all}
use Rattle.std.proofs.lemmas.Bool.{eqb-true}
use Rattle.std.proofs.lemmas.Bool.Decides.{nat_tests}
use Rattle.cx_bits.specs.BitVector.{BitVector}
use Rattle.cx_bits.specs.Operators as operators
use Rattle.cx_prim.specs.declared.operators.UnaryOperator.{UnaryOperator}
use Rattle.cx_prim.specs.declared.operators.UnaryOperator.TheVariants as unary
use Rattle.cx_prim.specs.declared.operators.BinaryOperator.{BinaryOperator}
use Rattle.cx_prim.specs.declared.operators.BinaryOperator.TheVariants as binary
use Rattle.cx_prim.specs.declared.ports.PortName.{PortName}
use Rattle.cx_prim.specs.declared.ports.PortName.TheVariants as names
use Rattle.cx_prim.specs.declared.ports.PortRow.{PortRow}
use Rattle.cx_prim.specs.declared.ports.Side.{Side}
use Rattle.cx_prim.specs.declared.ports.Side.TheVariants.{Enable}
use Rattle.cx_prim.specs.CellStates.{CellState, Memory, IsState}
use Rattle.cx_prim.specs.Rows.{Inputs, input, Row, is_output_side, is_enable_side, IsLawful}
use Rattle.cx_prim.specs.Widths.{IsWidth}
use Rattle.cx_prim.specs.Operators.{apply_unary, IsUnary, apply_binary, binary_out_width}
use Rattle.cx_prim.specs.CombinationalRows.{plain_port, output_port, registered_port, constant_row, unary_row, binary_row, mux_row, chosen}
use Rattle.cx_prim.specs.CombinationalLaws.{not_output, port_width, mapped_some, chained_some, passes_at}
use Rattle.cx_prim.specs.OperatorWidths.{constant_lawful}
use Rattle.cx_prim.specs.RegisterRow.{register_row}
use Rattle.cx_prim.proofs.RegisterLaws.{register_lawful}
use Rattle.cx_prim.specs.MemoryRows.{IsLayout, ports_named, first_beyond, have_addresses, memory_read, memory_row, sequential_memory_row}
use Rattle.cx_prim.proofs.MemoryLaws.{MemoryOutput, is_read, is_done, memory_outputs, sequential_lawful}
use Rattle.cx_prim.specs.PipeRows.{multiplier_row, divider_row, timer_row}
use Rattle.cx_prim.proofs.PipeLaws.{multiplier_lawful, divider_lawful, timer_lawful}
use Rattle.cx_prim.specs.Table.{PrimitiveRow, no_row, row_of}
use Rattle.cx_prim.proofs.TableCases.{OfEachKind, of_row}
use Rattle.cx_text.proofs.NumberLaws.{is_at}
use Rattle.cx_bits.proofs.BitVectorLemmas.{none_is, some_read}

-- each value is as wide as its port
pub record AreWide (list : List PortRow) (inputs : Inputs) : Type 0 where
  pub each : (n : ℕ) (port : PortRow) (b : BitVector) → slice_get list n ≡ Some port → input inputs n ≡ Some b → b.width ≡ port.width

abbrev pub GivesWide : Row → Type 0
GivesWide r =
    (state : CellState) (inputs : Inputs) (n : ℕ) (port : PortRow) (b : BitVector) → IsState r.shape state → AreWide r.ports inputs
    → slice_get r.ports n ≡ Some port → is_output_side port.side ≡ true → r.output state inputs n ≡ Some b → b.width ≡ port.width

-- an enabling port has one bit
abbrev is_narrow : PortRow → Bool
is_narrow port = if is_enable_side port.side then port.width == 1 else true

pub record HasWidths (r : Row) : Type 0 where
  pub outputs : GivesWide r
  pub narrow : list_all is_narrow r.ports ≡ true

pub enable_width : (r : Row) → HasWidths r → (n : ℕ) (port : PortRow) → slice_get r.ports n ≡ Some port → port.side ≡ Enable → port.width ≡ 1
enable_width r has n port at enables =
    let passes : is_narrow port ≡ true = passes_at is_narrow r.ports n port has.narrow at in
    let test : (if is_enable_side port.side then port.width == 1 else true) ≡ (port.width == 1) = ap (λ (side : Side). if is_enable_side side then port.width == 1 else true) enables in
    eqb-true port.width 1 (sym test ∙ passes)

-- a row whose outputs do not look at inputs
abbrev blank : List PortRow → Inputs
blank list = map (λ port. None) list

blank_none : (list : List PortRow) (n : ℕ) → input (blank list) n ≡ None
blank_none [] n = refl
blank_none (port ∷ list) zero = refl
blank_none (port ∷ list) (suc n) = blank_none list n

blank_length : (list : List PortRow) → length (blank list) ≡ length list
blank_length [] = refl
blank_length (port ∷ list) = ap suc (blank_length list)

without_inputs : (r : Row) → IsLawful r → ((state : CellState) (inputs : Inputs) (n : ℕ) → r.output state inputs n ≡ r.output state (blank r.ports) n) → GivesWide r
without_inputs r lawful alike state inputs n port b of_row wide at out e =
    (lawful.widths state (blank r.ports) n port b of_row
    (record { count = blank_length r.ports; widths = λ m q v there is. absurd (none_is (input (blank r.ports) m) v (blank_none r.ports m) is) })
    (λ m v is. absurd (none_is (input (blank r.ports) m) v (blank_none r.ports m) is))
    at out (sym (alike state inputs n) ∙ e)).same_width

-- rows without state
abbrev Widens : ℕ → ℕ → (BitVector → BitVector) → Type 0
Widens w v f = (a : BitVector) → a.width ≡ w → (f a).width ≡ v

abbrev Joins : ℕ → ℕ → (BitVector → BitVector → BitVector) → Type 0
Joins w v f = (a b : BitVector) → a.width ≡ w → (f a b).width ≡ v

unary_wide : (w v : ℕ) (f : BitVector → BitVector) → Widens w v f → GivesWide (unary_row w v f)
unary_wide w v f gives state inputs zero port b of_row wide at out e = absurd (not_output _ port at refl out)
unary_wide w v f gives state inputs (suc zero) port b of_row wide at out e =
    let found = mapped_some f (input inputs 0) b e in
    ap (λ (x : BitVector). x.width) (sym found.2) ∙ gives found.0 (wide.each 0 (plain_port names.In w) found.0 refl found.1) ∙ sym (port_width _ port at)
unary_wide w v f gives state inputs (suc (suc n)) port b of_row wide at out e = absurd (cc)

binary_wide : (w v : ℕ) (f : BitVector → BitVector → BitVector) → Joins w v f → GivesWide (binary_row w v f)
binary_wide w v f gives state inputs zero port b of_row wide at out e = absurd (not_output _ port at refl out)
binary_wide w v f gives state inputs (suc zero) port b of_row wide at out e = absurd (not_output _ port at refl out)
binary_wide w v f gives state inputs (suc (suc zero)) port b of_row wide at out e =
    let left = chained_some (λ l. option_map (f l) (input inputs 1)) (input inputs 0) b e in
    let right = mapped_some (f left.0) (input inputs 1) b left.2 in
    ap (λ (x : BitVector). x.width) (sym right.2) ∙ gives left.0 right.0 (wide.each 0 (plain_port names.Left w) left.0 refl left.1) ∙ sym (port_width _ port at)
binary_wide w v f gives state inputs (suc (suc (suc n))) port b of_row wide at out e = absurd (cc)

chosen_wide : (w : ℕ) (c a b : BitVector) → a.width ≡ w → b.width ≡ w → (chosen c a b).width ≡ w
chosen_wide w c a b e h = elim (c.value == 1) as (λ t. (if t then a else b).width ≡ w) [ true ↦ e | false ↦ h ]

mux_wide : (w : ℕ) → GivesWide (mux_row w)
mux_wide w state inputs zero port b of_row wide at out e = absurd (not_output _ port at refl out)
mux_wide w state inputs (suc zero) port b of_row wide at out e = absurd (not_output _ port at refl out)
mux_wide w state inputs (suc (suc zero)) port b of_row wide at out e = absurd (not_output _ port at refl out)
mux_wide w state inputs (suc (suc (suc zero))) port b of_row wide at out e =
    let cond = chained_some (λ c. option_and_then (λ t. option_map (chosen c t) (input inputs 2)) (input inputs 1)) (input inputs 0) b e in
    let tru = chained_some (λ t. option_map (chosen cond.0 t) (input inputs 2)) (input inputs 1) b cond.2 in
    let fal = mapped_some (chosen cond.0 tru.0) (input inputs 2) b tru.2 in
    ap (λ (x : BitVector). x.width) (sym fal.2)
    ∙ chosen_wide w cond.0 tru.0 fal.0 (wide.each 1 (plain_port names.Tru w) tru.0 refl tru.1) (wide.each 2 (plain_port names.Fal w) fal.0 refl fal.1)
    ∙ sym (port_width _ port at)
mux_wide w state inputs (suc (suc (suc (suc n)))) port b of_row wide at out e = absurd (cc)

not_at : (n m : ℕ) → n ≡ suc m → (n == m) ≡ false
not_at n m e = grind (arith, nat_tests)

same_width_of : (a b : BitVector) (p q : PortRow) → Some a ≡ Some b → p ≡ q → a.width ≡ p.width → b.width ≡ q.width
same_width_of a b p q e f h = let one : a ≡ b = cc in ap (λ (x : BitVector). x.width) (sym one) ∙ h ∙ ap (λ (x : PortRow). x.width) f

memory_wide : (w : ℕ) (sizes address_widths : List ℕ) → IsLayout w sizes address_widths → GivesWide (memory_row w sizes address_widths)
memory_wide w sizes address_widths layout (Memory words done) inputs n port b of_row wide at out e = by_output (memory_outputs w sizes address_widths n port layout at out)
  where
    by_output : MemoryOutput w (length sizes) n port → b.width ≡ port.width
    by_output (is_read number same) =
        let read : memory_read w sizes words inputs ≡ Some b = sym (ap (λ (t : Bool). if t then memory_read w sizes words inputs else Some (operators.bit_of done)) (is_at n (length sizes + 2) number)) ∙ e in
        same_width_of _ b (output_port names.ReadData w) port (some_read (have_addresses sizes 0 inputs && is_none (first_beyond sizes 0 inputs)) _ b read) same refl
    by_output (is_done number same) =
        let one : Some (operators.bit_of done) ≡ Some b = sym (ap (λ (t : Bool). if t then memory_read w sizes words inputs else Some (operators.bit_of done)) (not_at n (length sizes + 2) (omega arith))) ∙ e in
        same_width_of (operators.bit_of done) b (registered_port names.Done 1) port one same refl
memory_wide w sizes address_widths layout state inputs n port b of_row wide at out e = absurd of_row

addresses_narrow : (list : List PortName) (widths : List ℕ) (rest : List PortRow) → list_all is_narrow rest ≡ true → list_all is_narrow (ports_named list widths ++ rest) ≡ true
addresses_narrow [] widths rest h = h
addresses_narrow (name ∷ list) [] rest h = h
addresses_narrow (name ∷ list) (w ∷ widths) rest h = addresses_narrow list widths rest h

memory_has : (w : ℕ) (sizes address_widths : List ℕ) → IsLayout w sizes address_widths → HasWidths (memory_row w sizes address_widths)
memory_has w sizes address_widths layout = record { outputs = memory_wide w sizes address_widths layout; narrow = addresses_narrow (names.Addr0 ∷ names.Addr1 ∷ names.Addr2 ∷ names.Addr3 ∷ []) address_widths _ refl }

sequential_has : (w : ℕ) (sizes address_widths : List ℕ) → IsLayout w sizes address_widths → HasWidths (sequential_memory_row w sizes address_widths)
sequential_has w sizes address_widths layout = record {
  outputs = without_inputs (sequential_memory_row w sizes address_widths) (sequential_lawful w sizes address_widths layout) (λ state inputs n. refl);
  narrow = addresses_narrow (names.Addr0 ∷ names.Addr1 ∷ names.Addr2 ∷ names.Addr3 ∷ []) address_widths _ refl;
}

-- other rows
constant_has : (w v : ℕ) → IsLawful (constant_row w v) → HasWidths (constant_row w v)
constant_has w v lawful = record { outputs = without_inputs (constant_row w v) lawful (λ state inputs n. refl); narrow = refl }

unary_has : (w v : ℕ) (f : BitVector → BitVector) → Widens w v f → HasWidths (unary_row w v f)
unary_has w v f gives = record { outputs = unary_wide w v f gives; narrow = refl }

binary_has : (w v : ℕ) (f : BitVector → BitVector → BitVector) → Joins w v f → HasWidths (binary_row w v f)
binary_has w v f gives = record { outputs = binary_wide w v f gives; narrow = refl }

mux_has : (w : ℕ) → HasWidths (mux_row w)
mux_has w = record { outputs = mux_wide w; narrow = refl }

register_has : (w : ℕ) → IsWidth w → HasWidths (register_row w)
register_has w ok = record { outputs = without_inputs (register_row w) (register_lawful w ok) (λ state inputs n. refl); narrow = refl }

multiplier_has : (w : ℕ) → IsWidth w → HasWidths (multiplier_row w)
multiplier_has w ok = record { outputs = without_inputs (multiplier_row w) (multiplier_lawful w ok) (λ state inputs n. refl); narrow = refl }

divider_has : (w : ℕ) → IsWidth w → HasWidths (divider_row w)
divider_has w ok = record { outputs = without_inputs (divider_row w) (divider_lawful w ok) (λ state inputs n. refl); narrow = refl }

timer_has : (length : ℕ) → IsLawful (timer_row length) → HasWidths (timer_row length)
timer_has length lawful = record { outputs = without_inputs (timer_row length) lawful (λ state inputs n. refl); narrow = refl }

none_has : HasWidths no_row
none_has = record { outputs = λ state inputs n port b of_row wide at out e. absurd (cc); narrow = refl }

-- operators
unary_widens : (operator : UnaryOperator) (w v : ℕ) → IsUnary operator w v → Widens w v (apply_unary operator v)
unary_widens unary.Wire w v takes a e = e ∙ eqb-true w v takes.taken
unary_widens unary.Not w v takes a e = e ∙ eqb-true w v takes.taken
unary_widens unary.Slice w v takes a e = refl
unary_widens unary.Pad w v takes a e = refl

binary_joins : (operator : BinaryOperator) (w : ℕ) → Joins w (binary_out_width operator w) (apply_binary operator)
binary_joins binary.Add w a b e = e
binary_joins binary.Sub w a b e = e
binary_joins binary.And w a b e = e
binary_joins binary.Or w a b e = e
binary_joins binary.Xor w a b e = e
binary_joins binary.Lsh w a b e = e
binary_joins binary.Rsh w a b e = e
binary_joins binary.Lt w a b e = refl
binary_joins binary.Gt w a b e = refl
binary_joins binary.Equal w a b e = refl
binary_joins binary.Neq w a b e = refl
binary_joins binary.Le w a b e = refl
binary_joins binary.Ge w a b e = refl
binary_joins binary.Slt w a b e = refl
binary_joins binary.Sgt w a b e = refl
binary_joins binary.Sle w a b e = refl
binary_joins binary.Sge w a b e = refl

-- the table
each_kind_has_widths : OfEachKind HasWidths
each_kind_has_widths = record {
  none = none_has;
  constant = λ w v fits. constant_has w v (constant_lawful w v fits);
  unary = λ operator w v takes. unary_has w v _ (unary_widens operator w v takes);
  binary = λ operator w ok. binary_has w _ _ (binary_joins operator w);
  mux = λ w ok. mux_has w;
  register = register_has;
  memory = memory_has;
  sequential = sequential_has;
  multiplier = multiplier_has;
  divider = divider_has;
  timer = λ n some most. timer_has n (timer_lawful n some most);
}

-- the row of a primitive has widths
pub row_has : (p : PrimitiveRow) → HasWidths (row_of p)
row_has p = of_row HasWidths each_kind_has_widths p
