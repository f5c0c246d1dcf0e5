-- THE CYCLES OF A ROW that is started in each of them: from rest as many as its kind takes, done only after the last, and then ready again.
use Rattle.std.specs.Prelude.{◌≡◌, ◌⊎◌, ◌≤◌, ℕ, zero, suc, ◌+◌, ◌==◌, Bool, true, false, List, [], ◌∷◌, ◌++◌, Option, Some, None, length, if◌then◌else◌, refl}
use Rattle.std.proofs.Common.{sym, ap, ◌∙◌, subst, arith, inl, inr}
use Rattle.std.proofs.lemmas.Bool.{eqb-true}
use Rattle.std.proofs.lemmas.Bool.Decides.{nat_tests}
use Rattle.cx_bits.specs.Operators.{bit_of}
use Rattle.cx_prim.specs.declared.ports.PortName.TheVariants as names
use Rattle.cx_prim.specs.CellStates.{CellState, Register, Memory, SequentialMemory, Multiplier, Divider, Timer, PipeRun, StateShape, RegisterOf, MemoryOf, SequentialMemoryOf, MultiplierOf, DividerOf, TimerOf}
use Rattle.cx_prim.specs.Rows.{Inputs, value_at, is_on, Row}
use Rattle.cx_prim.specs.declared.ports.PortRow.{PortRow}
use Rattle.cx_prim.specs.CombinationalRows.{enable_port, plain_port, output_port, registered_port}
use Rattle.cx_prim.specs.Widths.{IsWidth}
use Rattle.cx_prim.specs.RegisterRow.{register_row}
use Rattle.cx_prim.specs.MemoryRows.{IsLayout, address_ports, memory_row, sequential_memory_row}
use Rattle.cx_prim.specs.PipeRows.{multiplier_row, divider_row, holding, is_last, advanced, stopped}
use Rattle.cx_prim.specs.Table.{PrimitiveRow, row_of}
use Rattle.cx_prim.proofs.TableCases.{of_row}
use Rattle.cx_promotion.specs.Promotable.{is_named, first_named, or_else, starting_port, cycles_of}
use Rattle.cx_promotion.proofs.RowPorts.{first_behind, spot_of, Spot, before, behind, no_done, no_content, no_write, addresses}
use Rattle.cx_text.proofs.BoolLaws.{not_both}
use Rattle.cx_text.proofs.OptionLaws.{same_some}
use Rattle.cx_promotion.proofs.Impossible.{no_true, no_some}
use Rattle.cx_prim.proofs.MemoryLaws.{address_count}

-- READY: a pipe of the row that has gone no cycle, or any other state
abbrev pub IsReady : StateShape → CellState → Type 0
IsReady (MultiplierOf width latency) (Multiplier run product) = run.count ≡ 0
IsReady (DividerOf width latency) (Divider run quotient remainder) = run.count ≡ 0
IsReady (TimerOf length) (Timer count done) = count ≡ 0
IsReady _ _ = Unit {0}

-- SO MANY CYCLES ARE LEFT: none, if the cell is done, and then it is ready
abbrev pub FlagLeft : ℕ → Bool → Type 0
FlagLeft zero done = done ≡ true
FlagLeft (suc k) done = (done ≡ false) × (k ≡ 0)

abbrev pub PipeLeft : ℕ → ℕ → PipeRun → Type 0
PipeLeft latency zero run = (run.count ≡ 0) × (run.done ≡ true)
PipeLeft latency (suc k) run = (run.done ≡ false) × (run.count + suc k ≡ latency)

-- a state that is not of the row has no done
abbrev pub NoneLeft : ℕ → Type 0
NoneLeft zero = ⊥
NoneLeft (suc k) = Unit {0}

abbrev pub HasLeft : StateShape → ℕ → CellState → Type 0
HasLeft (RegisterOf width) k (Register value done) = FlagLeft k done
HasLeft (MemoryOf width count) k (Memory words done) = FlagLeft k done
HasLeft (SequentialMemoryOf width count) k (SequentialMemory words read_data done) = FlagLeft k done
HasLeft (MultiplierOf width latency) k (Multiplier run product) = PipeLeft latency k run
HasLeft (DividerOf width latency) k (Divider run quotient remainder) = PipeLeft latency k run
HasLeft _ k _ = NoneLeft k

-- a row that takes n cycles where port e is 1 in each, and whose port p is its done
pub record Counts (row : Row) (e p n : ℕ) : Type 0 where
  pub some : 1 ≤ n
  pub begins : (d : CellState) → row.idle d ≡ d → HasLeft row.shape n d
  pub waits : (k : ℕ) (d : CellState) → HasLeft row.shape (suc k) d → (row.output d [] p ≡ Some (bit_of false)) ⊎ (row.output d [] p ≡ None)
  pub stops : (d : CellState) → HasLeft row.shape 0 d → (row.output d [] p ≡ Some (bit_of true)) × IsReady row.shape d
  pub goes_on : (k : ℕ) (d : CellState) (inputs : Inputs) → HasLeft row.shape (suc k) d → row.output d [] p ≡ Some (bit_of false) → is_on inputs e ≡ true
      → HasLeft row.shape k (row.next d inputs)

when_on : {A : Type 0} (P : A → Type 0) (b : Bool) (x y : A) → b ≡ true → P x → P (if b then x else y)
when_on P b x y e h = subst (λ (t : Bool). P (if t then x else y)) (sym e) h

-- one cycle
flag_goes : (k : ℕ) (done : Bool) → FlagLeft (suc k) done → FlagLeft k true
flag_goes zero done left = refl
flag_goes (suc k) done left = absurd (let wrong : suc k ≡ 0 = left.1 in omega arith)

flag_waits : (k : ℕ) (done : Bool) → FlagLeft (suc k) done → Some (bit_of done) ≡ Some (bit_of false)
flag_waits k done left = ap (λ b. Some (bit_of b)) left.0

register_value : (a b : ℕ) (x y : Bool) → Register a x ≡ Register b y → x ≡ y
register_value a b x y e = cc

register_begins : (w : ℕ) (d : CellState) → (register_row w).idle d ≡ d → HasLeft (RegisterOf w) 1 d
register_begins w (Register value done) e = (sym (register_value value value false done e), refl)
register_begins w d e = tt

register_waits : (w k : ℕ) (d : CellState) → HasLeft (RegisterOf w) (suc k) d → ((register_row w).output d [] 3 ≡ Some (bit_of false)) ⊎ ((register_row w).output d [] 3 ≡ None)
register_waits w k (Register value done) left = inl (flag_waits k done left)
register_waits w k d left = inr refl

register_stops : (w : ℕ) (d : CellState) → HasLeft (RegisterOf w) 0 d → ((register_row w).output d [] 3 ≡ Some (bit_of true)) × IsReady (RegisterOf w) d
register_stops w (Register value done) left = (ap (λ b. Some (bit_of b)) left, tt)
register_stops w d left = absurd left

register_goes : (w k : ℕ) (d : CellState) (inputs : Inputs) → HasLeft (RegisterOf w) (suc k) d → (register_row w).output d [] 3 ≡ Some (bit_of false) → is_on inputs 1 ≡ true
    → HasLeft (RegisterOf w) k ((register_row w).next d inputs)
register_goes w k (Register value done) inputs left out on = when_on (HasLeft (RegisterOf w) k) (is_on inputs 1) (Register (value_at inputs 0) true) (Register value false) on (flag_goes k done left)
register_goes w k d inputs left out on = no_some (bit_of false) out

register_counts : (w : ℕ) → Counts (register_row w) 1 3 1
register_counts w = record { some = omega arith; begins = register_begins w; waits = register_waits w; stops = register_stops w; goes_on = register_goes w }

-- memories
three_two : (d : ℕ) → (d + 3 == d + 2) ≡ false
three_two d = grind (arith, nat_tests)

four_three : (d : ℕ) → (d + 4 == d + 3) ≡ false
four_three d = grind (arith, nat_tests)

when_off : {A : Type 0} (b : Bool) (x y z : A) → b ≡ false → y ≡ z → (if b then x else y) ≡ z
when_off b x y z e h = ap (λ (t : Bool). if t then x else y) e ∙ h

module _ (w : ℕ) (sizes address_widths : List ℕ) where
  abbrev done_port : ℕ
  done_port = length sizes + 3

  abbrev row : Row
  row = memory_row w sizes address_widths

  memory_value : (a b : List ℕ) (x y : Bool) → Memory a x ≡ Memory b y → x ≡ y
  memory_value a b x y e = cc

  memory_begins : (d : CellState) → row.idle d ≡ d → HasLeft row.shape 1 d
  memory_begins (Memory words done) e = (sym (memory_value words words false done e), refl)
  memory_begins d e = tt

  memory_waits : (k : ℕ) (d : CellState) → HasLeft row.shape (suc k) d → (row.output d [] done_port ≡ Some (bit_of false)) ⊎ (row.output d [] done_port ≡ None)
  memory_waits k (Memory words done) left = inl (when_off _ _ _ _ (three_two (length sizes)) (flag_waits k done left))
  memory_waits k d left = inr refl

  memory_stops : (d : CellState) → HasLeft row.shape 0 d → (row.output d [] done_port ≡ Some (bit_of true)) × IsReady row.shape d
  memory_stops (Memory words done) left = (when_off _ _ _ _ (three_two (length sizes)) (ap (λ b. Some (bit_of b)) left), tt)
  memory_stops d left = absurd left

  memory_goes : (k : ℕ) (d : CellState) (inputs : Inputs) → HasLeft row.shape (suc k) d → row.output d [] done_port ≡ Some (bit_of false) → is_on inputs (length sizes + 1) ≡ true
      → HasLeft row.shape k (row.next d inputs)
  memory_goes k (Memory words done) inputs left out on = when_on (HasLeft row.shape k) (is_on inputs (length sizes + 1)) _ (Memory words false) on (flag_goes k done left)
  memory_goes k d inputs left out on = no_some (bit_of false) out

  memory_counts : Counts row (length sizes + 1) done_port 1
  memory_counts = record { some = omega arith; begins = memory_begins; waits = memory_waits; stops = memory_stops; goes_on = memory_goes }

module _ (w : ℕ) (sizes address_widths : List ℕ) where
  abbrev last_port : ℕ
  last_port = length sizes + 4

  abbrev sequential : Row
  sequential = sequential_memory_row w sizes address_widths

  sequential_value : (a b : List ℕ) (m n : ℕ) (x y : Bool) → SequentialMemory a m x ≡ SequentialMemory b n y → x ≡ y
  sequential_value a b m n x y e = cc

  sequential_begins : (d : CellState) → sequential.idle d ≡ d → HasLeft sequential.shape 1 d
  sequential_begins (SequentialMemory words read_data done) e = (sym (sequential_value words words read_data read_data false done e), refl)
  sequential_begins d e = tt

  sequential_waits : (k : ℕ) (d : CellState) → HasLeft sequential.shape (suc k) d → (sequential.output d [] last_port ≡ Some (bit_of false)) ⊎ (sequential.output d [] last_port ≡ None)
  sequential_waits k (SequentialMemory words read_data done) left =
      inl (ap Some (when_off (length sizes + 4 == length sizes + 3) (record { width = w; value = read_data }) (bit_of done) (bit_of false) (four_three (length sizes)) (ap bit_of left.0)))
  sequential_waits k d left = inr refl

  sequential_stops : (d : CellState) → HasLeft sequential.shape 0 d → (sequential.output d [] last_port ≡ Some (bit_of true)) × IsReady sequential.shape d
  sequential_stops (SequentialMemory words read_data done) left =
      (ap Some (when_off (length sizes + 4 == length sizes + 3) (record { width = w; value = read_data }) (bit_of done) (bit_of true) (four_three (length sizes)) (ap bit_of left)), tt)
  sequential_stops d left = absurd left

  sequential_goes : (k : ℕ) (d : CellState) (inputs : Inputs) → HasLeft sequential.shape (suc k) d → sequential.output d [] last_port ≡ Some (bit_of false) → is_on inputs (length sizes) ≡ true
      → HasLeft sequential.shape k (sequential.next d inputs)
  sequential_goes k (SequentialMemory words read_data done) inputs left out on =
      when_on (HasLeft sequential.shape k) (is_on inputs (length sizes)) _ (SequentialMemory words read_data false) on (accessed (is_on inputs (length sizes + 1)) _ _)
    where
      accessed : (b : Bool) (ws : List ℕ) (m : ℕ) → HasLeft sequential.shape k (if b then SequentialMemory ws read_data true else SequentialMemory words m true)
      accessed true ws m = flag_goes k done left
      accessed false ws m = flag_goes k done left
  sequential_goes k d inputs left out on = no_some (bit_of false) out

  sequential_counts : Counts sequential (length sizes) last_port 1
  sequential_counts = record { some = omega arith; begins = sequential_begins; waits = sequential_waits; stops = sequential_stops; goes_on = sequential_goes }

-- pipes
pipe_begins : (latency : ℕ) (run : PipeRun) → 1 ≤ latency → run.count ≡ 0 → run.done ≡ false → PipeLeft latency latency run
pipe_begins zero run some count done = absurd (omega arith)
pipe_begins (suc k) run some count done = (done, ap (λ c. c + suc k) count ∙ omega arith)

-- one cycle more of a pipe, which may take its operands first
module _ (latency k : ℕ) (run : PipeRun) (left : PipeLeft latency (suc k) run) where
  going : (b : Bool) → is_last latency run ≡ b → PipeLeft latency k (if b then record run { count = 0; done = true } else record run { count = run.count + 1; done = false })
  going true last = no_more k left
    where
      none : (j : ℕ) → PipeLeft latency (suc (suc j)) run → ⊥
      none j l = let e : run.count + 1 ≡ latency = eqb-true (run.count + 1) latency last in let f : run.count + suc (suc j) ≡ latency = l.1 in omega arith

      no_more : (j : ℕ) → PipeLeft latency (suc j) run → PipeLeft latency j (record run { count = 0; done = true })
      no_more zero l = (refl, refl)
      no_more (suc j) l = absurd (none j l)
  going false last = more k left
    where
      more : (j : ℕ) → PipeLeft latency (suc j) run → PipeLeft latency j (record run { count = run.count + 1; done = false })
      more zero l = absurd (let e : run.count + 1 ≡ latency = l.1 in grind (arith, nat_tests, last))
      more (suc j) l = (refl, let f : run.count + suc (suc j) ≡ latency = l.1 in omega arith)

  pipe_goes : PipeLeft latency k (advanced latency run)
  pipe_goes = going (is_last latency run) refl

-- what is held counts as it does
held_left : (latency k : ℕ) (run : PipeRun) (inputs : Inputs) → PipeLeft latency (suc k) run → PipeLeft latency (suc k) (holding run inputs)
held_left latency k run inputs left = either (run.count == 0)
  where
    either : (b : Bool) → PipeLeft latency (suc k) (if b then record run { left = value_at inputs 1; right = value_at inputs 2 } else run)
    either true = left
    either false = left

module _ (w : ℕ) where
  multiplier_same : (a b : PipeRun) (x y : ℕ) → Multiplier a x ≡ Multiplier b y → a ≡ b
  multiplier_same a b x y e = cc

  multiplier_begins : (d : CellState) → (multiplier_row w).idle d ≡ d → HasLeft (MultiplierOf w 3) 3 d
  multiplier_begins (Multiplier run product) e =
      let same : stopped run ≡ run = multiplier_same (stopped run) run product product e in
      pipe_begins 3 run (omega arith) (sym (ap (λ (r : PipeRun). r.count) same)) (sym (ap (λ (r : PipeRun). r.done) same))
  multiplier_begins d e = tt

  multiplier_waits : (k : ℕ) (d : CellState) → HasLeft (MultiplierOf w 3) (suc k) d → ((multiplier_row w).output d [] 4 ≡ Some (bit_of false)) ⊎ ((multiplier_row w).output d [] 4 ≡ None)
  multiplier_waits k (Multiplier run product) left = inl (ap (λ b. Some (bit_of b)) left.0)
  multiplier_waits k d left = inr refl

  multiplier_stops : (d : CellState) → HasLeft (MultiplierOf w 3) 0 d → ((multiplier_row w).output d [] 4 ≡ Some (bit_of true)) × IsReady (MultiplierOf w 3) d
  multiplier_stops (Multiplier run product) left = (ap (λ b. Some (bit_of b)) left.1, left.0)
  multiplier_stops d left = absurd left

  multiplier_goes : (k : ℕ) (d : CellState) (inputs : Inputs) → HasLeft (MultiplierOf w 3) (suc k) d → (multiplier_row w).output d [] 4 ≡ Some (bit_of false) → is_on inputs 0 ≡ true
      → HasLeft (MultiplierOf w 3) k ((multiplier_row w).next d inputs)
  multiplier_goes k (Multiplier run product) inputs left out on =
      when_on (HasLeft (MultiplierOf w 3) k) (is_on inputs 0) _ (Multiplier (stopped run) product) on (pipe_goes 3 k (holding run inputs) (held_left 3 k run inputs left))
  multiplier_goes k d inputs left out on = no_some (bit_of false) out

  multiplier_counts : Counts (multiplier_row w) 0 4 3
  multiplier_counts = record { some = omega arith; begins = multiplier_begins; waits = multiplier_waits; stops = multiplier_stops; goes_on = multiplier_goes }

module _ (w : ℕ) (some_bits : 1 ≤ w) where
  divider_same : (a b : PipeRun) (x y m n : ℕ) → Divider a x m ≡ Divider b y n → a ≡ b
  divider_same a b x y m n e = cc

  divider_begins : (d : CellState) → (divider_row w).idle d ≡ d → HasLeft (DividerOf w w) w d
  divider_begins (Divider run q r) e =
      let same : stopped run ≡ run = divider_same (stopped run) run q q r r e in
      pipe_begins w run some_bits (sym (ap (λ (p : PipeRun). p.count) same)) (sym (ap (λ (p : PipeRun). p.done) same))
  divider_begins d e = other_begins w some_bits
    where
      other_begins : (n : ℕ) → 1 ≤ n → NoneLeft n
      other_begins zero some = absurd (omega arith)
      other_begins (suc n) some = tt

  divider_waits : (k : ℕ) (d : CellState) → HasLeft (DividerOf w w) (suc k) d → ((divider_row w).output d [] 5 ≡ Some (bit_of false)) ⊎ ((divider_row w).output d [] 5 ≡ None)
  divider_waits k (Divider run q r) left = inl (ap (λ b. Some (bit_of b)) left.0)
  divider_waits k d left = inr refl

  divider_stops : (d : CellState) → HasLeft (DividerOf w w) 0 d → ((divider_row w).output d [] 5 ≡ Some (bit_of true)) × IsReady (DividerOf w w) d
  divider_stops (Divider run q r) left = (ap (λ b. Some (bit_of b)) left.1, left.0)
  divider_stops d left = absurd left

  divider_goes : (k : ℕ) (d : CellState) (inputs : Inputs) → HasLeft (DividerOf w w) (suc k) d → (divider_row w).output d [] 5 ≡ Some (bit_of false) → is_on inputs 0 ≡ true
      → HasLeft (DividerOf w w) k ((divider_row w).next d inputs)
  divider_goes k (Divider run q r) inputs left out on =
      when_on (HasLeft (DividerOf w w) k) (is_on inputs 0) _ (Divider (stopped run) q r) on (of_last (is_last w (holding run inputs)) _ _)
    where
      of_last : (b : Bool) (x y : ℕ) → HasLeft (DividerOf w w) k (if b then Divider (advanced w (holding run inputs)) x y else Divider (advanced w (holding run inputs)) q r)
      of_last true x y = pipe_goes w k (holding run inputs) (held_left w k run inputs left)
      of_last false x y = pipe_goes w k (holding run inputs) (held_left w k run inputs left)
  divider_goes k d inputs left out on = no_some (bit_of false) out

  divider_counts : Counts (divider_row w) 0 5 w
  divider_counts = record { some = some_bits; begins = divider_begins; waits = divider_waits; stops = divider_stops; goes_on = divider_goes }

-- EVERY ROW counts so, from the port that starts it to its done
abbrev pub RowCounts : Row → Type 0
RowCounts row = (e p n : ℕ) → is_named names.Done row.ports p ≡ true → starting_port row ≡ Some e → cycles_of row.shape ≡ Some n → Counts row e p n

counts_at : (row : Row) (e p n f q m : ℕ) → e ≡ f → p ≡ q → n ≡ m → Counts row e p n → Counts row f q m
counts_at row e p n f q m one two three c = subst (λ x. Counts row x q m) one (subst (λ x. Counts row e x m) two (subst (λ x. Counts row e p x) three c))

of_register : (w : ℕ) → RowCounts (register_row w)
of_register w e zero n done start cycles = no_true done
of_register w e (suc zero) n done start cycles = no_true done
of_register w e (suc (suc zero)) n done start cycles = no_true done
of_register w e (suc (suc (suc zero))) n done start cycles = counts_at (register_row w) 1 3 1 e 3 n (same_some 1 e start) refl (same_some 1 n cycles) (register_counts w)
of_register w e (suc (suc (suc (suc p)))) n done start cycles = no_true done

of_multiplier : (w : ℕ) → RowCounts (multiplier_row w)
of_multiplier w e zero n done start cycles = no_true done
of_multiplier w e (suc zero) n done start cycles = no_true done
of_multiplier w e (suc (suc zero)) n done start cycles = no_true done
of_multiplier w e (suc (suc (suc zero))) n done start cycles = no_true done
of_multiplier w e (suc (suc (suc (suc zero)))) n done start cycles = counts_at (multiplier_row w) 0 4 3 e 4 n (same_some 0 e start) refl (same_some 3 n cycles) (multiplier_counts w)
of_multiplier w e (suc (suc (suc (suc (suc p))))) n done start cycles = no_true done

of_divider : (w : ℕ) → IsWidth w → RowCounts (divider_row w)
of_divider w width e zero n done start cycles = no_true done
of_divider w width e (suc zero) n done start cycles = no_true done
of_divider w width e (suc (suc zero)) n done start cycles = no_true done
of_divider w width e (suc (suc (suc zero))) n done start cycles = no_true done
of_divider w width e (suc (suc (suc (suc zero)))) n done start cycles = no_true done
of_divider w width e (suc (suc (suc (suc (suc zero))))) n done start cycles = counts_at (divider_row w) 0 5 w e 5 n (same_some 0 e start) refl (same_some w n cycles) (divider_counts w width.some_bits)
of_divider w width e (suc (suc (suc (suc (suc (suc p)))))) n done start cycles = no_true done

-- of a memory
module _ (w : ℕ) (sizes address_widths : List ℕ) (layout : IsLayout w sizes address_widths) where
  abbrev xs : List PortRow
  xs = address_ports address_widths

  count : length xs ≡ length sizes
  count = address_count w sizes address_widths layout

  abbrev tail : List PortRow
  tail = plain_port names.WriteData w ∷ enable_port names.WriteEn ∷ output_port names.ReadData w ∷ registered_port names.Done 1 ∷ []

  memory_start : (e : ℕ) → starting_port (memory_row w sizes address_widths) ≡ Some e → length sizes + 1 ≡ e
  memory_start e start =
      let no : first_named names.ContentEn (xs ++ tail) 0 ≡ None = first_behind names.ContentEn addresses address_widths tail 0 no_content in
      let yes : first_named names.WriteEn (xs ++ tail) 0 ≡ Some (suc (0 + length xs)) = first_behind names.WriteEn addresses address_widths tail 0 no_write in
      let is : starting_port (memory_row w sizes address_widths) ≡ Some (suc (0 + length xs)) =
      ap (λ (o : Option ℕ). or_else o (or_else (first_named names.WriteEn (xs ++ tail) 0) (first_named names.Go (xs ++ tail) 0))) no
      ∙ ap (λ (o : Option ℕ). or_else o (first_named names.Go (xs ++ tail) 0)) yes in
      let same : suc (0 + length xs) ≡ e = same_some (suc (0 + length xs)) e (sym is ∙ start) in
      omega (arith, count)

  memory_place : (p : ℕ) → is_named names.Done (xs ++ tail) p ≡ true → Spot names.Done xs tail p → length sizes + 3 ≡ p
  memory_place p done (before lt side none) = absurd (not_both (is_named names.Done (xs ++ tail) p) done none)
  memory_place p done (behind zero at side same) = no_true (sym same ∙ done)
  memory_place p done (behind (suc zero) at side same) = no_true (sym same ∙ done)
  memory_place p done (behind (suc (suc zero)) at side same) = no_true (sym same ∙ done)
  memory_place p done (behind (suc (suc (suc zero))) at side same) = let e : p ≡ length xs + 3 = at in omega (arith, count)
  memory_place p done (behind (suc (suc (suc (suc q)))) at side same) = no_true (sym same ∙ done)

  of_memory : RowCounts (memory_row w sizes address_widths)
  of_memory e p n done start cycles =
      counts_at (memory_row w sizes address_widths) (length sizes + 1) (length sizes + 3) 1 e p n
      (memory_start e start) (memory_place p done (spot_of names.Done addresses address_widths tail p no_done)) (same_some 1 n cycles) (memory_counts w sizes address_widths)

  abbrev end : List PortRow
  end = enable_port names.ContentEn ∷ enable_port names.WriteEn ∷ plain_port names.WriteData w ∷ registered_port names.ReadData w ∷ registered_port names.Done 1 ∷ []

  sequential_start : (e : ℕ) → starting_port (sequential_memory_row w sizes address_widths) ≡ Some e → length sizes ≡ e
  sequential_start e start =
      let yes : first_named names.ContentEn (xs ++ end) 0 ≡ Some (0 + length xs) = first_behind names.ContentEn addresses address_widths end 0 no_content in
      let is : starting_port (sequential_memory_row w sizes address_widths) ≡ Some (0 + length xs) =
      ap (λ (o : Option ℕ). or_else o (or_else (first_named names.WriteEn (xs ++ end) 0) (first_named names.Go (xs ++ end) 0))) yes in
      let same : 0 + length xs ≡ e = same_some (0 + length xs) e (sym is ∙ start) in
      omega (arith, count)

  sequential_place : (p : ℕ) → is_named names.Done (xs ++ end) p ≡ true → Spot names.Done xs end p → length sizes + 4 ≡ p
  sequential_place p done (before lt side none) = absurd (not_both (is_named names.Done (xs ++ end) p) done none)
  sequential_place p done (behind zero at side same) = no_true (sym same ∙ done)
  sequential_place p done (behind (suc zero) at side same) = no_true (sym same ∙ done)
  sequential_place p done (behind (suc (suc zero)) at side same) = no_true (sym same ∙ done)
  sequential_place p done (behind (suc (suc (suc zero))) at side same) = no_true (sym same ∙ done)
  sequential_place p done (behind (suc (suc (suc (suc zero)))) at side same) = let e : p ≡ length xs + 4 = at in omega (arith, count)
  sequential_place p done (behind (suc (suc (suc (suc (suc q))))) at side same) = no_true (sym same ∙ done)

  of_sequential : RowCounts (sequential_memory_row w sizes address_widths)
  of_sequential e p n done start cycles =
      counts_at (sequential_memory_row w sizes address_widths) (length sizes) (length sizes + 4) 1 e p n
      (sequential_start e start) (sequential_place p done (spot_of names.Done addresses address_widths end p no_done)) (same_some 1 n cycles) (sequential_counts w sizes address_widths)

pub row_counts : (p : PrimitiveRow) → RowCounts (row_of p)
row_counts = of_row RowCounts (record {
  none = λ e p n done start cycles. no_some n cycles;
  constant = λ w v fits e p n done start cycles. no_some n cycles;
  unary = λ operator w v is e p n done start cycles. no_some n cycles;
  binary = λ operator w is e p n done start cycles. no_some n cycles;
  mux = λ w is e p n done start cycles. no_some n cycles;
  register = λ w is. of_register w;
  memory = of_memory;
  sequential = of_sequential;
  multiplier = λ w is. of_multiplier w;
  divider = of_divider;
  timer = λ m some few e p n done start cycles. no_some n cycles;
})
