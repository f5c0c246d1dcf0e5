-- The rows of memories keep the laws of a row.
use Rattle.std.specs.Prelude.{◌≡◌, ℕ, zero, suc, ◌+◌, ◌*◌, ◌<◌, ◌≤◌, ◌^◌, ◌==◌, ◌&&◌, ◌||◌, not, Bool, true, false, List, [], ◌∷◌, ◌++◌, Option, Some, None, IsSome, is_some, is_none, nat_lt, slice_get, slice_index, slice_set, length, replicate, if◌then◌else◌, refl, All}
use Rattle.std.proofs.Common.{ap, sym, ◌∙◌, subst, arith}
use Rattle.std.proofs.lemmas.Nat.{pow_pos}
use Rattle.std.proofs.lemmas.Bool.{eqb-true, ltb-true}
use Rattle.std.proofs.lemmas.Bool.Decides.{nat_tests}
use Rattle.std.proofs.Math.ListN.{length-replicate, get_or-replicate, get_or-eq_default}
use Rattle.std.proofs.lemmas.List.{length-set}
use Rattle.std.proofs.lemmas.Option.{slice_get_within}
use Rattle.std.proofs.lemmas.List.Elements.{All-set, All-get_or}
use Rattle.cx_bits.specs.BitVector.{BitVector}
use Rattle.cx_bits.specs.Operators.{bit_of}
use Rattle.cx_bits.proofs.OperatorLaws.{Fits-bit_of}
use Rattle.cx_text.specs.Loading.{word_count}
use Rattle.cx_prim.specs.declared.ports.PortName.{PortName}
use Rattle.cx_prim.specs.declared.ports.PortRow.{PortRow}
use Rattle.cx_prim.specs.declared.ports.PortName.TheVariants.{Addr0, Addr1, Addr2, Addr3, WriteData, WriteEn, ContentEn, ReadData, Done}
use Rattle.cx_prim.specs.declared.ports.Side.TheVariants.{Plain, Output, Registered}
use Rattle.cx_prim.specs.CellStates.{CellState, Memory, SequentialMemory, IsState, MemoryOf, SequentialMemoryOf, AreWords}
use Rattle.cx_prim.specs.Rows.{Inputs, input, number_of, value_at, is_on, edge_of, AgreesWhereLooked, KeepsRegistered, LooksWhereDemanded, DemandsByEnabling, RangesArePorts, GivesWidths, ReadsOnly, AnswersStrictly, is_output_side, IsOfWidth, IsLawful}
use Rattle.cx_prim.specs.CombinationalRows.{enable_port, plain_port, output_port, registered_port}
use Rattle.cx_prim.specs.CombinationalLaws.{not_output}
use Rattle.cx_prim.specs.MemoryRows.{IsLayout, ports_named, address_ports, first_beyond, word_number, have_addresses, word_at, written, memory_read, memory_output, memory_idle, memory_write, memory_row, sequential_output, sequential_idle, sequential_access, sequential_memory_row}
use Rattle.cx_prim.proofs.RowTools.{out_fits, number_fits, if-same_else, if-each, value_at_fits}
use Rattle.cx_text.proofs.ListLaws.{behind}
use Rattle.cx_text.proofs.NumberLaws.{is_at}
use Rattle.cx_bits.proofs.BitVectorLemmas.{some_read}
use Rattle.cx_text.proofs.BoolLaws.{and_left, and_right}

-- ports

-- there are as many address ports as dimensions
pub length-ports_named : (names : List PortName) (widths : List ℕ) → length widths ≤ length names → length (ports_named names widths) ≡ length widths
length-ports_named [] [] few = refl
length-ports_named [] (w ∷ widths) few = absurd (omega arith)
length-ports_named (name ∷ names) [] few = refl
length-ports_named (name ∷ names) (w ∷ widths) few = ap suc (length-ports_named names widths (omega arith))

pub record IsAfter (xs ys : List PortRow) (n : ℕ) (port : PortRow) : Type 0 where
  pub places : ℕ
  pub number : n ≡ length xs + places
  pub there : slice_get ys places ≡ Some port

-- an output stands after the plain ports
pub output_after_plain : (names : List PortName) (widths : List ℕ) (ys : List PortRow) (n : ℕ) (port : PortRow) → slice_get (ports_named names widths ++ ys) n ≡ Some port → is_output_side port.side ≡ true
    → IsAfter (ports_named names widths) ys n port
output_after_plain [] widths ys n port at out = record { places = n; number = omega arith; there = at }
output_after_plain (name ∷ names) [] ys n port at out = record { places = n; number = omega arith; there = at }
output_after_plain (name ∷ names) (w ∷ widths) ys zero port at out = absurd (not_output _ port at refl out)
output_after_plain (name ∷ names) (w ∷ widths) ys (suc n) port at out =
    let rest = output_after_plain names widths ys n port at out in
    record { places = rest.places; number = let h = rest.number in omega arith; there = rest.there }

pub record IsPlainAt (ports : List PortRow) (n : ℕ) : Type 0 where
  pub port : PortRow
  pub there : slice_get ports n ≡ Some port
  pub plain : port.side ≡ Plain

-- each address port is plain
pub plain_before : (names : List PortName) (widths : List ℕ) (ys : List PortRow) (n : ℕ) → n < length (ports_named names widths) → IsPlainAt (ports_named names widths ++ ys) n
plain_before [] widths ys n below = absurd (omega arith)
plain_before (name ∷ names) [] ys n below = absurd (omega arith)
plain_before (name ∷ names) (w ∷ widths) ys zero below = record { port = plain_port name w; there = refl; plain = refl }
plain_before (name ∷ names) (w ∷ widths) ys (suc n) below = let rest = plain_before names widths ys n (omega arith) in record { port = rest.port; there = rest.there; plain = rest.plain }

-- what the addresses give

-- the same stands at the ports from n on, as many as there are sizes
abbrev pub SameAddresses : List ℕ → ℕ → Inputs → Inputs → Type 0
SameAddresses sizes n inputs others = (m : ℕ) → n ≤ m → m < n + length sizes → input inputs m ≡ input others m

later_same : (size : ℕ) (sizes : List ℕ) (n : ℕ) (inputs others : Inputs) → SameAddresses (size ∷ sizes) n inputs others → SameAddresses sizes (n + 1) inputs others
later_same size sizes n inputs others same m low high = same m (omega arith) (omega arith)

pub first_beyond_same : (sizes : List ℕ) (n : ℕ) (inputs others : Inputs) → SameAddresses sizes n inputs others → first_beyond sizes n inputs ≡ first_beyond sizes n others
first_beyond_same [] n inputs others same = refl
first_beyond_same (size ∷ sizes) n inputs others same =
    let here : input inputs n ≡ input others n = same n (omega arith) (omega arith) in
    let rest = first_beyond_same sizes (n + 1) inputs others (later_same size sizes n inputs others same) in
    ap (λ (i : Option BitVector). if nat_lt (number_of i) size then first_beyond sizes (n + 1) inputs else Some n) here
    ∙ ap (λ (o : Option ℕ). if nat_lt (value_at others n) size then o else Some n) rest

pub word_number_same : (sizes : List ℕ) (n : ℕ) (inputs others : Inputs) → SameAddresses sizes n inputs others → word_number sizes n inputs ≡ word_number sizes n others
word_number_same [] n inputs others same = refl
word_number_same (size ∷ sizes) n inputs others same =
    let here : input inputs n ≡ input others n = same n (omega arith) (omega arith) in
    let rest = word_number_same sizes (n + 1) inputs others (later_same size sizes n inputs others same) in
    ap (λ (i : Option BitVector). number_of i * word_count sizes + word_number sizes (n + 1) inputs) here
    ∙ ap (λ (k : ℕ). value_at others n * word_count sizes + k) rest

pub have_addresses_same : (sizes : List ℕ) (n : ℕ) (inputs others : Inputs) → SameAddresses sizes n inputs others → have_addresses sizes n inputs ≡ have_addresses sizes n others
have_addresses_same [] n inputs others same = refl
have_addresses_same (size ∷ sizes) n inputs others same =
    let here : input inputs n ≡ input others n = same n (omega arith) (omega arith) in
    let rest = have_addresses_same sizes (n + 1) inputs others (later_same size sizes n inputs others same) in
    ap (λ (i : Option BitVector). is_some i && have_addresses sizes (n + 1) inputs) here ∙ ap (λ (b : Bool). is_some (input others n) && b) rest

pub memory_read_same : (w : ℕ) (sizes words : List ℕ) (inputs others : Inputs) → SameAddresses sizes 0 inputs others → memory_read w sizes words inputs ≡ memory_read w sizes words others
memory_read_same w sizes words inputs others same =
    ap (λ (have : Bool). if have && is_none (first_beyond sizes 0 inputs) then Some (record { width = w; value = slice_index words (word_number sizes 0 inputs) }) else None) (have_addresses_same sizes 0 inputs others same)
    ∙ ap (λ (o : Option ℕ). if have_addresses sizes 0 others && is_none o then Some (record { width = w; value = slice_index words (word_number sizes 0 inputs) }) else None) (first_beyond_same sizes 0 inputs others same)
    ∙ ap (λ (k : ℕ). if have_addresses sizes 0 others && is_none (first_beyond sizes 0 others) then Some (record { width = w; value = slice_index words k }) else None) (word_number_same sizes 0 inputs others same)

pub written_same : (sizes : List ℕ) (inputs others : Inputs) (word : ℕ) (words : List ℕ) → SameAddresses sizes 0 inputs others → written sizes inputs word words ≡ written sizes others word words
written_same sizes inputs others word words same =
    ap (λ (o : Option ℕ). if is_none o then slice_set words (word_number sizes 0 inputs) word else words) (first_beyond_same sizes 0 inputs others same)
    ∙ ap (λ (k : ℕ). if is_none (first_beyond sizes 0 others) then slice_set words k word else words) (word_number_same sizes 0 inputs others same)

pub word_at_same : (sizes : List ℕ) (inputs others : Inputs) (words : List ℕ) → SameAddresses sizes 0 inputs others → word_at sizes inputs words ≡ word_at sizes others words
word_at_same sizes inputs others words same =
    ap (λ (o : Option ℕ). if is_none o then slice_index words (word_number sizes 0 inputs) else 0) (first_beyond_same sizes 0 inputs others same)
    ∙ ap (λ (k : ℕ). if is_none (first_beyond sizes 0 others) then slice_index words k else 0) (word_number_same sizes 0 inputs others same)

-- an address that is no value
pub have_addresses_none : (sizes : List ℕ) (n m : ℕ) (inputs : Inputs) → n ≤ m → m < n + length sizes → input inputs m ≡ None → have_addresses sizes n inputs ≡ false
have_addresses_none [] n m inputs low high none = absurd (omega arith)
have_addresses_none (size ∷ sizes) n m inputs low high none =
    by_place (n == m) refl (λ later. have_addresses_none sizes (n + 1) m inputs later (omega arith) none)
  where
    here : n ≡ m → is_some (input inputs n) ≡ false
    here e = ap is_some (ap (input inputs) e ∙ none)

    false_left : (a b : Bool) → a ≡ false → (a && b) ≡ false
    false_left true b h = absurd (cc)
    false_left false b h = refl

    false_right : (a b : Bool) → b ≡ false → (a && b) ≡ false
    false_right true b h = h
    false_right false b h = refl

    by_place : (b : Bool) → (n == m) ≡ b → (n + 1 ≤ m → have_addresses sizes (n + 1) inputs ≡ false) → (is_some (input inputs n) && have_addresses sizes (n + 1) inputs) ≡ false
    by_place true e rest = false_left _ _ (here (eqb-true n m e))
    by_place false e rest = false_right _ _ (rest (grind (arith, nat_tests, e)))

pub have_addresses_all : (sizes : List ℕ) (n : ℕ) (inputs : Inputs) → ((m : ℕ) → n ≤ m → m < n + length sizes → IsSome (input inputs m)) → have_addresses sizes n inputs ≡ true
have_addresses_all [] n inputs all = refl
have_addresses_all (size ∷ sizes) n inputs all =
    both_true (is_some (input inputs n)) (have_addresses sizes (n + 1) inputs) (all n (omega arith) (omega arith))
    (have_addresses_all sizes (n + 1) inputs (λ m low high. all m (omega arith) (omega arith)))
  where
    both_true : (a b : Bool) → a ≡ true → b ≡ true → (a && b) ≡ true
    both_true true b ha hb = hb
    both_true false b ha hb = ha

-- words

pub All-or_default : (P : ℕ → Type 0) (words : List ℕ) (n : ℕ) → P 0 → All P words → P (slice_index words n)
All-or_default P words n zero_ok all = by_place (nat_lt n (length words)) refl
  where
    by_place : (b : Bool) → nat_lt n (length words) ≡ b → P (slice_index words n)
    by_place true e = All-get_or P words n 0 (ltb-true n (length words) e) all
    by_place false e = subst P (sym (get_or-eq_default words 0 {n = n} (grind (arith, nat_tests, e)))) zero_ok

pub All-replicate : (P : ℕ → Type 0) (n : ℕ) → P 0 → All P (replicate n 0)
All-replicate P n zero_ok k d below =
    let within : k < n = rw length-replicate at below in
    subst P (sym (get_or-replicate n k 0 d within)) zero_ok

pub AreWords-start : (w count : ℕ) → AreWords w count (replicate count 0)
AreWords-start w count = record { length = length-replicate count 0; in_range = All-replicate (λ v. v < 2 ^ w) count (pow_pos w) }

pub AreWords-set : (w count : ℕ) (words : List ℕ) (n word : ℕ) → AreWords w count words → word < 2 ^ w → AreWords w count (slice_set words n word)
AreWords-set w count words n word ok below = record { length = length-set words n word ∙ ok.length; in_range = All-set (λ v. v < 2 ^ w) words n word below ok.in_range }

pub AreWords-written : (w count : ℕ) (sizes : List ℕ) (inputs : Inputs) (word : ℕ) (words : List ℕ) → AreWords w count words → word < 2 ^ w → AreWords w count (written sizes inputs word words)
AreWords-written w count sizes inputs word words ok below =
    if-each (AreWords w count) (is_none (first_beyond sizes 0 inputs)) (slice_set words (word_number sizes 0 inputs) word) words (AreWords-set w count words _ word ok below) ok

pub word_below : (w count : ℕ) (words : List ℕ) (n : ℕ) → AreWords w count words → slice_index words n < 2 ^ w
word_below w count words n ok = All-or_default (λ v. v < 2 ^ w) words n (pow_pos w) ok.in_range

pub word_at_below : (w count : ℕ) (sizes : List ℕ) (inputs : Inputs) (words : List ℕ) → AreWords w count words → word_at sizes inputs words < 2 ^ w
word_at_below w count sizes inputs words ok =
    if-each (λ v. v < 2 ^ w) (is_none (first_beyond sizes 0 inputs)) (slice_index words (word_number sizes 0 inputs)) 0 (word_below w count words _ ok) (pow_pos w)

-- combinational memories

abbrev pub memory_tail : ℕ → List PortRow
memory_tail w = plain_port WriteData w ∷ enable_port WriteEn ∷ output_port ReadData w ∷ registered_port Done 1 ∷ []

pub address_count : (w : ℕ) (sizes address_widths : List ℕ) → IsLayout w sizes address_widths → length (address_ports address_widths) ≡ length sizes
address_count w sizes address_widths layout =
    let few = layout.few in let alike = layout.alike in
    length-ports_named (Addr0 ∷ Addr1 ∷ Addr2 ∷ Addr3 ∷ []) address_widths (omega arith) ∙ layout.alike

-- the ports of a memory after its addresses
pub memory_port : (w : ℕ) (sizes address_widths : List ℕ) (n k : ℕ) → IsLayout w sizes address_widths → n ≡ length sizes + k → slice_get (memory_row w sizes address_widths).ports n ≡ slice_get (memory_tail w) k
memory_port w sizes address_widths n k layout e =
    let count = address_count w sizes address_widths layout in
    behind (address_ports address_widths) (memory_tail w) n k (e ∙ ap (λ (c : ℕ). c + k) (sym count))

pub data MemoryOutput (w d n : ℕ) (port : PortRow) : Type 0 where
  is_read : n ≡ d + 2 → output_port ReadData w ≡ port → MemoryOutput w d n port
  is_done : n ≡ d + 3 → registered_port Done 1 ≡ port → MemoryOutput w d n port

-- the outputs of a memory
pub memory_outputs : (w : ℕ) (sizes address_widths : List ℕ) (n : ℕ) (port : PortRow) → IsLayout w sizes address_widths → slice_get (memory_row w sizes address_widths).ports n ≡ Some port → is_output_side port.side ≡ true
    → MemoryOutput w (length sizes) n port
memory_outputs w sizes address_widths n port layout at out =
    let after = output_after_plain (Addr0 ∷ Addr1 ∷ Addr2 ∷ Addr3 ∷ []) address_widths (memory_tail w) n port at out in
    by_place after.places (after.number ∙ ap (λ (c : ℕ). c + after.places) (address_count w sizes address_widths layout)) after.there
  where
    by_place : (k : ℕ) → n ≡ length sizes + k → slice_get (memory_tail w) k ≡ Some port → MemoryOutput w (length sizes) n port
    by_place zero e there = absurd (not_output _ port there refl out)
    by_place (suc zero) e there = absurd (not_output _ port there refl out)
    by_place (suc (suc zero)) e there = is_read e (cc)
    by_place (suc (suc (suc zero))) e there = is_done e (cc)
    by_place (suc (suc (suc (suc k)))) e there = absurd (cc)

not_at : (n m k : ℕ) → n ≡ m + suc k → (n == m) ≡ false
not_at n m k e = grind (arith, nat_tests)

pub memory_idle_once : (state : CellState) → memory_idle (memory_idle state) ≡ memory_idle state
memory_idle_once (Memory words done) = refl
memory_idle_once state = refl

pub memory_done : (w : ℕ) (sizes : List ℕ) (state : CellState) (inputs others : Inputs) (n : ℕ) → (n == length sizes + 2) ≡ false → memory_output w sizes state inputs n ≡ memory_output w sizes state others n
memory_done w sizes (Memory words done) inputs others n off =
    ap (λ (b : Bool). if b then memory_read w sizes words inputs else Some (bit_of done)) off ∙ sym (ap (λ (b : Bool). if b then memory_read w sizes words others else Some (bit_of done)) off)
memory_done w sizes state inputs others n off = refl

pub memory_registered : (w : ℕ) (sizes address_widths : List ℕ) → IsLayout w sizes address_widths → KeepsRegistered (memory_row w sizes address_widths)
memory_registered w sizes address_widths layout state inputs others n port at registered = by_output (memory_outputs w sizes address_widths n port layout at (ap is_output_side registered))
  where
    by_output : MemoryOutput w (length sizes) n port → memory_output w sizes state inputs n ≡ memory_output w sizes state others n
    by_output (is_read e same) = absurd (let wrong : Output ≡ Registered = ap (λ (p : PortRow). p.side) same ∙ registered in cc)
    by_output (is_done e same) = memory_done w sizes state inputs others n (not_at n (length sizes + 2) 0 (omega arith))

pub memory_write_same : (w : ℕ) (sizes address_widths : List ℕ) → IsLayout w sizes address_widths → (state : CellState) (inputs others : Inputs) → is_on inputs (length sizes + 1) ≡ true → AgreesWhereLooked (memory_row w sizes address_widths) state inputs others
    → SameAddresses sizes 0 inputs others × (input inputs (length sizes) ≡ input others (length sizes))
memory_write_same w sizes address_widths layout state inputs others on agree = (addresses, looked (length sizes) (plain_port WriteData w) (memory_port w sizes address_widths _ 0 layout (omega arith)) refl (omega arith))
  where
    looked : (m : ℕ) (port : PortRow) → slice_get (memory_row w sizes address_widths).ports m ≡ Some port → port.side ≡ Plain → m < length sizes + 1 → input inputs m ≡ input others m
    looked m port there plain below = agree.demanded m port there plain (rw (on, test) refl)
      where
        test : nat_lt m (length sizes + 1) ≡ true
        test = grind (arith, nat_tests)

    addresses : SameAddresses sizes 0 inputs others
    addresses m low high =
        let count = address_count w sizes address_widths layout in
        let before : m < length (address_ports address_widths) = omega (arith, count, high) in
        let at = plain_before (Addr0 ∷ Addr1 ∷ Addr2 ∷ Addr3 ∷ []) address_widths (memory_tail w) m before in
        looked m at.port at.there at.plain (omega arith)

pub memory_wrote_same : (sizes : List ℕ) (state : CellState) (inputs others : Inputs) → SameAddresses sizes 0 inputs others → input inputs (length sizes) ≡ input others (length sizes)
    → memory_write sizes state inputs ≡ memory_write sizes state others
memory_wrote_same sizes (Memory words done) inputs others same word =
    ap (λ (ws : List ℕ). Memory ws true) (written_same sizes inputs others (value_at inputs (length sizes)) words same ∙ ap (λ (i : Option BitVector). written sizes others (number_of i) words) word)
memory_wrote_same sizes state inputs others same word = refl

pub memory_looks : (w : ℕ) (sizes address_widths : List ℕ) → IsLayout w sizes address_widths → LooksWhereDemanded (memory_row w sizes address_widths)
memory_looks w sizes address_widths layout state inputs others agree =
    let there = agree.enabling (length sizes + 1) (enable_port WriteEn) (memory_port w sizes address_widths _ 1 layout refl) refl in
    let seen = λ (on : is_on inputs (length sizes + 1) ≡ true). memory_write_same w sizes address_widths layout state inputs others on agree in
    let range = if-same_else (is_on inputs (length sizes + 1)) (first_beyond sizes 0 inputs) (first_beyond sizes 0 others) None (λ on. first_beyond_same sizes 0 inputs others (seen on).0)
    ∙ ap (λ (i : Option BitVector). if number_of i == 1 then first_beyond sizes 0 others else None) there in
    let after = if-same_else (is_on inputs (length sizes + 1)) (memory_write sizes state inputs) (memory_write sizes state others) (memory_idle state) (λ on. memory_wrote_same sizes state inputs others (seen on).0 (seen on).1)
    ∙ ap (λ (i : Option BitVector). if number_of i == 1 then memory_write sizes state others else memory_idle state) there in
    ap (λ (o : Option ℕ). edge_of o ((memory_row w sizes address_widths).next state inputs)) range ∙ ap (edge_of ((memory_row w sizes address_widths).out_of_range others)) after

pub memory_widths : (w : ℕ) (sizes address_widths : List ℕ) → IsLayout w sizes address_widths → GivesWidths (memory_row w sizes address_widths)
memory_widths w sizes address_widths layout (Memory words done) inputs n port b of_row fits values at out e = by_output (memory_outputs w sizes address_widths n port layout at out)
  where
    by_output : MemoryOutput w (length sizes) n port → IsOfWidth port.width b
    by_output (is_read number same) =
        let read : memory_read w sizes words inputs ≡ Some b = sym (ap (λ (t : Bool). if t then memory_read w sizes words inputs else Some (bit_of done)) (is_at n (length sizes + 2) number)) ∙ e in
        out_fits (output_port ReadData w) port _ b (ap Some same) (some_read (have_addresses sizes 0 inputs && is_none (first_beyond sizes 0 inputs)) _ b read)
        (number_fits w (slice_index words (word_number sizes 0 inputs)) layout.word (word_below w (word_count sizes) words _ of_row))
    by_output (is_done number same) =
        let one : Some (bit_of done) ≡ Some b = sym (ap (λ (t : Bool). if t then memory_read w sizes words inputs else Some (bit_of done)) (not_at n (length sizes + 2) 0 (omega arith))) ∙ e in
        out_fits (registered_port Done 1) port _ b (ap Some same) one (record { same_width = refl; fits = Fits-bit_of done })
memory_widths w sizes address_widths layout state inputs n port b of_row fits values at out e = absurd of_row

pub memory_reads_only : (w : ℕ) (sizes address_widths : List ℕ) → ReadsOnly (memory_row w sizes address_widths)
memory_reads_only w sizes address_widths (Memory words done) inputs others n agree =
    if-same_else (n == length sizes + 2) (memory_read w sizes words inputs) (memory_read w sizes words others) (Some (bit_of done)) (λ read. memory_read_same w sizes words inputs others (same read))
  where
    same : (n == length sizes + 2) ≡ true → SameAddresses sizes 0 inputs others
    same read m low high = agree m (rw (read, test) refl)
      where
        test : nat_lt m (length sizes) ≡ true
        test = grind (arith, nat_tests)
memory_reads_only w sizes address_widths state inputs others n agree = refl

no_word : (have within : Bool) (a : BitVector) → (have && within) ≡ false → (if have && within then Some a else None) ≡ None
no_word have within a off = ap (λ (b : Bool). if b then Some a else None) off

pub memory_strict : (w : ℕ) (sizes address_widths : List ℕ) → IsLayout w sizes address_widths → AnswersStrictly (memory_row w sizes address_widths)
memory_strict w sizes address_widths layout (Memory words done) inputs n of_row out = record { unread = unread; beyond = beyond; otherwise = otherwise }
  where
    read_when : (n == length sizes + 2) ≡ true → memory_output w sizes (Memory words done) inputs n ≡ memory_read w sizes words inputs
    read_when e = ap (λ (t : Bool). if t then memory_read w sizes words inputs else Some (bit_of done)) e

    false_left : (a b : Bool) → a ≡ false → (a && b) ≡ false
    false_left true b h = absurd (cc)
    false_left false b h = refl

    false_right : (a b : Bool) → not b ≡ true → (a && b) ≡ false
    false_right true true h = absurd (cc)
    false_right true false h = refl
    false_right false b h = refl

    unread : (m : ℕ) → (memory_row w sizes address_widths).reads n m ≡ true → input inputs m ≡ None → memory_output w sizes (Memory words done) inputs n ≡ None
    unread m reads none =
        let read = and_left (n == length sizes + 2) (nat_lt m (length sizes)) reads in
        let below = ltb-true m (length sizes) (and_right (n == length sizes + 2) (nat_lt m (length sizes)) reads) in
        let missing = have_addresses_none sizes 0 m inputs (omega arith) (omega arith) none in
        read_when read ∙ no_word (have_addresses sizes 0 inputs) (is_none (first_beyond sizes 0 inputs)) _ (false_left _ _ missing)

    beyond : (memory_row w sizes address_widths).beyond inputs n ≡ true → memory_output w sizes (Memory words done) inputs n ≡ None
    beyond h =
        let read = and_left (n == length sizes + 2) (not (is_none (first_beyond sizes 0 inputs))) h in
        let out_there = and_right (n == length sizes + 2) (not (is_none (first_beyond sizes 0 inputs))) h in
        read_when read ∙ no_word (have_addresses sizes 0 inputs) (is_none (first_beyond sizes 0 inputs)) _ (false_right _ _ out_there)

    there : (read have within : Bool) (a : BitVector) (d : Option BitVector) → (read ≡ true → have ≡ true) → (read && not within) ≡ false → IsSome d → IsSome (if read then (if have && within then Some a else None) else d)
    there true true true a d h off is_there = refl
    there true true false a d h off is_there = absurd (cc)
    there true false within a d h off is_there = absurd (let wrong : false ≡ true = h refl in cc)
    there false have within a d h off is_there = is_there

    otherwise : ((m : ℕ) → (memory_row w sizes address_widths).reads n m ≡ true → IsSome (input inputs m)) → (memory_row w sizes address_widths).beyond inputs n ≡ false → IsSome (memory_output w sizes (Memory words done) inputs n)
    otherwise all within =
        there (n == length sizes + 2) (have_addresses sizes 0 inputs) (is_none (first_beyond sizes 0 inputs)) _ _ (λ read. have_addresses_all sizes 0 inputs (λ m low high. all m (rw (read, below m high) refl))) within refl
      where
        below : (m : ℕ) → m < 0 + length sizes → nat_lt m (length sizes) ≡ true
        below m high = grind (arith, nat_tests)
memory_strict w sizes address_widths layout state inputs n of_row out = absurd of_row

pub memory_idle_keeps : (w count : ℕ) (state : CellState) → IsState (MemoryOf w count) state → IsState (MemoryOf w count) (memory_idle state)
memory_idle_keeps w count (Memory words done) of_row = of_row
memory_idle_keeps w count state of_row = absurd of_row

pub memory_write_keeps : (w : ℕ) (sizes : List ℕ) (state : CellState) (inputs : Inputs) → IsState (MemoryOf w (word_count sizes)) state → value_at inputs (length sizes) < 2 ^ w → IsState (MemoryOf w (word_count sizes)) (memory_write sizes state inputs)
memory_write_keeps w sizes (Memory words done) inputs of_row below = AreWords-written w (word_count sizes) sizes inputs _ words of_row below
memory_write_keeps w sizes state inputs of_row below = absurd of_row

-- what is demanded hangs on the enabling ports alone
pub memory_by_enabling : (w : ℕ) (sizes address_widths : List ℕ) → IsLayout w sizes address_widths → DemandsByEnabling (memory_row w sizes address_widths)
memory_by_enabling w sizes address_widths layout state inputs others n agree =
    ap (λ (i : Option BitVector). (number_of i == 1) && nat_lt n (length sizes + 1)) (agree.enabling (length sizes + 1) (enable_port WriteEn) (memory_port w sizes address_widths _ 1 layout refl) refl)

-- an address that is out of range stands at an address port
pub first_beyond_below : (sizes : List ℕ) (k : ℕ) (inputs : Inputs) (n : ℕ) → first_beyond sizes k inputs ≡ Some n → n < k + length sizes
first_beyond_below [] k inputs n e = absurd (cc)
first_beyond_below (size ∷ sizes) k inputs n e = by (nat_lt (value_at inputs k) size) e (first_beyond_below sizes (k + 1) inputs n)
  where
    by : (t : Bool) → (if t then first_beyond sizes (k + 1) inputs else Some k) ≡ Some n → (first_beyond sizes (k + 1) inputs ≡ Some n → n < k + 1 + length sizes) → n < k + suc (length sizes)
    by true e h = let lt : n < k + 1 + length sizes = h e in omega arith
    by false e h = let same : k ≡ n = cc in omega arith

where_on : (on : Bool) (o : Option ℕ) (n : ℕ) → (if on then o else None) ≡ Some n → o ≡ Some n
where_on true o n e = e
where_on false o n e = absurd (cc)

pub memory_ranges : (w : ℕ) (sizes address_widths : List ℕ) → IsLayout w sizes address_widths → RangesArePorts (memory_row w sizes address_widths)
memory_ranges w sizes address_widths layout inputs n e =
    let beyond : n < 0 + length sizes = first_beyond_below sizes 0 inputs n (where_on (is_on inputs (length sizes + 1)) (first_beyond sizes 0 inputs) n e) in
    let z : length sizes ≡ length sizes + 0 = omega arith in
    let write : length sizes < length (memory_row w sizes address_widths).ports = slice_get_within (memory_row w sizes address_widths).ports (length sizes) (plain_port WriteData w) (memory_port w sizes address_widths _ 0 layout z) in
    omega arith

pub memory_lawful : (w : ℕ) (sizes address_widths : List ℕ) → IsLayout w sizes address_widths → IsLawful (memory_row w sizes address_widths)
memory_lawful w sizes address_widths layout = record {
  starts_settled = refl;
  idle_once = memory_idle_once;
  quiet_is_idle = λ state inputs quiet.
      let off : value_at inputs (length sizes + 1) ≡ 0 = quiet (length sizes + 1) (enable_port WriteEn) (memory_port w sizes address_widths _ 1 layout refl) refl in
      ap (λ (v : ℕ). edge_of (if v == 1 then first_beyond sizes 0 inputs else None) (if v == 1 then memory_write sizes state inputs else memory_idle state)) off;
  registered = memory_registered w sizes address_widths layout;
  looked_at = memory_looks w sizes address_widths layout;
  by_enabling = memory_by_enabling w sizes address_widths layout;
  nothing_demanded = λ state inputs n quiet.
      ap (λ (v : ℕ). (v == 1) && nat_lt n (length sizes + 1)) (quiet (length sizes + 1) (enable_port WriteEn) (memory_port w sizes address_widths _ 1 layout refl) refl);
  ranges = memory_ranges w sizes address_widths layout;
  widths = memory_widths w sizes address_widths layout;
  reads_only = memory_reads_only w sizes address_widths;
  strict = memory_strict w sizes address_widths layout;
  states = record {
    start = AreWords-start w (word_count sizes);
    next = λ state inputs of_row fits values.
        if-each (IsState (MemoryOf w (word_count sizes))) (is_on inputs (length sizes + 1)) (memory_write sizes state inputs) (memory_idle state)
        (memory_write_keeps w sizes state inputs of_row
        (value_at_fits (memory_row w sizes address_widths).ports inputs (length sizes) (plain_port WriteData w) fits values (memory_port w sizes address_widths _ 0 layout (omega arith))))
        (memory_idle_keeps w (word_count sizes) state of_row);
    idle = memory_idle_keeps w (word_count sizes);
  };
}

-- sequential memories

abbrev pub sequential_tail : ℕ → List PortRow
sequential_tail w = enable_port ContentEn ∷ enable_port WriteEn ∷ plain_port WriteData w ∷ registered_port ReadData w ∷ registered_port Done 1 ∷ []

-- the ports of a sequential memory after its addresses
pub sequential_port : (w : ℕ) (sizes address_widths : List ℕ) (n k : ℕ) → IsLayout w sizes address_widths → n ≡ length sizes + k → slice_get (sequential_memory_row w sizes address_widths).ports n ≡ slice_get (sequential_tail w) k
sequential_port w sizes address_widths n k layout e =
    let count = address_count w sizes address_widths layout in
    behind (address_ports address_widths) (sequential_tail w) n k (e ∙ ap (λ (c : ℕ). c + k) (sym count))

pub data SequentialOutput (w d n : ℕ) (port : PortRow) : Type 0 where
  is_data : n ≡ d + 3 → registered_port ReadData w ≡ port → SequentialOutput w d n port
  is_end : n ≡ d + 4 → registered_port Done 1 ≡ port → SequentialOutput w d n port

-- the outputs of a sequential memory
pub sequential_outputs : (w : ℕ) (sizes address_widths : List ℕ) (n : ℕ) (port : PortRow) → IsLayout w sizes address_widths → slice_get (sequential_memory_row w sizes address_widths).ports n ≡ Some port → is_output_side port.side ≡ true
    → SequentialOutput w (length sizes) n port
sequential_outputs w sizes address_widths n port layout at out =
    let after = output_after_plain (Addr0 ∷ Addr1 ∷ Addr2 ∷ Addr3 ∷ []) address_widths (sequential_tail w) n port at out in
    by_place after.places (after.number ∙ ap (λ (c : ℕ). c + after.places) (address_count w sizes address_widths layout)) after.there
  where
    by_place : (k : ℕ) → n ≡ length sizes + k → slice_get (sequential_tail w) k ≡ Some port → SequentialOutput w (length sizes) n port
    by_place zero e there = absurd (not_output _ port there refl out)
    by_place (suc zero) e there = absurd (not_output _ port there refl out)
    by_place (suc (suc zero)) e there = absurd (not_output _ port there refl out)
    by_place (suc (suc (suc zero))) e there = is_data e (cc)
    by_place (suc (suc (suc (suc zero)))) e there = is_end e (cc)
    by_place (suc (suc (suc (suc (suc k))))) e there = absurd (cc)

pub sequential_idle_once : (state : CellState) → sequential_idle (sequential_idle state) ≡ sequential_idle state
sequential_idle_once (SequentialMemory words read_data done) = refl
sequential_idle_once state = refl

pub sequential_seen : (w : ℕ) (sizes address_widths : List ℕ) → IsLayout w sizes address_widths → (state : CellState) (inputs others : Inputs) → is_on inputs (length sizes) ≡ true → AgreesWhereLooked (sequential_memory_row w sizes address_widths) state inputs others
    → SameAddresses sizes 0 inputs others × (is_on inputs (length sizes + 1) ≡ true → input inputs (length sizes + 2) ≡ input others (length sizes + 2))
sequential_seen w sizes address_widths layout state inputs others on agree = (addresses, word)
  where
    addresses : SameAddresses sizes 0 inputs others
    addresses m low high =
        let count = address_count w sizes address_widths layout in
        let before : m < length (address_ports address_widths) = omega (arith, count, high) in
        let at = plain_before (Addr0 ∷ Addr1 ∷ Addr2 ∷ Addr3 ∷ []) address_widths (sequential_tail w) m before in
        agree.demanded m at.port at.there at.plain (rw (on, test) refl)
      where
        test : nat_lt m (length sizes) ≡ true
        test = grind (arith, nat_tests)

    word : is_on inputs (length sizes + 1) ≡ true → input inputs (length sizes + 2) ≡ input others (length sizes + 2)
    word writes = agree.demanded (length sizes + 2) (plain_port WriteData w) (sequential_port w sizes address_widths _ 2 layout refl) refl (demanded (nat_lt (length sizes + 2) (length sizes)) (length sizes + 2 == length sizes + 2) (is_on inputs (length sizes)) (is_on inputs (length sizes + 1)) (is_at _ _ refl) on writes)
      where
        demanded : (low here on writes : Bool) → here ≡ true → on ≡ true → writes ≡ true → (on && (low || (here && writes))) ≡ true
        demanded true true true true a b c = refl
        demanded false true true true a b c = refl
        demanded low false on writes a b c = absurd (cc)
        demanded low true false writes a b c = absurd (cc)
        demanded low true true false a b c = absurd (cc)

pub sequential_access_same : (sizes : List ℕ) (state : CellState) (inputs others : Inputs) → SameAddresses sizes 0 inputs others → input inputs (length sizes + 1) ≡ input others (length sizes + 1)
    → (is_on inputs (length sizes + 1) ≡ true → input inputs (length sizes + 2) ≡ input others (length sizes + 2)) → sequential_access sizes state inputs ≡ sequential_access sizes state others
sequential_access_same sizes (SequentialMemory words read_data done) inputs others same write_en word =
    if-same_else (is_on inputs (length sizes + 1)) (write inputs) (write others) (read inputs)
    (λ writes. ap (λ (ws : List ℕ). SequentialMemory ws read_data true) (written_same sizes inputs others (value_at inputs (length sizes + 2)) words same ∙ ap (λ (i : Option BitVector). written sizes others (number_of i) words) (word writes)))
    ∙ ap (λ (v : ℕ). if is_on inputs (length sizes + 1) then write others else SequentialMemory words v true) (word_at_same sizes inputs others words same)
    ∙ ap (λ (i : Option BitVector). if number_of i == 1 then write others else read others) write_en
  where
    write : Inputs → CellState
    write is = SequentialMemory (written sizes is (value_at is (length sizes + 2)) words) read_data true

    read : Inputs → CellState
    read is = SequentialMemory words (word_at sizes is words) true
sequential_access_same sizes state inputs others same write_en word = refl

pub sequential_looks : (w : ℕ) (sizes address_widths : List ℕ) → IsLayout w sizes address_widths → LooksWhereDemanded (sequential_memory_row w sizes address_widths)
sequential_looks w sizes address_widths layout state inputs others agree =
    let there = agree.enabling (length sizes) (enable_port ContentEn) (sequential_port w sizes address_widths _ 0 layout (omega arith)) refl in
    let write_en = agree.enabling (length sizes + 1) (enable_port WriteEn) (sequential_port w sizes address_widths _ 1 layout refl) refl in
    let seen = λ (on : is_on inputs (length sizes) ≡ true). sequential_seen w sizes address_widths layout state inputs others on agree in
    let range = if-same_else (is_on inputs (length sizes)) (first_beyond sizes 0 inputs) (first_beyond sizes 0 others) None (λ on. first_beyond_same sizes 0 inputs others (seen on).0)
    ∙ ap (λ (i : Option BitVector). if number_of i == 1 then first_beyond sizes 0 others else None) there in
    let after = if-same_else (is_on inputs (length sizes)) (sequential_access sizes state inputs) (sequential_access sizes state others) (sequential_idle state)
    (λ on. sequential_access_same sizes state inputs others (seen on).0 write_en (seen on).1)
    ∙ ap (λ (i : Option BitVector). if number_of i == 1 then sequential_access sizes state others else sequential_idle state) there in
    ap (λ (o : Option ℕ). edge_of o ((sequential_memory_row w sizes address_widths).next state inputs)) range ∙ ap (edge_of ((sequential_memory_row w sizes address_widths).out_of_range others)) after

pub sequential_widths : (w : ℕ) (sizes address_widths : List ℕ) → IsLayout w sizes address_widths → GivesWidths (sequential_memory_row w sizes address_widths)
sequential_widths w sizes address_widths layout (SequentialMemory words read_data done) inputs n port b of_row fits values at out e = by_output (sequential_outputs w sizes address_widths n port layout at out)
  where
    choose : Bool → Option BitVector
    choose t = Some (if t then record { width = w; value = read_data } else bit_of done)

    by_output : SequentialOutput w (length sizes) n port → IsOfWidth port.width b
    by_output (is_data number same) =
        out_fits (registered_port ReadData w) port _ b (ap Some same) (sym (ap choose (is_at n (length sizes + 3) number)) ∙ e) (number_fits w read_data layout.word of_row.1)
    by_output (is_end number same) =
        out_fits (registered_port Done 1) port _ b (ap Some same) (sym (ap choose (not_at n (length sizes + 3) 0 (omega arith))) ∙ e) (record { same_width = refl; fits = Fits-bit_of done })
sequential_widths w sizes address_widths layout state inputs n port b of_row fits values at out e = absurd of_row

pub sequential_answers : (w : ℕ) (sizes : List ℕ) (state : CellState) (n : ℕ) → IsState (SequentialMemoryOf w (word_count sizes)) state → IsSome (sequential_output w sizes state n)
sequential_answers w sizes (SequentialMemory words read_data done) n of_row = refl
sequential_answers w sizes state n of_row = absurd of_row

pub sequential_idle_keeps : (w count : ℕ) (state : CellState) → IsState (SequentialMemoryOf w count) state → IsState (SequentialMemoryOf w count) (sequential_idle state)
sequential_idle_keeps w count (SequentialMemory words read_data done) of_row = of_row
sequential_idle_keeps w count state of_row = absurd of_row

pub sequential_access_keeps : (w : ℕ) (sizes : List ℕ) (state : CellState) (inputs : Inputs) → IsState (SequentialMemoryOf w (word_count sizes)) state → value_at inputs (length sizes + 2) < 2 ^ w
    → IsState (SequentialMemoryOf w (word_count sizes)) (sequential_access sizes state inputs)
sequential_access_keeps w sizes (SequentialMemory words read_data done) inputs of_row below =
    if-each (IsState (SequentialMemoryOf w (word_count sizes))) (is_on inputs (length sizes + 1)) _ _
    (AreWords-written w (word_count sizes) sizes inputs _ words of_row.0 below, of_row.1) (of_row.0, word_at_below w (word_count sizes) sizes inputs words of_row.0)
sequential_access_keeps w sizes state inputs of_row below = absurd of_row

pub sequential_by_enabling : (w : ℕ) (sizes address_widths : List ℕ) → IsLayout w sizes address_widths → DemandsByEnabling (sequential_memory_row w sizes address_widths)
sequential_by_enabling w sizes address_widths layout state inputs others n agree =
    let z : length sizes ≡ length sizes + 0 = omega arith in
    let content = agree.enabling (length sizes) (enable_port ContentEn) (sequential_port w sizes address_widths _ 0 layout z) refl in
    let write = agree.enabling (length sizes + 1) (enable_port WriteEn) (sequential_port w sizes address_widths _ 1 layout refl) refl in
    ap (λ (i : Option BitVector). (number_of i == 1) && (nat_lt n (length sizes) || ((n == length sizes + 2) && (number_of (input inputs (length sizes + 1)) == 1)))) content
    ∙ ap (λ (i : Option BitVector). (number_of (input others (length sizes)) == 1) && (nat_lt n (length sizes) || ((n == length sizes + 2) && (number_of i == 1)))) write

pub sequential_ranges : (w : ℕ) (sizes address_widths : List ℕ) → IsLayout w sizes address_widths → RangesArePorts (sequential_memory_row w sizes address_widths)
sequential_ranges w sizes address_widths layout inputs n e =
    let beyond : n < 0 + length sizes = first_beyond_below sizes 0 inputs n (where_on (is_on inputs (length sizes)) (first_beyond sizes 0 inputs) n e) in
    let z : length sizes ≡ length sizes + 0 = omega arith in
    let content : length sizes < length (sequential_memory_row w sizes address_widths).ports = slice_get_within (sequential_memory_row w sizes address_widths).ports (length sizes) (enable_port ContentEn) (sequential_port w sizes address_widths _ 0 layout z) in
    omega arith

pub sequential_lawful : (w : ℕ) (sizes address_widths : List ℕ) → IsLayout w sizes address_widths → IsLawful (sequential_memory_row w sizes address_widths)
sequential_lawful w sizes address_widths layout = record {
  starts_settled = refl;
  idle_once = sequential_idle_once;
  quiet_is_idle = λ state inputs quiet.
      let off : value_at inputs (length sizes) ≡ 0 = quiet (length sizes) (enable_port ContentEn) (sequential_port w sizes address_widths _ 0 layout (omega arith)) refl in
      ap (λ (v : ℕ). edge_of (if v == 1 then first_beyond sizes 0 inputs else None) (if v == 1 then sequential_access sizes state inputs else sequential_idle state)) off;
  registered = λ state inputs others n port at registered. refl;
  looked_at = sequential_looks w sizes address_widths layout;
  by_enabling = sequential_by_enabling w sizes address_widths layout;
  nothing_demanded = λ state inputs n quiet.
      ap (λ (v : ℕ). (v == 1) && (nat_lt n (length sizes) || ((n == length sizes + 2) && is_on inputs (length sizes + 1)))) (quiet (length sizes) (enable_port ContentEn) (sequential_port w sizes address_widths _ 0 layout (omega arith)) refl);
  ranges = sequential_ranges w sizes address_widths layout;
  widths = sequential_widths w sizes address_widths layout;
  reads_only = λ state inputs others n agree. refl;
  strict = λ state inputs n of_row out. record {
    unread = λ m reads none. absurd (let wrong : false ≡ true = reads in cc);
    beyond = λ reads. absurd (let wrong : false ≡ true = reads in cc);
    otherwise = λ all within. sequential_answers w sizes state n of_row;
  };
  states = record {
    start = (AreWords-start w (word_count sizes), pow_pos w);
    next = λ state inputs of_row fits values.
        if-each (IsState (SequentialMemoryOf w (word_count sizes))) (is_on inputs (length sizes)) (sequential_access sizes state inputs) (sequential_idle state)
        (sequential_access_keeps w sizes state inputs of_row
        (value_at_fits (sequential_memory_row w sizes address_widths).ports inputs (length sizes + 2) (plain_port WriteData w) fits values (sequential_port w sizes address_widths _ 2 layout refl)))
        (sequential_idle_keeps w (word_count sizes) state of_row);
    idle = sequential_idle_keeps w (word_count sizes);
  };
}
