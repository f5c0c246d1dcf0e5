-- The rows of memories of one to four dimensions: combinational ones, whose read data follows the addresses, and
-- sequential ones, whose read data is registered.
use Rattle.std.specs.Prelude.{◌≡◌, ◌≤◌, ℕ, ◌+◌, ◌*◌, ◌^◌, ◌==◌, ◌&&◌, ◌||◌, not, Bool, true, false, List, [], ◌∷◌, ◌++◌, Option, Some, None, nat_lt, nat_le, is_some, is_none, slice_index, slice_set, length, replicate, if◌then◌else◌}
use Rattle.std.specs.List.{list_all}
use Rattle.cx_bits.specs.BitVector.{BitVector}
use Rattle.cx_bits.specs.Operators.{bit_of}
use Rattle.cx_text.specs.Loading.{word_count}
use Rattle.cx_prim.specs.declared.ports.PortName.{PortName}
use Rattle.cx_prim.specs.declared.ports.PortName.TheVariants.{Addr0, Addr1, Addr2, Addr3, WriteData, WriteEn, ContentEn, ReadData, Done}
use Rattle.cx_prim.specs.declared.ports.PortRow.{PortRow}
use Rattle.cx_prim.specs.CellStates.{CellState, Memory, SequentialMemory, MemoryOf, SequentialMemoryOf}
use Rattle.cx_prim.specs.Widths.{IsWidth}
use Rattle.cx_prim.specs.Rows.{Inputs, input, value_at, is_on, Row}
use Rattle.cx_prim.specs.CombinationalRows.{enable_port, plain_port, output_port, registered_port}

-- sizes from 1 on, whose product is below 2 ^ 32
abbrev pub are_sizes : List ℕ → Bool
are_sizes sizes = list_all (λ size. nat_le 1 size) sizes && nat_lt (word_count sizes) (2 ^ 32)

-- 1 to 64 bits
abbrev pub is_address_width : ℕ → Bool
is_address_width width = nat_le 1 width && nat_le width 64

-- the width, the sizes and the address widths of a memory: as many address widths as sizes, at most four
pub record IsLayout (width : ℕ) (sizes address_widths : List ℕ) : Type 0 where
  pub word : IsWidth width
  pub few : length sizes ≤ 4
  pub alike : length address_widths ≡ length sizes
  pub sized : are_sizes sizes ≡ true
  pub addressed : list_all is_address_width address_widths ≡ true

-- one plain port of each width, with these names
abbrev pub ports_named : List PortName → List ℕ → List PortRow
ports_named (name ∷ names) (width ∷ widths) = plain_port name width ∷ ports_named names widths
ports_named _ _ = []

-- the address ports are ports 0, 1, 2, ..
abbrev pub address_ports : List ℕ → List PortRow
address_ports widths = ports_named (Addr0 ∷ Addr1 ∷ Addr2 ∷ Addr3 ∷ []) widths

-- the first port from n on whose address is not below the size of its dimension
abbrev pub first_beyond : List ℕ → ℕ → Inputs → Option ℕ
first_beyond [] n inputs = None
first_beyond (size ∷ sizes) n inputs =
    if nat_lt (value_at inputs n) size then first_beyond sizes (n + 1) inputs else Some n

-- the number of the word at the addresses that stand at the ports from n on, in row-major order
abbrev pub word_number : List ℕ → ℕ → Inputs → ℕ
word_number [] n inputs = 0
word_number (size ∷ sizes) n inputs = value_at inputs n * word_count sizes + word_number sizes (n + 1) inputs

-- whether a value stands at each of the address ports from n on
abbrev pub have_addresses : List ℕ → ℕ → Inputs → Bool
have_addresses [] n inputs = true
have_addresses (size ∷ sizes) n inputs = is_some (input inputs n) && have_addresses sizes (n + 1) inputs

-- the word at the addresses, and 0 where one is out of range
abbrev pub word_at : List ℕ → Inputs → List ℕ → ℕ
word_at sizes inputs words =
    if is_none (first_beyond sizes 0 inputs) then slice_index words (word_number sizes 0 inputs) else 0

-- the words after a write; where an address is out of range they stay
abbrev pub written : List ℕ → Inputs → ℕ → List ℕ → List ℕ
written sizes inputs word words =
    if is_none (first_beyond sizes 0 inputs) then slice_set words (word_number sizes 0 inputs) word
    else words

-- of d dimensions: `write_data` is port d, `write_en` d + 1, `read_data` d + 2, `done` d + 3
abbrev pub memory_read : ℕ → List ℕ → List ℕ → Inputs → Option BitVector
memory_read width sizes words inputs =
    if have_addresses sizes 0 inputs && is_none (first_beyond sizes 0 inputs)
    then Some (record { width = width; value = slice_index words (word_number sizes 0 inputs) })
    else None

abbrev pub memory_output : ℕ → List ℕ → CellState → Inputs → ℕ → Option BitVector
memory_output width sizes (Memory words done) inputs n =
    if n == length sizes + 2 then memory_read width sizes words inputs else Some (bit_of done)
memory_output width sizes state inputs n = None

-- the words stay, and done falls
abbrev pub memory_idle : CellState → CellState
memory_idle (Memory words done) = Memory words false
memory_idle state = state

-- with `write_en` the word at the addresses becomes `write_data`, and done rises
abbrev pub memory_write : List ℕ → CellState → Inputs → CellState
memory_write sizes (Memory words done) inputs =
    Memory (written sizes inputs (value_at inputs (length sizes)) words) true
memory_write sizes state inputs = state

-- at the width, the sizes and the address widths
abbrev pub memory_row : ℕ → List ℕ → List ℕ → Row
memory_row width sizes address_widths = record {
  ports =
      address_ports address_widths ++ (plain_port WriteData width ∷ enable_port WriteEn ∷
      output_port ReadData width ∷ registered_port Done 1 ∷ []);
  shape = MemoryOf width (word_count sizes);
  start = Memory (replicate (word_count sizes) 0) false;
  output = memory_output width sizes;
  reads = λ n m. (n == length sizes + 2) && nat_lt m (length sizes);
  beyond = λ inputs n. (n == length sizes + 2) && not (is_none (first_beyond sizes 0 inputs));
  demands = λ state inputs n. is_on inputs (length sizes + 1) && nat_lt n (length sizes + 1);
  out_of_range = λ inputs. if is_on inputs (length sizes + 1) then first_beyond sizes 0 inputs else None;
  next = λ state inputs. if is_on inputs (length sizes + 1) then memory_write sizes state inputs else memory_idle state;
  idle = memory_idle;
}

-- of d dimensions: `content_en` is port d, `write_en` d + 1, `write_data` d + 2, `read_data` d + 3, `done` d + 4
abbrev pub sequential_output : ℕ → List ℕ → CellState → ℕ → Option BitVector
sequential_output width sizes (SequentialMemory words read_data done) n =
    Some (if n == length sizes + 3 then record { width = width; value = read_data } else bit_of done)
sequential_output width sizes state n = None

-- words and read data stay, and done falls
abbrev pub sequential_idle : CellState → CellState
sequential_idle (SequentialMemory words read_data done) = SequentialMemory words read_data false
sequential_idle state = state

-- a write keeps the read data, and a read keeps the words; done rises
abbrev pub sequential_access : List ℕ → CellState → Inputs → CellState
sequential_access sizes (SequentialMemory words read_data done) inputs =
    if is_on inputs (length sizes + 1)
    then SequentialMemory (written sizes inputs (value_at inputs (length sizes + 2)) words) read_data true
    else SequentialMemory words (word_at sizes inputs words) true
sequential_access sizes state inputs = state

-- at the width, the sizes and the address widths
abbrev pub sequential_memory_row : ℕ → List ℕ → List ℕ → Row
sequential_memory_row width sizes address_widths = record {
  ports =
      address_ports address_widths ++ (enable_port ContentEn ∷ enable_port WriteEn ∷
      plain_port WriteData width ∷ registered_port ReadData width ∷ registered_port Done 1 ∷ []);
  shape = SequentialMemoryOf width (word_count sizes);
  start = SequentialMemory (replicate (word_count sizes) 0) 0 false;
  output = λ state inputs n. sequential_output width sizes state n;
  reads = λ n m. false;
  beyond = λ inputs n. false;
  demands =
      λ state inputs n. is_on inputs (length sizes)
      && (nat_lt n (length sizes) || ((n == length sizes + 2) && is_on inputs (length sizes + 1)));
  out_of_range = λ inputs. if is_on inputs (length sizes) then first_beyond sizes 0 inputs else None;
  next =
      λ state inputs.
      if is_on inputs (length sizes) then sequential_access sizes state inputs else sequential_idle state;
  idle = sequential_idle;
}
