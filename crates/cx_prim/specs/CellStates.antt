-- The states of primitives as plain data, one type for all rows.
use Rattle.std.specs.Prelude.{◌≡◌, ℕ, ◌<◌, ◌≤◌, ◌^◌, Bool, List, [], length, All}

-- a pipe's way through one operation: how many cycles it has gone, the operands that it holds, and done
pub record PipeRun : Type 0 where
  pub count : ℕ
  pub left : ℕ
  pub right : ℕ
  pub done : Bool

-- what a primitive holds between two edges; words stand in row-major order
pub data CellState : Type 0 where
  Stateless : CellState
  Register : (value : ℕ) (done : Bool) → CellState
  Memory : (words : List ℕ) (done : Bool) → CellState
  SequentialMemory : (words : List ℕ) (read_data : ℕ) (done : Bool) → CellState
  Multiplier : (run : PipeRun) (product : ℕ) → CellState
  Divider : (run : PipeRun) (quotient : ℕ) (remainder : ℕ) → CellState
  Timer : (count : ℕ) (done : Bool) → CellState

-- which states belong to a row: widths in bits, the number of words, the latency of a pipe, the length of a timer
pub data StateShape : Type 0 where
  NoState : StateShape
  RegisterOf : (width : ℕ) → StateShape
  MemoryOf : (width : ℕ) (count : ℕ) → StateShape
  SequentialMemoryOf : (width : ℕ) (count : ℕ) → StateShape
  MultiplierOf : (width : ℕ) (latency : ℕ) → StateShape
  DividerOf : (width : ℕ) (latency : ℕ) → StateShape
  TimerOf : (length : ℕ) → StateShape

-- that many words, each below two to the width
pub record AreWords (width count : ℕ) (words : List ℕ) : Type 0 where
  pub length : length words ≡ count
  pub in_range : All (λ word. word < 2 ^ width) words

-- fewer cycles than the latency, and operands below two to the width
pub record IsRun (width latency : ℕ) (run : PipeRun) : Type 0 where
  pub under_way : run.count < latency
  pub left_fits : run.left < 2 ^ width
  pub right_fits : run.right < 2 ^ width

-- a state of this shape
abbrev pub IsState : StateShape → CellState → Type 0
IsState NoState Stateless = Unit {0}
IsState (RegisterOf width) (Register value done) = value < 2 ^ width
IsState (MemoryOf width count) (Memory words done) = AreWords width count words
IsState (SequentialMemoryOf width count) (SequentialMemory words read_data done) =
    AreWords width count words × (read_data < 2 ^ width)
IsState (MultiplierOf width latency) (Multiplier run product) = IsRun width latency run × (product < 2 ^ width)
IsState (DividerOf width latency) (Divider run quotient remainder) =
    IsRun width latency run × (quotient < 2 ^ width) × (remainder < 2 ^ width)
IsState (TimerOf length) (Timer count done) = count < length
IsState _ _ = ⊥

-- the words of a memory; other states have none
abbrev pub words_of : CellState → List ℕ
words_of (Memory words done) = words
words_of (SequentialMemory words read_data done) = words
words_of _ = []

-- the state of a memory with other words; other states stay
abbrev pub with_words : List ℕ → CellState → CellState
with_words words (Memory old done) = Memory words done
with_words words (SequentialMemory old read_data done) = SequentialMemory words read_data done
with_words words state = state

-- as many words as the memory has, each below two to its width, which is at most 64
abbrev pub TakesWords : StateShape → List ℕ → Type 0
TakesWords (MemoryOf width count) words = AreWords width count words × (width ≤ 64)
TakesWords (SequentialMemoryOf width count) words = AreWords width count words × (width ≤ 64)
TakesWords _ words = ⊥

-- word n is there, in a memory of a width of at most 64
abbrev pub HasWord : StateShape → ℕ → Type 0
HasWord (MemoryOf width count) n = (n < count) × (width ≤ 64)
HasWord (SequentialMemoryOf width count) n = (n < count) × (width ≤ 64)
HasWord _ n = ⊥
