-- Which states of a primitive the registers and the words of its module stand for.
use Rattle.std.specs.Prelude.{◌≡◌, ◌≢◌, ℕ, ◌+◌, ◌-◌, ◌*◌, ◌/◌, ◌%◌, ◌^◌, ◌<◌, List, length, slice_index, codes}
use Rattle.cx_bits.specs.BitVector.{BitVector}
use Rattle.cx_bits.specs.Operators.{bit_of, quotient_of, remainder_of}
use Rattle.cx_vmods.specs.Spelling.{spelled}
use Rattle.cx_prim.specs.CellStates.{CellState, PipeRun, Stateless, Register, Memory, SequentialMemory, Multiplier, Divider, Timer}

-- the registers, by name, and the words of arrays, by name and place
pub record Kept : Type 0 where
  pub register : List ℕ → ℕ
  pub word : List ℕ → ℕ → ℕ

-- the array has the words of the state in row-major order
abbrev pub HasWords : Kept → List ℕ → Type 0
HasWords kept words = (n : ℕ) → n < length words → kept.word (spelled (codes "words")) n ≡ slice_index words n

-- the count of cycles with `go`, and done
pub record Counts (kept : Kept) (run : PipeRun) : Type 0 where
  pub count : kept.register (spelled (codes "count")) ≡ run.count
  pub finished : kept.register (spelled (codes "finished")) ≡ (bit_of run.done).value

-- the operands that were taken
pub record HoldsOperands (kept : Kept) (run : PipeRun) : Type 0 where
  pub left : kept.register (spelled (codes "held_left")) ≡ run.left
  pub right : kept.register (spelled (codes "held_right")) ≡ run.right

-- the bits of the dividend that a divider has gone through
abbrev pub taken : ℕ → PipeRun → BitVector
taken width run = record { width = run.count; value = run.left / 2 ^ (width - run.count) }

abbrev pub divided_by : PipeRun → BitVector
divided_by run = record { width = run.count; value = run.right }

-- a division on its way: the remainder of these bits, and the bits that are left above those of the quotient
pub record IsDividing (width : ℕ) (kept : Kept) (run : PipeRun) : Type 0 where
  pub has_divisor : kept.register (spelled (codes "divisor")) ≡ run.right
  pub has_rest : kept.register (spelled (codes "rest")) ≡ (remainder_of (taken width run) (divided_by run)).value
  pub has_digits : kept.register (spelled (codes "digits")) ≡
      run.left % 2 ^ (width - run.count) * 2 ^ run.count
      + (quotient_of (taken width run) (divided_by run)).value

-- a pipe that has gone no cycle takes its operands anew, so what it holds is of no account
pub record HoldsProduct (kept : Kept) (run : PipeRun) (product : ℕ) : Type 0 where
  pub counts : Counts kept run
  pub operands : run.count ≢ 0 → HoldsOperands kept run
  pub has_product : kept.register (spelled (codes "product")) ≡ product

pub record HoldsQuotient (width : ℕ) (kept : Kept) (run : PipeRun) (quotient remainder : ℕ) : Type 0 where
  pub counts : Counts kept run
  pub dividing : run.count ≢ 0 → IsDividing width kept run
  pub has_quotient : kept.register (spelled (codes "quotient")) ≡ quotient
  pub has_remainder : kept.register (spelled (codes "remainder")) ≡ remainder

-- the registers and the words stand for a state of a primitive of this width
abbrev pub StandsFor : ℕ → Kept → CellState → Type 0
StandsFor width kept Stateless = Unit {0}
StandsFor width kept (Register value done) =
    (kept.register (spelled (codes "held")) ≡ value)
    × (kept.register (spelled (codes "finished")) ≡ (bit_of done).value)
StandsFor width kept (Memory words done) =
    HasWords kept words × (kept.register (spelled (codes "finished")) ≡ (bit_of done).value)
StandsFor width kept (SequentialMemory words read_data done) =
    HasWords kept words × (kept.register (spelled (codes "held")) ≡ read_data)
    × (kept.register (spelled (codes "finished")) ≡ (bit_of done).value)
StandsFor width kept (Multiplier run product) = HoldsProduct kept run product
StandsFor width kept (Divider run quotient remainder) = HoldsQuotient width kept run quotient remainder
StandsFor width kept (Timer count done) =
    (kept.register (spelled (codes "count")) ≡ count)
    × (kept.register (spelled (codes "finished")) ≡ (bit_of done).value)
