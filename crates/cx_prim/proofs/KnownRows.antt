-- Worked values of the rows, by hand from their sentences.
use Rattle.std.specs.Prelude.{◌≡◌, ℕ, true, false, [], ◌∷◌, Option, Some, None, Ok, Err, IsSome, refl}
use Rattle.cx_bits.specs.BitVector.{BitVector}
use Rattle.cx_prim.specs.declared.names.PrimitiveName.TheVariants.{Const, Add, Slice, Pad, Reg, StdMemD2, CombMemD1}
use Rattle.cx_prim.specs.CellStates.{Register, Memory, SequentialMemory, Multiplier, Divider, Timer as TimerState}
use Rattle.cx_prim.specs.Rows.{Inputs, edge, reset}
use Rattle.cx_prim.specs.CombinationalRows.{binary_row, signed_at_most_bit_of}
use Rattle.cx_prim.specs.RegisterRow.{register_row}
use Rattle.cx_prim.specs.MemoryRows.{memory_row, sequential_memory_row}
use Rattle.cx_prim.specs.PipeRows.{multiplier_row, divider_row, timer_row}
use Rattle.cx_prim.specs.Table.{row_at}

abbrev bits : ℕ → ℕ → Option BitVector
bits width value = Some (record { width = width; value = value })

-- a write into a register, and the cycle after it
pub known_write : edge (register_row 8) (Register 3 false) (bits 8 5 ∷ bits 1 1 ∷ None ∷ None ∷ []) ≡ Ok (Register 5 true)
known_write = refl

pub known_idle : edge (register_row 8) (Register 5 true) (bits 8 7 ∷ bits 1 0 ∷ None ∷ None ∷ []) ≡ Ok (Register 5 false)
known_idle = refl

-- two rows of three words: the word at 1, 2 is the sixth
pub known_row_major : edge (memory_row 8 (2 ∷ 3 ∷ []) (1 ∷ 2 ∷ [])) (Memory (10 ∷ 11 ∷ 12 ∷ 13 ∷ 14 ∷ 15 ∷ []) false)
    (bits 1 1 ∷ bits 2 2 ∷ bits 8 99 ∷ bits 1 1 ∷ None ∷ None ∷ []) ≡ Ok (Memory (10 ∷ 11 ∷ 12 ∷ 13 ∷ 14 ∷ 99 ∷ []) true)
known_row_major = refl

pub known_read : (memory_row 8 (2 ∷ 3 ∷ []) (1 ∷ 2 ∷ [])).output (Memory (10 ∷ 11 ∷ 12 ∷ 13 ∷ 14 ∷ 15 ∷ []) false)
    (bits 1 1 ∷ bits 2 0 ∷ None ∷ None ∷ None ∷ None ∷ []) 4 ≡ bits 8 13
known_read = refl

-- the second address is 3 where there are three columns
pub known_out_of_range : edge (memory_row 8 (2 ∷ 3 ∷ []) (1 ∷ 2 ∷ [])) (Memory (10 ∷ 11 ∷ 12 ∷ 13 ∷ 14 ∷ 15 ∷ []) false)
    (bits 1 1 ∷ bits 2 3 ∷ bits 8 99 ∷ bits 1 1 ∷ None ∷ None ∷ []) ≡ Err 1
known_out_of_range = refl

pub known_no_word : (memory_row 8 (2 ∷ 3 ∷ []) (1 ∷ 2 ∷ [])).output (Memory (10 ∷ 11 ∷ 12 ∷ 13 ∷ 14 ∷ 15 ∷ []) false)
    (bits 1 1 ∷ bits 2 3 ∷ None ∷ None ∷ None ∷ None ∷ []) 4 ≡ None
known_no_word = refl

-- without `write_en` the words stay, and done falls
pub known_memory_idle : edge (memory_row 8 (2 ∷ []) (1 ∷ [])) (Memory (4 ∷ 6 ∷ []) true) (bits 1 0 ∷ bits 8 9 ∷ bits 1 0 ∷ None ∷ None ∷ []) ≡ Ok (Memory (4 ∷ 6 ∷ []) false)
known_memory_idle = refl

-- a sequential memory: a read takes the word, a write keeps the read data, `write_en` alone does nothing
pub known_seq_read : edge (sequential_memory_row 8 (2 ∷ []) (1 ∷ [])) (SequentialMemory (4 ∷ 6 ∷ []) 0 false)
    (bits 1 1 ∷ bits 1 1 ∷ bits 1 0 ∷ None ∷ None ∷ None ∷ []) ≡ Ok (SequentialMemory (4 ∷ 6 ∷ []) 6 true)
known_seq_read = refl

pub known_seq_write : edge (sequential_memory_row 8 (2 ∷ []) (1 ∷ [])) (SequentialMemory (4 ∷ 6 ∷ []) 6 true)
    (bits 1 0 ∷ bits 1 1 ∷ bits 1 1 ∷ bits 8 9 ∷ None ∷ None ∷ []) ≡ Ok (SequentialMemory (9 ∷ 6 ∷ []) 6 true)
known_seq_write = refl

pub known_seq_idle : edge (sequential_memory_row 8 (2 ∷ []) (1 ∷ [])) (SequentialMemory (4 ∷ 6 ∷ []) 6 true)
    (bits 1 0 ∷ bits 1 0 ∷ bits 1 1 ∷ bits 8 9 ∷ None ∷ None ∷ []) ≡ Ok (SequentialMemory (4 ∷ 6 ∷ []) 6 false)
known_seq_idle = refl

-- a reset clears the read data and done, and keeps the words
pub known_reset : reset (sequential_memory_row 8 (2 ∷ []) (1 ∷ [])) (SequentialMemory (4 ∷ 6 ∷ []) 6 true) ≡ SequentialMemory (4 ∷ 6 ∷ []) 0 false
known_reset = refl

abbrev go_3_4 : Inputs
go_3_4 = bits 1 1 ∷ bits 8 3 ∷ bits 8 4 ∷ None ∷ None ∷ []

-- the third cycle with `go` ends a product
pub known_first : edge (multiplier_row 8) (multiplier_row 8).start go_3_4 ≡ Ok (Multiplier (record { count = 1; left = 3; right = 4; done = false }) 0)
known_first = refl

pub known_third : edge (multiplier_row 8) (Multiplier (record { count = 2; left = 100; right = 3; done = false }) 0) go_3_4
    ≡ Ok (Multiplier (record { count = 0; left = 100; right = 3; done = true }) 44)
known_third = refl

-- a divider of one bit takes its operands and ends in one cycle
pub known_one_bit : edge (divider_row 1) (divider_row 1).start (bits 1 1 ∷ bits 1 1 ∷ bits 1 0 ∷ None ∷ None ∷ None ∷ [])
    ≡ Ok (Divider (record { count = 0; left = 1; right = 0; done = true }) 1 1)
known_one_bit = refl

-- the eighth cycle with `go` ends a division of 8 bits: 100 is 14 times 7 and 2
pub known_division : edge (divider_row 8) (Divider (record { count = 7; left = 100; right = 7; done = false }) 0 0) (bits 1 1 ∷ None ∷ None ∷ None ∷ None ∷ None ∷ [])
    ≡ Ok (Divider (record { count = 0; left = 100; right = 7; done = true }) 14 2)
known_division = refl

pub known_timer : edge (timer_row 3) (TimerState 2 false) (bits 1 1 ∷ None ∷ None ∷ []) ≡ Ok (TimerState 0 true)
known_timer = refl

-- -128 is at most 127
pub known_signed : (binary_row 8 1 signed_at_most_bit_of).output (register_row 8).start (bits 8 128 ∷ bits 8 127 ∷ None ∷ []) 2 ≡ bits 1 1
known_signed = refl

-- parameters
pub known_width_0 : row_at Add (0 ∷ []) ≡ None
known_width_0 = refl

pub known_width_129 : row_at Reg (129 ∷ []) ≡ None
known_width_129 = refl

pub known_const : row_at Const (3 ∷ 8 ∷ []) ≡ None
known_const = refl

pub known_size_0 : row_at StdMemD2 (8 ∷ 2 ∷ 0 ∷ 1 ∷ 1 ∷ []) ≡ None
known_size_0 = refl

pub known_sizes : IsSome (row_at StdMemD2 (8 ∷ 65536 ∷ 65535 ∷ 16 ∷ 16 ∷ []))
known_sizes = refl

pub known_too_many : row_at StdMemD2 (8 ∷ 65536 ∷ 65536 ∷ 16 ∷ 16 ∷ []) ≡ None
known_too_many = refl

pub known_address : row_at CombMemD1 (8 ∷ 2 ∷ 65 ∷ []) ≡ None
known_address = refl

pub known_slice : row_at Slice (8 ∷ 9 ∷ []) ≡ None
known_slice = refl

-- all bits may be taken
pub known_whole_slice : IsSome (row_at Slice (8 ∷ 8 ∷ []))
known_whole_slice = refl

pub known_pad : row_at Pad (9 ∷ 8 ∷ []) ≡ None
known_pad = refl
