-- What a read of files in memory answers.
use Rattle.std.specs.Prelude.{ℕ, List, Option, Some, None, Result, Ok, Err, length, nat_lt, if◌then◌else◌}
use Rattle.cx_outside.specs.Counts.{raised}
use Rattle.cx_outside.specs.Failures.{failed_by}
use Rattle.cx_outside.specs.InMemory.{MemoryFiles, fails_next, held_in}
use Rattle.cx_outside.specs.declared.reading.FileAnswer.{FileAnswer}
use Rattle.cx_outside.specs.declared.reading.FileAnswer.TheVariants.{Failed, TooLong}

-- the answer for what a name holds
abbrev pub answer_of : Option (List ℕ) → ℕ → Result (List ℕ) FileAnswer
answer_of None limit = Err Failed
answer_of (Some bytes) limit = if nat_lt limit (length bytes) then Err (TooLong (length bytes)) else Ok bytes

-- the answer to the next call, with ample memory
abbrev pub read_answer : MemoryFiles → List ℕ → ℕ → Result (List ℕ) FileAnswer
read_answer m name limit = if fails_next m.fails m.calls then Err Failed else answer_of (held_in m.entries name) limit

-- the next call counts, and so does its fault where it is listed
abbrev pub after_read : MemoryFiles → MemoryFiles
after_read m =
    record m {
      calls = raised m.calls;
      faults = if fails_next m.fails m.calls then raised m.faults else m.faults;
    }

-- and the name of a read that failed is kept
abbrev pub after_answer : FileAnswer → List ℕ → MemoryFiles → MemoryFiles
after_answer answer name m = record (after_read m) { failures = failed_by answer name m.failures }
