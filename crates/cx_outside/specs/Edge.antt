-- How the real files count their faults, and tell which reads failed.
use Rattle.std.specs.Prelude.{ℕ, List}
use Rattle.cx_outside.specs.Counts.{raised}
use Rattle.cx_outside.specs.Failures.{failed_by}
use Rattle.cx_outside.specs.declared.reading.FileAnswer.{FileAnswer}
use Rattle.cx_outside.specs.declared.reading.FileAnswer.TheVariants.{Failed, TooLong, Memory}

-- the count after a read with this answer: a failure alone raises it
abbrev pub count_after : FileAnswer → ℕ → ℕ
count_after Failed count = raised count
count_after (TooLong seen) count = count
count_after Memory count = count

-- how many faults there were, and the names of the reads that failed
pub record Reads : Type 0 where
  pub faults : ℕ
  pub failures : List (List ℕ)

abbrev pub reads_after : FileAnswer → List ℕ → Reads → Reads
reads_after answer name r = record { faults = count_after answer r.faults; failures = failed_by answer name r.failures }
