-- Files and sinks in memory: what they hold, and which of their calls fail.
use Rattle.std.specs.Prelude.{ℕ, ◌-◌, ◌==◌, List, ◌++◌, Bool, Option, find, option_map, length, take, min, if◌then◌else◌}
use Rattle.std.specs.List.{list_any}
use Rattle.std.specs.Cmp.Lexicographic.{pointwise}
use Rattle.cx_outside.specs.Counts.{raised}

-- files in memory: names with what they hold, the numbers of the calls that fail, how many calls and faults there
-- were, and the names of the reads that failed
pub record MemoryFiles : Type 0 where
  pub entries : List (List ℕ × List ℕ)
  pub fails : List ℕ
  pub calls : ℕ
  pub faults : ℕ
  pub failures : List (List ℕ)

-- a sink in memory: the most bytes of a call, the numbers of the calls that fail, the bytes of its room, what it has taken,
-- and how many calls and faults there were
pub record MemorySink : Type 0 where
  pub most : ℕ
  pub fails : List ℕ
  pub room : ℕ
  pub written : List ℕ
  pub calls : ℕ
  pub faults : ℕ

-- the next call is listed among those that fail; calls are counted from 1
abbrev pub fails_next : List ℕ → ℕ → Bool
fails_next fails calls = list_any (λ n. n == raised calls) fails

-- what the first entry with this name holds
abbrev pub held_in : List (List ℕ × List ℕ) → List ℕ → Option (List ℕ)
held_in entries name = option_map (λ e. e.1) (find (λ e. pointwise ◌==◌ e.0 name) entries)

-- how many bytes of a piece of this length the next call takes; none where it fails
abbrev pub taken : MemorySink → ℕ → ℕ
taken s len = if fails_next s.fails s.calls then 0 else min (min len s.most) (s.room - length s.written)

abbrev pub after_write : MemorySink → List ℕ → MemorySink
after_write s piece =
    record s {
      written = s.written ++ take (taken s (length piece)) piece;
      calls = raised s.calls;
      faults = if taken s (length piece) == 0 then raised s.faults else s.faults;
    }
