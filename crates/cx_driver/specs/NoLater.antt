-- Texts that are interpreted no later than others.
use Rattle.std.specs.Prelude.{◌≡◌, ◌≤◌, ℕ, List, Option, Result, Ok, Err}
use Rattle.cx_text.specs.Loading.{PlainMemory}
use Rattle.cx_text.specs.declared.limits.TheConstants.{DESIGN_BYTES}
use Rattle.cx_data.specs.Dump.{dump_text}
use Rattle.cx_commands.specs.Reads.{OfFile}
use Rattle.cx_commands.specs.declared.stops.Stop.{Stop}
use Rattle.cx_commands.specs.declared.stops.Stop.TheVariants as stops
use Rattle.cx_compiler.specs.Interpreted.{Interprets}
use Rattle.cx_compiler.specs.Texts.{IsAcceptedText}

-- the same fault of the data file; of a fault of the run, or where it needs more turns, nothing is said
abbrev pub StopsNoLater : Stop → Result (List ℕ) Stop → Type 0
StopsNoLater (stops.Rule told) other = other ≡ Err (stops.Rule told)
StopsNoLater (stops.Verilog refused) other = other ≡ Err (stops.Verilog refused)
StopsNoLater (stops.Json fault) other = other ≡ Err (stops.Json fault)
StopsNoLater (stops.More budget) other = Unit {0}
StopsNoLater (stops.Fault kind path turn) other = Unit {0}
StopsNoLater (stops.Loop path) other = other ≡ Err (stops.Loop path)
StopsNoLater stops.Memory other = other ≡ Err stops.Memory

-- a dump of no more turns, with the same memories
abbrev pub ToldNoLater : Result (List ℕ) Stop → Result (List ℕ) Stop → Type 0
ToldNoLater (Ok dump) other =
    (turns : ℕ) × (fewer : ℕ) × (memories : List PlainMemory) × (dump ≡ dump_text turns memories)
    × (other ≡ Ok (dump_text fewer memories)) × (fewer ≤ turns)
ToldNoLater (Err stop) other = StopsNoLater stop other

-- INTERPRETED NO LATER: the second text is accepted; and on every data file and within every budget of turns, where
-- `interp` dumps of the first, it dumps of the second, of no more turns and with the same memories; and it refuses
-- the same data files for the same fault
pub record InterpretsNoLater (text other : List ℕ) : Type 0 where
  pub accepted : IsAcceptedText other
  pub told : (json : List ℕ) (budget : ℕ) (result : Result (List ℕ) Stop) → Interprets text json budget result
      → (answer : Result (List ℕ) Stop) × Interprets other json budget answer × ToldNoLater result answer

-- this is written of a file: where it is told what files hold, of the text that the file holds
abbrev pub NoLaterOfFile : Option (List ℕ → Option (List ℕ)) → List ℕ → List ℕ → Type 0
NoLaterOfFile held file answer = OfFile held DESIGN_BYTES file (λ text. InterpretsNoLater text answer)
