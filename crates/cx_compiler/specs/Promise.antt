-- What the interpreter and the simulator tell of a design and of its written text.
use Rattle.std.specs.Prelude.{◌≡◌, ◌↔◌, ℕ, ◌≤◌, List, Option, Result, Ok, Err}
use Rattle.cx_text.specs.Loading.{PlainMemory}
use Rattle.cx_text.specs.declared.limits.TheConstants.{DESIGN_BYTES}
use Rattle.cx_data.specs.Dump.{dump_text}
use Rattle.cx_data.specs.declared.faults.DataFault.{DataFault}
use Rattle.cx_meaning.specs.declared.sights.FaultKind.{FaultKind}
use Rattle.cx_meaning.specs.Designs.{PlainDesign}
use Rattle.cx_vtree.specs.Plain.{PlainSource}
use Rattle.cx_emitted.specs.Always.{RealisesAlways}
use Rattle.cx_compiler.specs.Runnable.{runnable}
use Rattle.cx_commands.specs.Reads.{OfFile}
use Rattle.cx_compiler.specs.Interpreted.{Interprets}
use Rattle.cx_commands.specs.declared.stops.Stop.{Stop}
use Rattle.cx_commands.specs.declared.stops.Stop.TheVariants as stops
use Rattle.cx_compiler.specs.Simulated.{DoesFromPower, IsVerilogOf, Simulates}
use Rattle.cx_compiler.specs.Compiled.{IsCompiled}
use Rattle.cx_compiler.specs.Texts.{IsDesignOf}

-- the run of main has a fault: a conflict, an undefined read or an address out of range
pub data IsFault : Stop → Type 0 where
  a_fault : (kind : FaultKind) (path : List ℕ) (turn : ℕ) → IsFault (stops.Fault kind path turn)

-- with this budget the interpreter dumps this, or tells a fault
pub data EndsOrFaults (text json : List ℕ) (budget : ℕ) (dump : List ℕ) : Type 0 where
  ends_so : Interprets text json budget (Ok dump) → EndsOrFaults text json budget dump
  faults : (stop : Stop) → IsFault stop → Interprets text json budget (Err stop) → EndsOrFaults text json budget dump

-- the dump tells this cycle; the interpreter that is given as many turns dumps it too, or tells a fault
pub record IsRunIn (text json : List ℕ) (budget cycle : ℕ) (dump : List ℕ) : Type 0 where
  pub memories : List PlainMemory
  pub tells : dump ≡ dump_text cycle memories
  pub within : cycle ≤ budget
  pub run : EndsOrFaults text json cycle dump

pub record KeepsPromise (text verilog : List ℕ) : Type 0 where
  -- what the interpreter dumps within a budget of turns, the simulator dumps within as many cycles, byte for byte
  pub same_dump : (json : List ℕ) (budget : ℕ) (dump : List ℕ) → Interprets text json budget (Ok dump)
      → Simulates verilog json budget (Ok dump)
  -- what the simulator dumps, the interpreter dumps with as many turns as there were cycles, or it tells a fault within them
  pub no_other_dump : (json : List ℕ) (budget : ℕ) (dump : List ℕ)
      → Simulates verilog json budget (Ok dump) → (cycle : ℕ) × IsRunIn text json budget cycle dump
  -- where the interpreter needs more turns, the simulator needs more cycles
  pub no_sooner : (json : List ℕ) (budget : ℕ) → Interprets text json budget (Err (stops.More budget))
      → Simulates verilog json budget (Err (stops.More budget))
  -- they refuse the same data files, for the same fault
  pub same_data : (json : List ℕ) (budget : ℕ) (fault : DataFault)
      → Interprets text json budget (Err (stops.Json fault)) ↔ Simulates verilog json budget (Err (stops.Json fault))
  -- whatever the budgets, the simulator dumps nothing else
  pub no_second_dump : (json : List ℕ) (turns cycles : ℕ) (dump other : List ℕ)
      → Interprets text json turns (Ok dump) → Simulates verilog json cycles (Ok other) → other ≡ dump
  -- where the interpreter has a fault in a turn, the simulator is not done in the cycle of that number, nor before
  pub quiet : (json : List ℕ) (budget : ℕ) (kind : FaultKind) (path : List ℕ) (turn : ℕ)
      → Interprets text json budget (Err (stops.Fault kind path turn))
      → Simulates verilog json turn (Err (stops.More turn))
  -- FROM ANY POWER-UP STATE the text does what the simulator tells of it
  pub from_power : (json : List ℕ) (budget : ℕ) (result : Result (List ℕ) Stop)
      → Simulates verilog json budget result → DoesFromPower verilog json budget result
  -- ALWAYS: from any power-up state, run after run with waits between, the source of the text does what the design
  -- that is run does, and each run is main from the state in which the run before ended
  pub always : (d : PlainDesign) (source : PlainSource) → IsDesignOf text d → IsVerilogOf verilog source
      → RealisesAlways (runnable d) source
  -- no net of the text is ever without a value
  pub no_loop : (json : List ℕ) (budget : ℕ) (net : List ℕ) → Simulates verilog json budget (Err (stops.Loop net)) → ⊥

-- THE PROMISE: whatever `compile` writes of a text keeps it
abbrev pub PromiseIsKept : Type 0
PromiseIsKept = (text verilog : List ℕ) → IsCompiled text verilog → KeepsPromise text verilog

-- and so does what it writes of a file, as far as it is told what the files hold
abbrev pub KeepsOfFile : Option (List ℕ → Option (List ℕ)) → List ℕ → List ℕ → Type 0
KeepsOfFile held file verilog = OfFile held DESIGN_BYTES file (λ text. KeepsPromise text verilog)
