-- What a Verilog text does on a data file, and what stops it.
use Rattle.std.specs.Prelude.{◌≡◌, ◌≢◌, ◌⊎◌, ℕ, List, Result, Ok, Err, true}
use Rattle.cx_text.specs.Loading.{PlainMemory, words_loaded, with_words}
use Rattle.cx_data.specs.Load.{load_of}
use Rattle.cx_data.specs.Dump.{dump_text}
use Rattle.cx_data.specs.declared.faults.DataFault.{DataFault}
use Rattle.cx_vtree.specs.Plain.{PlainSource}
use Rattle.cx_vtree.specs.PlainParts.{rows_of}
use Rattle.cx_vtree.specs.InstanceTree.{instances_of}
use Rattle.cx_vtree.specs.Layout.{is_laid_out}
use Rattle.cx_vtree.specs.Sound.{is_sound}
use Rattle.cx_vtree.specs.Spelling.{text_of}
use Rattle.cx_vtree.specs.Meaning.{State}
use Rattle.cx_vtree.specs.SimRun.{Outcome, DoneAt, LoopAt, NotDone, SimRun}
use Rattle.cx_emitted.specs.Power.{HasPower, PowerRun}
use Rattle.cx_velab.specs.Paths.{path_of}
use Rattle.cx_vread.specs.ReadAnswers.{Answers, Tells}
use Rattle.cx_vread.specs.declared.refusals.ReadRefusal.{ReadRefusal}
use Rattle.cx_vread.specs.declared.refusals.ReadRefusal.TheVariants as unread
use Rattle.cx_compiler.specs.Interpreted.{PlainLeft}
use Rattle.cx_commands.specs.declared.stops.Stop.{Stop}
use Rattle.cx_commands.specs.declared.stops.Stop.TheVariants as stops

-- the text spells this sound source
pub record IsVerilogOf (text : List ℕ) (source : PlainSource) : Type 0 where
  pub spelled : text ≡ text_of source
  pub sound : is_sound source ≡ true

-- The text spells no sound source. Where it spells one that is laid out, its first break is told, whatever numbers stand in it. And what is
-- told is so: the first line with which the lines so far begin no text; or the first break of what the text spells.
pub record IsVerilogRefusal (text : List ℕ) (refused : ReadRefusal) : Type 0 where
  pub told : refused ≢ unread.Memory
  pub no_source : (source : PlainSource) → IsVerilogOf text source → ⊥
  pub first : (source : PlainSource) → text ≡ text_of source → is_laid_out source ≡ true → Answers source (Err refused)
  pub tells : Tells text refused

-- what an outcome is told as: the dump of its cycle and of the words in which it leaves the memories; the net without a value;
-- or that `done` is 0 in all these cycles
abbrev pub told_outcome : PlainSource → List PlainMemory → ℕ → Outcome → Result (List ℕ) Stop
told_outcome source memories budget (DoneAt cycle words) = Ok (dump_text cycle (with_words memories words))
told_outcome source memories budget (LoopAt instance net) =
    Err (stops.Loop (path_of (instances_of source) instance net))
told_outcome source memories budget NotDone = Err (stops.More budget)

-- THE RUN OF A SOURCE with these memories loaded
abbrev pub RunDoes : PlainSource → List PlainMemory → ℕ → Result (List ℕ) Stop → Type 0
RunDoes source memories budget result =
    (o : Outcome) × SimRun source (words_loaded memories) budget o
    × (result ≡ told_outcome source memories budget o)

abbrev pub LoadedDoes : PlainSource → ℕ → Result (List PlainMemory) DataFault → Result (List ℕ) Stop → Type 0
LoadedDoes source budget (Ok memories) result = RunDoes source memories budget result
LoadedDoes source budget (Err fault) result = result ≡ Err (stops.Json fault)

-- WHAT A SOURCE DOES ON A DATA FILE: its run with the words of the file, or the first fault of the file
abbrev pub SourceDoes : PlainSource → List ℕ → ℕ → Result (List ℕ) Stop → Type 0
SourceDoes source json budget result = LoadedDoes source budget (load_of json (rows_of source.externals)) result

-- the text spells a sound source, which does this
abbrev pub Spells : List ℕ → List ℕ → ℕ → Result (List ℕ) Stop → Type 0
Spells verilog json budget result =
    (source : PlainSource) × IsVerilogOf verilog source × SourceDoes source json budget result

-- WHAT A VERILOG TEXT DOES ON A DATA FILE: it spells a sound source, which does this; or it spells none, and that is told
abbrev pub Simulates : List ℕ → List ℕ → ℕ → Result (List ℕ) Stop → Type 0
Simulates verilog json budget result =
    Spells verilog json budget result
    ⊎ ((refused : ReadRefusal) × IsVerilogRefusal verilog refused × (result ≡ Err (stops.Verilog refused)))

-- THE RUN FROM POWER-UP of a source: from each state with these memories loaded and zeros in all other arrays,
-- whatever its registers hold, whatever stands on the nets in the cycle of the edge with reset and whatever go is
-- there, a run that is told so
abbrev pub PowerDoes : PlainSource → List PlainMemory → ℕ → Result (List ℕ) Stop → Type 0
PowerDoes source memories budget result =
    (power : State) → HasPower source (words_loaded memories) power
    → (o : Outcome) × PowerRun source power budget o × (result ≡ told_outcome source memories budget o)

abbrev pub LoadedPowerDoes : PlainSource → ℕ → Result (List PlainMemory) DataFault → Result (List ℕ) Stop → Type 0
LoadedPowerDoes source budget (Ok memories) result = PowerDoes source memories budget result
LoadedPowerDoes source budget (Err fault) result = result ≡ Err (stops.Json fault)

-- WHAT A VERILOG TEXT DOES FROM ANY POWER-UP STATE on a data file: it spells a sound source, which does this from each
abbrev pub DoesFromPower : List ℕ → List ℕ → ℕ → Result (List ℕ) Stop → Type 0
DoesFromPower verilog json budget result =
    (source : PlainSource) × IsVerilogOf verilog source
    × LoadedPowerDoes source budget (load_of json (rows_of source.externals)) result

-- WHAT A RUN LEAVES in the first cycle in which `done` is 1, with these memories loaded
pub record RunLeaves (source : PlainSource) (memories : List PlainMemory) (budget : ℕ) (left : PlainLeft) : Type 0 where
  pub words : List (List ℕ)
  pub run : SimRun source (words_loaded memories) budget (DoneAt left.turns words)
  pub leaves : left.memories ≡ with_words memories words

-- what a source leaves on a data file
pub record SourceLeaves (source : PlainSource) (json : List ℕ) (budget : ℕ) (left : PlainLeft) : Type 0 where
  pub memories : List PlainMemory
  pub loads : load_of json (rows_of source.externals) ≡ Ok memories
  pub run : RunLeaves source memories budget left

-- and the sound source that a text spells
pub record TextLeaves (verilog json : List ℕ) (budget : ℕ) (left : PlainLeft) : Type 0 where
  pub source : PlainSource
  pub spelled : IsVerilogOf verilog source
  pub leaves : SourceLeaves source json budget left

-- what is written of a text
abbrev pub IsSimAnswer : List ℕ → List ℕ → ℕ → List ℕ → Type 0
IsSimAnswer verilog json budget answer = Simulates verilog json budget (Ok answer)

-- what is told of a text without an answer
abbrev pub IsSimStop : List ℕ → List ℕ → ℕ → Stop → Type 0
IsSimStop verilog json budget stop = (stop ≡ stops.Memory) ⊎ Simulates verilog json budget (Err stop)

-- the same of a source
abbrev pub IsSourceStop : PlainSource → List ℕ → ℕ → Stop → Type 0
IsSourceStop source json budget stop = (stop ≡ stops.Memory) ⊎ SourceDoes source json budget (Err stop)

-- the same of a run
abbrev pub StopsRun : PlainSource → List PlainMemory → ℕ → Stop → Type 0
StopsRun source memories budget stop = (stop ≡ stops.Memory) ⊎ RunDoes source memories budget (Err stop)

-- what is told of a text that is not read
abbrev pub IsNoSource : List ℕ → Stop → Type 0
IsNoSource text stop =
    (stop ≡ stops.Memory)
    ⊎ ((refused : ReadRefusal) × IsVerilogRefusal text refused × (stop ≡ stops.Verilog refused))

-- why a text is not read
abbrev pub read_stop : ReadRefusal → Stop
read_stop (unread.Syntax line) = stops.Verilog (unread.Syntax line)
read_stop (unread.Name line) = stops.Verilog (unread.Name line)
read_stop (unread.Width line) = stops.Verilog (unread.Width line)
read_stop (unread.Limit line) = stops.Verilog (unread.Limit line)
read_stop unread.Memory = stops.Memory
