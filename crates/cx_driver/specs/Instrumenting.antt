-- What `instrument` writes of a text, and what a text is refused for.
use Rattle.std.specs.Prelude.{◌≡◌, ◌⊎◌, ◌<◌, ◌≤◌, ℕ, List, Result, Ok, Err}
use Rattle.cx_text.specs.declared.diagnostics.Diagnostic.{Diagnostic}
use Rattle.cx_text.specs.declared.limits.TheConstants.{COMPILE_SIZE}
use Rattle.cx_meaning.specs.Designs.{PlainDesign}
use Rattle.cx_rules.specs.Accepted.{IsAccepted, KeepsStage}
use Rattle.cx_rules.specs.Counts.{counted_design_size}
use Rattle.cx_vtree.specs.Spelling.{text_of}
use Rattle.cx_profiling.specs.Instrumented.{instrumented}
use Rattle.cx_compiler.specs.Runnable.{runnable}
use Rattle.cx_commands.specs.Stopping.{TellsBreak}
use Rattle.cx_commands.specs.declared.stops.Stop.{Stop}
use Rattle.cx_commands.specs.declared.stops.Stop.TheVariants as stops
use Rattle.cx_compiler.specs.Compiled.{IsRunTooLarge, IsTextOf, counted_too_large, written_source}
use Rattle.cx_compiler.specs.Texts.{IsDesignOf}
use Rattle.cx_driver.specs.Counting.{CountBreak, IsLimitStop}

-- WHAT instrument WRITES of a text: it is accepted, its instrumented design is accepted and within the size that
-- compile takes, and this is the text of what is run of that design, to the byte
pub record IsInstrumented (text answer : List ℕ) : Type 0 where
  pub design : PlainDesign
  pub stands : IsDesignOf text design
  pub accepted : IsAccepted (instrumented design)
  pub within : counted_design_size (instrumented design) ≤ COMPILE_SIZE
  pub written : IsTextOf (runnable (instrumented design)) answer
  pub exact : answer ≡ text_of (written_source (runnable (instrumented design)))

-- the text is accepted, its instrumented design keeps the limits, and is within the size
abbrev pub IsInstrumentable : List ℕ → Type 0
IsInstrumentable text =
    (d : PlainDesign) × IsDesignOf text d × KeepsStage 7 (instrumented d)
    × (counted_design_size (instrumented d) ≤ COMPILE_SIZE)

-- the text is accepted, its instrumented design keeps the limits, and is over the size
abbrev pub IsTooLargeToCount : List ℕ → Diagnostic → Type 0
IsTooLargeToCount text told =
    (d : PlainDesign) × IsDesignOf text d × KeepsStage 7 (instrumented d)
    × (COMPILE_SIZE < counted_design_size (instrumented d)) × (told ≡ counted_too_large (instrumented d))

-- REFUSED by instrument: the text breaks a rule; or else its instrumented design exceeds a limit; or else it is over the size
abbrev pub InstrumentBreak : List ℕ → Diagnostic → Type 0
InstrumentBreak text told = CountBreak text told ⊎ IsTooLargeToCount text told

-- WHAT instrument DOES WITH A TEXT: it writes this; or the text is refused, and that is told
abbrev pub Instruments : List ℕ → Result (List ℕ) Stop → Type 0
Instruments text (Ok answer) = IsInstrumented text answer
Instruments text (Err stop) = (told : Diagnostic) × InstrumentBreak text told × (stop ≡ stops.Rule told)

-- what is told of a text that is refused, unless memory is wanting
abbrev pub IsInstrumentStop : List ℕ → Stop → Type 0
IsInstrumentStop text stop = TellsBreak (InstrumentBreak text) stop

-- the same of a design
abbrev pub IsInstrumentedDesign : PlainDesign → List ℕ → Type 0
IsInstrumentedDesign d answer =
    IsAccepted (instrumented d) × (counted_design_size (instrumented d) ≤ COMPILE_SIZE)
    × IsTextOf (runnable (instrumented d)) answer
    × (answer ≡ text_of (written_source (runnable (instrumented d))))

abbrev pub IsInstrumentedStop : PlainDesign → Stop → Type 0
IsInstrumentedStop d stop = IsLimitStop d stop ⊎ (KeepsStage 7 (instrumented d) × IsRunTooLarge (instrumented d) stop)
