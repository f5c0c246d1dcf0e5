-- What a text is refused for where its instrumented design is asked for.
use Rattle.std.specs.Prelude.{◌⊎◌, ℕ, List}
use Rattle.cx_text.specs.declared.diagnostics.Diagnostic.{Diagnostic}
use Rattle.cx_meaning.specs.Designs.{PlainDesign}
use Rattle.cx_rules.specs.Accepted.{IsFirstOf}
use Rattle.cx_emitted.specs.ByteLaws.{HasGuards}
use Rattle.cx_profiling.specs.Instrumented.{instrumented}
use Rattle.cx_compiler.specs.Runnable.{CanBeFlattened}
use Rattle.cx_commands.specs.Stopping.{TellsBreak}
use Rattle.cx_commands.specs.declared.stops.Stop.{Stop}
use Rattle.cx_compiler.specs.Texts.{IsDesignOf, TextBreak}
use Rattle.cx_compiler.specs.Words.{HasWords}

-- the text is accepted, and this is the first limit that its instrumented design exceeds
abbrev pub ExceedsLimit : List ℕ → Diagnostic → Type 0
ExceedsLimit text told = (d : PlainDesign) × IsDesignOf text d × IsFirstOf 7 (instrumented d) told

-- REFUSED: the text breaks a rule, or else its instrumented design exceeds a limit
abbrev pub CountBreak : List ℕ → Diagnostic → Type 0
CountBreak text told = TextBreak text told ⊎ ExceedsLimit text told

-- what is told of an instrumented design that exceeds a limit, unless memory is wanting
abbrev pub IsLimitStop : PlainDesign → Stop → Type 0
IsLimitStop d stop = TellsBreak (IsFirstOf 7 (instrumented d)) stop

-- what a design that is counted keeps: what flattening asks for, and what its text has, so that the text of its
-- instrumented design can be written
pub record CanCount (d : PlainDesign) : Type 0 where
  pub flattens : CanBeFlattened d
  pub guards : HasGuards d
  pub words : HasWords d
