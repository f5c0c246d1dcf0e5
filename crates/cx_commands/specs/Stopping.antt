-- What is told where something stops, unless memory is wanting.
use Rattle.std.specs.Prelude.{◌≡◌, ◌⊎◌}
use Rattle.cx_text.specs.declared.diagnostics.Diagnostic.{Diagnostic}
use Rattle.cx_commands.specs.declared.stops.Stop.{Stop}
use Rattle.cx_commands.specs.declared.stops.Stop.TheVariants as stops

-- a break of which this holds
abbrev pub TellsBreak : (Diagnostic → Type 0) → Stop → Type 0
TellsBreak breaks stop = (stop ≡ stops.Memory) ⊎ ((told : Diagnostic) × breaks told × (stop ≡ stops.Rule told))
