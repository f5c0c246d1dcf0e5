-- What is told of a data file that is not loaded.
use Rattle.std.specs.Prelude.{◌≡◌, ◌⊎◌, ℕ, List, Err}
use Rattle.cx_text.specs.Loading.{PlainRow}
use Rattle.cx_data.specs.Load.{load_of}
use Rattle.cx_data.specs.declared.faults.DataFault.{DataFault}
use Rattle.cx_commands.specs.declared.stops.Stop.{Stop}
use Rattle.cx_commands.specs.declared.stops.Stop.TheVariants as stops

-- its first fault, unless memory is wanting
abbrev pub IsUnloaded : List PlainRow → List ℕ → Stop → Type 0
IsUnloaded rows json stop =
    (stop ≡ stops.Memory)
    ⊎ ((fault : DataFault) × (load_of json rows ≡ Err fault) × (stop ≡ stops.Json fault))
