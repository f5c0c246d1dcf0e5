-- Literals as they are seen.
use Rattle.std.specs.Prelude.{if◌then◌else◌}
use Rattle.cx_meaning.specs.declared.ports.PortRef.{PortRef}
use Rattle.cx_meaning.specs.declared.ports.PortRef.TheVariants as ports
use Rattle.cx_meaning.specs.declared.sights.Seen.{Seen}
use Rattle.cx_meaning.specs.declared.sights.Seen.TheVariants.{Undefined, Value}
use Rattle.cx_rules.specs.Ports.{keeps_literal}

-- one that fits its width as it is; other ports are none
abbrev pub literal_seen : PortRef → Seen
literal_seen (ports.Cell c p) = Undefined
literal_seen (ports.Input n) = Undefined
literal_seen (ports.Output n) = Undefined
literal_seen (ports.Done g) = Undefined
literal_seen (ports.Literal w v) = if keeps_literal w v then Value (record { width = w; value = v }) else Undefined
