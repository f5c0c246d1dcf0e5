-- The ports that a port depends on at once, in a list.
use Rattle.std.specs.Prelude.{ℕ, List, [], ◌∷◌, ◌++◌, map}
use Rattle.cx_prim.specs.declared.ports.Side.{Side}
use Rattle.cx_prim.specs.declared.ports.Side.TheVariants as sides
use Rattle.cx_prim.specs.Rows.{Row}
use Rattle.cx_meaning.specs.declared.ports.PortRef.{PortRef}
use Rattle.cx_meaning.specs.declared.ports.PortRef.TheVariants as ports
use Rattle.cx_meaning.specs.Rows.{side_of}
use Rattle.cx_meaning.specs.Designs.{PlainComponent}
use Rattle.cx_meaning.specs.Instances.{Instance, At, Nothing, OfRow, OfInstance, cell_at, cells_of, part_of}
use Rattle.cx_meaning.specs.Active.{Active, Acting, drivers}
use Rattle.cx_meaning.specs.Sights.{PartPort, Go, AnInput, AnOutput, ItsDone, numbered, part_port}
use Rattle.cx_rules.specs.Items.{sources_of}
use Rattle.cx_design_parts.specs.Outputs.{read_count}

-- what the sources and guards of active assignments name
abbrev pub named_by : List Acting → List PortRef
named_by [] = []
named_by (a ∷ acts) = map (λ p. p.port) (sources_of a.assign) ++ named_by acts

module _ (part : PlainComponent) (act : Active) where
  abbrev pub side_leads : Row → ℕ → ℕ → Side → List PortRef
  side_leads row c p sides.Enable = named_by (drivers part act (ports.Cell c p))
  side_leads row c p sides.Plain = named_by (drivers part act (ports.Cell c p))
  side_leads row c p sides.Output = numbered c (read_count row.ports)
  side_leads row c p sides.Registered = []

  abbrev pub part_leads : ℕ → ℕ → PartPort → List PortRef
  part_leads c p Go = named_by (drivers part act (ports.Cell c p))
  part_leads c p (AnInput n) = named_by (drivers part act (ports.Cell c p))
  part_leads c p (AnOutput n) = []
  part_leads c p ItsDone = []

  abbrev pub cell_leads : ℕ → ℕ → At → List PortRef
  cell_leads c p Nothing = []
  cell_leads c p (OfRow row) = side_leads row c p (side_of row p)
  cell_leads c p (OfInstance child) = part_leads c p (part_port (part_of child) p)

-- of a port of an instance: what its active assignments name, or as an output of a primitive the inputs that it reads
abbrev pub lead_ports : Instance → Active → PortRef → List PortRef
lead_ports i act (ports.Cell c p) = cell_leads (part_of i) act c p (cell_at (cells_of i) c)
lead_ports i act (ports.Input n) = []
lead_ports i act (ports.Output n) = named_by (drivers (part_of i) act (ports.Output n))
lead_ports i act (ports.Done g) = named_by (drivers (part_of i) act (ports.Done g))
lead_ports i act (ports.Literal w v) = []
