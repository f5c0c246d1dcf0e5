-- The maps of ports of a component, of the continuous assignments of a static child, and of a copy for an invoke.
use Rattle.std.specs.Prelude.{ℕ, List}
use Rattle.cx_meaning.specs.declared.ports.PortRef.{PortRef}
use Rattle.cx_meaning.specs.declared.ports.PortRef.TheVariants as ports
use Rattle.cx_design.specs.declared.invokes.StaticInvoke.{StaticInvoke}
use Rattle.cx_design.specs.PlainForms.{plain_assigns}
use Rattle.cx_flattening.specs.Events.{source_to}
use Rattle.cx_flat.specs.declared.stands.Stand.{Stand}
use Rattle.cx_flat.specs.declared.ports.PortMap.{PortMap}
use Rattle.cx_flat.specs.declared.ports.PortMap.TheVariants.{Own, Inner, Invoked}
use Rattle.cx_flat.specs.Stands.{own_by, block_by}

-- the sources of the inputs of an invoke
abbrev pub sources_by : List Stand → StaticInvoke → ℕ → PortRef
sources_by stands v n = own_by stands (source_to v.cell (plain_assigns v.inputs.items) n)

abbrev pub map_by : PortMap → PortRef → PortRef
map_by (Own stands) = own_by stands.now
map_by (Inner block) = block_by block (λ n. ports.Input n)
map_by (Invoked block stands invoke) = block_by block (sources_by stands.now invoke.now)
