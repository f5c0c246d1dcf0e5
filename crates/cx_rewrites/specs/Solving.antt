-- A look that solves the steps of a closed set of ports.
use Rattle.std.specs.Prelude.{◌≡◌, ℕ}
use Rattle.cx_meaning.specs.declared.ports.PortRef.{PortRef}
use Rattle.cx_meaning.specs.declared.ports.PortRef.TheVariants as ports
use Rattle.cx_meaning.specs.Instances.{Instance, OfInstance, cells_of, cell_at, State, under}
use Rattle.cx_meaning.specs.Active.{Active, nothing}
use Rattle.cx_meaning.specs.Sights.{Look, Below, Held, unheld, step, Sees}
use Rattle.cx_rules.specs.Footprints.{Leads}

-- of the cell of a port: what its outputs are seen as, where it is a component's
abbrev pub IsSeenBelow : Instance → State → PortRef → Below → Type 0
IsSeenBelow i s p below =
    (c port n : ℕ) (child : Instance) → p ≡ ports.Cell c port → cell_at (cells_of i) c ≡ OfInstance child
    → Sees child unheld nothing (under c s) (ports.Output n) (below c n)

-- a set of ports that what leads from it does not leave, and a look that is, at each port of it, what one step gives over the look itself
pub record Solves (i : Instance) (held : Held) (act : Active) (s : State) (inside : PortRef → Type 0)
    (look : Look) : Type 0 where
  pub closed : (p q : PortRef) → inside p → Leads i act p q → inside q
  pub steps : (p : PortRef) (below : Below) → inside p → IsSeenBelow i s p below
      → look p ≡ step i held act s look below p
