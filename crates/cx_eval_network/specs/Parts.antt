-- The ports of a component in the order of their numbers.
use Rattle.std.specs.Prelude.{◌≡◌, ℕ, List, Some, length, slice_get}
use Rattle.cx_meaning.specs.declared.ports.PortRef.{PortRef}
use Rattle.cx_meaning.specs.declared.ports.PortRef.TheVariants as ports
use Rattle.cx_meaning.specs.Instances.{Instance}
use Rattle.cx_design_leads.specs.Nodes.{below, node_of}

-- the port of another number, of the same kind
abbrev pub at_number : PortRef → ℕ → PortRef
at_number (ports.Cell c p) n = ports.Cell c n
at_number (ports.Input p) n = ports.Input n
at_number (ports.Output p) n = ports.Output n
at_number (ports.Done p) n = ports.Done n
at_number (ports.Literal w v) n = ports.Literal w v

-- so many ports of a kind have nodes, from one on
abbrev pub HaveSpan : Instance → PortRef → ℕ → ℕ → Type 0
HaveSpan i p count start = (n : ℕ) → node_of i (at_number p n) ≡ below count start n

-- the ports of the first nodes, each at its node
pub record ArePorts (i : Instance) (count : ℕ) (list : List PortRef) : Type 0 where
  pub sized : length list ≡ count
  pub each : (m : ℕ) (p : PortRef) → slice_get list m ≡ Some p → node_of i p ≡ Some m
