-- Nodes that are ports of numbered instances.
use Rattle.std.specs.Prelude.{◌≡◌, ℕ, ◌<◌, ◌⊎◌, List}
use Rattle.cx_meaning.specs.declared.ports.PortRef.{PortRef}
use Rattle.cx_meaning.specs.Instances.{Instance}
use Rattle.cx_meaning.specs.Active.{Active}
use Rattle.cx_text.specs.Members.{In}
use Rattle.cx_rules.specs.Circles.{IsAcyclic}
use Rattle.cx_rules.specs.Footprints.{Leads}

-- the instances by their numbers, what is active in each, and of each node the number of its instance and its port
pub record PortNodes : Type 0 where
  pub instance : ℕ → Instance
  pub active : ℕ → Active
  pub number : ℕ → ℕ
  pub port : ℕ → PortRef

-- nothing leads in a circle in any instance
abbrev pub AreAcyclic : PortNodes → Type 0
AreAcyclic nodes = (k : ℕ) → IsAcyclic (nodes.instance k) (nodes.active k)

-- a node leads to a port that its own depends on at once, in the same instance, or to one of a later instance
pub record LeadsWithin (nodes : PortNodes) (n m : ℕ) : Type 0 where
  pub same : nodes.number m ≡ nodes.number n
  pub leads : Leads (nodes.instance (nodes.number n)) (nodes.active (nodes.number n)) (nodes.port n) (nodes.port m)

abbrev pub LeadOn : PortNodes → (ℕ → List ℕ) → Type 0
LeadOn nodes leads = (n m : ℕ) → In (leads n) m → LeadsWithin nodes n m ⊎ (nodes.number n < nodes.number m)
