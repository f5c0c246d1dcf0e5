-- Sets of cells that are closed under what a statement reads.
use Rattle.std.specs.Prelude.{◌≡◌, ℕ, true}
use Rattle.cx_meaning.specs.declared.ports.PortRef.TheVariants.{Cell}
use Rattle.cx_meaning.specs.declared.ports.PlacedPort.{PlacedPort}
use Rattle.cx_meaning.specs.Designs.{PlainAssign, PlainComponent, PlainStatement, group_at}
use Rattle.cx_meaning.specs.Control.{groups_of, drives}
use Rattle.cx_text.specs.Members.{In}
use Rattle.cx_rules.specs.Items.{tests_of}
use Rattle.cx_rules.specs.Footprints.{AssignNames}

-- it holds the cells that the statement drives, those that its groups and its conditions name, and with each cell those
-- that continuous assignments of a port of it name
pub record IsClosed (part : PlainComponent) (s : PlainStatement) (set : ℕ → Type 0) : Type 0 where
  pub driven : (c : ℕ) → drives part s c ≡ true → set c
  pub named : (c p g : ℕ) (a : PlainAssign) → In (groups_of s) g → In (group_at part g).assigns a
      → AssignNames a (Cell c p) → set c
  pub tested : (c p : ℕ) (test : PlacedPort) → In (tests_of s) test → test.port ≡ Cell c p → set c
  pub through : (c p e q : ℕ) (a : PlainAssign) → set c → In part.always a → a.target ≡ Cell c p
      → AssignNames a (Cell e q) → set e
