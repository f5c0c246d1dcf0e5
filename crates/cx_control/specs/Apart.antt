-- An active set of a statement beside all that is active together, and a set with less in it than another.
use Rattle.std.specs.Prelude.{◌≡◌, ℕ, true, Some}
use Rattle.cx_meaning.specs.declared.ports.PortRef.{PortRef}
use Rattle.cx_meaning.specs.declared.ports.PortRef.TheVariants as ports
use Rattle.cx_meaning.specs.Designs.{PlainComponent, PlainStatement}
use Rattle.cx_meaning.specs.Active.{Active}
use Rattle.cx_text.specs.Members.{In}
use Rattle.cx_meaning.specs.Control.{groups_of, group_drives}
use Rattle.cx_rules.specs.Footprints.{Reads}

-- only groups of the statement are active in its set, and of each group that drives a cell that the statement reads the
-- union has what the set has
pub record IsApart (part : PlainComponent) (s : PlainStatement) (act go : Active) : Type 0 where
  pub its_own : (g o : ℕ) → act.offset g ≡ Some o → In (groups_of s) g
  pub same : (g c : ℕ) → Reads part s c → group_drives part g c ≡ true → act.offset g ≡ go.offset g

-- a port of a cell that the statement reads, or the done of a group that is active in its set at offset 0
pub data IsOf (part : PlainComponent) (s : PlainStatement) (act : Active) : PortRef → Type 0 where
  of_cell : {c q : ℕ} → Reads part s c → IsOf part s act (ports.Cell c q)
  of_done : {g : ℕ} → act.offset g ≡ Some 0 → IsOf part s act (ports.Done g)

-- each group that is active in the one is active in the other, at whatever offset
abbrev pub HasLess : Active → Active → Type 0
HasLess less more = (g o : ℕ) → less.offset g ≡ Some o → (u : ℕ) × (more.offset g ≡ Some u)
