-- The list of an island of a tree.
use Rattle.std.specs.Prelude.{ℕ, ◌<◌, List, [], length}
use Rattle.cx_meaning.specs.declared.ports.PortRef.{PortRef}
use Rattle.cx_meaning.specs.Designs.{PlainForm}
use Rattle.cx_meaning.specs.Instances.{Instance, part_of, cells_of}
use Rattle.cx_meaning.specs.Active.{nothing, entries}
use Rattle.cx_meaning.specs.Control.{groups_in}
use Rattle.cx_text.specs.Members.{In}
use Rattle.cx_flattening.specs.Events.{Event, spot, form_events, events_below}
use Rattle.cx_flattening.specs.Deeds.{History, deeds_in, own_entries}
use Rattle.cx_flattening.specs.Embedded.{IsFlattened}
use Rattle.cx_flattening.specs.Fair.{IsNamed, AllFair}
use Rattle.cx_flattening.specs.Seeing.{NoCircle}
use Rattle.cx_flattening.specs.Controlled.{timed_in, tested_in, AllControlled}
use Rattle.cx_flattening.specs.FedOnce.{FedOnce}

-- a statement of an instance: its groups and invokes are there, and the ports that it tests may be named
pub record IsStaticOf (i : Instance) (form : PlainForm) : Type 0 where
  pub enables : (g : ℕ) → In (groups_in form) g → g < length (part_of i).groups
  pub timed : (j : ℕ) → In (timed_in form) j → j < length (part_of i).invokes
  pub tests : (p : PortRef) → In (tested_in form) p → IsNamed i p

-- what the island of a statement does
abbrev pub island_events : Instance → PlainForm → List Event
island_events i form =
    form_events (part_of i) (events_below (cells_of i)) form
    (record { at = []; bound = spot []; from = 0; conditions = [] })

-- WHAT IS ASKED of an island of a tree and of its flat instance: no static child is fed twice, and nothing leads in a circle
pub record IsIsland (i flat : Instance) (form : PlainForm) : Type 0 where
  pub flattened : IsFlattened i flat
  pub fair : AllFair i
  pub controlled : AllControlled i
  pub static : IsStaticOf i form
  pub once : (h : History) (t : ℕ) → FedOnce i (deeds_in h t (island_events i form))
  pub no_circle : (h : History) (t : ℕ) → NoCircle i
      (entries (own_entries (deeds_in h t (island_events i form)))) (deeds_in h t (island_events i form))
  pub still : NoCircle i nothing []
