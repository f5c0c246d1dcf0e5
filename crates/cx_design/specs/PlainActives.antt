-- What active sets and faults of a run stand for.
use Rattle.std.specs.Prelude.{◌≡◌, ℕ, List, map, Option, Some, None, slice_get}
use Rattle.cx_meaning.specs.Instances.{Instance, paths_of}
use Rattle.cx_meaning.specs.Active as plain
use Rattle.cx_meaning.specs.Calls.{called}
use Rattle.cx_meaning.specs.Cycles.{Fault}
use Rattle.cx_design.specs.declared.actives.Active.{Active}
use Rattle.cx_design.specs.declared.actives.Active.TheVariants as actives
use Rattle.cx_design.specs.declared.actives.ActiveEntry.{ActiveEntry}
use Rattle.cx_design.specs.declared.actives.PortFault.{PortFault}

abbrev pub plain_entry : ActiveEntry → plain.Entry
plain_entry e = record { group = e.group; offset = e.offset }

-- the capture cycle of a call group, in which the done of its cell is 1
abbrev pub capture_of : ℕ → Option ℕ → plain.Active
capture_of g None = plain.group g
capture_of g (Some c) = plain.capture g c

-- an active set of an instance
abbrev pub plain_active : Instance → Active → plain.Active
plain_active i actives.Nothing = plain.nothing
plain_active i (actives.Group g) = plain.group g
plain_active i (actives.CallEnd g) = capture_of g (called i g)
plain_active i (actives.Entries entries) = plain.entries (map plain_entry entries.items)

-- a fault told by the number of its instance, in pre-order of a tree
pub record TellsFault (tree : Instance) (fault : Fault) (told : PortFault) : Type 0 where
  pub kind : told.kind ≡ fault.kind
  pub port : told.port ≡ fault.port
  pub instance : slice_get (paths_of tree) told.instance ≡ Some fault.path
