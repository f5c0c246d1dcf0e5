-- What timers and samples give of an island's cycle, as far as its machine needs it.
use Rattle.std.specs.Prelude.{◌≡◌, ℕ, ◌<◌, []}
use Rattle.cx_text.specs.declared.places.Place.{Place}
use Rattle.cx_meaning.specs.Designs.{PlainForm, Placed}
use Rattle.cx_meaning.specs.Instances.{Instance, part_of}
use Rattle.cx_meaning.specs.Islands.{History, form_flat, form_length, active_in, looked_at}
use Rattle.cx_laws.specs.Samples.{Samples, AreKept, active_by, begun_by}
use Rattle.cx_control.specs.InstanceRules.{Stands}

-- the samples give the groups that are active in a cycle and the ports of the static ifs that begin
pub record IslandRules (i : Instance) : Type 0 where
  pub active : (form : PlainForm) (h : History) (t : ℕ) (kept : Samples)
      → AreKept (part_of i) h t form kept → t < form_length (part_of i) form
      → active_by (part_of i) kept t form ≡ active_in h t (form_flat (part_of i) form 0 [])
  pub begun : (form : PlainForm) (place : Place) → Stands i (Placed form place)
      → (h : History) (t : ℕ) (kept : Samples) → AreKept (part_of i) h t form kept
      → t < form_length (part_of i) form
      → begun_by (part_of i) kept t form ≡ looked_at h t (form_flat (part_of i) form 0 [])
