-- What the rules of acceptance give an instance of a design's tree, as far as the machines of its control need it.
use Rattle.std.specs.Prelude.{◌≡◌, ℕ, ◌<◌, false, [], length}
use Rattle.cx_text.specs.Members.{In}
use Rattle.cx_meaning.specs.Designs.{PlainStatement, PlainForm, Placed}
use Rattle.cx_text.specs.declared.places.Place.{Place}
use Rattle.cx_meaning.specs.Instances.{Instance, OfInstance, cell_at, cells_of, part_of, State, idle, IsSettled}
use Rattle.cx_meaning.specs.Active.{Active, group, capture, entries}
use Rattle.cx_meaning.specs.Sights.{Held}
use Rattle.cx_meaning.specs.Cycles.{Goes, cycle}
use Rattle.cx_meaning.specs.Control.{drives, groups_of}
use Rattle.cx_meaning.specs.Islands.{History, active_in, form_flat}
use Rattle.cx_rules.specs.Items.{Dynamic, Visited, statements_in}
use Rattle.cx_rules.specs.Footprints.{Reads}
use Rattle.cx_rules.specs.Circles.{IsAcyclic, AreAcyclic}
use Rattle.cx_laws.specs.Closures.{IsClosed}
use Rattle.cx_frames.specs.Rests.{IsUndriven, IsSettledAt, IsKeptAt}
use Rattle.cx_frames.proofs.RuleLemmas.{IsKept}

pub record InstanceRules (i : Instance) : Type 0 where
  pub kept : IsKept i
  -- nothing leads in a circle
  pub circles : AreAcyclic i
  pub groups : (g : ℕ) → g < length (part_of i).groups → IsAcyclic i (group g)
  pub islands : (v : Visited) (h : History) (t : ℕ) → In (statements_in (part_of i)) v
      → IsAcyclic i (entries (active_in h t (form_flat (part_of i) v.form 0 [])))
  pub closed : (s : PlainStatement) → IsClosed (part_of i) s (Reads (part_of i) s)
  -- an idle turn settles all cells
  pub settles : (s : State) → IsSettled i (idle i s)
  -- a cycle keeps what no active group drives, and what is no primitive cell
  pub quiet : (held : Held) (act : Active) (s after : State) (c : ℕ) → IsUndriven (part_of i) act c
      → IsSettledAt i s c → cycle i held act s ≡ Goes after → IsKeptAt s after c
  pub children : (child : Instance) (held : Held) (act : Active) (s after : State) (c : ℕ)
      → cell_at (cells_of i) c ≡ OfInstance child → cycle i held act s ≡ Goes after → IsKeptAt s after c
  -- what a statement does not drive nothing drives that it has active
  pub alone : (s : PlainStatement) (g c : ℕ) → In (groups_of s) g → drives (part_of i) s c ≡ false
      → IsUndriven (part_of i) (group g) c
  pub capturing : (s : PlainStatement) (g called c : ℕ) → In (groups_of s) g
      → drives (part_of i) s c ≡ false → IsUndriven (part_of i) (capture g called) c
  pub in_island : (form : PlainForm) (place : Place) (h : History) (t c : ℕ)
      → drives (part_of i) (Placed form place) c ≡ false
      → IsUndriven (part_of i) (entries (active_in h t (form_flat (part_of i) form 0 []))) c

-- a statement of the dynamic control of an instance
abbrev pub Stands : Instance → PlainStatement → Type 0
Stands i (Placed form place) = In (statements_in (part_of i)) (record { context = Dynamic; form = form; place = place })
