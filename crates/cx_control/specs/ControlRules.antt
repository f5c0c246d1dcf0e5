-- All that the laws of an instance's control need of the rules of acceptance.
use Rattle.std.specs.Prelude.{◌≡◌, ℕ, ◌<◌, true, length, Some}
use Rattle.cx_text.specs.Members.{In}
use Rattle.cx_text.specs.declared.places.Place.{Place}
use Rattle.cx_meaning.specs.Designs.{PlainForm, Enable, Timed, Placed}
use Rattle.cx_meaning.specs.Instances.{Instance, OfInstance, cell_at, cells_of, part_of, State}
use Rattle.cx_meaning.specs.Sights.{Held}
use Rattle.cx_meaning.specs.Control.{drives}
use Rattle.cx_meaning.specs.Islands.{form_length}
use Rattle.cx_meaning.specs.Calls.{called}
use Rattle.cx_meaning.specs.Running.{run_control}
use Rattle.cx_rules.specs.Items.{Visited, statements_in}
use Rattle.cx_rules.specs.RaceRule.{arms_of, IsShared}
use Rattle.cx_rules.specs.StaticControl.{is_static, is_island_form}
use Rattle.cx_control.specs.InstanceRules.{InstanceRules, Stands}
use Rattle.cx_control.specs.CallRules.{CallRules}

pub record ControlRules (i : Instance) : Type 0 where
  pub rules : InstanceRules i
  -- a design that is not lowered has no timed statement
  pub is_untimed : (k : ℕ) (place : Place) → Stands i (Placed (Timed k) place) → ⊥
  -- no arm reads what another drives
  pub unshared : (v : Visited) → In (statements_in (part_of i)) v → (c : ℕ)
      → IsShared (part_of i) (arms_of v.form) c → ⊥
  -- an island takes a cycle at least
  pub lasts : (form : PlainForm) (place : Place) → Stands i (Placed form place)
      → is_island_form (part_of i) form ≡ true → 0 < form_length (part_of i) form
  -- a group calls as said, and nothing else drives a component cell
  pub calls : (g : ℕ) (place : Place) (c : ℕ) → Stands i (Placed (Enable g) place) → called i g ≡ Some c
      → CallRules i g c
  pub calls_it : (g : ℕ) (place : Place) (c : ℕ) (child : Instance) → Stands i (Placed (Enable g) place)
      → cell_at (cells_of i) c ≡ OfInstance child → drives (part_of i) (Placed (Enable g) place) c ≡ true
      → called i g ≡ Some c
  pub no_island_calls : (form : PlainForm) (place : Place) (c : ℕ) (child : Instance)
      → Stands i (Placed form place) → is_static form ≡ true → cell_at (cells_of i) c ≡ OfInstance child
      → drives (part_of i) (Placed form place) c ≡ true → ⊥
  pub own_inputs : (held other : Held) (s : State) (n : ℕ)
      → ((input : ℕ) → input < length (part_of i).inputs → held input ≡ other input)
      → run_control i held s n ≡ run_control i other s n
