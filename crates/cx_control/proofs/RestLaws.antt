-- What rests: numbers that are 0, cells that an idle turn leaves alone, and what a cycle keeps of them.
use Rattle.std.proofs.Common.{◌≡◌, ℕ, zero, suc, [], ◌∷◌, Option, Some, None, refl, sym, ap, ◌∙◌}
use Rattle.std.specs.Prelude.{◌==◌, slice_get}
use Rattle.cx_meaning.specs.Instances.{Instance, Node, Cells, no_cells, a_primitive, an_instance, At, Nothing, OfRow, OfInstance, cell_at, cells_of, part_of, Path, State, idle_at, idle}
use Rattle.cx_meaning.specs.Active.{Active}
use Rattle.cx_meaning.specs.Sights.{Held, seen}
use Rattle.cx_meaning.specs.Cycles.{outcome_of, state_after, Goes, every_cell, cycle}
use Rattle.cx_meaning.proofs.CycleLemmas.{goes_to}
use Rattle.cx_frames.specs.Rests.{IsUndriven, IsSettledAt}
use Rattle.cx_lockstep.specs.Doing.{KeepsRest}
use Rattle.cx_control.specs.Spots.{Spot, Cell, Number, Input, Holds, shown}
use Rattle.cx_control.specs.Numbers.{Role, PlaceOfArm, RoundsOver, OfTimer, OfSample, role_idle, numbers_of, number_idle, number_idle_at, number_idle_below, spot_idle, world_of, Rests}
use Rattle.cx_control.specs.Controls.{end_of}
use Rattle.cx_control.specs.InstanceRules.{InstanceRules}
use Rattle.cx_meaning.proofs.InstancesLemmas.{no_child as nothing_moves}
use Rattle.cx_text.proofs.BoolLaws.{either_zero}

role_idle-zero : (role : Option Role) → role_idle role 0 ≡ 0
role_idle-zero None = refl
role_idle-zero (Some PlaceOfArm) = refl
role_idle-zero (Some RoundsOver) = refl
role_idle-zero (Some OfTimer) = refl
role_idle-zero (Some OfSample) = refl

number_idle-zero : (i : Instance) (n : ℕ) → number_idle i n 0 ≡ 0
number_idle-zero i zero = either_zero (0 == end_of i)
number_idle-zero i (suc n) = role_idle-zero (slice_get (numbers_of (part_of i) (part_of i).control) n)

mutual
  -- an idle edge leaves a number that is 0
  pub number_idle_at-zero : (i : Instance) (path : Path) (n : ℕ) → number_idle_at i path n 0 ≡ 0
  number_idle_at-zero (Node part cells) [] n = number_idle-zero (Node part cells) n
  number_idle_at-zero (Node part cells) (c ∷ path) n = number_idle_below-zero cells c path n

  pub number_idle_below-zero : (cells : Cells) (c : ℕ) (path : Path) (n : ℕ) → number_idle_below cells c path n 0 ≡ 0
  number_idle_below-zero no_cells c path n = refl
  number_idle_below-zero (a_primitive row rest) zero path n = refl
  number_idle_below-zero (a_primitive row rest) (suc c) path n = number_idle_below-zero rest c path n
  number_idle_below-zero (an_instance child rest) zero path n = number_idle_at-zero child path n
  number_idle_below-zero (an_instance child rest) (suc c) path n = number_idle_below-zero rest c path n

-- an idle edge leaves what rests, and an idle turn too
pub rest_is_kept : (i : Instance) → KeepsRest (world_of i) (Rests i) (λ held. idle i)
rest_is_kept i = record { quiet = quiet; rested = rested }
  where
    quiet : (x : Spot) (v : Holds x) → Rests i x v → spot_idle i x v ≡ v
    quiet (Cell path) v rests = rests
    quiet (Number path n) v rests = ap (number_idle_at i path n) rests ∙ number_idle_at-zero i path n ∙ sym rests
    quiet (Input n) v rests = refl

    rested : (held : Held) (s : State) (x : Spot) → Rests i x (shown held s x) → shown held (idle i s) x ≡ shown held s x
    rested held s (Cell path) rests = rests
    rested held s (Number path n) rests = refl
    rested held s (Input n) rests = refl

-- an idle turn is an idle edge of what is shown, and all rests after it
pub idle_is_shown : (i : Instance) (held : Held) (s : State) (x : Spot) → shown held (idle i s) x ≡ spot_idle i x (shown held s x)
idle_is_shown i held s (Cell path) = refl
idle_is_shown i held s (Number path n) = sym (number_idle_at-zero i path n)
idle_is_shown i held s (Input n) = refl

pub idle_rests : (i : Instance) → InstanceRules i → (held : Held) (s : State) (x : Spot) → Rests i x (shown held (idle i s) x)
idle_rests i rules held s (Cell path) = rules.settles s path
idle_rests i rules held s (Number path n) = refl
idle_rests i rules held s (Input n) = tt

settled_at : (i : Instance) (s : State) (c : ℕ) → ((child : Instance) → cell_at (cells_of i) c ≡ OfInstance child → ⊥) → idle_at i (c ∷ []) (s (c ∷ [])) ≡ s (c ∷ []) → IsSettledAt i s c
settled_at (Node part cells) s c none rests [] = rests
settled_at (Node part cells) s c none rests (e ∷ path) = nothing_moves cells c e path (s (c ∷ e ∷ path)) none

module _ (i : Instance) (rules : InstanceRules i) (held : Held) (act : Active) (s after : State) (goes : cycle i held act s ≡ Goes after) where
  is_after : state_after (outcome_of every_cell (seen i held act s) (cells_of i) s) s ≡ after
  is_after = (goes_to _ _ after goes).1

  -- at the instance itself nothing is kept
  pub cycle_keeps_root : after [] ≡ s []
  cycle_keeps_root = ap (λ (t : State). t []) (sym is_after)

  pub cycle_keeps_at : (c : ℕ) (path : Path) → IsUndriven (part_of i) act c → idle_at i (c ∷ path) (s (c ∷ path)) ≡ s (c ∷ path) → after (c ∷ path) ≡ s (c ∷ path)
  cycle_keeps_at c (e ∷ path) undriven rests = ap (λ (t : State). t (c ∷ e ∷ path)) (sym is_after)
  cycle_keeps_at c [] undriven rests = by_cell (cell_at (cells_of i) c) refl
    where
      no_child : (at : At) → cell_at (cells_of i) c ≡ at → ((child : Instance) → at ≡ OfInstance child → ⊥) → after (c ∷ []) ≡ s (c ∷ [])
      no_child at is none = rules.quiet held act s after c undriven (settled_at i s c (λ child e. none child (sym is ∙ e)) rests) goes []

      by_cell : (at : At) → cell_at (cells_of i) c ≡ at → after (c ∷ []) ≡ s (c ∷ [])
      by_cell Nothing is = no_child Nothing is (λ child e. absurd (cc))
      by_cell (OfRow row) is = no_child (OfRow row) is (λ child e. absurd (cc))
      by_cell (OfInstance child) is = rules.children child held act s after c is goes []
