-- TURNS OF GROUPS: while a group acts no static child does, and the flat instance makes the turn that the tree makes.
use Rattle.std.proofs.Common.{◌≡◌, ℕ, ◌<◌, [], length, refl, ap, ◌∙◌}
use Rattle.cx_meaning.specs.declared.ports.PortRef.TheVariants as ports
use Rattle.cx_meaning.specs.Instances.{Instance, Node, part_of, State}
use Rattle.cx_meaning.specs.Truths.{Truth, truth_of}
use Rattle.cx_meaning.specs.Truths as truths
use Rattle.cx_meaning.specs.Active.{group}
use Rattle.cx_meaning.specs.Sights.{Held, seen}
use Rattle.cx_meaning.specs.Cycles.{Ended, Goes, Faults, cycle}
use Rattle.cx_meaning.specs.Islands.{turn_of}
use Rattle.cx_meaning.specs.Calls.{hole_turn}
use Rattle.cx_meaning.specs.Calls as calls
use Rattle.cx_flattening.specs.Whole.{whole_cycle, group_turn}
use Rattle.cx_flattening.specs.Embedded.{IsFlattened, Stands}
use Rattle.cx_flattening.specs.Fair.{AllFair}
use Rattle.cx_flattening.specs.Seeing.{NoCircle}
use Rattle.cx_flattening.specs.FlatFaults.{CycleAs}
use Rattle.cx_flattening.specs.Beside.{IsBeside}
use Rattle.cx_flattening.specs.Turning.{TurnAs}
use Rattle.cx_flattening.proofs.StillActs.{group_acts}
use Rattle.cx_flattening.proofs.FlatTops.{flat_seen, flat_cycle}

-- A TURN OF A GROUP
pub flat_turn : (i flat : Instance) (held : Held) (g : ℕ) (s z : State) → g < length (part_of i).groups → IsFlattened i flat → AllFair i → Stands i 0 s z → NoCircle i (group g) []
    → TurnAs i (group_turn i held g s) (calls.group_turn flat held g z)
flat_turn (Node part cells) flat held g s z less flattened fair stands calm =
    by_hole (truth_of (seen (Node part cells) held (group g) s (ports.Done g))) (truth_of (seen flat held (group g) z (ports.Done g)))
    (ap truth_of (flat_seen (Node part cells) flat held (group g) (group g) [] s z (ports.Done g) beside tt)) (whole_cycle (Node part cells) held (group g) [] s) (cycle flat held (group g) z) (flat_cycle (Node part cells) flat held (group g) (group g) [] s z beside)
  where
    beside : IsBeside (Node part cells) flat (group g) (group g) [] s z
    beside = record {
      flattened = flattened;
      fair = fair;
      stands = stands;
      acts = group_acts (Node part cells) g less;
      done = refl;
      kept = λ c none. absurd (cc);
      no_circle = calm;
    }

    by_hole : (t u : Truth) → u ≡ t → (x y : Ended) → CycleAs (Node part cells) x y → TurnAs (Node part cells) (hole_turn g x t) (hole_turn g y u)
    by_hole truths.One u e x y h = ap (hole_turn g y) e
    by_hole truths.Conflict u e x y h = ap (hole_turn g y) e
    by_hole truths.Undefined u e x y h = ap (hole_turn g y) e
    by_hole truths.Zero u e (Goes after) y h = (h.0, ap (hole_turn g y) e ∙ ap turn_of h.1, h.2)
    by_hole truths.Zero u e (Faults f) y h = ap (hole_turn g y) e ∙ ap turn_of h
