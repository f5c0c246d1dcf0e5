-- GROUPS AND TESTS: a group runs in the flat instance as in the tree, and a condition says the same.
use Rattle.std.proofs.Common.{◌≡◌, ℕ, zero, suc, ◌+◌, [], Option, Some, None, refl, sym, ap, ◌∙◌, arith}
use Rattle.cx_meaning.specs.declared.ports.PortRef.{PortRef}
use Rattle.cx_meaning.specs.declared.ports.PortRef.TheVariants as ports
use Rattle.cx_meaning.specs.declared.sights.FaultKind.{FaultKind}
use Rattle.cx_meaning.specs.declared.sights.FaultKind.TheVariants as faults
use Rattle.cx_meaning.specs.Instances.{Instance, Node, State, idle}
use Rattle.cx_meaning.specs.Truths.{Truth, truth_of}
use Rattle.cx_meaning.specs.Truths as truths
use Rattle.cx_meaning.specs.Active.{nothing, group}
use Rattle.cx_meaning.specs.Sights.{Held, seen}
use Rattle.cx_meaning.specs.Cycles.{fault_at}
use Rattle.cx_meaning.specs.Answers.{turns_of, Unclear}
use Rattle.cx_meaning.specs.Calls.{test_of, test}
use Rattle.cx_meaning.specs.Calls as calls
use Rattle.cx_flattening.specs.Whole.{group_turn}
use Rattle.cx_flattening.specs.Embedded.{Stands}
use Rattle.cx_flattening.specs.Levels.{IsKnown, own_of}
use Rattle.cx_flattening.specs.FlatFaults.{flat_fault}
use Rattle.cx_flattening.specs.Sampling.{placed}
use Rattle.cx_flattening.specs.Turning.{TestAs, IsGroupBeside}
use Rattle.cx_flattening.specs.Runs.{AnswerAs}
use Rattle.cx_flattening.proofs.FlatTops.{flat_seen}
use Rattle.cx_flattening.proofs.StillActs.{still_tops, group_acts}
use Rattle.cx_flattening.proofs.FlatTurns.{flat_turn}
use Rattle.cx_flattening.proofs.FlatIslands.{turn_then_as}
use Rattle.cx_flattening.proofs.IdleStands.{idle_stands}

-- A GROUP, turn by turn
pub flat_group : (i flat : Instance) (held : Held) (g : ℕ) → IsGroupBeside i flat (Some g) → (n : ℕ) (s z : State) → Stands i 0 s z
    → AnswerAs i (turns_of (idle i) (group_turn i held g) s n) (turns_of (idle flat) (calls.group_turn flat held g) z n)
flat_group i flat held g its zero s z stands = refl
flat_group i flat held g its (suc n) s z stands =
    turn_then_as i flat s z (group_turn i held g s) (calls.group_turn flat held g z) (λ after. turns_of (idle i) (group_turn i held g) after n) (λ after. turns_of (idle flat) (calls.group_turn flat held g) after n)
    (flat_turn i flat held g s z (its.there g refl) its.flattened its.fair stands its.no_circle) (idle_stands i flat s z its.flattened.1 stands)
    (λ after w there. flat_group i flat held g its n after w there)

pub placed_zero : (q : PortRef) → placed 0 q ≡ q
placed_zero (ports.Cell e p) = let same : 0 + e ≡ e = omega arith in ap (λ k. ports.Cell k p) same
placed_zero (ports.Input n) = refl
placed_zero (ports.Output n) = refl
placed_zero (ports.Done g) = refl
placed_zero (ports.Literal w v) = refl

own_told : (i : Instance) (kind : FaultKind) (p : PortRef) → fault_at kind (own_of i p) ≡ flat_fault i 0 (fault_at kind p)
own_told (Node part cells) kind p = ap (fault_at kind) (sym (placed_zero (own_of (Node part cells) p)))

test_as : (i : Instance) (p : PortRef) (t u : Truth) → u ≡ t → TestAs i (test_of p t) (test_of (own_of i p) u)
test_as i p truths.One u e = ap (test_of (own_of i p)) e
test_as i p truths.Zero u e = ap (test_of (own_of i p)) e
test_as i p truths.Conflict u e = ap (test_of (own_of i p)) e ∙ ap Unclear (own_told i faults.Conflict p)
test_as i p truths.Undefined u e = ap (test_of (own_of i p)) e ∙ ap Unclear (own_told i faults.Undefined p)

-- A CONDITION, with its comb group
pub flat_test : (i flat : Instance) (held : Held) (p : PortRef) (with_group : Option ℕ) (s z : State) → IsGroupBeside i flat with_group → IsKnown i p → Stands i 0 s z
    → TestAs i (test i held p with_group s) (test flat held (own_of i p) with_group z)
flat_test i flat held p None s z its known stands =
    test_as i p (truth_of (seen i held nothing s p)) (truth_of (seen flat held nothing z (own_of i p)))
    (ap truth_of (flat_seen i flat held nothing nothing [] s z p (record {
      flattened = its.flattened;
      fair = its.fair;
      stands = stands;
      acts = still_tops i;
      done = refl;
      kept = λ c none. absurd (cc);
      no_circle = its.no_circle;
    }) known))
flat_test i flat held p (Some g) s z its known stands =
    test_as i p (truth_of (seen i held (group g) s p)) (truth_of (seen flat held (group g) z (own_of i p)))
    (ap truth_of (flat_seen i flat held (group g) (group g) [] s z p (record {
      flattened = its.flattened;
      fair = its.fair;
      stands = stands;
      acts = group_acts i g (its.there g refl);
      done = refl;
      kept = λ c none. absurd (cc);
      no_circle = its.no_circle;
    }) known))
