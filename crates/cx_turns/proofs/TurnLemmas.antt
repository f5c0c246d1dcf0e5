-- A turn of a group: a cycle of the cells that it drives is the whole cycle, and changes no other.
use Rattle.std.proofs.Common.{◌≡◌, ℕ, zero, false, List, ◌∷◌, Result, Ok, Err, refl, sym, ap, ◌∙◌, subst}
use Rattle.cx_meaning.specs.declared.ports.PortRef.TheVariants as ports
use Rattle.cx_meaning.specs.declared.sights.Seen.{Seen}
use Rattle.cx_meaning.specs.declared.sights.FaultKind.TheVariants as faults
use Rattle.cx_meaning.specs.Designs.{PlainDesign}
use Rattle.cx_meaning.specs.Instances.{Instance, Path, State, Set, part_of, cells_of, idle_at, instance_at, tree_of, IsSettled}
use Rattle.cx_meaning.specs.Truths.{Truth, One, Zero, truth_of}
use Rattle.cx_meaning.specs.Truths as truths
use Rattle.cx_meaning.specs.Active.{Active, group}
use Rattle.cx_meaning.specs.Sights.{Held, seen}
use Rattle.cx_meaning.specs.Cycles.{Ended, Goes, Faults, cycle_of, cycle, every_cell, outcome_of, state_after, fault_at}
use Rattle.cx_meaning.specs.Islands.{turn_of}
use Rattle.cx_meaning.specs.Calls.{group_turn, hole_turn}
use Rattle.cx_meaning.specs.Control.{group_drives}
use Rattle.cx_meaning.proofs.CycleLemmas.{goes_to, unlisted_stays}
use Rattle.cx_design.specs.declared.actives.Active.TheVariants as actives
use Rattle.cx_design.specs.declared.actives.PortFault.{PortFault}
use Rattle.cx_state.specs.Tables.{IsNumber}
use Rattle.cx_state.specs.States.{PlainInstance, inputs_held, IsStateOf, StandsFor, under_path, put_path}
use Rattle.cx_eval.specs.Evaluated.{IsSeen, IsSeenAlone, Cycled, HasCycled, EndsAs}
use Rattle.cx_eval_cycle.specs.Passes.{listed_in}
use Rattle.cx_frames.specs.Rests.{IsUndriven, IsSettledAt}
use Rattle.cx_turns.specs.declared.turns.Turn.{Turn}
use Rattle.cx_turns.specs.declared.turns.Turn.TheVariants as turns
use Rattle.cx_turns.specs.Groups.{ListGroup, group_driving}
use Rattle.cx_turns.specs.Turns.{HoleTurn, IsBusy, TellsTurn, Taken, cycle_as}
use Rattle.cx_turns.proofs.PathLemmas.{under_put, put_put, settled_under}
use Rattle.cx_turns.proofs.TestLemmas.{tells_own}
use Rattle.cx_frames.proofs.RunLemmas.{group_undriven}

-- after a cycle of the listed cells only driven cells differ, as before
pub still_busy : (i : Instance) (held : Held) (act : Active) (listed driven : Set) (s now after : State) → ((c : ℕ) → driven c ≡ false → listed c ≡ false) → IsBusy driven s now → cycle_of i held act listed now ≡ Goes after → IsBusy driven s after
still_busy i held act listed driven s now after within busy goes =
    let next : State = state_after (outcome_of listed (seen i held act now) (cells_of i) now) now in
    let same : next ≡ after = (goes_to _ next after goes).1 in
    subst (λ (x : State). IsBusy driven s x) same
    (record {
      top = busy.top;
      others = λ c below e. unlisted_stays listed (seen i held act now) (cells_of i) now c (within c e) below ∙ busy.others c below e;
      deeper = λ c e below. busy.deeper c e below;
    })

-- what is not driven is settled
pub rest_settled : (i : Instance) (driven : Set) (s now : State) → IsSettled i s → IsBusy driven s now → (c : ℕ) → driven c ≡ false → IsSettledAt i now c
rest_settled i driven s now settled busy c off below =
    let same : now (c ∷ below) ≡ s (c ∷ below) = busy.others c below off in
    ap (idle_at i (c ∷ below)) same ∙ settled (c ∷ below) ∙ sym same

module _ (d : PlainDesign) (n g : ℕ) where
  -- the hole as it is seen in the state at a path
  hole : (rows : List PlainInstance) (x : Seen) (path : Path) (s now : State) → IsSeen d rows n (actives.Group g) (ports.Done g) x → IsNumber d n path → StandsFor (tree_of d) rows (put_path path now s)
      → x ≡ seen (instance_at (tree_of d) path) (inputs_held rows n) (group g) now (ports.Done g)
  hole rows x path s now sees number stands =
      subst (λ (y : State). x ≡ seen (instance_at (tree_of d) path) (inputs_held rows n) (group g) y (ports.Done g)) (under_put path now s) (sees path (put_path path now s) number stands)

  turn_is : (i : Instance) (held : Held) (now : State) (x : Seen) (t : Truth) → x ≡ seen i held (group g) now (ports.Done g) → truth_of x ≡ t → hole_turn g (cycle i held (group g) now) t ≡ group_turn i held g now
  turn_is i held now x t e truth = ap (hole_turn g (cycle i held (group g) now)) (sym truth ∙ ap truth_of e)

  -- turns without a cycle
  taken_ends : (rows : List PlainInstance) (x : Seen) → IsStateOf d rows → IsSeen d rows n (actives.Group g) (ports.Done g) x → truth_of x ≡ One → Taken d rows rows n g (group_driving g) turns.Ends
  taken_ends rows x fits sees truth = record {
    tells = λ path s now number settled busy stands. (sym (turn_is (instance_at (tree_of d) path) (inputs_held rows n) now x One (hole rows x path s now sees number stands) truth), refl);
    fits = fits;
  }

  taken_clash : (rows : List PlainInstance) (x : Seen) → IsStateOf d rows → IsSeen d rows n (actives.Group g) (ports.Done g) x → truth_of x ≡ truths.Conflict
      → Taken d rows rows n g (group_driving g) (turns.Faults (record { kind = faults.Conflict; instance = n; port = ports.Done g }))
  taken_clash rows x fits sees truth = record {
    tells = λ path s now number settled busy stands. (
      fault_at faults.Conflict (ports.Done g),
      tells_own d n path faults.Conflict (ports.Done g) number,
      sym (turn_is (instance_at (tree_of d) path) (inputs_held rows n) now x truths.Conflict (hole rows x path s now sees number stands) truth),
      refl,
    );
    fits = fits;
  }

  taken_unknown : (rows : List PlainInstance) (x : Seen) → IsStateOf d rows → IsSeen d rows n (actives.Group g) (ports.Done g) x → truth_of x ≡ truths.Undefined
      → Taken d rows rows n g (group_driving g) (turns.Faults (record { kind = faults.Undefined; instance = n; port = ports.Done g }))
  taken_unknown rows x fits sees truth = record {
    tells = λ path s now number settled busy stands. (
      fault_at faults.Undefined (ports.Done g),
      tells_own d n path faults.Undefined (ports.Done g) number,
      sym (turn_is (instance_at (tree_of d) path) (inputs_held rows n) now x truths.Undefined (hole rows x path s now sees number stands) truth),
      refl,
    );
    fits = fits;
  }

  taken_hole : (rows : List PlainInstance) (x : Seen) (turn : Turn) → IsStateOf d rows → IsSeen d rows n (actives.Group g) (ports.Done g) x → (t : Truth) → truth_of x ≡ t → HoleTurn n g t turn → Taken d rows rows n g (group_driving g) turn
  taken_hole rows x turn fits sees One truth is = subst (λ y. Taken d rows rows n g (group_driving g) y) (sym is) (taken_ends rows x fits sees truth)
  taken_hole rows x turn fits sees Zero truth is = absurd is
  taken_hole rows x turn fits sees truths.Conflict truth is = subst (λ y. Taken d rows rows n g (group_driving g) y) (sym is) (taken_clash rows x fits sees truth)
  taken_hole rows x turn fits sees truths.Undefined truth is = subst (λ y. Taken d rows rows n g (group_driving g) y) (sym is) (taken_unknown rows x fits sees truth)

  pub taken_alone : (old new : List PlainInstance) (x : Seen) (turn : Turn) → IsStateOf d old → IsSeenAlone d old new n g x → HoleTurn n g (truth_of x) turn → Taken d old new n g (group_driving g) turn
  taken_alone old new x turn fits alone is = subst (λ rows. Taken d old rows n g (group_driving g) turn) (sym alone.same) (taken_hole old x turn fits alone.seen (truth_of x) refl is)

  -- a turn with a cycle of the cells that the group drives
  module _ (old new : List PlainInstance) (cells : List ℕ) (lists : ListGroup d n g cells)
      (suffices : (path : Path) (held : Held) (act : Active) (listed : Set) (s : State) → ((c : ℕ) → listed c ≡ false → IsUndriven (part_of (instance_at (tree_of d) path)) act c)
      → ((c : ℕ) → listed c ≡ false → IsSettledAt (instance_at (tree_of d) path) s c) → cycle_of (instance_at (tree_of d) path) held act listed s ≡ cycle_of (instance_at (tree_of d) path) held act every_cell s) where
    told_by : (path : Path) (s now : State) (held : Held) (driven : Set) → ((after : State) → cycle_of (instance_at (tree_of d) path) held (group g) (listed_in cells) now ≡ Goes after → IsBusy driven (under_path path s) after)
        → (x : Ended) (r : Result (Unit {0}) PortFault) → cycle_of (instance_at (tree_of d) path) held (group g) (listed_in cells) now ≡ x → EndsAs d path (put_path path now s) old new r x → TellsTurn d path s old new driven (cycle_as r) (turn_of x)
    told_by path s now held driven busy (Goes after) (Ok u) e (ends, stands, alike) = (after, refl, subst (λ (y : State). StandsFor (tree_of d) new y) (put_put path after now s) stands, busy after e, alike)
    told_by path s now held driven busy (Goes after) (Err f) e (ends, stands, alike) = absurd (ends f refl)
    told_by path s now held driven busy (Faults f) r e (told, is, tells, same) = subst (λ q. TellsTurn d path s old new driven (cycle_as q) (turn_of (Faults f))) (sym is) (f, tells, refl, same)

    taken_cycle : (x : Seen) (r : Result (Unit {0}) PortFault) → IsStateOf d new → IsSeen d old n (actives.Group g) (ports.Done g) x → truth_of x ≡ Zero → Cycled d old new n (actives.Group g) (listed_in cells) r
        → Taken d old new n g (group_driving g) (cycle_as r)
    taken_cycle x r fits sees truth cycled = record {
      tells = λ path s now number settled busy stands.
          let i : Instance = instance_at (tree_of d) path in
          let held : Held = inputs_held old n in
          let off : (c : ℕ) → listed_in cells c ≡ false → group_drives (part_of i) g c ≡ false = (λ c e. sym (lists path c number) ∙ e) in
          let whole : cycle_of i held (group g) (listed_in cells) now ≡ cycle i held (group g) now =
          suffices path held (group g) (listed_in cells) now (λ c e. group_undriven (part_of i) g c (off c e))
          (λ c e. rest_settled i (group_driving g i) (under_path path s) now (settled_under (tree_of d) path s settled) busy c (off c e)) in
          let ends : EndsAs d path (put_path path now s) old new r (cycle_of i held (group g) (listed_in cells) now) =
          subst (λ (y : State). EndsAs d path (put_path path now s) old new r (cycle_of i held (group g) (listed_in cells) y)) (under_put path now s) (cycled path (put_path path now s) number stands) in
          subst (λ t. TellsTurn d path s old new (group_driving g i) (cycle_as r) t)
          (ap turn_of whole ∙ turn_is i held now x Zero (hole old x path s now sees number stands) truth)
          (told_by path s now held (group_driving g i) (λ after e. still_busy i held (group g) (listed_in cells) (group_driving g i) (under_path path s) now after (λ c e. lists path c number ∙ e) busy e)
          (cycle_of i held (group g) (listed_in cells) now) r refl ends);
      fits = fits;
    }

    pub taken_cycled : (r : Result (Unit {0}) PortFault) → IsStateOf d new → HasCycled d old new n g (listed_in cells) r → Taken d old new n g (group_driving g) (cycle_as r)
    taken_cycled r fits cycled = taken_cycle cycled.hole r fits cycled.seen cycled.zero cycled.cycled
