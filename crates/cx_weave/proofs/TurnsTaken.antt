-- A turn of a leaf, as the evaluator tells it.
use Rattle.std.proofs.Common.{◌≡◌, ℕ, List, Result, Ok, Err, refl, sym, ap, ◌∙◌, subst}
use Rattle.std.proofs.Math.Path.{fun_ext}
use Rattle.cx_meaning.specs.declared.ports.PortRef.TheVariants as ports
use Rattle.cx_meaning.specs.declared.sights.Seen.{Seen}
use Rattle.cx_meaning.specs.declared.sights.FaultKind.TheVariants as faults
use Rattle.cx_meaning.specs.Designs.{PlainDesign}
use Rattle.cx_meaning.specs.Instances.{Instance, Path, State, Set, part_of, instance_at, tree_of}
use Rattle.cx_meaning.specs.Truths.{Truth, One, Zero, truth_of}
use Rattle.cx_meaning.specs.Truths as truths
use Rattle.cx_meaning.specs.Active.{group, capture}
use Rattle.cx_meaning.specs.Sights.{Held, seen}
use Rattle.cx_meaning.specs.Cycles.{Ended, Goes, Faults, cycle_of, fault_at}
use Rattle.cx_meaning.specs.Islands.{turn_of}
use Rattle.cx_meaning.specs.Calls.{hole_turn}
use Rattle.cx_meaning.specs.Control.{group_drives}
use Rattle.cx_design.specs.declared.actives.Active.TheVariants as actives
use Rattle.cx_design.specs.declared.actives.PortFault.{PortFault}
use Rattle.cx_design.specs.PlainActives.{capture_of}
use Rattle.cx_state.specs.Tables.{IsNumber}
use Rattle.cx_state.specs.States.{PlainInstance, inputs_held, under_path}
use Rattle.cx_eval.specs.Evaluated.{IsSeenAlone, Cycled, HasCycled, EndsAs}
use Rattle.cx_eval_cycle.specs.Passes.{listed_in}
use Rattle.cx_turns.specs.declared.turns.Turn.{Turn}
use Rattle.cx_turns.specs.Groups.{ListGroup}
use Rattle.cx_turns.specs.Turns.{HoleTurn, cycle_as}
use Rattle.cx_turns.proofs.TestLemmas.{tells_own}
use Rattle.cx_orders.specs.Leaves.{own_turn, own_capture}
use Rattle.cx_weave.specs.Strands.{CallsCell}
use Rattle.cx_weave.specs.Strides.{TurnTold, TakesTurn}

-- a cycle that ends so is a turn
pub ends_told : (d : PlainDesign) (path : Path) (s : State) (old new : List PlainInstance) (r : Result (Unit {0}) PortFault) (x : Ended) → EndsAs d path s old new r x → TurnTold d path s old new (cycle_as r) (turn_of x)
ends_told d path s old new (Ok u) (Goes after) (ends, stands, alike) = (after, refl, stands, alike)
ends_told d path s old new (Err f) (Goes after) (ends, stands, alike) = absurd (ends f refl)
ends_told d path s old new r (Faults f) (told, is, tells, same) = subst (λ q. TurnTold d path s old new (cycle_as q) (turn_of (Faults f))) (sym is) (f, tells, refl, same)

module _ (d : PlainDesign) (n g : ℕ) where
  lists : (cells : List ℕ) → ListGroup d n g cells → (path : Path) → IsNumber d n path → listed_in cells ≡ group_drives (part_of (instance_at (tree_of d) path)) g
  lists cells is path number = fun_ext (λ c. is path c number)

  own_hole : (i : Instance) (held : Held) (s : State) (x : Seen) (t : Truth) → x ≡ seen i held (group g) s (ports.Done g) → truth_of x ≡ t → hole_turn g (cycle_of i held (group g) (group_drives (part_of i) g) s) t ≡ own_turn i held g s
  own_hole i held s x t e truth = ap (hole_turn g (cycle_of i held (group g) (group_drives (part_of i) g) s)) (sym truth ∙ ap truth_of e)

  hole_told : (path : Path) (s : State) (rows : List PlainInstance) → IsNumber d n path → (x : Ended) (t : Truth) (turn : Turn) → HoleTurn n g t turn → TurnTold d path s rows rows turn (hole_turn g x t)
  hole_told path s rows number x One turn is = subst (λ y. TurnTold d path s rows rows y (hole_turn g x One)) (sym is) (refl, refl)
  hole_told path s rows number x Zero turn is = absurd is
  hole_told path s rows number x truths.Conflict turn is =
      subst (λ y. TurnTold d path s rows rows y (hole_turn g x truths.Conflict)) (sym is) (fault_at faults.Conflict (ports.Done g), tells_own d n path faults.Conflict (ports.Done g) number, refl, refl)
  hole_told path s rows number x truths.Undefined turn is =
      subst (λ y. TurnTold d path s rows rows y (hole_turn g x truths.Undefined)) (sym is) (fault_at faults.Undefined (ports.Done g), tells_own d n path faults.Undefined (ports.Done g) number, refl, refl)

  -- a turn of a group that makes no cycle
  pub group_alone : (old new : List PlainInstance) (x : Seen) (turn : Turn) → IsSeenAlone d old new n g x → HoleTurn n g (truth_of x) turn → TakesTurn d old new n turn (λ i held s. own_turn i held g s)
  group_alone old new x turn alone is path s number stands =
      let i : Instance = instance_at (tree_of d) path in
      subst (λ rows. TurnTold d path s old rows turn (own_turn i (inputs_held old n) g (under_path path s))) (sym alone.same)
      (subst (λ t. TurnTold d path s old old turn t) (own_hole i (inputs_held old n) (under_path path s) x (truth_of x) (alone.seen path s number stands) refl)
      (hole_told path s old number (cycle_of i (inputs_held old n) (group g) (group_drives (part_of i) g) (under_path path s)) (truth_of x) turn is))

  -- and one that makes one
  pub group_cycled : (old new : List PlainInstance) (cells : List ℕ) → ListGroup d n g cells → (r : Result (Unit {0}) PortFault) → HasCycled d old new n g (listed_in cells) r → TakesTurn d old new n (cycle_as r) (λ i held s. own_turn i held g s)
  group_cycled old new cells is r has path s number stands =
      let i : Instance = instance_at (tree_of d) path in
      subst (λ t. TurnTold d path s old new (cycle_as r) t) (own_hole i (inputs_held old n) (under_path path s) has.hole Zero (has.seen path s number stands) has.zero)
      (ends_told d path s old new r (cycle_of i (inputs_held old n) (group g) (group_drives (part_of i) g) (under_path path s))
      (subst (λ (set : Set). EndsAs d path s old new r (cycle_of i (inputs_held old n) (group g) set (under_path path s))) (lists cells is path number) (has.cycled path s number stands)))

  -- the capture cycle of a call
  pub capture_cycled : (c : ℕ) (old new : List PlainInstance) (cells : List ℕ) → CallsCell d n g c → ListGroup d n g cells → (r : Result (Unit {0}) PortFault) → Cycled d old new n (actives.CallEnd g) (listed_in cells) r
      → TakesTurn d old new n (cycle_as r) (λ i held s. own_capture i held g c s)
  capture_cycled c old new cells calls is r cycled path s number stands =
      let i : Instance = instance_at (tree_of d) path in
      ends_told d path s old new r (cycle_of i (inputs_held old n) (capture g c) (group_drives (part_of i) g) (under_path path s))
      (subst (λ (set : Set). EndsAs d path s old new r (cycle_of i (inputs_held old n) (capture g c) set (under_path path s))) (lists cells is path number)
      (subst (λ o. EndsAs d path s old new r (cycle_of i (inputs_held old n) (capture_of g o) (listed_in cells) (under_path path s))) (calls path number) (cycled path s number stands)))
