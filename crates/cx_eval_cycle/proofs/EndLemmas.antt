-- How a cycle ends that is made in two passes: the first fault over a look, and the steps with what was gathered over it.
use Rattle.std.proofs.Common.{◌≡◌, ℕ, Bool, true, false, ◌∷◌, [], List, Option, Some, None, Ok, Err, if◌then◌else◌, refl, sym, ap, ◌∙◌}
use Rattle.std.proofs.Math.Path.{fun_ext}
use Rattle.cx_prim.specs.CellStates.{CellState}
use Rattle.cx_prim.specs.Rows.{Inputs}
use Rattle.cx_prim.specs.Table.{row_of}
use Rattle.cx_meaning.specs.Designs.{PlainKind, OfPrimitive, OfComponent, PlainCell}
use Rattle.cx_meaning.specs.Instances.{Instance, Set, State, cell_at, cell_count, cells_for}
use Rattle.cx_meaning.specs.Sights.{Look}
use Rattle.cx_meaning.specs.Cycles.{Fault, Next, Outcome, cell_outcome, cycle_by, ended, every_cell, first_fault, outcome_at, outcome_of, state_after, stepped}
use Rattle.cx_eval_cycle.specs.declared.passes.CellFault.{CellFault}
use Rattle.cx_eval_cycle.specs.declared.rooms.CellRoom.{CellRoom}
use Rattle.cx_eval_cycle.specs.declared.stepping.SteppingCell.{SteppingCell}
use Rattle.cx_eval_cycle.specs.declared.stepping.SteppingCells.{SteppingCells}
use Rattle.cx_eval_cycle.specs.Passes.{AreStepped, EndsSo, HeldAt, IsAscending, after_kind, after_of, cell_held, fault_of, first_among, kind_at, listed_in}
use Rattle.cx_eval_cycle.specs.Rooms.{inputs_at}
use Rattle.cx_eval_cycle.specs.Stepping.{AreStepping, AreSteppingCells, IsKeptOf, can_step, kept_at}
use Rattle.cx_eval_cycle.specs.Steps.{AreGathered, IsGathered, after_kept, after_room}
use Rattle.cx_eval_cycle.proofs.FaultLemmas.{at_kind, at_of, ended_fault, ended_next, first_listed_is, next_holds}
use Rattle.cx_eval_cycle.proofs.InertLemmas.{outcome_same, step_same}

-- STEPS with what was gathered over a look are steps over it
after_alike : (look : Look) (c : ℕ) (kind : Option PlainKind) (kept : Option SteppingCell) (held : Option CellState) (inputs : Inputs) → IsKeptOf kind kept
    → ((stepping : SteppingCell) (d : CellState) → kept ≡ Some stepping → held ≡ Some d → IsGathered look c (row_of stepping.primitive.now) d inputs)
    → after_kept kept inputs held ≡ after_kind look c kind held
after_alike look c (Some (OfPrimitive p)) (Some stepping) None inputs is gathered = refl
after_alike look c (Some (OfPrimitive p)) (Some stepping) (Some d) inputs is gathered =
    let outcome = (gathered stepping d refl refl).outcome in
    ap (λ o. Some (stepped d o)) outcome ∙ ap (λ q. Some (stepped d (cell_outcome look c (row_of q) d))) is.primitive
after_alike look c (Some (OfPrimitive p)) None None inputs is gathered = refl
after_alike look c (Some (OfPrimitive p)) None (Some d) inputs is gathered = ap (λ x. Some x) (step_same p is look c d)
after_alike look c (Some (OfComponent k)) (Some stepping) held inputs is gathered = absurd is
after_alike look c (Some (OfComponent k)) None held inputs is gathered = refl
after_alike look c None (Some stepping) held inputs is gathered = absurd is
after_alike look c None None held inputs is gathered = refl

pub stepped_alike : (look : Look) (cells : List PlainCell) (kept : List (Option SteppingCell)) (rooms : List CellRoom) (set : Set) (old new : List (Option CellState)) → AreStepping cells kept → AreGathered set look kept old rooms
    → AreStepped set (after_room kept rooms) old new → AreStepped set (after_of look cells) old new
stepped_alike look cells kept rooms set old new are gathered steps c = steps c ∙ by (set c) refl
  where
    by : (b : Bool) → set c ≡ b → (if b then after_room kept rooms c (cell_held old c) else cell_held old c) ≡ (if b then after_of look cells c (cell_held old c) else cell_held old c)
    by true on = after_alike look c (kind_at cells c) (kept_at kept c) (cell_held old c) (inputs_at rooms c) (are.each c) (gathered c on)
    by false on = refl

module _ (look : Look) (cells : List PlainCell) (old : List (Option CellState)) (child : ℕ → Instance) (s : State) (holds : HeldAt cells old s) where
  abbrev first : Set → Option Fault
  first listed = first_fault (outcome_of listed look (cells_for child cells) s) 0 (cell_count (cells_for child cells))

  abbrev next : Set → State
  next listed = state_after (outcome_of listed look (cells_for child cells) s) s

  pub listed_fault : (listed : List ℕ) → IsAscending listed → (fault : CellFault) → first_among (fault_of look cells old) listed ≡ Some fault → EndsSo cells old old (Err fault) (cycle_by (listed_in listed) look (cells_for child cells) s)
  listed_fault listed ascending fault is =
      ended_fault cells old old fault (first_among (fault_of look cells old) listed) (first (listed_in listed)) (next (listed_in listed))
      (sym is) (first_listed_is look cells old s child holds listed ascending) refl

  pub listed_go : (listed : List ℕ) → IsAscending listed → (kept : List (Option SteppingCell)) (rooms : List CellRoom) (new : List (Option CellState)) → first_among (fault_of look cells old) listed ≡ None
      → AreStepping cells kept → AreGathered (listed_in listed) look kept old rooms → AreStepped (listed_in listed) (after_room kept rooms) old new
      → EndsSo cells old new (Ok tt) (cycle_by (listed_in listed) look (cells_for child cells) s)
  listed_go listed ascending kept rooms new is are gathered steps =
      ended_next cells old new (first_among (fault_of look cells old) listed) (first (listed_in listed)) (next (listed_in listed))
      (sym is) (first_listed_is look cells old s child holds listed ascending)
      (next_holds (listed_in listed) look child cells old new s (stepped_alike look cells kept rooms (listed_in listed) old new are gathered steps) holds)

-- ALL CELLS: those that cannot step stay
idle_stays : (look : Look) (child : ℕ → Instance) (c : ℕ) (kind : Option PlainKind) (kept : Option SteppingCell) (d : CellState) → IsKeptOf kind kept → can_step kept ≡ false → outcome_at look c (at_of child kind) d ≡ Next d
idle_stays look child c kind (Some stepping) d is idle = absurd (cc)
idle_stays look child c (Some (OfPrimitive p)) None d is idle = outcome_same p is look c d
idle_stays look child c (Some (OfComponent k)) None d is idle = refl
idle_stays look child c None None d is idle = refl

pub all_cycle : (look : Look) (cells : List PlainCell) (stepping : SteppingCells) (child : ℕ → Instance) (s : State) → AreSteppingCells cells stepping
    → cycle_by every_cell look (cells_for child cells) s ≡ cycle_by (listed_in stepping.numbers.items) look (cells_for child cells) s
all_cycle look cells stepping child s are =
    ap (λ (outcome : ℕ → Outcome). ended outcome (cell_count (cells_for child cells)) s) (fun_ext (λ c. by c (listed_in stepping.numbers.items c) refl))
  where
    by : (c : ℕ) (b : Bool) → listed_in stepping.numbers.items c ≡ b
        → outcome_at look c (cell_at (cells_for child cells) c) (s (c ∷ [])) ≡ (if b then outcome_at look c (cell_at (cells_for child cells) c) (s (c ∷ [])) else Next (s (c ∷ [])))
    by c true e = refl
    by c false e =
        ap (λ x. outcome_at look c x (s (c ∷ []))) (at_kind child cells c)
        ∙ idle_stays look child c (kind_at cells c) (kept_at stepping.cells.items c) (s (c ∷ [])) (are.kept.each c) (sym (are.numbers.listed c) ∙ e)
