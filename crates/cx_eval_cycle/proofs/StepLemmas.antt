-- Steps of cells with what stands in their rooms.
use Rattle.std.proofs.Common.{◌≡◌, ℕ, ◌<◌, ⊎_elim, List, length, set, Option, Some, None, sym, ap, ◌∙◌, subst}
use Rattle.std.proofs.lemmas.Bool.{cases_eq}
use Rattle.std.proofs.lemmas.List.{get_or-set_same, get_or-set_other}
use Rattle.cx_prim.specs.CellStates.{CellState, IsState}
use Rattle.cx_prim.specs.Table.{row_of}
use Rattle.cx_meaning.specs.Designs.{PlainKind, OfPrimitive, OfComponent}
use Rattle.cx_meaning.specs.Sights.{Look}
use Rattle.cx_eval_cycle.specs.declared.rooms.CellRoom.{CellRoom}
use Rattle.cx_eval_cycle.specs.declared.stepping.SteppingCell.{SteppingCell}
use Rattle.cx_eval_cycle.specs.Passes.{cell_held}
use Rattle.cx_eval_cycle.specs.Rooms.{inputs_at}
use Rattle.cx_eval_cycle.specs.Stepping.{IsKeptOf, IsStepping, kept_at}
use Rattle.cx_eval_cycle.specs.Steps.{CanStepAt, HoldFitting, IsGathered, IsGatheredAt, after_kept, after_room}

-- the primitive of a cell that can step
pub record IsOf (kind : Option PlainKind) (stepping : SteppingCell) : Type 0 where
  pub primitive : kind ≡ Some (OfPrimitive stepping.primitive.now)
  pub stepping_is : IsStepping stepping.primitive.now stepping

pub kept_kind : (kind : Option PlainKind) (kept : Option SteppingCell) (stepping : SteppingCell) → IsKeptOf kind kept → kept ≡ Some stepping → IsOf kind stepping
kept_kind kind kept stepping is e = by kind (subst (IsKeptOf kind) e is)
  where
    by : (kind : Option PlainKind) → IsKeptOf kind (Some stepping) → IsOf kind stepping
    by (Some (OfPrimitive p)) is = record { primitive = ap (λ q. Some (OfPrimitive q)) (sym is.primitive); stepping_is = subst (λ q. IsStepping q stepping) (sym is.primitive) is }
    by (Some (OfComponent k)) is = absurd is
    by None is = absurd is

-- a cell that cannot step stays
pub idle_after : (kept : List (Option SteppingCell)) (rooms : List CellRoom) (c : ℕ) (held : Option CellState) → kept_at kept c ≡ None → after_room kept rooms c held ≡ held
idle_after kept rooms c held none = ap (λ k. after_kept k (inputs_at rooms c) held) none

-- cells hold states of their rows after one of them made its step
same_stepping : (x y : SteppingCell) (o : Option SteppingCell) → o ≡ Some x → o ≡ Some y → x ≡ y
same_stepping x y o e f = cc

pub still_fitting : (kept : List (Option SteppingCell)) (held : List (Option CellState)) (n : ℕ) (stepping : SteppingCell) (x : Option CellState) → n < length held → kept_at kept n ≡ Some stepping
    → ((d : CellState) → x ≡ Some d → IsState (row_of stepping.primitive.now).shape d) → HoldFitting kept held → HoldFitting kept (set held n x)
still_fitting kept held n stepping x lt is fits before c s d e f =
    ⊎_elim
    (λ (at : c ≡ n). let same = same_stepping stepping s (kept_at kept n) is (ap (kept_at kept) (sym at) ∙ e) in
    subst (λ (t : SteppingCell). IsState (row_of t.primitive.now).shape d) same (fits d (sym (get_or-set_same held n x None lt) ∙ ap (cell_held (set held n x)) (sym at) ∙ f)))
    (λ differs. before c s d e (sym (get_or-set_other held n c x None differs) ∙ f))
    (cases_eq c n)

-- a cell that has gathered can step
pub can_step_with : (look : Look) (kept : List (Option SteppingCell)) (held : List (Option CellState)) (rooms : List CellRoom) (c : ℕ) → HoldFitting kept held → IsGatheredAt look kept held rooms c → CanStepAt kept rooms c (cell_held held c)
can_step_with look kept held rooms c fits gathered stepping e d f =
    let g = gathered stepping d e f in
    record { state_fits = fits c stepping d e f; fits = g.fits; looked_at = g.looked_at }

-- what was gathered for the cells of a list so far, and for one more
same_state : (x y : CellState) (o : Option CellState) → o ≡ Some x → o ≡ Some y → x ≡ y
same_state x y o e f = cc

pub one_gathered : (look : Look) (kept : List (Option SteppingCell)) (held : List (Option CellState)) (rooms : List CellRoom) (c : ℕ) (stepping : SteppingCell) (d : CellState) → kept_at kept c ≡ Some stepping → cell_held held c ≡ Some d
    → IsGathered look c (row_of stepping.primitive.now) d (inputs_at rooms c) → IsGatheredAt look kept held rooms c
one_gathered look kept held rooms c stepping d e f gathered s x g h =
    subst (λ (t : SteppingCell). IsGathered look c (row_of t.primitive.now) x (inputs_at rooms c)) (same_stepping stepping s (kept_at kept c) e g)
    (subst (λ y. IsGathered look c (row_of stepping.primitive.now) y (inputs_at rooms c)) (same_state d x (cell_held held c) f h) gathered)

pub gathered_still : (look : Look) (kept : List (Option SteppingCell)) (held : List (Option CellState)) (old new : List CellRoom) (c : ℕ) → inputs_at new c ≡ inputs_at old c → IsGatheredAt look kept held old c → IsGatheredAt look kept held new c
gathered_still look kept held old new c same gathered stepping d e f = subst (IsGathered look c (row_of stepping.primitive.now) d) (sym same) (gathered stepping d e f)
