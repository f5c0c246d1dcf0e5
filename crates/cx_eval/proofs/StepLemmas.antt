-- A state in which the cells of one instance hold something else.
use Rattle.std.proofs.Common.{◌≡◌, ◌≢◌, ℕ, ◌<◌, ⊎_elim, Bool, true, false, List, get_or, length, Option, Some, None, refl, sym, ap, ◌∙◌, subst}
use Rattle.std.specs.Prelude.{if◌then◌else◌}
use Rattle.std.proofs.lemmas.List.{get_or-set_same, get_or-set_other, length-set}
use Rattle.cx_prim.specs.CellStates.{CellState, IsState}
use Rattle.cx_prim.specs.Rows.{Inputs}
use Rattle.cx_prim.specs.Table.{PrimitiveRow, row_of}
use Rattle.cx_meaning.specs.declared.sights.Seen.TheVariants.{Undefined}
use Rattle.cx_meaning.specs.Designs.{OfComponent, OfPrimitive, PlainCell, PlainComponent, PlainDesign, PlainKind}
use Rattle.cx_meaning.specs.Instances.{Path, Set, instance_at, part_of, tree_of}
use Rattle.cx_state.specs.Tables.{IsNumber}
use Rattle.cx_state.specs.States.{FitsPart, HoldCells, HoldsKind, IsStateOf, PlainInstance, inputs_held, instance_state, no_instance}
use Rattle.cx_eval_cycle.specs.declared.rooms.CellRoom.{CellRoom}
use Rattle.cx_eval_cycle.specs.declared.stepping.SteppingCell.{SteppingCell}
use Rattle.cx_eval_cycle.specs.Passes.{AreStepped, cell_held, kind_at}
use Rattle.cx_eval_cycle.specs.Rooms.{inputs_at}
use Rattle.cx_eval_cycle.specs.Stepping.{AreStepping, IsKeptOf, kept_at}
use Rattle.cx_eval_cycle.specs.Steps.{HoldFitting, after_kept, after_room}
use Rattle.cx_eval_cycle.proofs.StepLemmas.{idle_after, kept_kind}
use Rattle.cx_eval.specs.Cycling.{with_cells}
use Rattle.cx_eval.specs.Evaluated.{HeldAlike}
use Rattle.cx_eval.proofs.CellLemmas.{HoldsState, beyond_holds, component_holds, hold_again, primitive_holds}
use Rattle.cx_text.proofs.NumberLaws.{same_or}

-- STEPS OF CELLS
either_same : (b : Bool) (x y z : Option CellState) → x ≡ z → y ≡ z → (if b then x else y) ≡ z
either_same true x y z e f = e
either_same false x y z e f = f

either_some : (b : Bool) (x y : CellState) → (z : CellState) × ((if b then Some x else Some y) ≡ Some z)
either_some true x y = (x, refl)
either_some false x y = (y, refl)

after_none : (kept : Option SteppingCell) (inputs : Inputs) → after_kept kept inputs None ≡ None
after_none None inputs = refl
after_none (Some stepping) inputs = refl

fits_kept : (kind : Option PlainKind) (kept : Option SteppingCell) (held : Option CellState) → IsKeptOf kind kept → ((p : PrimitiveRow) → kind ≡ Some (OfPrimitive p) → HoldsState p held) → (stepping : SteppingCell) (d : CellState) → kept ≡ Some stepping → held ≡ Some d
    → IsState (row_of stepping.primitive.now).shape d
fits_kept kind kept held is holds stepping d e f =
    let of = kept_kind kind kept stepping is e in
    let h = holds stepping.primitive.now of.primitive in
    subst (IsState (row_of stepping.primitive.now).shape) (same_state h.state d held h.is f) h.fits
  where
    same_state : (x y : CellState) (o : Option CellState) → o ≡ Some x → o ≡ Some y → x ≡ y
    same_state x y o e f = cc

-- cells that can step hold states of their rows
pub hold_fitting : (cells : List PlainCell) (kept : List (Option SteppingCell)) (held : List (Option CellState)) → AreStepping cells kept → HoldCells cells held → HoldFitting kept held
hold_fitting cells kept held are holds c stepping d e f = fits_kept (kind_at cells c) (kept_at kept c) (cell_held held c) (are.each c) (λ p g. primitive_holds cells held c p holds g) stepping d e f

module _ (listed : Set) (cells : List PlainCell) (kept : List (Option SteppingCell)) (rooms : List CellRoom) (old new : List (Option CellState)) (are : AreStepping cells kept) (holds : HoldCells cells old)
    (steps : AreStepped listed (after_room kept rooms) old new) where
  none_stays : (c : ℕ) → cell_held old c ≡ None → cell_held new c ≡ None
  none_stays c before =
      steps c
      ∙ either_same (listed c) (after_room kept rooms c (cell_held old c)) (cell_held old c) None
      (ap (after_room kept rooms c) before ∙ after_none (kept_at kept c) (inputs_at rooms c)) before

  -- what is no primitive holds nothing, as before
  pub still_none : (c : ℕ) (kind : Option PlainKind) → kind_at cells c ≡ kind → ((p : PrimitiveRow) → kind ≡ Some (OfPrimitive p) → ⊥) → cell_held new c ≡ None
  still_none c None e none = none_stays c (beyond_holds cells old c holds e)
  still_none c (Some (OfPrimitive p)) e none = absurd (none p refl)
  still_none c (Some (OfComponent k)) e none = none_stays c (component_holds cells old c k holds e)

  module _ (fits : HoldFitting kept new) where
    still_holds : (c : ℕ) (p : PrimitiveRow) → kind_at cells c ≡ Some (OfPrimitive p) → HoldsKind (OfPrimitive p) (cell_held new c)
    still_holds c p e = by (kept_at kept c) refl
      where
        before : HoldsState p (cell_held old c)
        before = primitive_holds cells old c p holds e

        by : (k : Option SteppingCell) → kept_at kept c ≡ k → HoldsKind (OfPrimitive p) (cell_held new c)
        by None is =
            let same = steps c ∙ either_same (listed c) (after_room kept rooms c (cell_held old c)) (cell_held old c) (cell_held old c) (idle_after kept rooms c (cell_held old c) is) refl in
            subst (HoldsKind (OfPrimitive p)) (sym (same ∙ before.is)) before.fits
        by (Some stepping) is =
            let of = kept_kind (kind_at cells c) (kept_at kept c) stepping (are.each c) is in
            let row : stepping.primitive.now ≡ p = (let f : Some (OfPrimitive stepping.primitive.now) ≡ Some (OfPrimitive p) = sym of.primitive ∙ e in cc) in
            let after = either_some (listed c) ((row_of stepping.primitive.now).next before.state (inputs_at rooms c)) before.state in
            let now : cell_held new c ≡ Some after.0 = steps c
            ∙ ap (λ h. if listed c then after_room kept rooms c h else h) before.is
            ∙ ap (λ k. if listed c then after_kept k (inputs_at rooms c) (Some before.state) else Some before.state) is
            ∙ after.1 in
            subst (HoldsKind (OfPrimitive p)) (sym now) (subst (λ q. IsState (row_of q).shape after.0) row (fits c stepping after.0 is now))

    -- so they hold states of their rows again
    pub hold_still : length new ≡ length cells → HoldCells cells new
    hold_still long = hold_again cells new long each
      where
        each : (c : ℕ) (kind : PlainKind) → kind_at cells c ≡ Some kind → HoldsKind kind (cell_held new c)
        each c (OfPrimitive p) e = still_holds c p e
        each c (OfComponent k) e = subst (HoldsKind (OfComponent k)) (sym (still_none c (Some (OfComponent k)) e (λ p f. cc))) tt

-- ONE ROW
module _ (d : PlainDesign) (rows : List PlainInstance) (n : ℕ) (cells : List (Option CellState)) (within : n < length rows) where
  abbrev row : PlainInstance
  row = record { cells = cells; held = (instance_state rows n).held }

  row_same : instance_state (with_cells rows n cells) n ≡ row
  row_same = get_or-set_same rows n row no_instance within

  row_other : (m : ℕ) → m ≢ n → instance_state (with_cells rows n cells) m ≡ instance_state rows m
  row_other m differs = get_or-set_other rows n m row no_instance differs

  pub held_alike : HeldAlike rows (with_cells rows n cells)
  held_alike m input =
      ⊎_elim
      (λ (e : m ≡ n).
      ap (λ (k : ℕ). inputs_held (with_cells rows n cells) k input) e ∙ ap (λ (x : PlainInstance). get_or x.held input Undefined) row_same ∙ ap (λ (k : ℕ). inputs_held rows k input) (sym e))
      (λ (differs : m ≢ n). ap (λ (x : PlainInstance). get_or x.held input Undefined) (row_other m differs))
      (same_or m n)

  pub fits_still : IsStateOf d rows → (part : PlainComponent) → ((path : Path) → IsNumber d n path → part_of (instance_at (tree_of d) path) ≡ part) → HoldCells part.cells cells → IsStateOf d (with_cells rows n cells)
  fits_still fits part is_part holds = record {
    count = length-set rows n row ∙ fits.count;
    fits = λ m path number.
        ⊎_elim
        (λ (e : m ≡ n).
        let here : IsNumber d n path = subst (λ k. IsNumber d k path) e number in
        let before : FitsPart part (instance_state rows n) = subst (λ p. FitsPart p (instance_state rows n)) (is_part path here) (fits.fits n path here) in
        let after : FitsPart part row = record { cells = holds; inputs = before.inputs; widths = before.widths } in
        subst (λ k. FitsPart (part_of (instance_at (tree_of d) path)) (instance_state (with_cells rows n cells) k)) (sym e)
        (subst (λ x. FitsPart (part_of (instance_at (tree_of d) path)) x) (sym row_same) (subst (λ p. FitsPart p row) (sym (is_part path here)) after)))
        (λ (differs : m ≢ n). subst (λ x. FitsPart (part_of (instance_at (tree_of d) path)) x) (sym (row_other m differs)) (fits.fits m path number))
        (same_or m n);
  }
