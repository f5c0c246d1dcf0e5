-- A cycle of the asked instance ends as the first fault that is found and the steps of its cells say.
use Rattle.std.proofs.Common.{◌≡◌, ℕ, ◌<◌, true, List, [], ◌∷◌, ◌++◌, length, Option, Some, None, Result, Ok, Err, refl, sym, ap, ◌∙◌, subst}
use Rattle.std.specs.Prelude.{slice_get}
use Rattle.std.proofs.Math.Path.{fun_ext}
use Rattle.cx_prim.specs.CellStates.{CellState}
use Rattle.cx_meaning.specs.declared.ports.PortRef.TheVariants.{Cell}
use Rattle.cx_meaning.specs.Active as plain
use Rattle.cx_meaning.specs.Cycles.{Ended, Fault, Faults, Goes, cycle_by, cycle_of, every_cell}
use Rattle.cx_meaning.specs.Designs.{OfComponent, OfPrimitive, PlainCell, PlainComponent, PlainDesign, PlainKind, component_at}
use Rattle.cx_meaning.specs.Instances.{Cells, Instance, Path, State, cells_for, cells_of, instance_at, part_of, paths_of, tree_of}
use Rattle.cx_meaning.specs.Sights.{Look, seen}
use Rattle.cx_design.specs.declared.actives.Active.{Active}
use Rattle.cx_design.specs.declared.actives.PortFault.{PortFault}
use Rattle.cx_design.specs.PlainActives.{plain_active}
use Rattle.cx_state.specs.Tables.{IsNumber, row_at}
use Rattle.cx_state.specs.States.{HoldCells, IsStateOf, PlainInstance, StandsFor, inputs_held, instance_state, put_path, under_path}
use Rattle.cx_state.proofs.ChangeLemmas.{cycle_changed}
use Rattle.cx_eval_network.specs.Networks.{Asked, path_at, seen_at}
use Rattle.cx_eval_network.proofs.NetworkLemmas.{get_there}
use Rattle.cx_eval_cycle.specs.declared.passes.CellFault.{CellFault}
use Rattle.cx_eval_cycle.specs.declared.rooms.CellRoom.{CellRoom}
use Rattle.cx_eval_cycle.specs.declared.stepping.SteppingCell.{SteppingCell}
use Rattle.cx_eval_cycle.specs.declared.stepping.SteppingCells.{SteppingCells}
use Rattle.cx_eval_cycle.specs.Passes.{EndsSo, HeldAt, IsAscending, cell_held, kind_at, listed_in}
use Rattle.cx_eval_cycle.specs.Stepping.{AreStepping, AreSteppingCells}
use Rattle.cx_eval_cycle.specs.Steps.{CanStepAt, HoldFitting}
use Rattle.cx_eval_cycle.proofs.EndLemmas.{all_cycle, listed_fault, listed_go}
use Rattle.cx_eval_cycle.proofs.StepLemmas.{can_step_with}
use Rattle.cx_eval.specs.declared.tables.Tables.{Tables}
use Rattle.cx_eval.specs.Cycling.{HaveStepped, IsFirst}
use Rattle.cx_eval.specs.Evaluated.{Cycled, EndsAs, HeldAlike}
use Rattle.cx_eval.specs.Tables.{AreTables, asked_in, cells_at, design_of, kept_of}
use Rattle.cx_eval.proofs.CellLemmas.{primitive_holds}
use Rattle.cx_eval.proofs.PartLemmas.{own_cells, part_is}
use Rattle.cx_eval.proofs.SightLemmas.{look_is}
use Rattle.cx_eval.proofs.StepLemmas.{fits_still, held_alike, hold_fitting, hold_still, still_none}
use Rattle.cx_eval.proofs.TableLemmas.{stepping_there}
use Rattle.cx_text.proofs.ListLaws.{nothing_more}
use Rattle.cx_state.proofs.StatesLemmas.{held_long}

module _ (t : Tables) (are : AreTables t) (old : List PlainInstance) (fits : IsStateOf (design_of t) old) (n : ℕ) (lt : n < length (paths_of (tree_of (design_of t)))) where
  abbrev d : PlainDesign
  d = design_of t

  abbrev cells : List PlainCell
  cells = cells_at t n

  abbrev own : List (Option CellState)
  own = (instance_state old n).cells

  inside : n < length old
  inside = subst (λ m. n < m) (sym fits.count) lt

  is_part : (path : Path) → IsNumber d n path → part_of (instance_at (tree_of d) path) ≡ component_at d (row_at t.table.rows.items n).component
  is_part path number = part_is d t.table.rows.items t.table.children.items are.table n path number

  pub own_holds : HoldCells cells own
  own_holds =
      let number : IsNumber d n (path_at d n) = get_there (paths_of (tree_of d)) n lt in
      subst (λ (part : PlainComponent). HoldCells part.cells own) (is_part (path_at d n) number) (fits.fits n (path_at d n) number).cells

  held_at : (path : Path) (s : State) → IsNumber d n path → StandsFor (tree_of d) old s → HeldAt cells own (under_path path s)
  held_at path s number stands c p e =
      let r = primitive_holds cells own c p own_holds e in
      r.is ∙ ap Some (sym (stands n c path r.state number r.is))

  abbrev kept : List (Option SteppingCell)
  kept = kept_of t n

  pub are_kept : AreStepping cells kept
  are_kept = stepping_there t are n lt

  -- the cells that can step hold states of their rows, and can step where they have gathered
  pub own_fitting : HoldFitting kept own
  own_fitting = hold_fitting cells kept own are_kept own_holds

  pub own_long : length own ≡ length kept
  own_long = held_long cells own own_holds ∙ sym are_kept.count

  module _ (active : Active) (listed : List ℕ) (ascending : IsAscending listed) where
    abbrev a : Asked
    a = asked_in t old n active

    abbrev act : Path → plain.Active
    act path = plain_active (instance_at (tree_of d) path) active

    abbrev ended : Path → State → Ended
    ended path s = cycle_of (instance_at (tree_of d) path) (inputs_held old n) (act path) (listed_in listed) (under_path path s)

    record ByLook (path : Path) (s : State) : Type 0 where
      child : ℕ → Instance
      is : ended path s ≡ cycle_by (listed_in listed) (seen_at a n) (cells_for child cells) (under_path path s)

    by_look : (path : Path) (s : State) → IsNumber d n path → StandsFor (tree_of d) old s → ByLook path s
    by_look path s number stands =
        let here = own_cells d t.table.rows.items t.table.children.items are.table n path number in
        let look : seen (instance_at (tree_of d) path) (inputs_held old n) (act path) (under_path path s) ≡ seen_at a n =
        fun_ext (look_is d t.table.rows.items t.table.children.items old n active are.table fits path s number stands) in
        record {
          child = here.child;
          is = ap (λ (l : Look). cycle_by (listed_in listed) l (cells_of (instance_at (tree_of d) path)) (under_path path s)) look ∙ ap (λ (cs : Cells). cycle_by (listed_in listed) (seen_at a n) cs (under_path path s)) here.cells;
        }

    module _ (rooms : List CellRoom) (first : Option CellFault) (is : IsFirst a cells kept own listed rooms first) where
      -- A FAULT
      told_so : (f : CellFault) (told : PortFault) → told ≡ record { kind = f.stop.kind; instance = n; port = Cell f.cell f.stop.port } → (path : Path) (s : State) → IsNumber d n path → (x : Ended) → EndsSo cells own own (Err f) x
          → EndsAs d path s old old (Err told) x
      told_so f told tells path s number (Goes after) e = absurd e
      told_so f told tells path s number (Faults fault) e = (
        told,
        refl,
        record {
          kind = ap (λ (x : PortFault). x.kind) tells ∙ ap (λ (x : Fault). x.kind) e.0;
          port = ap (λ (x : PortFault). x.port) tells ∙ ap (λ (x : Fault). x.port) e.0;
          instance =
              ap (λ (x : PortFault). slice_get (paths_of (tree_of d)) x.instance) tells ∙ number ∙ ap Some (sym (nothing_more path)) ∙ ap (λ (x : Fault). Some (path ++ x.path)) e.0;
        },
        refl,
      )

      pub faults : (f : CellFault) → first ≡ Some f → (told : PortFault) → told ≡ record { kind = f.stop.kind; instance = n; port = Cell f.cell f.stop.port } → Cycled d old old n active (listed_in listed) (Err told)
      faults f e told tells path s number stands =
          let by = by_look path s number stands in
          subst (EndsAs d path s old old (Err told)) (sym by.is)
          (told_so f told tells path s number (cycle_by (listed_in listed) (seen_at a n) (cells_for by.child cells) (under_path path s))
          (listed_fault (seen_at a n) cells own by.child (under_path path s) (held_at path s number stands) listed ascending f (sym is.value ∙ e)))

      -- where there is none, the listed cells can step
      pub can_step : first ≡ None → (c : ℕ) → listed_in listed c ≡ true → CanStepAt kept rooms c (cell_held own c)
      can_step none c on = can_step_with (seen_at a n) kept own rooms c own_fitting (is.gathered none c on)

      -- A NEXT STATE
      module _ (none : first ≡ None) (new : List PlainInstance) (steps : HaveStepped kept rooms n (listed_in listed) old new) where
        holds_after : (after : State) → HeldAt cells steps.cells after → (c : ℕ) (x : CellState) → cell_held steps.cells c ≡ Some x → after (c ∷ []) ≡ x
        holds_after after held c x e = by (kind_at cells c) refl
          where
            by : (kind : Option PlainKind) → kind_at cells c ≡ kind → after (c ∷ []) ≡ x
            by None at = absurd (let f = still_none (listed_in listed) cells kept rooms own steps.cells are_kept own_holds steps.steps c None at (λ p g. cc) in cc)
            by (Some (OfPrimitive p)) at = let f : Some (after (c ∷ [])) ≡ Some x = sym (held c p at) ∙ e in cc
            by (Some (OfComponent k)) at = absurd (let f = still_none (listed_in listed) cells kept rooms own steps.cells are_kept own_holds steps.steps c (Some (OfComponent k)) at (λ p g. cc) in cc)

        goes_so : (path : Path) (s : State) → IsNumber d n path → StandsFor (tree_of d) old s → (x : Ended) → ended path s ≡ x → EndsSo cells own steps.cells (Ok tt) x → EndsAs d path s old new (Ok tt) x
        goes_so path s number stands (Faults fault) e ends = absurd ends
        goes_so path s number stands (Goes after) e ends = (
          λ told f. cc,
          subst (λ x. StandsFor (tree_of d) x (put_path path after s)) (sym steps.rows)
              (cycle_changed d old s after n path (record { cells = steps.cells; held = (instance_state old n).held }) (inputs_held old n) (act path) (listed_in listed) inside stands number e (holds_after after ends)),
          subst (HeldAlike old) (sym steps.rows) (held_alike d old n steps.cells inside),
        )

        pub goes_on : Cycled d old new n active (listed_in listed) (Ok tt)
        goes_on path s number stands =
            let by = by_look path s number stands in
            let x = cycle_by (listed_in listed) (seen_at a n) (cells_for by.child cells) (under_path path s) in
            subst (EndsAs d path s old new (Ok tt)) (sym by.is)
            (goes_so path s number stands x by.is
            (listed_go (seen_at a n) cells own by.child (under_path path s) (held_at path s number stands) listed ascending kept rooms steps.cells (sym is.value ∙ none) are_kept (is.gathered none) steps.steps))

        pub fits_after : IsStateOf d new
        fits_after =
            subst (IsStateOf d) (sym steps.rows)
            (fits_still d old n steps.cells inside fits (component_at d (row_at t.table.rows.items n).component) is_part (hold_still (listed_in listed) cells kept rooms own steps.cells are_kept own_holds steps.steps steps.fits (steps.long ∙ held_long cells own own_holds)))

-- A CYCLE OF ALL CELLS is one of those that can step
pub all_cycled : (t : Tables) (are : AreTables t) (old new : List PlainInstance) (n : ℕ) (active : Active) (stepping : SteppingCells) (result : Result (Unit {0}) PortFault) → AreSteppingCells (cells_at t n) stepping
    → Cycled (design_of t) old new n active (listed_in stepping.numbers.items) result → Cycled (design_of t) old new n active every_cell result
all_cycled t are old new n active stepping result kept cycled path s number stands =
    let here = own_cells (design_of t) t.table.rows.items t.table.children.items are.table n path number in
    let i = instance_at (tree_of (design_of t)) path in
    let look = seen i (inputs_held old n) (plain_active i active) (under_path path s) in
    let same : cycle_by every_cell look (cells_of i) (under_path path s) ≡ cycle_by (listed_in stepping.numbers.items) look (cells_of i) (under_path path s) =
    subst (λ (cs : Cells). cycle_by every_cell look cs (under_path path s) ≡ cycle_by (listed_in stepping.numbers.items) look cs (under_path path s)) (sym here.cells) (all_cycle look (cells_at t n) stepping here.child (under_path path s) kept) in
    subst (EndsAs (design_of t) path s old new result) (sym same) (cycled path s number stands)
