use Rattle.std.proofs.Common.{◌≡◌, ◌<◌, ℕ, List, Option, true, length, sym, ap, ◌∙◌, subst, arith}
use Rattle.std.proofs.lemmas.List.{with_items_is}
use Rattle.std.specs.Vec.{with_items}
use Rattle.cx_prim.specs.CellStates.{CellState}
use Rattle.cx_state.specs.States.{instance_state, plain_state}
use Rattle.cx_eval_cycle.specs.declared.stepping.SteppingCell.{SteppingCell}
use Rattle.cx_eval_cycle.specs.Passes.{AreStepped, cell_held, listed_in}
use Rattle.cx_eval_cycle.specs.Rooms.{HaveRooms}
use Rattle.cx_eval_cycle.specs.Steps.{CanStepAt, HoldFitting, after_room}
use Rattle.cx_eval.specs.Tables.{kept_of}
use Rattle.cx_eval.proofs.CycleLemmas.{own_fitting, own_long}
use Rattle.cx_eval.proofs.TableLemmas.{items_with}
use Rattle.cx_state.proofs.StatesLemmas.{row_is}
use Rattle.cx_eval.proofs.stepping.step_in.Goals as goal

pub step_listed-requires : goal.step_listed-requires
step_listed-requires c =
    let t = c.args.tables.now in
    let old = plain_state c.args.state.now in
    let n = c.args.instance in
    let own = c.index_mut-own.result.now in
    let rooms = c.args.rooms.now in
    let inside : n < length old = subst (λ m. n < m) (sym c.requires.state.count) c.requires.instance in
    let held = ap (λ i. i.cells) (row_is c.args.state.now.instances.items n own inside c.index_mut-own.ensures.value) ∙ sym c.deref_mut.ensures.value in
    let kept = sym (c.deref.ensures.value ∙ c.stepping_of-stepping.ensures.kept) in
    record {
      rooms = subst (λ (ks : List (Option SteppingCell)). HaveRooms ks rooms) kept c.requires.rooms;
      long = ap length (sym held) ∙ own_long t c.requires.tables old c.requires.state n c.requires.instance ∙ ap length kept;
      fits = subst (λ (ks : List (Option SteppingCell)). HoldFitting ks c.deref_mut.result.now) kept (subst (HoldFitting (kept_of t n)) held (own_fitting t c.requires.tables old c.requires.state n c.requires.instance));
      ascending = c.requires.ascending;
      can = subst (λ (ks : List (Option SteppingCell)). (m : ℕ) → listed_in c.args.listed.now m ≡ true → CanStepAt ks rooms m (cell_held c.deref_mut.result.now m)) kept
          (subst (λ (hs : List (Option CellState)). (m : ℕ) → listed_in c.args.listed.now m ≡ true → CanStepAt (kept_of t n) rooms m (cell_held hs m)) held c.requires.can);
    }

pub returns : goal.returns
returns c =
    let t = c.args.tables.now in
    let old = plain_state c.args.state.now in
    let n = c.args.instance in
    let own = c.index_mut-own.result.now in
    let rooms = c.args.rooms.now in
    let new = c.step_listed.new.held in
    let inside : n < length old = subst (λ m. n < m) (sym c.requires.state.count) c.requires.instance in
    let count : length new ≡ own.cells.len = omega (arith, c.step_listed.auto.held, c.deref_mut.ensures.len) in
    let held = ap (λ i. i.cells) (row_is c.args.state.now.instances.items n own inside c.index_mut-own.ensures.value) ∙ sym c.deref_mut.ensures.value in
    let kept = c.deref.ensures.value ∙ c.stepping_of-stepping.ensures.kept in
    record {
      stepped = record {
        cells = new;
        rows = items_with c.args.state.now.instances.items n own (record { cells = with_items own.cells new; held = own.held }) new inside c.index_mut-own.ensures.value
            (ap (λ hs. record { cells = hs; held = own.held.items }) (with_items_is own.cells new count));
        steps = subst (λ (ks : List (Option SteppingCell)). AreStepped (listed_in c.args.listed.now) (after_room ks rooms) (instance_state old n).cells new) kept
            (subst (λ (hs : List (Option CellState)). AreStepped (listed_in c.args.listed.now) (after_room c.deref.result.now rooms) hs new) (sym held) c.step_listed.ensures.value);
        fits = subst (λ (ks : List (Option SteppingCell)). HoldFitting ks new) kept c.step_listed.ensures.fits;
        long = c.step_listed.ensures.long ∙ ap length (sym held);
      };
    }
