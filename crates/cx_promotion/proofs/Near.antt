-- BETWEEN TWO GROUPS of an island no idle turn stands: the cells are ready, which is near where the old design has come to rest.
use Rattle.std.specs.Prelude.{◌≡◌, ℕ, zero, suc, [], ◌∷◌, refl}
use Rattle.std.proofs.Common.{sym, ◌∙◌, subst}
use Rattle.std.proofs.Math.Path.{fun_ext}
use Rattle.cx_prim.specs.CellStates.{CellState}
use Rattle.cx_prim.specs.Rows.{Row}
use Rattle.cx_meaning.specs.Instances.{Instance, Node, Cells, no_cells, a_primitive, an_instance, OfRow, OfInstance, Path, State, under, cell_at, cells_of, idle, idle_at, idle_below}
use Rattle.cx_meaning.proofs.InstancesLemmas.{instance_row}
use Rattle.cx_frames.proofs.CycleLemmas.{idle_at-row}
use Rattle.cx_promotion.proofs.RowCounts.{IsReady}
use Rattle.cx_promotion.proofs.RowReady.{LooksAlike, ReadyLooksIdle, looks_itself}

-- READY: no pipe of the instance is under way, and all that is below its component cells is settled
pub record AreReady (i : Instance) (u : State) : Type 0 where
  pub cells : (c : ℕ) (row : Row) → cell_at (cells_of i) c ≡ OfRow row → IsReady row.shape (u (c ∷ []))
  pub below : (c e : ℕ) (path : Path) → idle i u (c ∷ e ∷ path) ≡ u (c ∷ e ∷ path)

-- u stands where s stands, but for what no promoted group can tell: only dones of its own cells differ
pub record Near (i : Instance) (s u : State) : Type 0 where
  pub cells : (c : ℕ) (row : Row) → cell_at (cells_of i) c ≡ OfRow row → LooksAlike row (u (c ∷ [])) (s (c ∷ []))
  pub others : (c : ℕ) → ((row : Row) → cell_at (cells_of i) c ≡ OfRow row → ⊥) → u (c ∷ []) ≡ s (c ∷ [])
  pub below : (c e : ℕ) (path : Path) → u (c ∷ e ∷ path) ≡ s (c ∷ e ∷ path)
  pub top : u [] ≡ s []

pub near_itself : (i : Instance) (s : State) → Near i s s
near_itself i s = record { cells = λ c row is. looks_itself row (s (c ∷ [])); others = λ c none. refl; below = λ c e path. refl; top = refl }

child_stays : (child : Instance) (d : CellState) → idle_at child [] d ≡ d
child_stays (Node part cells) d = refl

pub idle_of_other : (cells : Cells) (c : ℕ) (d : CellState) → ((row : Row) → cell_at cells c ≡ OfRow row → ⊥) → idle_below cells c [] d ≡ d
idle_of_other no_cells c d none = refl
idle_of_other (a_primitive own rest) zero d none = absurd (none own refl)
idle_of_other (a_primitive own rest) (suc c) d none = idle_of_other rest c d none
idle_of_other (an_instance child rest) zero d none = child_stays child d
idle_of_other (an_instance child rest) (suc c) d none = idle_of_other rest c d none

-- A READY STATE is near the one in which it comes to rest, where every row of the instance takes a ready state as its idle edge
pub ready_near : (i : Instance) (u : State) → ((c : ℕ) (row : Row) → cell_at (cells_of i) c ≡ OfRow row → ReadyLooksIdle row) → AreReady i u → Near i (idle i u) u
ready_near (Node part cells) u rows ready = record {
  cells = λ c row is. subst (λ d. LooksAlike row (u (c ∷ [])) d) (sym (idle_at-row (Node part cells) c row (u (c ∷ [])) is)) (rows c row is (u (c ∷ [])) (ready.cells c row is));
  others = λ c none. sym (idle_of_other cells c (u (c ∷ [])) none);
  below = λ c e path. sym (ready.below c e path);
  top = refl;
}

-- children are the same
pub child_near : (i : Instance) (s u : State) → Near i s u → (c : ℕ) (child : Instance) → cell_at (cells_of i) c ≡ OfInstance child → under c u ≡ under c s
child_near i s u near c child at = fun_ext each
  where
    each : (path : Path) → under c u path ≡ under c s path
    each [] = near.others c (λ row is. instance_row child row (sym at ∙ is))
    each (e ∷ path) = near.below c e path
