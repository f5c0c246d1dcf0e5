-- Facts of what `Cycles` defines, that several crates above take.
use Rattle.std.proofs.Common.{◌≡◌, ap, refl, ℕ, ◌∷◌, ◌++◌, [], suc, zero}
use Rattle.cx_meaning.specs.Instances.{State, Instance, Node, Path, cells_of, start_at, start_below, instance_at, child_at, Cells, OfRow, a_primitive, an_instance, cell_at, no_cells, OfInstance}
use Rattle.cx_meaning.specs.Cycles.{Fault, Ended, Goes, Faults}
use Rattle.cx_meaning.specs.Answers.{Turn}
use Rattle.cx_meaning.specs.Answers as answers
use Rattle.cx_meaning.specs.Islands.{turn_of}
use Rattle.cx_prim.specs.Rows.{Row}
use Rattle.cx_meaning.proofs.InstancesLemmas.{row_is}

-- a turn that goes on is a cycle that does
pub turn_goes : (ended : Ended) (after : State) → turn_of ended ≡ answers.Goes after → ended ≡ Goes after
turn_goes (Goes a) after e = ap Goes (state_is a after e)
  where
    after_of : State → Turn State Fault → State
    after_of s answers.Ends = s
    after_of s (answers.Goes b) = b
    after_of s (answers.Faults fault) = s

    state_is : (a b : State) → ◌≡◌ {A = Turn State Fault} (answers.Goes a) (answers.Goes b) → a ≡ b
    state_is a b same = ap (after_of a) same
turn_goes (Faults fault) after e = absurd (cc)

pub start_inside : (i : Instance) (c : ℕ) (path : Path) → start_at i (c ∷ path) ≡ start_below (cells_of i) c path
start_inside (Node part cells) c path = refl

pub start_row : (cells : Cells) (c : ℕ) (row : Row) → cell_at cells c ≡ OfRow row → start_below cells c [] ≡ row.start
start_row no_cells c row e = absurd (cc)
start_row (a_primitive other rest) zero row e = ap (λ (r : Row). r.start) (row_is other row e)
start_row (a_primitive other rest) (suc c) row e = start_row rest c row e
start_row (an_instance child rest) zero row e = absurd (cc)
start_row (an_instance child rest) (suc c) row e = start_row rest c row e

-- at the start each cell holds its row's start
mutual
  pub start_deep : (i : Instance) (path : Path) (c : ℕ) (row : Row) → cell_at (cells_of (instance_at i path)) c ≡ OfRow row → start_at i (path ++ c ∷ []) ≡ row.start
  start_deep (Node part cells) [] c row e = start_row cells c row e
  start_deep (Node part cells) (x ∷ path) c row e = cells_start cells x path c row e

  cells_start : (cells : Cells) (x : ℕ) (path : Path) (c : ℕ) (row : Row) → cell_at (cells_of (child_at cells x path)) c ≡ OfRow row → start_below cells x (path ++ c ∷ []) ≡ row.start
  cells_start no_cells x path c row e = absurd (cc)
  cells_start (a_primitive one rest) zero path c row e = absurd (cc)
  cells_start (a_primitive one rest) (suc x) path c row e = cells_start rest x path c row e
  cells_start (an_instance child rest) zero path c row e = start_deep child path c row e
  cells_start (an_instance child rest) (suc x) path c row e = cells_start rest x path c row e

pub child_start : (cells : Cells) (c : ℕ) (child : Instance) (path : Path) → cell_at cells c ≡ OfInstance child → start_below cells c path ≡ start_at child path
child_start no_cells c child path e = absurd (cc)
child_start (a_primitive row rest) zero child path e = absurd (cc)
child_start (a_primitive row rest) (suc c) child path e = child_start rest c child path e
child_start (an_instance own rest) zero child path e = let same : own ≡ child = cc in ap (λ x. start_at x path) same
child_start (an_instance own rest) (suc c) child path e = child_start rest c child path e
