-- States of an instance and of the shared one: at a cell that holds something, at a child, and by idle turns.
use Rattle.std.proofs.Common.{◌≡◌, ℕ, zero, suc, ◌+◌, true, false, [], ◌∷◌, refl, sym, ap, ◌∙◌, subst, arith}
use Rattle.std.proofs.lemmas.Bool.{both_ways}
use Rattle.cx_text.proofs.BoolLaws.{from_not}
use Rattle.cx_prim.specs.Rows.{Row}
use Rattle.cx_meaning.specs.Designs.{PlainComponent}
use Rattle.cx_meaning.specs.Instances.{Instance, Node, Cells, no_cells, a_primitive, an_instance, OfRow, OfInstance, cell_at, cells_of, part_of, instance_at, child_at, Path, State, Set, start_at, start_below, under, merge, put, idle}
use Rattle.cx_meaning.specs.Cycles.{Fault, fault_at}
use Rattle.cx_meaning.specs.Calls.{fault_below}
use Rattle.cx_meaning.specs.declared.sights.FaultKind.{FaultKind}
use Rattle.cx_meaning.specs.declared.ports.PortRef.{PortRef}
use Rattle.cx_rewrites.specs.Renaming.{renamed}
use Rattle.cx_rewrites.specs.Standing.{holds, holds_below, renumbered, renumbered_below, IsRenumbered, AreRenumbered}
use Rattle.cx_rewrites.proofs.StandingLemmas.{under_stands, put_stands, merge_stands, idle_stands}
use Rattle.cx_sharing.specs.Uses.{is_stateless, is_candidate}
use Rattle.cx_sharing.specs.Giving.{new_cell}
use Rattle.cx_sharing.specs.Following.{has_state, SharedStands, shared_fault}
use Rattle.cx_sharing.proofs.TwinLemmas.{AtTwin, IsTwin, row_twin, child_twin, part_other, state_other, own_equal}
use Rattle.cx_meaning.proofs.CyclesLemmas.{start_inside, child_start}

-- paths by what stands at their first cell
row_holds : (cells : Cells) (c : ℕ) (row : Row) → cell_at cells c ≡ OfRow row → holds_below has_state cells c [] ≡ has_state row
row_holds no_cells c row e = absurd (cc)
row_holds (a_primitive own rest) zero row e = let same : own ≡ row = cc in ap has_state same
row_holds (a_primitive own rest) (suc c) row e = row_holds rest c row e
row_holds (an_instance child rest) zero row e = absurd (cc)
row_holds (an_instance child rest) (suc c) row e = row_holds rest c row e

row_renumbered : (cells : Cells) (c : ℕ) (row : Row) → cell_at cells c ≡ OfRow row → renumbered_below new_cell cells c [] ≡ []
row_renumbered no_cells c row e = absurd (cc)
row_renumbered (a_primitive own rest) zero row e = refl
row_renumbered (a_primitive own rest) (suc c) row e = row_renumbered rest c row e
row_renumbered (an_instance child rest) zero row e = absurd (cc)
row_renumbered (an_instance child rest) (suc c) row e = row_renumbered rest c row e

pub child_renumbered : (cells : Cells) (c : ℕ) (child : Instance) (path : Path) → cell_at cells c ≡ OfInstance child → renumbered_below new_cell cells c path ≡ renumbered new_cell child path
child_renumbered no_cells c child path e = absurd (cc)
child_renumbered (a_primitive row rest) zero child path e = absurd (cc)
child_renumbered (a_primitive row rest) (suc c) child path e = child_renumbered rest c child path e
child_renumbered (an_instance own rest) zero child path e = let same : own ≡ child = cc in ap (λ x. renumbered new_cell x path) same
child_renumbered (an_instance own rest) (suc c) child path e = child_renumbered rest c child path e

pub child_is : (cells : Cells) (c : ℕ) (child : Instance) (path : Path) → cell_at cells c ≡ OfInstance child → child_at cells c path ≡ instance_at child path
child_is no_cells c child path e = absurd (cc)
child_is (a_primitive row rest) zero child path e = absurd (cc)
child_is (a_primitive row rest) (suc c) child path e = child_is rest c child path e
child_is (an_instance own rest) zero child path e = let same : own ≡ child = cc in ap (λ x. instance_at x path) same
child_is (an_instance own rest) (suc c) child path e = child_is rest c child path e

-- a cell that holds something, or has such a cell below it, is a primitive that does, or a component's
pub data HoldsAt (cells : Cells) (c : ℕ) (path : Path) : Type 0 where
  itself : (row : Row) → cell_at cells c ≡ OfRow row → path ≡ [] → has_state row ≡ true → HoldsAt cells c path
  in_child : (child : Instance) → cell_at cells c ≡ OfInstance child → holds has_state child path ≡ true → HoldsAt cells c path

pub holds_at : (cells : Cells) (c : ℕ) (path : Path) → holds_below has_state cells c path ≡ true → HoldsAt cells c path
holds_at no_cells c path on = absurd (cc)
holds_at (a_primitive row rest) zero [] on = itself row refl refl on
holds_at (a_primitive row rest) zero (e ∷ path) on = absurd (cc)
holds_at (a_primitive row rest) (suc c) path on = further (holds_at rest c path on)
  where
    further : HoldsAt rest c path → HoldsAt (a_primitive row rest) (suc c) path
    further (itself own at root has) = itself own at root has
    further (in_child child at has) = in_child child at has
holds_at (an_instance child rest) zero path on = in_child child refl on
holds_at (an_instance child rest) (suc c) path on = further (holds_at rest c path on)
  where
    further : HoldsAt rest c path → HoldsAt (an_instance child rest) (suc c) path
    further (itself own at root has) = itself own at root has
    further (in_child kid at has) = in_child kid at has

-- STATES of the instance itself
pub of_path : (i : Instance) (c : ℕ) (path : Path) → holds has_state i (c ∷ path) ≡ holds_below has_state (cells_of i) c path
of_path (Node part cells) c path = refl

pub path_of : (i : Instance) (c : ℕ) (path : Path) → renumbered new_cell i (c ∷ path) ≡ new_cell (part_of i) c ∷ renumbered_below new_cell (cells_of i) c path
path_of (Node part cells) c path = refl

pub root_of : (i : Instance) → holds has_state i [] ≡ false
root_of (Node part cells) = refl

-- the state of a primitive that holds something
pub row_path : (i : Instance) (c : ℕ) (row : Row) → cell_at (cells_of i) c ≡ OfRow row → renumbered new_cell i (c ∷ []) ≡ new_cell (part_of i) c ∷ []
row_path i c row at = path_of i c [] ∙ ap (λ path. new_cell (part_of i) c ∷ path) (row_renumbered (cells_of i) c row at)

pub row_held : (i : Instance) (c : ℕ) (row : Row) → cell_at (cells_of i) c ≡ OfRow row → has_state row ≡ true → holds has_state i (c ∷ []) ≡ true
row_held i c row at has = of_path i c [] ∙ row_holds (cells_of i) c row at ∙ has

pub row_state : (i : Instance) (s z : State) (c : ℕ) (row : Row) → SharedStands i s z → cell_at (cells_of i) c ≡ OfRow row → has_state row ≡ true → z (new_cell (part_of i) c ∷ []) ≡ s (c ∷ [])
row_state i s z c row stands at has = ap z (sym (row_path i c row at)) ∙ stands (c ∷ []) (row_held i c row at has)

-- the state of a child
pub child_state : (i : Instance) (s z : State) (c : ℕ) (child : Instance) → SharedStands i s z → cell_at (cells_of i) c ≡ OfInstance child → SharedStands child (under c s) (under (new_cell (part_of i) c) z)
child_state (Node part cells) s z c child stands at = under_stands new_cell has_state part cells c child s z at stands

-- merged states, by sets that say the same of each cell that holds something or has such a cell below it
pub merged_state : (i : Instance) (set other : Set) (a c b d : State) → ((e : ℕ) → is_candidate (part_of i) e ≡ false → other (new_cell (part_of i) e) ≡ set e)
    → ((e : ℕ) (path : Path) → HoldsAt (cells_of i) e path → is_candidate (part_of i) e ≡ false)
    → SharedStands i a b → SharedStands i c d → SharedStands i (merge set a c) (merge other b d)
merged_state (Node part cells) set other a c b d same others first second =
    merge_stands new_cell has_state part cells set other a c b d (λ e path on. same e (others e path (holds_at cells e path on))) first second

-- a child's state, put back
pub back_state : (i : Instance) (c : ℕ) (child : Instance) (own twin s z : State) → cell_at (cells_of i) c ≡ OfInstance child → is_candidate (part_of i) c ≡ false
    → SharedStands child own twin → SharedStands i s z → SharedStands i (put c own s) (put (new_cell (part_of i) c) twin z)
back_state (Node part cells) c child own twin s z at none first second =
    put_stands new_cell has_state part cells c child own twin s z at (λ e path on. own_equal part c e none) first second

-- what holds something is no candidate
pub held_other : (i j : Instance) → IsTwin i j → (e : ℕ) (path : Path) → HoldsAt (cells_of i) e path → is_candidate (part_of i) e ≡ false
held_other i j twin e path (itself row at root has) =
    let r = row_twin row (twin.cells e) at in
    state_other (part_of i) e r.0 r.2 (ap (λ (x : Row). is_stateless x.shape) r.1 ∙ from_not (is_stateless row.shape) has)
held_other i j twin e path (in_child child at has) = let r = child_twin child (twin.cells e) at in part_other (part_of i) e r.0 r.2

-- THE TREE of the shared instance is renumbered
renumbered_cells : (part : PlainComponent) (cells : Cells) (c : ℕ) (j : Instance) → ((e : ℕ) → AtTwin part (c + e) (cell_at cells e) (cell_at (cells_of j) (new_cell part (c + e)))) → AreRenumbered new_cell has_state part cells c j
renumbered_cells part no_cells c j each = tt
renumbered_cells part (a_primitive row rest) c j each =
    let here : c + 0 ≡ c = omega arith in (
      (λ has. ap (λ n. cell_at (cells_of j) (new_cell part n)) (sym here) ∙ (row_twin row (each 0) refl).3),
      renumbered_cells part rest (suc c) j (λ e. let next : c + suc e ≡ suc c + e = omega arith in subst (λ n. AtTwin part n (cell_at rest e) (cell_at (cells_of j) (new_cell part n))) next (each (suc e))),
    )
renumbered_cells part (an_instance child rest) c j each =
    let here : c + 0 ≡ c = omega arith in
    let r = child_twin child (each 0) refl in (
      (r.1, ap (λ n. cell_at (cells_of j) (new_cell part n)) (sym here) ∙ r.3, r.4.tree),
      renumbered_cells part rest (suc c) j (λ e. let next : c + suc e ≡ suc c + e = omega arith in subst (λ n. AtTwin part n (cell_at rest e) (cell_at (cells_of j) (new_cell part n))) next (each (suc e))),
    )

pub twin_renumbered : (i j : Instance) → IsTwin i j → IsRenumbered new_cell has_state i j
twin_renumbered (Node part cells) j twin =
    renumbered_cells part cells 0 j (λ e. let first : e ≡ 0 + e = omega arith in subst (λ n. AtTwin part n (cell_at cells e) (cell_at (cells_of j) (new_cell part n))) first (twin.cells e))

pub idle_state : (i j : Instance) → IsTwin i j → (s z : State) → SharedStands i s z → SharedStands i (idle i s) (idle j z)
idle_state i j twin s z stands = idle_stands new_cell has_state i j s z (twin_renumbered i j twin) stands

-- FAULTS of the instance itself, and of a child
pub told_here : (i : Instance) (kind : FaultKind) (p : PortRef) → shared_fault i (fault_at kind p) ≡ fault_at kind (renamed (new_cell (part_of i)) p)
told_here (Node part cells) kind p = refl

pub told_below : (i : Instance) (c : ℕ) (child : Instance) (f : Fault) → cell_at (cells_of i) c ≡ OfInstance child → shared_fault i (fault_below c f) ≡ fault_below (new_cell (part_of i) c) (shared_fault child f)
told_below (Node part cells) c child f at =
    ap (λ path. record { kind = f.kind; path = new_cell part c ∷ path; port = renamed (new_cell (part_of (child_at cells c f.path))) f.port }) (child_renumbered cells c child f.path at)
    ∙ ap (λ x. record { kind = f.kind; path = new_cell part c ∷ renumbered new_cell child f.path; port = renamed (new_cell (part_of x)) f.port }) (child_is cells c child f.path at)

-- THE START of a cell that holds something
row_start : (cells : Cells) (c : ℕ) (row : Row) (path : Path) → cell_at cells c ≡ OfRow row → start_below cells c path ≡ row.start
row_start no_cells c row path e = absurd (cc)
row_start (a_primitive own rest) zero row path e = let same : own ≡ row = cc in ap (λ (x : Row). x.start) same
row_start (a_primitive own rest) (suc c) row path e = row_start rest c row path e
row_start (an_instance child rest) zero row path e = absurd (cc)
row_start (an_instance child rest) (suc c) row path e = row_start rest c row path e

pub start_state : (i j : Instance) → IsTwin i j → (path : Path) → holds has_state i path ≡ true → start_at j (renumbered new_cell i path) ≡ start_at i path
start_state i j twin [] on = absurd (both_ways (holds has_state i []) (root_of i) on)
start_state i j twin (c ∷ path) on = by (holds_at (cells_of i) c path (sym (of_path i c path) ∙ on))
  where
    by : HoldsAt (cells_of i) c path → start_at j (renumbered new_cell i (c ∷ path)) ≡ start_at i (c ∷ path)
    by (itself row at root has) =
        ap (start_at j) (path_of i c path)
        ∙ start_inside j (new_cell (part_of i) c) (renumbered_below new_cell (cells_of i) c path)
        ∙ row_start (cells_of j) (new_cell (part_of i) c) row (renumbered_below new_cell (cells_of i) c path) (row_twin row (twin.cells c) at).3
        ∙ sym (row_start (cells_of i) c row path at)
        ∙ sym (start_inside i c path)
    by (in_child child at has) =
        let r = child_twin child (twin.cells c) at in
        ap (start_at j) (path_of i c path ∙ ap (λ rest. new_cell (part_of i) c ∷ rest) (child_renumbered (cells_of i) c child path at))
        ∙ start_inside j (new_cell (part_of i) c) (renumbered new_cell child path)
        ∙ child_start (cells_of j) (new_cell (part_of i) c) r.1 (renumbered new_cell child path) r.3
        ∙ r.4.starts path has
        ∙ sym (child_start (cells_of i) c child path at)
        ∙ sym (start_inside i c path)
