-- The state that is read off rows.
use Rattle.std.proofs.Common.{◌≡◌, ℕ, zero, suc, ◌+◌, ◌-◌, ◌<◌, ◌≤◌, ⊎_elim, List, [], ◌∷◌, ◌++◌, length, get_or, Option, Some, None, refl, sym, ap, ◌∙◌, subst, arith}
use Rattle.std.specs.Prelude.{unwrap_or}
use Rattle.std.specs.List.{slice_get}
use Rattle.std.proofs.lemmas.Bool.{cases_lt}
use Rattle.std.proofs.lemmas.Option.{slice_get-map}
use Rattle.cx_prim.specs.CellStates.{CellState, Stateless}
use Rattle.cx_prim.specs.Rows.{Row}
use Rattle.cx_prim.specs.Table.{row_of}
use Rattle.cx_meaning.specs.Designs.{PlainKind, OfPrimitive, OfComponent, PlainCell, PlainDesign, component_at}
use Rattle.cx_meaning.specs.Instances.{Instance, Node, Cells, no_cells, a_primitive, an_instance, OfRow, add_cell, cells_for, cell_at, cells_of, part_of, Path, behind, paths_of, paths_below, instance_at, child_at, tree_of}
use Rattle.cx_rules.specs.Sizes.{instances_below}
use Rattle.cx_state.specs.declared.tables.InstanceRow.{InstanceRow}
use Rattle.cx_state.specs.Tables.{row_at, IsTable}
use Rattle.cx_state.specs.States.{PlainInstance, instance_state, cell_held, StandsFor, HoldsKind, HoldCells, IsStateOf}
use Rattle.cx_state.specs.ReadStates.{state_from, held_from, state_in}
use Rattle.cx_state.proofs.StandLemmas.{size, past, shift, none_more, one_less}
use Rattle.cx_meaning.proofs.InstancesLemmas.{some_cells, kind_skip}
use Rattle.cx_meaning.proofs.DesignsLemmas.{same_part}
use Rattle.cx_text.proofs.OptionLaws.{none_is_some, map_some}
use Rattle.cx_text.proofs.ListLaws.{there_below, append-front}

pub inside_back : (child : Instance) (rest : Cells) (k j : ℕ) (q : Path) → j < instances_below child → slice_get (paths_below (an_instance child rest) k) j ≡ Some q → (x : Path) × (slice_get (paths_of child) j ≡ Some x) × (k ∷ x ≡ q)
inside_back child rest k j q lt e =
    let sized = size child rest k in
    let within : j < length (behind k (paths_of child)) = omega (arith, sized) in
    map_some (λ x. k ∷ x) (slice_get (paths_of child) j) q
    (sym (slice_get-map (λ x. k ∷ x) (paths_of child) j) ∙ sym (append-front (behind k (paths_of child)) (paths_below rest (suc k)) j within) ∙ e)

own_held : (cells : Cells) (own : ℕ → Option CellState) (rows : List PlainInstance) (n c : ℕ) (row : Row) (held : CellState) → cell_at cells c ≡ OfRow row → own c ≡ Some held → held_from cells own rows n c [] ≡ held
own_held no_cells own rows n c row held at is = cc
own_held (a_primitive one rest) own rows n zero row held at is = ap (λ (o : Option CellState). unwrap_or o Stateless) is
own_held (a_primitive one rest) own rows n (suc c) row held at is = own_held rest (λ k. own (suc k)) rows n c row held at is
own_held (an_instance child rest) own rows n zero row held at is = cc
own_held (an_instance child rest) own rows n (suc c) row held at is = own_held rest (λ k. own (suc k)) rows (n + instances_below child) c row held at is

-- the way to an instance among cells, and what is read there
pub record Entered (cells : Cells) (k : ℕ) (own : ℕ → Option CellState) (rows : List PlainInstance) (n j : ℕ) (p : Path) : Type 0 where
  pub entered : ℕ
  pub rest : Path
  pub is : p ≡ (k + entered) ∷ rest
  pub value : (c : ℕ) (held : CellState) (row : Row) → cell_held rows (n + j) c ≡ Some held → cell_at (cells_of (child_at cells entered rest)) c ≡ OfRow row → held_from cells own rows n entered (rest ++ c ∷ []) ≡ held

after_primitive : (one : Row) (cells : Cells) (k : ℕ) (own : ℕ → Option CellState) (rows : List PlainInstance) (n j : ℕ) (p : Path) → Entered cells (suc k) (λ e. own (suc e)) rows n j p → Entered (a_primitive one cells) k own rows n j p
after_primitive one cells k own rows n j p b = record {
  entered = suc b.entered;
  rest = b.rest;
  is = b.is ∙ ap (λ m. m ∷ b.rest) (shift k b.entered);
  value = b.value;
}

after_instance : (one : Instance) (cells : Cells) (k : ℕ) (own : ℕ → Option CellState) (rows : List PlainInstance) (n j : ℕ) (p : Path) → instances_below one ≤ j
    → Entered cells (suc k) (λ e. own (suc e)) rows (n + instances_below one) (j - instances_below one) p → Entered (an_instance one cells) k own rows n j p
after_instance one cells k own rows n j p le b = record {
  entered = suc b.entered;
  rest = b.rest;
  is = b.is ∙ ap (λ m. m ∷ b.rest) (shift k b.entered);
  value = λ c held row is at. let number : n + instances_below one + (j - instances_below one) ≡ n + j = omega arith in b.value c held row (ap (λ m. cell_held rows m c) number ∙ is) at;
}

mutual
  reads : (i : Instance) (rows : List PlainInstance) (n j c : ℕ) (p : Path) (held : CellState) (row : Row) → slice_get (paths_of i) j ≡ Some p → cell_held rows (n + j) c ≡ Some held
      → cell_at (cells_of (instance_at i p)) c ≡ OfRow row → state_from i rows n (p ++ c ∷ []) ≡ held
  reads (Node part cells) rows n zero c p held row at is stands =
      let none : p ≡ [] = (let f : Some [] ≡ Some p = at in cc) in
      let same : n ≡ n + 0 = omega arith in
      ap (λ q. state_from (Node part cells) rows n (q ++ c ∷ [])) none
      ∙ own_held cells (cell_held rows n) rows (suc n) c row held (subst (λ q. cell_at (cells_of (instance_at (Node part cells) q)) c ≡ OfRow row) none stands) (ap (λ m. cell_held rows m c) same ∙ is)
  reads (Node part cells) rows n (suc j) c p held row at is stands =
      let b : Entered cells 0 (cell_held rows n) rows (suc n) j p = enter cells 0 (cell_held rows n) rows (suc n) j p at in
      let way : p ≡ b.entered ∷ b.rest = b.is ∙ ap (λ m. m ∷ b.rest) (none_more b.entered) in
      ap (λ q. state_from (Node part cells) rows n (q ++ c ∷ [])) way
      ∙ b.value c held row (ap (λ m. cell_held rows m c) (sym (one_less n j)) ∙ is) (subst (λ q. cell_at (cells_of (instance_at (Node part cells) q)) c ≡ OfRow row) way stands)

  pub enter : (cells : Cells) (k : ℕ) (own : ℕ → Option CellState) (rows : List PlainInstance) (n j : ℕ) (p : Path) → slice_get (paths_below cells k) j ≡ Some p → Entered cells k own rows n j p
  enter no_cells k own rows n j p at = absurd (none_is_some p at)
  enter (a_primitive one rest) k own rows n j p at = after_primitive one rest k own rows n j p (enter rest (suc k) (λ e. own (suc e)) rows n j p at)
  enter (an_instance child rest) k own rows n j p at =
      ⊎_elim
      (λ lt.
      let x = inside_back child rest k j p lt at in
      record {
        entered = 0;
        rest = x.0;
        is = sym x.2 ∙ (let same : k ≡ k + 0 = omega arith in ap (λ m. m ∷ x.0) same);
        value = λ c held row is stands. reads child rows n j c x.0 held row x.1 is stands;
      })
      (λ le.
      let split : instances_below child + (j - instances_below child) ≡ j = omega arith in
      after_instance child rest k own rows n j p le
      (enter rest (suc k) (λ e. own (suc e)) rows (n + instances_below child) (j - instances_below child) p
      (sym (past child rest k (j - instances_below child)) ∙ ap (slice_get (paths_below (an_instance child rest) k)) split ∙ at)))
      (cases_lt j (instances_below child))

-- what holds something is a primitive cell
kind_has : (trees : ℕ → Instance) (kind : PlainKind) (rest : Cells) (h : Option CellState) (held : CellState) → HoldsKind kind h → h ≡ Some held → (row : Row) × (cell_at (add_cell trees kind rest) zero ≡ OfRow row)
kind_has trees (OfPrimitive p) rest h held k e = (row_of p, refl)
kind_has trees (OfComponent j) rest None held k e = absurd (none_is_some held e)
kind_has trees (OfComponent j) rest (Some x) held k e = absurd k

cells_have : (trees : ℕ → Instance) (cells : List PlainCell) (hs : List (Option CellState)) (c : ℕ) (held : CellState) → HoldCells cells hs → get_or hs c None ≡ Some held → (row : Row) × (cell_at (cells_for trees cells) c ≡ OfRow row)
cells_have trees [] [] c held k e = absurd (none_is_some held e)
cells_have trees [] (h ∷ hs) c held k e = absurd k
cells_have trees (x ∷ xs) [] c held k e = absurd k
cells_have trees (x ∷ xs) (h ∷ hs) zero held k e = kind_has trees x.kind (cells_for trees xs) h held k.0 e
cells_have trees (x ∷ xs) (h ∷ hs) (suc c) held k e = let r = cells_have trees xs hs c held k.1 e in (r.0, kind_skip trees x.kind (cells_for trees xs) c ∙ r.1)

pub rows_read : (d : PlainDesign) (table : List InstanceRow) (children : List ℕ) (rows : List PlainInstance) → IsTable d table children → IsStateOf d rows → StandsFor (tree_of d) rows (state_in (tree_of d) rows)
rows_read d table children rows numbers state j c p held at is =
    reads (tree_of d) rows 0 j c p held has.0 at (let same : 0 + j ≡ j = omega arith in ap (λ m. cell_held rows m c) same ∙ is) has.1
  where
    inside : j < length table
    inside = let lt = there_below (paths_of (tree_of d)) j p at in let count = numbers.count in omega (arith, lt, count)

    some : 0 < length d.components
    some = let there = numbers.there j inside in omega (arith, there)

    part : part_of (instance_at (tree_of d) p) ≡ component_at d (row_at table j).component
    part = ap part_of (numbers.component j p at) ∙ same_part d (length d.components) (row_at table j).component

    has : (row : Row) × (cell_at (cells_of (instance_at (tree_of d) p)) c ≡ OfRow row)
    has =
        let k = some_cells d (length d.components) (row_at table j).component some in
        let cells : cells_of (instance_at (tree_of d) p) ≡ cells_for k.0 (part_of (instance_at (tree_of d) p)).cells =
        ap cells_of (numbers.component j p at) ∙ k.1 ∙ ap (λ x. cells_for k.0 x.cells) (sym part) in
        let r = cells_have k.0 (part_of (instance_at (tree_of d) p)).cells (instance_state rows j).cells c held (state.fits j p at).cells is in
        (r.0, ap (λ cs. cell_at cs c) cells ∙ r.1)
