-- The table while it is filled, instance by instance.
use Rattle.std.proofs.Common.{◌≡◌, ℕ, zero, suc, ◌+◌, ◌<◌, ◌≤◌, ◌≢◌, inl, inr, ◌⊎◌, ⊎_elim, List, [], ◌∷◌, ◌++◌, length, get_or, set, replicate, take, Some, refl, sym, ap, ◌∙◌, subst, arith}
use Rattle.std.specs.List.{slice_get}
use Rattle.std.proofs.lemmas.Bool.{cases_lt}
use Rattle.std.proofs.lemmas.List.{get_or-set_same, get_or-set_other, length-set, length-replicate, get_or-replicate, length-append, get_or_append_left, get_or-append-add}
use Rattle.std.proofs.lemmas.Option.{slice_get-get_or}
use Rattle.cx_text.proofs.MemberLaws.{in_at}
use Rattle.cx_meaning.specs.Designs.{PlainKind, OfPrimitive, OfComponent, PlainCell, PlainDesign, component_at}
use Rattle.cx_meaning.specs.Instances.{Instance, Node, Cells, no_cells, OfInstance, a_primitive, an_instance, add_cell, cells_for, cell_at, cells_of, part_of, instance_at, child_at, Path, paths_of, tree_of}
use Rattle.cx_text.specs.Members.{In}
use Rattle.cx_text.specs.declared.rules.Rule.TheVariants.{Limit}
use Rattle.cx_rules.specs.Accepted.{KeepsStage}
use Rattle.cx_rules.specs.LimitRule.{OnInstances, order_of, word_of}
use Rattle.cx_rules.specs.Spots.{Whole}
use Rattle.cx_rules.specs.Ports.{component_of}
use Rattle.cx_rules.specs.Sizes.{instances_below, instances_in}
use Rattle.cx_rules.specs.Flat.{IsFlat}
use Rattle.cx_rules.proofs.CountsLemmas.{counted_instances-flat}
use Rattle.cx_design_sizes.specs.Capped.{capped}
use Rattle.cx_design_sizes.specs.declared.tallies.LimitTally.{LimitTally}
use Rattle.cx_design_sizes.specs.Orders.{IsChildrenFirst}
use Rattle.cx_design_sizes.specs.Tallies.{AreTallied}
use Rattle.cx_design_sizes.proofs.TallyLemmas.{tally_main}
use Rattle.cx_state.proofs.TreeLemmas.{count_paths, child_in, tree_is}
use Rattle.cx_state.specs.declared.tables.InstanceRow.{InstanceRow}
use Rattle.cx_state.specs.Tables.{IsNumber, no_row, row_at, IsAbove, IsTable}
use Rattle.cx_state.specs.Filling.{total, total_before, HaveSome, numbered, placed}
use Rattle.cx_state.proofs.PreOrder.{before, HasParent, stands}
use Rattle.cx_state.proofs.FillLemmas.{AreCounted, counted, have_some, total_is, before_is, length_numbered, number_at, new_row, placed_length, placed_low, placed_there, IsNew, placed_or}
use Rattle.cx_meaning.proofs.InstancesLemmas.{kind_skip, here as instance_self}
use Rattle.cx_state.proofs.TablesLemmas.{one_path}
use Rattle.cx_text.proofs.OptionLaws.{none_is_some}
use Rattle.cx_text.proofs.ListLaws.{there_below}

-- main, or an instance whose instance above comes before number n
abbrev Reached : PlainDesign → ℕ → ℕ → Path → Type 0
Reached d n m path = (m ≡ 0) ⊎ ((p : HasParent (tree_of d) m path) × (p.number < n))

pub record RowIs (d : PlainDesign) (order : List ℕ) (m : ℕ) (path : Path) (found : InstanceRow) : Type 0 where
  pub is : instance_at (tree_of d) path ≡ component_of d found.component
  pub listed : In order found.component
  pub above : (m ≡ 0) ⊎ IsAbove d found path

pub record CellsAre (d : PlainDesign) (path : Path) (first : ℕ) (children : List ℕ) : Type 0 where
  pub within : first + length (part_of (instance_at (tree_of d) path)).cells ≤ length children
  pub child : (c : ℕ) (child : Instance) → cell_at (cells_of (instance_at (tree_of d) path)) c ≡ OfInstance child → (first + c < length children) × IsNumber d (get_or children (first + c) 0) (path ++ c ∷ [])

-- after n turns: each instance that is reached has its row, and the first n have the numbers for their cells
pub record IsFilled (d : PlainDesign) (order : List ℕ) (n : ℕ) (rows : List InstanceRow) (children : List ℕ) : Type 0 where
  pub count : length rows ≡ instances_below (tree_of d)
  pub known : (m : ℕ) (path : Path) → IsNumber d m path → Reached d n m path → RowIs d order m path (row_at rows m)
  pub done : (m : ℕ) (path : Path) → IsNumber d m path → m < n → CellsAre d path (row_at rows m).first children

main_path : (d : PlainDesign) (path : Path) → IsNumber d 0 path → path ≡ []
main_path d path e = first (tree_of d) path e
  where
    first : (i : Instance) (q : Path) → slice_get (paths_of i) 0 ≡ Some q → q ≡ []
    first (Node part cells) q e = let f : Some [] ≡ Some q = e in cc

pub begin : (d : PlainDesign) (order : List ℕ) (rows : List InstanceRow) (r : InstanceRow) → IsChildrenFirst d order → rows ≡ replicate (instances_below (tree_of d)) r → r.component ≡ d.main → IsFilled d order 0 rows []
begin d order rows r first made main = record {
  count = ap length made ∙ length-replicate (instances_below (tree_of d)) r;
  known = λ m path at reached. ⊎_elim (λ z. start m path at z) (λ p. absurd (let lt : p.0.number < 0 = p.1 in omega arith)) reached;
  done = λ m path at lt. absurd (omega arith);
}
  where
    start : (m : ℕ) (path : Path) → IsNumber d m path → m ≡ 0 → RowIs d order m path (row_at rows m)
    start m path at z =
        let here : IsNumber d 0 path = ap (slice_get (paths_of (tree_of d))) (sym z) ∙ at in
        let some : 0 < length (paths_of (tree_of d)) = there_below (paths_of (tree_of d)) 0 path here in
        let sized : length (paths_of (tree_of d)) ≡ instances_below (tree_of d) = count_paths (tree_of d) in
        let own : row_at rows m ≡ r = ap (row_at rows) z ∙ ap (λ xs. row_at xs 0) made ∙ get_or-replicate (instances_below (tree_of d)) 0 r no_row (omega arith) in
        let component : (row_at rows m).component ≡ d.main = ap (λ x. x.component) own ∙ main in
        record {
          is = ap (instance_at (tree_of d)) (main_path d path here) ∙ instance_self (tree_of d) ∙ ap (component_of d) (sym component);
          listed = subst (In order) (sym component) first.main;
          above = inl z;
        }

-- WHAT A TURN KNOWS of its instance
pub record Here (d : PlainDesign) (order : List ℕ) (tallies : List LimitTally) (n k : ℕ) : Type 0 where
  pub path : Path
  pub at : IsNumber d n path
  pub is : instance_at (tree_of d) path ≡ Node (component_at d k) (cells_for (component_of d) (component_at d k).cells)
  pub listed : In order k
  pub there : k < length d.components
  pub counts : AreCounted (component_of d) tallies (component_at d k).cells
  pub some : HaveSome tallies (component_at d k).cells
  pub room : n + 1 + total tallies (component_at d k).cells ≤ instances_below (tree_of d)

pub reached_now : (d : PlainDesign) (n : ℕ) (path : Path) → IsNumber d n path → Reached d n n path
reached_now d n path at =
    ⊎_elim (λ z. inl z)
    (λ (p : HasParent (tree_of d) n path).
    inr (p, (let f : n ≡ suc (p.number + before (cells_of (instance_at (tree_of d) p.path)) p.cell) = p.follows in omega arith)))
    (stands (tree_of d) n path at).parent

pub here : (d : PlainDesign) (order : List ℕ) (tallies : List LimitTally) (n : ℕ) (rows : List InstanceRow) (children : List ℕ) → IsChildrenFirst d order → AreTallied d (length order) tallies order
    → instances_below (tree_of d) ≤ 4096 → IsFilled d order n rows children → n < length rows → Here d order tallies n (row_at rows n).component
here d order tallies n rows children first tallied few filled lt = record {
  path = path;
  at = at;
  is = is;
  listed = own.listed;
  there = first.there k own.listed;
  counts = counts;
  some = have_some (component_of d) tallies (component_at d k).cells counts;
  room = (let sum = total_is (component_of d) tallies (component_at d k).cells counts in
      let r : n + instances_below (instance_at (tree_of d) path) ≤ instances_below (tree_of d) = (stands (tree_of d) n path at).room in
      let below : instances_below (instance_at (tree_of d) path) ≡ 1 + instances_in (cells_for (component_of d) (component_at d k).cells) = ap instances_below is in
      omega (arith, sum, below, r));
}
  where
    path : Path
    path = get_or (paths_of (tree_of d)) n []

    k : ℕ
    k = (row_at rows n).component

    at : IsNumber d n (get_or (paths_of (tree_of d)) n [])
    at = slice_get-get_or (paths_of (tree_of d)) n [] (let sized = count_paths (tree_of d) in let c = filled.count in omega (arith, sized, c))

    own : RowIs d order n (get_or (paths_of (tree_of d)) n []) (row_at rows n)
    own = filled.known n (get_or (paths_of (tree_of d)) n []) at (reached_now d n (get_or (paths_of (tree_of d)) n []) at)

    is : instance_at (tree_of d) (get_or (paths_of (tree_of d)) n []) ≡ Node (component_at d (row_at rows n).component) (cells_for (component_of d) (component_at d (row_at rows n).component).cells)
    is = own.is ∙ tree_is d order (row_at rows n).component first own.listed

    counts : AreCounted (component_of d) tallies (component_at d (row_at rows n).component).cells
    counts =
        let r : n + instances_below (instance_at (tree_of d) (get_or (paths_of (tree_of d)) n [])) ≤ instances_below (tree_of d) = (stands (tree_of d) n (get_or (paths_of (tree_of d)) n []) at).room in
        let below : instances_below (instance_at (tree_of d) (get_or (paths_of (tree_of d)) n [])) ≡ 1 + instances_in (cells_for (component_of d) (component_at d (row_at rows n).component).cells) = ap instances_below is in
        counted (component_of d) tallies (component_at d (row_at rows n).component).cells (omega (arith, r, below))
        (λ cell j i e. tallied j (length d.components) (child_in d order first (row_at rows n).component j cell own.listed i e) first.few)

-- WHAT STANDS AT CELLS
kind_stands : (trees : ℕ → Instance) (kind : PlainKind) (rest : Cells) (child : Instance) → cell_at (add_cell trees kind rest) zero ≡ OfInstance child → (j : ℕ) × (kind ≡ OfComponent j) × (trees j ≡ child)
kind_stands trees (OfPrimitive p) rest child e = cc
kind_stands trees (OfComponent j) rest child e = (j, refl, (let f : OfInstance (trees j) ≡ OfInstance child = e in cc))

pub record IsPart (trees : ℕ → Instance) (cells : List PlainCell) (c : ℕ) (child : Instance) : Type 0 where
  pub cell : PlainCell
  pub component : ℕ
  pub stands : slice_get cells c ≡ Some cell
  pub kind : cell.kind ≡ OfComponent component
  pub is : trees component ≡ child

pub part_at : (trees : ℕ → Instance) (cells : List PlainCell) (c : ℕ) (child : Instance) → cell_at (cells_for trees cells) c ≡ OfInstance child → IsPart trees cells c child
part_at trees [] c child e = cc
part_at trees (x ∷ xs) zero child e =
    let k = kind_stands trees x.kind (cells_for trees xs) child e in
    record { cell = x; component = k.0; stands = refl; kind = k.1; is = k.2 }
part_at trees (x ∷ xs) (suc c) child e =
    let p : IsPart trees xs c child = part_at trees xs c child (sym (kind_skip trees x.kind (cells_for trees xs) c) ∙ e) in
    record { cell = p.cell; component = p.component; stands = p.stands; kind = p.kind; is = p.is }

kind_part : (trees : ℕ → Instance) (kind : PlainKind) (rest : Cells) (j : ℕ) → kind ≡ OfComponent j → cell_at (add_cell trees kind rest) zero ≡ OfInstance (trees j)
kind_part trees kind rest j e = ap (λ k. cell_at (add_cell trees k rest) zero) e

pub part_stands : (trees : ℕ → Instance) (cells : List PlainCell) (c j : ℕ) (cell : PlainCell) → slice_get cells c ≡ Some cell → cell.kind ≡ OfComponent j → cell_at (cells_for trees cells) c ≡ OfInstance (trees j)
part_stands trees [] c j cell at is = absurd (none_is_some cell at)
part_stands trees (x ∷ xs) zero j cell at is =
    let same : x ≡ cell = (let e : Some x ≡ Some cell = at in cc) in
    kind_part trees x.kind (cells_for trees xs) j (ap (λ y. y.kind) same ∙ is)
part_stands trees (x ∷ xs) (suc c) j cell at is = kind_skip trees x.kind (cells_for trees xs) c ∙ part_stands trees xs c j cell at is

-- the instance one cell further
mutual
  pub further : (i : Instance) (path : Path) (c : ℕ) (child : Instance) → cell_at (cells_of (instance_at i path)) c ≡ OfInstance child → instance_at i (path ++ c ∷ []) ≡ child
  further (Node part cells) [] c child e = further_own cells c child e
  further (Node part cells) (x ∷ path) c child e = further_below cells x path c child e

  further_below : (cells : Cells) (x : ℕ) (path : Path) (c : ℕ) (child : Instance) → cell_at (cells_of (child_at cells x path)) c ≡ OfInstance child → child_at cells x (path ++ c ∷ []) ≡ child
  further_below no_cells x path c child e = cc
  further_below (a_primitive row rest) zero path c child e = cc
  further_below (a_primitive row rest) (suc x) path c child e = further_below rest x path c child e
  further_below (an_instance one rest) zero path c child e = further one path c child e
  further_below (an_instance one rest) (suc x) path c child e = further_below rest x path c child e

  further_own : (cells : Cells) (c : ℕ) (child : Instance) → cell_at cells c ≡ OfInstance child → child_at cells c [] ≡ child
  further_own no_cells c child e = cc
  further_own (a_primitive row rest) zero child e = cc
  further_own (a_primitive row rest) (suc c) child e = further_own rest c child e
  further_own (an_instance one rest) zero child e = instance_self one ∙ (let f : OfInstance one ≡ OfInstance child = e in cc)
  further_own (an_instance one rest) (suc c) child e = further_own rest c child e

-- A TURN
pub record IsTurn (d : PlainDesign) (order : List ℕ) (tallies : List LimitTally) (n : ℕ) (rows rows1 rows2 : List InstanceRow) (children children2 : List ℕ) : Type 0 where
  pub kept : (m : ℕ) → ((row_at rows1 m).component ≡ (row_at rows m).component) × ((row_at rows1 m).parent ≡ (row_at rows m).parent) × ((row_at rows1 m).cell ≡ (row_at rows m).cell)
  pub firsts : (m : ℕ) → m < n → (row_at rows1 m).first ≡ (row_at rows m).first
  pub own : (row_at rows1 n).first ≡ length children
  pub long : length rows1 ≡ length rows
  pub placed_is : rows2 ≡ placed tallies (component_at d (row_at rows n).component).cells n 0 (n + 1) rows1
  pub numbers : children2 ≡ children ++ numbered tallies (component_at d (row_at rows n).component).cells (n + 1)

-- where a child stands: its number
child_number : (d : PlainDesign) (order : List ℕ) (tallies : List LimitTally) (n k c : ℕ) (child : Instance) (h : Here d order tallies n k) → cell_at (cells_of (instance_at (tree_of d) h.path)) c ≡ OfInstance child
    → IsNumber d (n + 1 + total_before tallies (component_at d k).cells c) (h.path ++ c ∷ [])
child_number d order tallies n k c child h e =
    let cells : cells_of (instance_at (tree_of d) h.path) ≡ cells_for (component_of d) (component_at d k).cells = ap cells_of h.is in
    let same : before (cells_of (instance_at (tree_of d) h.path)) c ≡ total_before tallies (component_at d k).cells c =
    ap (λ cs. before cs c) cells ∙ before_is (component_of d) tallies (component_at d k).cells c h.counts in
    let number : n + 1 + total_before tallies (component_at d k).cells c ≡ suc (n + before (cells_of (instance_at (tree_of d) h.path)) c) = omega (arith, same) in
    ap (slice_get (paths_of (tree_of d))) number ∙ (stands (tree_of d) n h.path h.at).child c child e

-- a row that is as before
row_kept : (d : PlainDesign) (order : List ℕ) (m : ℕ) (path : Path) (a b : InstanceRow) → a.component ≡ b.component → a.parent ≡ b.parent → a.cell ≡ b.cell → RowIs d order m path b → RowIs d order m path a
row_kept d order m path a b component parent cell r = record {
  is = r.is ∙ ap (component_of d) (sym component);
  listed = subst (In order) (sym component) r.listed;
  above = ⊎_elim (λ z. inl z)
      (λ (u : IsAbove d b path). inr (u.0, ap (λ n. slice_get (paths_of (tree_of d)) n) parent ∙ u.1, u.2 ∙ ap (λ c. u.0 ++ c ∷ []) (sym cell))) r.above;
}

module _ (d : PlainDesign) (order : List ℕ) (tallies : List LimitTally) (n : ℕ) (rows rows1 rows2 : List InstanceRow) (children children2 : List ℕ)
    (first : IsChildrenFirst d order) (filled : IsFilled d order n rows children) (h : Here d order tallies n (row_at rows n).component)
    (t : IsTurn d order tallies n rows rows1 rows2 children children2) where
  -- the row of a child
  new_is : (c : ℕ) (j m : ℕ) (cell : PlainCell) (path : Path) → slice_get (component_at d (row_at rows n).component).cells c ≡ Some cell → cell.kind ≡ OfComponent j
      → m ≡ n + 1 + total_before tallies (component_at d (row_at rows n).component).cells c → IsNumber d m path → RowIs d order m path (new_row j n (0 + c))
  new_is c j m cell path at is e here =
      let stands_there : cell_at (cells_of (instance_at (tree_of d) h.path)) c ≡ OfInstance (component_of d j) =
      ap (λ i. cell_at (cells_of i) c) h.is ∙ part_stands (component_of d) (component_at d (row_at rows n).component).cells c j cell at is in
      let number : IsNumber d m (h.path ++ c ∷ []) = ap (slice_get (paths_of (tree_of d))) e ∙ child_number d order tallies n (row_at rows n).component c (component_of d j) h stands_there in
      let same : path ≡ h.path ++ c ∷ [] = one_path d m path (h.path ++ c ∷ []) here number in
      let zero_and : 0 + c ≡ c = omega arith in
      record {
        is = ap (instance_at (tree_of d)) same ∙ further (tree_of d) h.path c (component_of d j) stands_there;
        listed = child_in d order first (row_at rows n).component j cell h.listed (in_at (component_at d (row_at rows n).component).cells c cell at) is;
        above = inr (h.path, h.at, same ∙ ap (λ x. h.path ++ x ∷ []) (sym zero_and));
      }

  -- a row in which nothing was placed
  old_is : (m : ℕ) (path : Path) → IsNumber d m path → Reached d n m path → row_at rows2 m ≡ row_at rows1 m → RowIs d order m path (row_at rows2 m)
  old_is m path at reached e =
      let kept = t.kept m in
      row_kept d order m path (row_at rows2 m) (row_at rows m) (ap (λ r. r.component) e ∙ kept.0) (ap (λ r. r.parent) e ∙ kept.1) (ap (λ r. r.cell) e ∙ kept.2) (filled.known m path at reached)

  was_reached : (m : ℕ) (path : Path) → IsNumber d m path → Reached d n m path → RowIs d order m path (row_at rows2 m)
  was_reached m path at reached =
      ⊎_elim
      (λ e. old_is m path at reached (ap (λ rs. row_at rs m) t.placed_is ∙ e))
      (λ (new : IsNew tallies (component_at d (row_at rows n).component).cells n 0 (n + 1) m (row_at (placed tallies (component_at d (row_at rows n).component).cells n 0 (n + 1) rows1) m)).
      subst (RowIs d order m path) (sym (ap (λ rs. row_at rs m) t.placed_is ∙ new.is)) (new_is new.at new.component m new.cell path new.stands new.kind new.number_is at))
      (placed_or tallies (component_at d (row_at rows n).component).cells n 0 (n + 1) m rows1)

  now_reached : (m : ℕ) (path : Path) → IsNumber d m path → (p : HasParent (tree_of d) m path) → p.number ≡ n → RowIs d order m path (row_at rows2 m)
  now_reached m path at p e =
      let above : p.path ≡ h.path = one_path d n p.path h.path (ap (slice_get (paths_of (tree_of d))) (sym e) ∙ p.at) h.at in
      let own_cells : cells_of (instance_at (tree_of d) p.path) ≡ cells_for (component_of d) (component_at d (row_at rows n).component).cells = ap (λ q. cells_of (instance_at (tree_of d) q)) above ∙ ap cells_of h.is in
      let part : IsPart (component_of d) (component_at d (row_at rows n).component).cells p.cell p.child =
      part_at (component_of d) (component_at d (row_at rows n).component).cells p.cell p.child (sym (ap (λ cs. cell_at cs p.cell) own_cells) ∙ p.stands) in
      let same : before (cells_of (instance_at (tree_of d) p.path)) p.cell ≡ total_before tallies (component_at d (row_at rows n).component).cells p.cell =
      ap (λ cs. before cs p.cell) own_cells ∙ before_is (component_of d) tallies (component_at d (row_at rows n).component).cells p.cell h.counts in
      let f : m ≡ suc (p.number + before (cells_of (instance_at (tree_of d) p.path)) p.cell) = p.follows in
      let number : m ≡ n + 1 + total_before tallies (component_at d (row_at rows n).component).cells p.cell = omega (arith, same, f, e) in
      let room : n + 1 + total tallies (component_at d (row_at rows n).component).cells ≤ length rows1 = (let r = h.room in let c = filled.count in let l = t.long in omega (arith, r, c, l)) in
      let there : row_at rows2 m ≡ new_row part.component n (0 + p.cell) =
      ap (λ rs. row_at rs m) t.placed_is ∙ ap (row_at (placed tallies (component_at d (row_at rows n).component).cells n 0 (n + 1) rows1)) number
      ∙ placed_there tallies (component_at d (row_at rows n).component).cells n 0 (n + 1) rows1 p.cell part.component part.cell h.some room part.stands part.kind in
      subst (RowIs d order m path) (sym there) (new_is p.cell part.component m part.cell path part.stands part.kind number at)

  known_next : (m : ℕ) (path : Path) → IsNumber d m path → Reached d (suc n) m path → RowIs d order m path (row_at rows2 m)
  known_next m path at reached =
      ⊎_elim (λ z. was_reached m path at (inl z))
      (λ p. ⊎_elim (λ (lt : p.0.number < n). was_reached m path at (inr (p.0, lt)))
      (λ (le : n ≤ p.0.number). now_reached m path at p.0 (let lt : p.0.number < suc n = p.1 in omega arith))
      (cases_lt p.0.number n)) reached

  low : (m : ℕ) → m < n + 1 → row_at rows2 m ≡ row_at rows1 m
  low m lt = ap (λ rs. row_at rs m) t.placed_is ∙ placed_low tallies (component_at d (row_at rows n).component).cells n 0 (n + 1) m rows1 lt

  grown : length children2 ≡ length children + length (component_at d (row_at rows n).component).cells
  grown =
      ap length t.numbers ∙ length-append children (numbered tallies (component_at d (row_at rows n).component).cells (n + 1))
      ∙ ap (λ x. length children + x) (length_numbered tallies (component_at d (row_at rows n).component).cells (n + 1))

  -- an instance of an earlier turn
  done_before : (m : ℕ) (path : Path) → m < n → CellsAre d path (row_at rows m).first children → CellsAre d path (row_at rows2 m).first children2
  done_before m path lt are =
      let same : (row_at rows2 m).first ≡ (row_at rows m).first = ap (λ r. r.first) (low m (omega arith)) ∙ t.firsts m lt in
      subst (λ f. CellsAre d path f children2) (sym same) (record {
        within = (let w : (row_at rows m).first + length (part_of (instance_at (tree_of d) path)).cells ≤ length children = are.within in let g = grown in omega (arith, g));
        child = λ c child e.
            let inside : (row_at rows m).first + c < length children = (are.child c child e).0 in
            let g = grown in (
              omega (arith, g),
              ap (λ xs. slice_get (paths_of (tree_of d)) (get_or xs ((row_at rows m).first + c) 0)) t.numbers
                  ∙ ap (slice_get (paths_of (tree_of d))) (get_or_append_left children (numbered tallies (component_at d (row_at rows n).component).cells (n + 1)) 0 ((row_at rows m).first + c) inside)
                  ∙ (are.child c child e).1,
            );
      })

  done_now : CellsAre d h.path (row_at rows2 n).first children2
  done_now =
      let same : (row_at rows2 n).first ≡ length children = ap (λ r. r.first) (low n (omega arith)) ∙ t.own in
      subst (λ f. CellsAre d h.path f children2) (sym same) (record {
        within = (let g = grown in let e : length (part_of (instance_at (tree_of d) h.path)).cells ≡ length (component_at d (row_at rows n).component).cells = ap (λ i. length (part_of i).cells) h.is in omega (arith, g, e));
        child = λ c child e.
            let part : IsPart (component_of d) (component_at d (row_at rows n).component).cells c child =
            part_at (component_of d) (component_at d (row_at rows n).component).cells c child (sym (ap (λ i. cell_at (cells_of i) c) h.is) ∙ e) in
            let lt : c < length (component_at d (row_at rows n).component).cells = there_below (component_at d (row_at rows n).component).cells c part.cell part.stands in
            let g = grown in (
              omega (arith, g),
              ap (λ xs. slice_get (paths_of (tree_of d)) (get_or xs (length children + c) 0)) t.numbers
                  ∙ ap (slice_get (paths_of (tree_of d))) (get_or-append-add children (numbered tallies (component_at d (row_at rows n).component).cells (n + 1)) c 0
                  ∙ number_at tallies (component_at d (row_at rows n).component).cells (n + 1) c lt)
                  ∙ child_number d order tallies n (row_at rows n).component c child h e,
            );
      })

  pub turn : IsFilled d order (suc n) rows2 children2
  turn = record {
    count = ap length t.placed_is ∙ placed_length tallies (component_at d (row_at rows n).component).cells n 0 (n + 1) rows1 ∙ t.long ∙ filled.count;
    known = known_next;
    done = λ m path at lt.
        ⊎_elim (λ (less : m < n). done_before m path less (filled.done m path at less))
        (λ (le : n ≤ m).
        let e : m ≡ n = omega arith in
        let same : path ≡ h.path = one_path d n path h.path (ap (slice_get (paths_of (tree_of d))) (sym e) ∙ at) h.at in
        subst (λ x. CellsAre d path (row_at rows2 x).first children2) (sym e) (subst (λ q. CellsAre d q (row_at rows2 n).first children2) (sym same) done_now))
        (cases_lt m n);
  }

-- THE END: all instances are reached
pub finish : (d : PlainDesign) (order : List ℕ) (n : ℕ) (rows : List InstanceRow) (children : List ℕ) → IsChildrenFirst d order → IsFilled d order n rows children → instances_below (tree_of d) ≤ n → IsTable d rows children
finish d order n rows children first filled all = record {
  count = filled.count ∙ sym (count_paths (tree_of d));
  there = λ m lt. first.there (row_at rows m).component (own m lt).listed;
  component = λ m path at. (known m path at).is;
  above = λ m path at. ⊎_elim (λ (z : suc m ≡ 0). absurd (omega arith)) (λ u. u) (known (suc m) path at).above;
  cells = λ m path at. (filled.done m path at (below m path at)).within;
  child = λ m c path child at e. ((filled.done m path at (below m path at)).child c child e).1;
}
  where
    below : (m : ℕ) (path : Path) → IsNumber d m path → m < n
    below m path at =
        let lt : m < length (paths_of (tree_of d)) = there_below (paths_of (tree_of d)) m path at in
        let sized = count_paths (tree_of d) in
        omega (arith, sized)

    known : (m : ℕ) (path : Path) → IsNumber d m path → RowIs d order m path (row_at rows m)
    known m path at =
        filled.known m path at
        (⊎_elim (λ z. inl z)
        (λ (p : HasParent (tree_of d) m path). inr (p, (let f : m ≡ suc (p.number + before (cells_of (instance_at (tree_of d) p.path)) p.cell) = p.follows in let b = below m path at in omega arith)))
        (stands (tree_of d) m path at).parent)

    own : (m : ℕ) → m < length rows → RowIs d order m (get_or (paths_of (tree_of d)) m []) (row_at rows m)
    own m lt =
        known m (get_or (paths_of (tree_of d)) m [])
        (slice_get-get_or (paths_of (tree_of d)) m [] (let sized = count_paths (tree_of d) in let c = filled.count in omega (arith, sized, c)))

-- in the words of the loop
pub row_is : (rows : List InstanceRow) (n : ℕ) (r : InstanceRow) → n < length rows → r ≡ get_or rows n r → r ≡ row_at rows n
row_is rows n r lt e = e ∙ (let f : Some (get_or rows n r) ≡ Some (get_or rows n no_row) = sym (slice_get-get_or rows n r lt) ∙ slice_get-get_or rows n no_row lt in cc)

kept_by : (rows : List InstanceRow) (n m first : ℕ) (r : InstanceRow) → n < length rows → r ≡ row_at rows n
    → let after = set rows n (record { component = r.component; parent = r.parent; cell = r.cell; first = first }) in
    ((row_at after m).component ≡ (row_at rows m).component) × ((row_at after m).parent ≡ (row_at rows m).parent) × ((row_at after m).cell ≡ (row_at rows m).cell)
kept_by rows n m first r lt e = ⊎_elim (λ (l : m < n). other (λ s. (let f : m ≡ n = s in omega arith))) (λ (le : n ≤ m). ⊎_elim (λ (l : n < m). other (λ s. (let f : m ≡ n = s in omega arith))) (λ (ge : m ≤ n). same (omega arith)) (cases_lt n m)) (cases_lt m n)
  where
    other : m ≢ n → ((row_at (set rows n (record { component = r.component; parent = r.parent; cell = r.cell; first = first })) m).component ≡ (row_at rows m).component)
        × ((row_at (set rows n (record { component = r.component; parent = r.parent; cell = r.cell; first = first })) m).parent ≡ (row_at rows m).parent)
        × ((row_at (set rows n (record { component = r.component; parent = r.parent; cell = r.cell; first = first })) m).cell ≡ (row_at rows m).cell)
    other ne =
        let z : row_at (set rows n (record { component = r.component; parent = r.parent; cell = r.cell; first = first })) m ≡ row_at rows m = get_or-set_other rows n m (record { component = r.component; parent = r.parent; cell = r.cell; first = first }) no_row ne in
        (ap (λ y. y.component) z, ap (λ y. y.parent) z, ap (λ y. y.cell) z)

    same : m ≡ n → ((row_at (set rows n (record { component = r.component; parent = r.parent; cell = r.cell; first = first })) m).component ≡ (row_at rows m).component)
        × ((row_at (set rows n (record { component = r.component; parent = r.parent; cell = r.cell; first = first })) m).parent ≡ (row_at rows m).parent)
        × ((row_at (set rows n (record { component = r.component; parent = r.parent; cell = r.cell; first = first })) m).cell ≡ (row_at rows m).cell)
    same s =
        let z : row_at (set rows n (record { component = r.component; parent = r.parent; cell = r.cell; first = first })) m ≡ record { component = r.component; parent = r.parent; cell = r.cell; first = first } =
        ap (row_at (set rows n (record { component = r.component; parent = r.parent; cell = r.cell; first = first }))) s ∙ get_or-set_same rows n (record { component = r.component; parent = r.parent; cell = r.cell; first = first }) no_row lt in
        let o : r ≡ row_at rows m = e ∙ ap (row_at rows) (sym s) in
        (ap (λ y. y.component) z ∙ ap (λ y. y.component) o, ap (λ y. y.parent) z ∙ ap (λ y. y.parent) o, ap (λ y. y.cell) z ∙ ap (λ y. y.cell) o)

pub turned : (d : PlainDesign) (order : List ℕ) (tallies : List LimitTally) (n : ℕ) (rows rows2 : List InstanceRow) (r : InstanceRow) (children children2 : List ℕ) (cells : List PlainCell)
    → IsChildrenFirst d order → AreTallied d (length order) tallies order → instances_below (tree_of d) ≤ 4096 → IsFilled d order n rows children → n < length rows
    → r ≡ row_at rows n → cells ≡ (component_at d r.component).cells
    → rows2 ≡ placed tallies cells n 0 (n + 1) (set rows n (record { component = r.component; parent = r.parent; cell = r.cell; first = length children }))
    → children2 ≡ children ++ numbered tallies cells (n + 1)
    → IsFilled d order (n + 1) rows2 children2
turned d order tallies n rows rows2 r children children2 cells first tallied few filled lt e own placed_is numbers =
    let x : InstanceRow = record { component = r.component; parent = r.parent; cell = r.cell; first = length children } in
    let cells_are : cells ≡ (component_at d (row_at rows n).component).cells = own ∙ ap (λ y. (component_at d y.component).cells) e in
    let next : suc n ≡ n + 1 = omega arith in
    subst (λ m. IsFilled d order m rows2 children2) next
    (turn d order tallies n rows (set rows n x) rows2 children children2 first filled (here d order tallies n rows children first tallied few filled lt)
    (record {
      kept = λ m. kept_by rows n m (length children) r lt e;
      firsts = λ m less. ap (λ y. y.first) (get_or-set_other rows n m x no_row (λ s. (let f : m ≡ n = s in omega arith)));
      own = ap (λ y. y.first) (get_or-set_same rows n x no_row lt);
      long = length-set rows n x;
      placed_is = placed_is ∙ ap (λ cs. placed tallies cs n 0 (n + 1) (set rows n x)) cells_are;
      numbers = numbers ∙ ap (λ cs. children ++ numbered tallies cs (n + 1)) cells_are;
    }))

-- all of a list that stands in front
pub front_all : {A : Type 0} (xs ys : List A) (n : ℕ) → length xs ≡ n → take n (xs ++ ys) ≡ xs
front_all [] ys zero e = refl
front_all [] ys (suc n) e = absurd (omega arith)
front_all (x ∷ xs) ys zero e = absurd (omega arith)
front_all (x ∷ xs) ys (suc n) e = ap (λ zs. x ∷ zs) (front_all xs ys n (let f : suc (length xs) ≡ suc n = e in omega arith))

pub few_instances : (d : PlainDesign) → IsFlat d → KeepsStage 7 d → instances_below (tree_of d) ≤ 4096
few_instances d flat keeps = ⊎_elim (λ lt. absurd (broken lt)) (λ le. le) (cases_lt 4096 (instances_below (tree_of d)))
  where
    broken : 4096 < instances_below (tree_of d) → ⊥
    broken lt =
        keeps Limit (record { component = d.main; part = Whole (order_of OnInstances) }) (component_at d d.main).place (word_of OnInstances) refl
        (inr (inr (inr (inl (record { at_main = refl; is = refl; exceeds = subst (λ n. 4096 < n) (sym (counted_instances-flat d flat (length d.components) d.main)) lt; tells = (refl, refl) })))))

pub main_count : (d : PlainDesign) (order : List ℕ) (tallies : List LimitTally) (none : LimitTally) → IsChildrenFirst d order → AreTallied d (length order) tallies order → d.main < length tallies → instances_below (tree_of d) ≤ 4096
    → (get_or tallies d.main none).instances ≡ instances_below (tree_of d)
main_count d order tallies none first known lt few =
    let same : capped (instances_below (tree_of d)) ≡ instances_below (tree_of d) = omega arith in
    ap (λ (x : LimitTally). x.instances) (tally_main d order tallies none first known lt) ∙ same
