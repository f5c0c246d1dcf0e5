-- What rows stand for once listed cells of an instance have taken their idle edges.
use Rattle.std.proofs.Common.{◌≡◌, ◌≢◌, ℕ, zero, suc, ◌+◌, ◌<◌, Bool, List, [], ◌∷◌, ◌++◌, length, get_or, set, map, All, Option, Some, None, ⊎_elim, refl, sym, ap, ◌∙◌, subst, arith, if◌then◌else◌}
use Rattle.std.specs.List.{slice_get}
use Rattle.std.proofs.lemmas.List.{get_or-set_same, get_or-set_other, get_or-map, length-set, length-map, map-set}
use Rattle.cx_prim.specs.CellStates.{CellState}
use Rattle.cx_meaning.specs.declared.sights.Seen.TheVariants.{Undefined}
use Rattle.cx_meaning.specs.Designs.{PlainDesign, PlainComponent, component_at, no_component}
use Rattle.cx_meaning.specs.Instances.{Instance, Node, cells_for, tree_within, Path, State, Set, part_of, idle, idle_at, instance_at, paths_of, tree_of}
use Rattle.cx_rules.specs.Ports.{component_of}
use Rattle.cx_state.specs.declared.tables.InstanceRow.{InstanceRow}
use Rattle.cx_state.specs.Tables.{IsNumber, IsTable, row_at}
use Rattle.cx_state.specs.States.{PlainInstance, plain_instance, no_instance, instance_state, inputs_held, HoldCells, FitsPart, IsStateOf, StandsFor, under_path, put_path}
use Rattle.cx_eval.specs.Evaluated.{HeldAlike}
use Rattle.cx_turns.specs.Turns.{rested, Rested}
use Rattle.cx_turns.specs.Rests.{rested_cells, rows_rested}
use Rattle.cx_turns.proofs.RestLemmas.{cell_rested}
use Rattle.cx_turns.specs.Groups.{ListWithin}
use Rattle.cx_design.specs.declared.components.Component.{Component}
use Rattle.cx_design.specs.PlainForms.{plain_cell, plain_component, plain_parts}
use Rattle.cx_design.specs.declared.cells.Cell.{Cell}
use Rattle.cx_state.specs.declared.states.InstanceState.{InstanceState}
use Rattle.cx_meaning.proofs.DesignsLemmas.{same_part}
use Rattle.cx_text.proofs.NumberLaws.{same_or}
use Rattle.cx_state.proofs.StatesLemmas.{row_is}
use Rattle.cx_text.proofs.ListLaws.{get_same, there_below, nothing_more}
use Rattle.std.proofs.lemmas.Option.{slice_get-get_or}

-- what a cell of an instance of the tree holds
own : (d : PlainDesign) (levels k : ℕ) (hs : List (Option CellState)) (listed : Set) (s : State) (c : ℕ) (held : CellState) → 0 < levels → ((h0 : CellState) → get_or hs c None ≡ Some h0 → s (c ∷ []) ≡ h0)
    → get_or (rested_cells listed (component_at d k).cells hs) c None ≡ Some held → rested listed (tree_within d levels k) s (c ∷ []) ≡ held
own d zero k hs listed s c held some is e = absurd (omega arith)
own d (suc levels) k hs listed s c held some is e = cell_rested (tree_within d levels) (component_at d k).cells hs listed c (s (c ∷ [])) held is e

module _ (d : PlainDesign) (table : List InstanceRow) (children : List ℕ) (is_table : IsTable d table children) (rows : List PlainInstance) (fits : IsStateOf d rows) (n : ℕ) (part : PlainComponent) (listed : Set) where
  abbrev row : PlainInstance
  row = record { cells = rested_cells listed part.cells (instance_state rows n).cells; held = (instance_state rows n).held }

  abbrev new : List PlainInstance
  new = rows_rested listed part.cells n rows

  within : n < length (paths_of (tree_of d)) → n < length rows
  within lt = subst (λ m. n < m) (sym fits.count) lt

  row_same : n < length rows → instance_state new n ≡ row
  row_same lt = get_or-set_same rows n row no_instance lt

  row_other : (m : ℕ) → m ≢ n → instance_state new m ≡ instance_state rows m
  row_other m ne = get_or-set_other rows n m row no_instance ne

  held_alike : n < length rows → HeldAlike rows new
  held_alike lt m input =
      ⊎_elim
      (λ (e : m ≡ n). ap (λ (k : ℕ). inputs_held new k input) e ∙ ap (λ (x : PlainInstance). get_or x.held input Undefined) (row_same lt) ∙ ap (λ (k : ℕ). inputs_held rows k input) (sym e))
      (λ (ne : m ≢ n). ap (λ (x : PlainInstance). get_or x.held input Undefined) (row_other m ne))
      (same_or m n)

  still_fits : n < length rows → ((path : Path) → IsNumber d n path → part_of (instance_at (tree_of d) path) ≡ part) → HoldCells part.cells (rested_cells listed part.cells (instance_state rows n).cells) → IsStateOf d new
  still_fits lt is_part holds = record {
    count = length-set rows n row ∙ fits.count;
    fits = λ m path number.
        ⊎_elim
        (λ (e : m ≡ n).
        let here : IsNumber d n path = subst (λ k. IsNumber d k path) e number in
        let before : FitsPart part (instance_state rows n) = subst (λ p. FitsPart p (instance_state rows n)) (is_part path here) (fits.fits n path here) in
        let after : FitsPart part row = record { cells = holds; inputs = before.inputs; widths = before.widths } in
        subst (λ k. FitsPart (part_of (instance_at (tree_of d) path)) (instance_state new k)) (sym e)
        (subst (λ x. FitsPart (part_of (instance_at (tree_of d) path)) x) (sym (row_same lt)) (subst (λ p. FitsPart p row) (sym (is_part path here)) after)))
        (λ (ne : m ≢ n). subst (λ x. FitsPart (part_of (instance_at (tree_of d) path)) x) (sym (row_other m ne)) (fits.fits m path number))
        (same_or m n);
  }

  -- LISTED CELLS HAVE RESTED, by the law that one row changes
  pub rows_have_rested : ((s after : State) (path : Path) (r : PlainInstance) → n < length rows → StandsFor (tree_of d) rows s → IsNumber d n path → ((c : ℕ) (held : CellState) → get_or r.cells c None ≡ Some held → after (c ∷ []) ≡ held)
      → after [] ≡ s path → ((c e : ℕ) (below : Path) → after (c ∷ e ∷ below) ≡ s (path ++ c ∷ e ∷ below)) → StandsFor (tree_of d) (set rows n r) (put_path path after s))
      → n < length (paths_of (tree_of d)) → part ≡ component_at d (row_at table n).component → HoldCells part.cells (rested_cells listed part.cells (instance_state rows n).cells) → Rested d rows new n listed
  rows_have_rested law lt is_part holds =
      let k : ℕ = (row_at table n).component in
      let there : k < length d.components = is_table.there n (subst (λ m. n < m) (sym is_table.count) lt) in
      record {
        stands = λ path s number stands.
            let tree : instance_at (tree_of d) path ≡ component_of d k = is_table.component n path number in
            law s (rested listed (instance_at (tree_of d) path) (under_path path s)) path row (within lt) stands number
            (λ c held e.
            ap (λ (i : Instance). rested listed i (under_path path s) (c ∷ [])) tree
            ∙ own d (length d.components) k (instance_state rows n).cells listed (under_path path s) c held (omega (arith, there)) (λ h0 e0. stands n c path h0 number e0)
            (ap (λ (p : PlainComponent). get_or (rested_cells listed p.cells (instance_state rows n).cells) c None) (sym is_part) ∙ e))
            (ap s (nothing_more path))
            (λ c e below. refl);
        held = held_alike (within lt);
        fits = still_fits (within lt) (λ path number. ap part_of (is_table.component n path number) ∙ same_part d (length d.components) k ∙ sym is_part) holds;
      }

pub part_is : (components : List Component) (main : ℕ) (rows : List InstanceRow) (n : ℕ) (row : InstanceRow) (part : Component) → n < length rows → row ≡ get_or rows n row → (row_at rows n).component < length (plain_parts components main).components
    → part ≡ get_or components row.component part → plain_component part ≡ component_at (plain_parts components main) (row_at rows n).component
part_is components main rows n row part lt is there at =
    let same : row_at rows n ≡ row = get_same rows n _ row lt ∙ sym is in
    let inside : row.component < length components = subst (λ (r : InstanceRow). r.component < length components) same (subst (λ m. (row_at rows n).component < m) (length-map components plain_component) there) in
    ap plain_component at ∙ sym (get_or-map plain_component components row.component part no_component inside) ∙ ap (λ (r : InstanceRow). component_at (plain_parts components main) r.component) (sym same)

-- the instance holds states of its part
pub holds_in : (d : PlainDesign) (table : List InstanceRow) (children : List ℕ) → IsTable d table children → (rows : List PlainInstance) → IsStateOf d rows → (n : ℕ) (part : PlainComponent) (row : PlainInstance) → n < length (paths_of (tree_of d))
    → part ≡ component_at d (row_at table n).component → instance_state rows n ≡ row → HoldCells part.cells row.cells
holds_in d table children is_table rows fits n part _ lt is_part is_row =
    let path : Path = get_or (paths_of (tree_of d)) n [] in
    let number : IsNumber d n path = slice_get-get_or (paths_of (tree_of d)) n [] lt in
    let same : part_of (instance_at (tree_of d) path) ≡ part = ap part_of (is_table.component n path number) ∙ same_part d (length d.components) (row_at table n).component ∙ sym is_part in
    subst (λ (x : PlainInstance). HoldCells part.cells x.cells) is_row (subst (λ (p : PlainComponent). HoldCells p.cells (instance_state rows n).cells) same (fits.fits n path number).cells)

-- the listed cells are those of its part
pub within_part : (d : PlainDesign) (table : List InstanceRow) (children : List ℕ) → IsTable d table children → (n : ℕ) (part : PlainComponent) (listed : List ℕ) → n < length (paths_of (tree_of d)) → part ≡ component_at d (row_at table n).component
    → ListWithin d n listed → All (λ c. c < length part.cells) listed
within_part d table children is_table n part listed lt is_part within =
    let path : Path = get_or (paths_of (tree_of d)) n [] in
    let number : IsNumber d n path = slice_get-get_or (paths_of (tree_of d)) n [] lt in
    let same : part_of (instance_at (tree_of d) path) ≡ part = ap part_of (is_table.component n path number) ∙ same_part d (length d.components) (row_at table n).component ∙ sym is_part in
    subst (λ (p : PlainComponent). All (λ c. c < length p.cells) listed) same (within path number)

pub items_rested : (items : List InstanceState) (n : ℕ) (x : InstanceState) (listed : Set) (part : PlainComponent) (r : InstanceState) → instance_state (map plain_instance items) n ≡ plain_instance r
    → plain_instance x ≡ record { cells = rested_cells listed part.cells r.cells.items; held = r.held.items } → map plain_instance (set items n x) ≡ rows_rested listed part.cells n (map plain_instance items)
items_rested items n x listed part r is e =
    map-set plain_instance items n x
    ∙ ap (set (map plain_instance items) n) (e ∙ ap (λ (i : PlainInstance). record { cells = rested_cells listed part.cells i.cells; held = i.held }) (sym is))

-- one instance of a machine, by what was read: its part, its row, and what its cells hold then
module _ (components : List Component) (main : ℕ) (table : List InstanceRow) (children : List ℕ) (is_table : IsTable (plain_parts components main) table children) (items : List InstanceState) (fits : IsStateOf (plain_parts components main) (map plain_instance items)) (n : ℕ)
    (lt : n < length (paths_of (tree_of (plain_parts components main)))) (row : InstanceRow) (is_row : row ≡ get_or table n row) (comp : Component) (is_comp : comp ≡ get_or components row.component comp) (now : InstanceState) (is_now : now ≡ get_or items n now)
    (cells : List Cell) (is_cells : cells ≡ comp.cells.items) (held : List (Option CellState)) (is_held : held ≡ now.cells.items) where
  abbrev d : PlainDesign
  d = plain_parts components main

  inside : n < length table
  inside = subst (λ m. n < m) (sym is_table.count) lt

  part : plain_component comp ≡ component_at d (row_at table n).component
  part = part_is components main table n row comp inside is_row (is_table.there n inside) is_comp

  holds_now : instance_state (map plain_instance items) n ≡ plain_instance now
  holds_now = row_is items n now (subst (λ m. n < m) (sym fits.count) lt) is_now

  pub cells_hold : HoldCells (map plain_cell cells) held
  cells_hold =
      subst (λ (xs : List Cell). HoldCells (map plain_cell xs) held) (sym is_cells)
      (subst (λ hs. HoldCells (map plain_cell comp.cells.items) hs) (sym is_held) (holds_in d table children is_table (map plain_instance items) fits n (plain_component comp) (plain_instance now) lt part holds_now))

  pub cells_within : (listed : List ℕ) → ListWithin d n listed → (k e : ℕ) → k < length listed → get_or listed k e < length cells
  cells_within listed within k e inner =
      let count : length (map plain_cell comp.cells.items) ≡ length cells = length-map comp.cells.items plain_cell ∙ ap (λ (xs : List Cell). length xs) (sym is_cells) in
      subst (λ m. get_or listed k e < m) count (within_part d table children is_table n (plain_component comp) listed lt part within k e inner)

  pub has_rested : (listed : Set) (x : InstanceState) (after : List (Option CellState)) → after ≡ rested_cells listed (map plain_cell cells) held → HoldCells (map plain_cell cells) after → plain_instance x ≡ record { cells = after; held = now.held.items }
      → ((s after : State) (path : Path) (r : PlainInstance) → n < length (map plain_instance items) → StandsFor (tree_of d) (map plain_instance items) s → IsNumber d n path → ((c : ℕ) (held : CellState) → get_or r.cells c None ≡ Some held → after (c ∷ []) ≡ held)
      → after [] ≡ s path → ((c e : ℕ) (below : Path) → after (c ∷ e ∷ below) ≡ s (path ++ c ∷ e ∷ below)) → StandsFor (tree_of d) (set (map plain_instance items) n r) (put_path path after s))
      → Rested d (map plain_instance items) (map plain_instance (set items n x)) n listed
  has_rested listed x after value still is law =
      let same : after ≡ rested_cells listed (plain_component comp).cells now.cells.items =
      value ∙ ap (λ (xs : List Cell). rested_cells listed (map plain_cell xs) held) is_cells ∙ ap (rested_cells listed (plain_component comp).cells) is_held in
      let rows : map plain_instance (set items n x) ≡ rows_rested listed (plain_component comp).cells n (map plain_instance items) =
      items_rested items n x listed (plain_component comp) now holds_now (is ∙ ap (λ hs. record { cells = hs; held = now.held.items }) same) in
      let kept : HoldCells (plain_component comp).cells (rested_cells listed (plain_component comp).cells (instance_state (map plain_instance items) n).cells) =
      subst (λ (i : PlainInstance). HoldCells (plain_component comp).cells (rested_cells listed (plain_component comp).cells i.cells)) (sym holds_now)
      (subst (λ hs. HoldCells (plain_component comp).cells hs) same (subst (λ (xs : List Cell). HoldCells (map plain_cell xs) after) is_cells still)) in
      subst (λ rs. Rested d (map plain_instance items) rs n listed) (sym rows)
      (rows_have_rested d table children is_table (map plain_instance items) fits n (plain_component comp) listed law lt part kept)
