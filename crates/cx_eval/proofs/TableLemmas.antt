-- What is asked of the tables of a design, and what stands in them.
use Rattle.std.proofs.Common.{◌≡◌, Global, ℕ, zero, suc, ◌<◌, ⊎_elim, List, [], ◌∷◌, get_or, length, map, set, Option, Some, None, option_map, refl, sym, ap, ◌∙◌, subst, arith}
use Rattle.std.specs.Prelude.{slice_get}
use Rattle.std.specs.declared.vec.Vec.{Vec}
use Rattle.std.proofs.Math.Logic.{∥∥₁_elim}
use Rattle.std.proofs.lemmas.Bool.{cases_eq}
use Rattle.std.proofs.lemmas.List.{get_or-map, length-map, length-set, map-set}
use Rattle.std.proofs.lemmas.Option.{slice_get-get_or, slice_get-map}
use Rattle.cx_prim.specs.CellStates.{CellState}
use Rattle.cx_meaning.specs.Designs.{component_at}
use Rattle.cx_meaning.specs.Instances.{paths_of, tree_of}
use Rattle.cx_rules.specs.Wellformed.{IsDesign}
use Rattle.cx_rules.specs.Flat.{IsFlat}
use Rattle.cx_design.specs.declared.actives.Active.{Active}
use Rattle.cx_design.specs.declared.designs.Design.{Design}
use Rattle.cx_design.specs.PlainDesigns.{plain_design}
use Rattle.cx_design.specs.PlainForms.{plain_component}
use Rattle.cx_eval_drives.specs.Actives.{CanBeActive}
use Rattle.cx_state.specs.declared.tables.InstanceRow.{InstanceRow}
use Rattle.cx_state.specs.Tables.{no_row, row_at}
use Rattle.cx_state.specs.declared.states.InstanceState.{InstanceState}
use Rattle.cx_state.specs.States.{IsStateOf, PlainInstance, instance_state, no_instance, plain_instance}
use Rattle.cx_eval_network.proofs.FoundLemmas.{get_same}
use Rattle.cx_eval_network.specs.Networks.{Asked, IsNetwork, instance_of, path_at}
use Rattle.cx_eval_network.proofs.NetworkLemmas.{get_there}
use Rattle.cx_eval_network.specs.Asked.{CanAsk}
use Rattle.cx_eval_network.specs.declared.asking.Asking.{Asking}
use Rattle.cx_eval_network.specs.Askings.{asked_of}
use Rattle.cx_eval_cycle.specs.declared.rooms.CellRoom.{CellRoom}
use Rattle.cx_eval_cycle.specs.declared.stepping.SteppingCells.{SteppingCells}
use Rattle.cx_eval_cycle.specs.Rooms.{HaveRooms}
use Rattle.cx_eval_cycle.specs.Stepping.{AreStepping, AreSteppingCells}
use Rattle.cx_eval.specs.declared.tables.Tables.{Tables}
use Rattle.cx_eval.specs.Cycling.{with_cells}
use Rattle.cx_eval.specs.Firsts.{AreFirsts}
use Rattle.cx_eval.specs.Looked as looked
use Rattle.cx_eval.specs.Evaluated.{CanAct}
use Rattle.cx_eval.specs.Tables.{AreRooms, AreTables, asked_in, cells_at, design_of, kept_in, kept_of}
use Rattle.cx_eval.proofs.DesignProp.{design_prop}
use Rattle.cx_text.proofs.ListLaws.{set_other, set_same}

pub kept_design : (design : Design) → IsFlat (plain_design design) → IsDesign (plain_design design)
kept_design design flat = ∥∥₁_elim design.keeps (design_prop (plain_design design) flat) (λ d. d)

some_below : {A : Type 0} (xs : List A) (n : ℕ) → n < length xs → slice_get xs n ≡ None → ⊥
some_below [] n lt e = absurd (omega (arith, lt))
some_below (x ∷ xs) zero lt e = cc
some_below (x ∷ xs) (suc n) lt e = some_below xs n (omega (arith, lt)) e

module _ (t : Tables) (are : AreTables t) (n : ℕ) (lt : n < length (paths_of (tree_of (design_of t)))) where
  abbrev rows_here : List InstanceRow
  rows_here = t.table.rows.items

  pub in_rows : n < length rows_here
  in_rows = subst (λ m. n < m) (sym are.table.count) lt

  -- what is asked
  pub own_active : (state : List PlainInstance) (active : Active) → CanAct (design_of t) n active → CanBeActive (instance_of (asked_in t state n active) n) active
  own_active state active can = can (path_at (design_of t) n) (get_there (paths_of (tree_of (design_of t))) n lt)

  pub can_ask : (state : List PlainInstance) (active : Active) → IsStateOf (design_of t) state → IsNetwork (asked_in t state n active) t.nodes → CanAsk (asked_in t state n active) t.nodes
  can_ask state active fits network = record { network = network; within = in_rows; accepted = are.accepted; fits = fits }

  -- the nodes of the first ports of its cells
  pub firsts_below : n < length t.firsts.items
  firsts_below = let lt = in_rows in let count = are.firsts.count in omega (arith, lt, count)

  pub first_nodes : (state : List PlainInstance) (active : Active) (asking : Asking) → asked_of asking ≡ asked_in t state n active → (own : Vec ℕ Global) → own ≡ get_or t.firsts.items n own
      → AreFirsts (asked_of asking).design (asked_of asking).rows asking.instance (length (looked.own_cells asking)) own.items
  first_nodes state active asking is own at =
      subst (λ (a : Asked). AreFirsts a.design a.rows a.instance (length (component_at a.design (row_at a.rows a.instance).component).cells) own.items) (sym is)
      (are.firsts.each n own (slice_get-get_or t.firsts.items n own firsts_below ∙ ap Some (sym at)))

  -- the cells of an instance
  module _ (row : InstanceRow) (is : row ≡ get_or rows_here n row) where
    pub same_row : row_at rows_here n ≡ row
    same_row = get_same rows_here n no_row row in_rows ∙ sym is

    pub component_there : row.component < length t.design.now.components.items
    component_there =
        subst (λ m. row.component < m) (length-map t.design.now.components.items plain_component)
        (subst (λ (r : InstanceRow). r.component < length (design_of t).components) same_row (are.table.there n in_rows))

    -- its cells that can step
    pub part_below : row.component < length t.parts.items
    part_below =
        let there = component_there in
        let count = are.stepping.count in
        let long : length (design_of t).components ≡ length t.design.now.components.items = length-map t.design.now.components.items plain_component in
        omega (arith, there, count, long)

    module _ (part : SteppingCells) (at : part ≡ get_or t.parts.items row.component part) where
      part_stands : slice_get t.parts.items (row_at rows_here n).component ≡ Some part
      part_stands = ap (λ (r : InstanceRow). slice_get t.parts.items r.component) same_row ∙ slice_get-get_or t.parts.items row.component part part_below ∙ ap Some (sym at)

      pub part_steps : AreSteppingCells (cells_at t n) part
      part_steps = are.stepping.each (row_at rows_here n).component part part_stands

      pub part_kept : part.cells.items ≡ kept_of t n
      part_kept = ap kept_in (sym part_stands)

    -- and room for a look at each
    module _ {A : Type 0} (rooms : List (Vec CellRoom A)) (have : AreRooms t rooms) where
      abbrev lists : List (List CellRoom)
      lists = map (λ own. own.items) rooms

      pub rooms_below : row.component < length rooms
      rooms_below =
          let below = part_below in
          let count = have.count in
          let long : length lists ≡ length rooms = length-map rooms (λ own. own.items) in
          omega (arith, below, count, long)

      own_list : (own : Vec CellRoom A) → slice_get lists row.component ≡ Some (get_or rooms row.component own).items
      own_list own = slice_get-map (λ (x : Vec CellRoom A). x.items) rooms row.component ∙ ap (option_map (λ (x : Vec CellRoom A). x.items)) (slice_get-get_or rooms row.component own rooms_below)

      by_part : (o : Option SteppingCells) → slice_get t.parts.items (row_at rows_here n).component ≡ o → (list : List CellRoom) → slice_get lists row.component ≡ Some list → HaveRooms (kept_in o) list
      by_part (Some part) e list f = have.each row.component part list (ap (λ (r : InstanceRow). slice_get t.parts.items r.component) (sym same_row) ∙ e) f
      by_part None e list f = absurd (some_below t.parts.items (row_at rows_here n).component (subst (λ (r : InstanceRow). r.component < length t.parts.items) (sym same_row) part_below) e)

      pub own_rooms : (own : Vec CellRoom A) → HaveRooms (kept_of t n) (get_or rooms row.component own).items
      own_rooms own = by_part (slice_get t.parts.items (row_at rows_here n).component) refl (get_or rooms row.component own).items (own_list own)

      pub rooms_again : (new : Vec CellRoom A) → HaveRooms (kept_of t n) new.items → AreRooms t (set rooms row.component new)
      rooms_again new has = record {
        count = ap length (map-set (λ (x : Vec CellRoom A). x.items) rooms row.component new) ∙ length-set lists row.component new.items ∙ have.count;
        each =
            λ k part list e f.
            let g : slice_get (set lists row.component new.items) k ≡ Some list = ap (λ ls. slice_get ls k) (sym (map-set (λ (x : Vec CellRoom A). x.items) rooms row.component new)) ∙ f in
            ⊎_elim
            (λ (at : k ≡ row.component).
            let same : new.items ≡ list = (let h : Some new.items ≡ Some list = sym (set_same lists row.component new.items (let below = rooms_below in let long : length lists ≡ length rooms = length-map rooms (λ own. own.items) in omega (arith, below, long))) ∙ ap (slice_get (set lists row.component new.items)) (sym at) ∙ g in cc) in
            let kept : kept_of t n ≡ part.cells.items = ap kept_in (ap (λ (r : InstanceRow). slice_get t.parts.items r.component) same_row ∙ ap (slice_get t.parts.items) (sym at) ∙ e) in
            subst (HaveRooms part.cells.items) same (subst (λ ks. HaveRooms ks new.items) kept has))
            (λ differs. have.each k part list e (sym (set_other lists row.component k new.items differs) ∙ g))
            (cases_eq k row.component);
      }

pub stepping_there : (t : Tables) → AreTables t → (n : ℕ) → n < length (paths_of (tree_of (design_of t))) → AreStepping (cells_at t n) (kept_of t n)
stepping_there t are n lt = by (slice_get t.parts.items (row_at t.table.rows.items n).component) refl
  where
    below : (row_at t.table.rows.items n).component < length t.parts.items
    below = let there = are.table.there n (in_rows t are n lt) in let count = are.stepping.count in omega (arith, there, count)

    by : (o : Option SteppingCells) → slice_get t.parts.items (row_at t.table.rows.items n).component ≡ o → AreStepping (cells_at t n) (kept_in o)
    by (Some part) e = (are.stepping.each (row_at t.table.rows.items n).component part e).kept
    by None e = absurd (some_below t.parts.items (row_at t.table.rows.items n).component below e)

-- one instance of a state holds something else
pub items_with : (items : List InstanceState) (n : ℕ) (r x : InstanceState) (cells : List (Option CellState)) → n < length (map plain_instance items) → r ≡ get_or items n r → plain_instance x ≡ record { cells = cells; held = r.held.items }
    → map plain_instance (set items n x) ≡ with_cells (map plain_instance items) n cells
items_with items n r x cells lt e is =
    let inside : n < length items = subst (λ k. n < k) (length-map items plain_instance) lt in
    let own : instance_state (map plain_instance items) n ≡ plain_instance r = get_or-map plain_instance items n r no_instance inside ∙ ap plain_instance (sym e) in
    map-set plain_instance items n x ∙ ap (set (map plain_instance items) n) (is ∙ ap (λ (i : PlainInstance). record { cells = cells; held = i.held }) (sym own))
