-- The places of a component and all below it are those of its instance.
use Rattle.std.proofs.Common.{◌≡◌, ℕ, suc, ◌+◌, ◌<◌, ◌≤◌, ◌⊎◌, inl, inr, List, [], ◌∷◌, ◌++◌, Option, Some, length, map, set, slice_get, take, refl, sym, ap, ◌∙◌, subst, arith}
use Rattle.std.specs.List.{range_with_len}
use Rattle.std.specs.declared.alloc.Global.{Global}
use Rattle.std.specs.declared.vec.Vec.{Vec}
use Rattle.std.proofs.lemmas.Bool.{cases_eq}
use Rattle.std.proofs.lemmas.List.{length-set, map-append}
use Rattle.cx_text.proofs.MemberLaws.{in_at}
use Rattle.cx_text.proofs.ListLaws.{set_other, set_same, two_maps}
use Rattle.cx_prim.specs.Rows.{Row}
use Rattle.cx_meaning.specs.Designs.{PlainKind, OfPrimitive, OfComponent, PlainCell, PlainComponent, PlainDesign, component_at}
use Rattle.cx_meaning.specs.Instances.{Instance, Node, Cells, a_primitive, an_instance, add_cell, cells_for, Path, behind, paths_of, paths_below, child_at, instance_at, part_of}
use Rattle.cx_text.specs.Members.{In}
use Rattle.cx_rules.specs.Ports.{component_of}
use Rattle.cx_design.specs.declared.components.Component.{Component}
use Rattle.cx_design_sizes.specs.Orders.{IsChildrenFirst}
use Rattle.cx_flattening.specs.Flattened.{Kids, flat_kids}
use Rattle.cx_profiling.specs.FlatEntries.{entries_in_flat, entries_below, placed_entries}
use Rattle.cx_flat.specs.declared.places.InstancePlaces.{InstancePlaces}
use Rattle.cx_flat.specs.Flats.{AreKidsTo}
use Rattle.cx_flat.specs.Lasts.{AreLasts}
use Rattle.cx_flat.specs.Places.{Standing, places_at, places_in, plain_instances, list_at, listed, kind_places, cell_places, component_places, ArePlacesTo}
use Rattle.cx_flat.specs.Tables.{plain_table, kids_of}
use Rattle.cx_flat.proofs.FlatLemmas.{has_more, kids_below, kids_by}
use Rattle.cx_design_copies.proofs.EdgeLemmas.{HasCell}
use Rattle.cx_flat.proofs.OrderLemmas.{in_taken, tree_at}
use Rattle.cx_flat.proofs.TableLemmas.{kids_there}

module _ (part : PlainComponent) (cells : Cells) where
  abbrev kids : Kids
  kids = flat_kids cells

  -- from cell c on the cells are these
  record AreFrom (rest : Cells) (c : ℕ) : Type 0 where
    instances : (e : ℕ) (path : Path) → child_at cells (c + e) path ≡ child_at rest e path
    entries : (e : ℕ) (path : Path) (g : ℕ) → entries_below cells (c + e) path g ≡ entries_below rest e path g

  further : (c e : ℕ) → suc c + e ≡ c + suc e
  further c e = omega arith

  past_row : (row : Row) (rest : Cells) (c : ℕ) → AreFrom (a_primitive row rest) c → AreFrom rest (suc c)
  past_row row rest c from = record {
    instances = λ e path. ap (λ n. child_at cells n path) (further c e) ∙ from.instances (suc e) path;
    entries = λ e path g. ap (λ n. entries_below cells n path g) (further c e) ∙ from.entries (suc e) path g;
  }

  past_child : (child : Instance) (rest : Cells) (c : ℕ) → AreFrom (an_instance child rest) c → AreFrom rest (suc c)
  past_child child rest c from = record {
    instances = λ e path. ap (λ n. child_at cells n path) (further c e) ∙ from.instances (suc e) path;
    entries = λ e path g. ap (λ n. entries_below cells n path g) (further c e) ∙ from.entries (suc e) path g;
  }

  -- the places of an instance below a cell are those of it in its own flat component, placed
  below_cell : (child : Instance) (rest : Cells) (c : ℕ) → AreFrom (an_instance child rest) c → (path : Path) → map (placed_entries kids part c) (places_at child path) ≡ places_at (Node part cells) (c ∷ path)
  below_cell child rest c from path =
      two_maps (entries_in_flat child path) (placed_entries kids part c) (entries_in_flat (Node part cells) (c ∷ path))
      (λ g. ap (placed_entries kids part c) (sym (ap (λ n. entries_below cells n path g) here ∙ from.entries 0 path g))) (range_with_len 0 (length (part_of (instance_at child path)).groups))
      ∙ ap (λ i. map (entries_in_flat (Node part cells) (c ∷ path)) (range_with_len 0 (length (part_of i).groups))) (sym (ap (λ n. child_at cells n path) here ∙ from.instances 0 path))
    where
      here : c ≡ c + 0
      here = omega arith

  below_paths : (child : Instance) (rest : Cells) (c : ℕ) → AreFrom (an_instance child rest) c → (paths : List Path)
      → map (map (placed_entries kids part c)) (map (places_at child) paths) ≡ map (places_at (Node part cells)) (behind c paths)
  below_paths child rest c from [] = refl
  below_paths child rest c from (path ∷ paths) =
      ap (λ y. y ∷ map (map (placed_entries kids part c)) (map (places_at child) paths)) (below_cell child rest c from path)
      ∙ ap (λ l. places_at (Node part cells) (c ∷ path) ∷ l) (below_paths child rest c from paths)

  module _ (trees : ℕ → Instance) (lists : ℕ → List Standing) where
    -- those of the cells from cell c on
    abbrev Made : List PlainCell → ℕ → Type 0
    Made cs c = AreFrom (cells_for trees cs) c → cell_places kids part lists c cs ≡ map (places_at (Node part cells)) (paths_below (cells_for trees cs) c)

    places_below : (cs : List PlainCell) (c : ℕ) → ((j : ℕ) → HasCell cs j → lists j ≡ places_in (trees j)) → Made cs c
    places_below [] c known from = refl
    places_below (x ∷ xs) c known from = by x.kind refl from (places_below xs (suc c) (λ j has. known j (has_more x xs j has)))
      where
        by : (kind : PlainKind) → x.kind ≡ kind → AreFrom (add_cell trees kind (cells_for trees xs)) c → Made xs (suc c)
            → kind_places kids part lists c kind ++ cell_places kids part lists (suc c) xs ≡ map (places_at (Node part cells)) (paths_below (add_cell trees kind (cells_for trees xs)) c)
        by (OfPrimitive primitive) e now more = more (past_row _ (cells_for trees xs) c now)
        by (OfComponent j) e now more =
            ap (λ l. map (map (placed_entries kids part c)) l ++ cell_places kids part lists (suc c) xs) (known j (x, inl refl, e))
            ∙ ap (λ l. l ++ cell_places kids part lists (suc c) xs) (below_paths (trees j) (cells_for trees xs) c now (paths_of (trees j)))
            ∙ ap (λ l. map (places_at (Node part cells)) (behind c (paths_of (trees j))) ++ l) (more (past_child (trees j) (cells_for trees xs) c now))
            ∙ sym (map-append (places_at (Node part cells)) (behind c (paths_of (trees j))) (paths_below (cells_for trees xs) (suc c)))

-- THE PLACES OF AN INSTANCE, by those of its children
pub places_are : (part : PlainComponent) (trees : ℕ → Instance) (lists : ℕ → List Standing) → ((j : ℕ) → HasCell part.cells j → lists j ≡ places_in (trees j))
    → component_places (flat_kids (cells_for trees part.cells)) part lists ≡ places_in (Node part (cells_for trees part.cells))
places_are part trees lists known =
    ap (λ l. places_at (Node part cells) [] ∷ l)
    (places_below part cells trees lists part.cells 0 known
    (record { instances = λ e path. ap (λ n. child_at cells n path) (none e); entries = λ e path g. ap (λ n. entries_below cells n path g) (none e) }))
  where
    cells : Cells
    cells = cells_for trees part.cells

    none : (e : ℕ) → 0 + e ≡ e
    none e = omega arith

-- LISTS, made component by component of an order
module _ (d : PlainDesign) (order lasts : List ℕ) (first : IsChildrenFirst d order) (last : AreLasts d order (length order) lasts) where
  pub places_begin : (lists : List (Vec InstancePlaces Global)) → length lists ≡ length d.components → ArePlacesTo d order 0 lists
  places_begin lists sized = record { sized = sized; known = λ j i. absurd i }

  -- the next of the order, by those before it
  next_places : (kids : List (Option Component)) (lists : List (Vec InstancePlaces Global)) (i k : ℕ) (part : PlainComponent) → AreKidsTo d order lasts i kids → ArePlacesTo d order i lists
      → slice_get order i ≡ Some k → part ≡ component_at d k → component_places (kids_of (plain_table kids) part.cells) part (listed lists) ≡ places_in (component_of d k)
  next_places kids lists i k part made so_far at is =
      ap (λ (p : PlainComponent). component_places (kids_of (plain_table kids) p.cells) p (listed lists)) is
      ∙ ap (λ ks. component_places ks own (listed lists))
      (kids_by d (plain_table kids) own.cells (kids_there d order lasts first last i k kids made at) ∙ sym (kids_below d own.cells))
      ∙ places_are own (component_of d) (listed lists) (λ j has. so_far.known j (before j has))
      ∙ ap places_in (sym (tree_at d order first i k at))
    where
      own : PlainComponent
      own = component_at d k

      before : (j : ℕ) → HasCell own.cells j → In (take i order) j
      before j has = first.behind i k j has.0 at has.1 has.2

  pub places_turn : (kids : List (Option Component)) (lists : List (Vec InstancePlaces Global)) (i k : ℕ) (part : PlainComponent) (list : Vec InstancePlaces Global) → AreKidsTo d order lasts i kids
      → ArePlacesTo d order i lists → slice_get order i ≡ Some k → part ≡ component_at d k
      → plain_instances list.items ≡ component_places (kids_of (plain_table kids) part.cells) part (listed lists) → ArePlacesTo d order (i + 1) (set lists k list)
  places_turn kids lists i k part list made so_far at own is = record {
    sized = length-set lists k list ∙ so_far.sized;
    known = λ j here. one j (cases_eq k j) (in_taken order i k j at (subst (λ n. In (take n order) j) (let e : i + 1 ≡ suc i = omega arith in e) here));
  }
    where
      within : k < length lists
      within = subst (λ n. k < n) (sym so_far.sized) (first.there k (in_at order i k at))

      one : (j : ℕ) → (k ≡ j) ⊎ (k ≡ j → ⊥) → (k ≡ j) ⊎ In (take i order) j → listed (set lists k list) j ≡ places_in (component_of d j)
      one j (inl same) here =
          subst (λ x. listed (set lists k list) x ≡ places_in (component_of d x)) same
          (ap list_at (set_same lists k list within) ∙ is ∙ next_places kids lists i k part made so_far at own)
      one j (inr other) (inl same) = absurd (other same)
      one j (inr other) (inr before) = ap list_at (set_other lists k j list (λ e. other (sym e))) ∙ so_far.known j before

  -- behind the last component
  pub places_end : (i : ℕ) (lists : List (Vec InstancePlaces Global)) → length order ≤ i → i ≤ length order → ArePlacesTo d order i lists → ArePlacesTo d order (length order) lists
  places_end i lists past within so_far = subst (λ n. ArePlacesTo d order n lists) (let e : i ≡ length order = omega (arith, past, within) in e) so_far
