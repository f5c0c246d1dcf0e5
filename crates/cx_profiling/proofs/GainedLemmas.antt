-- An instrumented component beside its own: the same parts in front, and what it gains behind them.
use Rattle.std.proofs.Common.{◌≡◌, ℕ, zero, suc, ◌+◌, ◌*◌, ◌<◌, Bool, true, false, not, ◌&&◌, List, [], ◌∷◌, ◌++◌, length, map, Option, Some, None, refl, sym, ap, ◌∙◌, subst, arith}
use Rattle.std.specs.Prelude.{nat_eq, if◌then◌else◌}
use Rattle.std.specs.List.{slice_get}
use Rattle.std.proofs.lemmas.List.{length-append}
use Rattle.std.proofs.lemmas.List.FromFn.{get_or-map-range_with_len, length-map-range_with_len}
use Rattle.cx_text.proofs.MemberLaws.{in_at}
use Rattle.cx_text.proofs.ListLaws.{front, there_below, length-map}
use Rattle.cx_text.proofs.BoolLaws.{by_test}
use Rattle.cx_text.specs.declared.places.Place.{Place}
use Rattle.cx_prim.specs.Table.{row_of}
use Rattle.cx_meaning.specs.declared.ports.PortRef.{PortRef}
use Rattle.cx_meaning.specs.declared.ports.PortRef.TheVariants as ports
use Rattle.cx_meaning.specs.declared.kinds.PortDecl.{PortDecl}
use Rattle.cx_meaning.specs.Designs.{PlainAssign, PlainGroup, PlainKind, OfPrimitive, OfComponent, PlainCell, PlainComponent, no_component, PlainDesign, component_at}
use Rattle.cx_meaning.specs.Instances.{Cells, cells_of}
use Rattle.cx_text.specs.Members.{In}
use Rattle.cx_rules.specs.Ports.{component_of}
use Rattle.cx_rules.specs.Wellformed.{IsDesign, IsKind}
use Rattle.cx_profiling.specs.Counters.{is_counted, counters, counters_from, Shown, shown_in, first_gained}
use Rattle.cx_profiling.specs.Instrumented.{is_reached, counter_assigns, counter_cells, memory_cell, name_at, count_outputs, address_width, store_groups, gained, moved_by, moved_number, moved_in, moved_invoke, group_with, counted_groups, kept_component, child_component, main_component, instrumented_component, with_counts}
use Rattle.cx_profiling.specs.FreeNames.{free_names, names_of}
use Rattle.cx_profiling.proofs.ThereLemmas.{Names, kind_ports}

-- the outputs that show counts are as many as these
pub count_outputs-length : (names : List (List ℕ)) (n : ℕ) (xs : List Shown) → length (count_outputs names n xs) ≡ length xs
count_outputs-length names n [] = refl
count_outputs-length names n (x ∷ xs) = ap suc (count_outputs-length names (suc n) xs)

pub store_groups-length : (place : Place) (names : List (List ℕ)) (memory width n g j : ℕ) (xs : List Shown) → length (store_groups place names memory width n g j xs) ≡ length xs
store_groups-length place names memory width n g j [] = refl
store_groups-length place names memory width n g j (x ∷ xs) = ap suc (store_groups-length place names memory width (suc n) (suc g) (suc j) xs)

module _ (d : PlainDesign) where
  pub counted_groups-length : (part : PlainComponent) (cells : Cells) (c : ℕ) (gs : List PlainGroup) → length (counted_groups d part cells c gs) ≡ length gs
  counted_groups-length part cells c [] = refl
  counted_groups-length part cells c (g ∷ gs) = by (is_counted cells g) (counted_groups-length part cells (suc (suc c)) gs) (counted_groups-length part cells c gs)
    where
      by : (b : Bool) → length (counted_groups d part cells (suc (suc c)) gs) ≡ length gs → length (counted_groups d part cells c gs) ≡ length gs
          → length (if b then group_with d part g (counter_assigns part.place c) ∷ counted_groups d part cells (suc (suc c)) gs else group_with d part g [] ∷ counted_groups d part cells c gs) ≡ suc (length gs)
      by true counted plain = ap suc counted
      by false counted plain = ap suc plain

  -- group n of a list, with the assignments of its counter where it has one of so many, whose registers begin with cell c
  abbrev pub IsCountedAt : PlainComponent → (c count : ℕ) → List PlainGroup → ℕ → PlainGroup → Type 0
  IsCountedAt part c count list n old = (new : PlainGroup) × (slice_get list n ≡ Some new)
      × ((more : List PlainAssign) × (new ≡ group_with d part old more) × ((a : PlainAssign) → In more a → (m : ℕ) × (m < count) × In (counter_assigns part.place (c + 2 * m)) a))

  pub counted_groups-at : (part : PlainComponent) (cells : Cells) (c g : ℕ) (gs : List PlainGroup) (n : ℕ) (old : PlainGroup) → slice_get gs n ≡ Some old
      → IsCountedAt part c (length (counters_from cells c g gs)) (counted_groups d part cells c gs) n old
  counted_groups-at part cells c g [] n old e = absurd cc
  counted_groups-at part cells c g (x ∷ gs) zero old e = by (is_counted cells x)
    where
      same : x ≡ old
      same = ap first e
        where
          first : Option PlainGroup → PlainGroup
          first None = x
          first (Some y) = y

      by : (b : Bool) → IsCountedAt part c (length (if b then record { group = g; register = c } ∷ counters_from cells (suc (suc c)) (suc g) gs else counters_from cells c (suc g) gs))
          (if b then group_with d part x (counter_assigns part.place c) ∷ counted_groups d part cells (suc (suc c)) gs else group_with d part x [] ∷ counted_groups d part cells c gs) 0 old
      by true =
          let z : c ≡ c + 2 * 0 = omega arith in (
            group_with d part x (counter_assigns part.place c),
            refl,
            (
              counter_assigns part.place c,
              ap (λ o. group_with d part o (counter_assigns part.place c)) same,
              λ a i. (0, omega arith, subst (λ r. In (counter_assigns part.place r) a) z i),
            ),
          )
      by false = (group_with d part x [], refl, ([], ap (λ o. group_with d part o []) same, λ a i. absurd i))
  counted_groups-at part cells c g (x ∷ gs) (suc n) old e = by (is_counted cells x) (counted_groups-at part cells (suc (suc c)) (suc g) gs n old e) (counted_groups-at part cells c (suc g) gs n old e)
    where
      by : (b : Bool) → IsCountedAt part (suc (suc c)) (length (counters_from cells (suc (suc c)) (suc g) gs)) (counted_groups d part cells (suc (suc c)) gs) n old
          → IsCountedAt part c (length (counters_from cells c (suc g) gs)) (counted_groups d part cells c gs) n old
          → IsCountedAt part c (length (if b then record { group = g; register = c } ∷ counters_from cells (suc (suc c)) (suc g) gs else counters_from cells c (suc g) gs))
          (if b then group_with d part x (counter_assigns part.place c) ∷ counted_groups d part cells (suc (suc c)) gs else group_with d part x [] ∷ counted_groups d part cells c gs) (suc n) old
      by true (new, at, (more, is, counter)) plain = (new, at, (more, is, λ a i. later a (counter a i)))
        where
          later : (a : PlainAssign) → (m : ℕ) × (m < length (counters_from cells (suc (suc c)) (suc g) gs)) × In (counter_assigns part.place (suc (suc c) + 2 * m)) a
              → (m : ℕ) × (m < suc (length (counters_from cells (suc (suc c)) (suc g) gs))) × In (counter_assigns part.place (c + 2 * m)) a
          later a (m, less, i) = let z : suc (suc c) + 2 * m ≡ c + 2 * suc m = omega arith in (suc m, omega arith, subst (λ r. In (counter_assigns part.place r) a) z i)
      by false counted plain = plain

  -- GROWN: the component in front, with ports that are renumbered, and more behind it
  pub record IsGrown (k : ℕ) (new : PlainComponent) : Type 0 where
    pub name : new.name ≡ (component_at d k).name
    pub inputs : new.inputs ≡ (component_at d k).inputs
    pub outputs : length new.outputs ≡ length (component_at d k).outputs + gained d k
    pub declared : (n : ℕ) (decl : PortDecl) → slice_get (component_at d k).outputs n ≡ Some decl → slice_get new.outputs n ≡ Some decl
    pub cells : (c : ℕ) (cell : PlainCell) → slice_get (component_at d k).cells c ≡ Some cell → slice_get new.cells c ≡ Some cell
    pub groups : (g : ℕ) (old : PlainGroup) → slice_get (component_at d k).groups g ≡ Some old → (x : PlainGroup) × (slice_get new.groups g ≡ Some x) × (x.kind ≡ old.kind)
    pub invokes : length new.invokes ≡ length (component_at d k).invokes

  gained_none : (k : ℕ) → is_reached d k && not (nat_eq k d.main) ≡ false → gained d k ≡ 0
  gained_none k e = ap (λ b. if b then length (shown_in (component_of d k)) else 0) e

  gained_kept : (k : ℕ) → is_reached d k ≡ false → gained d k ≡ 0
  gained_kept k e = gained_none k (ap (λ b. b && not (nat_eq k d.main)) e)

  pub gained_main : (k : ℕ) → nat_eq k d.main ≡ true → gained d k ≡ 0
  gained_main k e = gained_none k (ap (λ b. is_reached d k && not b) e ∙ by (is_reached d k))
    where
      by : (b : Bool) → b && not true ≡ false
      by true = refl
      by false = refl

  pub gained_child : (k : ℕ) → is_reached d k ≡ true → nat_eq k d.main ≡ false → gained d k ≡ length (shown_in (component_of d k))
  gained_child k e f = ap (λ b. if b && not (nat_eq k d.main) then length (shown_in (component_of d k)) else 0) e ∙ ap (λ b. if not b then length (shown_in (component_of d k)) else 0) f

  kept_groups : (k : ℕ) (g : ℕ) (old : PlainGroup) → slice_get (component_at d k).groups g ≡ Some old
      → (x : PlainGroup) × (slice_get (map (λ y. group_with d (component_at d k) y []) (component_at d k).groups) g ≡ Some x) × (x.kind ≡ old.kind)
  kept_groups k g old e = (group_with d (component_at d k) old [], at (component_at d k).groups g e, refl)
    where
      at : (gs : List PlainGroup) (n : ℕ) → slice_get gs n ≡ Some old → slice_get (map (λ y. group_with d (component_at d k) y []) gs) n ≡ Some (group_with d (component_at d k) old [])
      at [] n e = absurd cc
      at (x ∷ gs) zero e = ap mapped e
        where
          mapped : Option PlainGroup → Option PlainGroup
          mapped None = None
          mapped (Some y) = Some (group_with d (component_at d k) y [])
      at (x ∷ gs) (suc n) e = at gs n e

  counted_kinds : (k : ℕ) (g : ℕ) (old : PlainGroup) → slice_get (component_at d k).groups g ≡ Some old
      → (x : PlainGroup) × (slice_get (counted_groups d (component_at d k) (cells_of (component_of d k)) (length (component_at d k).cells) (component_at d k).groups) g ≡ Some x) × (x.kind ≡ old.kind)
  counted_kinds k g old e = by (counted_groups-at (component_at d k) (cells_of (component_of d k)) (length (component_at d k).cells) 0 (component_at d k).groups g old e)
    where
      by : IsCountedAt (component_at d k) (length (component_at d k).cells) (length (counters_from (cells_of (component_of d k)) (length (component_at d k).cells) 0 (component_at d k).groups))
          (counted_groups d (component_at d k) (cells_of (component_of d k)) (length (component_at d k).cells) (component_at d k).groups) g old
          → (x : PlainGroup) × (slice_get (counted_groups d (component_at d k) (cells_of (component_of d k)) (length (component_at d k).cells) (component_at d k).groups) g ≡ Some x) × (x.kind ≡ old.kind)
      by (new, at, (more, is, counter)) = (new, at, ap (λ x. x.kind) is)

  pub kept_grown : (k : ℕ) → is_reached d k ≡ false → IsGrown k (kept_component d k)
  kept_grown k e = record {
    name = refl;
    inputs = refl;
    declared = λ n decl at. at;
    cells = λ c cell at. at;
    groups = kept_groups k;
    invokes = length-map (moved_invoke d (component_at d k)) (component_at d k).invokes;
    outputs = let z : gained d k ≡ 0 = gained_kept k e in omega arith;
  }

  pub child_grown : (k : ℕ) (names : List (List ℕ)) → is_reached d k ≡ true → nat_eq k d.main ≡ false → IsGrown k (child_component d k names)
  child_grown k names e f = record {
    name = refl;
    inputs = refl;
    declared = λ n decl at. front (component_at d k).outputs (count_outputs names (2 * length (counters (component_of d k))) (shown_in (component_of d k))) n decl at;
    cells = λ c cell at. front (component_at d k).cells (counter_cells (component_at d k).place names 0 (length (counters (component_of d k)))) c cell at;
    groups = counted_kinds k;
    invokes = length-map (moved_invoke d (component_at d k)) (component_at d k).invokes;
    outputs = length-append (component_at d k).outputs (count_outputs names (2 * length (counters (component_of d k))) (shown_in (component_of d k)))
        ∙ ap (λ n. length (component_at d k).outputs + n) (count_outputs-length names (2 * length (counters (component_of d k))) (shown_in (component_of d k)) ∙ sym (gained_child k e f));
  }

  pub main_grown : (k : ℕ) (names : List (List ℕ)) → nat_eq k d.main ≡ true → IsGrown k (main_component d k names)
  main_grown k names e = record {
    name = refl;
    inputs = refl;
    declared = λ n decl at. at;
    invokes = length-map (moved_invoke d (component_at d k)) (component_at d k).invokes;
    cells = λ c cell at. front (component_at d k).cells (counter_cells (component_at d k).place names 0 (length (counters (component_of d k)))
        ++ memory_cell (component_at d k).place (name_at names (2 * length (counters (component_of d k)))) (length (shown_in (component_of d k))) ∷ []) c cell at;
    groups = λ g old at. by g old (counted_kinds k g old at);
    outputs = let z : gained d k ≡ 0 = gained_main k e in omega arith;
  }
    where
      by : (g : ℕ) (old : PlainGroup)
          → (x : PlainGroup) × (slice_get (counted_groups d (component_at d k) (cells_of (component_of d k)) (length (component_at d k).cells) (component_at d k).groups) g ≡ Some x) × (x.kind ≡ old.kind)
          → (x : PlainGroup) × (slice_get (main_component d k names).groups g ≡ Some x) × (x.kind ≡ old.kind)
      by g old (x, at, kind) = (
        x,
        front (counted_groups d (component_at d k) (cells_of (component_of d k)) (length (component_at d k).cells) (component_at d k).groups)
            (store_groups (component_at d k).place names (length (component_at d k).cells + 2 * length (counters (component_of d k))) (address_width (length (shown_in (component_of d k)))) (suc (2 * length (counters (component_of d k)))) (length (component_at d k).groups) 0 (shown_in (component_of d k))) g x at,
        kind,
      )

  -- by the three kinds of components
  pub by_kind : (P : PlainComponent → Type 0) (k : ℕ)
      → ((names : List (List ℕ)) → names ≡ free_names (names_of (component_at d k)) (suc (2 * length (counters (component_of d k)) + length (shown_in (component_of d k)))) → nat_eq k d.main ≡ true → P (main_component d k names))
      → ((names : List (List ℕ)) → names ≡ free_names (names_of (component_at d k)) (2 * length (counters (component_of d k)) + length (shown_in (component_of d k))) → nat_eq k d.main ≡ false → is_reached d k ≡ true → P (child_component d k names))
      → (nat_eq k d.main ≡ false → is_reached d k ≡ false → P (kept_component d k))
      → P (instrumented_component d k)
  by_kind P k main child kept =
      by_test P (nat_eq k d.main) (main_component d k (free_names (names_of (component_at d k)) (suc (2 * length (counters (component_of d k)) + length (shown_in (component_of d k))))))
      (if is_reached d k then child_component d k (free_names (names_of (component_at d k)) (2 * length (counters (component_of d k)) + length (shown_in (component_of d k)))) else kept_component d k)
      (λ e. main (free_names (names_of (component_at d k)) (suc (2 * length (counters (component_of d k)) + length (shown_in (component_of d k))))) refl e)
      (λ f. by_test P (is_reached d k) (child_component d k (free_names (names_of (component_at d k)) (2 * length (counters (component_of d k)) + length (shown_in (component_of d k))))) (kept_component d k)
      (λ e. child (free_names (names_of (component_at d k)) (2 * length (counters (component_of d k)) + length (shown_in (component_of d k)))) refl f e) (λ e. kept f e))

  pub is_grown : (k : ℕ) → IsGrown k (instrumented_component d k)
  is_grown k = by_kind (IsGrown k) k (λ names e f. main_grown k names f) (λ names e f h. child_grown k names h f) (λ f e. kept_grown k e)

  -- THE COMPONENTS of the instrumented design
  pub components-length : length (with_counts d).components ≡ length d.components
  components-length = length-map-range_with_len (λ k. instrumented_component d k) 0 (length d.components)

  pub component_at-with_counts : (k : ℕ) → k < length d.components → component_at (with_counts d) k ≡ instrumented_component d k
  component_at-with_counts k less = get_or-map-range_with_len (λ j. instrumented_component d j) 0 (length d.components) k k no_component less (omega arith)

  pub grown_at : (k : ℕ) → k < length d.components → IsGrown k (component_at (with_counts d) k)
  grown_at k less = subst (IsGrown k) (sym (component_at-with_counts k less)) (is_grown k)

  -- PORTS: what is there is there when it is moved
  abbrev pub gained_by : PlainKind → ℕ
  gained_by (OfPrimitive p) = 0
  gained_by (OfComponent k) = gained d k

  pub kind_ports-with_counts : (kind : PlainKind) → IsKind d kind → kind_ports (with_counts d) kind ≡ kind_ports d kind + gained_by kind
  kind_ports-with_counts (OfPrimitive p) h = let z : length (row_of p).ports ≡ length (row_of p).ports + 0 = omega arith in z
  kind_ports-with_counts (OfComponent k) less =
      let g = grown_at k less in
      ap (λ decls. 2 + length decls + length (component_at (with_counts d) k).outputs) g.inputs ∙ ap (λ n. 2 + length (component_at d k).inputs + n) g.outputs
      ∙ let z : 2 + length (component_at d k).inputs + (length (component_at d k).outputs + gained d k) ≡ 2 + length (component_at d k).inputs + length (component_at d k).outputs + gained d k = omega arith in z

  moved_within : (kind : PlainKind) (p : ℕ) → p < kind_ports d kind → moved_by d kind p < kind_ports d kind + gained_by kind
  moved_within (OfPrimitive q) p less = let z : p < length (row_of q).ports + 0 = omega arith in z
  moved_within (OfComponent k) p less = by (nat_eq p (first_gained (component_at d k))) refl
    where
      by : (b : Bool) → nat_eq p (first_gained (component_at d k)) ≡ b → (if b then p + gained d k else p) < 2 + length (component_at d k).inputs + length (component_at d k).outputs + gained d k
      by true e = omega arith
      by false e = omega arith

  module _ (rules : IsDesign d) where
    pub moved_names : (k : ℕ) → k < length d.components → (new : PlainComponent) → IsGrown k new → (p : PortRef) → Names d (component_at d k) p → Names (with_counts d) new (moved_in d (component_at d k) p)
    moved_names k less new grown (ports.Cell c p) (cell, at, within) = (cell, grown.cells c cell at, low)
      where
        number : moved_number d (slice_get (component_at d k).cells c) p ≡ moved_by d cell.kind p
        number = ap (λ o. moved_number d o p) at

        high : moved_by d cell.kind p < kind_ports (with_counts d) cell.kind
        high = subst (λ m. moved_by d cell.kind p < m) (sym (kind_ports-with_counts cell.kind ((rules.components k less).cells cell (in_at (component_at d k).cells c cell at)).kind)) (moved_within cell.kind p within)

        low : moved_number d (slice_get (component_at d k).cells c) p < kind_ports (with_counts d) cell.kind
        low = subst (λ m. m < kind_ports (with_counts d) cell.kind) (sym number) high
    moved_names k less new grown (ports.Input n) within = subst (λ decls. n < length decls) (sym grown.inputs) within
    moved_names k less new grown (ports.Output n) within = let z : length new.outputs ≡ length (component_at d k).outputs + gained d k = grown.outputs in omega arith
    moved_names k less new grown (ports.Done g) within = by (there (component_at d k).groups g within)
      where
        there : (gs : List PlainGroup) (n : ℕ) → n < length gs → (x : PlainGroup) × (slice_get gs n ≡ Some x)
        there [] n l = absurd (omega arith)
        there (x ∷ gs) zero l = (x, refl)
        there (x ∷ gs) (suc n) l = there gs n (omega arith)

        by : (x : PlainGroup) × (slice_get (component_at d k).groups g ≡ Some x) → g < length new.groups
        by (x, at) = let y = grown.groups g x at in there_below new.groups g y.0 y.1
    moved_names k less new grown (ports.Literal w v) any = any
