-- AN INSTRUMENTED DESIGN IS A DESIGN, where 32 bits count its size.
use Rattle.std.proofs.Common.{◌≡◌, ℕ, zero, suc, ◌+◌, ◌*◌, ◌^◌, ◌<◌, ◌≤◌, Bool, true, false, inl, inr, ◌⊎◌, List, [], ◌∷◌, ◌++◌, length, map, get_or, Option, Some, None, refl, sym, ap, ◌∙◌, subst, arith}
use Rattle.std.specs.Prelude.{nat_eq, if◌then◌else◌}
use Rattle.std.specs.List.{slice_get}
use Rattle.std.proofs.lemmas.Bool.{cases_lt, eqb-true, eqb-false, eq-eqb}
use Rattle.std.proofs.lemmas.List.{length-append}
use Rattle.cx_text.proofs.MemberLaws.{image_in, in_either}
use Rattle.cx_text.proofs.ListLaws.{behind, length-map, there_below as below_there}
use Rattle.cx_text.proofs.OptionLaws.{same_some, none_is_some}
use Rattle.cx_text.specs.declared.places.Place.{Place}
use Rattle.cx_prim.specs.declared.names.PrimitiveName.TheVariants as primitives
use Rattle.cx_meaning.specs.Designs.{PlainGroup, group_at, OfPrimitive, OfComponent, PlainCell, PlainForm, Empty, Enable, Seq, Par, If, While, Repeat, StaticSeq, StaticPar, StaticIf, StaticRepeat, Timed, statements_of, PlainComponent, no_component, PlainDesign, component_at}
use Rattle.cx_meaning.specs.Instances.{cells_of}
use Rattle.cx_text.specs.Members.{In}
use Rattle.cx_meaning.proofs.DesignsLemmas.{there_below}
use Rattle.cx_rules.specs.Items.{Dynamic, Visited, visit, visit_all, statements_in, test_in, is_comb}
use Rattle.cx_rules.specs.Ports.{component_of}
use Rattle.cx_rules.specs.Sizes.{size_of, groups_size, sizes_of, design_size}
use Rattle.cx_rules.specs.Wellformed.{IsComponent, IsDesign, IsEnable, IsForm, IsPort, IsWith, LeadsTo, by_cell, by_way_of}
use Rattle.cx_rewrites.specs.Moving.{moved_form, moved_statement}
use Rattle.cx_rewrites.proofs.MovedLists.{moved_visited, visit-moved}
use Rattle.cx_profiling.specs.Counters.{counters, Shown, shown_in, entry_count}
use Rattle.cx_profiling.specs.FreeNames.{profile_name, free_names, names_of}
use Rattle.cx_profiling.specs.Instrumented.{is_reached, counter_cells, count_outputs, address_width, memory_cell, name_at, store_groups, store_enables, moved_in, counted_groups, kept_component, child_component, main_component, instrumented_component, with_counts, gained, instrumented}
use Rattle.cx_profiling.proofs.ReachedLemmas.{is_reached-from}
use Rattle.cx_profiling.proofs.NameLemmas.{free_names-length, free_names-free, free_names-apart, free_names-numbered}
use Rattle.cx_profiling.proofs.CounterLemmas.{counter_cells-length}
use Rattle.cx_profiling.proofs.GainedLemmas.{IsGrown, grown_at, by_kind, components-length, component_at-with_counts, counted_groups-length, count_outputs-length, store_groups-length, gained_main, kept_grown, child_grown, main_grown}
use Rattle.cx_profiling.proofs.FitLemmas.{FitsStatement, fits_statement, is_statement, moved_statement_fits, is_assign}
use Rattle.cx_profiling.proofs.NewAssigns.{store_groups-at}
use Rattle.cx_profiling.proofs.InvokesKept.{keeps_at, invokes_kept, invoked_kept, captures_apart_kept}
use Rattle.cx_profiling.proofs.ComponentLemmas.{IsPart, AreNew, kept_part, child_part, main_part}

-- SIZES
pub size_within : (parts : List PlainComponent) (k : ℕ) → k < length parts → size_of (get_or parts k no_component) < sizes_of parts
size_within [] k less = absurd (omega arith)
size_within (x ∷ parts) zero less = let z : size_of x < size_of x + 1 + sizes_of parts = omega arith in z
size_within (x ∷ parts) (suc k) less = let z : size_of (get_or parts k no_component) < sizes_of parts = size_within parts k (omega arith) in let y : size_of (get_or parts k no_component) < size_of x + 1 + sizes_of parts = omega arith in y

many_groups : (gs : List PlainGroup) → length gs ≤ groups_size gs
many_groups [] = omega arith
many_groups (g ∷ gs) = let z : length gs ≤ groups_size gs = many_groups gs in omega arith

-- the signature ports, cells and groups of a component are no more than its size
pub many_parts : (part : PlainComponent) → length part.inputs + length part.outputs + length part.cells + length part.groups ≤ size_of part
many_parts part = let z : length part.groups ≤ groups_size part.groups = many_groups part.groups in omega arith

pub names-length : (part : PlainComponent) → length (names_of part) ≡ length part.inputs + length part.outputs + (length part.cells + length part.groups)
names-length part =
    length-append (map (λ port. port.name) (part.inputs ++ part.outputs)) (map (λ cell. cell.name) part.cells ++ map (λ group. group.name) part.groups)
    ∙ ap (λ n. n + length (map (λ cell. cell.name) part.cells ++ map (λ group. group.name) part.groups)) (length-map (λ port. port.name) (part.inputs ++ part.outputs) ∙ length-append part.inputs part.outputs)
    ∙ ap (λ n. length part.inputs + length part.outputs + n)
    (length-append (map (λ cell. cell.name) part.cells) (map (λ group. group.name) part.groups) ∙ ap (λ n. n + length (map (λ group. group.name) part.groups)) (length-map (λ cell. cell.name) part.cells)
    ∙ ap (λ n. length part.cells + n) (length-map (λ group. group.name) part.groups))

-- NEW NAMES
profile_port : (n : ℕ) → IsPort (record { name = profile_name n; width = 64 })
profile_port n = record {
  some_bits = omega arith;
  few_bits = omega arith;
  no_go = λ e. let z : 112 ≡ 103 = first e in omega arith;
  no_clk = λ e. let z : 112 ≡ 99 = first e in omega arith;
  no_reset = λ e. let z : 112 ≡ 114 = first e in omega arith;
  no_done = λ e. let z : 112 ≡ 100 = first e in omega arith;
}
  where
    first : {name : List ℕ} → profile_name n ≡ name → 112 ≡ get_or name 0 0
    first e = ap (λ bytes. get_or bytes 0 0) e

module _ (d : PlainDesign) (rules : IsDesign d) (k : ℕ) (there : k < length d.components) where
  abbrev part : PlainComponent
  part = component_at d k

  abbrev own : ℕ
  own = length (counters (component_of d k))

  abbrev shown : List Shown
  shown = shown_in (component_of d k)

  are_new : (needed : ℕ) → needed + length (names_of part) < 2 ^ 64 → AreNew d rules k there needed (free_names (names_of part) needed)
  are_new needed few = record {
    many = let z : length (free_names (names_of part) needed) ≡ needed = free_names-length (names_of part) needed few in omega arith;
    apart = free_names-apart (names_of part) needed few;
    free = λ name i j. free_names-free (names_of part) needed name i j;
    other = λ name i. by name (free_names-numbered (names_of part) needed name i);
  }
    where
      by : (name : List ℕ) → (m : ℕ) × (name ≡ profile_name m) → IsPort (record { name = name; width = 64 })
      by name (m, e) = subst (λ x. IsPort (record { name = x; width = 64 })) (sym e) (profile_port m)

  -- STATEMENTS: old ones, moved
  module _ (new : PlainComponent) (grown : IsGrown d k new) where
    group_kept : (g : ℕ) (b : Bool) → g < length part.groups → is_comb (group_at part g).kind ≡ b → (g < length new.groups) × (is_comb (group_at new g).kind ≡ b)
    group_kept g b less kind =
        let x = grown.groups g (group_at part g) (there_below part.groups g less) in
        let more : g < length new.groups = below_there new.groups g x.0 x.1 in
        let same : group_at new g ≡ x.0 = same_some (group_at new g) x.0 (sym (there_below new.groups g more) ∙ x.1) in
        (more, ap (λ y. is_comb y.kind) same ∙ ap is_comb x.2 ∙ kind)

    with_kept : (comb : Option ℕ) → IsWith part comb → IsWith new comb
    with_kept None h = tt
    with_kept (Some g) (less, kind) = group_kept g true less kind

    form_kept : (form : PlainForm) → IsForm part form → IsForm new (moved_form (moved_in d part) form)
    form_kept Empty h = tt
    form_kept (Enable g) (less, kind) = group_kept g false less kind
    form_kept (Seq parts) h = tt
    form_kept (Par arms) h = tt
    form_kept (If test comb a b) h = with_kept comb h
    form_kept (While test comb a) h = with_kept comb h
    form_kept (Repeat count a) h = tt
    form_kept (StaticSeq length parts) h = tt
    form_kept (StaticPar length arms) h = tt
    form_kept (StaticIf length test a b) h = tt
    form_kept (StaticRepeat length count a) h = tt
    form_kept (Timed n) h = subst (λ m. n < m) (sym grown.invokes) h

    some : 0 < length d.components
    some = omega arith

    old_statement : (v : Visited) → In (visit Dynamic (moved_statement (moved_in d part) part.control)) v → FitsStatement (with_counts d) new v
    old_statement v i = by (image_in (moved_visited (moved_in d part)) (statements_in part) v (subst (λ list. In list v) (visit-moved (moved_in d part) Dynamic part.control) i))
      where
        by : (w : Visited) × In (statements_in part) w × (moved_visited (moved_in d part) w ≡ v) → FitsStatement (with_counts d) new v
        by (w, j, e) =
            let s = (rules.components k there).statements w j in
            let f : FitsStatement d part w = fits_statement d some k w s in
            subst (FitsStatement (with_counts d) new) e (moved_statement_fits d rules k there new grown w f (form_kept w.form f.form))

  -- the statements of main: a seq, the old ones, and an enable for each count
  enables_in : (place : Place) (g : ℕ) (xs : List Shown) (v : Visited) → In (visit_all Dynamic (statements_of (store_enables place g xs))) v → (i : ℕ) × (i < length xs) × (v.form ≡ Enable (g + i))
  enables_in place g [] v i = absurd i
  enables_in place g (x ∷ xs) v (inl e) = let z : g ≡ g + 0 = omega arith in (0, omega arith, ap (λ w. w.form) (sym e) ∙ ap Enable z)
  enables_in place g (x ∷ xs) v (inr i) = by (enables_in place (suc g) xs v i)
    where
      by : (i : ℕ) × (i < length xs) × (v.form ≡ Enable (suc g + i)) → (i : ℕ) × (i < suc (length xs)) × (v.form ≡ Enable (g + i))
      by (i, less, e) = let z : suc g + i ≡ g + suc i = omega arith in (suc i, omega arith, e ∙ ap Enable z)

  module _ (names : List (List ℕ)) (grown : IsGrown d k (main_component d k names)) where
    abbrev made : PlainComponent
    made = main_component d k names

    abbrev stores : List PlainGroup
    stores = store_groups part.place names (length part.cells + 2 * own) (address_width (length shown)) (suc (2 * own)) (length part.groups) 0 shown

    abbrev old_groups : List PlainGroup
    old_groups = counted_groups d part (cells_of (component_of d k)) (length part.cells) part.groups

    pub groups-length : length made.groups ≡ length part.groups + length shown
    groups-length = length-append old_groups stores ∙ ap (λ n. n + length stores) (counted_groups-length d part (cells_of (component_of d k)) (length part.cells) part.groups)
        ∙ ap (λ n. length part.groups + n) (store_groups-length part.place names (length part.cells + 2 * own) (address_width (length shown)) (suc (2 * own)) (length part.groups) 0 shown)

    enable_kept : (i : ℕ) → i < length shown → IsEnable made (length part.groups + i)
    enable_kept i less =
        let more : length part.groups + i < length made.groups = (let z : length made.groups ≡ length part.groups + length shown = groups-length in omega arith) in
        let long : length old_groups ≡ length part.groups = counted_groups-length d part (cells_of (component_of d k)) (length part.cells) part.groups in
        let at : slice_get stores i ≡ Some (group_at made (length part.groups + i)) =
        sym (behind old_groups stores (length part.groups + i) i (ap (λ n. n + i) (sym long))) ∙ there_below made.groups (length part.groups + i) more in
        let s = store_groups-at part.place names (length part.cells + 2 * own) (address_width (length shown)) (suc (2 * own)) (length part.groups) 0 shown i (group_at made (length part.groups + i)) at in
        (more, ap (λ y. is_comb y.kind) s.2)

    main_statement : (v : Visited) → In (statements_in made) v → FitsStatement (with_counts d) made v
    main_statement v (inl e) = subst (FitsStatement (with_counts d) made) e (record { form = tt; test = λ p f. absurd (none_is_some p f); no_hole = λ p f. absurd (none_is_some p f) })
    main_statement v (inr i) = by (in_either (visit Dynamic (moved_statement (moved_in d part) part.control)) (visit_all Dynamic (statements_of (store_enables part.place (length part.groups) shown))) v i)
      where
        new : (i : ℕ) × (i < length shown) × (v.form ≡ Enable (length part.groups + i)) → FitsStatement (with_counts d) made v
        new (i, less, e) = record {
          form = subst (IsForm made) (sym e) (enable_kept i less);
          test = λ p f. absurd (none_is_some p (ap test_in (sym e) ∙ f));
          no_hole = λ p f. absurd (none_is_some p (ap test_in (sym e) ∙ f));
        }

        by : In (visit Dynamic (moved_statement (moved_in d part) part.control)) v ⊎ In (visit_all Dynamic (statements_of (store_enables part.place (length part.groups) shown))) v → FitsStatement (with_counts d) made v
        by (inl j) = old_statement made grown v j
        by (inr j) = new (enables_in part.place (length part.groups) shown v j)

  -- WHAT A COMPONENT KEEPS, all of it
  pub record IsWhole (new : PlainComponent) : Type 0 where
    pub part : IsPart (with_counts d) k new
    pub statements : (v : Visited) → In (statements_in new) v → FitsStatement (with_counts d) new v

  module _ (counted : 1 ≤ entry_count d) where
    whole : size_of (instrumented_component d k) < 2 ^ 32 → IsWhole (instrumented_component d k)
    whole few = by_kind d (λ new. size_of new < 2 ^ 32 → IsWhole new) k main child kept few
      where
        taken : length (names_of part) ≡ length part.inputs + length part.outputs + (length part.cells + length part.groups)
        taken = names-length part

        kept : nat_eq k d.main ≡ false → is_reached d k ≡ false → size_of (kept_component d k) < 2 ^ 32 → IsWhole (kept_component d k)
        kept f e few = let grown = kept_grown d k e in record { part = kept_part d rules k there grown; statements = old_statement (kept_component d k) grown }

        child : (names : List (List ℕ)) → names ≡ free_names (names_of part) (2 * own + length shown) → nat_eq k d.main ≡ false → is_reached d k ≡ true → size_of (child_component d k names) < 2 ^ 32 → IsWhole (child_component d k names)
        child names e f reached few =
            let grown = child_grown d k names reached f in
            let outs : length (child_component d k names).outputs ≡ length part.outputs + length shown =
            length-append part.outputs (count_outputs names (2 * own) shown) ∙ ap (λ n. length part.outputs + n) (count_outputs-length names (2 * own) shown) in
            let cells : length (child_component d k names).cells ≡ length part.cells + 2 * own =
            length-append part.cells (counter_cells part.place names 0 own) ∙ ap (λ n. length part.cells + n) (counter_cells-length part.place names 0 own) in
            let groups : length (child_component d k names).groups ≡ length part.groups = counted_groups-length d part (cells_of (component_of d k)) (length part.cells) part.groups in
            let size : length (child_component d k names).inputs + length (child_component d k names).outputs + length (child_component d k names).cells + length (child_component d k names).groups ≤ size_of (child_component d k names) =
            many_parts (child_component d k names) in
            let room : 2 * own + length shown + length (names_of part) < 2 ^ 64 = (let t = taken in omega arith) in
            record {
              part = child_part d rules k there names (subst (AreNew d rules k there (2 * own + length shown)) (sym e) (are_new (2 * own + length shown) room)) reached grown;
              statements = old_statement (child_component d k names) grown;
            }

        main : (names : List (List ℕ)) → names ≡ free_names (names_of part) (suc (2 * own + length shown)) → nat_eq k d.main ≡ true → size_of (main_component d k names) < 2 ^ 32 → IsWhole (main_component d k names)
        main names e f few =
            let grown = main_grown d k names f in
            let same : k ≡ d.main = eqb-true k d.main f in
            let cells : length (main_component d k names).cells ≡ length part.cells + (2 * own + 1) =
            length-append part.cells (counter_cells part.place names 0 own ++ memory_cell part.place (name_at names (2 * own)) (length shown) ∷ [])
            ∙ ap (λ n. length part.cells + n) (length-append (counter_cells part.place names 0 own) (memory_cell part.place (name_at names (2 * own)) (length shown) ∷ []) ∙ ap (λ n. n + 1) (counter_cells-length part.place names 0 own)) in
            let groups : length (main_component d k names).groups ≡ length part.groups + length shown = groups-length names grown in
            let size : length (main_component d k names).inputs + length (main_component d k names).outputs + length (main_component d k names).cells + length (main_component d k names).groups ≤ size_of (main_component d k names) =
            many_parts (main_component d k names) in
            let room : suc (2 * own + length shown) + length (names_of part) < 2 ^ 64 = (let t = taken in omega arith) in
            record {
              part = main_part d rules k there names (subst (AreNew d rules k there (suc (2 * own + length shown))) (sym e) (are_new (suc (2 * own + length shown)) room)) same
                  (is_reached-from d rules k (inl (sym same))) grown (subst (λ j. 1 ≤ length (shown_in (component_of d j))) (sym same) counted) (omega arith);
              statements = main_statement names grown;
            }

module _ (d : PlainDesign) (rules : IsDesign d) (counted : 1 ≤ entry_count d) (few : design_size (with_counts d) < 2 ^ 32) where
  some_components : 0 < length d.components
  some_components = let m : d.main < length d.components = rules.main_there in omega arith

  some_grown : 0 < length (with_counts d).components
  some_grown = subst (λ n. 0 < n) (sym (components-length d)) some_components

  component_whole : (k : ℕ) (there : k < length d.components) → IsWhole d rules k there (component_at (with_counts d) k)
  component_whole k there =
      let small : size_of (component_at (with_counts d) k) < design_size (with_counts d) = size_within (with_counts d).components k (subst (λ n. k < n) (sym (components-length d)) there) in
      let size : size_of (instrumented_component d k) < 2 ^ 32 = subst (λ part. size_of part < 2 ^ 32) (component_at-with_counts d k there) (omega arith) in
      subst (IsWhole d rules k there) (sym (component_at-with_counts d k there)) (whole d rules k there counted size)

  keeps_component : (k : ℕ) → k < length d.components → IsComponent (with_counts d) k
  keeps_component k there =
      let w = component_whole k there in
      let p = w.part in
      record {
        cells = p.cells;
        assigns = λ owner a stands. is_assign (with_counts d) some_grown k owner a (p.assigns owner a stands);
        statements = λ v i. is_statement (with_counts d) some_grown k v (w.statements v i);
        invokes = invokes_kept d rules k there;
        invoked = invoked_kept d rules k there;
        captures_apart = captures_apart_kept d rules k there;
        inputs = p.inputs;
        outputs = p.outputs;
        port_names = p.port_names;
        cell_names = p.cell_names;
        group_names = p.group_names;
        no_primitive_name = p.no_primitive_name;
      }

  -- NO NEW CELL is of a component
  counters_bare : (place : Place) (names : List (List ℕ)) (n k : ℕ) (cell : PlainCell) (j : ℕ) → In (counter_cells place names n k) cell → cell.kind ≡ OfComponent j → ⊥
  counters_bare place names n zero cell j i e = i
  counters_bare place names n (suc k) cell j (inl same) e = primitive_component (ap (λ c. c.kind) same ∙ e)
    where
      primitive_component : OfPrimitive (record { name = primitives.Reg; numbers = 64 ∷ [] }) ≡ OfComponent j → ⊥
      primitive_component f = absurd cc
  counters_bare place names n (suc k) cell j (inr (inl same)) e = primitive_component (ap (λ c. c.kind) same ∙ e)
    where
      primitive_component : OfPrimitive (record { name = primitives.Add; numbers = 64 ∷ [] }) ≡ OfComponent j → ⊥
      primitive_component f = absurd cc
  counters_bare place names n (suc k) cell j (inr (inr i)) e = counters_bare place names (suc (suc n)) k cell j i e

  memory_bare : (place : Place) (name : List ℕ) (n : ℕ) (cell : PlainCell) (j : ℕ) → In (memory_cell place name n ∷ []) cell → cell.kind ≡ OfComponent j → ⊥
  memory_bare place name n cell j (inl same) e = primitive_component (ap (λ c. c.kind) same ∙ e)
    where
      primitive_component : OfPrimitive (record { name = primitives.StdMemD1; numbers = 64 ∷ n ∷ address_width n ∷ [] }) ≡ OfComponent j → ⊥
      primitive_component f = absurd cc
  memory_bare place name n cell j (inr i) e = i

  -- a cell of a component is an old one
  abbrev IsOldPart : ℕ → PlainComponent → Type 0
  IsOldPart k new = (cell : PlainCell) (j : ℕ) → In new.cells cell → cell.kind ≡ OfComponent j → In (component_at d k).cells cell

  part_old : (k : ℕ) → IsOldPart k (instrumented_component d k)
  part_old k = by_kind d (IsOldPart k) k main child (λ f e cell j i kind. i)
    where
      child : (names : List (List ℕ)) → names ≡ free_names (names_of (component_at d k)) (2 * length (counters (component_of d k)) + length (shown_in (component_of d k))) → nat_eq k d.main ≡ false → is_reached d k ≡ true → IsOldPart k (child_component d k names)
      child names n f e cell j i kind = by (in_either (component_at d k).cells (counter_cells (component_at d k).place names 0 (length (counters (component_of d k)))) cell i)
        where
          by : In (component_at d k).cells cell ⊎ In (counter_cells (component_at d k).place names 0 (length (counters (component_of d k)))) cell → In (component_at d k).cells cell
          by (inl old) = old
          by (inr new) = absurd (counters_bare (component_at d k).place names 0 (length (counters (component_of d k))) cell j new kind)

      main : (names : List (List ℕ)) → names ≡ free_names (names_of (component_at d k)) (suc (2 * length (counters (component_of d k)) + length (shown_in (component_of d k)))) → nat_eq k d.main ≡ true → IsOldPart k (main_component d k names)
      main names n f cell j i kind =
          by (in_either (component_at d k).cells (counter_cells (component_at d k).place names 0 (length (counters (component_of d k))) ++ memory_cell (component_at d k).place (name_at names (2 * length (counters (component_of d k)))) (length (shown_in (component_of d k))) ∷ []) cell i)
        where
          none : In (counter_cells (component_at d k).place names 0 (length (counters (component_of d k)))) cell
              ⊎ In (memory_cell (component_at d k).place (name_at names (2 * length (counters (component_of d k)))) (length (shown_in (component_of d k))) ∷ []) cell → ⊥
          none (inl new) = counters_bare (component_at d k).place names 0 (length (counters (component_of d k))) cell j new kind
          none (inr new) = memory_bare (component_at d k).place (name_at names (2 * length (counters (component_of d k)))) (length (shown_in (component_of d k))) cell j new kind

          by : In (component_at d k).cells cell ⊎ In (counter_cells (component_at d k).place names 0 (length (counters (component_of d k)))
              ++ memory_cell (component_at d k).place (name_at names (2 * length (counters (component_of d k)))) (length (shown_in (component_of d k))) ∷ []) cell → In (component_at d k).cells cell
          by (inl old) = old
          by (inr new) = absurd (none (in_either (counter_cells (component_at d k).place names 0 (length (counters (component_of d k)))) (memory_cell (component_at d k).place (name_at names (2 * length (counters (component_of d k)))) (length (shown_in (component_of d k))) ∷ []) cell new))

  not_there : (parts : List PlainComponent) (k : ℕ) (cell : PlainCell) → length parts ≤ k → In (get_or parts k no_component).cells cell → ⊥
  not_there [] k cell le i = i
  not_there (x ∷ parts) zero cell le i = omega arith
  not_there (x ∷ parts) (suc k) cell le i = not_there parts k cell (omega arith) i

  leads_old : (k j : ℕ) → LeadsTo (with_counts d) k j → LeadsTo d k j
  leads_old k j (by_cell n cell i e) = by (cases_lt k (length d.components))
    where
      by : (k < length d.components) ⊎ (length d.components ≤ k) → LeadsTo d k j
      by (inl less) = by_cell j cell (subst (λ part. IsOldPart k part) (sym (component_at-with_counts d k less)) (part_old k) cell j i e) e
      by (inr past) = absurd (not_there (with_counts d).components k cell (subst (λ n. n ≤ k) (sym (components-length d)) past) i)
  leads_old k j (by_way_of m a b) = by_way_of m (leads_old k m a) (leads_old m j b)

  bare_list : {A : Type 0} (xs : List A) → length xs ≡ 0 → xs ≡ []
  bare_list [] e = refl
  bare_list (x ∷ xs) e = absurd (omega arith)

  kept_name : (k : ℕ) → k < length (with_counts d).components → (component_at (with_counts d) k).name ≡ (component_at d k).name
  kept_name k less = (grown_at d k (subst (λ n. k < n) (components-length d) less)).name

  -- THE INSTRUMENTED DESIGN keeps what every design keeps
  pub with_counts_keeps : IsDesign (with_counts d)
  with_counts_keeps =
      let g = grown_at d d.main rules.main_there in
      let outs : length (component_at (with_counts d) d.main).outputs ≡ length (component_at d d.main).outputs + gained d d.main = g.outputs in
      let none : gained d d.main ≡ 0 = gained_main d d.main (eq-eqb d.main d.main refl) in
      let bare : length (component_at d d.main).outputs ≡ 0 = ap length rules.main_bare.1 in
      record {
        main_there = subst (λ n. d.main < n) (sym (components-length d)) rules.main_there;
        main_named = g.name ∙ rules.main_named;
        main_dynamic = (keeps_at d d.main rules.main_there).latency ∙ rules.main_dynamic;
        main_bare = (g.inputs ∙ rules.main_bare.0, bare_list (component_at (with_counts d) d.main).outputs (omega arith));
        components = λ k less. keeps_component k (subst (λ n. k < n) (components-length d) less);
        component_names = λ j k a b e. rules.component_names j k (subst (λ n. j < n) (components-length d) a) (subst (λ n. k < n) (components-length d) b) (sym (kept_name j a) ∙ e ∙ kept_name k b);
        not_recursive = λ k l. rules.not_recursive k (leads_old k k l);
        few_parts = few;
      }

-- of any design
pub instrumented_keeps : (d : PlainDesign) → IsDesign d → design_size (instrumented d) < 2 ^ 32 → IsDesign (instrumented d)
instrumented_keeps d rules few = by (nat_eq (entry_count d) 0) refl few
  where
    by : (b : Bool) → nat_eq (entry_count d) 0 ≡ b → design_size (if b then d else with_counts d) < 2 ^ 32 → IsDesign (if b then d else with_counts d)
    by true e small = rules
    by false e small = with_counts_keeps d rules (omega (arith, eqb-false (entry_count d) 0 e)) small
