-- The three kinds of components of an instrumented design keep what every component keeps.
use Rattle.std.proofs.Common.{◌≡◌, ◌≢◌, ℕ, zero, suc, ◌+◌, ◌*◌, ◌^◌, ◌<◌, ◌≤◌, Bool, true, false, inl, inr, ◌⊎◌, List, [], ◌∷◌, ◌++◌, length, map, Option, Some, None, refl, sym, ap, ◌∙◌, subst, arith}
use Rattle.std.specs.Prelude.{if◌then◌else◌}
use Rattle.std.specs.List.{slice_get}
use Rattle.std.proofs.lemmas.Bool.{cases_lt}
use Rattle.std.proofs.lemmas.List.{map-append, length-append, append_assoc}
use Rattle.cx_text.proofs.MemberLaws.{image_in, in_either, in_left, in_right}
use Rattle.cx_text.proofs.ListLaws.{front, behind, there_at, append-front, there_below as below_there}
use Rattle.cx_text.proofs.OptionLaws.{same_some}
use Rattle.cx_text.specs.declared.places.Place.{Place}
use Rattle.cx_prim.specs.declared.names.PrimitiveName.{PrimitiveName}
use Rattle.cx_prim.specs.declared.names.PrimitiveName.TheVariants as primitives
use Rattle.cx_prim.specs.PrimitiveNames.{name_text}
use Rattle.cx_meaning.specs.declared.ports.PortRef.TheVariants as ports
use Rattle.cx_meaning.specs.declared.kinds.PortDecl.{PortDecl}
use Rattle.cx_meaning.specs.Designs.{PlainAssign, PlainGroup, group_at, PlainKind, OfPrimitive, OfComponent, PlainCell, PlainComponent, PlainDesign, component_at}
use Rattle.cx_meaning.specs.Instances.{Cells, cells_of}
use Rattle.cx_text.specs.Members.{In}
use Rattle.cx_meaning.proofs.DesignsLemmas.{there_below}
use Rattle.cx_rules.specs.Ports.{component_of}
use Rattle.cx_rules.proofs.PortsLemmas.{part_is}
use Rattle.cx_rules.specs.Wellformed.{AreApart, IsCell, IsKind, IsExternal, IsDesign, IsPort, IsSignature, StandsIn}
use Rattle.cx_rewrites.specs.Moving.{moved_assign}
use Rattle.cx_profiling.specs.Counters.{is_counted, counters, counters_from, Shown, shown_in}
use Rattle.cx_profiling.specs.FreeNames.{names_of}
use Rattle.cx_profiling.specs.Instrumented.{is_reached, counter_assigns, new_cell, counter_cells, name_at, count_outputs, output_assigns, address_width, memory_cell, store_groups, moved_in, moved_assigns, group_with, counted_groups, kept_component, child_component, main_component, with_counts}
use Rattle.cx_profiling.proofs.NameLemmas.{AllApart, some_names, apart_behind, some_apart, some_in}
use Rattle.cx_profiling.proofs.ThereLemmas.{Names}
use Rattle.cx_profiling.proofs.CounterLemmas.{register_at, adder_at, counter_cells-length}
use Rattle.cx_profiling.proofs.GainedLemmas.{IsGrown, components-length, counted_groups-length, counted_groups-at, count_outputs-length}
use Rattle.cx_profiling.proofs.FitLemmas.{FitsAssign, fits_assign, moved_fits}
use Rattle.cx_profiling.proofs.CellLemmas.{counter_cells-fit, memory_ports, memory_cell-fits}
use Rattle.cx_profiling.proofs.NewAssigns.{counters-is, HasCounters, counter_fits, shown_port, output_fits, store_fits, store_groups-at}

-- names of a list of parts that are made with names from number n on
cells_named : (place : Place) (names : List (List ℕ)) (n k : ℕ) → map (λ cell. cell.name) (counter_cells place names n k) ≡ some_names names n (2 * k)
cells_named place names n zero = refl
cells_named place names n (suc k) =
    let two : suc (suc (2 * k)) ≡ 2 * suc k = omega arith in
    ap (λ later. name_at names n ∷ name_at names (suc n) ∷ later) (cells_named place names (suc (suc n)) k) ∙ ap (some_names names n) two

outputs_named : (names : List (List ℕ)) (n : ℕ) (xs : List Shown) → map (λ port. port.name) (count_outputs names n xs) ≡ some_names names n (length xs)
outputs_named names n [] = refl
outputs_named names n (x ∷ xs) = ap (λ later. name_at names n ∷ later) (outputs_named names (suc n) xs)

stores_named : (place : Place) (names : List (List ℕ)) (memory width n g j : ℕ) (xs : List Shown) → map (λ group. group.name) (store_groups place names memory width n g j xs) ≡ some_names names n (length xs)
stores_named place names memory width n g j [] = refl
stores_named place names memory width n g j (x ∷ xs) = ap (λ later. name_at names n ∷ later) (stores_named place names memory width (suc n) (suc g) (suc j) xs)

groups_named : (d : PlainDesign) (part : PlainComponent) (cells : Cells) (c : ℕ) (gs : List PlainGroup) → map (λ group. group.name) (counted_groups d part cells c gs) ≡ map (λ group. group.name) gs
groups_named d part cells c [] = refl
groups_named d part cells c (g ∷ gs) = by (is_counted cells g) (groups_named d part cells (suc (suc c)) gs) (groups_named d part cells c gs)
  where
    by : (b : Bool) → map (λ group. group.name) (counted_groups d part cells (suc (suc c)) gs) ≡ map (λ group. group.name) gs → map (λ group. group.name) (counted_groups d part cells c gs) ≡ map (λ group. group.name) gs
        → map (λ group. group.name) (if b then group_with d part g (counter_assigns part.place c) ∷ counted_groups d part cells (suc (suc c)) gs else group_with d part g [] ∷ counted_groups d part cells c gs) ≡ g.name ∷ map (λ group. group.name) gs
    by true counted plain = ap (λ later. g.name ∷ later) counted
    by false counted plain = ap (λ later. g.name ∷ later) plain

kept_named : (d : PlainDesign) (part : PlainComponent) (gs : List PlainGroup) → map (λ group. group.name) (map (λ g. group_with d part g []) gs) ≡ map (λ group. group.name) gs
kept_named d part [] = refl
kept_named d part (g ∷ gs) = ap (λ later. g.name ∷ later) (kept_named d part gs)

-- WHAT A NEW COMPONENT KEEPS, its control apart
pub record IsPart (e : PlainDesign) (k : ℕ) (new : PlainComponent) : Type 0 where
  pub cells : (cell : PlainCell) → In new.cells cell → IsCell e k cell
  pub assigns : (owner : Option ℕ) (a : PlainAssign) → StandsIn new owner a → FitsAssign e new owner a
  pub inputs : IsSignature new.inputs
  pub outputs : IsSignature new.outputs
  pub port_names : AreApart (map (λ decl. decl.name) (new.inputs ++ new.outputs))
  pub cell_names : AreApart (map (λ cell. cell.name) new.cells)
  pub group_names : AreApart (map (λ group. group.name) new.groups)
  pub no_primitive_name : (name : PrimitiveName) → name ≢ primitives.Timer → new.name ≢ name_text name

module _ (d : PlainDesign) (rules : IsDesign d) (k : ℕ) (there : k < length d.components) where
  abbrev part : PlainComponent
  part = component_at d k

  abbrev own : ℕ
  own = length (counters (component_of d k))

  abbrev shown : List Shown
  shown = shown_in (component_of d k)

  some : 0 < length d.components
  some = omega arith

  abbrev cells : Cells
  cells = cells_of (component_of d k)

  own-is : length (counters_from cells (length part.cells) 0 part.groups) ≡ own
  own-is = sym (ap length (counters-is (component_of d k)) ∙ ap (λ p. length (counters_from cells (length p.cells) 0 p.groups)) (part_is d k))

  -- an old cell
  old_cell : (e : PlainDesign) → e.main ≡ d.main → length e.components ≡ length d.components → (cell : PlainCell) → In part.cells cell → IsCell e k cell
  old_cell e main count cell i = let c = (rules.components k there).cells cell i in record { kind = kind cell.kind c.kind; external = λ x. external cell.kind (c.external x) }
    where
      kind : (x : PlainKind) → IsKind d x → IsKind e x
      kind (OfPrimitive p) h = h
      kind (OfComponent j) h = subst (λ n. j < n) (sym count) h

      external : (x : PlainKind) → IsExternal d k x → IsExternal e k x
      external (OfPrimitive p) (at_main, memory, narrow) = (at_main ∙ sym main, memory, narrow)
      external (OfComponent j) h = h

  -- an old assignment, moved
  module _ (new : PlainComponent) (grown : IsGrown d k new) where
    old_assign : (owner : Option ℕ) (a : PlainAssign) → StandsIn part owner a → FitsAssign (with_counts d) new owner (moved_assign (moved_in d part) a)
    old_assign owner a stands = moved_fits d rules k there new grown owner a (fits_assign d some k owner a ((rules.components k there).assigns owner a stands))

    old_always : (a : PlainAssign) → In (moved_assigns d part part.always) a → FitsAssign (with_counts d) new None a
    old_always a i = by (image_in (moved_assign (moved_in d part)) part.always a i)
      where
        by : (x : PlainAssign) × In part.always x × (moved_assign (moved_in d part) x ≡ a) → FitsAssign (with_counts d) new None a
        by (x, j, e) = subst (FitsAssign (with_counts d) new None) e (old_assign None x j)

    -- an assignment of an old group, or one of its counter
    old_in_group : (g : ℕ) (old : PlainGroup) (a : PlainAssign) → slice_get part.groups g ≡ Some old → In (moved_assigns d part old.assigns) a → FitsAssign (with_counts d) new (Some g) a
    old_in_group g old a at i = by (image_in (moved_assign (moved_in d part)) old.assigns a i)
      where
        less : g < length part.groups
        less = below_there part.groups g old at

        same : group_at part g ≡ old
        same = same_some (group_at part g) old (sym (there_below part.groups g less) ∙ at)

        by : (x : PlainAssign) × In old.assigns x × (moved_assign (moved_in d part) x ≡ a) → FitsAssign (with_counts d) new (Some g) a
        by (x, j, e) = subst (FitsAssign (with_counts d) new (Some g)) e (old_assign (Some g) x (less, subst (λ y. In y.assigns x) (sym same) j))

    counted_group : HasCounters d k new → (g : ℕ) → g < length part.groups → (y : PlainGroup) → slice_get (counted_groups d part cells (length part.cells) part.groups) g ≡ Some y
        → (a : PlainAssign) → In y.assigns a → FitsAssign (with_counts d) new (Some g) a
    counted_group has g less y at a i = by (there_at part.groups g less)
      where
        by_old : (old : PlainGroup) → slice_get part.groups g ≡ Some old → (x : PlainGroup) → slice_get (counted_groups d part cells (length part.cells) part.groups) g ≡ Some x
            → (more : List PlainAssign) → x ≡ group_with d part old more → ((b : PlainAssign) → In more b → (m : ℕ) × (m < length (counters_from cells (length part.cells) 0 part.groups)) × In (counter_assigns part.place (length part.cells + 2 * m)) b)
            → FitsAssign (with_counts d) new (Some g) a
        by_old old there x here more is counter =
            let same : y ≡ group_with d part old more = same_some y x (sym at ∙ here) ∙ is in
            one (in_either (moved_assigns d part old.assigns) more a (subst (λ z. In z.assigns a) same i))
          where
            one : In (moved_assigns d part old.assigns) a ⊎ In more a → FitsAssign (with_counts d) new (Some g) a
            one (inl j) = old_in_group g old a there j
            one (inr j) = let c = counter a j in counter_fits d k new (with_counts d) has (Some g) c.0 a (subst (λ n. c.0 < n) own-is c.1) c.2

        by : (old : PlainGroup) × (slice_get part.groups g ≡ Some old) → FitsAssign (with_counts d) new (Some g) a
        by (old, e) = let c = counted_groups-at d part cells (length part.cells) 0 part.groups g old e in by_old old e c.0 c.1 c.2.0 c.2.1 c.2.2

  -- WITHOUT AN INSTANCE
  pub kept_part : IsGrown d k (kept_component d k) → IsPart (with_counts d) k (kept_component d k)
  kept_part grown = record {
    cells = old_cell (with_counts d) refl count;
    assigns = assigns;
    inputs = (rules.components k there).inputs;
    outputs = (rules.components k there).outputs;
    port_names = (rules.components k there).port_names;
    cell_names = (rules.components k there).cell_names;
    group_names = subst AreApart (sym (kept_named d part part.groups)) (rules.components k there).group_names;
    no_primitive_name = (rules.components k there).no_primitive_name;
  }
    where
      count : length (with_counts d).components ≡ length d.components
      count = components-length d

      in_kept : (gs : List PlainGroup) (g : ℕ) (y : PlainGroup) → slice_get (map (λ x. group_with d part x []) gs) g ≡ Some y → (old : PlainGroup) × (slice_get gs g ≡ Some old) × (y ≡ group_with d part old [])
      in_kept [] g y e = absurd cc
      in_kept (x ∷ gs) zero y e = (x, refl, sym (same_some (group_with d part x []) y e))
      in_kept (x ∷ gs) (suc g) y e = in_kept gs g y e

      of_group : (g : ℕ) (a : PlainAssign) → g < length (kept_component d k).groups → In (group_at (kept_component d k) g).assigns a → FitsAssign (with_counts d) (kept_component d k) (Some g) a
      of_group g a less i = by (in_kept part.groups g (group_at (kept_component d k) g) (there_below (kept_component d k).groups g less))
        where
          bare : (xs : List PlainAssign) → In (xs ++ []) a → In xs a ⊎ In [] a
          bare xs j = in_either xs [] a j

          one : (old : PlainGroup) → slice_get part.groups g ≡ Some old → In (moved_assigns d part old.assigns) a ⊎ In [] a → FitsAssign (with_counts d) (kept_component d k) (Some g) a
          one old e (inl j) = old_in_group (kept_component d k) grown g old a e j
          one old e (inr j) = absurd j

          by : (old : PlainGroup) × (slice_get part.groups g ≡ Some old) × (group_at (kept_component d k) g ≡ group_with d part old []) → FitsAssign (with_counts d) (kept_component d k) (Some g) a
          by (old, e, is) = one old e (bare (moved_assigns d part old.assigns) (subst (λ z. In z.assigns a) is i))

      assigns : (owner : Option ℕ) (a : PlainAssign) → StandsIn (kept_component d k) owner a → FitsAssign (with_counts d) (kept_component d k) owner a
      assigns None a i = old_always (kept_component d k) grown a i
      assigns (Some g) a (less, i) = of_group g a less i

  -- NAMES OF NEW PARTS: as many as are needed, apart, none of a part of the component, and none of the four of every component
  pub record AreNew (needed : ℕ) (names : List (List ℕ)) : Type 0 where
    pub many : needed ≤ length names
    pub apart : AllApart names
    pub free : (name : List ℕ) → In names name → In (names_of part) name → ⊥
    pub other : (name : List ℕ) → In names name → IsPort (record { name = name; width = 64 })

  module _ (needed : ℕ) (names : List (List ℕ)) (new : AreNew needed names) where
    apart_cells : (m n : ℕ) → m + n ≤ needed → AreApart (map (λ cell. cell.name) part.cells ++ some_names names m n)
    apart_cells m n few = apart_behind (map (λ cell. cell.name) part.cells) (some_names names m n) (rules.components k there).cell_names (some_apart names m n new.apart (let l = new.many in omega arith))
        (λ name i j. new.free name (some_in names m n name (let l = new.many in omega arith) i)
        (in_right (map (λ port. port.name) (part.inputs ++ part.outputs)) (map (λ cell. cell.name) part.cells ++ map (λ group. group.name) part.groups) name (in_left (map (λ cell. cell.name) part.cells) (map (λ group. group.name) part.groups) name j)))

    apart_groups : (m n : ℕ) → m + n ≤ needed → AreApart (map (λ group. group.name) part.groups ++ some_names names m n)
    apart_groups m n few = apart_behind (map (λ group. group.name) part.groups) (some_names names m n) (rules.components k there).group_names (some_apart names m n new.apart (let l = new.many in omega arith))
        (λ name i j. new.free name (some_in names m n name (let l = new.many in omega arith) i)
        (in_right (map (λ port. port.name) (part.inputs ++ part.outputs)) (map (λ cell. cell.name) part.cells ++ map (λ group. group.name) part.groups) name (in_right (map (λ cell. cell.name) part.cells) (map (λ group. group.name) part.groups) name j)))

    apart_ports : (m n : ℕ) → m + n ≤ needed → AreApart (map (λ port. port.name) (part.inputs ++ part.outputs) ++ some_names names m n)
    apart_ports m n few = apart_behind (map (λ port. port.name) (part.inputs ++ part.outputs)) (some_names names m n) (rules.components k there).port_names (some_apart names m n new.apart (let l = new.many in omega arith))
        (λ name i j. new.free name (some_in names m n name (let l = new.many in omega arith) i)
        (in_left (map (λ port. port.name) (part.inputs ++ part.outputs)) (map (λ cell. cell.name) part.cells ++ map (λ group. group.name) part.groups) name j))

    -- the new outputs are 64 bits wide and have none of the four names
    new_outputs : (n : ℕ) (xs : List Shown) (decl : PortDecl) → n + length xs ≤ needed → In (count_outputs names n xs) decl → IsPort decl
    new_outputs n [] decl few i = absurd i
    new_outputs n (x ∷ xs) decl few (inl e) = subst IsPort e (new.other (name_at names n) (some_in names n 1 (name_at names n) (let l = new.many in omega arith) (inl refl)))
    new_outputs n (x ∷ xs) decl few (inr i) = new_outputs (suc n) xs decl (omega arith) i

  -- WITH AN INSTANCE THAT ANOTHER HAS
  module _ (names : List (List ℕ)) (named : AreNew (2 * own + length shown) names) (reached : is_reached d k ≡ true) (grown : IsGrown d k (child_component d k names)) where
    child_counters : HasCounters d k (child_component d k names)
    child_counters = record {
      register = λ m less. let r = register_at part.place names 0 own m less in (r.0, behind part.cells (counter_cells part.place names 0 own) (length part.cells + 2 * m) (2 * m) refl ∙ r.1);
      adder = λ m less. let a = adder_at part.place names 0 own m less in let z : suc (length part.cells + 2 * m) ≡ length part.cells + suc (2 * m) = omega arith in
          (a.0, behind part.cells (counter_cells part.place names 0 own) (suc (length part.cells + 2 * m)) (suc (2 * m)) z ∙ a.1);
    }

    child_of_group : (g : ℕ) (a : PlainAssign) → g < length (child_component d k names).groups → In (group_at (child_component d k names) g).assigns a → FitsAssign (with_counts d) (child_component d k names) (Some g) a
    child_of_group g a less i =
        counted_group (child_component d k names) grown child_counters g (subst (λ n. g < n) (counted_groups-length d part cells (length part.cells) part.groups) less)
        (group_at (child_component d k names) g) (there_below (child_component d k names).groups g less) a i

    child_assigns : (owner : Option ℕ) (a : PlainAssign) → StandsIn (child_component d k names) owner a → FitsAssign (with_counts d) (child_component d k names) owner a
    child_assigns (Some g) a (less, i) = child_of_group g a less i
    child_assigns None a i = by (in_either (moved_assigns d part part.always) (output_assigns part.place (length part.outputs) shown) a i)
      where
        count : length (child_component d k names).outputs ≡ length part.outputs + length shown
        count = length-append part.outputs (count_outputs names (2 * own) shown) ∙ ap (λ n. length part.outputs + n) (count_outputs-length names (2 * own) shown)

        by : In (moved_assigns d part part.always) a ⊎ In (output_assigns part.place (length part.outputs) shown) a → FitsAssign (with_counts d) (child_component d k names) None a
        by (inl j) = old_always (child_component d k names) grown a j
        by (inr j) = output_fits (with_counts d) (child_component d k names) part.place (length part.outputs) shown a (let c = count in omega arith)
            (λ x h. shown_port d k (child_component d k names) rules there reached grown child_counters x h) j

    pub child_part : IsPart (with_counts d) k (child_component d k names)
    child_part = record {
      cells = λ cell i. one cell (in_either part.cells (counter_cells part.place names 0 own) cell i);
      assigns = child_assigns;
      inputs = (rules.components k there).inputs;
      outputs = λ decl i. port decl (in_either part.outputs (count_outputs names (2 * own) shown) decl i);
      port_names = subst AreApart ports_are (apart_ports (2 * own + length shown) names named (2 * own) (length shown) (omega arith));
      cell_names = subst AreApart cells_are (apart_cells (2 * own + length shown) names named 0 (2 * own) (omega arith));
      group_names = subst AreApart (sym (groups_named d part cells (length part.cells) part.groups)) (rules.components k there).group_names;
      no_primitive_name = (rules.components k there).no_primitive_name;
    }
      where
        one : (cell : PlainCell) → In part.cells cell ⊎ In (counter_cells part.place names 0 own) cell → IsCell (with_counts d) k cell
        one cell (inl i) = old_cell (with_counts d) refl (components-length d) cell i
        one cell (inr i) = counter_cells-fit (with_counts d) k part.place names 0 own cell i

        port : (decl : PortDecl) → In part.outputs decl ⊎ In (count_outputs names (2 * own) shown) decl → IsPort decl
        port decl (inl i) = (rules.components k there).outputs decl i
        port decl (inr i) = new_outputs (2 * own + length shown) names named (2 * own) shown decl (omega arith) i

        ports_are : map (λ port. port.name) (part.inputs ++ part.outputs) ++ some_names names (2 * own) (length shown) ≡ map (λ decl. decl.name) (part.inputs ++ (part.outputs ++ count_outputs names (2 * own) shown))
        ports_are =
            ap (λ later. map (λ port. port.name) (part.inputs ++ part.outputs) ++ later) (sym (outputs_named names (2 * own) shown))
            ∙ sym (map-append (λ port. port.name) (part.inputs ++ part.outputs) (count_outputs names (2 * own) shown))
            ∙ ap (map (λ port. port.name)) (append_assoc part.inputs part.outputs (count_outputs names (2 * own) shown))

        cells_are : map (λ cell. cell.name) part.cells ++ some_names names 0 (2 * own) ≡ map (λ cell. cell.name) (part.cells ++ counter_cells part.place names 0 own)
        cells_are = ap (λ later. map (λ cell. cell.name) part.cells ++ later) (sym (cells_named part.place names 0 own)) ∙ sym (map-append (λ cell. cell.name) part.cells (counter_cells part.place names 0 own))

  -- MAIN
  module _ (names : List (List ℕ)) (named : AreNew (suc (2 * own + length shown)) names) (is_main : k ≡ d.main) (reached : is_reached d k ≡ true) (grown : IsGrown d k (main_component d k names))
      (counted : 1 ≤ length shown) (few : length shown < 2 ^ 32) where
    abbrev made : PlainComponent
    made = main_component d k names

    abbrev memory : ℕ
    memory = length part.cells + 2 * own

    abbrev new_cells : List PlainCell
    new_cells = counter_cells part.place names 0 own ++ memory_cell part.place (name_at names (2 * own)) (length shown) ∷ []

    abbrev stores : List PlainGroup
    stores = store_groups part.place names memory (address_width (length shown)) (suc (2 * own)) (length part.groups) 0 shown

    main_counters : HasCounters d k made
    main_counters = record {
      register = λ m less. let r = register_at part.place names 0 own m less in
          (r.0, behind part.cells new_cells (length part.cells + 2 * m) (2 * m) refl ∙ front (counter_cells part.place names 0 own) (memory_cell part.place (name_at names (2 * own)) (length shown) ∷ []) (2 * m) (new_cell part.place r.0 primitives.Reg (64 ∷ []) false) r.1);
      adder = λ m less. let a = adder_at part.place names 0 own m less in let z : suc (length part.cells + 2 * m) ≡ length part.cells + suc (2 * m) = omega arith in (
        a.0,
        behind part.cells new_cells (suc (length part.cells + 2 * m)) (suc (2 * m)) z
            ∙ front (counter_cells part.place names 0 own) (memory_cell part.place (name_at names (2 * own)) (length shown) ∷ []) (suc (2 * m)) (new_cell part.place a.0 primitives.Add (64 ∷ []) false) a.1,
      );
    }

    memory_at : slice_get made.cells memory ≡ Some (memory_cell part.place (name_at names (2 * own)) (length shown))
    memory_at =
        behind part.cells new_cells memory (2 * own) refl
        ∙ behind (counter_cells part.place names 0 own) (memory_cell part.place (name_at names (2 * own)) (length shown) ∷ []) (2 * own) 0
        (let z : length (counter_cells part.place names 0 own) ≡ 2 * own = counter_cells-length part.place names 0 own in omega arith)

    memory_names : (p : ℕ) → p < 5 → Names (with_counts d) made (ports.Cell memory p)
    memory_names p less = (memory_cell part.place (name_at names (2 * own)) (length shown), memory_at, subst (λ n. p < n) (sym (memory_ports (length shown) counted few (with_counts d))) less)

    main_of_group : (g : ℕ) (a : PlainAssign) → g < length made.groups → In (group_at made g).assigns a → FitsAssign (with_counts d) made (Some g) a
    main_of_group g a less i = by (cases_lt g (length part.groups))
      where
        old_groups : List PlainGroup
        old_groups = counted_groups d part cells (length part.cells) part.groups

        long : length (counted_groups d part cells (length part.cells) part.groups) ≡ length part.groups
        long = counted_groups-length d part cells (length part.cells) part.groups

        at : slice_get (counted_groups d part cells (length part.cells) part.groups ++ stores) g ≡ Some (group_at made g)
        at = there_below made.groups g less

        old : g < length part.groups → FitsAssign (with_counts d) made (Some g) a
        old l = counted_group made grown main_counters g l (group_at made g)
            (sym (append-front (counted_groups d part cells (length part.cells) part.groups) stores g (subst (λ n. g < n) (sym long) l)) ∙ at) a i

        store : (n : ℕ) → g ≡ length part.groups + n → FitsAssign (with_counts d) made (Some g) a
        store n e =
            let here : slice_get stores n ≡ Some (group_at made g) = sym (behind (counted_groups d part cells (length part.cells) part.groups) stores g n (e ∙ ap (λ m. m + n) (sym long))) ∙ at in
            let s = store_groups-at part.place names memory (address_width (length shown)) (suc (2 * own)) (length part.groups) 0 shown n (group_at made g) here in
            let x = shown_port d k made rules there reached grown main_counters s.0 s.1 in
            let fits : FitsAssign (with_counts d) made (Some (length part.groups + n)) a =
            store_fits (with_counts d) made part.place memory (address_width (length shown)) (length part.groups + n) (0 + n) s.0.port a memory_names (subst (λ m. m < length made.groups) e less) x.0 x.1
            (subst (λ y. In y.assigns a) s.2 i) in
            subst (λ m. FitsAssign (with_counts d) made (Some m) a) (sym e) fits

        number : (m n : ℕ) → m ≤ n → (i : ℕ) × (n ≡ m + i)
        number zero n le = (n, omega arith)
        number (suc m) zero le = absurd (omega arith)
        number (suc m) (suc n) le = let r = number m n (omega arith) in (r.0, let e : n ≡ m + r.0 = r.1 in omega arith)

        by : (g < length part.groups) ⊎ (length part.groups ≤ g) → FitsAssign (with_counts d) made (Some g) a
        by (inl l) = old l
        by (inr l) = let n = number (length part.groups) g l in store n.0 n.1

    main_assigns : (owner : Option ℕ) (a : PlainAssign) → StandsIn made owner a → FitsAssign (with_counts d) made owner a
    main_assigns (Some g) a (less, i) = main_of_group g a less i
    main_assigns None a i = old_always made grown a i

    pub main_part : IsPart (with_counts d) k made
    main_part = record {
      cells = λ cell i. one cell (in_either part.cells new_cells cell i);
      assigns = main_assigns;
      inputs = (rules.components k there).inputs;
      outputs = (rules.components k there).outputs;
      port_names = (rules.components k there).port_names;
      cell_names = subst AreApart cells_are (apart_cells (suc (2 * own + length shown)) names named 0 (suc (2 * own)) (omega arith));
      group_names = subst AreApart groups_are (apart_groups (suc (2 * own + length shown)) names named (suc (2 * own)) (length shown) (omega arith));
      no_primitive_name = (rules.components k there).no_primitive_name;
    }
      where
        new : (cell : PlainCell) → In (counter_cells part.place names 0 own) cell ⊎ In (memory_cell part.place (name_at names (2 * own)) (length shown) ∷ []) cell → IsCell (with_counts d) k cell
        new cell (inl i) = counter_cells-fit (with_counts d) k part.place names 0 own cell i
        new cell (inr (inl e)) = subst (IsCell (with_counts d) k) e (memory_cell-fits (length shown) counted few (with_counts d) k part.place (name_at names (2 * own)) is_main)
        new cell (inr (inr i)) = absurd i

        one : (cell : PlainCell) → In part.cells cell ⊎ In new_cells cell → IsCell (with_counts d) k cell
        one cell (inl i) = old_cell (with_counts d) refl (components-length d) cell i
        one cell (inr i) = new cell (in_either (counter_cells part.place names 0 own) (memory_cell part.place (name_at names (2 * own)) (length shown) ∷ []) cell i)

        last_name : (m n : ℕ) → some_names names m n ++ name_at names (m + n) ∷ [] ≡ some_names names m (suc n)
        last_name m zero = let z : m + 0 ≡ m = omega arith in ap (λ x. name_at names x ∷ []) z
        last_name m (suc n) = let z : m + suc n ≡ suc m + n = omega arith in ap (λ x. name_at names m ∷ (some_names names (suc m) n ++ name_at names x ∷ [])) z ∙ ap (λ later. name_at names m ∷ later) (last_name (suc m) n)

        cells_are : map (λ cell. cell.name) part.cells ++ some_names names 0 (suc (2 * own)) ≡ map (λ cell. cell.name) made.cells
        cells_are =
            let z : 0 + 2 * own ≡ 2 * own = omega arith in
            ap (λ later. map (λ cell. cell.name) part.cells ++ later)
            (sym (last_name 0 (2 * own)) ∙ ap (λ x. some_names names 0 (2 * own) ++ name_at names x ∷ []) z ∙ ap (λ ns. ns ++ name_at names (2 * own) ∷ []) (sym (cells_named part.place names 0 own))
            ∙ sym (map-append (λ cell. cell.name) (counter_cells part.place names 0 own) (memory_cell part.place (name_at names (2 * own)) (length shown) ∷ [])))
            ∙ sym (map-append (λ cell. cell.name) part.cells new_cells)

        groups_are : map (λ group. group.name) part.groups ++ some_names names (suc (2 * own)) (length shown) ≡ map (λ group. group.name) made.groups
        groups_are =
            ap (λ ns. ns ++ some_names names (suc (2 * own)) (length shown)) (sym (groups_named d part cells (length part.cells) part.groups))
            ∙ ap (λ ns. map (λ group. group.name) (counted_groups d part cells (length part.cells) part.groups) ++ ns)
            (sym (stores_named part.place names memory (address_width (length shown)) (suc (2 * own)) (length part.groups) 0 shown))
            ∙ sym (map-append (λ group. group.name) (counted_groups d part cells (length part.cells) part.groups) stores)
