-- The components as the code makes them are those of the instrumented design.
use Rattle.std.proofs.Common.{◌≡◌, ℕ, suc, ◌+◌, ◌*◌, Bool, true, false, List, [], ◌∷◌, ◌++◌, length, map, append_assoc, refl, sym, ap, ◌∙◌, arith, append-nil}
use Rattle.std.specs.Prelude.{if◌then◌else◌}
use Rattle.std.specs.List.{range_with_len}
use Rattle.std.proofs.lemmas.List.{length-map}
use Rattle.cx_text.specs.declared.places.Place.{Place}
use Rattle.cx_meaning.specs.declared.ports.PortRef.TheVariants as ports
use Rattle.cx_meaning.specs.declared.kinds.GroupKind.TheVariants as kinds
use Rattle.cx_meaning.specs.declared.kinds.PortDecl.{PortDecl}
use Rattle.cx_meaning.specs.Designs.{PlainAssign, PlainGroup, PlainCell, Enable, Seq, PlainStatement, Placed, a_statement, statements_of, PlainComponent, PlainDesign, component_at}
use Rattle.cx_meaning.specs.Instances.{Instance, Node, cells_of, cells_for}
use Rattle.cx_rules.specs.Ports.{component_of}
use Rattle.cx_rewrites.specs.Moving.{moved_assign, moved_group, moved_statement}
use Rattle.cx_profiling.specs.Counters.{counters, Shown, shown_in}
use Rattle.cx_profiling.specs.FreeNames.{free_names, names_of}
use Rattle.cx_profiling.specs.Instrumented as instrumented
use Rattle.cx_profiling.specs.Instrumented.{name_at, counter_assigns, counter_cells, count_outputs, output_assigns, drive, memory_cell, address_width, store_assigns, store_enables, group_with, moved_in, kept_component, child_component, main_component}
use Rattle.cx_profile.specs.Counted.{counts_group}
use Rattle.cx_profile.specs.Growing as growing
use Rattle.cx_profile.specs.Making.{own_of, made_main, made_child}
use Rattle.cx_profile.proofs.CountLemmas.{group_counts, counted_among-counters}
use Rattle.cx_profile.proofs.ShownPorts.{port_shown, ShowAll, shown-ports}

-- OUTPUTS AND WHAT DRIVES THEM, by the ports that show the counts
outputs_from : (names : List (List ℕ)) (n a b : ℕ) (xs : List Shown) → b ≡ n + a
    → map (λ i. record { name = name_at names (n + i); width = 64 }) (range_with_len a (length xs)) ≡ count_outputs names b xs
outputs_from names n a b [] e = refl
outputs_from names n a b (x ∷ xs) e =
    ap (λ m. record { name = name_at names m; width = 64 } ∷ map (λ i. record { name = name_at names (n + i); width = 64 }) (range_with_len (a + 1) (length xs))) (sym e)
    ∙ ap (λ ds. record { name = name_at names b; width = 64 } ∷ ds) (outputs_from names n (a + 1) (suc b) xs (omega arith))

pub new_outputs-shown : (names : List (List ℕ)) (n : ℕ) (xs : List Shown) → growing.new_outputs names n (length xs) ≡ count_outputs names n xs
new_outputs-shown names n xs = outputs_from names n 0 n xs (omega arith)

assigns_from : (place : Place) (n m : ℕ) (xs : List Shown) → n ≡ m → growing.port_assigns place n (map port_shown xs) ≡ output_assigns place m xs
assigns_from place n m [] e = refl
assigns_from place n m (x ∷ xs) e =
    ap (λ k. drive place (ports.Output k) x.port ∷ growing.port_assigns place (n + 1) (map port_shown xs)) e ∙ ap (λ l. drive place (ports.Output m) x.port ∷ l) (assigns_from place (n + 1) (suc m) xs (omega arith))

-- STORES
stores_from : (place : Place) (names : List (List ℕ)) (memory width n g j m h i : ℕ) (xs : List Shown) → m ≡ n + j → h ≡ g + j → i ≡ j
    → growing.store_groups place names memory width n g j (map port_shown xs) ≡ instrumented.store_groups place names memory width m h i xs
stores_from place names memory width n g j m h i [] e f same = refl
stores_from place names memory width n g j m h i (x ∷ xs) e f same =
    ap (λ k. first k (g + j) j ∷ rest) (sym e) ∙ ap (λ k. first m k j ∷ rest) (sym f) ∙ ap (λ k. first m h k ∷ rest) (sym same)
    ∙ ap (λ l. first m h i ∷ l) (stores_from place names memory width n g (j + 1) (suc m) (suc h) (suc i) xs (omega arith) (omega arith) (omega arith))
  where
    first : ℕ → ℕ → ℕ → PlainGroup
    first a b c = record { name = name_at names a; kind = kinds.Plain; assigns = store_assigns place memory width b c x.port; place = place }

    rest : List PlainGroup
    rest = growing.store_groups place names memory width n g (j + 1) (map port_shown xs)

enables_from : (place : Place) (g a b : ℕ) (xs : List Shown) → b ≡ g + a → map (λ i. Placed (Enable (g + i)) place) (range_with_len a (length xs)) ≡ store_enables place b xs
enables_from place g a b [] e = refl
enables_from place g a b (x ∷ xs) e =
    ap (λ m. Placed (Enable m) place ∷ map (λ i. Placed (Enable (g + i)) place) (range_with_len (a + 1) (length xs))) (sym e)
    ∙ ap (λ ss. Placed (Enable b) place ∷ ss) (enables_from place g (a + 1) (suc b) xs (omega arith))

module _ (d : PlainDesign) where
  -- GROUPS
  pub groups-kept : (part : PlainComponent) (gs : List PlainGroup) → map (moved_group (moved_in d part)) gs ≡ map (λ g. group_with d part g []) gs
  groups-kept part [] = refl
  groups-kept part (g ∷ gs) = ap (λ x. x ∷ map (moved_group (moved_in d part)) gs) (one g) ∙ ap (λ xs. group_with d part g [] ∷ xs) (groups-kept part gs)
    where
      one : (g : PlainGroup) → moved_group (moved_in d part) g ≡ group_with d part g []
      one g = ap (λ assigns. record { name = g.name; kind = g.kind; assigns = assigns; place = g.place }) (sym (append-nil (map (moved_assign (moved_in d part)) g.assigns)))

  pub groups-counted : (child : ℕ → Instance) (part : PlainComponent) (c e : ℕ) (gs : List PlainGroup) → c ≡ e
      → growing.counted_groups (moved_in d part) part.cells part.place c gs ≡ instrumented.counted_groups d part (cells_for child part.cells) e gs
  groups-counted child part c e [] same = refl
  groups-counted child part c e (g ∷ gs) same =
      by (counts_group part.cells g) (groups-counted child part (c + 2) (suc (suc e)) gs (omega arith)) (groups-counted child part c e gs same)
      ∙ ap (λ b. if b then group_with d part g (counter_assigns part.place e) ∷ instrumented.counted_groups d part (cells_for child part.cells) (suc (suc e)) gs else group_with d part g [] ∷ instrumented.counted_groups d part (cells_for child part.cells) e gs)
      (sym (group_counts child part.cells g))
    where
      by : (b : Bool)
          → growing.counted_groups (moved_in d part) part.cells part.place (c + 2) gs ≡ instrumented.counted_groups d part (cells_for child part.cells) (suc (suc e)) gs
          → growing.counted_groups (moved_in d part) part.cells part.place c gs ≡ instrumented.counted_groups d part (cells_for child part.cells) e gs
          → (if b then growing.grown_group (moved_in d part) part.place c g else moved_group (moved_in d part) g) ∷ growing.counted_groups (moved_in d part) part.cells part.place (if b then c + 2 else c) gs
          ≡ (if b then group_with d part g (counter_assigns part.place e) ∷ instrumented.counted_groups d part (cells_for child part.cells) (suc (suc e)) gs
          else group_with d part g [] ∷ instrumented.counted_groups d part (cells_for child part.cells) e gs)
      by true counted plain =
          ap (λ n. group_with d part g (counter_assigns part.place n) ∷ growing.counted_groups (moved_in d part) part.cells part.place (c + 2) gs) same
          ∙ ap (λ xs. group_with d part g (counter_assigns part.place e) ∷ xs) counted
      by false counted plain =
          ap (λ assigns. record { name = g.name; kind = g.kind; assigns = assigns; place = g.place } ∷ growing.counted_groups (moved_in d part) part.cells part.place c gs) (sym (append-nil (map (moved_assign (moved_in d part)) g.assigns)))
          ∙ ap (λ xs. group_with d part g [] ∷ xs) plain

  -- COMPONENTS
  module _ (k : ℕ) where
    abbrev part : PlainComponent
    part = component_at d k

    pub kept-is : growing.kept_part (moved_in d part) part ≡ kept_component d k
    kept-is = ap (λ gs. record {
      name = part.name;
      latency = part.latency;
      inputs = part.inputs;
      outputs = part.outputs;
      cells = part.cells;
      groups = gs;
      invokes = map (growing.moved_invoke (moved_in d part)) part.invokes;
      always = map (moved_assign (moved_in d part)) part.always;
      control = moved_statement (moved_in d part) part.control;
      place = part.place;
    }) (groups-kept part part.groups)

    module _ (tree : component_of d k ≡ Node part (cells_for (component_of d) part.cells)) (all : ShowAll d part.cells) where
      abbrev own : ℕ
      own = length (counters (component_of d k))

      own-is : own_of part ≡ own
      own-is = sym (counted_among-counters (component_of d) part.cells (length part.cells) 0 part.groups) ∙ sym (ap (λ i. length (counters i)) tree)

      ports-are : growing.shown_ports d part own ≡ map port_shown (shown_in (component_of d k))
      ports-are = sym (shown-ports d k tree all own (ap (λ i. length (counters i)) tree))

      count-is : length (map port_shown (shown_in (component_of d k))) ≡ length (shown_in (component_of d k))
      count-is = length-map (shown_in (component_of d k)) port_shown

      cells-are : cells_of (component_of d k) ≡ cells_for (component_of d) part.cells
      cells-are = ap cells_of tree

      groups-are : growing.counted_groups (moved_in d part) part.cells part.place (length part.cells) part.groups ≡ instrumented.counted_groups d part (cells_of (component_of d k)) (length part.cells) part.groups
      groups-are = groups-counted (component_of d) part (length part.cells) (length part.cells) part.groups refl ∙ ap (λ cs. instrumented.counted_groups d part cs (length part.cells) part.groups) (sym cells-are)

      -- a child, with any names
      child-with : (names : List (List ℕ)) → growing.child_part (moved_in d part) part names own (map port_shown (shown_in (component_of d k))) ≡ child_component d k names
      child-with names =
          ap (λ n. made (part.outputs ++ growing.new_outputs names (2 * own) n) (growing.counted_groups (moved_in d part) part.cells part.place (length part.cells) part.groups) (map (moved_assign (moved_in d part)) part.always ++ growing.port_assigns part.place (length part.outputs) (map port_shown (shown_in (component_of d k))))) count-is
          ∙ ap (λ os. made (part.outputs ++ os) (growing.counted_groups (moved_in d part) part.cells part.place (length part.cells) part.groups) (map (moved_assign (moved_in d part)) part.always ++ growing.port_assigns part.place (length part.outputs) (map port_shown (shown_in (component_of d k))))) (new_outputs-shown names (2 * own) (shown_in (component_of d k)))
          ∙ ap (λ gs. made (part.outputs ++ count_outputs names (2 * own) (shown_in (component_of d k))) gs (map (moved_assign (moved_in d part)) part.always ++ growing.port_assigns part.place (length part.outputs) (map port_shown (shown_in (component_of d k))))) groups-are
          ∙ ap (λ l. made (part.outputs ++ count_outputs names (2 * own) (shown_in (component_of d k))) (instrumented.counted_groups d part (cells_of (component_of d k)) (length part.cells) part.groups) (map (moved_assign (moved_in d part)) part.always ++ l)) (assigns_from part.place (length part.outputs) (length part.outputs) (shown_in (component_of d k)) refl)
        where
          made : List PortDecl → List PlainGroup → List PlainAssign → PlainComponent
          made outputs groups always = record {
            name = part.name;
            latency = part.latency;
            inputs = part.inputs;
            outputs = outputs;
            cells = part.cells ++ counter_cells part.place names 0 own;
            groups = groups;
            invokes = map (growing.moved_invoke (moved_in d part)) part.invokes;
            always = always;
            control = moved_statement (moved_in d part) part.control;
            place = part.place;
          }

      pub child-is : made_child d (moved_in d part) part ≡ child_component d k (free_names (names_of part) (2 * own + length (shown_in (component_of d k))))
      child-is =
          ap (λ n. growing.child_part (moved_in d part) part (free_names (names_of part) (2 * n + length (growing.shown_ports d part n))) n (growing.shown_ports d part n)) own-is
          ∙ ap (λ ps. growing.child_part (moved_in d part) part (free_names (names_of part) (2 * own + length ps)) own ps) ports-are
          ∙ ap (λ n. growing.child_part (moved_in d part) part (free_names (names_of part) (2 * own + n)) own (map port_shown (shown_in (component_of d k)))) count-is
          ∙ child-with (free_names (names_of part) (2 * own + length (shown_in (component_of d k))))

      -- main, with any names
      main-with : (names : List (List ℕ)) → growing.main_part (moved_in d part) part names own (map port_shown (shown_in (component_of d k))) ≡ main_component d k names
      main-with names =
          ap (λ n. made ((part.cells ++ counter_cells part.place names 0 own) ++ memory_cell part.place (name_at names (2 * own)) n ∷ [])
          (growing.counted_groups (moved_in d part) part.cells part.place (length part.cells) part.groups ++ growing.store_groups part.place names (length part.cells + 2 * own) (address_width n) (2 * own + 1) (length part.groups) 0 (map port_shown (shown_in (component_of d k))))
          (growing.then_stores part.place (moved_statement (moved_in d part) part.control) (length part.groups) n)) count-is
          ∙ ap (λ cs. made cs
          (growing.counted_groups (moved_in d part) part.cells part.place (length part.cells) part.groups ++ growing.store_groups part.place names (length part.cells + 2 * own) (address_width count) (2 * own + 1) (length part.groups) 0 (map port_shown (shown_in (component_of d k))))
          (growing.then_stores part.place (moved_statement (moved_in d part) part.control) (length part.groups) count))
          (append_assoc part.cells (counter_cells part.place names 0 own) (memory_cell part.place (name_at names (2 * own)) count ∷ []))
          ∙ ap (λ gs. made all_cells
          (gs ++ growing.store_groups part.place names (length part.cells + 2 * own) (address_width count) (2 * own + 1) (length part.groups) 0 (map port_shown (shown_in (component_of d k))))
          (growing.then_stores part.place (moved_statement (moved_in d part) part.control) (length part.groups) count)) groups-are
          ∙ ap (λ gs. made all_cells
          (instrumented.counted_groups d part (cells_of (component_of d k)) (length part.cells) part.groups ++ gs)
          (growing.then_stores part.place (moved_statement (moved_in d part) part.control) (length part.groups) count))
          (stores_from part.place names (length part.cells + 2 * own) (address_width count) (2 * own + 1) (length part.groups) 0 (suc (2 * own)) (length part.groups) 0 (shown_in (component_of d k)) (omega arith) (omega arith) refl)
          ∙ ap (λ ss. made all_cells
          (instrumented.counted_groups d part (cells_of (component_of d k)) (length part.cells) part.groups ++ instrumented.store_groups part.place names (length part.cells + 2 * own) (address_width count) (suc (2 * own)) (length part.groups) 0 (shown_in (component_of d k)))
          (Placed (Seq (a_statement (moved_statement (moved_in d part) part.control) (statements_of ss))) part.place))
          (enables_from part.place (length part.groups) 0 (length part.groups) (shown_in (component_of d k)) (omega arith))
        where
          count : ℕ
          count = length (shown_in (component_of d k))

          all_cells : List PlainCell
          all_cells = part.cells ++ (counter_cells part.place names 0 own ++ memory_cell part.place (name_at names (2 * own)) count ∷ [])

          made : List PlainCell → List PlainGroup → PlainStatement → PlainComponent
          made cells groups control = record {
            name = part.name;
            latency = part.latency;
            inputs = part.inputs;
            outputs = part.outputs;
            cells = cells;
            groups = groups;
            invokes = map (growing.moved_invoke (moved_in d part)) part.invokes;
            always = map (moved_assign (moved_in d part)) part.always;
            control = control;
            place = part.place;
          }

      pub main-is : made_main d (moved_in d part) part ≡ main_component d k (free_names (names_of part) (suc (2 * own + length (shown_in (component_of d k)))))
      main-is =
          ap (λ n. growing.main_part (moved_in d part) part (free_names (names_of part) (2 * n + length (growing.shown_ports d part n) + 1)) n (growing.shown_ports d part n)) own-is
          ∙ ap (λ ps. growing.main_part (moved_in d part) part (free_names (names_of part) (2 * own + length ps + 1)) own ps) ports-are
          ∙ ap (λ n. growing.main_part (moved_in d part) part (free_names (names_of part) (2 * own + n + 1)) own (map port_shown (shown_in (component_of d k)))) count-is
          ∙ ap (λ n. growing.main_part (moved_in d part) part (free_names (names_of part) n) own (map port_shown (shown_in (component_of d k)))) one_more
          ∙ main-with (free_names (names_of part) (suc (2 * own + length (shown_in (component_of d k)))))
        where
          one_more : 2 * own + length (shown_in (component_of d k)) + 1 ≡ suc (2 * own + length (shown_in (component_of d k)))
          one_more = omega arith
