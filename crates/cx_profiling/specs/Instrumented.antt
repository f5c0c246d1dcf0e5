-- THE INSTRUMENTED DESIGN: each counted group has a counter, outputs carry the counts up, and main has a memory of the counts with a group
-- for each word of it. These groups run behind the old control.
use Rattle.std.specs.Prelude.{ℕ, zero, suc, ◌+◌, ◌*◌, ◌^◌, nat_eq, nat_le, Bool, true, false, not, ◌&&◌, List, [], ◌∷◌, ◌++◌, length, map, get_or, flat_map, Option, Some, None, slice_get, if◌then◌else◌}
use Rattle.std.specs.List.{range_with_len}
use Rattle.cx_text.specs.declared.places.Place.{Place}
use Rattle.cx_prim.specs.declared.names.PrimitiveName.{PrimitiveName}
use Rattle.cx_prim.specs.declared.names.PrimitiveName.TheVariants as primitives
use Rattle.cx_meaning.specs.declared.ports.PortRef.{PortRef}
use Rattle.cx_meaning.specs.declared.ports.PortRef.TheVariants as ports
use Rattle.cx_meaning.specs.declared.kinds.GroupKind.TheVariants as kinds
use Rattle.cx_meaning.specs.declared.kinds.PortDecl.{PortDecl}
use Rattle.cx_meaning.specs.Designs.{Always, PlainAssign, PlainGroup, PlainKind, OfPrimitive, OfComponent, PlainCell, Enable, Seq, PlainStatement, Placed, a_statement, statements_of, PlainInvoke, PlainComponent, PlainDesign, component_at, components_of}
use Rattle.cx_meaning.specs.Instances.{Cells, cells_of}
use Rattle.cx_rules.specs.Ports.{component_of}
use Rattle.cx_rules.specs.Counts.{is_one_of}
use Rattle.cx_rewrites.specs.Moving.{moved_assign, moved_statement}
use Rattle.cx_profiling.specs.Counters.{is_counted, counters, Shown, shown_in, first_gained, entry_count}
use Rattle.cx_profiling.specs.FreeNames.{free_names, names_of}

-- REACHED: main, the components of its cells, those of their cells, and so on
abbrev pub reached_from : PlainDesign → ℕ → ℕ → List ℕ
reached_from d zero k = k ∷ []
reached_from d (suc levels) k = k ∷ flat_map (reached_from d levels) (components_of (component_at d k).cells)

-- no chain of components that stand in each other's cells is longer than there are components
abbrev pub is_reached : PlainDesign → ℕ → Bool
is_reached d k = is_one_of k (reached_from d (length d.components) d.main)

-- an assignment without a guard, all at one place
abbrev pub drive : Place → PortRef → PortRef → PlainAssign
drive place target source =
    record {
      target = target;
      guard = Always;
      source = record { port = source; place = place };
      place = place;
    }

-- a.left = r.out; a.right = 64'd1; r.in = a.out; r.write_en = 1'd1, for the register r at a cell and the adder a behind it
abbrev pub counter_assigns : Place → ℕ → List PlainAssign
counter_assigns place r =
    drive place (ports.Cell (suc r) 0) (ports.Cell r 2) ∷ drive place (ports.Cell (suc r) 1) (ports.Literal 64 1)
    ∷ drive place (ports.Cell r 0) (ports.Cell (suc r) 2) ∷ drive place (ports.Cell r 1) (ports.Literal 1 1) ∷ []

abbrev pub new_cell : Place → List ℕ → PrimitiveName → List ℕ → Bool → PlainCell
new_cell place name primitive numbers external =
    record {
      name = name;
      kind = OfPrimitive (record { name = primitive; numbers = numbers });
      external = external;
      place = place;
    }

-- name n of a list
abbrev pub name_at : List (List ℕ) → ℕ → List ℕ
name_at names n = get_or names n []

-- the registers and adders of so many counters, with the names from number n on
abbrev pub counter_cells : Place → List (List ℕ) → ℕ → ℕ → List PlainCell
counter_cells place names n zero = []
counter_cells place names n (suc k) =
    new_cell place (name_at names n) primitives.Reg (64 ∷ []) false
    ∷ new_cell place (name_at names (suc n)) primitives.Add (64 ∷ []) false
    ∷ counter_cells place names (suc (suc n)) k

-- the outputs that show counts: their declarations, with the names from number n on, and what drives them, from output n on
abbrev pub count_outputs : List (List ℕ) → ℕ → List Shown → List PortDecl
count_outputs names n [] = []
count_outputs names n (x ∷ xs) = record { name = name_at names n; width = 64 } ∷ count_outputs names (suc n) xs

abbrev pub output_assigns : Place → ℕ → List Shown → List PlainAssign
output_assigns place n [] = []
output_assigns place n (x ∷ xs) = drive place (ports.Output n) x.port ∷ output_assigns place (suc n) xs

-- THE MEMORY OF THE COUNTS: its addresses have the least width, at least 1, with which they name so many words
abbrev pub width_from : ℕ → ℕ → ℕ → ℕ
width_from zero width k = width
width_from (suc more) width k = if nat_le k (2 ^ width) then width else width_from more (suc width) k

abbrev pub address_width : ℕ → ℕ
address_width k = width_from k 1 k

abbrev pub memory_cell : Place → List ℕ → ℕ → PlainCell
memory_cell place name k = new_cell place name primitives.StdMemD1 (64 ∷ k ∷ address_width k ∷ []) true

-- a group that stores a count as word j: mem.addr0 = j; mem.write_data = count; mem.write_en = 1'd1; g[done] = mem.done
abbrev pub store_assigns : Place → ℕ → ℕ → ℕ → ℕ → PortRef → List PlainAssign
store_assigns place memory width g j count =
    drive place (ports.Cell memory 0) (ports.Literal width j) ∷ drive place (ports.Cell memory 1) count
    ∷ drive place (ports.Cell memory 2) (ports.Literal 1 1) ∷ drive place (ports.Done g) (ports.Cell memory 4) ∷ []

-- the groups that store, from group g, word j and name n on
abbrev pub store_groups : Place → List (List ℕ) → ℕ → ℕ → ℕ → ℕ → ℕ → List Shown → List PlainGroup
store_groups place names memory width n g j [] = []
store_groups place names memory width n g j (x ∷ xs) =
    record {
      name = name_at names n;
      kind = kinds.Plain;
      assigns = store_assigns place memory width g j x.port;
      place = place;
    }
    ∷ store_groups place names memory width (suc n) (suc g) (suc j) xs

abbrev pub store_enables : Place → ℕ → List Shown → List PlainStatement
store_enables place g [] = []
store_enables place g (x ∷ xs) = Placed (Enable g) place ∷ store_enables place (suc g) xs

module _ (d : PlainDesign) where
  -- so many outputs a component gains
  abbrev pub gained : ℕ → ℕ
  gained k = if is_reached d k && not (nat_eq k d.main) then length (shown_in (component_of d k)) else 0

  -- MOVED: the done of a component's cell stands behind the outputs that the component gains
  abbrev pub moved_by : PlainKind → ℕ → ℕ
  moved_by (OfPrimitive primitive) p = p
  moved_by (OfComponent k) p = if nat_eq p (first_gained (component_at d k)) then p + gained k else p

  abbrev pub moved_number : Option PlainCell → ℕ → ℕ
  moved_number None p = p
  moved_number (Some cell) p = moved_by cell.kind p

  abbrev pub moved_in : PlainComponent → PortRef → PortRef
  moved_in part (ports.Cell c p) = ports.Cell c (moved_number (slice_get part.cells c) p)
  moved_in part (ports.Input n) = ports.Input n
  moved_in part (ports.Output n) = ports.Output n
  moved_in part (ports.Done g) = ports.Done g
  moved_in part (ports.Literal w v) = ports.Literal w v

  abbrev pub moved_assigns : PlainComponent → List PlainAssign → List PlainAssign
  moved_assigns part assigns = map (moved_assign (moved_in part)) assigns

  abbrev pub moved_invoke : PlainComponent → PlainInvoke → PlainInvoke
  moved_invoke part invoke =
      record {
        cell = invoke.cell;
        written = invoke.written;
        length = invoke.length;
        latency = invoke.latency;
        inputs = moved_assigns part invoke.inputs;
        captures = invoke.captures;
      }

  -- GROUPS: a counted one gains the assignments of its counter; the next counter's register is cell c
  abbrev pub group_with : PlainComponent → PlainGroup → List PlainAssign → PlainGroup
  group_with part g more =
      record {
        name = g.name;
        kind = g.kind;
        assigns = moved_assigns part g.assigns ++ more;
        place = g.place;
      }

  abbrev pub counted_groups : PlainComponent → Cells → ℕ → List PlainGroup → List PlainGroup
  counted_groups part cells c [] = []
  counted_groups part cells c (g ∷ gs) =
      if is_counted cells g
      then group_with part g (counter_assigns part.place c) ∷ counted_groups part cells (suc (suc c)) gs
      else group_with part g [] ∷ counted_groups part cells c gs

  -- COMPONENTS
  module _ (k : ℕ) where
    abbrev part : PlainComponent
    part = component_at d k

    abbrev cells : Cells
    cells = cells_of (component_of d k)

    abbrev own : ℕ
    own = length (counters (component_of d k))

    abbrev shown : List Shown
    shown = shown_in (component_of d k)

    -- without an instance: its parts stay, but for the numbers of dones
    abbrev pub kept_component : PlainComponent
    kept_component = record {
      name = part.name;
      latency = part.latency;
      inputs = part.inputs;
      outputs = part.outputs;
      cells = part.cells;
      place = part.place;
      groups = map (λ g. group_with part g []) part.groups;
      invokes = map (moved_invoke part) part.invokes;
      always = moved_assigns part part.always;
      control = moved_statement (moved_in part) part.control;
    }

    -- with an instance that another has: counters, and outputs that show the counts of it and all below it
    abbrev pub child_component : List (List ℕ) → PlainComponent
    child_component names = record {
      name = part.name;
      latency = part.latency;
      inputs = part.inputs;
      place = part.place;
      outputs = part.outputs ++ count_outputs names (2 * own) shown;
      cells = part.cells ++ counter_cells part.place names 0 own;
      groups = counted_groups part cells (length part.cells) part.groups;
      invokes = map (moved_invoke part) part.invokes;
      always = moved_assigns part part.always ++ output_assigns part.place (length part.outputs) shown;
      control = moved_statement (moved_in part) part.control;
    }

    -- main: counters, the memory, and behind the old control a store for each count
    abbrev pub main_component : List (List ℕ) → PlainComponent
    main_component names = record {
      name = part.name;
      latency = part.latency;
      inputs = part.inputs;
      outputs = part.outputs;
      place = part.place;
      cells =
          part.cells ++ (counter_cells part.place names 0 own ++
          memory_cell part.place (name_at names (2 * own)) (length shown) ∷ []);
      groups = counted_groups part cells (length part.cells) part.groups
          ++ store_groups part.place names (length part.cells + 2 * own) (address_width (length shown))
          (suc (2 * own)) (length part.groups) 0 shown;
      invokes = map (moved_invoke part) part.invokes;
      always = moved_assigns part part.always;
      control =
          Placed (Seq (a_statement (moved_statement (moved_in part) part.control)
          (statements_of (store_enables part.place (length part.groups) shown)))) part.place;
    }

    abbrev pub instrumented_component : PlainComponent
    instrumented_component =
        if nat_eq k d.main then main_component (free_names (names_of part) (suc (2 * own + length shown)))
        else (if is_reached d k then child_component (free_names (names_of part) (2 * own + length shown))
        else kept_component)

  -- a design with an entry
  abbrev pub with_counts : PlainDesign
  with_counts =
      record {
        components = map (λ k. instrumented_component k) (range_with_len 0 (length d.components));
        main = d.main;
      }

-- THE INSTRUMENTED DESIGN. A design without entries stays as it is
abbrev pub instrumented : PlainDesign → PlainDesign
instrumented d = if nat_eq (entry_count d) 0 then d else with_counts d
