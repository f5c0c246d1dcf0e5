-- What the code makes of a component, by lists: with ports moved by any map, and with the ports that show the counts.
use Rattle.std.specs.Prelude.{ℕ, ◌+◌, ◌*◌, List, [], ◌∷◌, ◌++◌, length, map, if◌then◌else◌}
use Rattle.std.specs.List.{range_with_len}
use Rattle.cx_text.specs.declared.places.Place.{Place}
use Rattle.cx_meaning.specs.declared.ports.PortRef.{PortRef}
use Rattle.cx_meaning.specs.declared.ports.PortRef.TheVariants as ports
use Rattle.cx_meaning.specs.declared.kinds.PortDecl.{PortDecl}
use Rattle.cx_meaning.specs.declared.kinds.GroupKind.TheVariants as kinds
use Rattle.cx_meaning.specs.Designs.{PlainAssign, PlainGroup, PlainKind, OfPrimitive, OfComponent, PlainCell, PlainInvoke, Enable, Seq, PlainStatement, Placed, a_statement, statements_of, PlainComponent, PlainDesign, component_at}
use Rattle.cx_rewrites.specs.Moving.{moved_assign, moved_group, moved_statement}
use Rattle.cx_profiling.specs.Counters.{first_gained}
use Rattle.cx_profiling.specs.Instrumented.{drive, counter_assigns, counter_cells, name_at, address_width, memory_cell, store_assigns, gained}
use Rattle.cx_profile.specs.Counted.{counts_group}

-- GROUPS: a counted one has the assignments of its counter behind its own; the next counter's register is cell c
module _ (move : PortRef → PortRef) where
  abbrev pub moved_invoke : PlainInvoke → PlainInvoke
  moved_invoke v =
      record {
        cell = v.cell;
        written = v.written;
        length = v.length;
        latency = v.latency;
        inputs = map (moved_assign move) v.inputs;
        captures = v.captures;
      }

  abbrev pub grown_group : Place → ℕ → PlainGroup → PlainGroup
  grown_group place c g =
      record {
        name = g.name;
        kind = g.kind;
        assigns = map (moved_assign move) g.assigns ++ counter_assigns place c;
        place = g.place;
      }

  abbrev pub counted_group : List PlainCell → Place → ℕ → PlainGroup → PlainGroup
  counted_group cells place c g = if counts_group cells g then grown_group place c g else moved_group move g

abbrev pub next_register : List PlainCell → ℕ → PlainGroup → ℕ
next_register cells c g = if counts_group cells g then c + 2 else c

module _ (move : PortRef → PortRef) where
  abbrev pub counted_groups : List PlainCell → Place → ℕ → List PlainGroup → List PlainGroup
  counted_groups cells place c [] = []
  counted_groups cells place c (g ∷ gs) =
      counted_group move cells place c g ∷ counted_groups cells place (next_register cells c g) gs

-- PORTS THAT SHOW COUNTS: so many registers, which are every second cell; and so many ports of a cell
abbrev pub register_ports : ℕ → ℕ → List PortRef
register_ports c n = map (λ i. ports.Cell (c + 2 * i) 2) (range_with_len 0 n)

abbrev pub ports_from : ℕ → ℕ → ℕ → List PortRef
ports_from c p n = map (λ i. ports.Cell c (p + i)) (range_with_len 0 n)

module _ (d : PlainDesign) where
  abbrev pub kind_ports : ℕ → PlainKind → List PortRef
  kind_ports c (OfPrimitive primitive) = []
  kind_ports c (OfComponent j) = ports_from c (first_gained (component_at d j)) (gained d j)

  abbrev pub cell_ports : ℕ → List PlainCell → List PortRef
  cell_ports c [] = []
  cell_ports c (cell ∷ cells) = kind_ports c cell.kind ++ cell_ports (c + 1) cells

  abbrev pub shown_ports : PlainComponent → ℕ → List PortRef
  shown_ports part own = register_ports (length part.cells) own ++ cell_ports 0 part.cells

-- OUTPUTS with the names from number n on, and what drives them
abbrev pub new_outputs : List (List ℕ) → ℕ → ℕ → List PortDecl
new_outputs names n k = map (λ i. record { name = name_at names (n + i); width = 64 }) (range_with_len 0 k)

abbrev pub port_assigns : Place → ℕ → List PortRef → List PlainAssign
port_assigns place n [] = []
port_assigns place n (p ∷ ps) = drive place (ports.Output n) p ∷ port_assigns place (n + 1) ps

-- STORES of counts as words from j on
module _ (place : Place) (names : List (List ℕ)) (memory width : ℕ) where
  abbrev pub store_group : ℕ → ℕ → ℕ → PortRef → PlainGroup
  store_group n g j port =
      record {
        name = name_at names (n + j);
        kind = kinds.Plain;
        assigns = store_assigns place memory width (g + j) j port;
        place = place;
      }

  abbrev pub store_groups : ℕ → ℕ → ℕ → List PortRef → List PlainGroup
  store_groups n g j [] = []
  store_groups n g j (p ∷ ps) = store_group n g j p ∷ store_groups n g (j + 1) ps

abbrev pub enables : Place → ℕ → ℕ → List PlainStatement
enables place g k = map (λ i. Placed (Enable (g + i)) place) (range_with_len 0 k)

abbrev pub then_stores : Place → PlainStatement → ℕ → ℕ → PlainStatement
then_stores place s g k = Placed (Seq (a_statement s (statements_of (enables place g k)))) place

-- COMPONENTS
module _ (move : PortRef → PortRef) (part : PlainComponent) where
  abbrev pub kept_part : PlainComponent
  kept_part = record {
    name = part.name;
    latency = part.latency;
    inputs = part.inputs;
    outputs = part.outputs;
    cells = part.cells;
    groups = map (moved_group move) part.groups;
    invokes = map (moved_invoke move) part.invokes;
    always = map (moved_assign move) part.always;
    control = moved_statement move part.control;
    place = part.place;
  }

  abbrev pub child_part : List (List ℕ) → ℕ → List PortRef → PlainComponent
  child_part names own shown = record {
    name = part.name;
    latency = part.latency;
    inputs = part.inputs;
    outputs = part.outputs ++ new_outputs names (2 * own) (length shown);
    cells = part.cells ++ counter_cells part.place names 0 own;
    groups = counted_groups move part.cells part.place (length part.cells) part.groups;
    invokes = map (moved_invoke move) part.invokes;
    always = map (moved_assign move) part.always ++ port_assigns part.place (length part.outputs) shown;
    control = moved_statement move part.control;
    place = part.place;
  }

  abbrev pub main_part : List (List ℕ) → ℕ → List PortRef → PlainComponent
  main_part names own shown = record {
    name = part.name;
    latency = part.latency;
    inputs = part.inputs;
    outputs = part.outputs;
    cells =
        (part.cells ++ counter_cells part.place names 0 own)
        ++ memory_cell part.place (name_at names (2 * own)) (length shown) ∷ [];
    groups = counted_groups move part.cells part.place (length part.cells) part.groups
        ++ store_groups part.place names (length part.cells + 2 * own) (address_width (length shown))
        (2 * own + 1) (length part.groups) 0 shown;
    invokes = map (moved_invoke move) part.invokes;
    always = map (moved_assign move) part.always;
    control = then_stores part.place (moved_statement move part.control) (length part.groups) (length shown);
    place = part.place;
  }
