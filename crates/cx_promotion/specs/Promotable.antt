-- PROMOTABLE GROUPS: plain groups of a known length, which start one primitive cell and wait for its done.
use Rattle.std.specs.Prelude.{ℕ, zero, suc, Bool, true, false, ◌&&◌, ◌||◌, not, nat_eq, List, [], ◌∷◌, Option, Some, None, filter, length, if◌then◌else◌}
use Rattle.std.specs.List.{list_all, list_any}
use Rattle.cx_prim.specs.declared.ports.PortName.{PortName}
use Rattle.cx_prim.specs.declared.ports.PortName.TheVariants as names
use Rattle.cx_prim.specs.declared.ports.PortRow.{PortRow}
use Rattle.cx_prim.specs.CellStates.{StateShape, NoState, RegisterOf, MemoryOf, SequentialMemoryOf, MultiplierOf, DividerOf, TimerOf}
use Rattle.cx_prim.specs.Rows.{Row}
use Rattle.cx_meaning.specs.declared.ports.PortRef.{PortRef}
use Rattle.cx_meaning.specs.declared.ports.PortRef.TheVariants as ports
use Rattle.cx_meaning.specs.declared.kinds.GroupKind.TheVariants.{Timed}
use Rattle.cx_meaning.specs.Designs.{Always, PlainAssign, PlainGroup}
use Rattle.cx_meaning.specs.Instances.{Instance, At, Nothing, OfRow, OfInstance, cell_at, cells_of, part_of}
use Rattle.cx_meaning.specs.Active.{same_port}
use Rattle.cx_meaning.specs.Sights.{part_port}
use Rattle.cx_rules.specs.Items.{is_plain, sources_of}
use Rattle.cx_rules.specs.Ports.{is_primitive_enable, is_part_port, is_part_done}
use Rattle.cx_rules.specs.ShapeRules.{is_hole, some_target}
use Rattle.cx_rules.specs.CallShape.{one, with_target, is_always, is_negated, is_port_of}

-- PORTS OF A ROW, by their names; only the names that matter here are compared
abbrev pub is_name : PortName → PortName → Bool
is_name names.Done names.Done = true
is_name names.WriteEn names.WriteEn = true
is_name names.ContentEn names.ContentEn = true
is_name names.Go names.Go = true
is_name _ _ = false

abbrev pub is_named : PortName → List PortRow → ℕ → Bool
is_named name [] p = false
is_named name (port ∷ rest) zero = is_name name port.name
is_named name (port ∷ rest) (suc p) = is_named name rest p

abbrev pub first_named : PortName → List PortRow → ℕ → Option ℕ
first_named name [] p = None
first_named name (port ∷ rest) p = if is_name name port.name then Some p else first_named name rest (suc p)

abbrev pub or_else : Option ℕ → Option ℕ → Option ℕ
or_else None later = later
or_else (Some p) later = Some p

-- the enabling port that starts a cell: content_en of a sequential memory, write_en of a register or another memory, go of a pipe
abbrev pub starting_port : Row → Option ℕ
starting_port row =
    or_else (first_named names.ContentEn row.ports 0)
    (or_else (first_named names.WriteEn row.ports 0) (first_named names.Go row.ports 0))

-- the cycles until a cell is done: the latency of a pipe, else 1. A combinational cell is never done, and no text has a timer
abbrev pub cycles_of : StateShape → Option ℕ
cycles_of NoState = None
cycles_of (RegisterOf width) = Some 1
cycles_of (MemoryOf width count) = Some 1
cycles_of (SequentialMemoryOf width count) = Some 1
cycles_of (MultiplierOf width latency) = Some latency
cycles_of (DividerOf width latency) = Some latency
cycles_of (TimerOf length) = None

abbrev pub is_pipe : StateShape → Bool
is_pipe NoState = false
is_pipe (RegisterOf width) = false
is_pipe (MemoryOf width count) = false
is_pipe (SequentialMemoryOf width count) = false
is_pipe (MultiplierOf width latency) = true
is_pipe (DividerOf width latency) = true
is_pipe (TimerOf length) = false

-- A DONE: of a primitive cell, or of a component's cell
abbrev pub is_done_at : At → ℕ → Bool
is_done_at Nothing p = false
is_done_at (OfRow row) p = is_named names.Done row.ports p
is_done_at (OfInstance child) p = is_part_done (part_port (part_of child) p)

abbrev pub is_done : Instance → PortRef → Bool
is_done i (ports.Cell c p) = is_done_at (cell_at (cells_of i) c) p
is_done i (ports.Input n) = false
is_done i (ports.Output n) = false
is_done i (ports.Done g) = false
is_done i (ports.Literal w v) = false

-- an assignment looks at a done: as its source or anywhere in its guard
abbrev pub looks_at_done : Instance → PlainAssign → Bool
looks_at_done i a = list_any (λ q. is_done i q.port) (sources_of a)

-- THE CONDITIONS, for cell c of this row, the port p of which is the source of the group's done
module _ (i : Instance) (x : PlainGroup) (c p : ℕ) (row : Row) where
  -- an enabling port belongs to the cell and is driven once, by 1'd1, bare or, of a pipe, under the guard !c.done
  abbrev pub is_right_enable : PlainAssign → Bool
  is_right_enable a =
      is_port_of c a.target && (same_port a.source.port one &&
      (is_always a.guard || (is_pipe row.shape && is_negated (ports.Cell c p) a.guard)))
      && nat_eq (length (with_target a.target x.assigns)) 1

  -- an assignment that is neither of the done nor of an enabling port looks at no done
  abbrev pub is_right : PlainAssign → Bool
  is_right a =
      if is_hole a.target then true else if is_primitive_enable i a.target then is_right_enable a
      else not (looks_at_done i a)

  -- the cell is started
  abbrev pub starts : Option ℕ → Bool
  starts None = false
  starts (Some e) = some_target (same_port (ports.Cell c e)) x.assigns

  abbrev pub keeps_all : Bool
  keeps_all =
      (is_named names.Done row.ports p && starts (starting_port row)) && (list_all is_right x.assigns)
      && not (list_any (looks_at_done i) (part_of i).always)

  abbrev pub length_if : Bool → Option ℕ
  length_if true = cycles_of row.shape
  length_if false = None

abbrev pub of_cell : Instance → PlainGroup → ℕ → ℕ → At → Option ℕ
of_cell i x c p Nothing = None
of_cell i x c p (OfRow row) = length_if i x c p row (keeps_all i x c p row)
of_cell i x c p (OfInstance child) = None

abbrev pub of_source : Instance → PlainGroup → PortRef → Option ℕ
of_source i x (ports.Cell c p) = of_cell i x c p (cell_at (cells_of i) c)
of_source i x (ports.Input n) = None
of_source i x (ports.Output n) = None
of_source i x (ports.Done g) = None
of_source i x (ports.Literal w v) = None

-- exactly one done assignment, without a guard
abbrev pub of_dones : Instance → PlainGroup → List PlainAssign → Option ℕ
of_dones i x [] = None
of_dones i x (a ∷ []) = if is_always a.guard then of_source i x a.source.port else None
of_dones i x (a ∷ b ∷ rest) = None

-- THE LENGTH in cycles of a promotable group; none of another one
abbrev pub promotable : Instance → PlainGroup → Option ℕ
promotable i x =
    if is_plain x.kind && not (some_target (is_part_port i) x.assigns)
    then of_dones i x (filter (λ a. is_hole a.target) x.assigns) else None

-- THE PROMOTED GROUP: without its done assignment, and without the guards of its enabling ports
abbrev pub bare_enable : Instance → PlainAssign → PlainAssign
bare_enable i a = if is_primitive_enable i a.target then record a { guard = Always } else a

abbrev pub promoted_assigns : Instance → List PlainAssign → List PlainAssign
promoted_assigns i [] = []
promoted_assigns i (a ∷ rest) =
    if is_hole a.target then promoted_assigns i rest else bare_enable i a ∷ promoted_assigns i rest

abbrev pub promoted_group : Instance → ℕ → PlainGroup → PlainGroup
promoted_group i n x = record x { kind = Timed n; assigns = promoted_assigns i x.assigns }
