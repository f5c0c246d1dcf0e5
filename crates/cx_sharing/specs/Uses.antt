-- Which cells a part of a component uses, and which cells may be shared at all. A part uses a cell where it names a port of it.
use Rattle.std.specs.Prelude.{ℕ, zero, suc, Bool, true, false, ◌||◌, ◌&&◌, not, List, [], ◌∷◌, Option, None, Some}
use Rattle.std.specs.List.{list_any}
use Rattle.cx_prim.specs.CellStates.{StateShape, NoState, RegisterOf, MemoryOf, SequentialMemoryOf, MultiplierOf, DividerOf, TimerOf}
use Rattle.cx_prim.specs.Table.{row_of}
use Rattle.cx_meaning.specs.declared.ports.PlacedPort.{PlacedPort}
use Rattle.cx_meaning.specs.Designs.{PlainAssign, PlainKind, OfPrimitive, OfComponent, PlainCell, PlainComponent, group_at, PlainStatement}
use Rattle.cx_meaning.specs.Instances.{Set}
use Rattle.cx_meaning.specs.Control.{targets_cell, assigns_drive, groups_of}
use Rattle.cx_rules.specs.Items.{sources_of, tests_of}
use Rattle.cx_prim.specs.Rows.{is_plain_side}

-- an assignment names the port that it drives, its source and the operands of its guard
abbrev pub assign_uses : PlainAssign → Set
assign_uses a c = targets_cell a.target c || list_any (λ p. targets_cell p.port c) (sources_of a)

abbrev pub assigns_use : List PlainAssign → Set
assigns_use list c = list_any (λ a. assign_uses a c) list

abbrev pub group_uses : PlainComponent → ℕ → Set
group_uses part g = assigns_use (group_at part g).assigns

-- a statement uses what the groups use that it enables or names, those of its invokes among them, and what its conditions name
abbrev pub uses : PlainComponent → PlainStatement → Set
uses part s c = list_any (λ g. group_uses part g c) (groups_of s) || list_any (λ p. targets_cell p.port c) (tests_of s)

-- the condition and the comb group of an if or a while, taken together
abbrev pub comb_uses : PlainComponent → Option ℕ → Set
comb_uses part None c = false
comb_uses part (Some g) c = group_uses part g c

abbrev pub test_uses : PlainComponent → PlacedPort → Option ℕ → Set
test_uses part test comb c = targets_cell test.port c || comb_uses part comb c

-- COMBINATIONAL: a primitive that holds nothing and has an input
abbrev pub is_stateless : StateShape → Bool
is_stateless NoState = true
is_stateless (RegisterOf width) = false
is_stateless (MemoryOf width count) = false
is_stateless (SequentialMemoryOf width count) = false
is_stateless (MultiplierOf width latency) = false
is_stateless (DividerOf width latency) = false
is_stateless (TimerOf length) = false

abbrev pub is_combinational : PlainKind → Bool
is_combinational (OfPrimitive primitive) =
    is_stateless (row_of primitive).shape
    && list_any (λ port. is_plain_side port.side) (row_of primitive).ports
is_combinational (OfComponent k) = false

-- the kind of a cell by its number; a number that names none has that of no primitive
abbrev pub kind_in : List PlainCell → ℕ → PlainKind
kind_in [] c = OfComponent 0
kind_in (cell ∷ cells) zero = cell.kind
kind_in (cell ∷ cells) (suc c) = kind_in cells c

-- CANDIDATE: a combinational cell of which some group drives a port, and of which no continuous assignment names one
abbrev pub is_candidate : PlainComponent → Set
is_candidate part c =
    is_combinational (kind_in part.cells c) && list_any (λ g. assigns_drive g.assigns c) part.groups
    && not (assigns_use part.always c)
