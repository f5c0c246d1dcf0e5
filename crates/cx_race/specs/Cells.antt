-- The cells that assignments and statements drive and name, as lists.
use Rattle.std.specs.Prelude.{ℕ, List, [], ◌∷◌, ◌++◌, Option, Some, None, flat_map}
use Rattle.cx_meaning.specs.declared.ports.PortRef.{PortRef}
use Rattle.cx_meaning.specs.declared.ports.PortRef.TheVariants as ports
use Rattle.cx_meaning.specs.declared.ports.PlacedPort.{PlacedPort}
use Rattle.cx_meaning.specs.Designs.{PlainAssign, PlainGroup, PlainInvoke, PlainComponent, group_at, PlainStatement}
use Rattle.cx_meaning.specs.Control.{groups_of}
use Rattle.cx_rules.specs.Items.{operands_of, tests_of}
use Rattle.cx_rules.specs.Invokes.{invoke_at, invokes_of}

-- the cell of a port, where it is one of a cell
abbrev pub cell_in : PortRef → List ℕ
cell_in (ports.Cell c p) = c ∷ []
cell_in (ports.Input n) = []
cell_in (ports.Output n) = []
cell_in (ports.Done g) = []
cell_in (ports.Literal w v) = []

abbrev pub port_cell : PlacedPort → List ℕ
port_cell p = cell_in p.port

-- of an assignment: the cell of its target, and the cells that its source and guard name
abbrev pub target_in : PlainAssign → List ℕ
target_in a = cell_in a.target

abbrev pub named_in : PlainAssign → List ℕ
named_in a = cell_in a.source.port ++ flat_map port_cell (operands_of a.guard)

-- of several
abbrev pub driven_in : List PlainAssign → List ℕ
driven_in assigns = flat_map target_in assigns

abbrev pub named_in_all : List PlainAssign → List ℕ
named_in_all assigns = flat_map named_in assigns

-- of a group
abbrev pub targets_in_group : PlainGroup → List ℕ
targets_in_group group = driven_in group.assigns

abbrev pub cells_in_group : PlainGroup → List ℕ
cells_in_group group = driven_in group.assigns ++ named_in_all group.assigns

-- of a statement: the cells that its groups drive
abbrev pub driven_by : PlainComponent → PlainStatement → List ℕ
driven_by part s = flat_map (λ g. targets_in_group (group_at part g)) (groups_of s)

-- the cells of its conditions
abbrev pub tested_by : PlainStatement → List ℕ
tested_by s = flat_map port_cell (tests_of s)

-- and those that its groups drive or name
abbrev pub named_by : PlainComponent → PlainStatement → List ℕ
named_by part s = tested_by s ++ flat_map (λ g. cells_in_group (group_at part g)) (groups_of s)

-- of the group that captures, where there is one: the cells that it drives, and those that it looks at
abbrev pub targets_in_capture : PlainComponent → Option ℕ → List ℕ
targets_in_capture part None = []
targets_in_capture part (Some g) = targets_in_group (group_at part g)

abbrev pub named_in_capture : PlainComponent → Option ℕ → List ℕ
named_in_capture part None = []
named_in_capture part (Some g) = named_in_all (group_at part g).assigns

-- of a static invoke: its cell with those that are driven as it captures, and the cells that feed it and that capturing looks at
abbrev pub targets_in_invoke : PlainComponent → Option PlainInvoke → List ℕ
targets_in_invoke part None = []
targets_in_invoke part (Some v) = v.cell ∷ targets_in_capture part v.captures

abbrev pub named_in_invoke : PlainComponent → Option PlainInvoke → List ℕ
named_in_invoke part None = []
named_in_invoke part (Some v) = named_in_all v.inputs ++ named_in_capture part v.captures

-- of static invokes by their numbers
abbrev pub targets_in_invokes : PlainComponent → List ℕ → List ℕ
targets_in_invokes part ks = flat_map (λ k. targets_in_invoke part (invoke_at part k)) ks

abbrev pub named_in_invokes : PlainComponent → List ℕ → List ℕ
named_in_invokes part ks = flat_map (λ k. named_in_invoke part (invoke_at part k)) ks

-- of a statement: the cells that its static invokes drive
abbrev pub invoked_by : PlainComponent → PlainStatement → List ℕ
invoked_by part s = targets_in_invokes part (invokes_of s)

-- those that its conditions name, and that its static invokes drive or name
abbrev pub met_by : PlainComponent → PlainStatement → List ℕ
met_by part s = tested_by s ++ (invoked_by part s ++ named_in_invokes part (invokes_of s))

-- all cells that it drives, and all that it drives or names, with its static invokes
abbrev pub driven_all_by : PlainComponent → PlainStatement → List ℕ
driven_all_by part s = invoked_by part s ++ driven_by part s

abbrev pub named_all_by : PlainComponent → PlainStatement → List ℕ
named_all_by part s = met_by part s ++ flat_map (λ g. cells_in_group (group_at part g)) (groups_of s)
