-- Names of ports from main on, as a run tells them.
use Rattle.std.specs.Prelude.{ℕ, Bool, false, nat_eq, List, [], ◌∷◌, ◌++◌, codes, if◌then◌else◌}
use Rattle.cx_meaning.specs.declared.ports.PortRef.{PortRef}
use Rattle.cx_meaning.specs.declared.ports.PortRef.TheVariants as ports
use Rattle.cx_meaning.specs.Instances.{Instance, Path, part_of, cells_of, cell_at, instance_at}
use Rattle.cx_rules.specs.Ports.{cell_name, cell_port_name, path_of}

-- the name of a cell's port: that of the cell, a point and the port's. A cell whose name ends in a point is the wire of an output: there
-- the output's own name stands, without the point
abbrev pub ends_in_point : List ℕ → Bool
ends_in_point [] = false
ends_in_point (x ∷ []) = nat_eq x 46
ends_in_point (x ∷ y ∷ rest) = ends_in_point (y ∷ rest)

abbrev pub but_last : List ℕ → List ℕ
but_last [] = []
but_last (x ∷ []) = []
but_last (x ∷ y ∷ rest) = x ∷ but_last (y ∷ rest)

abbrev pub cell_path : List ℕ → List ℕ → List ℕ
cell_path cell port = if ends_in_point cell then but_last cell else cell ++ codes "." ++ port

-- a port of an instance by its own name there
abbrev pub own_path : Instance → PortRef → List ℕ
own_path i (ports.Cell c p) = cell_path (cell_name (part_of i).cells c) (cell_port_name (cell_at (cells_of i) c) p)
own_path i (ports.Input n) = path_of i (ports.Input n)
own_path i (ports.Output n) = path_of i (ports.Output n)
own_path i (ports.Done g) = path_of i (ports.Done g)
own_path i (ports.Literal w v) = path_of i (ports.Literal w v)

-- the names of the cells that lead to an instance, each with a point behind it
abbrev pub names_along : Instance → Path → List ℕ
names_along i [] = []
names_along i (c ∷ path) = cell_name (part_of i).cells c ++ codes "." ++ names_along (instance_at i (c ∷ [])) path

-- these names and that of a port of the instance
abbrev pub full_path : Instance → Path → PortRef → List ℕ
full_path i path port = names_along i path ++ own_path (instance_at i path) port
