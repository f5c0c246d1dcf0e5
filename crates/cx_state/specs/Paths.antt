-- A port of an instance as messages name it.
use Rattle.std.specs.Prelude.{◌≡◌, ℕ, List, Some, slice_get}
use Rattle.cx_meaning.specs.declared.ports.PortRef.{PortRef}
use Rattle.cx_meaning.specs.Instances.{Instance, Path, paths_of}
use Rattle.cx_rules.specs.FullPaths.{full_path}

-- of an instance by its number in pre-order of the tree
abbrev pub TellsPort : Instance → ℕ → PortRef → List ℕ → Type 0
TellsPort tree instance port name =
    (path : Path) → slice_get (paths_of tree) instance ≡ Some path → name ≡ full_path tree path port
