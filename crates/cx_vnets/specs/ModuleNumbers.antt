-- The numbers of nets and arrays within a module: their places in the lists of their names.
use Rattle.std.specs.Prelude.{ℕ, ◌+◌, List, [], ◌∷◌, Option, Some, None, if◌then◌else◌}
use Rattle.cx_vtree.specs.InstanceTree.{same_name}

-- the same, where the places are counted from `first` on
abbrev pub position_from : ℕ → List (List ℕ) → List ℕ → Option ℕ
position_from first [] name = None
position_from first (n ∷ ns) name = if same_name n name then Some first else position_from (first + 1) ns name
