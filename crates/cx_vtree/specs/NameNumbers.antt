-- The numbers of names: their places in a list, and what maps from names to numbers hold.
use Rattle.std.specs.Prelude.{ℕ, suc, List, [], ◌∷◌, Option, Some, None, option_map, if◌then◌else◌}
use Rattle.std.specs.HashMap as maps
use Rattle.std.specs.HashMap.{HashMap}
use denote.Ref.{Bor}
use Rattle.cx_vtree.specs.InstanceTree.{same_name}

-- the first place of a name in a list
abbrev pub position : List (List ℕ) → List ℕ → Option ℕ
position [] name = None
position (n ∷ ns) name = if same_name n name then Some 0 else option_map suc (position ns name)

-- the number of a name by a map
abbrev pub number_by : {S : Type 0} → HashMap (Bor (List ℕ)) ℕ S → List ℕ → Option ℕ
number_by m name = maps.get_by (λ k. same_name name k.now) m
