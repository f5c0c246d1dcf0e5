-- The path of a net from `main`.
use Rattle.std.specs.Prelude.{ℕ, zero, suc, ◌==◌, List, [], ◌∷◌, ◌++◌, map, reverse, slice_get, unwrap_or, if◌then◌else◌, codes}
use Rattle.std.specs.Option.{option_map_or}
use Rattle.cx_vtree.specs.Plain.{PlainModule}
use Rattle.cx_vtree.specs.InstanceTree.{Placed, declared_nets, nets_at}

-- the nets of a module: its ports, then its wires and registers
abbrev pub nets_in : PlainModule → List (List ℕ)
nets_in m = map (λ p. p.name) m.ports ++ declared_nets m.decls

-- the instances from one up to the one that stands in `main`: so many at most, and as each is held by one of a lower number,
-- there are no more than its own number
abbrev pub up : List Placed → ℕ → ℕ → List ℕ
up tree zero i = []
up tree (suc most) i = if i == 0 then [] else option_map_or (λ p. i ∷ up tree most p.holder) (slice_get tree i) []

-- the name of an instance with a dot
abbrev pub dotted : List Placed → ℕ → List ℕ
dotted tree i = option_map_or (λ p. p.name ++ codes ".") (slice_get tree i) []

abbrev pub all_dotted : List Placed → List ℕ → List ℕ
all_dotted tree [] = []
all_dotted tree (i ∷ is) = dotted tree i ++ all_dotted tree is

-- the names of the instances down to this one, without `main`, and of the net, joined by dots
abbrev pub path_of : List Placed → ℕ → ℕ → List ℕ
path_of tree instance net =
    all_dotted tree (reverse (up tree instance instance))
    ++ unwrap_or (slice_get (nets_at tree instance) net) []
