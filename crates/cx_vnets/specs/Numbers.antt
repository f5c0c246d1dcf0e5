-- The numbers of the nets and arrays of all instances: those of an instance follow those of the instances before it.
use Rattle.std.specs.Prelude.{ℕ, zero, suc, ◌+◌, List, Option, length, option_and_then, option_map, slice_get}
use Rattle.cx_bits.specs.BitVector.{BitVector}
use Rattle.cx_vtree.specs.InstanceTree.{Placed, nets_at, arrays_at}
use Rattle.cx_vtree.specs.Meaning.{Look}
use Rattle.cx_vnets.specs.declared.codes.NetPosition.{NetPosition}
use Rattle.cx_vtree.specs.NameNumbers.{position}

-- how many names stand in the lists of lower number
abbrev pub before : (ℕ → List (List ℕ)) → ℕ → ℕ
before lists zero = 0
before lists (suc i) = before lists i + length (lists i)

-- the number of a name of a list among the names of all lists
abbrev pub number_in : (ℕ → List (List ℕ)) → ℕ → List ℕ → Option ℕ
number_in lists i name = option_map (λ k. before lists i + k) (position (lists i) name)

-- how many nets the instances of lower number have, and how many arrays
abbrev pub nets_before : List Placed → ℕ → ℕ
nets_before tree i = before (nets_at tree) i

abbrev pub arrays_before : List Placed → ℕ → ℕ
arrays_before tree i = before (arrays_at tree) i

-- the number of the net of a name in an instance, among all nets
abbrev pub net_number : List Placed → ℕ → List ℕ → Option ℕ
net_number tree i name = number_in (nets_at tree) i name

-- the number of the array of a name in an instance, among all arrays
abbrev pub array_number : List Placed → ℕ → List ℕ → Option ℕ
array_number tree i name = number_in (arrays_at tree) i name

-- where the nets and the arrays of an instance begin
abbrev pub place_of : List Placed → ℕ → NetPosition
place_of tree i = record { nets = nets_before tree i; arrays = arrays_before tree i }

-- what is known of the nets, where all of them have these values
abbrev pub look_by : List Placed → List BitVector → Look
look_by tree values i name = option_and_then (slice_get values) (net_number tree i name)
