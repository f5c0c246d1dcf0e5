-- The arrays of external memories.
use Rattle.std.specs.Prelude.{◌≡◌, ℕ, List, [], ◌∷◌, Option, Some, option_and_then}
use Rattle.cx_vtree.specs.Plain.{PlainExternal}
use Rattle.cx_vtree.specs.InstanceTree.{Placed, decls_at, arrays_at}
use Rattle.cx_vtree.specs.SimRun.{instance_named, first_array}
use Rattle.cx_vnets.specs.Numbers.{array_number}

-- the number of the array of an external memory, among those of all instances
abbrev pub array_of : List Placed → PlainExternal → Option ℕ
array_of tree e =
    option_and_then (λ j. array_number tree j (first_array (decls_at tree j)))
    (instance_named tree 0 e.instance)

-- an instance of `main` has the name, and an array and no other
pub record HasArray (tree : List Placed) (e : PlainExternal) : Type 0 where
  pub number : ℕ
  pub found : instance_named tree 0 e.instance ≡ Some number
  pub only : arrays_at tree number ≡ first_array (decls_at tree number) ∷ []
