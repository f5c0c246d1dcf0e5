-- The instances of `main` by their names.
use Rattle.std.specs.Prelude.{◌≡◌, ℕ, List}
use Rattle.std.specs.HashMap as maps
use Rattle.std.specs.HashMap.{HashMap}
use denote.Ref.{Bor}
use Rattle.cx_vtree.specs.InstanceTree.{Placed}
use Rattle.cx_vtree.specs.SimRun.{instance_named}
use Rattle.cx_vtree.specs.NameNumbers.{number_by}

-- these are the numbers of the first instances of `main` of each name, in a tree from the number `first` on
abbrev pub HasMainFrom : {S : Type 0} → HashMap (Bor (List ℕ)) ℕ S → ℕ → List Placed → Type 0
HasMainFrom m first tree = (name : List ℕ) → number_by m name ≡ instance_named tree first name

-- the same in a whole tree
abbrev pub HasMain : {S : Type 0} → HashMap (Bor (List ℕ)) ℕ S → List Placed → Type 0
HasMain m tree = HasMainFrom m 0 tree
