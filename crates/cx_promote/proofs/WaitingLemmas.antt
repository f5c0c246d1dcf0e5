-- The one item of a list, and the length of a group by the one assignment of its done.
use Rattle.std.proofs.Common.{◌≡◌, List, [], ◌∷◌, ◌++◌, Some, ap}
use Rattle.cx_promote.specs.Waiting.{only}

pub only_one : {A : Type 0} (x : A) (all : List A) → x ∷ [] ≡ all → Some x ≡ only all
only_one x all e = ap only e
