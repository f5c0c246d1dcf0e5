-- Which modules a set of names finds.
use Rattle.std.specs.Prelude.{◌≡◌, ℕ, List, map}
use Rattle.std.specs.BTreeSet as sorted
use Rattle.std.specs.BTreeSet.{BTreeSet}
use Rattle.std.specs.Cmp.Lexicographic.{slice_cmp}
use Rattle.std.specs.Ordering.{nat_cmp}
use Rattle.cx_vtree.specs.Plain.{PlainModule}
use Rattle.cx_vtree.specs.Sound.{has_name}

-- the set has just the names of the modules
abbrev pub AreFound : BTreeSet (List ℕ) → List PlainModule → Type 0
AreFound found modules =
    (name : List ℕ)
    → sorted.contains_by (slice_cmp nat_cmp name) found ≡ has_name (map (λ m. m.name) modules) name
