-- The first places of names.
use Rattle.std.specs.Prelude.{◌≡◌, ℕ, List, [], map, codes}
use Rattle.std.specs.HashMap.{HashMap}
use Rattle.std.specs.Option.{option_map_or}
use denote.Ref.{Bor}
use Rattle.cx_vtree.specs.Plain.{PlainInstance, PlainModule}
use Rattle.cx_vtree.specs.Sound as sound
use Rattle.cx_vtree.specs.NameNumbers.{position, number_by}

-- each name has the number of its first place, and no other name has one
abbrev pub HasFirst : {S : Type 0} → HashMap (Bor (List ℕ)) ℕ S → List (List ℕ) → Type 0
HasFirst first names = (name : List ℕ) → number_by first name ≡ position names name

abbrev pub module_names : List PlainModule → List (List ℕ)
module_names ms = map (λ m. m.name) ms

abbrev pub instance_names : List PlainInstance → List (List ℕ)
instance_names is = map (λ i. i.name) is

-- the instances of the last module `main`
abbrev pub main_instances : List PlainModule → List PlainInstance
main_instances ms = option_map_or (λ m. m.instances) (sound.last_named ms (codes "main")) []
