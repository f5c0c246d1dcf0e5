-- The edge that ends a cycle: all registers and words of arrays change at once, by the values before it.
use Rattle.std.specs.Prelude.{ℕ, ◌==◌, nat_lt, not, List, [], ◌∷◌, false, Option, Some, None, option_and_then, slice_get, if◌then◌else◌}
use Rattle.std.specs.Option.{option_map_or}
use Rattle.cx_bits.specs.BitVector.{BitVector}
use Rattle.cx_vtree.specs.Plain.{PlainDecl, WireOf, RegisterOf, ArrayOf, PlainAssign, PlainStore, PlainItem, SetTo, StoreTo, PlainEdge}
use Rattle.cx_vtree.specs.InstanceTree.{Placed, same_name, decls_at, assigned}
use Rattle.cx_vtree.specs.Meaning.{State, Moment, Look, expr_at}

abbrev pub sets_in : List PlainItem → List PlainAssign
sets_in [] = []
sets_in (SetTo a ∷ items) = a ∷ sets_in items
sets_in (StoreTo s ∷ items) = sets_in items

abbrev pub stores_in : List PlainItem → List PlainStore
stores_in [] = []
stores_in (SetTo a ∷ items) = stores_in items
stores_in (StoreTo s ∷ items) = s ∷ stores_in items

abbrev pub edge_at : List Placed → ℕ → Option PlainEdge
edge_at tree i = option_and_then (λ p. p.part.edge) (slice_get tree i)

-- what the acting branch sets, and what it stores
abbrev pub acting_sets : ℕ → Option PlainEdge → List PlainAssign
acting_sets reset None = []
acting_sets reset (Some e) = if reset == 1 then e.reset else sets_in e.step

abbrev pub acting_stores : ℕ → Option PlainEdge → List PlainStore
acting_stores reset None = []
acting_stores reset (Some e) = if reset == 1 then [] else stores_in e.step

-- the value of an expression as a number, or another number where it has none
abbrev pub number_or : ℕ → Option BitVector → ℕ
number_or other v = option_map_or (λ b. b.value) v other

-- a register that the acting branch sets takes the value; another one stays
abbrev pub register_after : List Placed → Moment → Look → ℕ → List ℕ → ℕ
register_after tree m look i name =
    let old = m.state.register i name in
    option_map_or (λ e. number_or old (expr_at tree m look i e))
    (assigned (acting_sets m.reset (edge_at tree i)) name) old

-- how many words the array of a name has
abbrev pub array_size : List PlainDecl → List ℕ → ℕ
array_size [] name = 0
array_size (ArrayOf n w k ∷ ds) name = if same_name n name then k else array_size ds name
array_size (WireOf n w ∷ ds) name = array_size ds name
array_size (RegisterOf n w ∷ ds) name = array_size ds name

-- the store into an array
abbrev pub store_to : List PlainStore → List ℕ → Option PlainStore
store_to [] name = None
store_to (s ∷ rest) name = if same_name s.array name then Some s else store_to rest name

abbrev pub word_by : List Placed → Moment → Look → ℕ → ℕ → ℕ → PlainStore → ℕ
word_by tree m look i old index s =
    if not (number_or 0 (expr_at tree m look i s.guard) == 0)
    then (if option_map_or (λ b. b.value == index) (expr_at tree m look i s.index) false
    then number_or old (expr_at tree m look i s.value) else old)
    else old

-- a word takes the stored value where the guard is not 0 and the index is its own, which an index out of range never is
abbrev pub word_after : List Placed → Moment → Look → ℕ → List ℕ → ℕ → ℕ
word_after tree m look i name index =
    let old = m.state.word i name index in
    if nat_lt index (array_size (decls_at tree i) name)
    then option_map_or (word_by tree m look i old index) (store_to (acting_stores m.reset (edge_at tree i)) name) old
    else old

-- the state after the edge, where `look` has the value of each net before it
abbrev pub state_after : List Placed → Moment → Look → State
state_after tree m look = record { register = register_after tree m look; word = word_after tree m look }
