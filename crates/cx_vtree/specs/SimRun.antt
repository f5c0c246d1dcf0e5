-- A run from reset, and its answer.
use Rattle.std.specs.Prelude.{◌≡◌, ℕ, zero, suc, ◌+◌, ◌<◌, ◌==◌, ◌&&◌, ◌⊎◌, List, [], ◌∷◌, Bool, true, false, Option, Some, None, map, slice_get, slice_index, IsSome, if◌then◌else◌, codes}
use Rattle.std.specs.Option.{option_map_or}
use Rattle.cx_bits.specs.BitVector.{BitVector}
use Rattle.cx_text.specs.Loading.{word_count}
use Rattle.cx_vtree.specs.Plain.{PlainDecl, WireOf, RegisterOf, ArrayOf, PlainExternal, PlainSource}
use Rattle.cx_vtree.specs.InstanceTree.{Placed, same_name, decls_at, nets_at, instances_of}
use Rattle.cx_vtree.specs.Meaning.{State, Moment, resetting, running, Look, HasValue, IsRight}
use Rattle.cx_vtree.specs.Edges.{state_after}

-- the answer of a run
pub data Outcome : Type 0 where
  -- `done` is 1 in this cycle, for the first time; the words of the external memories are those of this cycle
  DoneAt : (cycle : ℕ) (words : List (List ℕ)) → Outcome
  -- this net of this instance has no value
  LoopAt : (instance net : ℕ) → Outcome
  -- `done` is 0 in all cycles that may be looked at
  NotDone : Outcome

-- the net is the first without a value: in the order of instances, and in each in the order of its nets
pub record IsFirstLoop (tree : List Placed) (m : Moment) (instance net : ℕ) : Type 0 where
  pub name : List ℕ
  pub stands_there : slice_get (nets_at tree instance) net ≡ Some name
  pub no_value : (v : BitVector) → HasValue tree m instance name v → ⊥
  pub earlier_have : (i k : ℕ) (n : List ℕ) → (i < instance) ⊎ ((i ≡ instance) × (k < net))
      → slice_get (nets_at tree i) k ≡ Some n → (v : BitVector) × HasValue tree m i n v

-- the look has the value of each net
pub record IsWhole (tree : List Placed) (m : Moment) (look : Look) : Type 0 where
  pub right : IsRight tree m look
  pub whole : (i k : ℕ) (n : List ℕ) → slice_get (nets_at tree i) k ≡ Some n → IsSome (look i n)

-- `done` of `main` is 1
abbrev pub is_done : Look → Bool
is_done look = option_map_or (λ b. b.value == 1) (look 0 (codes "done")) false

-- of the instances from number `number` on, the one of a name in `main`
abbrev pub instance_named : List Placed → ℕ → List ℕ → Option ℕ
instance_named [] number name = None
instance_named (p ∷ rest) number name =
    if p.holder == 0 && same_name p.name name then Some number else instance_named rest (number + 1) name

abbrev pub first_array : List PlainDecl → List ℕ
first_array [] = []
first_array (ArrayOf n w k ∷ ds) = n
first_array (WireOf n w ∷ ds) = first_array ds
first_array (RegisterOf n w ∷ ds) = first_array ds

-- whether an external memory is the array of a name in an instance
abbrev pub is_memory : List Placed → PlainExternal → ℕ → List ℕ → Bool
is_memory tree e i name =
    option_map_or (λ j. j == i && same_name (first_array (decls_at tree j)) name)
    (instance_named tree 0 e.instance) false

-- the numbers from `start` on, so many of them
abbrev pub numbers_from : ℕ → ℕ → List ℕ
numbers_from start zero = []
numbers_from start (suc n) = start ∷ numbers_from (start + 1) n

-- the words of an external memory, row-major
abbrev pub words_in : List Placed → State → PlainExternal → List ℕ
words_in tree s e =
    option_map_or
    (λ j. map (s.word j (first_array (decls_at tree j))) (numbers_from 0 (word_count e.sizes)))
    (instance_named tree 0 e.instance) []

abbrev pub words_of : PlainSource → State → List (List ℕ)
words_of source s = map (words_in (instances_of source) s) source.externals

-- the word that was loaded, and 0 elsewhere
abbrev pub loaded_word : List Placed → List PlainExternal → List (List ℕ) → ℕ → List ℕ → ℕ → ℕ
loaded_word tree [] loaded i name index = 0
loaded_word tree (e ∷ es) [] i name index = 0
loaded_word tree (e ∷ es) (words ∷ rest) i name index =
    if is_memory tree e i name then slice_index words index else loaded_word tree es rest i name index

-- all registers and words are 0, but those of the external memories are as loaded
abbrev pub start_state : PlainSource → List (List ℕ) → State
start_state source loaded =
    record { register = λ i name. 0; word = loaded_word (instances_of source) source.externals loaded }

-- the cycles from `cycle` on, of which `left` may follow: a loop is looked for before `done`
pub data RunsFrom (source : PlainSource) : State → ℕ → ℕ → Outcome → Type 0 where
  loops : {s : State} {cycle left i k : ℕ} → IsFirstLoop (instances_of source) (running s) i k
      → RunsFrom source s cycle left (LoopAt i k)
  ends : {s : State} {cycle left : ℕ} (look : Look) → IsWhole (instances_of source) (running s) look
      → is_done look ≡ true
      → RunsFrom source s cycle left (DoneAt cycle (words_of source s))
  spent : {s : State} {cycle : ℕ} (look : Look) → IsWhole (instances_of source) (running s) look
      → is_done look ≡ false → RunsFrom source s cycle 0 NotDone
  goes_on : {s : State} {cycle left : ℕ} {o : Outcome} (look : Look)
      → IsWhole (instances_of source) (running s) look → is_done look ≡ false
      → RunsFrom source (state_after (instances_of source) (running s) look) (cycle + 1) left o
      → RunsFrom source s cycle (suc left) o

-- the run with these words loaded, in which the cycles 0 to `last` may be looked at. The cycle of the edge with reset
-- is looked at for a loop, and not for `done`.
pub data SimRun (source : PlainSource) (loaded : List (List ℕ)) (last : ℕ) : Outcome → Type 0 where
  loops_in_reset : {i k : ℕ}
      → IsFirstLoop (instances_of source) (resetting (start_state source loaded)) i k
      → SimRun source loaded last (LoopAt i k)
  after_reset : {o : Outcome} (look : Look) → IsWhole (instances_of source) (resetting (start_state source loaded)) look
      → RunsFrom source
      (state_after (instances_of source) (resetting (start_state source loaded)) look) 0 last o
      → SimRun source loaded last o

-- a run has one outcome at most
abbrev pub OneOutcome : Type 0
OneOutcome =
    (source : PlainSource) (loaded : List (List ℕ)) (last : ℕ) (o q : Outcome) → SimRun source loaded last o
    → SimRun source loaded last q → o ≡ q
