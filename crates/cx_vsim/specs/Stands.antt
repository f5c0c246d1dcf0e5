-- What a simulator holds, against the source that it stands for.
use Rattle.std.specs.Prelude.{◌≡◌, ℕ, ◌<◌, ◌≤◌, ◌^◌, List, [], Some, All, length, map, slice_get}
use Rattle.std.specs.Option.{option_map_or}
use Rattle.cx_text.specs.Loading.{word_count}
use Rattle.cx_vtree.specs.Plain.{PlainExternal, PlainSource}
use Rattle.cx_vtree.specs.InstanceTree.{Placed, instances_of}
use Rattle.cx_vtree.specs.Meaning.{Moment}
use Rattle.cx_vtree.specs.SimRun.{Outcome, DoneAt, LoopAt, NotDone, start_state}
use Rattle.cx_vnets.specs.declared.codes.NetPosition.{NetPosition}
use Rattle.cx_vnets.specs.Stores.{PlainWords}
use Rattle.cx_vnets.specs.Readers.{ReadersStand}
use Rattle.cx_vnets.specs.Runs.{IsReady}
use Rattle.cx_vnets.specs.declared.runs.RunAnswer.{RunAnswer}
use Rattle.cx_vnets.specs.declared.runs.RunAnswer.TheVariants as flat
use Rattle.cx_vnets.specs.Memory.{StoredStands}
use Rattle.cx_vnets.specs.Numbers.{nets_before}
use Rattle.cx_vnets.specs.RunsFlat.{MachineStands, IsNet}
use Rattle.cx_velab.specs.Tables.{all_places}
use Rattle.cx_vsim.specs.Externals.{array_of}
use Rattle.cx_vsim.specs.declared.machines.Built.{Built}
use Rattle.cx_vsim.specs.Answers.{NamesNet}
use Rattle.cx_vsim.specs.declared.answers.SimAnswer.{SimAnswer}
use Rattle.cx_vsim.specs.declared.answers.SimAnswer.TheVariants.{Done, Loop, More}

-- the words of the array of a number; none where there is no such array
abbrev pub words_at : List PlainWords → ℕ → List ℕ
words_at arrays a = option_map_or (λ x. map (λ b. b.value) x.words) (slice_get arrays a) []

-- the words of the arrays of these numbers
abbrev pub words_by : List ℕ → List PlainWords → List (List ℕ)
words_by numbers arrays = map (words_at arrays) numbers

-- what is stored before a run with these words loaded
abbrev pub start_moment : PlainSource → List (List ℕ) → Moment
start_moment s words = record { state = start_state s words; reset = 0; go = 0 }

-- the machine is that of the source, with these words in the arrays of its external memories
pub record BuiltWith (s : PlainSource) (words : List (List ℕ)) (built : Built) : Type 0 where
  pub machine : MachineStands (instances_of s) built.machine
  pub ready : IsReady built.machine built.stored built.bench
  pub stored : StoredStands (instances_of s) (start_moment s words) built.stored

-- and these arrays have these numbers
pub record SimStands (s : PlainSource) (words : List (List ℕ)) (built : Built) (numbers : List ℕ)
    (places : List NetPosition) : Type 0 where
  pub machine : MachineStands (instances_of s) built.machine
  pub ready : IsReady built.machine built.stored built.bench
  pub readers : ReadersStand built.machine.nets built.machine.order.items built.machine.readers
  pub stale : length built.bench.stale.items ≡ length built.machine.nets.drivers.items
  pub stored : StoredStands (instances_of s) (start_moment s words) built.stored
  pub arrays_are : map Some numbers ≡ map (array_of (instances_of s)) s.externals
  pub places_are : places ≡ all_places (instances_of s) (length (instances_of s))

-- an answer with the words of the memories
abbrev pub outcome_by : SimAnswer → List (List ℕ) → Outcome
outcome_by (Done cycle) words = DoneAt cycle words
outcome_by (Loop instance net) words = LoopAt instance net
outcome_by More words = NotDone

-- the number is that of a net of a tree of instances that begin at these places
pub record IsPlaced (places : List NetPosition) (f : ℕ) : Type 0 where
  pub tree : List Placed
  pub instance : ℕ
  pub place : ℕ
  pub all : places ≡ all_places tree (length tree)
  pub net : IsNet tree f instance place
  pub few : length tree < 2 ^ 32
  pub small : nets_before tree (length tree) < 2 ^ 32

abbrev pub TellsNet : List NetPosition → RunAnswer → Type 0
TellsNet places (flat.Done t) = Unit {0}
TellsNet places (flat.Loop f) = IsPlaced places f
TellsNet places flat.More = Unit {0}

-- the answer by the instance and the place of a net is the one by its number
abbrev pub IsToldAs : List NetPosition → RunAnswer → SimAnswer → Type 0
IsToldAs places (flat.Done t) r = r ≡ Done t
IsToldAs places (flat.Loop f) r =
    (tree : List Placed) (i k : ℕ) → places ≡ all_places tree (length tree) → IsNet tree f i k
    → r ≡ Loop i k
IsToldAs places flat.More r = r ≡ More

-- the array of an external memory: as many words as the memory has, each of its width, which is 64 bits at most
pub record AreOf (e : PlainExternal) (x : PlainWords) : Type 0 where
  pub count : length x.words ≡ word_count e.sizes
  pub wide : All (λ b. b.width ≡ e.width) x.words
  pub narrow : e.width ≤ 64

-- a loop's numbers name a net, the arrays have these numbers, and at the end of a run they are those of the memories
pub record RanStands (s : PlainSource) (answer : SimAnswer) (arrays : List PlainWords) (numbers : List ℕ) : Type 0 where
  pub names : NamesNet s answer
  pub arrays_are : map Some numbers ≡ map (array_of (instances_of s)) s.externals
  pub words : (cycle k a : ℕ) (e : PlainExternal) → answer ≡ Done cycle → slice_get s.externals k ≡ Some e
      → slice_get numbers k ≡ Some a
      → (x : PlainWords) × (slice_get arrays a ≡ Some x) × AreOf e x
