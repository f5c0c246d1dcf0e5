-- What a simulator holds when it is made, once words are loaded, and after a run.
use Rattle.std.proofs.Common.{◌≡◌, ℕ, ◌<◌, ◌^◌, List, [], map, length, sym, subst}
use Rattle.cx_text.specs.Loading.{PlainMemory, FitsRows, words_loaded}
use Rattle.cx_vtree.specs.Plain.{PlainSource}
use Rattle.cx_vtree.specs.PlainParts.{rows_of}
use Rattle.cx_vtree.specs.InstanceTree.{instances_of}
use Rattle.cx_vtree.specs.SimRun.{Outcome, SimRun}
use Rattle.cx_vnets.specs.declared.codes.NetPosition.{NetPosition}
use Rattle.cx_vnets.specs.declared.nets.Stored.{Stored}
use Rattle.cx_vnets.specs.Stores.{plain_words}
use Rattle.cx_vnets.specs.declared.machines.Machine.{Machine}
use Rattle.cx_vnets.specs.declared.machines.Bench.{Bench}
use Rattle.cx_vnets.specs.declared.runs.RunAnswer.{RunAnswer}
use Rattle.cx_vnets.specs.Machines.{KeepsWidths}
use Rattle.cx_vnets.specs.Runs.{IsReady, FlatRun, outcome_of}
use Rattle.cx_vnets.specs.Memory.{StoredStands}
use Rattle.cx_vnets.specs.RunsFlat.{MemoriesStand, OutcomeStands}
use Rattle.cx_vnets.specs.FlatLaws.{RunsAreSame}
use Rattle.cx_vsim.specs.declared.machines.Built.{Built}
use Rattle.cx_vsim.specs.Machines.{BuiltStands}
use Rattle.cx_vsim.specs.Trees.{CanBeBuilt}
use Rattle.cx_vsim.specs.declared.answers.SimAnswer.{SimAnswer}
use Rattle.cx_vsim.specs.declared.numbers.Numbers.{Numbers}
use Rattle.cx_vsim.specs.Arrays.{with_arrays}
use Rattle.cx_vsim.specs.Memories.{HasMemories}
use Rattle.cx_vsim.specs.Numbers.{AreNumbersOf}
use Rattle.cx_vsim.specs.Stands.{SimStands, RanStands, IsToldAs, TellsNet, outcome_by, words_by, start_moment}
use Rattle.cx_vsim.proofs.Start.{zeros_start}
use Rattle.cx_vsim.proofs.LoadLemmas.{loaded_stands, loaded_keeps, loaded_words}
use Rattle.cx_vsim.proofs.EndLemmas.{ran_stands}
use Rattle.cx_vsim.proofs.Told.{outcome_is, tells}

pub new_stands : (s : PlainSource) (built : Built) (n : Numbers) → BuiltStands (instances_of s) built → AreNumbersOf s n → SimStands s [] built n.arrays.items n.places.items
new_stands s built n b are = record { machine = b.machine; ready = b.ready; readers = b.readers; stale = b.stale; stored = zeros_start s built.stored b.zeros; arrays_are = are.arrays; places_are = are.places }

-- once words are loaded
module _ (s : PlainSource) (words : List (List ℕ)) (built : Built) (numbers : List ℕ) (places : List NetPosition) (stands : SimStands s words built numbers places) (memories : HasMemories s)
    (ms : List PlainMemory) (fits : FitsRows (rows_of s.externals) ms) (after : Stored) (nets : after.nets.items ≡ built.stored.nets.items)
    (written : map plain_words after.arrays.items ≡ with_arrays numbers ms (map plain_words built.stored.arrays.items)) where
  pub words_are_loaded : words_by numbers (map plain_words after.arrays.items) ≡ words_loaded ms
  words_are_loaded = loaded_words s numbers ms stands.arrays_are fits words built.stored memories stands.stored after nets written

  pub load_stands : ((m : Machine) (before after : Stored) (b : Bench) → KeepsWidths before after → IsReady m before b → IsReady m after b)
      → SimStands s (words_by numbers (map plain_words after.arrays.items)) (record { machine = built.machine; bench = built.bench; stored = after }) numbers places
  load_stands stay = record {
    machine = stands.machine;
    ready = stay built.machine built.stored after built.bench (loaded_keeps s numbers ms stands.arrays_are fits words built.stored memories stands.stored after nets written) stands.ready;
    readers = stands.readers;
    stale = stands.stale;
    stored = subst (λ w. StoredStands (instances_of s) (start_moment s w) after) (sym words_are_loaded) (loaded_stands s numbers ms stands.arrays_are fits words built.stored memories stands.stored after nets written);
    arrays_are = stands.arrays_are;
    places_are = stands.places_are;
  }

-- after a run
module _ (s : PlainSource) (words : List (List ℕ)) (built : Built) (numbers : List ℕ) (places : List NetPosition) (stands : SimStands s words built numbers places) (can : CanBeBuilt (instances_of s))
    (memories : HasMemories s) (arrays : MemoriesStand s) (same : RunsAreSame) (few : length (instances_of s) < 2 ^ 32) (cycles : ℕ) (a : RunAnswer) (final : Stored)
    (flat_run : FlatRun built.machine built.stored cycles (outcome_of a final)) where
  run_is : (q : Outcome) × OutcomeStands s (outcome_of a final) q × SimRun s words cycles q
  run_is = same s words cycles built.machine built.stored built.bench 0 0 (outcome_of a final) can.apart.names can.apart.edges arrays stands.machine stands.stored stands.ready flat_run

  pub tells_net : TellsNet places a
  tells_net = tells s numbers places final stands.arrays_are stands.places_are a run_is.0 few can.small.nets run_is.1

  pub ran_is : KeepsWidths built.stored final → (r : SimAnswer) → IsToldAs places a r → RanStands s r (map plain_words final.arrays.items) numbers
  ran_is keeps r told = ran_stands s numbers places built.stored final words cycles memories stands.arrays_are stands.places_are stands.stored keeps a r run_is.0 told run_is.1 run_is.2

  pub sim_is : (r : SimAnswer) → IsToldAs places a r → SimRun s words cycles (outcome_by r (words_by numbers (map plain_words final.arrays.items)))
  sim_is r told = subst (SimRun s words cycles) (outcome_is s numbers places final stands.arrays_are stands.places_are a r run_is.0 told run_is.1) run_is.2
