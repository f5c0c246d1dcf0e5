-- A run of the machine is the run of its source.
use Rattle.std.proofs.Common.{◌≡◌, ℕ, zero, suc, ◌+◌, ◌<◌, Bool, true, false, List, [], ◌∷◌, map, Option, Some, option_map, unwrap_or, slice_get, length, refl, ap, sym, ◌∙◌, subst, arith}
use Rattle.std.specs.Option.{option_map_or}
use Rattle.std.proofs.lemmas.Option.{slice_get-map, slice_get_within}
use Rattle.cx_bits.specs.BitVector.{BitVector}
use Rattle.cx_text.specs.Loading.{word_count}
use Rattle.cx_vtree.specs.Plain.{PlainExternal, PlainSource}
use Rattle.cx_vtree.specs.InstanceTree.{Placed, decls_at, instances_of, arrays_at}
use Rattle.cx_vtree.specs.Meaning.{State, Moment, resetting, running}
use Rattle.cx_vtree.specs.Edges.{state_after}
use Rattle.cx_vtree.specs.SimRun as source
use Rattle.cx_vtree.specs.SimRun.{IsWhole, first_array, numbers_from, words_in, words_of, start_state, RunsFrom, SimRun}
use Rattle.cx_vnets.specs.declared.arrays.Words.{Words}
use Rattle.cx_vnets.specs.declared.nets.Stored.{Stored}
use Rattle.cx_vnets.specs.Stores.{plain_words}
use Rattle.cx_vnets.specs.Widths.{HaveWidths}
use Rattle.cx_vnets.specs.Search.{IsFirstWithout}
use Rattle.cx_vnets.specs.declared.machines.Machine.{Machine}
use Rattle.cx_vnets.specs.Machines.{IsAfter}
use Rattle.cx_vnets.specs.Runs as flat
use Rattle.cx_vnets.specs.Runs.{AreValues, WithInputs, FlatFrom, loops, ends, spent, goes_on, FlatRun, loops_in_reset, after_reset}
use Rattle.cx_vnets.specs.Numbers.{arrays_before, look_by}
use Rattle.cx_vnets.specs.Memory.{StoredStands}
use Rattle.cx_vnets.specs.EdgesFlat.{AreApart, EdgesAreApart}
use Rattle.cx_vnets.specs.RunsFlat.{MachineStands, IsMemory, MemoriesStand, AreWordsOf, AreAllWords, IsNet, OutcomeStands}
use Rattle.cx_vnets.proofs.Numbering.{number_of}
use Rattle.cx_vnets.proofs.FlatValues.{net_there, loop_by_name}
use Rattle.cx_vnets.proofs.WordLemmas.{word_in_value}
use Rattle.cx_vnets.proofs.EdgeLemmas.{even_stored, same_array_widths, moment_after, edge_same, no_stores}
use Rattle.cx_vnets.proofs.WholeLooks.{same_length, whole_by_values, done_same}
use Rattle.cx_vnets.proofs.InputLemmas.{inputs_same}
use Rattle.cx_vnets.proofs.Fitting.{IsFitting, fitting_moved, fitting_inputs, sets_by_values, stores_by_values, edge_widths}

-- values that are those of numbers in a row
values_in_row : (xs : List BitVector) (g : ℕ → ℕ) (start : ℕ) → ((k : ℕ) (b : BitVector) → slice_get xs k ≡ Some b → b.value ≡ g (start + k))
    → map g (numbers_from start (length xs)) ≡ map (λ (b : BitVector). b.value) xs
values_in_row [] g start same = refl
values_in_row (x ∷ xs) g start same =
    let first : start + 0 ≡ start = omega arith in
    ap (λ v. v ∷ map g (numbers_from (start + 1) (length xs))) (sym (same zero x refl ∙ ap g first))
    ∙ ap (λ l. x.value ∷ l) (values_in_row xs g (start + 1) (λ k b at. let next : start + suc k ≡ start + 1 + k = omega arith in same (suc k) b at ∙ ap g next))

module _ (tree : List Placed) (m : Moment) (s : Stored) (memory : StoredStands tree m s) where
  -- the words of an external memory
  memory_words : (e : PlainExternal) (j : ℕ) → IsMemory tree e j → AreWordsOf tree (map plain_words s.arrays.items) e (words_in tree m.state e)
  memory_words e j is =
      let name : List ℕ = first_array (decls_at tree j) in
      let n = number_of (arrays_at tree) j 0 name is.there in
      let r = memory.arrays j n.0 name n.2 in
      let x : Words = r.0 in
      let stand = r.2 in
      let long : word_count e.sizes ≡ length x.words.items = sym is.size ∙ sym stand.size in
      let each : (k : ℕ) (b : BitVector) → slice_get x.words.items k ≡ Some b → b.value ≡ m.state.word j name (0 + k) = λ k b at.
      let lt : k < length x.words.items = slice_get_within x.words.items k b at in
      let below = subst (λ c. k < c) stand.size lt in
      let place : k ≡ 0 + k = omega arith in
      ap (λ (o : Option BitVector). (unwrap_or o x.zero).value) (sym at)
      ∙ ap (λ (w : BitVector). w.value) (stand.each k)
      ∙ word_in_value (decls_at tree j) (m.state.word j) name k below
      ∙ ap (m.state.word j name) place in (
        j,
        arrays_before tree j + n.0,
        plain_words x,
        is.instance,
        n.1,
        slice_get-map plain_words s.arrays.items (arrays_before tree j + n.0) ∙ ap (option_map plain_words) r.1,
        ap (λ o. option_map_or (λ i. map (m.state.word i (first_array (decls_at tree i))) (numbers_from 0 (word_count e.sizes))) o []) is.instance
            ∙ ap (λ c. map (m.state.word j name) (numbers_from 0 c)) long
            ∙ values_in_row x.words.items (m.state.word j name) 0 each,
      )

  all_words : (es : List PlainExternal) → ((k : ℕ) (e : PlainExternal) → slice_get es k ≡ Some e → (j : ℕ) × IsMemory tree e j)
      → AreAllWords tree (map plain_words s.arrays.items) es (map (words_in tree m.state) es)
  all_words [] there = tt
  all_words (e ∷ es) there = let r = there zero e refl in (memory_words e r.0 r.1, all_words es (λ k f at. there (suc k) f at))

module _ (given : PlainSource) (m : Machine) (stands : MachineStands (instances_of given) m) (apart : AreApart (instances_of given)) (edges : EdgesAreApart (instances_of given))
    (memories : MemoriesStand given) (have : HaveWidths) where
  abbrev tree : List Placed
  tree = instances_of given

  long_values : (s : Stored) (values : List BitVector) → IsFitting m s → AreValues m s values → length values ≡ length m.nets.drivers.items
  long_values s values fit are = same_length values s.nets.items are.widths ∙ fit.long

  whole_look : (mo : Moment) (s : Stored) (values : List BitVector) → StoredStands tree mo s → IsFitting m s → AreValues m s values → IsWhole tree mo (look_by tree values)
  whole_look mo s values memory fit are = whole_by_values tree mo m.nets s stands.nets memory values (long_values s values fit are) are.right

  done_look : (mo : Moment) (s : Stored) (values : List BitVector) (t : Bool) → StoredStands tree mo s → IsFitting m s → AreValues m s values → flat.is_done m values ≡ t → source.is_done (look_by tree values) ≡ t
  done_look mo s values t memory fit are is = done_same tree mo m.nets s stands.nets memory values (long_values s values fit are) m stands.done ∙ is

  -- the outcome of the source's run that an outcome is
  abbrev Told : State → ℕ → ℕ → flat.Outcome → Type 0
  Told st cycle left o = (q : source.Outcome) × OutcomeStands given o q × RunsFrom given st cycle left q

  loop_told : (mo : Moment) (s : Stored) (f : ℕ) → StoredStands tree mo s → IsFirstWithout m.nets s f → (i : ℕ) × (k : ℕ) × IsNet tree f i k × source.IsFirstLoop tree mo i k
  loop_told mo s f memory first =
      let r = net_there tree m.nets stands.nets f first.there in
      (r.0, r.1, record { name = r.2; stands_there = r.4; number = r.3 }, loop_by_name tree mo m.nets s stands.nets memory f r.0 r.1 r.2 r.3 r.4 first)

  -- an edge without reset
  next_stands : (st : State) (s next : Stored) (values : List BitVector) → StoredStands tree (running st) s → IsFitting m s → AreValues m s values
      → IsAfter m.nets.codes.items m.sets.items m.stores.items values s next → StoredStands tree (running (state_after tree (running st) (look_by tree values))) next
  next_stands st s next values memory fit are after =
      edge_same tree (running st) m.nets.codes.items values s next m.sets.items m.stores.items memory apart edges stands.sets stands.stores have are.widths
      (sets_by_values m s fit values are.widths m.sets.items fit.sets) (stores_by_values m s fit values are.widths) after

  next_fitting : (st : State) (s next : Stored) (values : List BitVector) → StoredStands tree (running st) s → IsFitting m s → AreValues m s values
      → IsAfter m.nets.codes.items m.sets.items m.stores.items values s next → IsFitting m next
  next_fitting st s next values memory fit are after =
      let memory' = next_stands st s next values memory fit are after in
      fitting_moved m s fit next
      (edge_widths m s fit values are.widths have (even_stored tree (running st) s memory) m.sets.items m.stores.items next (sets_by_values m s fit values are.widths m.sets.items fit.sets) after)
      (same_array_widths tree (running (state_after tree (running st) (look_by tree values))) (running st) next s memory' memory)

  run_told : {s : Stored} {cycle left : ℕ} {o : flat.Outcome} → FlatFrom m s cycle left o → (st : State) → StoredStands tree (running st) s → IsFitting m s → Told st cycle left o
  run_told {s} (loops {f = f} first) st memory fit = let r = loop_told (running st) s f memory first in (source.LoopAt r.0 r.1, r.2, source.loops r.3)
  run_told {s} (ends {cycle = cycle} values are d) st memory fit = (
    source.DoneAt cycle (words_of given st),
    (refl, all_words tree (running st) s memory given.externals memories),
    source.ends (look_by tree values) (whole_look (running st) s values memory fit are) (done_look (running st) s values true memory fit are d),
  )
  run_told {s} (spent values are d) st memory fit =
      (source.NotDone, tt, source.spent (look_by tree values) (whole_look (running st) s values memory fit are) (done_look (running st) s values false memory fit are d))
  run_told {s} (goes_on values next are d after rest) st memory fit =
      let r = run_told rest (state_after tree (running st) (look_by tree values)) (next_stands st s next values memory fit are after) (next_fitting st s next values memory fit are after) in
      (r.0, r.1, source.goes_on (look_by tree values) (whole_look (running st) s values memory fit are) (done_look (running st) s values false memory fit are d) r.2)

  module _ (loaded : List (List ℕ)) (start : Stored) (r g : ℕ) (at_start : StoredStands tree (record { state = start_state given loaded; reset = r; go = g }) start) (fit : IsFitting m start) where
    abbrev st : State
    st = start_state given loaded

    reset_stands : (s : Stored) → WithInputs m true start s → StoredStands tree (resetting st) s
    reset_stands s inputs = inputs_same tree apart m stands.reset stands.go st r g true start s at_start inputs

    -- the edge with reset
    module _ (s next first : Stored) (values : List BitVector) (inputs : WithInputs m true start s) (are : AreValues m s values)
        (after : IsAfter m.nets.codes.items m.resets.items [] values s next) (more : WithInputs m false next first) where
      abbrev fit_s : IsFitting m s
      fit_s = fitting_inputs m start fit true s inputs

      abbrev st_next : State
      st_next = state_after tree (resetting st) (look_by tree values)

      reset_next : StoredStands tree (moment_after tree (resetting st) values) next
      reset_next =
          edge_same tree (resetting st) m.nets.codes.items values s next m.resets.items [] (reset_stands s inputs) apart edges stands.resets (no_stores tree m.nets.codes.items) have are.widths
          (sets_by_values m s fit_s values are.widths m.resets.items fit_s.resets) (λ j x at. absurd (cc)) after

      reset_fitting : IsFitting m next
      reset_fitting =
          fitting_moved m s fit_s next
          (edge_widths m s fit_s values are.widths have (even_stored tree (resetting st) s (reset_stands s inputs)) m.resets.items [] next (sets_by_values m s fit_s values are.widths m.resets.items fit_s.resets) after)
          (same_array_widths tree (moment_after tree (resetting st) values) (resetting st) next s reset_next (reset_stands s inputs))

      first_stands : StoredStands tree (running st_next) first
      first_stands = inputs_same tree apart m stands.reset stands.go st_next 1 0 false next first reset_next more

      first_fitting : IsFitting m first
      first_fitting = fitting_inputs m next reset_fitting false first more

      look_at_reset : IsWhole tree (resetting st) (look_by tree values)
      look_at_reset = whole_look (resetting st) s values (reset_stands s inputs) fit_s are

    pub sim_told : {last : ℕ} {o : flat.Outcome} → FlatRun m start last o → (q : source.Outcome) × OutcomeStands given o q × SimRun given loaded last q
    sim_told (loops_in_reset {f = f} s inputs first) =
        let r = loop_told (resetting st) s f (reset_stands s inputs) first in (source.LoopAt r.0 r.1, r.2, source.loops_in_reset r.3)
    sim_told (after_reset s next first values inputs are after more rest) =
        let r = run_told rest (st_next s next first values inputs are after more) (first_stands s next first values inputs are after more) (first_fitting s next first values inputs are after more) in
        (r.0, r.1, source.after_reset (look_by tree values) (look_at_reset s next first values inputs are after more) r.2)
