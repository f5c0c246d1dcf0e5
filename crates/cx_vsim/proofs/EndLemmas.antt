-- What the arrays hold at the end of a run.
use Rattle.std.proofs.Common.{◌≡◌, ℕ, zero, suc, ◌+◌, List, [], ◌∷◌, Some, option_map, map, length, slice_get, refl, ap, sym, ◌∙◌, subst}
use Rattle.std.proofs.lemmas.List.{length-map}
use Rattle.std.proofs.lemmas.Option.{same_Some, slice_get-map}
use Rattle.std.specs.Option.{option_map_or, option_and_then}
use Rattle.cx_bits.specs.BitVector.{BitVector}
use Rattle.cx_text.specs.Loading.{word_count}
use Rattle.cx_vtree.specs.Plain.{PlainExternal, PlainSource}
use Rattle.cx_vtree.specs.InstanceTree.{Placed, decls_at, instances_of}
use Rattle.cx_vtree.specs.Meaning.{State}
use Rattle.cx_vtree.specs.SimRun.{Outcome, DoneAt, LoopAt, NotDone, instance_named, first_array, numbers_from, words_in, words_of, RunsFrom, loops, ends, spent, goes_on, SimRun, loops_in_reset, after_reset}
use Rattle.cx_vnets.specs.declared.arrays.Words.{Words}
use Rattle.cx_vnets.specs.declared.nets.Stored.{Stored}
use Rattle.cx_vnets.specs.Stores.{PlainWords, plain_words}
use Rattle.cx_vnets.specs.Machines.{KeepsWidths}
use Rattle.cx_vnets.specs.Runs.{outcome_of}
use Rattle.cx_vnets.specs.declared.runs.RunAnswer.{RunAnswer}
use Rattle.cx_vnets.specs.declared.runs.RunAnswer.TheVariants as flat
use Rattle.cx_vnets.specs.Numbers.{array_number}
use Rattle.cx_vnets.specs.Memory.{StoredStands}
use Rattle.cx_vnets.specs.RunsFlat.{AreWordsOf, AreAllWords, OutcomeStands}
use Rattle.cx_vsim.specs.Externals.{array_of}
use Rattle.cx_vsim.specs.Memories.{HasMemories}
use Rattle.cx_vsim.specs.Stands.{AreOf, IsToldAs, RanStands, start_moment}
use Rattle.cx_vsim.specs.declared.answers.SimAnswer.{SimAnswer}
use Rattle.cx_vsim.specs.declared.answers.SimAnswer.TheVariants.{Done, Loop, More}
use Rattle.cx_vnets.specs.declared.codes.NetPosition.{NetPosition}
use Rattle.cx_velab.specs.Tables.{all_places}
use Rattle.cx_vsim.proofs.Elements.{mapped_at, all_from_at}
use Rattle.cx_vsim.proofs.Memories.{HasPlace, external_at, memory_held}
use Rattle.cx_vsim.proofs.Told.{names}
use Rattle.cx_text.proofs.OptionLaws.{map_some}

-- the words that a run ends with are those of some state
abbrev EndsInState : PlainSource → Outcome → Type 0
EndsInState s (DoneAt cycle words) = (st : State) × (words ≡ words_of s st)
EndsInState s (LoopAt i k) = Unit {0}
EndsInState s NotDone = Unit {0}

runs_end : {s : PlainSource} {st : State} {cycle left : ℕ} {o : Outcome} → RunsFrom s st cycle left o → EndsInState s o
runs_end (loops first) = tt
runs_end {st = st} (ends look whole done) = (st, refl)
runs_end (spent look whole done) = tt
runs_end (goes_on look whole done rest) = runs_end rest

sim_ends : {s : PlainSource} {loaded : List (List ℕ)} {last : ℕ} {o : Outcome} → SimRun s loaded last o → EndsInState s o
sim_ends (loops_in_reset first) = tt
sim_ends (after_reset look whole rest) = runs_end rest

numbers_long : (start n : ℕ) → length (numbers_from start n) ≡ n
numbers_long start zero = refl
numbers_long start (suc n) = ap suc (numbers_long (start + 1) n)

-- an external memory has as many words in each state
words_long : (tree : List Placed) (st : State) (e : PlainExternal) (j : ℕ) → instance_named tree 0 e.instance ≡ Some j → length (words_in tree st e) ≡ word_count e.sizes
words_long tree st e j found =
    ap (λ o. length (option_map_or (λ i. map (st.word i (first_array (decls_at tree i))) (numbers_from 0 (word_count e.sizes))) o [])) found
    ∙ length-map (numbers_from 0 (word_count e.sizes)) (st.word j (first_array (decls_at tree j)))
    ∙ numbers_long 0 (word_count e.sizes)

all_words_at : (tree : List Placed) (arrays : List PlainWords) (es : List PlainExternal) (words : List (List ℕ)) (k : ℕ) (e : PlainExternal) → AreAllWords tree arrays es words
    → slice_get es k ≡ Some e → (w : List ℕ) × (slice_get words k ≡ Some w) × AreWordsOf tree arrays e w
all_words_at tree arrays [] words k e all at = absurd (cc)
all_words_at tree arrays (d ∷ es) [] k e all at = absurd all
all_words_at tree arrays (d ∷ es) (w ∷ words) zero e all at = let same : d ≡ e = same_Some d e at in (w, refl, subst (λ x. AreWordsOf tree arrays x w) same all.0)
all_words_at tree arrays (d ∷ es) (w ∷ words) (suc k) e all at = all_words_at tree arrays es words k e all.1 at

module _ (s : PlainSource) (numbers : List ℕ) (places : List NetPosition) (stored final : Stored) (loaded : List (List ℕ)) (last : ℕ) (memories : HasMemories s)
    (arrays_are : map Some numbers ≡ map (array_of (instances_of s)) s.externals) (places_are : places ≡ all_places (instances_of s) (length (instances_of s)))
    (stands : StoredStands (instances_of s) (start_moment s loaded) stored) (keeps : KeepsWidths stored final) where
  -- as many words, by the outcome
  ended_size : (k n u : ℕ) (e : PlainExternal) (words : List (List ℕ)) (y : PlainWords) → AreAllWords (instances_of s) (map plain_words final.arrays.items) s.externals words
      → SimRun s loaded last (DoneAt u words) → slice_get s.externals k ≡ Some e → array_of (instances_of s) e ≡ Some n → slice_get (map plain_words final.arrays.items) n ≡ Some y
      → length y.words ≡ word_count e.sizes
  ended_size k n u e words y all run at number there =
      let state = sim_ends run in
      let w = all_words_at (instances_of s) (map plain_words final.arrays.items) s.externals words k e all at in
      let (j, a, x, named, placed, here, is) = w.2 in
      let array : array_of (instances_of s) e ≡ Some a = ap (option_and_then (λ i. array_number (instances_of s) i (first_array (decls_at (instances_of s) i)))) named ∙ placed in
      let one : a ≡ n = same_Some a n (sym array ∙ number) in
      let same : x ≡ y = same_Some x y (sym here ∙ ap (slice_get (map plain_words final.arrays.items)) one ∙ there) in
      let words_are : w.0 ≡ words_in (instances_of s) state.0 e
      = same_Some w.0 (words_in (instances_of s) state.0 e) (sym w.1 ∙ ap (λ l. slice_get l k) state.1 ∙ slice_get-map (words_in (instances_of s) state.0) s.externals k ∙ ap (option_map (words_in (instances_of s) state.0)) at) in
      sym (ap (λ (q : PlainWords). length q.words) same)
      ∙ sym (length-map x.words (λ (b : BitVector). b.value))
      ∙ sym (ap length is)
      ∙ ap length words_are
      ∙ words_long (instances_of s) state.0 e j named

  ended : (u k n : ℕ) (e : PlainExternal) (words : List (List ℕ)) → AreAllWords (instances_of s) (map plain_words final.arrays.items) s.externals words → SimRun s loaded last (DoneAt u words)
      → slice_get s.externals k ≡ Some e → slice_get numbers k ≡ Some n → (x : PlainWords) × (slice_get (map plain_words final.arrays.items) n ≡ Some x) × AreOf e x
  ended u k n e words all run at here =
      let r = mapped_at Some (array_of (instances_of s)) numbers s.externals k e arrays_are at in
      let same : r.0 ≡ n = same_Some r.0 n (sym r.1 ∙ here) in
      let number : array_of (instances_of s) e ≡ Some n = sym r.2 ∙ ap Some same in
      let d = external_at s numbers memories arrays_are k n here in
      let one : d.0 ≡ e = same_Some d.0 e (sym d.1 ∙ at) in
      let held = memory_held (instances_of s) (start_moment s loaded) stored e n stands (memories.each k e at) (subst (λ x. HasPlace (instances_of s) x n) one d.2) in
      let y = map_some (λ (x : Words). x.zero.width) (slice_get final.arrays.items n) e.width (keeps.arrays n ∙ ap (option_map (λ (x : Words). x.zero.width)) held.at ∙ ap Some held.wide) in
      let there : slice_get (map plain_words final.arrays.items) n ≡ Some (plain_words y.0) = slice_get-map plain_words final.arrays.items n ∙ ap (option_map plain_words) y.1 in (
        plain_words y.0,
        there,
        record {
          count = ended_size k n u e words (plain_words y.0) all run at number there;
          wide = all_from_at (λ (b : BitVector). b.width ≡ e.width) y.0.words.items (λ j b bat. keeps.even n y.0 j b y.1 bat ∙ y.2);
          narrow = (memories.each k e at).width;
        },
      )

  pub ran_stands : (a : RunAnswer) (r : SimAnswer) (q : Outcome) → IsToldAs places a r → OutcomeStands s (outcome_of a final) q → SimRun s loaded last q
      → RanStands s r (map plain_words final.arrays.items) numbers
  ran_stands a r q told is run = record { names = names s numbers places final arrays_are places_are a r q told is; arrays_are = arrays_are; words = λ cycle k n e done at here. go a q told is run cycle done k n e at here }
    where
      go : (a : RunAnswer) (q : Outcome) → IsToldAs places a r → OutcomeStands s (outcome_of a final) q → SimRun s loaded last q → (cycle : ℕ) → r ≡ Done cycle
          → (k n : ℕ) (e : PlainExternal) → slice_get s.externals k ≡ Some e → slice_get numbers k ≡ Some n → (x : PlainWords) × (slice_get (map plain_words final.arrays.items) n ≡ Some x) × AreOf e x
      go (flat.Done t) (DoneAt u words) told is run cycle done k n e at here = ended u k n e words is.1 run at here
      go (flat.Done t) (LoopAt i j) told is run cycle done k n e at here = absurd is
      go (flat.Done t) NotDone told is run cycle done k n e at here = absurd is
      go (flat.Loop f) (LoopAt i j) told is run cycle done k n e at here = absurd (let loop : r ≡ Loop i j = told (instances_of s) i j places_are is in cc)
      go (flat.Loop f) (DoneAt u words) told is run cycle done k n e at here = absurd is
      go (flat.Loop f) NotDone told is run cycle done k n e at here = absurd is
      go flat.More q told is run cycle done k n e at here = absurd (let more : r ≡ More = told in cc)
