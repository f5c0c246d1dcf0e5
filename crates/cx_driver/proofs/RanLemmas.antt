-- What a run has come to, as it is told.
use Rattle.std.proofs.Common.{◌≡◌, ◌⊎◌, inl, inr, ℕ, ◌+◌, ◌%◌, ◌^◌, ◌<◌, List, [], ◌∷◌, map, length, Result, Ok, Err, refl, sym, ap, ap₂, ◌∙◌, subst, arith}
use Rattle.std.proofs.lemmas.Option.{slice_get_within}
use Rattle.cx_text.specs.Loading.{PlainMemory, plain_memory, words_loaded, with_words}
use Rattle.cx_text.specs.declared.loading.LoadedMemory.{LoadedMemory}
use Rattle.cx_meaning.specs.Answers as answers
use Rattle.cx_meaning.specs.Cycles as cycles
use Rattle.cx_meaning.specs.Designs.{PlainDesign}
use Rattle.cx_meaning.specs.Instances.{State, paths_of, tree_of, words_of}
use Rattle.cx_meaning.specs.Running.{run_main}
use Rattle.cx_profiling.specs.Counting.{tally_of}
use Rattle.cx_design.specs.declared.actives.PortFault.{PortFault}
use Rattle.cx_design.specs.PlainActives.{TellsFault}
use Rattle.cx_state.specs.States.{PlainInstance, words_in}
use Rattle.cx_interp.specs.declared.answers.Answer.{Answer}
use Rattle.cx_interp.specs.declared.answers.Answer.TheVariants.{End, Fault, More}
use Rattle.cx_interp.specs.Counted.{MainCounted}
use Rattle.cx_interp.specs.Counts.{HasRows, IsZero}
use Rattle.cx_interp.specs.Runs.{Answered}
use Rattle.cx_commands.specs.declared.stops.Stop.{Stop}
use Rattle.cx_commands.specs.declared.stops.Stop.TheVariants as stops
use Rattle.cx_compiler.specs.Interpreted.{PlainLeft, fault_stop, left_of, IsRunLeft, StopsRun}
use Rattle.cx_driver.specs.Counted.{AreTallied}

-- the words of what is loaded are those of its plain memories
pub words_of_loaded : (ms : List LoadedMemory) → words_in ms ≡ words_loaded (map plain_memory ms)
words_of_loaded [] = refl
words_of_loaded (m ∷ ms) = ap (λ words. m.words.items ∷ words) (words_of_loaded ms)

-- what an answer says of the run
abbrev Meant : Type 0
Meant = answers.Answer State cycles.Fault

pub ended : (d : PlainDesign) (rows : List PlainInstance) (answer : Answer) (x : Meant) (turns : ℕ) → Answered d rows answer x → answer ≡ End turns → (after : State) × (x ≡ answers.End after turns)
ended d rows answer x turns h e =
    let Says : Answer → Type 0 = λ a. Answered d rows a x in
    let own = subst Says e h in
    (own.0, own.1)

pub faulted : (d : PlainDesign) (rows : List PlainInstance) (answer : Answer) (x : Meant) (told : PortFault) (turn : ℕ) → Answered d rows answer x → answer ≡ Fault told turn
    → (fault : cycles.Fault) × TellsFault (tree_of d) fault told × (x ≡ answers.Fault fault turn)
faulted d rows answer x told turn h e =
    let Says : Answer → Type 0 = λ a. Answered d rows a x in
    subst Says e h

pub unfinished : (d : PlainDesign) (rows : List PlainInstance) (answer : Answer) (x : Meant) → Answered d rows answer x → answer ≡ More → x ≡ answers.More
unfinished d rows answer x h e =
    let Says : Answer → Type 0 = λ a. Answered d rows a x in
    subst Says e h

-- the instance of a fault is one of the design
pub fault_within : (d : PlainDesign) (fault : cycles.Fault) (told : PortFault) → TellsFault (tree_of d) fault told → told.instance < length (paths_of (tree_of d))
fault_within d fault told t = slice_get_within (paths_of (tree_of d)) told.instance fault.path t.instance

-- a run that ends leaves its turns and words
pub run_leaves : (d : PlainDesign) (ms : List PlainMemory) (budget turns : ℕ) (after : State) (left : PlainLeft) → run_main d (words_loaded ms) budget ≡ answers.End after turns
    → left.turns ≡ turns → left.memories ≡ with_words ms (words_of (tree_of d) after) → IsRunLeft d ms budget left
run_leaves d ms budget turns after left run count words =
    let leave : ℕ → List PlainMemory → PlainLeft = λ n m. record { turns = n; memories = m } in
    ap (λ a. left_of d ms budget a) run ∙ ap₂ (λ n m. Ok (leave n m)) (sym count) (sym words)

pub fault_stops : (d : PlainDesign) (ms : List PlainMemory) (budget turn : ℕ) (fault : cycles.Fault) (stop : Stop) → run_main d (words_loaded ms) budget ≡ answers.Fault fault turn
    → (stop ≡ stops.Memory) ⊎ (stop ≡ fault_stop d fault turn) → StopsRun d ms budget stop
fault_stops d ms budget turn fault stop run (inl memory) = inl memory
fault_stops d ms budget turn fault stop run (inr told) = inr (ap (λ a. left_of d ms budget a) run ∙ ap (λ s. Err s) (sym told))

pub more_stops : (d : PlainDesign) (ms : List PlainMemory) (budget : ℕ) → run_main d (words_loaded ms) budget ≡ answers.More → StopsRun d ms budget (stops.More budget)
more_stops d ms budget run = inr (ap (λ a. left_of d ms budget a) run)

-- a run that leaves something has ended
run_ends : (d : PlainDesign) (ms : List PlainMemory) (budget : ℕ) (left : PlainLeft) → IsRunLeft d ms budget left → (after : State) × (run_main d (words_loaded ms) budget ≡ answers.End after left.turns)
run_ends d ms budget left h = by (run_main d (words_loaded ms) budget) refl h
  where
    turns_or : Result PlainLeft Stop → ℕ
    turns_or (Ok own) = own.turns
    turns_or (Err stop) = 0

    by : (x : Meant) → run_main d (words_loaded ms) budget ≡ x → left_of d ms budget x ≡ Ok left → (after : State) × (run_main d (words_loaded ms) budget ≡ answers.End after left.turns)
    by (answers.End after turns) e own = (after, e ∙ ap (answers.End after) (ap turns_or own))
    by (answers.Fault fault turn) e own = absurd (cc)
    by answers.More e own = absurd (cc)

answer_ends : (d : PlainDesign) (rows : List PlainInstance) (answer : Answer) (x : Meant) → Answered d rows answer x → (after : State) (turns : ℕ) → x ≡ answers.End after turns → (t : ℕ) × (answer ≡ End t)
answer_ends d rows (End t) x h after turns e = (t, refl)
answer_ends d rows (Fault told t) x h after turns e = absurd (let other : answers.End after turns ≡ answers.Fault h.0 t = sym e ∙ h.2 in cc)
answer_ends d rows More x h after turns e = absurd (let other : answers.End after turns ≡ answers.More = sym e ∙ h in cc)

-- A TABLE OF ZEROS HAS COUNTED what the run counts, where the run leaves something
pub run_tallies : (d : PlainDesign) (rows : List PlainInstance) (answer : Answer) (ms : List PlainMemory) (budget : ℕ) (left : PlainLeft) (old new : List (List ℕ)) → Answered d rows answer (run_main d (words_loaded ms) budget)
    → IsRunLeft d ms budget left → HasRows d old → IsZero old → MainCounted d (words_loaded ms) budget answer old new → AreTallied d (words_loaded ms) budget new
run_tallies d rows answer ms budget left old new answered h has zeros counted n g path number there =
    let end = run_ends d ms budget left h in
    let t = answer_ends d rows answer (run_main d (words_loaded ms) budget) answered end.0 left.turns end.1 in
    let tally = tally_of d (words_loaded ms) budget path g in
    let none : 0 + tally ≡ tally = omega arith in
    counted.grows t.0 t.1 has n g path number there ∙ ap (λ z. (z + tally) % 2 ^ 64) (zeros n g) ∙ ap (λ z. z % 2 ^ 64) none
