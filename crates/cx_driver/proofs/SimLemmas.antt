-- What a Verilog text does on a data file, from what its parts do.
use Rattle.std.proofs.Common.{◌≡◌, ◌⊎◌, inl, inr, ℕ, List, Result, Ok, Err, IfOk, IfErr, refl, sym, ap, ◌∙◌, subst, true}
use Rattle.cx_text.specs.Loading.{PlainRow, PlainMemory, words_loaded, with_words}
use Rattle.cx_data.specs.Dump.{dump_text}
use Rattle.cx_data.specs.Load.{load_of}
use Rattle.cx_data.specs.declared.faults.DataFault.{DataFault}
use Rattle.cx_vtree.specs.Plain.{PlainSource}
use Rattle.cx_vtree.specs.PlainParts.{rows_of}
use Rattle.cx_vtree.specs.InstanceTree.{instances_of}
use Rattle.cx_vtree.specs.Layout.{is_laid_out}
use Rattle.cx_vtree.specs.Sound.{is_sound}
use Rattle.cx_vtree.specs.Spelling.{text_of}
use Rattle.cx_vtree.specs.SimRun.{Outcome, DoneAt, LoopAt, NotDone, SimRun}
use Rattle.cx_vtree.proofs.Runs.{one_outcome}
use Rattle.cx_velab.specs.Paths.{path_of}
use Rattle.cx_vread.specs.ReadAnswers.{Answers, ReadAs, Tells}
use Rattle.cx_vread.specs.declared.refusals.ReadRefusal.{ReadRefusal}
use Rattle.cx_vread.specs.declared.refusals.ReadRefusal.TheVariants as unread
use Rattle.cx_vsim.specs.Answers.{IsDone, answer_of, final_words}
use Rattle.cx_vsim.specs.declared.answers.SimAnswer.TheVariants.{Done, Loop, More}
use Rattle.cx_commands.specs.declared.stops.Stop.{Stop}
use Rattle.cx_commands.specs.declared.stops.Stop.TheVariants as stops
use Rattle.cx_compiler.specs.Interpreted.{PlainLeft}
use Rattle.cx_compiler.specs.Simulated.{IsVerilogOf, told_outcome, RunDoes, LoadedDoes, SourceDoes, Spells, Simulates, RunLeaves, SourceLeaves, TextLeaves, IsSimAnswer, IsSimStop, IsSourceStop, StopsRun, IsNoSource, read_stop}
use Rattle.cx_compiler.proofs.OneSource.{one_source_of}
use Rattle.cx_compiler.proofs.Once.{Told, not_both}
use Rattle.cx_driver.specs.Loads.{IsUnloaded}

-- WHAT A SOUND SOURCE DOES is one thing
loaded_once : (s : PlainSource) (budget : ℕ) (loaded : Result (List PlainMemory) DataFault) (a b : Told) → LoadedDoes s budget loaded a → LoadedDoes s budget loaded b → a ≡ b
loaded_once s budget (Ok ms) a b h k = h.2 ∙ ap (λ o. told_outcome s ms budget o) (one_outcome h.1 k.1) ∙ sym k.2
loaded_once s budget (Err fault) a b h k = h ∙ sym k

pub spelled_once : (text json : List ℕ) (budget : ℕ) (a b : Told) → Spells text json budget a → Simulates text json budget b → a ≡ b
spelled_once text json budget a b h (inl k) =
    loaded_once h.0 budget (load_of json (rows_of h.0.externals)) a b h.2 (subst (λ s. SourceDoes s json budget b) (one_source_of text k.0 h.0 k.1 h.1) k.2)
spelled_once text json budget a b h (inr k) = absurd (k.1.no_source h.0 h.1)

-- what is answered is answered of a sound source
pub answer_spells : (text json : List ℕ) (budget : ℕ) (answer : List ℕ) → IsSimAnswer text json budget answer → Spells text json budget (Ok answer)
answer_spells text json budget answer (inl h) = h
answer_spells text json budget answer (inr h) = absurd (not_both answer (stops.Verilog h.0) h.2)

pub no_stop : (text json : List ℕ) (budget : ℕ) (answer : List ℕ) (stop : Stop) → Simulates text json budget (Ok answer) → Simulates text json budget (Err stop) → ⊥
no_stop text json budget answer stop h k = not_both answer stop (spelled_once text json budget (Ok answer) (Err stop) (answer_spells text json budget answer h) k)

-- the answer `Done` is that of a run that is done
pub done_is_done : (o : Outcome) (cycle : ℕ) → answer_of o ≡ Done cycle → IsDone o
done_is_done (DoneAt t words) cycle e = (t, words, refl)
done_is_done (LoopAt i k) cycle e = absurd (cc)
done_is_done NotDone cycle e = absurd (cc)

-- a run that is done leaves its cycle and its words
pub run_leaves : (s : PlainSource) (ms : List PlainMemory) (budget cycle : ℕ) (o : Outcome) (left : PlainLeft) → answer_of o ≡ Done cycle → SimRun s (words_loaded ms) budget o
    → left.turns ≡ cycle → left.memories ≡ with_words ms (final_words o) → RunLeaves s ms budget left
run_leaves s ms budget cycle (DoneAt t words) left e run count leaves =
    let same : t ≡ cycle = cc in
    record { words = words; run = subst (λ n. SimRun s (words_loaded ms) budget (DoneAt n words)) (same ∙ sym count) run; leaves = leaves }
run_leaves s ms budget cycle (LoopAt i k) left e run count leaves = absurd (cc)
run_leaves s ms budget cycle NotDone left e run count leaves = absurd (cc)

loop_stop : (s : PlainSource) (ms : List PlainMemory) (budget i k : ℕ) (o : Outcome) (stop : Stop) → answer_of o ≡ Loop i k → SimRun s (words_loaded ms) budget o
    → stop ≡ stops.Loop (path_of (instances_of s) i k) → RunDoes s ms budget (Err stop)
loop_stop s ms budget i k (DoneAt t words) stop e run p = absurd (cc)
loop_stop s ms budget i k (LoopAt a b) stop e run p =
    let first : a ≡ i = cc in
    let second : b ≡ k = cc in
    (LoopAt a b, run, ap (λ x. Err x) (p ∙ ap (λ x. stops.Loop (path_of (instances_of s) x k)) (sym first) ∙ ap (λ x. stops.Loop (path_of (instances_of s) a x)) (sym second)))
loop_stop s ms budget i k NotDone stop e run p = absurd (cc)

-- the path of a net without a value stops the run
pub loop_stops : (s : PlainSource) (ms : List PlainMemory) (budget i k : ℕ) (o : Outcome) (stop : Stop) → answer_of o ≡ Loop i k → SimRun s (words_loaded ms) budget o
    → (stop ≡ stops.Memory) ⊎ (stop ≡ stops.Loop (path_of (instances_of s) i k)) → StopsRun s ms budget stop
loop_stops s ms budget i k o stop e run (inl h) = inl h
loop_stops s ms budget i k o stop e run (inr h) = inr (loop_stop s ms budget i k o stop e run h)

more_stop : (s : PlainSource) (ms : List PlainMemory) (budget : ℕ) (o : Outcome) → answer_of o ≡ More → SimRun s (words_loaded ms) budget o → RunDoes s ms budget (Err (stops.More budget))
more_stop s ms budget (DoneAt t words) e run = absurd (cc)
more_stop s ms budget (LoopAt i k) e run = absurd (cc)
more_stop s ms budget NotDone e run = (NotDone, run, refl)

pub more_stops : (s : PlainSource) (ms : List PlainMemory) (budget : ℕ) (o : Outcome) → answer_of o ≡ More → SimRun s (words_loaded ms) budget o → StopsRun s ms budget (stops.More budget)
more_stops s ms budget o e run = inr (more_stop s ms budget o e run)

-- from a run to its source
loads_as : (s : PlainSource) (json : List ℕ) (budget : ℕ) (loaded : Result (List PlainMemory) DataFault) (result : Told) → load_of json (rows_of s.externals) ≡ loaded → LoadedDoes s budget loaded result
    → SourceDoes s json budget result
loads_as s json budget loaded result loads h = subst (λ l. LoadedDoes s budget l result) (sym loads) h

pub source_leaves : {X : Type 0} (left : X → PlainLeft) (s : PlainSource) (json : List ℕ) (ms : List PlainMemory) (budget : ℕ) (r : Result X Stop) → load_of json (rows_of s.externals) ≡ Ok ms
    → IfOk r (λ x. RunLeaves s ms budget (left x)) → IfOk r (λ x. SourceLeaves s json budget (left x))
source_leaves left s json ms budget (Ok x) loads h = record { memories = ms; loads = loads; run = h }
source_leaves left s json ms budget (Err stop) loads h = tt

pub source_stops : {X : Type 0} (s : PlainSource) (json : List ℕ) (ms : List PlainMemory) (budget : ℕ) (r : Result X Stop) → load_of json (rows_of s.externals) ≡ Ok ms
    → IfErr r (StopsRun s ms budget) → IfErr r (IsSourceStop s json budget)
source_stops s json ms budget (Ok x) loads h = tt
source_stops s json ms budget (Err stop) loads (inl memory) = inl memory
source_stops s json ms budget (Err stop) loads (inr h) = inr (loads_as s json budget (Ok ms) (Err stop) loads h)

-- from a data file that is not loaded to its source
pub unloaded_stops : (s : PlainSource) (rows : List PlainRow) (json : List ℕ) (budget : ℕ) (stop : Stop) → rows ≡ rows_of s.externals → IsUnloaded rows json stop → IsSourceStop s json budget stop
unloaded_stops s rows json budget stop e (inl memory) = inl memory
unloaded_stops s rows json budget stop e (inr h) = inr (loads_as s json budget (Err h.0) (Err stop) (ap (λ x. load_of json x) (sym e) ∙ h.1) (ap (λ x. Err x) h.2))

-- from a source to its text
pub text_leaves : {X : Type 0} (left : X → PlainLeft) (text json : List ℕ) (s : PlainSource) (budget : ℕ) (r : Result X Stop) → IsVerilogOf text s
    → IfOk r (λ x. SourceLeaves s json budget (left x)) → IfOk r (λ x. TextLeaves text json budget (left x))
text_leaves left text json s budget (Ok x) is h = record { source = s; spelled = is; leaves = h }
text_leaves left text json s budget (Err stop) is h = tt

-- what a text leaves is told as its dump
pub left_answers : (text json : List ℕ) (budget : ℕ) (left : PlainLeft) (dump : List ℕ) → TextLeaves text json budget left → dump ≡ dump_text left.turns left.memories → IsSimAnswer text json budget dump
left_answers text json budget left dump h e =
    let run = h.leaves.run in
    let does : RunDoes h.source h.leaves.memories budget (Ok dump) = (DoneAt left.turns run.words, run.run, ap (λ x. Ok x) (e ∙ ap (λ ms. dump_text left.turns ms) run.leaves)) in
    inl (h.source, h.spelled, loads_as h.source json budget (Ok h.leaves.memories) (Ok dump) h.leaves.loads does)

pub sim_stops : {X : Type 0} (text json : List ℕ) (s : PlainSource) (budget : ℕ) (r : Result X Stop) → IsVerilogOf text s
    → IfErr r (IsSourceStop s json budget) → IfErr r (IsSimStop text json budget)
sim_stops text json s budget (Ok x) is h = tt
sim_stops text json s budget (Err stop) is (inl memory) = inl memory
sim_stops text json s budget (Err stop) is (inr h) = inr (inl (s, is, h))

-- from a text that is not read
pub unread_stops : (text json : List ℕ) (budget : ℕ) (stop : Stop) → IsNoSource text stop → IsSimStop text json budget stop
unread_stops text json budget stop (inl memory) = inl memory
unread_stops text json budget stop (inr h) = inr (inr (h.0, h.1, ap (λ x. Err x) h.2))

abbrev Misses : List ℕ → ReadRefusal → Type 0
Misses text r = (s : PlainSource) → text ≡ text_of s → is_sound s ≡ true → ReadAs s (Err r)

abbrev Breaks : List ℕ → ReadRefusal → Type 0
Breaks text r = (s : PlainSource) → text ≡ text_of s → is_laid_out s ≡ true → Answers s (Err r)

-- what the reader tells of a text
pub unread_text : (text : List ℕ) (r : ReadRefusal) → Misses text r → Breaks text r → Tells text r → IsNoSource text (read_stop r)
unread_text text (unread.Syntax line) m b t = inr (unread.Syntax line, record { told = λ e. cc; no_source = λ s is. m s is.spelled is.sound; first = b; tells = t }, refl)
unread_text text (unread.Name line) m b t = inr (unread.Name line, record { told = λ e. cc; no_source = λ s is. m s is.spelled is.sound; first = b; tells = t }, refl)
unread_text text (unread.Width line) m b t = inr (unread.Width line, record { told = λ e. cc; no_source = λ s is. m s is.spelled is.sound; first = b; tells = t }, refl)
unread_text text (unread.Limit line) m b t = inr (unread.Limit line, record { told = λ e. cc; no_source = λ s is. m s is.spelled is.sound; first = b; tells = t }, refl)
unread_text text unread.Memory m b t = inl refl
