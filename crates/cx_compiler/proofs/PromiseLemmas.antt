-- The promise is kept by whatever `compile` writes.
use Rattle.std.proofs.Common.{◌≡◌, ◌≢◌, inl, inr, ℕ, ◌≤◌, List, Result, Ok, Err, refl, sym, ap, ◌∙◌, subst}
use Rattle.cx_text.specs.Loading.{PlainMemory, FitsRows, words_loaded, with_words}
use Rattle.cx_data.specs.Dump.{dump_text}
use Rattle.cx_data.specs.Load.{load_of}
use Rattle.cx_data.specs.declared.faults.DataFault.{DataFault}
use Rattle.cx_meaning.specs.Answers as answers
use Rattle.cx_meaning.specs.Answers.{Answer}
use Rattle.cx_meaning.specs.Cycles.{Fault}
use Rattle.cx_meaning.specs.declared.sights.FaultKind.{FaultKind}
use Rattle.cx_meaning.specs.Designs.{PlainDesign}
use Rattle.cx_meaning.specs.Instances.{State, tree_of, words_of}
use Rattle.cx_meaning.specs.Running.{run_main}
use Rattle.cx_meaning.specs.Budgets.{Grows}
use Rattle.cx_rules.specs.Externals.{external_rows}
use Rattle.cx_rules.specs.Flat.{IsFlat}
use Rattle.cx_vtree.specs.Plain.{PlainSource}
use Rattle.cx_vtree.specs.SimRun.{Outcome, DoneAt, LoopAt, NotDone, SimRun}
use Rattle.cx_vtree.proofs.Runs.{one_outcome}
use Rattle.cx_emitted.specs.Resets.{IsReset}
use Rattle.cx_emitted.specs.Always.{RealisesAlways}
use Rattle.cx_compiler.specs.Texts.{IsDesignOf, IsRunOf}
use Rattle.cx_compiler.specs.Interpreted.{told_of, loaded_result, design_result, meant_result, Interprets}
use Rattle.cx_commands.specs.declared.stops.Stop.TheVariants as stops
use Rattle.cx_net.specs.Realises.{HasOutcome, comes, waits, Realises}
use Rattle.cx_compiler.specs.Simulated.{IsVerilogOf, told_outcome, LoadedDoes, SourceDoes, Simulates, LoadedPowerDoes, DoesFromPower}
use Rattle.cx_compiler.specs.Promise.{a_fault, EndsOrFaults, ends_so, faults, IsRunIn, KeepsPromise, PromiseIsKept}
use Rattle.cx_compiler.proofs.Once.{Told}
use Rattle.cx_compiler.proofs.TextLemmas.{accepted_once, one_design, text_of_design}
use Rattle.cx_compiler.specs.Runnable.{runnable}
use Rattle.cx_compiler.proofs.MeantLemmas.{design_meant_is, run_meant, text_meant}
use Rattle.cx_compiler.proofs.OneSource.{one_source_of}
use Rattle.cx_net.proofs.FollowLemmas.{never_loops}
use Rattle.cx_compiler.proofs.BelowLemmas.{cycle_within, main_grows, loaded_fits}
use Rattle.cx_compiler.proofs.OwedLemmas.{ends_alone, quiet_before, from_any_power}

pub done_turns : (t c : ℕ) (ws us : List (List ℕ)) → DoneAt t ws ≡ DoneAt c us → t ≡ c
done_turns t c ws us e = cc

pub done_words : (t c : ℕ) (ws us : List (List ℕ)) → DoneAt t ws ≡ DoneAt c us → ws ≡ us
done_words t c ws us e = cc

end_not_more : (s : State) (t : ℕ) → ◌≡◌ {A = Answer State Fault} (answers.End s t) answers.More → ⊥
end_not_more s t e = cc

fault_not_more : (f : Fault) (t : ℕ) → ◌≡◌ {A = Answer State Fault} (answers.Fault f t) answers.More → ⊥
fault_not_more f t e = cc

-- a text does on a data file what this design does
abbrev Speaks : List ℕ → List ℕ → PlainDesign → Type 0
Speaks text json d = (budget : ℕ) (result : Told) → result ≡ design_result d json budget → Interprets text json budget result

-- ONE DESIGN AND ITS SOURCE, with memories that fit
module _ (d : PlainDesign) (source : PlainSource) (is : Realises d source) (ms : List PlainMemory) (fits : FitsRows (external_rows d) ms) where
  abbrev run : ℕ → Answer State Fault
  run n = run_main d (words_loaded ms) n

  grows : (c budget : ℕ) → c ≤ budget → (a : Answer State Fault) → run c ≡ a → Grows c a (run budget)
  grows c budget le a e = subst (λ x. Grows c x (run budget)) e (main_grows d (words_loaded ms) c budget le)

  dumps_of : (budget : ℕ) (dump : List ℕ) (a : Answer State Fault) → run budget ≡ a → Ok dump ≡ told_of d ms budget a → LoadedDoes source budget (Ok ms) (Ok dump)
  dumps_of budget dump (answers.End after turns) e told = (DoneAt turns (words_of (tree_of d) after), is.runs.ends ms budget turns after fits e, told)
  dumps_of budget dump (answers.Fault f t) e told = absurd (cc)
  dumps_of budget dump answers.More e told = absurd (cc)

  -- what ended or faulted is not More later
  not_more : (c budget : ℕ) → c ≤ budget → run budget ≡ answers.More → (a : Answer State Fault) → run c ≡ a → run c ≢ answers.More → ⊥
  not_more c budget le e (answers.End after t) ea never = end_not_more after t (sym (grows c budget le (answers.End after t) ea).1 ∙ e)
  not_more c budget le e (answers.Fault f t) ea never = fault_not_more f t (sym (grows c budget le (answers.Fault f t) ea).1 ∙ e)
  not_more c budget le e answers.More ea never = never ea

  waits_so : (budget : ℕ) → run budget ≡ answers.More → HasOutcome (SimRun source) (words_loaded ms) budget → LoadedDoes source budget (Ok ms) (Err (stops.More budget))
  waits_so budget e (comes c left r) = absurd (not_more c budget (cycle_within source (words_loaded ms) budget c left r) e (run c) refl (is.runs.ends_only ms budget c left fits r))
  waits_so budget e (waits r) = (NotDone, r, refl)

  waits_of : (budget : ℕ) (a : Answer State Fault) → run budget ≡ a → Err (stops.More budget) ≡ told_of d ms budget a → LoadedDoes source budget (Ok ms) (Err (stops.More budget))
  waits_of budget (answers.End after t) e told = absurd (cc)
  waits_of budget (answers.Fault f t) e told = absurd (cc)
  waits_of budget answers.More e told = waits_so budget e (is.runs.never_stuck ms budget fits)

  -- where `done` comes in cycle c, by what the run of main with budget c comes to
  back : (text json : List ℕ) → Speaks text json d → load_of json (external_rows d) ≡ Ok ms → (budget c : ℕ) (left : List (List ℕ)) → SimRun source (words_loaded ms) budget (DoneAt c left)
      → (a : Answer State Fault) → run c ≡ a → EndsOrFaults text json c (dump_text c (with_words ms left))
  back text json speaks ok budget c left r (answers.End after t) e =
      let g = grows c budget (cycle_within source (words_loaded ms) budget c left r) (answers.End after t) e in
      let same : DoneAt t (words_of (tree_of d) after) ≡ DoneAt c left = one_outcome (is.runs.ends ms budget t after fits g.1) r in
      let dumps : dump_text t (with_words ms (words_of (tree_of d) after)) ≡ dump_text c (with_words ms left) =
      ap (λ n. dump_text n (with_words ms (words_of (tree_of d) after))) (done_turns t c (words_of (tree_of d) after) left same)
      ∙ ap (λ ws. dump_text c (with_words ms ws)) (done_words t c (words_of (tree_of d) after) left same) in
      ends_so (speaks c (Ok (dump_text c (with_words ms left))) (sym (ap (loaded_result d c) ok ∙ ap (told_of d ms c) e ∙ ap Ok dumps)))
  back text json speaks ok budget c left r (answers.Fault f t) e = faults _ (a_fault _ _ _) (speaks c _ (sym (ap (loaded_result d c) ok ∙ ap (told_of d ms c) e)))
  back text json speaks ok budget c left r answers.More e = absurd (is.runs.ends_only ms budget c left fits r e)

-- BY WHAT LOADS
module _ (d : PlainDesign) (source : PlainSource) (is : Realises d source) (json : List ℕ) (budget : ℕ) where
  does_dump : (dump : List ℕ) (loaded : Result (List PlainMemory) DataFault) → load_of json (external_rows d) ≡ loaded → Ok dump ≡ loaded_result d budget loaded
      → LoadedDoes source budget loaded (Ok dump)
  does_dump dump (Ok ms) ok told = dumps_of d source is ms (loaded_fits json (external_rows d) ms ok) budget dump (run_main d (words_loaded ms) budget) refl told
  does_dump dump (Err fault) ok told = absurd (cc)

  does_wait : (loaded : Result (List PlainMemory) DataFault) → load_of json (external_rows d) ≡ loaded → Err (stops.More budget) ≡ loaded_result d budget loaded
      → LoadedDoes source budget loaded (Err (stops.More budget))
  does_wait (Ok ms) ok told = waits_of d source is ms (loaded_fits json (external_rows d) ms ok) budget (run_main d (words_loaded ms) budget) refl told
  does_wait (Err fault) ok told = absurd (cc)

  -- a run is never told as a fault of the file
  no_data_told : (ms : List PlainMemory) (fault : DataFault) (a : Answer State Fault) → Err (stops.Json fault) ≡ told_of d ms budget a → ⊥
  no_data_told ms fault (answers.End after t) told = cc
  no_data_told ms fault (answers.Fault f t) told = cc
  no_data_told ms fault answers.More told = cc

  no_data_simulated : (ms : List PlainMemory) (fault : DataFault) (o : Outcome) → Err (stops.Json fault) ≡ told_outcome source ms budget o → ⊥
  no_data_simulated ms fault (DoneAt c left) told = cc
  no_data_simulated ms fault (LoopAt i k) told = cc
  no_data_simulated ms fault NotDone told = cc

  does_refuse : (fault : DataFault) (loaded : Result (List PlainMemory) DataFault) → Err (stops.Json fault) ≡ loaded_result d budget loaded → LoadedDoes source budget loaded (Err (stops.Json fault))
  does_refuse fault (Ok ms) told = absurd (no_data_told ms fault (run_main d (words_loaded ms) budget) told)
  does_refuse fault (Err other) told = told

  is_refused : (fault : DataFault) (loaded : Result (List PlainMemory) DataFault) → LoadedDoes source budget loaded (Err (stops.Json fault)) → Err (stops.Json fault) ≡ loaded_result d budget loaded
  is_refused fault (Ok ms) does = absurd (no_data_simulated ms fault does.0 does.2)
  is_refused fault (Err other) does = does

  loop_of : (net : List ℕ) (ms : List PlainMemory) → FitsRows (external_rows d) ms → (o : Outcome) → SimRun source (words_loaded ms) budget o → Err (stops.Loop net) ≡ told_outcome source ms budget o → ⊥
  loop_of net ms fits (DoneAt c left) r told = cc
  loop_of net ms fits (LoopAt i k) r told = never_loops d source is ms budget i k fits r
  loop_of net ms fits NotDone r told = cc

  no_loop_does : (net : List ℕ) (loaded : Result (List PlainMemory) DataFault) → load_of json (external_rows d) ≡ loaded → LoadedDoes source budget loaded (Err (stops.Loop net)) → ⊥
  no_loop_does net (Ok ms) ok does = loop_of net ms (loaded_fits json (external_rows d) ms ok) does.0 does.1 does.2
  no_loop_does net (Err fault) ok does = cc

  dump_in : (text : List ℕ) → Speaks text json d → (dump : List ℕ) (ms : List PlainMemory) → load_of json (external_rows d) ≡ Ok ms → (o : Outcome) → SimRun source (words_loaded ms) budget o
      → Ok dump ≡ told_outcome source ms budget o → (cycle : ℕ) × IsRunIn text json budget cycle dump
  dump_in text speaks dump ms ok (DoneAt c left) r told =
      let fits = loaded_fits json (external_rows d) ms ok in
      let is_dump : dump ≡ dump_text c (with_words ms left) = cc in (
        c,
        record {
          memories = with_words ms left;
          tells = is_dump;
          within = cycle_within source (words_loaded ms) budget c left r;
          run = subst (EndsOrFaults text json c) (sym is_dump) (back d source is ms fits text json speaks ok budget c left r (run_main d (words_loaded ms) c) refl);
        },
      )
  dump_in text speaks dump ms ok (LoopAt i k) r told = absurd (cc)
  dump_in text speaks dump ms ok NotDone r told = absurd (cc)

  other_dump : (text : List ℕ) → Speaks text json d → (dump : List ℕ) (loaded : Result (List PlainMemory) DataFault) → load_of json (external_rows d) ≡ loaded → LoadedDoes source budget loaded (Ok dump)
      → (cycle : ℕ) × IsRunIn text json budget cycle dump
  other_dump text speaks dump (Ok ms) ok does = dump_in text speaks dump ms ok does.0 does.1 does.2
  other_dump text speaks dump (Err fault) ok does = absurd (cc)

  -- a second dump is the first
  one_dump : (dump other : List ℕ) (cycles : ℕ) (ms : List PlainMemory) → FitsRows (external_rows d) ms → (a : Answer State Fault) → run_main d (words_loaded ms) budget ≡ a → Ok dump ≡ told_of d ms budget a
      → (o : Outcome) → SimRun source (words_loaded ms) cycles o → Ok other ≡ told_outcome source ms cycles o → other ≡ dump
  one_dump dump other cycles ms fits (answers.End after turns) e told (DoneAt c left) r simulated =
      let same = ends_alone d source is ms fits budget turns after e cycles c left r in
      let alike : Ok other ≡ Ok dump = simulated ∙ ap (told_outcome source ms cycles) (sym same) ∙ sym told in
      cc
  one_dump dump other cycles ms fits (answers.End after turns) e told (LoopAt i k) r simulated = absurd (cc)
  one_dump dump other cycles ms fits (answers.End after turns) e told NotDone r simulated = absurd (cc)
  one_dump dump other cycles ms fits (answers.Fault f t) e told o r simulated = absurd (cc)
  one_dump dump other cycles ms fits answers.More e told o r simulated = absurd (cc)

  no_second : (dump other : List ℕ) (cycles : ℕ) (loaded : Result (List PlainMemory) DataFault) → load_of json (external_rows d) ≡ loaded → Ok dump ≡ loaded_result d budget loaded
      → LoadedDoes source cycles loaded (Ok other) → other ≡ dump
  no_second dump other cycles (Ok ms) ok told does =
      one_dump dump other cycles ms (loaded_fits json (external_rows d) ms ok) (run_main d (words_loaded ms) budget) refl told does.0 does.1 does.2
  no_second dump other cycles (Err fault) ok told does = absurd (cc)

  -- not done up to the turn of a fault
  faults_in : (kind : FaultKind) (path : List ℕ) (turn : ℕ) (ms : List PlainMemory) → FitsRows (external_rows d) ms → (a : Answer State Fault) → run_main d (words_loaded ms) budget ≡ a
      → Err (stops.Fault kind path turn) ≡ told_of d ms budget a → SimRun source (words_loaded ms) turn NotDone
  faults_in kind path turn ms fits (answers.End after turns) e told = absurd (cc)
  faults_in kind path turn ms fits (answers.Fault f t) e told =
      let same : t ≡ turn = cc in
      subst (λ n. SimRun source (words_loaded ms) n NotDone) same (quiet_before d source is ms fits budget t f e)
  faults_in kind path turn ms fits answers.More e told = absurd (cc)

  does_nothing : (kind : FaultKind) (path : List ℕ) (turn : ℕ) (loaded : Result (List PlainMemory) DataFault) → load_of json (external_rows d) ≡ loaded
      → Err (stops.Fault kind path turn) ≡ loaded_result d budget loaded → LoadedDoes source turn loaded (Err (stops.More turn))
  does_nothing kind path turn (Ok ms) ok told = (NotDone, faults_in kind path turn ms (loaded_fits json (external_rows d) ms ok) (run_main d (words_loaded ms) budget) refl told, refl)
  does_nothing kind path turn (Err fault) ok told = absurd (cc)

  -- from any power-up state
  does_from_power : IsReset source → (result : Told) (loaded : Result (List PlainMemory) DataFault) → load_of json (external_rows d) ≡ loaded → LoadedDoes source budget loaded result
      → LoadedPowerDoes source budget loaded result
  does_from_power reset result (Ok ms) ok does = λ power has. (does.0, from_any_power d source is ms (loaded_fits json (external_rows d) ms ok) reset budget does.0 does.1 power has, does.2)
  does_from_power reset result (Err fault) ok does = does

-- OVER TEXTS
-- what an accepted text does is what its design means
pub of_meant : (text : List ℕ) (d : PlainDesign) → IsDesignOf text d → (json : List ℕ) (budget : ℕ) (result : Told) → Interprets text json budget result → result ≡ meant_result d json budget
of_meant text d stands json budget result (inl h) = h.2 ∙ ap (λ x. meant_result x json budget) (one_design text h.0 d h.1 stands)
of_meant text d stands json budget result (inr h) = absurd (accepted_once text h.0 (text_of_design text d stands) h.1)

-- which is what the design that is run does
pub of_run : (text : List ℕ) (run : PlainDesign) → IsRunOf text run → (json : List ℕ) (budget : ℕ) (result : Told) → Interprets text json budget result → result ≡ design_result run json budget
of_run text run h json budget result i = of_meant text h.design h.stands json budget result i ∙ run_meant text run h json budget

-- and where the text's design has no static component, what it does itself
pub of_design : (text : List ℕ) (d : PlainDesign) → IsDesignOf text d → IsFlat d → (json : List ℕ) (budget : ℕ) (result : Told) → Interprets text json budget result → result ≡ design_result d json budget
of_design text d stands flat json budget result h = of_meant text d stands json budget result h ∙ text_meant text d stands flat json budget

-- and what a Verilog text does is what its source does
of_source : (verilog : List ℕ) (source : PlainSource) → IsVerilogOf verilog source → (json : List ℕ) (budget : ℕ) (result : Told) → Simulates verilog json budget result
    → SourceDoes source json budget result
of_source verilog source spelled json budget result (inl h) = subst (λ s. SourceDoes s json budget result) (one_source_of verilog h.0 source h.1 spelled) h.2
of_source verilog source spelled json budget result (inr h) = absurd (h.1.no_source source spelled)

module _ (text verilog : List ℕ) (d own : PlainDesign) (source : PlainSource) (stands : IsDesignOf text own) (same : (json : List ℕ) (budget : ℕ) → meant_result own json budget ≡ design_result d json budget)
    (run_is : d ≡ runnable own) (spelled : IsVerilogOf verilog source) (is : Realises d source) (reset : IsReset source) (always : RealisesAlways d source) where
  -- the text does what the design that is run does
  told_by : (json : List ℕ) (budget : ℕ) (result : Told) → Interprets text json budget result → result ≡ design_result d json budget
  told_by json budget result h = of_meant text own stands json budget result h ∙ same json budget

  speaks : (json : List ℕ) → Speaks text json d
  speaks json budget result h = inl (own, stands, h ∙ sym (same json budget))

  -- the rows of the source are those of the design
  does : (json : List ℕ) (budget : ℕ) (result : Told) → LoadedDoes source budget (load_of json (external_rows d)) result → Simulates verilog json budget result
  does json budget result h = inl (source, spelled, subst (λ rows. LoadedDoes source budget (load_of json rows) result) (sym is.rows) h)

  did : (json : List ℕ) (budget : ℕ) (result : Told) → Simulates verilog json budget result → LoadedDoes source budget (load_of json (external_rows d)) result
  did json budget result h = subst (λ rows. LoadedDoes source budget (load_of json rows) result) is.rows (of_source verilog source spelled json budget result h)

  does_so : (json : List ℕ) (budget : ℕ) (result : Told) → Simulates verilog json budget result → DoesFromPower verilog json budget result
  does_so json budget result h = (
    source,
    spelled,
    subst (λ rows. LoadedPowerDoes source budget (load_of json rows) result) (sym is.rows)
        (does_from_power d source is json budget reset result (load_of json (external_rows d)) refl (did json budget result h)),
  )

  kept_by : KeepsPromise text verilog
  kept_by = record {
    same_dump = λ json budget dump h. does json budget (Ok dump) (does_dump d source is json budget dump (load_of json (external_rows d)) refl (told_by json budget (Ok dump) h));
    no_other_dump = λ json budget dump h. other_dump d source is json budget text (speaks json) dump (load_of json (external_rows d)) refl (did json budget (Ok dump) h);
    no_sooner = λ json budget h. does json budget (Err (stops.More budget)) (does_wait d source is json budget (load_of json (external_rows d)) refl (told_by json budget (Err (stops.More budget)) h));
    same_data = λ json budget fault. (
      λ h. does json budget (Err (stops.Json fault)) (does_refuse d source is json budget fault (load_of json (external_rows d)) (told_by json budget (Err (stops.Json fault)) h)),
      λ h. speaks json budget (Err (stops.Json fault)) (is_refused d source is json budget fault (load_of json (external_rows d)) (did json budget (Err (stops.Json fault)) h)),
    );
    no_second_dump = λ json turns cycles dump other h k.
        no_second d source is json turns dump other cycles (load_of json (external_rows d)) refl (told_by json turns (Ok dump) h) (did json cycles (Ok other) k);
    quiet = λ json budget kind path turn h.
        does json turn (Err (stops.More turn)) (does_nothing d source is json budget kind path turn (load_of json (external_rows d)) refl (told_by json budget (Err (stops.Fault kind path turn)) h));
    from_power = does_so;
    always = λ other text_source design spelling.
        subst (λ x. RealisesAlways x text_source) (run_is ∙ ap runnable (one_design text own other stands design)) (subst (RealisesAlways d) (one_source_of verilog source text_source spelled spelling) always);
    no_loop = λ json budget net h. no_loop_does d source is json budget net (load_of json (external_rows d)) refl (did json budget (Err (stops.Loop net)) h);
  }

pub promise_is_kept : PromiseIsKept
promise_is_kept text verilog h =
    kept_by text verilog (runnable h.design) h.design h.written.source h.stands (λ json budget. design_meant_is h.design h.runs json budget) refl h.written.spelled h.written.realises h.written.reset h.written.always
