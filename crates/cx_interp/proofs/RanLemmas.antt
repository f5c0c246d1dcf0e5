-- What runs leave, and how it is put together: over any meanings in an instance.
use Rattle.std.proofs.Common.{◌≡◌, ℕ, zero, suc, ◌+◌, ◌-◌, ◌<◌, ◌≤◌, false, refl, sym, ap, ◌∙◌, subst, arith}
use Rattle.std.proofs.Math.Path.{fun_ext}
use Rattle.cx_meaning.specs.Instances.{Instance, State, Set, idle, IsSettled}
use Rattle.cx_meaning.specs.Cycles.{Fault}
use Rattle.cx_meaning.specs.Answers.{Answer, End, More, Meaning, after_turns, then_do, stay, idle_turn, Test, Holds, Fails, Unclear, chosen, test_turn, loop, loop_of}
use Rattle.cx_meaning.specs.Answers as answers
use Rattle.cx_frames.specs.Ran.{Outcome, Ended, Faulted, Unfinished, AnswersAs, Ran}

-- so many turns later
abbrev pub shifted : ℕ → Outcome → Outcome
shifted k (Ended t) = Ended (k + t)
shifted k (Faulted f t) = Faulted f (k + t)
shifted k Unfinished = Unfinished

-- no end
abbrev pub IsStop : Outcome → Type 0
IsStop (Ended t) = ⊥
IsStop (Faulted f t) = Unit {0}
IsStop Unfinished = Unit {0}

shifted_answer : (after : State) (k : ℕ) (x : Answer State Fault) (o : Outcome) → AnswersAs after x o → AnswersAs after (after_turns k x) (shifted k o)
shifted_answer after k (End a t) o (e, same) = (ap (shifted k) e, same)
shifted_answer after k (answers.Fault f t) o e = ap (shifted k) e
shifted_answer after k More o e = ap (shifted k) e

module _ (i : Instance) (driven : Set) where
  pub ran_same : (m other : Meaning State Fault) (s : State) (n : ℕ) (after : State) (o : Outcome) → m s n ≡ other s n → Ran i driven m s n after o → Ran i driven other s n after o
  ran_same m other s n after o e r = record { settled = r.settled; top = r.top; others = r.others; answer = subst (λ x. AnswersAs after x o) e r.answer }

  pub ran_wider : (wider : Set) (m : Meaning State Fault) (s : State) (n : ℕ) (after : State) (o : Outcome) → ((c : ℕ) → wider c ≡ false → driven c ≡ false) → Ran i driven m s n after o → Ran i wider m s n after o
  ran_wider wider m s n after o within r = record { settled = r.settled; top = r.top; others = λ c below e. r.others c below (within c e); answer = r.answer }

  pub ran_stay : (s : State) (n : ℕ) → IsSettled i s → Ran i driven stay s n s (Ended 0)
  ran_stay s n h = record { settled = h; top = refl; others = λ c below e. refl; answer = (refl, λ path. refl) }

  pub ran_idle : (s : State) (n : ℕ) → IsSettled i s → Ran i driven (idle_turn (idle i)) s (suc n) s (Ended 1)
  ran_idle s n h = record { settled = h; top = refl; others = λ c below e. refl; answer = (refl, λ path. sym (h path)) }

  pub ran_more : (m : Meaning State Fault) (s : State) (n : ℕ) → IsSettled i s → m s n ≡ More → Ran i driven m s n s Unfinished
  ran_more m s n h e = record { settled = h; top = refl; others = λ c below e. refl; answer = subst (λ x. AnswersAs s x Unfinished) (sym e) refl }

  -- a run that ends, and then another
  then_answer : (later : Meaning State Fault) (n t : ℕ) (middle after : State) (x : Answer State Fault) (o : Outcome) → AnswersAs middle x (Ended t) → AnswersAs after (later middle (n - t)) o → AnswersAs after (then_do x n later) (shifted t o)
  then_answer later n t middle after (End a u) o (e, same) h =
      let turns : t ≡ u = cc in
      let state : middle ≡ a = fun_ext same in
      let there : AnswersAs after (later a (n - u)) o = subst (λ k. AnswersAs after (later a (n - k)) o) turns (subst (λ x. AnswersAs after (later x (n - t)) o) state h) in
      subst (λ k. AnswersAs after (after_turns u (later a (n - u))) (shifted k o)) (sym turns) (shifted_answer after u (later a (n - u)) o there)
  then_answer later n t middle after (answers.Fault f u) o e h = cc
  then_answer later n t middle after More o e h = cc

  pub ran_then : (first later : Meaning State Fault) (s : State) (n t : ℕ) (middle after : State) (o : Outcome) → Ran i driven first s n middle (Ended t) → Ran i driven later middle (n - t) after o
      → Ran i driven (λ x k. then_do (first x k) k later) s n after (shifted t o)
  ran_then first later s n t middle after o a b = record {
    settled = b.settled;
    top = b.top ∙ a.top;
    others = λ c below e. b.others c below e ∙ a.others c below e;
    answer = then_answer later n t middle after (first s n) o a.answer b.answer;
  }

  -- a run that does not end goes no further
  stopped_answer : (later : Meaning State Fault) (n : ℕ) (after : State) (x : Answer State Fault) (o : Outcome) → IsStop o → AnswersAs after x o → AnswersAs after (then_do x n later) o
  stopped_answer later n after (End a u) o stop (e, same) = absurd (subst IsStop e stop)
  stopped_answer later n after (answers.Fault f u) o stop e = e
  stopped_answer later n after More o stop e = e

  pub ran_stopped : (first later : Meaning State Fault) (s : State) (n : ℕ) (after : State) (o : Outcome) → IsStop o → Ran i driven first s n after o → Ran i driven (λ x k. then_do (first x k) k later) s n after o
  ran_stopped first later s n after o stop r = record { settled = r.settled; top = r.top; others = r.others; answer = stopped_answer later n after (first s n) o stop r.answer }

  -- a test, and then one of two
  module _ (test : State → Test Fault) (first second : Meaning State Fault) (s : State) (n : ℕ) (settled : IsSettled i s) where
    rests : idle i s ≡ s
    rests = fun_ext settled

    pub ran_holds : (after : State) (o : Outcome) → test s ≡ Holds → Ran i driven first s n after o → Ran i driven (test_turn (idle i) test first second) s (suc n) after (shifted 1 o)
    ran_holds after o e r = record {
      settled = r.settled;
      top = r.top;
      others = r.others;
      answer =
          subst (λ x. AnswersAs after (chosen x (first (idle i s) n) (second (idle i s) n)) (shifted 1 o)) (sym e)
          (shifted_answer after 1 (first (idle i s) n) o (subst (λ x. AnswersAs after (first x n) o) (sym rests) r.answer));
    }

    pub ran_fails : (after : State) (o : Outcome) → test s ≡ Fails → Ran i driven second s n after o → Ran i driven (test_turn (idle i) test first second) s (suc n) after (shifted 1 o)
    ran_fails after o e r = record {
      settled = r.settled;
      top = r.top;
      others = r.others;
      answer =
          subst (λ x. AnswersAs after (chosen x (first (idle i s) n) (second (idle i s) n)) (shifted 1 o)) (sym e)
          (shifted_answer after 1 (second (idle i s) n) o (subst (λ x. AnswersAs after (second x n) o) (sym rests) r.answer));
    }

    pub ran_unclear : (fault : Fault) → test s ≡ Unclear fault → Ran i driven (test_turn (idle i) test first second) s (suc n) s (Faulted fault 0)
    ran_unclear fault e = record {
      settled = settled;
      top = refl;
      others = λ c below e. refl;
      answer = subst (λ x. AnswersAs s (chosen x (first (idle i s) n) (second (idle i s) n)) (Faulted fault 0)) (sym e) refl;
    }

-- LOOPS: more tests than the budget has turns change nothing
module _ (rest : State → State) (test : State → Test Fault) (body : Meaning State Fault) where
  same_chosen : (x : Test Fault) (a b c : Answer State Fault) → a ≡ b → chosen x a c ≡ chosen x b c
  same_chosen x a b c e = ap (λ y. chosen x y c) e

  same_then : (n : ℕ) (go other : Meaning State Fault) → ((m : ℕ) (s : State) → m ≤ n → go s m ≡ other s m) → (x : Answer State Fault) → then_do x n go ≡ then_do x n other
  same_then n go other h (End s t) = ap (after_turns t) (h (n - t) s (omega arith))
  same_then n go other h (answers.Fault f t) = refl
  same_then n go other h More = refl

  pub enough_tests : (tests other n : ℕ) → n < tests → n < other → (s : State) → loop tests rest test body s n ≡ loop other rest test body s n
  enough_tests zero other n a b s = absurd (omega arith)
  enough_tests (suc tests) zero n a b s = absurd (omega arith)
  enough_tests (suc tests) (suc other) zero a b s = refl
  enough_tests (suc tests) (suc other) (suc n) a b s =
      let here : n < tests = (let h : suc n < suc tests = a in omega arith) in
      let there : n < other = (let h : suc n < suc other = b in omega arith) in
      same_chosen (test s) _ _ _ (same_then n (loop tests rest test body) (loop other rest test body) (λ m x le. enough_tests tests other m (omega (arith, here, le)) (omega (arith, there, le)) x) (body (rest s) n))
