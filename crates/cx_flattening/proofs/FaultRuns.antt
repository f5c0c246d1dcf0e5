-- A RUN FAULTS as its leaves do.
use Rattle.std.proofs.Common.{ℕ, zero, suc, ◌-◌, Bool, true, false, nat_le, if◌then◌else◌}
use Rattle.cx_meaning.specs.Designs.{PlainForm, Empty, Enable, Seq, Par, If, While, Repeat, StaticSeq, StaticPar, StaticIf, StaticRepeat, Timed, PlainStatement, Placed, PlainStatements, no_statements, a_statement}
use Rattle.cx_meaning.specs.Instances.{State}
use Rattle.cx_meaning.specs.Cycles.{Fault}
use Rattle.cx_meaning.specs.Answers.{Answer, End, More, Meaning, after_turns, then_do, stay, idle_turn, Turn, turn_then, one_turn, turns_of, Test, chosen, test_turn, loop, loop_of, rounds, both}
use Rattle.cx_meaning.specs.Answers as answers
use Rattle.cx_meaning.specs.Control.{Leaves, run, run_form, run_parts, run_arms}

module _ (P : Fault → Type 0) where
  abbrev pub Told : Answer State Fault → Type 0
  Told (End after t) = Unit {0}
  Told (answers.Fault f t) = P f
  Told More = Unit {0}

  abbrev pub TurnTold : Turn State Fault → Type 0
  TurnTold answers.Ends = Unit {0}
  TurnTold (answers.Goes after) = Unit {0}
  TurnTold (answers.Faults f) = P f

  abbrev pub TestTold : Test Fault → Type 0
  TestTold answers.Holds = Unit {0}
  TestTold answers.Fails = Unit {0}
  TestTold (answers.Unclear f) = P f

  after_told : (k : ℕ) (x : Answer State Fault) → Told x → Told (after_turns k x)
  after_told k (End after t) h = tt
  after_told k (answers.Fault f t) h = h
  after_told k More h = tt

  pub then_told : (x : Answer State Fault) (n : ℕ) (go : Meaning State Fault) → Told x → ((s : State) (m : ℕ) → Told (go s m)) → Told (then_do x n go)
  then_told (End after t) n go h next = after_told t (go after (n - t)) (next after (n - t))
  then_told (answers.Fault f t) n go h next = h
  then_told More n go h next = tt

  pub idle_told : (rest : State → State) (s : State) (n : ℕ) → Told (idle_turn rest s n)
  idle_told rest s zero = tt
  idle_told rest s (suc n) = tt

  pub turn_told : (rest : State → State) (s : State) (turn : Turn State Fault) (go : State → Answer State Fault) → TurnTold turn → ((after : State) → Told (go after)) → Told (turn_then rest s turn go)
  turn_told rest s answers.Ends go h next = tt
  turn_told rest s (answers.Goes after) go h next = after_told 1 (go after) (next after)
  turn_told rest s (answers.Faults f) go h next = h

  pub turns_told : (rest : State → State) (turn : State → Turn State Fault) → ((s : State) → TurnTold (turn s)) → (n : ℕ) (s : State) → Told (turns_of rest turn s n)
  turns_told rest turn h zero s = tt
  turns_told rest turn h (suc n) s = turn_told rest s (turn s) (λ after. turns_of rest turn after n) (h s) (λ after. turns_told rest turn h n after)

  chosen_told : (test : Test Fault) (x y : Answer State Fault) → TestTold test → Told x → Told y → Told (chosen test x y)
  chosen_told answers.Holds x y h one other = after_told 1 x one
  chosen_told answers.Fails x y h one other = after_told 1 y other
  chosen_told (answers.Unclear f) x y h one other = h

  test_told : (rest : State → State) (test : State → Test Fault) (first second : Meaning State Fault) → ((s : State) → TestTold (test s)) → ((s : State) (n : ℕ) → Told (first s n)) → ((s : State) (n : ℕ) → Told (second s n))
      → (s : State) (n : ℕ) → Told (test_turn rest test first second s n)
  test_told rest test first second h one other s zero = tt
  test_told rest test first second h one other s (suc n) = chosen_told (test s) (first (rest s) n) (second (rest s) n) (h s) (one (rest s) n) (other (rest s) n)

  loop_told : (tests : ℕ) (rest : State → State) (test : State → Test Fault) (body : Meaning State Fault) → ((s : State) → TestTold (test s)) → ((s : State) (n : ℕ) → Told (body s n)) → (s : State) (n : ℕ) → Told (loop tests rest test body s n)
  loop_told zero rest test body h each s n = tt
  loop_told (suc tests) rest test body h each s n =
      test_told rest test (λ s1 m. then_do (body s1 m) m (loop tests rest test body)) stay h
      (λ s1 m. then_told (body s1 m) m (loop tests rest test body) (each s1 m) (λ s2 k. loop_told tests rest test body h each s2 k)) (λ s1 m. tt) s n

  rounds_told : (k : ℕ) (body : Meaning State Fault) → ((s : State) (n : ℕ) → Told (body s n)) → (s : State) (n : ℕ) → Told (rounds k body s n)
  rounds_told zero body each s n = tt
  rounds_told (suc k) body each s n = then_told (body s n) n (rounds k body) (each s n) (λ s1 m. rounds_told k body each s1 m)

  both_told : (merged : State → State → State) (x y : Answer State Fault) → Told x → Told y → Told (both merged x y)
  both_told merged (End a t) (End b u) one other = tt
  both_told merged (End a t) (answers.Fault g u) one other = other
  both_told merged (End a t) More one other = tt
  both_told merged (answers.Fault f t) (End b u) one other = one
  both_told merged (answers.Fault f t) (answers.Fault g u) one other = by (nat_le t u)
    where
      by : (b : Bool) → Told (if b then answers.Fault f t else answers.Fault g u)
      by true = one
      by false = other
  both_told merged (answers.Fault f t) More one other = one
  both_told merged More (End b u) one other = tt
  both_told merged More (answers.Fault g u) one other = other
  both_told merged More More one other = tt

  -- what is asked of the leaves of a statement
  module _ (L : Leaves State Fault) where
    abbrev mutual
      pub FormTells : PlainForm → Type 0
      FormTells Empty = Unit {0}
      FormTells (Enable g) = (s : State) (n : ℕ) → Told (L.enable g s n)
      FormTells (Seq ss) = AllTell ss
      FormTells (Par arms) = AllTell arms
      FormTells (If test comb a b) = ((s : State) → TestTold (L.test test.port comb s)) × (Tells a × Tells b)
      FormTells (While test comb a) = ((s : State) → TestTold (L.test test.port comb s)) × Tells a
      FormTells (Repeat count a) = Tells a
      FormTells (StaticSeq written ss) = (s : State) (n : ℕ) → Told (L.island (StaticSeq written ss) s n)
      FormTells (StaticPar written ss) = (s : State) (n : ℕ) → Told (L.island (StaticPar written ss) s n)
      FormTells (StaticIf written test a b) = (s : State) (n : ℕ) → Told (L.island (StaticIf written test a b) s n)
      FormTells (StaticRepeat written count a) = (s : State) (n : ℕ) → Told (L.island (StaticRepeat written count a) s n)
      FormTells (Timed k) = (s : State) (n : ℕ) → Told (L.timed k s n)

      pub Tells : PlainStatement → Type 0
      Tells (Placed form place) = FormTells form

      pub AllTell : PlainStatements → Type 0
      AllTell no_statements = Unit {0}
      AllTell (a_statement s ss) = Tells s × AllTell ss

    mutual
      form_told : (form : PlainForm) → FormTells form → (s : State) (n : ℕ) → Told (run_form L form s n)
      form_told Empty h s n = idle_told L.rest s n
      form_told (Enable g) h s n = h s n
      form_told (Seq no_statements) h s n = idle_told L.rest s n
      form_told (Seq (a_statement first later)) h s n = then_told (run L first s n) n (run_parts L later) (run_told first h.0 s n) (λ s1 m. parts_told later h.1 s1 m)
      form_told (Par no_statements) h s n = idle_told L.rest s n
      form_told (Par (a_statement first later)) h s n = both_told (L.merged (L.driven first)) (run L first s n) (run_arms L later s n) (run_told first h.0 s n) (arms_told later h.1 s n)
      form_told (If test comb a b) h s n = test_told L.rest (L.test test.port comb) (run L a) (run L b) h.0 (λ s1 m. run_told a h.1.0 s1 m) (λ s1 m. run_told b h.1.1 s1 m) s n
      form_told (While test comb a) h s n = loop_told (suc n) L.rest (L.test test.port comb) (run L a) h.0 (λ s1 m. run_told a h.1 s1 m) s n
      form_told (Repeat zero a) h s n = idle_told L.rest s n
      form_told (Repeat (suc k) a) h s n = rounds_told (suc k) (run L a) (λ s1 m. run_told a h s1 m) s n
      form_told (StaticSeq written ss) h s n = h s n
      form_told (StaticPar written ss) h s n = h s n
      form_told (StaticIf written test a b) h s n = h s n
      form_told (StaticRepeat written count a) h s n = h s n
      form_told (Timed k) h s n = h s n

      -- THE RUN OF A STATEMENT
      pub run_told : (st : PlainStatement) → Tells st → (s : State) (n : ℕ) → Told (run L st s n)
      run_told (Placed form place) h s n = form_told form h s n

      parts_told : (ss : PlainStatements) → AllTell ss → (s : State) (n : ℕ) → Told (run_parts L ss s n)
      parts_told no_statements h s n = tt
      parts_told (a_statement first later) h s n = then_told (run L first s n) n (run_parts L later) (run_told first h.0 s n) (λ s1 m. parts_told later h.1 s1 m)

      arms_told : (ss : PlainStatements) → AllTell ss → (s : State) (n : ℕ) → Told (run_arms L ss s n)
      arms_told no_statements h s n = tt
      arms_told (a_statement first later) h s n = both_told (L.merged (L.driven first)) (run L first s n) (run_arms L later s n) (run_told first h.0 s n) (arms_told later h.1 s n)
