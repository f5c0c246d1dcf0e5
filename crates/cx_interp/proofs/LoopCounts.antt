-- What a loop has left to count: whatever is counted of the rest is what is counted of the whole. A seq, a while, a repeat.
use Rattle.std.proofs.Common.{◌≡◌, ℕ, zero, suc, ◌+◌, ◌-◌, ◌≤◌, ◌<◌, true, false, List, [], ◌∷◌, length, get_or, drop, Ok, Option, refl, sym, ap, ◌∙◌, subst, arith}
use Rattle.std.proofs.Math.Seq.{drop-cons}
use Rattle.cx_meaning.specs.declared.ports.PlacedPort.{PlacedPort}
use Rattle.cx_meaning.specs.Designs.{PlainDesign, Seq, While, Repeat, PlainStatement, PlainStatements}
use Rattle.cx_meaning.specs.Instances.{Instance, Path, State, idle}
use Rattle.cx_meaning.specs.Cycles.{Fault}
use Rattle.cx_meaning.specs.Answers.{Answer, Meaning, Test, Holds, Fails, Unclear}
use Rattle.cx_meaning.specs.Answers as answers
use Rattle.cx_meaning.specs.Sights.{Held}
use Rattle.cx_meaning.specs.Calls.{test}
use Rattle.cx_rewrites.specs.Tallies as tallies
use Rattle.cx_rewrites.specs.Tallies.{Tally, plus, none, then_count, chosen_count, loop_count, rounds_count}
use Rattle.cx_profiling.specs.StatementCounts.{count_of_parts}
use Rattle.cx_design.specs.declared.statements.Statement.{Statement}
use Rattle.cx_design.specs.PlainForms.{plain_statement, plain_statements}
use Rattle.cx_state.specs.States.{PlainInstance}
use Rattle.cx_turns.specs.Groups.{Driving}
use Rattle.cx_turns.specs.Tests.{Tested}
use Rattle.cx_interp.specs.declared.answers.Answer.TheVariants.{End}
use Rattle.cx_interp.specs.Doings.{Doing, statement_does, statement_drives}
use Rattle.cx_interp.specs.Done.{Done}
use Rattle.cx_interp.specs.Counts.{KeepsShape}
use Rattle.cx_interp.specs.Counted.{Tallying, GrowsBy, statement_counts, form_counts}
use Rattle.cx_interp.proofs.ControlLemmas.{drop_past}
use Rattle.cx_interp.proofs.GrowthLemmas.{then_counts, by_same, by_none, by_then, by_holds, by_fails}

-- from the rows and the table now, what is counted of the rest with what is left of the budget is what is counted of the whole
abbrev pub CountsOn : PlainDesign → ℕ → List PlainInstance → List PlainInstance → List (List ℕ) → List (List ℕ) → Tallying → ℕ → Tallying → ℕ → Type 0
CountsOn d n initial now initially so_far rest left whole budget = (new : List (List ℕ)) → GrowsBy d now so_far new n rest left → GrowsBy d initial initially new n whole budget

module _ (d : PlainDesign) (n : ℕ) where
  pub counts_start : (rows : List PlainInstance) (table : List (List ℕ)) (whole : Tallying) (budget : ℕ) → CountsOn d n rows rows table table whole (budget - 0) whole budget
  counts_start rows table whole budget new one =
      let same : budget - 0 ≡ budget = omega arith in
      subst (λ b. GrowsBy d rows table new n whole b) same one

  pub counts_after : (initial now middle : List PlainInstance) (initially so_far finally : List (List ℕ)) (driving : Driving) (first rest : Tallying) (does : Doing) (left : ℕ)
      (whole : Tallying) (budget turns : ℕ)
      → CountsOn d n initial now initially so_far (then_counts d n first does rest) left whole budget → KeepsShape so_far finally
      → Done d now middle n driving does left (End turns)
      → GrowsBy d now so_far finally n first left → CountsOn d n initial middle initially finally rest (left - turns) whole budget
  counts_after initial now middle initially so_far finally driving first rest does left whole budget turns goes shape done one new two =
      goes new (by_then d n driving now middle so_far finally new first rest does left turns shape done one two)

-- A SEQ
abbrev pub parts_count : PlainStatements → Tallying
parts_count parts i held s n = count_of_parts i held parts s n

pub seq_none : (parts : List Statement) → length parts ≡ 0 → (i : Instance) (held : Held) (s : State) (n : ℕ) (q : Path) (g : ℕ)
    → form_counts (Seq (plain_statements parts)) i held s n q g ≡ 0
seq_none [] e i held s n q g = refl
seq_none (x ∷ xs) e i held s n q g = absurd (let f : suc (length xs) ≡ 0 = e in omega (arith, f))

module _ (d : PlainDesign) (n : ℕ) (parts : List Statement) where
  abbrev pub SeqCounts : List PlainInstance → List PlainInstance → List (List ℕ) → List (List ℕ) → ℕ → ℕ → ℕ → Type 0
  SeqCounts initial now initially so_far budget spent k =
      CountsOn d n initial now initially so_far (parts_count (plain_statements (drop k parts))) (budget - spent) (form_counts (Seq (plain_statements parts))) budget

  pub seq_counts_start : (rows : List PlainInstance) (table : List (List ℕ)) (budget : ℕ) → SeqCounts rows rows table table budget 0 0
  seq_counts_start rows table budget = counts_start d n rows table (form_counts (Seq (plain_statements parts))) budget

  pub seq_counts_next : (initial now middle : List PlainInstance) (initially so_far finally : List (List ℕ)) (budget spent k turns : ℕ) (x : Statement) → k < length parts
      → x ≡ get_or parts k x → SeqCounts initial now initially so_far budget spent k → KeepsShape so_far finally
      → Done d now middle n (statement_drives (plain_statement x)) (statement_does (plain_statement x)) (budget - spent) (End turns)
      → GrowsBy d now so_far finally n (statement_counts (plain_statement x)) (budget - spent)
      → SeqCounts initial middle initially finally budget (spent + turns) (k + 1)
  seq_counts_next initial now middle initially so_far finally budget spent k turns x lt is goes shape done one =
      let whole : Tallying = form_counts (Seq (plain_statements parts)) in
      let opened : drop k parts ≡ x ∷ drop (suc k) parts = drop-cons parts k x lt ∙ ap (λ s. s ∷ drop (suc k) parts) (sym is) in
      let next : suc k ≡ k + 1 = omega arith in
      let left : budget - spent - turns ≡ budget - (spent + turns) = omega arith in
      let rest : Tallying = parts_count (plain_statements (drop (suc k) parts)) in
      let here : CountsOn d n initial now initially so_far (then_counts d n (statement_counts (plain_statement x)) (statement_does (plain_statement x)) rest) (budget - spent)
      whole budget =
      subst (λ ss. CountsOn d n initial now initially so_far (parts_count (plain_statements ss)) (budget - spent) whole budget) opened goes in
      subst (λ j. CountsOn d n initial middle initially finally (parts_count (plain_statements (drop j parts))) (budget - (spent + turns)) whole budget) next
      (subst (λ b. CountsOn d n initial middle initially finally rest b whole budget) left
      (counts_after d n initial now middle initially so_far finally (statement_drives (plain_statement x)) (statement_counts (plain_statement x)) rest
      (statement_does (plain_statement x))
      (budget - spent) whole budget turns here shape done one))

  pub seq_counts_end : (initial now : List PlainInstance) (initially so_far : List (List ℕ)) (budget spent k : ℕ) → length parts ≤ k
      → SeqCounts initial now initially so_far budget spent k
      → GrowsBy d initial initially so_far n (form_counts (Seq (plain_statements parts))) budget
  seq_counts_end initial now initially so_far budget spent k le goes =
      goes so_far (subst (λ ss. GrowsBy d now so_far so_far n (parts_count (plain_statements ss)) (budget - spent)) (sym (drop_past parts k le))
      (by_none d n now so_far (parts_count (plain_statements [])) (budget - spent) (λ i held s q g. refl)))

-- A WHILE: more tests than the budget has turns count nothing more
module _ (rest : State → State) (test : State → Test Fault) (body : Meaning State Fault) (counts : tallies.Counted State) where
  same_chosen : (x : Test Fault) (a b c : Tally) → ((q : Path) (g : ℕ) → a q g ≡ b q g) → (q : Path) (g : ℕ) → chosen_count x a c q g ≡ chosen_count x b c q g
  same_chosen Holds a b c e q g = e q g
  same_chosen Fails a b c e q g = refl
  same_chosen (Unclear f) a b c e q g = refl

  same_then : (n : ℕ) (go other : tallies.Counted State) → ((m : ℕ) (s : State) → m ≤ n → (q : Path) (g : ℕ) → go s m q g ≡ other s m q g)
      → (x : Answer State Fault) (q : Path) (g : ℕ) → then_count x n go q g ≡ then_count x n other q g
  same_then n go other h (answers.End s t) q g = h (n - t) s (omega arith) q g
  same_then n go other h (answers.Fault f t) q g = refl
  same_then n go other h answers.More q g = refl

  pub enough_counted : (tests other n : ℕ) → n < tests → n < other → (s : State) (q : Path) (g : ℕ)
      → loop_count tests rest test body counts s n q g ≡ loop_count other rest test body counts s n q g
  enough_counted zero other n a b s q g = absurd (omega arith)
  enough_counted (suc tests) zero n a b s q g = absurd (omega arith)
  enough_counted (suc tests) (suc other) zero a b s q g = refl
  enough_counted (suc tests) (suc other) (suc n) a b s q g =
      let here : n < tests = (let h : suc n < suc tests = a in omega arith) in
      let there : n < other = (let h : suc n < suc other = b in omega arith) in
      same_chosen (test s)
      (plus (counts (rest s) n) (then_count (body (rest s) n) n (loop_count tests rest test body counts)))
      (plus (counts (rest s) n) (then_count (body (rest s) n) n (loop_count other rest test body counts)))
      none
      (λ p h. ap (λ k. counts (rest s) n p h + k)
      (same_then n (loop_count tests rest test body counts) (loop_count other rest test body counts)
      (λ m x le. enough_counted tests other m (omega (arith, here, le)) (omega (arith, there, le)) x) (body (rest s) n) p h))
      q g

module _ (d : PlainDesign) (n : ℕ) (port : PlacedPort) (comb : Option ℕ) (body : PlainStatement) where
  abbrev while_counts : Tallying
  while_counts = form_counts (While port comb body)

  -- the loop with so many tests at most
  abbrev loop_counts : ℕ → Tallying
  loop_counts tests i held s k = loop_count tests (idle i) (test i held port.port comb) (statement_does body i held) (statement_counts body i held) s k

  abbrev no_more : Tallying
  no_more i held s k = none

  -- the body, and then the tests behind it
  abbrev rest_counts : ℕ → Tallying
  rest_counts left = then_counts d n (statement_counts body) (statement_does body) (loop_counts (suc left))

  abbrev pub WhileCounts : List PlainInstance → List PlainInstance → List (List ℕ) → List (List ℕ) → ℕ → ℕ → Type 0
  WhileCounts initial now initially so_far budget spent = CountsOn d n initial now initially so_far while_counts (budget - spent) while_counts budget

  pub while_counts_start : (rows : List PlainInstance) (table : List (List ℕ)) (budget : ℕ) → WhileCounts rows rows table table budget 0
  while_counts_start rows table budget = counts_start d n rows table while_counts budget

  more : (budget spent : ℕ) → spent < budget → suc (budget - (spent + 1)) ≡ budget - spent
  more budget spent lt = omega arith

  pub while_counts_end : (initial now : List PlainInstance) (initially so_far : List (List ℕ)) (budget spent : ℕ) → spent < budget → Tested d now n port.port comb (Ok false)
      → WhileCounts initial now initially so_far budget spent → GrowsBy d initial initially so_far n while_counts budget
  while_counts_end initial now initially so_far budget spent lt tested goes =
      goes so_far
      (subst (λ b. GrowsBy d now so_far so_far n while_counts b) (more budget spent lt)
      (by_fails d n port.port comb (rest_counts (budget - (spent + 1))) no_more now so_far so_far (budget - (spent + 1)) tested
      (by_none d n now so_far no_more (budget - (spent + 1)) (λ i held s q g. refl))))

  pub while_counts_next : (initial now middle : List PlainInstance) (initially so_far finally : List (List ℕ)) (budget spent turns : ℕ) → spent < budget
      → Tested d now n port.port comb (Ok true) → WhileCounts initial now initially so_far budget spent → KeepsShape so_far finally
      → Done d now middle n (statement_drives body) (statement_does body) (budget - (spent + 1)) (End turns)
      → GrowsBy d now so_far finally n (statement_counts body) (budget - (spent + 1))
      → WhileCounts initial middle initially finally budget (spent + 1 + turns)
  while_counts_next initial now middle initially so_far finally budget spent turns lt tested goes shape done one new two =
      let left : ℕ = budget - (spent + 1) in
      let less : budget - (spent + 1 + turns) ≡ left - turns = omega arith in
      let few : left - turns < suc left = omega arith in
      let here : GrowsBy d middle finally new n while_counts (left - turns) = subst (λ b. GrowsBy d middle finally new n while_counts b) less two in
      let bounded : GrowsBy d middle finally new n (loop_counts (suc left)) (left - turns) =
      by_same d n middle finally new while_counts (loop_counts (suc left)) (left - turns)
      (λ i held s q g. enough_counted (idle i) (test i held port.port comb) (statement_does body i held) (statement_counts body i held) (suc (left - turns)) (suc left)
      (left - turns) (omega arith) few s q g) here in
      goes new
      (subst (λ b. GrowsBy d now so_far new n while_counts b) (more budget spent lt)
      (by_holds d n port.port comb (rest_counts left) no_more now so_far new left tested
      (by_then d n (statement_drives body) now middle so_far finally new (statement_counts body) (loop_counts (suc left)) (statement_does body) left turns shape done one bounded)))

-- A REPEAT
module _ (d : PlainDesign) (n : ℕ) (body : PlainStatement) where
  abbrev pub rounds_counts : ℕ → Tallying
  rounds_counts k i held s m = rounds_count k (statement_does body i held) (statement_counts body i held) s m

  abbrev pub RepeatCounts : List PlainInstance → List PlainInstance → List (List ℕ) → List (List ℕ) → ℕ → ℕ → ℕ → ℕ → Type 0
  RepeatCounts initial now initially so_far budget spent count round =
      CountsOn d n initial now initially so_far (rounds_counts (count - round)) (budget - spent) (form_counts (Repeat count body)) budget

  pub repeat_counts_start : (rows : List PlainInstance) (table : List (List ℕ)) (budget count : ℕ) → RepeatCounts rows rows table table budget 0 count 0
  repeat_counts_start rows table budget count =
      let same : count ≡ count - 0 = omega arith in
      subst (λ k. CountsOn d n rows rows table table (rounds_counts k) (budget - 0) (form_counts (Repeat count body)) budget) same
      (counts_start d n rows table (form_counts (Repeat count body)) budget)

  pub repeat_counts_next : (initial now middle : List PlainInstance) (initially so_far finally : List (List ℕ)) (budget spent count round turns : ℕ) → round < count
      → RepeatCounts initial now initially so_far budget spent count round → KeepsShape so_far finally
      → Done d now middle n (statement_drives body) (statement_does body) (budget - spent) (End turns) → GrowsBy d now so_far finally n (statement_counts body) (budget - spent)
      → RepeatCounts initial middle initially finally budget (spent + turns) count (round + 1)
  repeat_counts_next initial now middle initially so_far finally budget spent count round turns lt goes shape done one =
      let whole : Tallying = form_counts (Repeat count body) in
      let next : count - round ≡ suc (count - (round + 1)) = omega arith in
      let left : budget - spent - turns ≡ budget - (spent + turns) = omega arith in
      let rest : Tallying = rounds_counts (count - (round + 1)) in
      let here : CountsOn d n initial now initially so_far (then_counts d n (statement_counts body) (statement_does body) rest) (budget - spent) whole budget =
      subst (λ k. CountsOn d n initial now initially so_far (rounds_counts k) (budget - spent) whole budget) next goes in
      subst (λ b. CountsOn d n initial middle initially finally rest b whole budget) left
      (counts_after d n initial now middle initially so_far finally (statement_drives body) (statement_counts body) rest (statement_does body) (budget - spent) whole budget
      turns here shape
      done one)

  pub repeat_counts_end : (initial now : List PlainInstance) (initially so_far : List (List ℕ)) (budget spent count round : ℕ) → count - round ≡ 0
      → RepeatCounts initial now initially so_far budget spent count round → GrowsBy d initial initially so_far n (form_counts (Repeat count body)) budget
  repeat_counts_end initial now initially so_far budget spent count round none_left goes =
      goes so_far (subst (λ k. GrowsBy d now so_far so_far n (rounds_counts k) (budget - spent)) (sym none_left)
      (by_none d n now so_far (rounds_counts 0) (budget - spent) (λ i held s q g. refl)))
