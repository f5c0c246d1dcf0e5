-- Parts after other parts run, and count, as the ones and then the others.
use Rattle.std.proofs.Common.{◌≡◌, ℕ, ◌+◌, ◌-◌, refl, sym, ap, ◌∙◌, arith}
use Rattle.cx_meaning.specs.Designs.{PlainStatements, no_statements, a_statement}
use Rattle.cx_meaning.specs.Answers.{Answer, End, Fault, More, Meaning, after_turns, then_do, stay}
use Rattle.cx_meaning.specs.Control.{Leaves, run, run_parts}
use Rattle.cx_rewrites.specs.Tallies.{none, plus, Counted, then_count, Counting, count, count_parts}
use Rattle.cx_rewrites.specs.Beside.{joined}
use Rattle.cx_rewrites.proofs.TallyLemmas.{none-plus, plus-none, plus-plus}

module _ {S F : Type 0} where
  after_turns-0 : (o : Answer S F) → after_turns 0 o ≡ o
  after_turns-0 (End s t) = ap (End s) (let same : 0 + t ≡ t = omega arith in same)
  after_turns-0 (Fault f t) = ap (Fault f) (let same : 0 + t ≡ t = omega arith in same)
  after_turns-0 More = refl

  after_turns-after_turns : (t u : ℕ) (o : Answer S F) → after_turns t (after_turns u o) ≡ after_turns (t + u) o
  after_turns-after_turns t u (End s v) = ap (End s) (let same : t + (u + v) ≡ t + u + v = omega arith in same)
  after_turns-after_turns t u (Fault f v) = ap (Fault f) (let same : t + (u + v) ≡ t + u + v = omega arith in same)
  after_turns-after_turns t u More = refl

  pub then_do-stay : (o : Answer S F) (n : ℕ) → then_do o n stay ≡ o
  then_do-stay (End s t) n = ap (End s) (let same : t + 0 ≡ t = omega arith in same)
  then_do-stay (Fault f t) n = refl
  then_do-stay More n = refl

  -- what comes later goes on from where the later part ended
  then_do-after_turns : (t n : ℕ) (o : Answer S F) (go : Meaning S F) → then_do (after_turns t o) n go ≡ after_turns t (then_do o (n - t) go)
  then_do-after_turns t n (End s u) go =
      let left : n - (t + u) ≡ n - t - u = omega arith in
      sym (after_turns-after_turns t u (go s (n - t - u)) ∙ ap (λ m. after_turns (t + u) (go s m)) (sym left))
  then_do-after_turns t n (Fault f u) go = refl
  then_do-after_turns t n More go = refl

  then_count-after_turns : (t n : ℕ) (o : Answer S F) (counts : Counted S) → then_count (after_turns t o) n counts ≡ then_count o (n - t) counts
  then_count-after_turns t n (End s u) counts = ap (counts s) (let left : n - (t + u) ≡ n - t - u = omega arith in left)
  then_count-after_turns t n (Fault f u) counts = refl
  then_count-after_turns t n More counts = refl

  -- a run, a run after it, and a third
  then_do-then_do : (o : Answer S F) (n : ℕ) (go on both : Meaning S F) → ((s : S) (m : ℕ) → both s m ≡ then_do (go s m) m on) → then_do o n both ≡ then_do (then_do o n go) n on
  then_do-then_do (End s t) n go on both h = ap (after_turns t) (h s (n - t)) ∙ sym (then_do-after_turns t n (go s (n - t)) on)
  then_do-then_do (Fault f t) n go on both h = refl
  then_do-then_do More n go on both h = refl

  then_count-then_count : (o : Answer S F) (n : ℕ) (go : Meaning S F) (counts more both : Counted S) → ((s : S) (m : ℕ) → both s m ≡ plus (counts s m) (then_count (go s m) m more))
      → then_count o n both ≡ plus (then_count o n counts) (then_count (then_do o n go) n more)
  then_count-then_count (End s t) n go counts more both h = h s (n - t) ∙ ap (plus (counts s (n - t))) (sym (then_count-after_turns t n (go s (n - t)) more))
  then_count-then_count (Fault f t) n go counts more both h = sym (plus-none none)
  then_count-then_count More n go counts more both h = sym (plus-none none)

  module _ (L : Leaves S F) (C : Counting S) where
    pub run_parts-joined : (parts later : PlainStatements) (s : S) (n : ℕ) → run_parts L (joined parts later) s n ≡ then_do (run_parts L parts s n) n (run_parts L later)
    run_parts-joined no_statements later s n = ap (run_parts L later s) (let all : n ≡ n - 0 = omega arith in all) ∙ sym (after_turns-0 (run_parts L later s (n - 0)))
    run_parts-joined (a_statement first rest) later s n =
        then_do-then_do (run L first s n) n (run_parts L rest) (run_parts L later) (run_parts L (joined rest later)) (λ s1 m. run_parts-joined rest later s1 m)

    pub count_parts-joined : (parts later : PlainStatements) (s : S) (n : ℕ)
        → count_parts L C (joined parts later) s n ≡ plus (count_parts L C parts s n) (then_count (run_parts L parts s n) n (count_parts L C later))
    count_parts-joined no_statements later s n =
        ap (count_parts L C later s) (let all : n ≡ n - 0 = omega arith in all) ∙ sym (none-plus (count_parts L C later s (n - 0)))
    count_parts-joined (a_statement first rest) later s n =
        ap (plus (count L C first s n)) (then_count-then_count (run L first s n) n (run_parts L rest) (count_parts L C rest) (count_parts L C later) (count_parts L C (joined rest later))
        (λ s1 m. count_parts-joined rest later s1 m))
        ∙ sym (plus-plus (count L C first s n) (then_count (run L first s n) n (count_parts L C rest)) (then_count (then_do (run L first s n) n (run_parts L rest)) n (count_parts L C later)))
