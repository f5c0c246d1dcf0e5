-- A GROUP AND ITS CYCLES go in step, by four facts on one turn: what cx_promote has to show of a promotable group is these, and no run.
use Rattle.std.specs.Prelude.{◌≡◌, ℕ, zero, suc, ◌+◌, refl}
use Rattle.std.proofs.Common.{subst, sym, ap, arith}
use Rattle.cx_meaning.specs.Answers.{Answer, End, Fault, More, after_turns, Turn, Ends, Goes, Faults, turn_then, turns_of}
use Rattle.cx_promotion.proofs.Chains.{Way, InStep, end_same}

module _ {S F : Type 0} (rest : S → S) (old : ℕ → S → Turn S F) (new : ℕ → ℕ → S → Turn S F) (len : ℕ → ℕ) (Ready : S → Type 0) where
  -- At k s: the group has k cycles left; Near s u: u stands where s stands, but for what the group cannot tell
  pub record TurnFacts (g : ℕ) (At : ℕ → S → Type 0) (Near : S → S → Type 0) : Type 0 where
    pub last : ℕ
    pub length : len g ≡ suc last
    pub begins : (s u : S) → rest u ≡ s → Ready u → At (suc last) s × Near s u
    pub itself : (s : S) → Near s s
    -- while cycles are left the done hole is not 1
    pub waits : (k : ℕ) (s : S) → At (suc k) s → old g s ≡ Ends → ⊥
    -- when none is left it is, and all cells are ready
    pub stops : (s : S) → At 0 s → (old g s ≡ Ends) × Ready s
    -- a cycle of the old group that goes on is one of the new group, with the same state after it
    pub cycle : (k o : ℕ) (s u a : S) → At (suc k) s → Near s u → old g s ≡ Goes a → (new g o u ≡ Goes a) × At k a

  abbrev ended : S → ℕ → Answer S F
  ended s t = End s t

  abbrev pub Goal : ℕ → ℕ → ℕ → S → S → ℕ → Type 0
  Goal g k o u end t = (t ≡ k + 1) × (w : S) × Way rest old new len Ready g k o u w × Ready w × (rest w ≡ end)

  -- one turn more
  one_more : (k : ℕ) (x : Answer S F) (end : S) (t : ℕ) → after_turns 1 x ≡ ended end t → (j : ℕ) × (x ≡ ended end j) × (t ≡ 1 + j)
  one_more k (End s j) end t e =
      let both = end_same rest old new len Ready s end (1 + j) t e in
      (j, ap (λ z. ended z j) both.0, sym both.1)
  one_more k (Fault f j) end t e = absurd (cc)
  one_more k More end t e = absurd (cc)

  module _ (g : ℕ) (At : ℕ → S → Type 0) (Near : S → S → Type 0) (facts : TurnFacts g At Near) where
    -- what a group with k cycles left comes to, from the state itself
    abbrev pub Next : ℕ → Type 0
    Next k = (a end : S) (n t : ℕ) → At k a → turns_of rest (old g) a n ≡ ended end t → (o : ℕ) → Goal g k o a end t

    finish : Next 0
    finish s end zero t at e o = absurd (cc)
    finish s end (suc n) t at e o =
        let stop = facts.stops s at in
        let ran : ended (rest s) 1 ≡ ended end t = subst (λ x. turn_then rest s x (λ after. turns_of rest (old g) after n) ≡ ended end t) stop.0 e in
        let both = end_same rest old new len Ready (rest s) end 1 t ran in
        let turns : 1 ≡ t = both.1 in
        (omega arith, s, refl, stop.1, both.0)

    by_turn : (k : ℕ) (s u end : S) (n t : ℕ) → At (suc k) s → Near s u → Next k → (x : Turn S F) → old g s ≡ x
        → turn_then rest s x (λ after. turns_of rest (old g) after n) ≡ ended end t → (o : ℕ) → Goal g (suc k) o u end t
    by_turn k s u end n t at near next Ends is e o = absurd (facts.waits k s at is)
    by_turn k s u end n t at near next (Faults f) is e o = absurd (cc)
    by_turn k s u end n t at near next (Goes a) is e o =
        let made = facts.cycle k o s u a at near is in
        let more = one_more k (turns_of rest (old g) a n) end t e in
        let later = next a end n more.0 made.1 more.1 (suc o) in
        let turns : t ≡ 1 + more.0 = more.2 in
        let before : more.0 ≡ k + 1 = later.0 in
        (omega arith, later.1, (a, made.0, later.2), later.3, later.4)

    -- with cycles left, from a state that is near
    go_on : (k : ℕ) (s u end : S) (n t : ℕ) → At (suc k) s → Near s u → Next k → turns_of rest (old g) s n ≡ ended end t → (o : ℕ) → Goal g (suc k) o u end t
    go_on k s u end zero t at near next e o = absurd (cc)
    go_on k s u end (suc n) t at near next e o = by_turn k s u end n t at near next (old g s) refl e o

    all_left : (k : ℕ) → Next k
    all_left zero a end n t at e o = finish a end n t at e o
    all_left (suc k) a end n t at e o = go_on k a a end n t at (facts.itself a) (all_left k) e o

    -- THE GROUP IS IN STEP
    pub in_step : InStep rest old new len Ready g
    in_step s u end n t at_rest ready e =
        let begun = facts.begins s u at_rest ready in
        let goal = go_on facts.last s u end n t begun.0 begun.1 (all_left facts.last) e 0 in
        subst (λ l. (t ≡ l + 1) × (w : S) × Way rest old new len Ready g l 0 u w × Ready w × (rest w ≡ end)) (sym facts.length) goal
