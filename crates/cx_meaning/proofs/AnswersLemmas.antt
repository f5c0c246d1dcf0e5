-- What the combinators of answers keep: budgets, turns, and what holds of the state that is left.
use Rattle.std.proofs.Common.{◌≡◌, ℕ, zero, suc, ◌+◌, ◌-◌, ◌<◌, ◌≤◌, max, Bool, true, false, nat_le, if◌then◌else◌, refl, sym, ap, subst, arith}
use Rattle.std.proofs.lemmas.Bool.{le-leb, lt-leb}
use Rattle.cx_meaning.specs.Answers.{Answer, End, Fault, More, Meaning, after_turns, then_do, stay, idle_turn, Turn, Ends, Goes, Faults, turn_then, one_turn, turns_of, Test, Holds, Fails, Unclear, chosen, test_turn, loop, loop_of, rounds, both}
use Rattle.cx_meaning.specs.Budgets.{Beyond, Grows, IsSteady, TakesTurns, Leaves}

pub steady_idle : (S F : Type 0) (rest : S → S) → IsSteady {S = S} {F = F} (idle_turn rest)
steady_idle S F rest s zero zero le = tt
steady_idle S F rest s zero (suc m) le = omega arith
steady_idle S F rest s (suc n) zero le = absurd (omega arith)
steady_idle S F rest s (suc n) (suc m) le = (omega arith, refl)

pub takes_idle : (S F : Type 0) (rest : S → S) (s : S) (n : ℕ) → TakesTurns {S = S} {F = F} (idle_turn rest s n)
takes_idle S F rest s zero = tt
takes_idle S F rest s (suc n) = omega arith

pub leaves_idle : (S F : Type 0) (P : S → Type 0) (rest : S → S) → ((s : S) → P (rest s)) → (s : S) (n : ℕ) → Leaves {S = S} {F = F} P (idle_turn rest s n)
leaves_idle S F P rest rests s zero = tt
leaves_idle S F P rest rests s (suc n) = rests s

abbrev a_fault : (S F : Type 0) → F → ℕ → Answer S F
a_fault S F f t = Fault f t

earlier_beyond : (S F : Type 0) (n t u : ℕ) (f g : F) → n ≤ t → n ≤ u → Beyond n (if nat_le t u then a_fault S F f t else Fault g u)
earlier_beyond S F n t u f g h k = go (nat_le t u)
  where
    go : (b : Bool) → Beyond n (if b then a_fault S F f t else Fault g u)
    go true = h
    go false = k

module _ {S F : Type 0} where
  abbrev pub stay_for : Meaning S F
  stay_for = stay

  abbrev faulted : F → ℕ → Answer S F
  faulted f t = Fault f t

  after_beyond : (n k : ℕ) (o : Answer S F) → n < k → Beyond n (after_turns k o)
  after_beyond n k (End s t) h = omega arith
  after_beyond n k (Fault f t) h = omega arith
  after_beyond n k More h = tt

  beyond_later : (n k : ℕ) (o : Answer S F) → Beyond n o → Beyond (k + n) (after_turns k o)
  beyond_later n k (End s t) h = omega arith
  beyond_later n k (Fault f t) h = omega arith
  beyond_later n k More h = tt

  pub grows_later : (n k : ℕ) (o later : Answer S F) → Grows n o later → Grows (k + n) (after_turns k o) (after_turns k later)
  grows_later n k (End s t) later (h, e) = (omega arith, ap (after_turns k) e)
  grows_later n k (Fault f t) later (h, e) = (omega arith, ap (after_turns k) e)
  grows_later n k More later h = beyond_later n k later h

  grows_one : (n : ℕ) (o later : Answer S F) → Grows n o later → Grows (suc n) (after_turns 1 o) (after_turns 1 later)
  grows_one n o later h = let e : 1 + n ≡ suc n = omega arith in subst (λ k. Grows k (after_turns 1 o) (after_turns 1 later)) e (grows_later n 1 o later h)

  -- a part, and what goes on from it
  more_then : (n m : ℕ) (later : Answer S F) (go : Meaning S F) → Beyond n later → Beyond n (then_do later m go)
  more_then n m (End s t) go h = after_beyond n t (go s (m - t)) h
  more_then n m (Fault f t) go h = h
  more_then n m More go h = tt

  pub grows_then : (n m : ℕ) → n ≤ m → (o later : Answer S F) (go after : Meaning S F) → ((s : S) (a b : ℕ) → a ≤ b → a ≤ n → b ≤ m → Grows a (go s a) (after s b)) → Grows n o later → Grows n (then_do o n go) (then_do later m after)
  grows_then n m le (End s t) later go after h (in_budget, e) =
      let steps : Grows (t + (n - t)) (after_turns t (go s (n - t))) (after_turns t (after s (m - t))) = grows_later (n - t) t (go s (n - t)) (after s (m - t)) (h s (n - t) (m - t) (omega arith) (omega arith) (omega arith)) in
      let sum : t + (n - t) ≡ n = omega arith in
      subst (λ x. Grows n (after_turns t (go s (n - t))) (then_do x m after)) (sym e) (subst (λ k. Grows k (after_turns t (go s (n - t))) (after_turns t (after s (m - t)))) sum steps)
  grows_then n m le (Fault f t) later go after h (in_budget, e) = (in_budget, ap (λ x. then_do x m after) e)
  grows_then n m le More later go after h b = more_then n m later after b

  pub steady_then : (first go : Meaning S F) → IsSteady first → IsSteady go → IsSteady (λ s n. then_do (first s n) n go)
  steady_then first go f g s n m le = grows_then n m le (first s n) (first s m) go go (λ s1 a b ab an bm. g s1 a b ab) (f s n m le)

  pub steady_stay : IsSteady (stay_for)
  steady_stay s n m le = (omega arith, refl)

  pub turn_beyond : (rest : S → S) (s : S) (turn : Turn S F) (go : S → Answer S F) → Beyond 0 (turn_then rest s turn go)
  turn_beyond rest s Ends go = omega arith
  turn_beyond rest s (Goes after) go = after_beyond 0 1 (go after) (omega arith)
  turn_beyond rest s (Faults fault) go = omega arith

  pub grows_turn : (rest : S → S) (s : S) (turn : Turn S F) (n : ℕ) (go later : S → Answer S F) → ((after : S) → Grows n (go after) (later after)) → Grows (suc n) (turn_then rest s turn go) (turn_then rest s turn later)
  grows_turn rest s Ends n go later h = (omega arith, refl)
  grows_turn rest s (Goes after) n go later h = grows_one n (go after) (later after) (h after)
  grows_turn rest s (Faults fault) n go later h = (omega arith, refl)

  pub steady_turn : (rest : S → S) (turn : S → Turn S F) (go : Meaning S F) → IsSteady go → IsSteady (one_turn rest turn go)
  steady_turn rest turn go g s zero zero le = tt
  steady_turn rest turn go g s zero (suc m) le = turn_beyond rest s (turn s) (λ after. go after m)
  steady_turn rest turn go g s (suc n) zero le = absurd (omega arith)
  steady_turn rest turn go g s (suc n) (suc m) le = grows_turn rest s (turn s) n (λ after. go after n) (λ after. go after m) (λ after. g after n m (omega arith))

  pub steady_turns : (rest : S → S) (turn : S → Turn S F) → IsSteady (turns_of rest turn)
  steady_turns rest turn s zero zero le = tt
  steady_turns rest turn s zero (suc m) le = turn_beyond rest s (turn s) (λ after. turns_of rest turn after m)
  steady_turns rest turn s (suc n) zero le = absurd (omega arith)
  steady_turns rest turn s (suc n) (suc m) le = grows_turn rest s (turn s) n (λ after. turns_of rest turn after n) (λ after. turns_of rest turn after m) (λ after. steady_turns rest turn after n m (omega arith))

  chosen_beyond : (test : Test F) (first second : Answer S F) → Beyond 0 (chosen test first second)
  chosen_beyond Holds first second = after_beyond 0 1 first (omega arith)
  chosen_beyond Fails first second = after_beyond 0 1 second (omega arith)
  chosen_beyond (Unclear fault) first second = omega arith

  grows_chosen : (test : Test F) (n : ℕ) (first second first2 second2 : Answer S F) → Grows n first first2 → Grows n second second2 → Grows (suc n) (chosen test first second) (chosen test first2 second2)
  grows_chosen Holds n first second first2 second2 f g = grows_one n first first2 f
  grows_chosen Fails n first second first2 second2 f g = grows_one n second second2 g
  grows_chosen (Unclear fault) n first second first2 second2 f g = (omega arith, refl)

  grows_test : (rest : S → S) (test : S → Test F) (first second first2 second2 : Meaning S F) (s : S) (n m : ℕ) → n ≤ m
      → ((s1 : S) (a b : ℕ) → a ≤ b → a < n → b < m → Grows a (first s1 a) (first2 s1 b)) → ((s1 : S) (a b : ℕ) → a ≤ b → Grows a (second s1 a) (second2 s1 b))
      → Grows n (test_turn rest test first second s n) (test_turn rest test first2 second2 s m)
  grows_test rest test first second first2 second2 s zero zero le f g = tt
  grows_test rest test first second first2 second2 s zero (suc m) le f g = chosen_beyond (test s) (first2 (rest s) m) (second2 (rest s) m)
  grows_test rest test first second first2 second2 s (suc n) zero le f g = absurd (omega arith)
  grows_test rest test first second first2 second2 s (suc n) (suc m) le f g =
      grows_chosen (test s) n (first (rest s) n) (second (rest s) n) (first2 (rest s) m) (second2 (rest s) m)
      (f (rest s) n m (omega arith) (omega arith) (omega arith)) (g (rest s) n m (omega arith))

  pub steady_test : (rest : S → S) (test : S → Test F) (first second : Meaning S F) → IsSteady first → IsSteady second → IsSteady (test_turn rest test first second)
  steady_test rest test first second f g s n m le = grows_test rest test first second first second s n m le (λ s1 a b ab an bm. f s1 a b ab) (λ s1 a b ab. g s1 a b ab)

  -- the number of tests makes no difference once it exceeds the budget
  grows_loop : (rest : S → S) (test : S → Test F) (body : Meaning S F) → IsSteady body → (tests more : ℕ) (s : S) (n m : ℕ) → n ≤ m → n < tests → m < more → Grows n (loop tests rest test body s n) (loop more rest test body s m)
  grows_loop rest test body h zero more s n m le lt lt2 = absurd (omega arith)
  grows_loop rest test body h (suc tests) zero s n m le lt lt2 = absurd (omega arith)
  grows_loop rest test body h (suc tests) (suc more) s n m le lt lt2 =
      grows_test rest test (λ s1 k. then_do (body s1 k) k (loop tests rest test body)) stay (λ s1 k. then_do (body s1 k) k (loop more rest test body)) stay s n m le
      (λ s1 a b ab an bm. grows_then a b ab (body s1 a) (body s1 b) (loop tests rest test body) (loop more rest test body) (λ s2 c d cd ca db. grows_loop rest test body h tests more s2 c d cd (omega arith) (omega arith)) (h s1 a b ab))
      (λ s1 a b ab. steady_stay s1 a b ab)

  pub steady_loop : (rest : S → S) (test : S → Test F) (body : Meaning S F) → IsSteady body → IsSteady (loop_of rest test body)
  steady_loop rest test body h s n m le = grows_loop rest test body h (suc n) (suc m) s n m le (omega arith) (omega arith)

  pub steady_rounds : (k : ℕ) (body : Meaning S F) → IsSteady body → IsSteady (rounds k body)
  steady_rounds zero body h s n m le = (omega arith, refl)
  steady_rounds (suc k) body h s n m le = steady_then body (rounds k body) h (steady_rounds k body h) s n m le

  -- two arms
  pick_first : (t u : ℕ) (f g : F) → t ≤ u → (if nat_le t u then faulted f t else Fault g u) ≡ Fault f t
  pick_first t u f g h = ap (λ b. if b then faulted f t else Fault g u) (le-leb t u h)

  pick_second : (t u : ℕ) (f g : F) → u < t → (if nat_le t u then faulted f t else Fault g u) ≡ Fault g u
  pick_second t u f g h = ap (λ b. if b then faulted f t else Fault g u) (lt-leb t u h)

  earlier_grows : (n t u : ℕ) (f g : F) (later : Answer S F) → t < n → u < n → later ≡ (if nat_le t u then Fault f t else Fault g u) → Grows n (if nat_le t u then faulted f t else Fault g u) later
  earlier_grows n t u f g later h k = go (nat_le t u)
    where
      go : (b : Bool) → later ≡ (if b then Fault f t else Fault g u) → Grows n (if b then faulted f t else Fault g u) later
      go true e = (h, e)
      go false e = (k, e)

  module _ (merged : S → S → S) where
    end_more : (n t : ℕ) (a : S) (later : Answer S F) → Beyond n later → Beyond n (both merged (End a t) later)
    end_more n t a (End b u) h = omega arith
    end_more n t a (Fault g u) h = h
    end_more n t a More h = tt

    more_end : (n u : ℕ) (b : S) (later : Answer S F) → Beyond n later → Beyond n (both merged later (End b u))
    more_end n u b (End a t) h = omega arith
    more_end n u b (Fault f t) h = h
    more_end n u b More h = tt

    fault_more : (n t : ℕ) (f : F) (later : Answer S F) → t < n → Beyond n later → both merged (Fault f t) later ≡ Fault f t
    fault_more n t f (End b u) h k = refl
    fault_more n t f (Fault g u) h k = pick_first t u f g (omega arith)
    fault_more n t f More h k = refl

    more_fault : (n u : ℕ) (g : F) (later : Answer S F) → u < n → Beyond n later → both merged later (Fault g u) ≡ Fault g u
    more_fault n u g (End a t) h k = refl
    more_fault n u g (Fault f t) h k = pick_second t u f g (omega arith)
    more_fault n u g More h k = refl

    more_more : (n : ℕ) (later later2 : Answer S F) → Beyond n later → Beyond n later2 → Beyond n (both merged later later2)
    more_more n (End a t) later2 h k = end_more n t a later2 k
    more_more n (Fault f t) (End b u) h k = h
    more_more n (Fault f t) (Fault g u) h k = earlier_beyond S F n t u f g h k
    more_more n (Fault f t) More h k = h
    more_more n More (End b u) h k = tt
    more_more n More (Fault g u) h k = k
    more_more n More More h k = tt

    with_both : (n : ℕ) (o x x2 y y2 : Answer S F) → x ≡ x2 → y ≡ y2 → Grows n o (both merged x2 y2) → Grows n o (both merged x y)
    with_both n o x x2 y y2 e f h = subst (λ z. Grows n o (both merged z y)) (sym e) (subst (λ z. Grows n o (both merged x2 z)) (sym f) h)

    pub grows_both : (n : ℕ) (o later o2 later2 : Answer S F) → Grows n o later → Grows n o2 later2 → Grows n (both merged o o2) (both merged later later2)
    grows_both n (End a t) later (End b u) later2 (h, e) (k, f) = with_both n (End (merged a b) (max t u)) later (End a t) later2 (End b u) e f (omega arith, refl)
    grows_both n (End a t) later (Fault g u) later2 (h, e) (k, f) = with_both n (Fault g u) later (End a t) later2 (Fault g u) e f (k, refl)
    grows_both n (End a t) later More later2 (h, e) k = with_both n More later (End a t) later2 later2 e refl (end_more n t a later2 k)
    grows_both n (Fault f t) later (End b u) later2 (h, e) (k, e2) = with_both n (Fault f t) later (Fault f t) later2 (End b u) e e2 (h, refl)
    grows_both n (Fault f t) later (Fault g u) later2 (h, e) (k, e2) = with_both n (both merged (Fault f t) (Fault g u)) later (Fault f t) later2 (Fault g u) e e2 (earlier_grows n t u f g (both merged (Fault f t) (Fault g u)) h k refl)
    grows_both n (Fault f t) later More later2 (h, e) k = with_both n (Fault f t) later (Fault f t) later2 later2 e refl (h, fault_more n t f later2 h k)
    grows_both n More later (End b u) later2 h (k, f) = with_both n More later later later2 (End b u) refl f (more_end n u b later h)
    grows_both n More later (Fault g u) later2 h (k, f) = with_both n (Fault g u) later later later2 (Fault g u) refl f (k, more_fault n u g later k h)
    grows_both n More later More later2 h k = more_more n later later2 h k

    pub takes_both : (o o2 : Answer S F) → TakesTurns o → TakesTurns (both merged o o2)
    takes_both (End a t) (End b u) h = omega arith
    takes_both (End a t) (Fault g u) h = tt
    takes_both (End a t) More h = tt
    takes_both (Fault f t) (End b u) h = tt
    takes_both (Fault f t) (Fault g u) h = go (nat_le t u)
      where
        go : (b : Bool) → TakesTurns (if b then faulted f t else Fault g u)
        go true = tt
        go false = tt
    takes_both (Fault f t) More h = tt
    takes_both More (End b u) h = tt
    takes_both More (Fault g u) h = tt
    takes_both More More h = tt

  -- at least one turn
  pub takes_later : (k : ℕ) (o : Answer S F) → 1 ≤ k → TakesTurns (after_turns k o)
  takes_later k (End s t) h = omega arith
  takes_later k (Fault f t) h = tt
  takes_later k More h = tt

  pub takes_then : (o : Answer S F) (n : ℕ) (go : Meaning S F) → TakesTurns o → TakesTurns (then_do o n go)
  takes_then (End s t) n go h = takes_later t (go s (n - t)) h
  takes_then (Fault f t) n go h = tt
  takes_then More n go h = tt

  -- what follows takes a turn, if not the first part
  pub takes_last : (o : Answer S F) (n : ℕ) (go : Meaning S F) → ((s : S) (k : ℕ) → TakesTurns (go s k)) → TakesTurns (then_do o n go)
  takes_last (End s t) n go h = one t (go s (n - t)) (h s (n - t))
    where
      one : (t : ℕ) (o : Answer S F) → TakesTurns o → TakesTurns (after_turns t o)
      one t (End s u) h = omega arith
      one t (Fault f u) h = tt
      one t More h = tt
  takes_last (Fault f t) n go h = tt
  takes_last More n go h = tt

  pub takes_turn : (rest : S → S) (s : S) (turn : Turn S F) (go : S → Answer S F) → TakesTurns (turn_then rest s turn go)
  takes_turn rest s Ends go = omega arith
  takes_turn rest s (Goes after) go = takes_later 1 (go after) (omega arith)
  takes_turn rest s (Faults fault) go = tt

  pub takes_turns_of : (rest : S → S) (turn : S → Turn S F) (s : S) (n : ℕ) → TakesTurns (turns_of rest turn s n)
  takes_turns_of rest turn s zero = tt
  takes_turns_of rest turn s (suc n) = takes_turn rest s (turn s) (λ after. turns_of rest turn after n)

  takes_chosen : (test : Test F) (first second : Answer S F) → TakesTurns (chosen test first second)
  takes_chosen Holds first second = takes_later 1 first (omega arith)
  takes_chosen Fails first second = takes_later 1 second (omega arith)
  takes_chosen (Unclear fault) first second = tt

  pub takes_test : (rest : S → S) (test : S → Test F) (first second : Meaning S F) (s : S) (n : ℕ) → TakesTurns (test_turn rest test first second s n)
  takes_test rest test first second s zero = tt
  takes_test rest test first second s (suc n) = takes_chosen (test s) (first (rest s) n) (second (rest s) n)

  pub takes_loop : (rest : S → S) (test : S → Test F) (body : Meaning S F) (tests : ℕ) (s : S) (n : ℕ) → TakesTurns (loop tests rest test body s n)
  takes_loop rest test body zero s n = tt
  takes_loop rest test body (suc tests) s n = takes_test rest test (λ s1 m. then_do (body s1 m) m (loop tests rest test body)) stay s n

  -- what holds of the state that is left
  module _ (P : S → Type 0) where
    pub leaves_later : (k : ℕ) (o : Answer S F) → Leaves P o → Leaves P (after_turns k o)
    leaves_later k (End s t) h = h
    leaves_later k (Fault f t) h = tt
    leaves_later k More h = tt

    pub leaves_then : (o : Answer S F) (n : ℕ) (go : Meaning S F) → Leaves P o → ((s : S) (k : ℕ) → P s → Leaves P (go s k)) → Leaves P (then_do o n go)
    leaves_then (End s t) n go h g = leaves_later t (go s (n - t)) (g s (n - t) h)
    leaves_then (Fault f t) n go h g = tt
    leaves_then More n go h g = tt

    -- only what comes last matters
    pub leaves_last : (o : Answer S F) (n : ℕ) (go : Meaning S F) → ((s : S) (k : ℕ) → Leaves P (go s k)) → Leaves P (then_do o n go)
    leaves_last (End s t) n go g = leaves_later t (go s (n - t)) (g s (n - t))
    leaves_last (Fault f t) n go g = tt
    leaves_last More n go g = tt

    module _ (rest : S → S) (rests : (s : S) → P (rest s)) where
      pub leaves_turn : (s : S) (turn : Turn S F) (go : S → Answer S F) → ((after : S) → Leaves P (go after)) → Leaves P (turn_then rest s turn go)
      leaves_turn s Ends go h = rests s
      leaves_turn s (Goes after) go h = leaves_later 1 (go after) (h after)
      leaves_turn s (Faults fault) go h = tt

      pub leaves_turns : (turn : S → Turn S F) (s : S) (n : ℕ) → Leaves P (turns_of rest turn s n)
      leaves_turns turn s zero = tt
      leaves_turns turn s (suc n) = leaves_turn s (turn s) (λ after. turns_of rest turn after n) (λ after. leaves_turns turn after n)

      leaves_chosen : (test : Test F) (first second : Answer S F) → Leaves P first → Leaves P second → Leaves P (chosen test first second)
      leaves_chosen Holds first second f g = leaves_later 1 first f
      leaves_chosen Fails first second f g = leaves_later 1 second g
      leaves_chosen (Unclear fault) first second f g = tt

      pub leaves_test : (test : S → Test F) (first second : Meaning S F) (s : S) (n : ℕ) → ((s : S) (k : ℕ) → P s → Leaves P (first s k)) → ((s : S) (k : ℕ) → P s → Leaves P (second s k)) → Leaves P (test_turn rest test first second s n)
      leaves_test test first second s zero f g = tt
      leaves_test test first second s (suc n) f g = leaves_chosen (test s) (first (rest s) n) (second (rest s) n) (f (rest s) n (rests s)) (g (rest s) n (rests s))

      pub leaves_loop : (test : S → Test F) (body : Meaning S F) (tests : ℕ) (s : S) (n : ℕ) → ((s : S) (k : ℕ) → P s → Leaves P (body s k)) → Leaves P (loop tests rest test body s n)
      leaves_loop test body zero s n h = tt
      leaves_loop test body (suc tests) s n h =
          leaves_test test (λ s1 k. then_do (body s1 k) k (loop tests rest test body)) stay s n
          (λ s1 k p. leaves_last (body s1 k) k (loop tests rest test body) (λ s2 j. leaves_loop test body tests s2 j h))
          (λ s1 k p. p)

    pub leaves_rounds : (body : Meaning S F) (k : ℕ) (s : S) (n : ℕ) → P s → ((s : S) (k : ℕ) → P s → Leaves P (body s k)) → Leaves P (rounds k body s n)
    leaves_rounds body zero s n p h = p
    leaves_rounds body (suc k) s n p h = leaves_then (body s n) n (rounds k body) (h s n p) (λ s1 j q. leaves_rounds body k s1 j q h)

    pub leaves_both : (merged : S → S → S) → ((a b : S) → P a → P b → P (merged a b)) → (o o2 : Answer S F) → Leaves P o → Leaves P o2 → Leaves P (both merged o o2)
    leaves_both merged h (End a t) (End b u) p q = h a b p q
    leaves_both merged h (End a t) (Fault g u) p q = tt
    leaves_both merged h (End a t) More p q = tt
    leaves_both merged h (Fault f t) (End b u) p q = tt
    leaves_both merged h (Fault f t) (Fault g u) p q = go (nat_le t u)
      where
        go : (b : Bool) → Leaves P (if b then faulted f t else Fault g u)
        go true = tt
        go false = tt
    leaves_both merged h (Fault f t) More p q = tt
    leaves_both merged h More (End b u) p q = tt
    leaves_both merged h More (Fault g u) p q = tt
    leaves_both merged h More More p q = tt
