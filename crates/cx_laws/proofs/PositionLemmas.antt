-- Nested timers give what the flat list of an island gives.
use Rattle.std.proofs.Common.{◌≡◌, ℕ, zero, suc, ◌+◌, ◌-◌, ◌*◌, ◌%◌, ◌<◌, ◌≤◌, max, ◌⊎◌, ⊎_elim, inl, inr, Bool, true, false, ◌&&◌, nat_lt, Option, Some, None, List, [], ◌∷◌, ◌++◌, if◌then◌else◌, refl, sym, ap, ◌∙◌, arith}
use Rattle.std.proofs.lemmas.List.{append-nil}
use Rattle.std.proofs.lemmas.Bool.{cases_lt, lt-ltb, le-ltb}
use Rattle.std.proofs.Math.Nat.{mod-eq_of_lt, add-mod_left}
use Rattle.cx_meaning.specs.declared.ports.PortRef.{PortRef}
use Rattle.cx_meaning.specs.Designs.{PlainComponent, PlainForm, Empty, Enable, Seq, Par, If, While, Repeat, StaticSeq, StaticPar, StaticIf, StaticRepeat, Timed, PlainStatement, Placed, PlainStatements, no_statements, a_statement}
use Rattle.cx_meaning.specs.Islands.{or_zero, group_length, form_length, length_of, sum_length, max_length, Condition, condition, Occurrence, Runs, Looks, occurrence, rounds_from, form_flat, flat, seq_flat, par_flat, History, is_wanted, hold}
use Rattle.cx_laws.specs.Positions.{form_at, statement_at, while_runs, parts_at, arms_at, FormIfs, StatementIfs, AllIfs}

-- cycle t is not among the n cycles from x on
abbrev pub Out : ℕ → ℕ → ℕ → Type 0
Out x n t = (t < x) ⊎ (x + n ≤ t)

out_part : (x n y m t : ℕ) → x ≤ y → y + m ≤ x + n → Out x n t → Out y m t
out_part x n y m t l f (inl e) = inl (omega arith)
out_part x n y m t l f (inr e) = inr (omega arith)

both_nil : {A : Type 0} {xs ys : List A} → xs ≡ [] → ys ≡ [] → xs ++ ys ≡ []
both_nil {A} {xs} {ys} e f = ap (λ z. z ++ ys) e ∙ f

pub both_same : {A : Type 0} {xs us ys vs : List A} → xs ≡ us → ys ≡ vs → xs ++ ys ≡ us ++ vs
both_same {A} {xs} {us} {ys} {vs} e f = ap (λ z. z ++ ys) e ∙ ap (λ z. us ++ z) f

-- what occurrences give in cycle t, one after the other: those that run in t, and whose conditions hold, give what of_group and
-- of_port say, and the others give nothing
pub record Observes {A : Type 0} (h : History) (t : ℕ) (P : ℕ → Type 0) (of_group : ℕ → ℕ → List A) (of_port : PortRef → ℕ → List A) (observed : List Occurrence → List A) : Type 0 where
  pub none : observed [] ≡ []
  pub joined : (xs ys : List Occurrence) → observed (xs ++ ys) ≡ observed xs ++ observed ys
  pub runs : (g x n j : ℕ) (conditions : List Condition) → t ≡ x + j → j < n → hold h conditions ≡ true → observed (Runs g x (x + n) conditions ∷ []) ≡ of_group g j
  pub runs_out : (g x n : ℕ) (conditions : List Condition) → Out x n t → observed (Runs g x (x + n) conditions ∷ []) ≡ []
  pub runs_unheld : (g x n : ℕ) (conditions : List Condition) → hold h conditions ≡ false → observed (Runs g x (x + n) conditions ∷ []) ≡ []
  pub looks : (port : PortRef) (x j : ℕ) (conditions : List Condition) → t ≡ x + j → hold h conditions ≡ true → observed (Looks port x conditions ∷ []) ≡ of_port port j
  pub looks_out : (port : PortRef) (x n : ℕ) (conditions : List Condition) → P n → Out x n t → observed (Looks port x conditions ∷ []) ≡ []
  pub looks_unheld : (port : PortRef) (x : ℕ) (conditions : List Condition) → hold h conditions ≡ false → observed (Looks port x conditions ∷ []) ≡ []

module _ {A : Type 0} (part : PlainComponent) (h : History) (t : ℕ) (P : ℕ → Type 0) (of_group : ℕ → ℕ → List A) (of_port : PortRef → ℕ → List A) (observed : List Occurrence → List A) (obs : Observes h t P of_group of_port observed) where
  -- where a condition does not hold nothing is given
  unheld_group : (g x : ℕ) (conditions : List Condition) (o : Option ℕ) → hold h conditions ≡ false → observed (occurrence g x conditions o) ≡ []
  unheld_group g x conditions None e = obs.none
  unheld_group g x conditions (Some n) e = obs.runs_unheld g x n conditions e

  unheld_rounds : (f : ℕ → List Occurrence) (p : ℕ) → ((y : ℕ) → observed (f y) ≡ []) → (k x : ℕ) → observed (rounds_from f p k x) ≡ []
  unheld_rounds f p empty zero x = obs.none
  unheld_rounds f p empty (suc k) x = obs.joined (f x) (rounds_from f p k (x + p)) ∙ both_nil (empty x) (unheld_rounds f p empty k (x + p))

  unheld_more : (s : Condition) (conditions : List Condition) → hold h conditions ≡ false → hold h (s ∷ conditions) ≡ false
  unheld_more s conditions e = one (is_wanted s.wanted (h s.port s.at)) e
    where
      one : (a : Bool) → hold h conditions ≡ false → (a && hold h conditions) ≡ false
      one true e = e
      one false e = refl

  mutual
    unheld_form : (form : PlainForm) (x : ℕ) (conditions : List Condition) → hold h conditions ≡ false → observed (form_flat part form x conditions) ≡ []
    unheld_form Empty x conditions e = obs.none
    unheld_form (Enable g) x conditions e = unheld_group g x conditions (group_length part g) e
    unheld_form (Seq parts) x conditions e = obs.none
    unheld_form (Par arms) x conditions e = obs.none
    unheld_form (If test comb a b) x conditions e = obs.none
    unheld_form (While test comb a) x conditions e = obs.none
    unheld_form (Repeat count a) x conditions e = obs.none
    unheld_form (StaticSeq length parts) x conditions e = unheld_parts parts x conditions e
    unheld_form (StaticPar length arms) x conditions e = unheld_arms arms x conditions e
    unheld_form (StaticIf length test a b) x conditions e =
        obs.joined (Looks test.port x conditions ∷ []) (flat part a x (condition test.port x true ∷ conditions) ++ flat part b x (condition test.port x false ∷ conditions))
        ∙ both_nil (obs.looks_unheld test.port x conditions e)
        (obs.joined (flat part a x (condition test.port x true ∷ conditions)) (flat part b x (condition test.port x false ∷ conditions))
        ∙ both_nil (unheld a x (condition test.port x true ∷ conditions) (unheld_more (condition test.port x true) conditions e)) (unheld b x (condition test.port x false ∷ conditions) (unheld_more (condition test.port x false) conditions e)))
    unheld_form (StaticRepeat length count a) x conditions e = unheld_rounds (λ y. flat part a y conditions) (length_of part a) (λ y. unheld a y conditions e) count x
    unheld_form (Timed k) x conditions e = obs.none

    unheld : (s : PlainStatement) (x : ℕ) (conditions : List Condition) → hold h conditions ≡ false → observed (flat part s x conditions) ≡ []
    unheld (Placed form place) x conditions e = unheld_form form x conditions e

    unheld_parts : (ss : PlainStatements) (x : ℕ) (conditions : List Condition) → hold h conditions ≡ false → observed (seq_flat part ss x conditions) ≡ []
    unheld_parts no_statements x conditions e = obs.none
    unheld_parts (a_statement s ss) x conditions e = obs.joined (flat part s x conditions) (seq_flat part ss (x + length_of part s) conditions) ∙ both_nil (unheld s x conditions e) (unheld_parts ss (x + length_of part s) conditions e)

    unheld_arms : (ss : PlainStatements) (x : ℕ) (conditions : List Condition) → hold h conditions ≡ false → observed (par_flat part ss x conditions) ≡ []
    unheld_arms no_statements x conditions e = obs.none
    unheld_arms (a_statement s ss) x conditions e = obs.joined (flat part s x conditions) (par_flat part ss x conditions) ∙ both_nil (unheld s x conditions e) (unheld_arms ss x conditions e)

  -- outside its cycles a static statement gives nothing
  group_out : (g x : ℕ) (conditions : List Condition) (o : Option ℕ) → Out x (or_zero o) t → observed (occurrence g x conditions o) ≡ []
  group_out g x conditions None o = obs.none
  group_out g x conditions (Some n) o = obs.runs_out g x n conditions o

  rounds_out : (f : ℕ → List Occurrence) (p : ℕ) → ((y : ℕ) → Out y p t → observed (f y) ≡ []) → (k x : ℕ) → Out x (k * p) t → observed (rounds_from f p k x) ≡ []
  rounds_out f p empty zero x o = obs.none
  rounds_out f p empty (suc k) x o =
      let all : suc k * p ≡ p + k * p = omega arith in
      obs.joined (f x) (rounds_from f p k (x + p))
      ∙ both_nil (empty x (out_part x (suc k * p) x p t (omega arith) (omega arith) o)) (rounds_out f p empty k (x + p) (out_part x (suc k * p) (x + p) (k * p) t (omega arith) (omega arith) o))

  mutual
    out_form : (form : PlainForm) → FormIfs P part form → (x : ℕ) (conditions : List Condition) → Out x (form_length part form) t → observed (form_flat part form x conditions) ≡ []
    out_form Empty fine x conditions o = obs.none
    out_form (Enable g) fine x conditions o = group_out g x conditions (group_length part g) o
    out_form (Seq parts) fine x conditions o = obs.none
    out_form (Par arms) fine x conditions o = obs.none
    out_form (If test comb a b) fine x conditions o = obs.none
    out_form (While test comb a) fine x conditions o = obs.none
    out_form (Repeat count a) fine x conditions o = obs.none
    out_form (StaticSeq length parts) fine x conditions o = out_parts parts fine x conditions o
    out_form (StaticPar length arms) fine x conditions o = out_arms arms fine x (max_length part arms) (omega arith) conditions o
    out_form (StaticIf length test a b) fine x conditions o =
        obs.joined (Looks test.port x conditions ∷ []) (flat part a x (condition test.port x true ∷ conditions) ++ flat part b x (condition test.port x false ∷ conditions))
        ∙ both_nil (obs.looks_out test.port x (max (length_of part a) (length_of part b)) conditions fine.0 o)
        (obs.joined (flat part a x (condition test.port x true ∷ conditions)) (flat part b x (condition test.port x false ∷ conditions))
        ∙ both_nil
        (out a fine.1 x (condition test.port x true ∷ conditions) (out_part x (max (length_of part a) (length_of part b)) x (length_of part a) t (omega arith) (omega arith) o))
        (out b fine.2 x (condition test.port x false ∷ conditions) (out_part x (max (length_of part a) (length_of part b)) x (length_of part b) t (omega arith) (omega arith) o)))
    out_form (StaticRepeat length count a) fine x conditions o = rounds_out (λ y. flat part a y conditions) (length_of part a) (λ y q. out a fine y conditions q) count x o
    out_form (Timed k) fine x conditions o = obs.none

    out : (s : PlainStatement) → StatementIfs P part s → (x : ℕ) (conditions : List Condition) → Out x (length_of part s) t → observed (flat part s x conditions) ≡ []
    out (Placed form place) fine x conditions o = out_form form fine x conditions o

    out_parts : (ss : PlainStatements) → AllIfs P part ss → (x : ℕ) (conditions : List Condition) → Out x (sum_length part ss) t → observed (seq_flat part ss x conditions) ≡ []
    out_parts no_statements fine x conditions o = obs.none
    out_parts (a_statement s ss) fine x conditions o =
        obs.joined (flat part s x conditions) (seq_flat part ss (x + length_of part s) conditions)
        ∙ both_nil
        (out s fine.0 x conditions (out_part x (length_of part s + sum_length part ss) x (length_of part s) t (omega arith) (omega arith) o))
        (out_parts ss fine.1 (x + length_of part s) conditions (out_part x (length_of part s + sum_length part ss) (x + length_of part s) (sum_length part ss) t (omega arith) (omega arith) o))

    out_arms : (ss : PlainStatements) → AllIfs P part ss → (x n : ℕ) → max_length part ss ≤ n → (conditions : List Condition) → Out x n t → observed (par_flat part ss x conditions) ≡ []
    out_arms no_statements fine x n l conditions o = obs.none
    out_arms (a_statement s ss) fine x n l conditions o =
        let m : max (length_of part s) (max_length part ss) ≤ n = l in
        obs.joined (flat part s x conditions) (par_flat part ss x conditions)
        ∙ both_nil
        (out s fine.0 x conditions (out_part x n x (length_of part s) t (omega arith) (omega arith) o))
        (out_arms ss fine.1 x n (omega arith) conditions o)

  -- within its cycles it gives what it gives at its offset
  of_statement : (s : PlainStatement) (j : ℕ) → while_runs part h t of_group of_port s j ≡ (if nat_lt j (length_of part s) then statement_at part h t of_group of_port s j else [])
  of_statement (Placed form place) j = refl

  runs_short : (s : PlainStatement) (j : ℕ) → j < length_of part s → while_runs part h t of_group of_port s j ≡ statement_at part h t of_group of_port s j
  runs_short s j l = of_statement s j ∙ ap (λ b. if b then statement_at part h t of_group of_port s j else []) (lt-ltb j (length_of part s) l)

  runs_past : (s : PlainStatement) (j : ℕ) → length_of part s ≤ j → while_runs part h t of_group of_port s j ≡ []
  runs_past s j l = of_statement s j ∙ ap (λ b. if b then statement_at part h t of_group of_port s j else []) (le-ltb j (length_of part s) l)

  group_on : (g x j : ℕ) (conditions : List Condition) (o : Option ℕ) → t ≡ x + j → j < or_zero o → hold h conditions ≡ true → observed (occurrence g x conditions o) ≡ of_group g j
  group_on g x j conditions None e l held = absurd (omega arith)
  group_on g x j conditions (Some n) e l held = obs.runs g x n j conditions e l held

  -- of the rounds of a repeat the one in which t is
  rounds_here : (f : ℕ → List Occurrence) (p : ℕ) (given : ℕ → List A) → ((y : ℕ) → Out y p t → observed (f y) ≡ []) → ((y j : ℕ) → t ≡ y + j → j < p → observed (f y) ≡ given j)
      → (k x j : ℕ) → t ≡ x + j → j < p → observed (f x) ++ observed (rounds_from f p k (x + p)) ≡ given (j % p)
  rounds_here f p given empty on k x j e m = both_same (on x j e m) (rounds_out f p empty k (x + p) (inl (omega arith))) ∙ append-nil (given j) ∙ ap given (sym (mod-eq_of_lt m))

  round_later : (p j : ℕ) → p ≤ j → (j - p) % p ≡ j % p
  round_later p j m = let i : j ≡ p + (j - p) = omega arith in sym (ap (λ n. n % p) i ∙ add-mod_left p (j - p))

  rounds_on : (f : ℕ → List Occurrence) (p : ℕ) (given : ℕ → List A) → ((y : ℕ) → Out y p t → observed (f y) ≡ []) → ((y j : ℕ) → t ≡ y + j → j < p → observed (f y) ≡ given j)
      → (k x j : ℕ) → t ≡ x + j → j < k * p → observed (rounds_from f p k x) ≡ given (j % p)
  rounds_on f p given empty on zero x j e l = absurd (omega arith)
  rounds_on f p given empty on (suc k) x j e l =
      let all : suc k * p ≡ p + k * p = omega arith in
      obs.joined (f x) (rounds_from f p k (x + p))
      ∙ ⊎_elim
      (λ m. rounds_here f p given empty on k x j e m)
      (λ m. both_same (empty x (inr (omega arith))) (rounds_on f p given empty on k (x + p) (j - p) (omega arith) (omega arith)) ∙ ap given (round_later p j m))
      (cases_lt j p)

  held_more : (wanted : Bool) (port : PortRef) (x : ℕ) (conditions : List Condition) → h port x ≡ wanted → hold h conditions ≡ true → hold h (condition port x wanted ∷ conditions) ≡ true
  held_more true port x conditions e f = ap (λ b. is_wanted true b && hold h conditions) e ∙ f
  held_more false port x conditions e f = ap (λ b. is_wanted false b && hold h conditions) e ∙ f

  wrong_condition : (wanted : Bool) (port : PortRef) (x : ℕ) (conditions : List Condition) → h port x ≡ (if wanted then false else true) → hold h (condition port x wanted ∷ conditions) ≡ false
  wrong_condition true port x conditions e = ap (λ b. is_wanted true b && hold h conditions) e
  wrong_condition false port x conditions e = ap (λ b. is_wanted false b && hold h conditions) e

  -- a part that may be shorter than what it is part of
  while_on : (s : PlainStatement) → StatementIfs P part s → (x j : ℕ) (conditions : List Condition) → t ≡ x + j
      → (j < length_of part s → observed (flat part s x conditions) ≡ statement_at part h t of_group of_port s j)
      → observed (flat part s x conditions) ≡ while_runs part h t of_group of_port s j
  while_on s fine x j conditions e on =
      ⊎_elim
      (λ l. on l ∙ sym (runs_short s j l))
      (λ l. out s fine x conditions (inr (omega arith)) ∙ sym (runs_past s j l))
      (cases_lt j (length_of part s))

  -- of two branches the one that is taken
  branches_on : (a b : PlainStatement) → StatementIfs P part a → StatementIfs P part b → (port : PortRef) (x j : ℕ) (conditions : List Condition) → t ≡ x + j → hold h conditions ≡ true → (v : Bool) → h port x ≡ v
      → ((more : List Condition) → hold h more ≡ true → j < length_of part a → observed (flat part a x more) ≡ statement_at part h t of_group of_port a j)
      → ((more : List Condition) → hold h more ≡ true → j < length_of part b → observed (flat part b x more) ≡ statement_at part h t of_group of_port b j)
      → observed (flat part a x (condition port x true ∷ conditions)) ++ observed (flat part b x (condition port x false ∷ conditions))
      ≡ (if h port x then while_runs part h t of_group of_port a j else while_runs part h t of_group of_port b j)
  branches_on a b fa fb port x j conditions e held true v on_a on_b =
      both_same
      (while_on a fa x j (condition port x true ∷ conditions) e (on_a (condition port x true ∷ conditions) (held_more true port x conditions v held)))
      (unheld b x (condition port x false ∷ conditions) (wrong_condition false port x conditions v))
      ∙ append-nil (while_runs part h t of_group of_port a j)
      ∙ ap (λ c. if c then while_runs part h t of_group of_port a j else while_runs part h t of_group of_port b j) (sym v)
  branches_on a b fa fb port x j conditions e held false v on_a on_b =
      both_same
      (unheld a x (condition port x true ∷ conditions) (wrong_condition true port x conditions v))
      (while_on b fb x j (condition port x false ∷ conditions) e (on_b (condition port x false ∷ conditions) (held_more false port x conditions v held)))
      ∙ ap (λ c. if c then while_runs part h t of_group of_port a j else while_runs part h t of_group of_port b j) (sym v)

  begun : (x j : ℕ) → t ≡ x + j → x ≡ t - j
  begun x j e = omega arith

  parts_past : (n m j : ℕ) → n ≤ j → j < n + m → j - n < m
  parts_past n m j l k = omega arith

  mutual
    on_form : (form : PlainForm) → FormIfs P part form → (x j : ℕ) (conditions : List Condition) → t ≡ x + j → j < form_length part form → hold h conditions ≡ true
        → observed (form_flat part form x conditions) ≡ form_at part h t of_group of_port form j
    on_form Empty fine x j conditions e l held = obs.none
    on_form (Enable g) fine x j conditions e l held = group_on g x j conditions (group_length part g) e l held
    on_form (Seq parts) fine x j conditions e l held = obs.none
    on_form (Par arms) fine x j conditions e l held = obs.none
    on_form (If test comb a b) fine x j conditions e l held = obs.none
    on_form (While test comb a) fine x j conditions e l held = obs.none
    on_form (Repeat count a) fine x j conditions e l held = obs.none
    on_form (StaticSeq length parts) fine x j conditions e l held = on_parts parts fine x j conditions e l held
    on_form (StaticPar length arms) fine x j conditions e l held = on_arms arms fine x j conditions e held
    on_form (StaticIf length test a b) fine x j conditions e l held =
        obs.joined (Looks test.port x conditions ∷ []) (flat part a x (condition test.port x true ∷ conditions) ++ flat part b x (condition test.port x false ∷ conditions))
        ∙ both_same (obs.looks test.port x j conditions e held)
        (obs.joined (flat part a x (condition test.port x true ∷ conditions)) (flat part b x (condition test.port x false ∷ conditions))
        ∙ branches_on a b fine.1 fine.2 test.port x j conditions e held (h test.port x) refl (λ more k m. on a fine.1 x j more e m k) (λ more k m. on b fine.2 x j more e m k)
        ∙ ap (λ n. if h test.port n then while_runs part h t of_group of_port a j else while_runs part h t of_group of_port b j) (begun x j e))
    on_form (StaticRepeat length count a) fine x j conditions e l held =
        rounds_on (λ y. flat part a y conditions) (length_of part a) (statement_at part h t of_group of_port a) (λ y o. out a fine y conditions o) (λ y i f m. on a fine y i conditions f m held) count x j e l
    on_form (Timed k) fine x j conditions e l held = obs.none

    on : (s : PlainStatement) → StatementIfs P part s → (x j : ℕ) (conditions : List Condition) → t ≡ x + j → j < length_of part s → hold h conditions ≡ true
        → observed (flat part s x conditions) ≡ statement_at part h t of_group of_port s j
    on (Placed form place) fine x j conditions e l held = on_form form fine x j conditions e l held

    on_parts : (ss : PlainStatements) → AllIfs P part ss → (x j : ℕ) (conditions : List Condition) → t ≡ x + j → j < sum_length part ss → hold h conditions ≡ true
        → observed (seq_flat part ss x conditions) ≡ parts_at part h t of_group of_port ss j
    on_parts no_statements fine x j conditions e l held = obs.none
    on_parts (a_statement s ss) fine x j conditions e l held =
        obs.joined (flat part s x conditions) (seq_flat part ss (x + length_of part s) conditions)
        ∙ ⊎_elim
        (λ m. both_same (on s fine.0 x j conditions e m held) (out_parts ss fine.1 (x + length_of part s) conditions (inl (omega arith)))
        ∙ append-nil (statement_at part h t of_group of_port s j)
        ∙ sym (ap (λ b. if b then statement_at part h t of_group of_port s j else parts_at part h t of_group of_port ss (j - length_of part s)) (lt-ltb j (length_of part s) m)))
        (λ m. both_same (out s fine.0 x conditions (inr (omega arith))) (on_parts ss fine.1 (x + length_of part s) (j - length_of part s) conditions (omega arith) (parts_past (length_of part s) (sum_length part ss) j m l) held)
        ∙ sym (ap (λ b. if b then statement_at part h t of_group of_port s j else parts_at part h t of_group of_port ss (j - length_of part s)) (le-ltb j (length_of part s) m)))
        (cases_lt j (length_of part s))

    on_arms : (ss : PlainStatements) → AllIfs P part ss → (x j : ℕ) (conditions : List Condition) → t ≡ x + j → hold h conditions ≡ true
        → observed (par_flat part ss x conditions) ≡ arms_at part h t of_group of_port ss j
    on_arms no_statements fine x j conditions e held = obs.none
    on_arms (a_statement s ss) fine x j conditions e held =
        obs.joined (flat part s x conditions) (par_flat part ss x conditions) ∙ both_same (while_on s fine.0 x j conditions e (λ l. on s fine.0 x j conditions e l held)) (on_arms ss fine.1 x j conditions e held)

  -- AN ISLAND
  pub on_island : (form : PlainForm) → FormIfs P part form → t < form_length part form → observed (form_flat part form 0 []) ≡ form_at part h t of_group of_port form t
  on_island form fine l = on_form form fine 0 t [] (omega arith) l refl

  pub past_island : (form : PlainForm) → FormIfs P part form → form_length part form ≤ t → observed (form_flat part form 0 []) ≡ []
  past_island form fine l = out_form form fine 0 [] (inr (omega arith))
