-- The active groups of a cycle of an island, and the ports that are looked at in it, by nested timers.
use Rattle.std.proofs.Common.{◌≡◌, ℕ, zero, suc, ◌+◌, ◌-◌, ◌<◌, ◌≤◌, inl, inr, Bool, true, false, ◌&&◌, nat_lt, nat_le, nat_eq, List, [], ◌∷◌, ◌++◌, refl, ap, ◌∙◌, arith}
use Rattle.std.proofs.lemmas.Bool.{lt-ltb, le-ltb, lt-leb, le-leb, eq-eqb, ne_eqb, and_from, and_right}
use Rattle.cx_meaning.specs.declared.ports.PortRef.{PortRef}
use Rattle.cx_meaning.specs.Designs.{PlainComponent, PlainForm, Empty, Enable, Seq, Par, If, While, Repeat, StaticSeq, StaticPar, StaticIf, StaticRepeat, Timed, PlainStatement, Placed, PlainStatements, no_statements, a_statement}
use Rattle.cx_meaning.specs.Active.{Entry}
use Rattle.cx_meaning.specs.Islands.{form_length, Condition, Occurrence, Runs, Looks, form_flat, History, hold, entry_if, active_in, port_if, looked_at}
use Rattle.cx_laws.specs.Positions.{FormIfs, StatementIfs, AllIfs, entry_at, no_entry, active_at, no_port, port_at, begun_at, HasNoEmptyIf}
use Rattle.cx_laws.proofs.PositionLemmas.{Out, Observes, on_island, past_island}

-- any length will do for the active groups
abbrev Any : ℕ → Type 0
Any n = Unit {0}

mutual
  any_form : (part : PlainComponent) (form : PlainForm) → FormIfs Any part form
  any_form part Empty = tt
  any_form part (Enable g) = tt
  any_form part (Seq parts) = tt
  any_form part (Par arms) = tt
  any_form part (If test comb a b) = tt
  any_form part (While test comb a) = tt
  any_form part (Repeat count a) = tt
  any_form part (StaticSeq length parts) = any_all part parts
  any_form part (StaticPar length arms) = any_all part arms
  any_form part (StaticIf length test a b) = (tt, any_statement part a, any_statement part b)
  any_form part (StaticRepeat length count a) = any_statement part a
  any_form part (Timed k) = tt

  any_statement : (part : PlainComponent) (s : PlainStatement) → StatementIfs Any part s
  any_statement part (Placed form place) = any_form part form

  any_all : (part : PlainComponent) (ss : PlainStatements) → AllIfs Any part ss
  any_all part no_statements = tt
  any_all part (a_statement s ss) = (any_statement part s, any_all part ss)

module _ (h : History) (t : ℕ) where
  -- the active groups
  joined_entries : (b : Bool) (g o : ℕ) (xs ys : List Entry) → entry_if b g o (xs ++ ys) ≡ entry_if b g o xs ++ ys
  joined_entries true g o xs ys = refl
  joined_entries false g o xs ys = refl

  active_joined : (xs ys : List Occurrence) → active_in h t (xs ++ ys) ≡ active_in h t xs ++ active_in h t ys
  active_joined [] ys = refl
  active_joined (Runs g from to conditions ∷ xs) ys =
      ap (entry_if (nat_le from t && nat_lt t to && hold h conditions) g (t - from)) (active_joined xs ys)
      ∙ joined_entries (nat_le from t && nat_lt t to && hold h conditions) g (t - from) (active_in h t xs) (active_in h t ys)
  active_joined (Looks port at conditions ∷ xs) ys = active_joined xs ys

  active_runs : (g x n j : ℕ) (conditions : List Condition) → t ≡ x + j → j < n → hold h conditions ≡ true → active_in h t (Runs g x (x + n) conditions ∷ []) ≡ entry_at g j
  active_runs g x n j conditions e l held =
      let begun : t - x ≡ j = omega arith in
      let holds : (nat_le x t && nat_lt t (x + n) && hold h conditions) ≡ true = and_from (nat_le x t && nat_lt t (x + n)) (hold h conditions) (and_from (nat_le x t) (nat_lt t (x + n)) (le-leb x t (omega arith)) (lt-ltb t (x + n) (omega arith))) held in
      ap (λ b. entry_if b g (t - x) []) holds ∙ ap (entry_at g) begun

  active_out : (g x n : ℕ) (conditions : List Condition) → Out x n t → active_in h t (Runs g x (x + n) conditions ∷ []) ≡ []
  active_out g x n conditions (inl l) = ap (λ b. entry_if (b && nat_lt t (x + n) && hold h conditions) g (t - x) []) (lt-leb x t l)
  active_out g x n conditions (inr l) = ap (λ b. entry_if b g (t - x) []) (ap (λ b. b && hold h conditions) (and_right (nat_le x t) (nat_lt t (x + n)) (le-ltb t (x + n) l)))

  active_unheld : (g x n : ℕ) (conditions : List Condition) → hold h conditions ≡ false → active_in h t (Runs g x (x + n) conditions ∷ []) ≡ []
  active_unheld g x n conditions e =
      ap (λ b. entry_if b g (t - x) []) (and_right (nat_le x t && nat_lt t (x + n)) (hold h conditions) e)

  active_observed : Observes h t Any entry_at no_entry (active_in h t)
  active_observed = record {
    none = refl;
    joined = active_joined;
    runs = active_runs;
    runs_out = active_out;
    runs_unheld = active_unheld;
    looks = λ port x j conditions e held. refl;
    looks_out = λ port x n conditions p o. refl;
    looks_unheld = λ port x conditions e. refl;
  }

  pub active_is : (part : PlainComponent) (form : PlainForm) → t < form_length part form → active_in h t (form_flat part form 0 []) ≡ active_at part h t form
  active_is part form l = on_island part h t Any entry_at no_entry (active_in h t) active_observed form (any_form part form) l

  pub active_past : (part : PlainComponent) (form : PlainForm) → form_length part form ≤ t → active_in h t (form_flat part form 0 []) ≡ []
  active_past part form l = past_island part h t Any entry_at no_entry (active_in h t) active_observed form (any_form part form) l

  -- the ports that are looked at
  joined_ports : (b : Bool) (port : PortRef) (xs ys : List PortRef) → port_if b port (xs ++ ys) ≡ port_if b port xs ++ ys
  joined_ports true port xs ys = refl
  joined_ports false port xs ys = refl

  looked_joined : (xs ys : List Occurrence) → looked_at h t (xs ++ ys) ≡ looked_at h t xs ++ looked_at h t ys
  looked_joined [] ys = refl
  looked_joined (Runs g from to conditions ∷ xs) ys = looked_joined xs ys
  looked_joined (Looks port at conditions ∷ xs) ys =
      ap (port_if (nat_eq t at && hold h conditions) port) (looked_joined xs ys)
      ∙ joined_ports (nat_eq t at && hold h conditions) port (looked_at h t xs) (looked_at h t ys)

  looked_begins : (port : PortRef) (x j : ℕ) (conditions : List Condition) → t ≡ x + j → hold h conditions ≡ true → looked_at h t (Looks port x conditions ∷ []) ≡ port_at port j
  looked_begins port x zero conditions e held = ap (λ b. port_if b port []) (and_from (nat_eq t x) (hold h conditions) (eq-eqb t x (omega arith)) held)
  looked_begins port x (suc j) conditions e held = ap (λ b. port_if (b && hold h conditions) port []) (ne_eqb t x (λ same. absurd (later same)))
    where
      later : t ≡ x → ⊥
      later same = omega arith

  looked_out : (port : PortRef) (x n : ℕ) (conditions : List Condition) → 0 < n → Out x n t → looked_at h t (Looks port x conditions ∷ []) ≡ []
  looked_out port x n conditions some o = ap (λ b. port_if (b && hold h conditions) port []) (ne_eqb t x (λ same. absurd (never o same)))
    where
      never : Out x n t → t ≡ x → ⊥
      never (inl m) same = omega arith
      never (inr m) same = omega arith

  looked_unheld : (port : PortRef) (x : ℕ) (conditions : List Condition) → hold h conditions ≡ false → looked_at h t (Looks port x conditions ∷ []) ≡ []
  looked_unheld port x conditions e = ap (λ b. port_if b port []) (and_right (nat_eq t x) (hold h conditions) e)

  looked_observed : Observes h t (λ n. 0 < n) no_port port_at (looked_at h t)
  looked_observed = record {
    none = refl;
    joined = looked_joined;
    runs = λ g x n j conditions e l held. refl;
    runs_out = λ g x n conditions o. refl;
    runs_unheld = λ g x n conditions e. refl;
    looks = looked_begins;
    looks_out = looked_out;
    looks_unheld = looked_unheld;
  }

  pub begun_is : (part : PlainComponent) (form : PlainForm) → HasNoEmptyIf part form → t < form_length part form → looked_at h t (form_flat part form 0 []) ≡ begun_at part h t form
  begun_is part form fine l = on_island part h t (λ n. 0 < n) no_port port_at (looked_at h t) looked_observed form fine l
