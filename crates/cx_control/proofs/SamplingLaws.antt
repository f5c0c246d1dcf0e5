-- THE SAMPLES THAT HARDWARE KEEPS are what the samples of an island have to be, in every cycle.
use Rattle.std.proofs.Common.{◌≡◌, ℕ, zero, suc, ◌+◌, ◌-◌, ◌*◌, ◌%◌, ◌<◌, ◌≤◌, ⊎_elim, Bool, true, false, not, nat_lt, nat_eq, Some, None, if◌then◌else◌, refl, sym, ap, ◌∙◌, subst, arith}
use Rattle.std.specs.Prelude.{option_and_then}
use Rattle.std.proofs.lemmas.Bool.{cases_lt, lt-ltb, le-ltb, eq-eqb, ne_eqb}
use Rattle.std.proofs.lemmas.Nat.{mod_below}
use Rattle.std.proofs.Math.Nat.{mod-eq_of_lt, mod_self, mod-zero, suc-mod, zero-mod}
use Rattle.cx_meaning.specs.declared.ports.PortRef.{PortRef}
use Rattle.cx_meaning.specs.Designs.{PlainComponent, PlainForm, Empty, Enable, Seq, Par, If, While, Repeat, StaticSeq, StaticPar, StaticIf, StaticRepeat, Timed, PlainStatement, Placed, PlainStatements, no_statements, a_statement}
use Rattle.cx_meaning.specs.Sights.{Look}
use Rattle.cx_meaning.specs.Islands.{History, form_length, length_of, sum_length, and_now}
use Rattle.cx_laws.specs.Samples.{Samples, form_ifs, ifs_of, ifs_in, says, FormKept, StatementKept, PartsKept, ArmsKept, Every, AreKept}
use Rattle.cx_control.specs.Sampling.{within_length, behind_length, form_now, statement_now, parts_now, arms_now, samples_now}
use Rattle.cx_laws.proofs.SamplesLemmas.{now_is}

-- only the samples of the static ifs in a statement matter to it
module _ (part : PlainComponent) (h : History) (t : ℕ) (one other : Samples) where
  abbrev Alike : ℕ → ℕ → Type 0
  Alike n count = (m : ℕ) → n ≤ m → m < n + count → one m ≡ other m

  mutual
    form_alike : (form : PlainForm) (n j : ℕ) → Alike n (form_ifs form) → FormKept Every part h t one form n j → FormKept Every part h t other form n j
    form_alike Empty n j same k = tt
    form_alike (Enable g) n j same k = tt
    form_alike (Seq parts) n j same k = tt
    form_alike (Par arms) n j same k = tt
    form_alike (If test comb a b) n j same k = tt
    form_alike (While test comb a) n j same k = tt
    form_alike (Repeat count a) n j same k = tt
    form_alike (StaticSeq length parts) n j same k = parts_alike parts n j same k
    form_alike (StaticPar length arms) n j same k = arms_alike arms n j same k
    form_alike (StaticIf length test a b) n j same k = (
      (λ p. sym (same n (omega arith) (omega arith)) ∙ k.0 p),
      (λ e l. statement_alike a (suc n) j (λ m f g. same m (omega arith) (omega arith)) (k.1 e l)),
      (λ e l. statement_alike b (suc n + ifs_of a) j (λ m f g. same m (omega arith) (omega arith)) (k.2 e l)),
    )
    form_alike (StaticRepeat length count a) n j same k = statement_alike a n (j % length_of part a) same k
    form_alike (Timed i) n j same k = tt

    pub statement_alike : (s : PlainStatement) (n j : ℕ) → Alike n (ifs_of s) → StatementKept Every part h t one s n j → StatementKept Every part h t other s n j
    statement_alike (Placed form place) n j same k = form_alike form n j same k

    pub parts_alike : (ss : PlainStatements) (n j : ℕ) → Alike n (ifs_in ss) → PartsKept Every part h t one ss n j → PartsKept Every part h t other ss n j
    parts_alike no_statements n j same k = tt
    parts_alike (a_statement s ss) n j same k = (
      (λ l. statement_alike s n j (λ m f g. same m f (omega arith)) (k.0 l)),
      (λ l. parts_alike ss (n + ifs_of s) (j - length_of part s) (λ m f g. same m (omega arith) (omega arith)) (k.1 l)),
    )

    pub arms_alike : (ss : PlainStatements) (n j : ℕ) → Alike n (ifs_in ss) → ArmsKept Every part h t one ss n j → ArmsKept Every part h t other ss n j
    arms_alike no_statements n j same k = tt
    arms_alike (a_statement s ss) n j same k = (
      (λ l. statement_alike s n j (λ m f g. same m f (omega arith)) (k.0 l)),
      arms_alike ss (n + ifs_of s) j (λ m f g. same m (omega arith) (omega arith)) k.1,
    )

-- from one cycle to the next, or to the first, where nothing is Late
module _ (part : PlainComponent) (h later : History) (t next : ℕ) (now : PortRef → Bool) (kept : Samples) (Late : Type 0)
    (taken_now : (port : PortRef) → now port ≡ later port next) (same : Late → (port : PortRef) (j : ℕ) → later port (next - suc j) ≡ h port (t - j)) where
  -- what was kept before, of a part that has begun before
  abbrev Before : (ℕ → Type 0) → ℕ → Type 0
  Before Kept zero = Unit {0}
  Before Kept (suc j) = Late × Kept j

  within : (p j : ℕ) → j < p → option_and_then (within_length p) (Some j) ≡ Some j
  within p j l = ap (λ b. if b then Some j else None) (lt-ltb j p l)

  behind : (p j : ℕ) → p ≤ j → option_and_then (behind_length p) (Some j) ≡ Some (j - p)
  behind p j l = ap (λ b. if b then None else Some (j - p)) (le-ltb j p l)

  -- a part that begins after one of p cycles
  before_behind : (Kept : ℕ → Type 0) (j p : ℕ) → p ≤ j → ((i : ℕ) → j ≡ suc i → Late) → ((i : ℕ) → j ≡ suc i → p ≤ i → Kept (i - p)) → Before Kept (j - p)
  before_behind Kept j p l late k = by (j - p) refl
    where
      by : (d : ℕ) → j - p ≡ d → Before Kept d
      by zero e = tt
      by (suc d) e =
          let i : j ≡ suc (j - 1) = omega arith in
          let f : (j - 1) - p ≡ d = omega arith in
          (late (j - 1) i, subst Kept f (k (j - 1) i (omega arith)))

  -- a body of p cycles, at its next offset
  before_round : (Kept : ℕ → Type 0) (j p : ℕ) → Late → Kept (j % p) → Before Kept (suc j % p)
  before_round Kept j zero late k =
      let e : suc j % 0 ≡ suc j = mod-zero (suc j) in let f : j % 0 ≡ j = mod-zero j in
      subst (Before Kept) (sym e) (late, subst Kept f k)
  before_round Kept j (suc q) late k =
      ⊎_elim
      (λ l. subst (Before Kept) (sym (suc-mod j (suc q) ∙ mod-eq_of_lt l)) (late, k))
      (λ l. let b : j % suc q < suc q = mod_below j (suc q) (omega arith) in let e : suc (j % suc q) ≡ suc q = omega arith in
      subst (Before Kept) (sym (suc-mod j (suc q) ∙ ap (λ x. x % suc q) e ∙ mod_self (suc q))) tt)
      (cases_lt (suc (j % suc q)) (suc q))

  before_part : (One Other : ℕ → Type 0) (j : ℕ) → ((i : ℕ) → j ≡ suc i → One i → Other i) → Before One j → Before Other j
  before_part One Other zero f k = tt
  before_part One Other (suc i) f k = (k.0, f i refl k.1)

  late_of : (One : ℕ → Type 0) (j : ℕ) → Before One j → (i : ℕ) → j ≡ suc i → Late
  late_of One zero k i e = absurd (cc)
  late_of One (suc j) k i e = k.0

  was : (One : ℕ → Type 0) (j : ℕ) → Before One j → (i : ℕ) → j ≡ suc i → One i
  was One zero k i e = absurd (cc)
  was One (suc j) k i e = let same : j ≡ i = cc in subst One same k.1

  some_cycles : (j count p : ℕ) → j < count * p → 0 < p
  some_cycles j count zero l = absurd (let none : count * 0 ≡ 0 = omega arith in omega arith)
  some_cycles j count (suc p) l = omega arith

  -- a sample is not that of another static if
  other_if : (m n : ℕ) → n < m → nat_eq m n ≡ false
  other_if m n l = ne_eqb m n (λ e. absurd (omega arith))

  mutual
    form_step : (form : PlainForm) (n j : ℕ) → j < form_length part form → Before (FormKept Every part h t kept form n) j → FormKept Every part later next (form_now part now kept form n (Some j)) form n j
    form_step Empty n j less k = tt
    form_step (Enable g) n j less k = tt
    form_step (Seq parts) n j less k = tt
    form_step (Par arms) n j less k = tt
    form_step (If test comb a b) n j less k = tt
    form_step (While test comb a) n j less k = tt
    form_step (Repeat count a) n j less k = tt
    form_step (StaticSeq length parts) n j less k = parts_step parts n j less k
    form_step (StaticPar length arms) n j less k = arms_step arms n j k
    form_step (StaticIf length test a b) n zero less k = (
      (λ p. own ∙ so),
      (λ e l. statement_alike part later next (statement_now part now kept a (suc n) (Some 0)) _ a (suc n) 0 (λ m f g. sym (in_first (so ∙ e) m f g)) (statement_step a (suc n) 0 l tt)),
      (λ e l. statement_alike part later next (statement_now part now kept b (suc n + ifs_of a) (Some 0)) _ b (suc n + ifs_of a) 0 (λ m f g. sym (in_second (so ∙ e) m f)) (statement_step b (suc n + ifs_of a) 0 l tt)),
    )
      where
        first : next ≡ next - 0
        first = omega arith

        so : now test.port ≡ later test.port (next - 0)
        so = taken_now test.port ∙ ap (later test.port) first

        own : form_now part now kept (StaticIf length test a b) n (Some 0) n ≡ now test.port
        own = ap (λ c. if c then now test.port else (if nat_lt n (suc n + ifs_of a) then statement_now part now kept a (suc n) (if now test.port then Some 0 else None) n else statement_now part now kept b (suc n + ifs_of a) (if not (now test.port) then Some 0 else None) n)) (eq-eqb n n refl)

        in_first : now test.port ≡ true → (m : ℕ) → suc n ≤ m → m < suc n + ifs_of a → form_now part now kept (StaticIf length test a b) n (Some 0) m ≡ statement_now part now kept a (suc n) (Some 0) m
        in_first on m f g =
            ap (λ c. if c then now test.port else (if nat_lt m (suc n + ifs_of a) then statement_now part now kept a (suc n) (if now test.port then Some 0 else None) m else statement_now part now kept b (suc n + ifs_of a) (if not (now test.port) then Some 0 else None) m)) (other_if m n (omega arith))
            ∙ ap (λ c. if c then statement_now part now kept a (suc n) (if now test.port then Some 0 else None) m else statement_now part now kept b (suc n + ifs_of a) (if not (now test.port) then Some 0 else None) m) (lt-ltb m (suc n + ifs_of a) g)
            ∙ ap (λ c. statement_now part now kept a (suc n) (if c then Some 0 else None) m) on

        in_second : now test.port ≡ false → (m : ℕ) → suc n + ifs_of a ≤ m → form_now part now kept (StaticIf length test a b) n (Some 0) m ≡ statement_now part now kept b (suc n + ifs_of a) (Some 0) m
        in_second off m f =
            ap (λ c. if c then now test.port else (if nat_lt m (suc n + ifs_of a) then statement_now part now kept a (suc n) (if now test.port then Some 0 else None) m else statement_now part now kept b (suc n + ifs_of a) (if not (now test.port) then Some 0 else None) m)) (other_if m n (omega arith))
            ∙ ap (λ c. if c then statement_now part now kept a (suc n) (if now test.port then Some 0 else None) m else statement_now part now kept b (suc n + ifs_of a) (if not (now test.port) then Some 0 else None) m) (le-ltb m (suc n + ifs_of a) f)
            ∙ ap (λ c. statement_now part now kept b (suc n + ifs_of a) (if not c then Some 0 else None) m) off
    form_step (StaticIf length test a b) n (suc j) less (late, k) = (
      (λ p. own ∙ so),
      (λ e l. statement_alike part later next (statement_now part now kept a (suc n) (Some (suc j))) _ a (suc n) (suc j) (λ m f g. sym (in_first (so ∙ e) m f g))
          (statement_step a (suc n) (suc j) l (late, k.1 (sym (same late test.port j) ∙ e) (omega arith)))),
      (λ e l. statement_alike part later next (statement_now part now kept b (suc n + ifs_of a) (Some (suc j))) _ b (suc n + ifs_of a) (suc j) (λ m f g. sym (in_second (so ∙ e) m f))
          (statement_step b (suc n + ifs_of a) (suc j) l (late, k.2 (sym (same late test.port j) ∙ e) (omega arith)))),
    )
      where
        so : kept n ≡ later test.port (next - suc j)
        so = k.0 tt ∙ sym (same late test.port j)

        own : form_now part now kept (StaticIf length test a b) n (Some (suc j)) n ≡ kept n
        own = ap (λ c. if c then kept n else (if nat_lt n (suc n + ifs_of a) then statement_now part now kept a (suc n) (if kept n then Some (suc j) else None) n else statement_now part now kept b (suc n + ifs_of a) (if not (kept n) then Some (suc j) else None) n)) (eq-eqb n n refl)

        in_first : kept n ≡ true → (m : ℕ) → suc n ≤ m → m < suc n + ifs_of a → form_now part now kept (StaticIf length test a b) n (Some (suc j)) m ≡ statement_now part now kept a (suc n) (Some (suc j)) m
        in_first on m f g =
            ap (λ c. if c then kept n else (if nat_lt m (suc n + ifs_of a) then statement_now part now kept a (suc n) (if kept n then Some (suc j) else None) m else statement_now part now kept b (suc n + ifs_of a) (if not (kept n) then Some (suc j) else None) m)) (other_if m n (omega arith))
            ∙ ap (λ c. if c then statement_now part now kept a (suc n) (if kept n then Some (suc j) else None) m else statement_now part now kept b (suc n + ifs_of a) (if not (kept n) then Some (suc j) else None) m) (lt-ltb m (suc n + ifs_of a) g)
            ∙ ap (λ c. statement_now part now kept a (suc n) (if c then Some (suc j) else None) m) on

        in_second : kept n ≡ false → (m : ℕ) → suc n + ifs_of a ≤ m → form_now part now kept (StaticIf length test a b) n (Some (suc j)) m ≡ statement_now part now kept b (suc n + ifs_of a) (Some (suc j)) m
        in_second off m f =
            ap (λ c. if c then kept n else (if nat_lt m (suc n + ifs_of a) then statement_now part now kept a (suc n) (if kept n then Some (suc j) else None) m else statement_now part now kept b (suc n + ifs_of a) (if not (kept n) then Some (suc j) else None) m)) (other_if m n (omega arith))
            ∙ ap (λ c. if c then statement_now part now kept a (suc n) (if kept n then Some (suc j) else None) m else statement_now part now kept b (suc n + ifs_of a) (if not (kept n) then Some (suc j) else None) m) (le-ltb m (suc n + ifs_of a) f)
            ∙ ap (λ c. statement_now part now kept b (suc n + ifs_of a) (if not c then Some (suc j) else None) m) off
    form_step (StaticRepeat length count a) n j less k = statement_step a n (j % length_of part a) (mod_below j (length_of part a) (some_cycles j count (length_of part a) less)) (round j k)
      where
        round : (i : ℕ) → Before (λ u. StatementKept Every part h t kept a n (u % length_of part a)) i → Before (StatementKept Every part h t kept a n) (i % length_of part a)
        round zero f = subst (Before (StatementKept Every part h t kept a n)) (sym (zero-mod (length_of part a))) tt
        round (suc i) f = before_round (StatementKept Every part h t kept a n) i (length_of part a) f.0 f.1
    form_step (Timed i) n j less k = tt

    statement_step : (s : PlainStatement) (n j : ℕ) → j < length_of part s → Before (StatementKept Every part h t kept s n) j → StatementKept Every part later next (statement_now part now kept s n (Some j)) s n j
    statement_step (Placed form place) n j l k =
        subst (λ o. FormKept Every part later next (form_now part now kept form n o) form n j) (sym (within (length_of part (Placed form place)) j l)) (form_step form n j l k)

    parts_step : (ss : PlainStatements) (n j : ℕ) → j < sum_length part ss → Before (PartsKept Every part h t kept ss n) j → PartsKept Every part later next (parts_now part now kept ss n (Some j)) ss n j
    parts_step no_statements n j less k = tt
    parts_step (a_statement s ss) n j less k = (
      (λ l. statement_alike part later next (statement_now part now kept s n (Some j)) _ s n j (λ m f g. sym (in_first m g))
          (statement_step s n j l (before_part (PartsKept Every part h t kept (a_statement s ss) n) (StatementKept Every part h t kept s n) j (λ i e one. one.0 (omega arith)) k))),
      (λ l. parts_alike part later next (parts_now part now kept ss (n + ifs_of s) (Some (j - length_of part s))) _ ss (n + ifs_of s) (j - length_of part s) (λ m f g. sym (in_rest l m f))
          (parts_step ss (n + ifs_of s) (j - length_of part s) (omega arith)
          (before_behind (PartsKept Every part h t kept ss (n + ifs_of s)) j (length_of part s) l (late_of (PartsKept Every part h t kept (a_statement s ss) n) j k) (λ i e over. (was (PartsKept Every part h t kept (a_statement s ss) n) j k i e).1 over)))),
    )
      where
        in_first : (m : ℕ) → m < n + ifs_of s → parts_now part now kept (a_statement s ss) n (Some j) m ≡ statement_now part now kept s n (Some j) m
        in_first m g =
            ap (λ c. if c then statement_now part now kept s n (Some j) m else parts_now part now kept ss (n + ifs_of s) (option_and_then (behind_length (length_of part s)) (Some j)) m) (lt-ltb m (n + ifs_of s) g)

        in_rest : length_of part s ≤ j → (m : ℕ) → n + ifs_of s ≤ m → parts_now part now kept (a_statement s ss) n (Some j) m ≡ parts_now part now kept ss (n + ifs_of s) (Some (j - length_of part s)) m
        in_rest l m f =
            ap (λ c. if c then statement_now part now kept s n (Some j) m else parts_now part now kept ss (n + ifs_of s) (option_and_then (behind_length (length_of part s)) (Some j)) m) (le-ltb m (n + ifs_of s) f)
            ∙ ap (λ o. parts_now part now kept ss (n + ifs_of s) o m) (behind (length_of part s) j l)

    arms_step : (ss : PlainStatements) (n j : ℕ) → Before (ArmsKept Every part h t kept ss n) j → ArmsKept Every part later next (arms_now part now kept ss n (Some j)) ss n j
    arms_step no_statements n j k = tt
    arms_step (a_statement s ss) n j k = (
      (λ l. statement_alike part later next (statement_now part now kept s n (Some j)) _ s n j (λ m f g. sym (in_first m g))
          (statement_step s n j l (before_part (ArmsKept Every part h t kept (a_statement s ss) n) (StatementKept Every part h t kept s n) j (λ i e one. one.0 (omega arith)) k))),
      arms_alike part later next (arms_now part now kept ss (n + ifs_of s) (Some j)) _ ss (n + ifs_of s) j (λ m f g. sym (in_rest m f))
          (arms_step ss (n + ifs_of s) j (before_part (ArmsKept Every part h t kept (a_statement s ss) n) (ArmsKept Every part h t kept ss (n + ifs_of s)) j (λ i e one. one.1) k)),
    )
      where
        in_first : (m : ℕ) → m < n + ifs_of s → arms_now part now kept (a_statement s ss) n (Some j) m ≡ statement_now part now kept s n (Some j) m
        in_first m g = ap (λ c. if c then statement_now part now kept s n (Some j) m else arms_now part now kept ss (n + ifs_of s) (Some j) m) (lt-ltb m (n + ifs_of s) g)

        in_rest : (m : ℕ) → n + ifs_of s ≤ m → arms_now part now kept (a_statement s ss) n (Some j) m ≡ arms_now part now kept ss (n + ifs_of s) (Some j) m
        in_rest m f = ap (λ c. if c then statement_now part now kept s n (Some j) m else arms_now part now kept ss (n + ifs_of s) (Some j) m) (le-ltb m (n + ifs_of s) f)

before_is : (h : History) (t : ℕ) (look : Look) (port : PortRef) (j : ℕ) → and_now h (suc t) look port (suc t - suc j) ≡ h port (t - j)
before_is h t look port j =
    let e : suc t - suc j ≡ t - j = omega arith in
    ap (and_now h (suc t) look port) e ∙ ap (λ b. if b then says look port else h port (t - j)) (ne_eqb (suc t) (t - j) later)
  where
    later : suc t ≡ t - j → ⊥
    later f = absurd (omega arith)

-- what hardware keeps is what the samples have to be, where they were in the cycle before
pub first_sampled : (part : PlainComponent) (form : PlainForm) (h : History) (look : Look) (kept : Samples) → 0 < form_length part form → AreKept part (and_now h 0 look) 0 form (samples_now part (says look) 0 form kept)
first_sampled part form h look kept less = form_step part h (and_now h 0 look) 0 0 (says look) kept ⊥ (now_is h 0 look) (λ late port j. absurd late) form 0 0 less tt

pub next_sampled : (part : PlainComponent) (form : PlainForm) (h : History) (t : ℕ) (look : Look) (kept : Samples) → suc t < form_length part form → AreKept part h t form kept
    → AreKept part (and_now h (suc t) look) (suc t) form (samples_now part (says look) (suc t) form kept)
next_sampled part form h t look kept less k = form_step part h (and_now h (suc t) look) t (suc t) (says look) kept (Unit {0}) (now_is h (suc t) look) (λ late port j. before_is h t look port j) form 0 (suc t) less (tt, k)
