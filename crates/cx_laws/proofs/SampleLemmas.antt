-- The samples of an island, from cycle to cycle.
use Rattle.std.proofs.Common.{◌≡◌, ℕ, zero, suc, ◌+◌, ◌-◌, ◌%◌, ◌<◌, ◌≤◌, ◌⊎◌, ⊎_elim, inl, inr, Bool, true, false, nat_lt, List, [], ◌++◌, refl, sym, ap, ◌∙◌, subst, arith}
use Rattle.std.specs.Prelude.{if◌then◌else◌}
use Rattle.std.proofs.lemmas.Bool.{cases_lt, lt-ltb, le-ltb, eq-eqb, ne_eqb}
use Rattle.std.proofs.lemmas.Nat.{mod_below}
use Rattle.std.proofs.Math.Nat.{mod-eq_of_lt, mod_self, mod-zero, suc-mod, zero-mod}
use Rattle.cx_meaning.specs.declared.ports.PortRef.{PortRef}
use Rattle.cx_meaning.specs.Designs.{PlainComponent, PlainForm, Empty, Enable, Seq, Par, If, While, Repeat, StaticSeq, StaticPar, StaticIf, StaticRepeat, Timed, PlainStatement, Placed, PlainStatements, no_statements, a_statement}
use Rattle.cx_meaning.specs.Sights.{Look}
use Rattle.cx_meaning.specs.Islands.{History, length_of, and_now}
use Rattle.cx_laws.specs.Positions.{form_at, statement_at, while_runs, parts_at, arms_at}
use Rattle.cx_laws.specs.Samples.{Samples, form_ifs, ifs_of, ifs_in, says, begin, form_after, statement_after, while_after, parts_after, arms_after, form_by, statement_by, while_by, parts_by, arms_by, FormKept, StatementKept, PartsKept, ArmsKept, Every, samples_after, AreKept}
use Rattle.cx_laws.proofs.PositionLemmas.{both_same}
use Rattle.cx_laws.proofs.SamplesLemmas.{begin_other, now_is}
use Rattle.cx_text.proofs.NumberLaws.{same_choice}

-- where the samples are kept, what runs by them is what runs
module _ {A : Type 0} (part : PlainComponent) (h : History) (t : ℕ) (kept : Samples) (of_group : ℕ → ℕ → List A) (of_port : PortRef → ℕ → List A) where
  while_is : (s : PlainStatement) (n j : ℕ) → (j < length_of part s → statement_by part kept of_group of_port s n j ≡ statement_at part h t of_group of_port s j)
      → while_by part kept of_group of_port s n j ≡ while_runs part h t of_group of_port s j
  while_is (Placed form place) n j e = same_choice j (length_of part (Placed form place)) _ [] _ [] e (λ l. refl)

  by_branch : (a b : PlainStatement) (n m j : ℕ) (v w : Bool) → v ≡ w
      → (w ≡ true → j < length_of part a → statement_by part kept of_group of_port a n j ≡ statement_at part h t of_group of_port a j)
      → (w ≡ false → j < length_of part b → statement_by part kept of_group of_port b m j ≡ statement_at part h t of_group of_port b j)
      → (if v then while_by part kept of_group of_port a n j else while_by part kept of_group of_port b m j) ≡ (if w then while_runs part h t of_group of_port a j else while_runs part h t of_group of_port b j)
  by_branch a b n m j v true e f g = ap (λ c. if c then while_by part kept of_group of_port a n j else while_by part kept of_group of_port b m j) e ∙ while_is a n j (f refl)
  by_branch a b n m j v false e f g = ap (λ c. if c then while_by part kept of_group of_port a n j else while_by part kept of_group of_port b m j) e ∙ while_is b m j (g refl)

  mutual
    by_form : (form : PlainForm) (n j : ℕ) → FormKept Every part h t kept form n j → form_by part kept of_group of_port form n j ≡ form_at part h t of_group of_port form j
    by_form Empty n j k = refl
    by_form (Enable g) n j k = refl
    by_form (Seq parts) n j k = refl
    by_form (Par arms) n j k = refl
    by_form (If test comb a b) n j k = refl
    by_form (While test comb a) n j k = refl
    by_form (Repeat count a) n j k = refl
    by_form (StaticSeq length parts) n j k = by_parts parts n j k
    by_form (StaticPar length arms) n j k = by_arms arms n j k
    by_form (StaticIf length test a b) n j k =
        ap (λ rest. of_port test.port j ++ rest)
        (by_branch a b (suc n) (suc n + ifs_of a) j (kept n) (h test.port (t - j)) (k.0 tt) (λ e l. by_statement a (suc n) j (k.1 e l)) (λ e l. by_statement b (suc n + ifs_of a) j (k.2 e l)))
    by_form (StaticRepeat length count a) n j k = by_statement a n (j % length_of part a) k
    by_form (Timed m) n j k = refl

    by_statement : (s : PlainStatement) (n j : ℕ) → StatementKept Every part h t kept s n j → statement_by part kept of_group of_port s n j ≡ statement_at part h t of_group of_port s j
    by_statement (Placed form place) n j k = by_form form n j k

    by_parts : (ss : PlainStatements) (n j : ℕ) → PartsKept Every part h t kept ss n j → parts_by part kept of_group of_port ss n j ≡ parts_at part h t of_group of_port ss j
    by_parts no_statements n j k = refl
    by_parts (a_statement s ss) n j k =
        same_choice j (length_of part s) _ _ _ _ (λ l. by_statement s n j (k.0 l)) (λ l. by_parts ss (n + ifs_of s) (j - length_of part s) (k.1 l))

    by_arms : (ss : PlainStatements) (n j : ℕ) → ArmsKept Every part h t kept ss n j → arms_by part kept of_group of_port ss n j ≡ arms_at part h t of_group of_port ss j
    by_arms no_statements n j k = refl
    by_arms (a_statement s ss) n j k = both_same (while_is s n j (λ l. by_statement s n j (k.0 l))) (by_arms ss (n + ifs_of s) j k.1)

-- the samples of other static ifs do not matter
module _ (P : ℕ → Type 0) (part : PlainComponent) (h : History) (t : ℕ) (kept other : Samples) where
  abbrev Agree : ℕ → ℕ → Type 0
  Agree n count = (m : ℕ) → n ≤ m → m < n + count → kept m ≡ other m

  mutual
    form_kept : (form : PlainForm) (n j : ℕ) → Agree n (form_ifs form) → FormKept P part h t kept form n j → FormKept P part h t other form n j
    form_kept Empty n j same k = tt
    form_kept (Enable g) n j same k = tt
    form_kept (Seq parts) n j same k = tt
    form_kept (Par arms) n j same k = tt
    form_kept (If test comb a b) n j same k = tt
    form_kept (While test comb a) n j same k = tt
    form_kept (Repeat count a) n j same k = tt
    form_kept (StaticSeq length parts) n j same k = parts_kept parts n j same k
    form_kept (StaticPar length arms) n j same k = arms_kept arms n j same k
    form_kept (StaticIf length test a b) n j same k = (
      (λ p. sym (same n (omega arith) (omega arith)) ∙ k.0 p),
      (λ e l. statement_kept a (suc n) j (λ m f g. same m (omega arith) (omega arith)) (k.1 e l)),
      (λ e l. statement_kept b (suc n + ifs_of a) j (λ m f g. same m (omega arith) (omega arith)) (k.2 e l)),
    )
    form_kept (StaticRepeat length count a) n j same k = statement_kept a n (j % length_of part a) same k
    form_kept (Timed m) n j same k = tt

    pub statement_kept : (s : PlainStatement) (n j : ℕ) → Agree n (ifs_of s) → StatementKept P part h t kept s n j → StatementKept P part h t other s n j
    statement_kept (Placed form place) n j same k = form_kept form n j same k

    parts_kept : (ss : PlainStatements) (n j : ℕ) → Agree n (ifs_in ss) → PartsKept P part h t kept ss n j → PartsKept P part h t other ss n j
    parts_kept no_statements n j same k = tt
    parts_kept (a_statement s ss) n j same k = (
      (λ l. statement_kept s n j (λ m f g. same m f (omega arith)) (k.0 l)),
      (λ l. parts_kept ss (n + ifs_of s) (j - length_of part s) (λ m f g. same m (omega arith) (omega arith)) (k.1 l)),
    )

    pub arms_kept : (ss : PlainStatements) (n j : ℕ) → Agree n (ifs_in ss) → ArmsKept P part h t kept ss n j → ArmsKept P part h t other ss n j
    arms_kept no_statements n j same k = tt
    arms_kept (a_statement s ss) n j same k = (
      (λ l. statement_kept s n j (λ m f g. same m f (omega arith)) (k.0 l)),
      arms_kept ss (n + ifs_of s) j (λ m f g. same m (omega arith) (omega arith)) k.1,
    )

begin_own : (n : ℕ) (v : Bool) (kept : Samples) → begin n 0 v kept n ≡ v
begin_own n v kept = ap (λ b. if b then v else kept n) (eq-eqb n n refl)

abbrev Apart : ℕ → ℕ → ℕ → Type 0
Apart n count m = (m < n) ⊎ (n + count ≤ m)

if_both : {A : Type 0} (b : Bool) (x y z : A) → x ≡ z → y ≡ z → (if b then x else y) ≡ z
if_both true x y z e f = e
if_both false x y z e f = f

at_samples : (b : Bool) (x y : Samples) (m : ℕ) → (if b then x else y) m ≡ (if b then x m else y m)
at_samples true x y m = refl
at_samples false x y m = refl

not_within : (n count m : ℕ) → 0 < count → Apart n count m → m ≡ n → ⊥
not_within n count m some (inl l) e = omega arith
not_within n count m some (inr l) e = omega arith

apart_part : (n count k some m : ℕ) → n ≤ k → k + some ≤ n + count → Apart n count m → Apart k some m
apart_part n count k some m l f (inl e) = inl (omega arith)
apart_part n count k some m l f (inr e) = inr (omega arith)

module _ (part : PlainComponent) (now : PortRef → Bool) where
  while_stays : (s : PlainStatement) (n j m : ℕ) (kept : Samples) → statement_after part now s n j kept m ≡ kept m → while_after part now s n j kept m ≡ kept m
  while_stays (Placed form place) n j m kept e =
      at_samples (nat_lt j (length_of part (Placed form place))) (form_after part now form n j kept) kept m
      ∙ if_both (nat_lt j (length_of part (Placed form place))) (form_after part now form n j kept m) (kept m) (kept m) e refl

  mutual
    form_stays : (form : PlainForm) (n j m : ℕ) (kept : Samples) → Apart n (form_ifs form) m → form_after part now form n j kept m ≡ kept m
    form_stays Empty n j m kept o = refl
    form_stays (Enable g) n j m kept o = refl
    form_stays (Seq parts) n j m kept o = refl
    form_stays (Par arms) n j m kept o = refl
    form_stays (If test comb a b) n j m kept o = refl
    form_stays (While test comb a) n j m kept o = refl
    form_stays (Repeat count a) n j m kept o = refl
    form_stays (StaticSeq length parts) n j m kept o = parts_stay parts n j m kept o
    form_stays (StaticPar length arms) n j m kept o = arms_stay arms n j m kept o
    form_stays (StaticIf length test a b) n j m kept o =
        at_samples (begin n j (now test.port) kept n) (while_after part now a (suc n) j (begin n j (now test.port) kept)) (while_after part now b (suc n + ifs_of a) j (begin n j (now test.port) kept)) m
        ∙ if_both (begin n j (now test.port) kept n) _ _ (begin n j (now test.port) kept m)
        (while_stays a (suc n) j m (begin n j (now test.port) kept) (statement_stays a (suc n) j m (begin n j (now test.port) kept) (apart_part n (1 + (ifs_of a + ifs_of b)) (suc n) (ifs_of a) m (omega arith) (omega arith) o)))
        (while_stays b (suc n + ifs_of a) j m (begin n j (now test.port) kept) (statement_stays b (suc n + ifs_of a) j m (begin n j (now test.port) kept) (apart_part n (1 + (ifs_of a + ifs_of b)) (suc n + ifs_of a) (ifs_of b) m (omega arith) (omega arith) o)))
        ∙ begin_other n j m (now test.port) kept (not_within n (1 + (ifs_of a + ifs_of b)) m (omega arith) o)
    form_stays (StaticRepeat length count a) n j m kept o = statement_stays a n (j % length_of part a) m kept o
    form_stays (Timed k) n j m kept o = refl

    pub statement_stays : (s : PlainStatement) (n j m : ℕ) (kept : Samples) → Apart n (ifs_of s) m → statement_after part now s n j kept m ≡ kept m
    statement_stays (Placed form place) n j m kept o = form_stays form n j m kept o

    parts_stay : (ss : PlainStatements) (n j m : ℕ) (kept : Samples) → Apart n (ifs_in ss) m → parts_after part now ss n j kept m ≡ kept m
    parts_stay no_statements n j m kept o = refl
    parts_stay (a_statement s ss) n j m kept o =
        at_samples (nat_lt j (length_of part s)) (statement_after part now s n j kept) (parts_after part now ss (n + ifs_of s) (j - length_of part s) kept) m
        ∙ if_both (nat_lt j (length_of part s)) _ _ (kept m)
        (statement_stays s n j m kept (apart_part n (ifs_of s + ifs_in ss) n (ifs_of s) m (omega arith) (omega arith) o))
        (parts_stay ss (n + ifs_of s) (j - length_of part s) m kept (apart_part n (ifs_of s + ifs_in ss) (n + ifs_of s) (ifs_in ss) m (omega arith) (omega arith) o))

    pub arms_stay : (ss : PlainStatements) (n j m : ℕ) (kept : Samples) → Apart n (ifs_in ss) m → arms_after part now ss n j kept m ≡ kept m
    arms_stay no_statements n j m kept o = refl
    arms_stay (a_statement s ss) n j m kept o =
        arms_stay ss (n + ifs_of s) j m (while_after part now s n j kept) (apart_part n (ifs_of s + ifs_in ss) (n + ifs_of s) (ifs_in ss) m (omega arith) (omega arith) o)
        ∙ while_stays s n j m kept (statement_stays s n j m kept (apart_part n (ifs_of s + ifs_in ss) n (ifs_of s) m (omega arith) (omega arith) o))

-- at offset 0 nothing has begun earlier
abbrev Earlier : ℕ → Type 0
Earlier j = 0 < j

module _ (part : PlainComponent) (h : History) (t : ℕ) (kept : Samples) where
  mutual
    fresh_form : (form : PlainForm) (n : ℕ) → FormKept Earlier part h t kept form n 0
    fresh_form Empty n = tt
    fresh_form (Enable g) n = tt
    fresh_form (Seq parts) n = tt
    fresh_form (Par arms) n = tt
    fresh_form (If test comb a b) n = tt
    fresh_form (While test comb a) n = tt
    fresh_form (Repeat count a) n = tt
    fresh_form (StaticSeq length parts) n = fresh_parts parts n
    fresh_form (StaticPar length arms) n = fresh_arms arms n
    fresh_form (StaticIf length test a b) n = ((λ p. absurd (none p)), (λ e l. fresh a (suc n)), (λ e l. fresh b (suc n + ifs_of a)))
      where
        none : 0 < 0 → ⊥
        none p = omega arith
    fresh_form (StaticRepeat length count a) n = subst (StatementKept Earlier part h t kept a n) (sym (zero-mod (length_of part a))) (fresh a n)
    fresh_form (Timed k) n = tt

    fresh : (s : PlainStatement) (n : ℕ) → StatementKept Earlier part h t kept s n 0
    fresh (Placed form place) n = fresh_form form n

    fresh_parts : (ss : PlainStatements) (n : ℕ) → PartsKept Earlier part h t kept ss n 0
    fresh_parts no_statements n = tt
    fresh_parts (a_statement s ss) n = ((λ l. fresh s n), (λ l. subst (PartsKept Earlier part h t kept ss (n + ifs_of s)) (nothing_left (length_of part s)) (fresh_parts ss (n + ifs_of s))))
      where
        nothing_left : (p : ℕ) → 0 ≡ 0 - p
        nothing_left p = omega arith

    fresh_arms : (ss : PlainStatements) (n : ℕ) → ArmsKept Earlier part h t kept ss n 0
    fresh_arms no_statements n = tt
    fresh_arms (a_statement s ss) n = ((λ l. fresh s n), fresh_arms ss (n + ifs_of s))

-- one cycle later
module _ (part : PlainComponent) (h later : History) (t : ℕ) (kept : Samples) (same : (port : PortRef) (u : ℕ) → u ≤ t → later port u ≡ h port u) where
  same_begun : (port : PortRef) (j : ℕ) → later port (suc t - suc j) ≡ h port (t - j)
  same_begun port j = let e : suc t - suc j ≡ t - j = omega arith in ap (later port) e ∙ same port (t - j) (omega arith)

  -- of a body of p cycles, at the next offset
  next_round : (s : PlainStatement) (n p u : ℕ) → (0 < p → u < p) → StatementKept Earlier part later (suc t) kept s n (suc u) → StatementKept Earlier part later (suc t) kept s n (suc u % p)
  next_round s n zero u l k = subst (StatementKept Earlier part later (suc t) kept s n) (sym (mod-zero (suc u))) k
  next_round s n (suc q) u l k =
      ⊎_elim
      (λ less. subst (StatementKept Earlier part later (suc t) kept s n) (sym (mod-eq_of_lt less)) k)
      (λ more. let b = l (omega arith) in let e : suc u ≡ suc q = omega arith in
      subst (StatementKept Earlier part later (suc t) kept s n) (sym (ap (λ x. x % suc q) e ∙ mod_self (suc q))) (fresh part later (suc t) kept s n))
      (cases_lt (suc u) (suc q))

  mutual
    next_form : (form : PlainForm) (n j : ℕ) → FormKept Every part h t kept form n j → FormKept Earlier part later (suc t) kept form n (suc j)
    next_form Empty n j k = tt
    next_form (Enable g) n j k = tt
    next_form (Seq parts) n j k = tt
    next_form (Par arms) n j k = tt
    next_form (If test comb a b) n j k = tt
    next_form (While test comb a) n j k = tt
    next_form (Repeat count a) n j k = tt
    next_form (StaticSeq length parts) n j k = next_parts parts n j k
    next_form (StaticPar length arms) n j k = next_arms arms n j k
    next_form (StaticIf length test a b) n j k = (
      (λ p. k.0 tt ∙ sym (same_begun test.port j)),
      (λ e l. next a (suc n) j (k.1 (sym (same_begun test.port j) ∙ e) (omega arith))),
      (λ e l. next b (suc n + ifs_of a) j (k.2 (sym (same_begun test.port j) ∙ e) (omega arith))),
    )
    next_form (StaticRepeat length count a) n j k =
        subst (StatementKept Earlier part later (suc t) kept a n) (sym (suc-mod j (length_of part a)))
        (next_round a n (length_of part a) (j % length_of part a) (λ some. mod_below j (length_of part a) some) (next a n (j % length_of part a) k))
    next_form (Timed m) n j k = tt

    next : (s : PlainStatement) (n j : ℕ) → StatementKept Every part h t kept s n j → StatementKept Earlier part later (suc t) kept s n (suc j)
    next (Placed form place) n j k = next_form form n j k

    next_parts : (ss : PlainStatements) (n j : ℕ) → PartsKept Every part h t kept ss n j → PartsKept Earlier part later (suc t) kept ss n (suc j)
    next_parts no_statements n j k = tt
    next_parts (a_statement s ss) n j k = (
      (λ l. next s n j (k.0 (omega arith))),
      (λ l. ⊎_elim
          (λ less. subst (PartsKept Earlier part later (suc t) kept ss (n + ifs_of s)) (begins j (length_of part s) less l) (fresh_parts part later (suc t) kept ss (n + ifs_of s)))
          (λ more. subst (PartsKept Earlier part later (suc t) kept ss (n + ifs_of s)) (goes_on j (length_of part s) more) (next_parts ss (n + ifs_of s) (j - length_of part s) (k.1 more)))
          (cases_lt j (length_of part s))),
    )
      where
        begins : (j p : ℕ) → j < p → p ≤ suc j → 0 ≡ suc j - p
        begins j p l m = omega arith

        goes_on : (j p : ℕ) → p ≤ j → suc (j - p) ≡ suc j - p
        goes_on j p l = omega arith

    next_arms : (ss : PlainStatements) (n j : ℕ) → ArmsKept Every part h t kept ss n j → ArmsKept Earlier part later (suc t) kept ss n (suc j)
    next_arms no_statements n j k = tt
    next_arms (a_statement s ss) n j k = ((λ l. next s n j (k.0 (omega arith))), next_arms ss (n + ifs_of s) j k.1)

-- and with what is taken now
module _ (part : PlainComponent) (h : History) (t : ℕ) (now : PortRef → Bool) (taken : (port : PortRef) → now port ≡ h port t) where
  begin_is : (port : PortRef) (n j : ℕ) (kept : Samples) → (0 < j → kept n ≡ h port (t - j)) → begin n j (now port) kept n ≡ h port (t - j)
  begin_is port n zero kept k = let e : t ≡ t - 0 = omega arith in begin_own n (now port) kept ∙ taken port ∙ ap (h port) e
  begin_is port n (suc j) kept k = k (omega arith)

  while_long : (s : PlainStatement) (n j : ℕ) (kept : Samples) → j < length_of part s → while_after part now s n j kept ≡ statement_after part now s n j kept
  while_long (Placed form place) n j kept l = ap (λ b. if b then form_after part now form n j kept else kept) (lt-ltb j (length_of part (Placed form place)) l)

  module _ (a b : PlainStatement) (port : PortRef) (n j : ℕ) (kept : Samples) where
    abbrev begun : Samples
    begun = begin n j (now port) kept

    abbrev branched : Samples
    branched = if begun n then while_after part now a (suc n) j begun else while_after part now b (suc n + ifs_of a) j begun

    own_stays : branched n ≡ begun n
    own_stays =
        at_samples (begun n) (while_after part now a (suc n) j begun) (while_after part now b (suc n + ifs_of a) j begun) n
        ∙ if_both (begun n) _ _ (begun n)
        (while_stays part now a (suc n) j n begun (statement_stays part now a (suc n) j n begun (inl (omega arith))))
        (while_stays part now b (suc n + ifs_of a) j n begun (statement_stays part now b (suc n + ifs_of a) j n begun (inl (omega arith))))

    taken_first : begun n ≡ true → j < length_of part a → branched ≡ statement_after part now a (suc n) j begun
    taken_first e l = ap (λ c. if c then while_after part now a (suc n) j begun else while_after part now b (suc n + ifs_of a) j begun) e ∙ while_long a (suc n) j begun l

    taken_second : begun n ≡ false → j < length_of part b → branched ≡ statement_after part now b (suc n + ifs_of a) j begun
    taken_second e l = ap (λ c. if c then while_after part now a (suc n) j begun else while_after part now b (suc n + ifs_of a) j begun) e ∙ while_long b (suc n + ifs_of a) j begun l

    begun_agrees : (s : PlainStatement) (k : ℕ) → n < k → StatementKept Earlier part h t kept s k j → StatementKept Earlier part h t begun s k j
    begun_agrees s k l kept_so = statement_kept Earlier part h t kept begun s k j (λ m f g. sym (begin_other n j m (now port) kept (differs m f))) kept_so
      where
        differs : (m : ℕ) → k ≤ m → m ≡ n → ⊥
        differs m f e = omega arith

  mutual
    take_form : (form : PlainForm) (n j : ℕ) (kept : Samples) → FormKept Earlier part h t kept form n j → FormKept Every part h t (form_after part now form n j kept) form n j
    take_form Empty n j kept k = tt
    take_form (Enable g) n j kept k = tt
    take_form (Seq parts) n j kept k = tt
    take_form (Par arms) n j kept k = tt
    take_form (If test comb a b) n j kept k = tt
    take_form (While test comb a) n j kept k = tt
    take_form (Repeat count a) n j kept k = tt
    take_form (StaticSeq length parts) n j kept k = take_parts parts n j kept k
    take_form (StaticPar length arms) n j kept k = take_arms arms n j kept k
    take_form (StaticIf length test a b) n j kept k =
        let is : begin n j (now test.port) kept n ≡ h test.port (t - j) = begin_is test.port n j kept k.0 in (
          (λ p. own_stays a b test.port n j kept ∙ is),
          (λ e l. subst (λ x. StatementKept Every part h t x a (suc n) j) (sym (taken_first a b test.port n j kept (is ∙ e) l))
              (take a (suc n) j (begin n j (now test.port) kept) (begun_agrees a b test.port n j kept a (suc n) (omega arith) (k.1 e l)))),
          (λ e l. subst (λ x. StatementKept Every part h t x b (suc n + ifs_of a) j) (sym (taken_second a b test.port n j kept (is ∙ e) l))
              (take b (suc n + ifs_of a) j (begin n j (now test.port) kept) (begun_agrees a b test.port n j kept b (suc n + ifs_of a) (omega arith) (k.2 e l)))),
        )
    take_form (StaticRepeat length count a) n j kept k = take a n (j % length_of part a) kept k
    take_form (Timed m) n j kept k = tt

    take : (s : PlainStatement) (n j : ℕ) (kept : Samples) → StatementKept Earlier part h t kept s n j → StatementKept Every part h t (statement_after part now s n j kept) s n j
    take (Placed form place) n j kept k = take_form form n j kept k

    take_parts : (ss : PlainStatements) (n j : ℕ) (kept : Samples) → PartsKept Earlier part h t kept ss n j → PartsKept Every part h t (parts_after part now ss n j kept) ss n j
    take_parts no_statements n j kept k = tt
    take_parts (a_statement s ss) n j kept k = (
      (λ l. subst (λ x. StatementKept Every part h t x s n j) (sym (ap (λ b. if b then statement_after part now s n j kept else parts_after part now ss (n + ifs_of s) (j - length_of part s) kept) (lt-ltb j (length_of part s) l))) (take s n j kept (k.0 l))),
      (λ l. subst (λ x. PartsKept Every part h t x ss (n + ifs_of s) (j - length_of part s)) (sym (ap (λ b. if b then statement_after part now s n j kept else parts_after part now ss (n + ifs_of s) (j - length_of part s) kept) (le-ltb j (length_of part s) l))) (take_parts ss (n + ifs_of s) (j - length_of part s) kept (k.1 l))),
    )

    take_arms : (ss : PlainStatements) (n j : ℕ) (kept : Samples) → ArmsKept Earlier part h t kept ss n j → ArmsKept Every part h t (arms_after part now ss n j kept) ss n j
    take_arms no_statements n j kept k = tt
    take_arms (a_statement s ss) n j kept k = (
      (λ l. statement_kept Every part h t (statement_after part now s n j kept) (arms_after part now ss (n + ifs_of s) j (while_after part now s n j kept)) s n j
          (λ m f g. ap (λ x. x m) (sym (while_long s n j kept l)) ∙ sym (arms_stay part now ss (n + ifs_of s) j m (while_after part now s n j kept) (inl g)))
          (take s n j kept (k.0 l))),
      take_arms ss (n + ifs_of s) j (while_after part now s n j kept)
          (arms_kept Earlier part h t kept (while_after part now s n j kept) ss (n + ifs_of s) j
          (λ m f g. sym (while_stays part now s n j m kept (statement_stays part now s n j m kept (inr f)))) k.1),
    )

before_is : (h : History) (t : ℕ) (look : Look) (port : PortRef) (u : ℕ) → u ≤ t → and_now h (suc t) look port u ≡ h port u
before_is h t look port u l = ap (λ b. if b then says look port else h port u) (ne_eqb (suc t) u (later u l))
  where
    later : (u : ℕ) → u ≤ t → suc t ≡ u → ⊥
    later u l e = omega arith

pub first_kept : (part : PlainComponent) (form : PlainForm) (h : History) (look : Look) (kept : Samples) → AreKept part (and_now h 0 look) 0 form (samples_after part (says look) 0 form kept)
first_kept part form h look kept = take_form part (and_now h 0 look) 0 (says look) (now_is h 0 look) form 0 0 kept (fresh_form part (and_now h 0 look) 0 kept form 0)

pub next_kept : (part : PlainComponent) (form : PlainForm) (h : History) (t : ℕ) (look : Look) (kept : Samples) → AreKept part h t form kept
    → AreKept part (and_now h (suc t) look) (suc t) form (samples_after part (says look) (suc t) form kept)
next_kept part form h t look kept k =
    take_form part (and_now h (suc t) look) (suc t) (says look) (now_is h (suc t) look) form 0 (suc t) kept
    (next_form part h (and_now h (suc t) look) t kept (before_is h t look) form 0 t k)

pub by_samples : {A : Type 0} (part : PlainComponent) (form : PlainForm) (h : History) (t : ℕ) (kept : Samples) (of_group : ℕ → ℕ → List A) (of_port : PortRef → ℕ → List A) → AreKept part h t form kept
    → form_by part kept of_group of_port form 0 t ≡ form_at part h t of_group of_port form t
by_samples part form h t kept of_group of_port k = by_form part h t kept of_group of_port form 0 t k
