-- The ports that are asked are those of the static ifs that begin, by the samples that are taken.
use Rattle.std.proofs.Common.{◌≡◌, ℕ, suc, ◌+◌, ◌-◌, ◌%◌, ◌<◌, ◌≤◌, Bool, true, false, nat_lt, List, [], ◌++◌, refl, sym, ap, ◌∙◌, arith}
use Rattle.std.specs.Prelude.{if◌then◌else◌}
use Rattle.cx_meaning.specs.declared.ports.PortRef.{PortRef}
use Rattle.cx_meaning.specs.Designs.{PlainComponent, PlainForm, Empty, Enable, Seq, Par, If, While, Repeat, StaticSeq, StaticPar, StaticIf, StaticRepeat, Timed, PlainStatement, Placed, PlainStatements, no_statements, a_statement}
use Rattle.cx_meaning.specs.Islands.{length_of}
use Rattle.cx_laws.specs.Positions.{no_port, port_at}
use Rattle.cx_laws.specs.Samples.{Samples, form_ifs, ifs_of, ifs_in, begin, form_after, statement_after, while_after, parts_after, arms_after, form_by, statement_by, while_by, parts_by, arms_by, begun_by, samples_after}
use Rattle.cx_interp_islands.specs.Asked.{form_asked, statement_asked, while_asked, parts_asked, arms_asked}
use Rattle.cx_laws.proofs.SamplesLemmas.{begin_other}
use Rattle.cx_text.proofs.NumberLaws.{same_choice}
use Rattle.cx_laws.proofs.PositionLemmas.{both_same}

same_branch : {A : Type 0} (b c : Bool) (x y u v : A) → b ≡ c → (c ≡ true → x ≡ u) → (c ≡ false → y ≡ v) → (if b then x else y) ≡ (if c then u else v)
same_branch b true x y u v e f g = ap (λ d. if d then x else y) e ∙ f refl
same_branch b false x y u v e f g = ap (λ d. if d then x else y) e ∙ g refl

-- what runs does not go by the samples of other statements
module _ {A : Type 0} (part : PlainComponent) (kept other : Samples) (of_group : ℕ → ℕ → List A) (of_port : PortRef → ℕ → List A) where
  abbrev Agree : ℕ → ℕ → Type 0
  Agree n count = (m : ℕ) → n ≤ m → m < n + count → kept m ≡ other m

  mutual
    form_alike : (form : PlainForm) (n j : ℕ) → Agree n (form_ifs form) → form_by part kept of_group of_port form n j ≡ form_by part other of_group of_port form n j
    form_alike Empty n j same = refl
    form_alike (Enable g) n j same = refl
    form_alike (Seq parts) n j same = refl
    form_alike (Par arms) n j same = refl
    form_alike (If test comb a b) n j same = refl
    form_alike (While test comb a) n j same = refl
    form_alike (Repeat count a) n j same = refl
    form_alike (StaticSeq length parts) n j same = parts_alike parts n j same
    form_alike (StaticPar length arms) n j same = arms_alike arms n j same
    form_alike (StaticIf length test a b) n j same =
        ap (λ rest. of_port test.port j ++ rest)
        (same_branch (kept n) (other n) _ _ _ _ (same n (omega arith) (omega arith))
        (λ e. while_alike a (suc n) j (λ m f g. same m (omega arith) (omega arith)))
        (λ e. while_alike b (suc n + ifs_of a) j (λ m f g. same m (omega arith) (omega arith))))
    form_alike (StaticRepeat length count a) n j same = statement_alike a n (j % length_of part a) same
    form_alike (Timed k) n j same = refl

    statement_alike : (s : PlainStatement) (n j : ℕ) → Agree n (ifs_of s) → statement_by part kept of_group of_port s n j ≡ statement_by part other of_group of_port s n j
    statement_alike (Placed form place) n j same = form_alike form n j same

    pub while_alike : (s : PlainStatement) (n j : ℕ) → Agree n (ifs_of s) → while_by part kept of_group of_port s n j ≡ while_by part other of_group of_port s n j
    while_alike (Placed form place) n j same = same_choice j (length_of part (Placed form place)) _ [] _ [] (λ l. form_alike form n j same) (λ l. refl)

    parts_alike : (ss : PlainStatements) (n j : ℕ) → Agree n (ifs_in ss) → parts_by part kept of_group of_port ss n j ≡ parts_by part other of_group of_port ss n j
    parts_alike no_statements n j same = refl
    parts_alike (a_statement s ss) n j same =
        same_choice j (length_of part s) _ _ _ _
        (λ l. statement_alike s n j (λ m f g. same m f (omega arith)))
        (λ l. parts_alike ss (n + ifs_of s) (j - length_of part s) (λ m f g. same m (omega arith) (omega arith)))

    arms_alike : (ss : PlainStatements) (n j : ℕ) → Agree n (ifs_in ss) → arms_by part kept of_group of_port ss n j ≡ arms_by part other of_group of_port ss n j
    arms_alike no_statements n j same = refl
    arms_alike (a_statement s ss) n j same =
        both_same (while_alike s n j (λ m f g. same m f (omega arith))) (arms_alike ss (n + ifs_of s) j (λ m f g. same m (omega arith) (omega arith)))

-- what is taken before a number stays
module _ (part : PlainComponent) (now : PortRef → Bool) (m : ℕ) where
  at_samples : (b : Bool) (x y : Samples) (v : Bool) → x m ≡ v → y m ≡ v → (if b then x else y) m ≡ v
  at_samples true x y v e f = e
  at_samples false x y v e f = f

  mutual
    form_stays : (form : PlainForm) (n j : ℕ) (kept : Samples) → m < n → form_after part now form n j kept m ≡ kept m
    form_stays Empty n j kept l = refl
    form_stays (Enable g) n j kept l = refl
    form_stays (Seq parts) n j kept l = refl
    form_stays (Par arms) n j kept l = refl
    form_stays (If test comb a b) n j kept l = refl
    form_stays (While test comb a) n j kept l = refl
    form_stays (Repeat count a) n j kept l = refl
    form_stays (StaticSeq length parts) n j kept l = parts_stay parts n j kept l
    form_stays (StaticPar length arms) n j kept l = arms_stay arms n j kept l
    form_stays (StaticIf length test a b) n j kept l =
        at_samples (begin n j (now test.port) kept n) (while_after part now a (suc n) j (begin n j (now test.port) kept)) (while_after part now b (suc n + ifs_of a) j (begin n j (now test.port) kept)) (begin n j (now test.port) kept m)
        (while_stays a (suc n) j (begin n j (now test.port) kept) (omega arith))
        (while_stays b (suc n + ifs_of a) j (begin n j (now test.port) kept) (omega arith))
        ∙ begin_other n j m (now test.port) kept differ
      where
        differ : m ≡ n → ⊥
        differ e = omega arith
    form_stays (StaticRepeat length count a) n j kept l = statement_stays a n (j % length_of part a) kept l
    form_stays (Timed k) n j kept l = refl

    statement_stays : (s : PlainStatement) (n j : ℕ) (kept : Samples) → m < n → statement_after part now s n j kept m ≡ kept m
    statement_stays (Placed form place) n j kept l = form_stays form n j kept l

    pub while_stays : (s : PlainStatement) (n j : ℕ) (kept : Samples) → m < n → while_after part now s n j kept m ≡ kept m
    while_stays (Placed form place) n j kept l =
        at_samples (nat_lt j (length_of part (Placed form place))) (form_after part now form n j kept) kept (kept m) (form_stays form n j kept l) refl

    parts_stay : (ss : PlainStatements) (n j : ℕ) (kept : Samples) → m < n → parts_after part now ss n j kept m ≡ kept m
    parts_stay no_statements n j kept l = refl
    parts_stay (a_statement s ss) n j kept l =
        at_samples (nat_lt j (length_of part s)) (statement_after part now s n j kept) (parts_after part now ss (n + ifs_of s) (j - length_of part s) kept) (kept m)
        (statement_stays s n j kept l) (parts_stay ss (n + ifs_of s) (j - length_of part s) kept (omega arith))

    pub arms_stay : (ss : PlainStatements) (n j : ℕ) (kept : Samples) → m < n → arms_after part now ss n j kept m ≡ kept m
    arms_stay no_statements n j kept l = refl
    arms_stay (a_statement s ss) n j kept l =
        arms_stay ss (n + ifs_of s) j (while_after part now s n j kept) (omega arith) ∙ while_stays s n j kept l

-- so the ports that are asked are those that begin
module _ (part : PlainComponent) (now : PortRef → Bool) where
  abbrev begun_while : Samples → PlainStatement → ℕ → ℕ → List PortRef
  begun_while kept = while_by part kept no_port port_at

  own_stays : (a b : PlainStatement) (n j : ℕ) (begun : Samples) → (if begun n then while_after part now a (suc n) j begun else while_after part now b (suc n + ifs_of a) j begun) n ≡ begun n
  own_stays a b n j begun =
      at_samples part now n (begun n) (while_after part now a (suc n) j begun) (while_after part now b (suc n + ifs_of a) j begun) (begun n)
      (while_stays part now n a (suc n) j begun (omega arith)) (while_stays part now n b (suc n + ifs_of a) j begun (omega arith))

  -- a choice by what chose
  chosen : (v w : Bool) (a b : PlainStatement) (n m j : ℕ) (x y : Samples) (us vs : List PortRef)
      → w ≡ v → us ≡ begun_while x a n j → vs ≡ begun_while y b m j
      → (if v then us else vs) ≡ (if w then begun_while (if v then x else y) a n j else begun_while (if v then x else y) b m j)
  chosen true w a b n m j x y us vs e f g = f ∙ sym (ap (λ c. if c then begun_while x a n j else begun_while x b m j) e)
  chosen false w a b n m j x y us vs e f g = g ∙ sym (ap (λ c. if c then begun_while y a n j else begun_while y b m j) e)

  mutual
    form_begun : (form : PlainForm) (n j : ℕ) (kept : Samples) → form_asked part now form n j kept ≡ form_by part (form_after part now form n j kept) no_port port_at form n j
    form_begun Empty n j kept = refl
    form_begun (Enable g) n j kept = refl
    form_begun (Seq parts) n j kept = refl
    form_begun (Par arms) n j kept = refl
    form_begun (If test comb a b) n j kept = refl
    form_begun (While test comb a) n j kept = refl
    form_begun (Repeat count a) n j kept = refl
    form_begun (StaticSeq length parts) n j kept = parts_begun parts n j kept
    form_begun (StaticPar length arms) n j kept = arms_begun arms n j kept
    form_begun (StaticIf length test a b) n j kept =
        ap (λ rest. port_at test.port j ++ rest)
        (chosen (begin n j (now test.port) kept n) _ a b (suc n) (suc n + ifs_of a) j
        (while_after part now a (suc n) j (begin n j (now test.port) kept)) (while_after part now b (suc n + ifs_of a) j (begin n j (now test.port) kept)) _ _
        (own_stays a b n j (begin n j (now test.port) kept))
        (while_begun a (suc n) j (begin n j (now test.port) kept)) (while_begun b (suc n + ifs_of a) j (begin n j (now test.port) kept)))
    form_begun (StaticRepeat length count a) n j kept = statement_begun a n (j % length_of part a) kept
    form_begun (Timed k) n j kept = refl

    statement_begun : (s : PlainStatement) (n j : ℕ) (kept : Samples) → statement_asked part now s n j kept ≡ statement_by part (statement_after part now s n j kept) no_port port_at s n j
    statement_begun (Placed form place) n j kept = form_begun form n j kept

    while_begun : (s : PlainStatement) (n j : ℕ) (kept : Samples) → while_asked part now s n j kept ≡ while_by part (while_after part now s n j kept) no_port port_at s n j
    while_begun (Placed form place) n j kept = chosen_while (nat_lt j (length_of part (Placed form place))) (form_begun form n j kept)
      where
        chosen_while : (v : Bool) → form_asked part now form n j kept ≡ form_by part (form_after part now form n j kept) no_port port_at form n j
            → (if v then form_asked part now form n j kept else []) ≡ (if v then form_by part (if v then form_after part now form n j kept else kept) no_port port_at form n j else [])
        chosen_while true e = e
        chosen_while false e = refl

    parts_begun : (ss : PlainStatements) (n j : ℕ) (kept : Samples) → parts_asked part now ss n j kept ≡ parts_by part (parts_after part now ss n j kept) no_port port_at ss n j
    parts_begun no_statements n j kept = refl
    parts_begun (a_statement s ss) n j kept = chosen_part (nat_lt j (length_of part s)) (statement_begun s n j kept) (parts_begun ss (n + ifs_of s) (j - length_of part s) kept)
      where
        chosen_part : (v : Bool)
            → statement_asked part now s n j kept ≡ statement_by part (statement_after part now s n j kept) no_port port_at s n j
            → parts_asked part now ss (n + ifs_of s) (j - length_of part s) kept ≡ parts_by part (parts_after part now ss (n + ifs_of s) (j - length_of part s) kept) no_port port_at ss (n + ifs_of s) (j - length_of part s)
            → (if v then statement_asked part now s n j kept else parts_asked part now ss (n + ifs_of s) (j - length_of part s) kept)
            ≡ (if v then statement_by part (if v then statement_after part now s n j kept else parts_after part now ss (n + ifs_of s) (j - length_of part s) kept) no_port port_at s n j
            else parts_by part (if v then statement_after part now s n j kept else parts_after part now ss (n + ifs_of s) (j - length_of part s) kept) no_port port_at ss (n + ifs_of s) (j - length_of part s))
        chosen_part true e f = e
        chosen_part false e f = f

    arms_begun : (ss : PlainStatements) (n j : ℕ) (kept : Samples) → arms_asked part now ss n j kept ≡ arms_by part (arms_after part now ss n j kept) no_port port_at ss n j
    arms_begun no_statements n j kept = refl
    arms_begun (a_statement s ss) n j kept =
        both_same
        (while_begun s n j kept
        ∙ while_alike part (while_after part now s n j kept) (arms_after part now ss (n + ifs_of s) j (while_after part now s n j kept)) no_port port_at s n j
        (λ m f g. sym (arms_stay part now m ss (n + ifs_of s) j (while_after part now s n j kept) g)))
        (arms_begun ss (n + ifs_of s) j (while_after part now s n j kept))

  pub asked_is : (form : PlainForm) (t : ℕ) (kept : Samples) → form_asked part now form 0 t kept ≡ begun_by part (samples_after part now t form kept) t form
  asked_is form t kept = form_begun form 0 t kept
