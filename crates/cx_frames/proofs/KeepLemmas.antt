-- What runs over any leaves keep of a state where idle turns and the leaves of their groups keep it.
use Rattle.std.proofs.Common.{◌≡◌, ℕ, zero, suc, inl, ◌++◌, refl}
use Rattle.cx_text.proofs.MemberLaws.{in_left, in_right}
use Rattle.cx_meaning.specs.Designs.{PlainForm, Empty, Enable, Seq, Par, If, While, Repeat, StaticSeq, StaticPar, StaticIf, StaticRepeat, Timed, PlainStatement, Placed, PlainStatements, no_statements, a_statement}
use Rattle.cx_meaning.specs.Instances.{Set}
use Rattle.cx_text.specs.Members.{In}
use Rattle.cx_meaning.specs.Answers.{Answer, Meaning, then_do, stay, idle_turn, Turn, Ends, Goes, Faults, turn_then, one_turn, turns_of, Test, Holds, Fails, Unclear, chosen, test_turn, loop, loop_of, rounds, both}
use Rattle.cx_meaning.specs.Control as control
use Rattle.cx_meaning.specs.Control.{groups_in, groups_of, groups_in_all, run_form, run, run_parts, run_arms}
use Rattle.cx_meaning.specs.Budgets.{Leaves}
use Rattle.cx_meaning.proofs.AnswersLemmas.{leaves_later, leaves_then, leaves_rounds, leaves_both}
use Rattle.cx_meaning.proofs.SightsLaws.{behind_comb}

-- where a run begins in a state of which P holds and ends, P holds of the state that it leaves
abbrev pub Keeps : {S F : Type 0} → (S → Type 0) → Meaning S F → Type 0
Keeps {S} P meaning = (s : S) (n : ℕ) → P s → Leaves P (meaning s n)

-- an idle turn that keeps it
pub keeps_idle : {S : Type 0} (F : Type 0) (P : S → Type 0) (rest : S → S) → ((s : S) → P s → P (rest s)) → Keeps {S = S} {F = F} P (idle_turn rest)
keeps_idle F P rest rests s zero p = tt
keeps_idle F P rest rests s (suc n) p = rests s p

module _ {S F : Type 0} (P : S → Type 0) where
  pub keeps_then : (first go : Meaning S F) → Keeps P first → Keeps P go → Keeps P (λ s n. then_do (first s n) n go)
  keeps_then first go f g s n p = leaves_then P (first s n) n go (f s n p) (λ after k q. g after k q)

  pub keeps_rounds : (k : ℕ) (body : Meaning S F) → Keeps P body → Keeps P (rounds k body)
  keeps_rounds k body h s n p = leaves_rounds P body k s n p h

  -- where idle turns keep it
  module _ (rest : S → S) (rests : (s : S) → P s → P (rest s)) where
    pub leaves_turn_then : (s : S) (turn : Turn S F) (go : S → Answer S F) → P s → ((after : S) → turn ≡ Goes after → Leaves P (go after)) → Leaves P (turn_then rest s turn go)
    leaves_turn_then s Ends go p h = rests s p
    leaves_turn_then s (Goes after) go p h = leaves_later P 1 (go after) (h after refl)
    leaves_turn_then s (Faults fault) go p h = tt

    pub keeps_turn : (turn : S → Turn S F) (go : Meaning S F) → ((s after : S) → P s → turn s ≡ Goes after → P after) → Keeps P go → Keeps P (one_turn rest turn go)
    keeps_turn turn go h k s zero p = tt
    keeps_turn turn go h k s (suc n) p = leaves_turn_then s (turn s) (λ after. go after n) p (λ after e. k after n (h s after p e))

    pub keeps_turns : (turn : S → Turn S F) → ((s after : S) → P s → turn s ≡ Goes after → P after) → Keeps P (turns_of rest turn)
    keeps_turns turn h s zero p = tt
    keeps_turns turn h s (suc n) p = leaves_turn_then s (turn s) (λ after. turns_of rest turn after n) p (λ after e. keeps_turns turn h after n (h s after p e))

    leaves_chosen : (test : Test F) (first second : Answer S F) → Leaves P first → Leaves P second → Leaves P (chosen test first second)
    leaves_chosen Holds first second f g = leaves_later P 1 first f
    leaves_chosen Fails first second f g = leaves_later P 1 second g
    leaves_chosen (Unclear fault) first second f g = tt

    pub keeps_test : (test : S → Test F) (first second : Meaning S F) → Keeps P first → Keeps P second → Keeps P (test_turn rest test first second)
    keeps_test test first second f g s zero p = tt
    keeps_test test first second f g s (suc n) p = leaves_chosen (test s) (first (rest s) n) (second (rest s) n) (f (rest s) n (rests s p)) (g (rest s) n (rests s p))

    keeps_loop : (test : S → Test F) (body : Meaning S F) (tests : ℕ) → Keeps P body → Keeps P (loop tests rest test body)
    keeps_loop test body zero h s n p = tt
    keeps_loop test body (suc tests) h s n p =
        keeps_test test (λ s1 m. then_do (body s1 m) m (loop tests rest test body)) stay
        (λ s1 m q. keeps_then body (loop tests rest test body) h (λ s2 j r. keeps_loop test body tests h s2 j r) s1 m q)
        (λ s1 m q. q)
        s n p

    pub keeps_loop_of : (test : S → Test F) (body : Meaning S F) → Keeps P body → Keeps P (loop_of rest test body)
    keeps_loop_of test body h s n p = keeps_loop test body (suc n) h s n p

  pub keeps_both : (merged : S → S → S) → ((a b : S) → P a → P b → P (merged a b)) → (first second : Meaning S F) → Keeps P first → Keeps P second → Keeps P (λ s n. both merged (first s n) (second s n))
  keeps_both merged h first second f g s n p = leaves_both P merged h (first s n) (second s n) (f s n p) (g s n p)

module _ {S F : Type 0} (L : control.Leaves S F) (P : S → Type 0) (allowed : ℕ → Type 0) where
  -- the leaves keep it where all their groups are allowed
  pub record LeavesKeep : Type 0 where
    pub rests : (s : S) → P s → P (L.rest s)
    pub merges : (set : Set) (a b : S) → P a → P b → P (L.merged set a b)
    pub enable : (g : ℕ) → allowed g → Keeps P (L.enable g)
    pub island : (form : PlainForm) → ((g : ℕ) → In (groups_in form) g → allowed g) → Keeps P (L.island form)
    pub timed : (k : ℕ) → Keeps P (L.timed k)

  module _ (keep : LeavesKeep) where
    mutual
      keeps_form : (form : PlainForm) → ((g : ℕ) → In (groups_in form) g → allowed g) → Keeps P (run_form L form)
      keeps_form Empty all s n p = keeps_idle F P L.rest keep.rests s n p
      keeps_form (Enable g) all s n p = keep.enable g (all g (inl refl)) s n p
      keeps_form (Seq no_statements) all s n p = keeps_idle F P L.rest keep.rests s n p
      keeps_form (Seq (a_statement first later)) all s n p =
          keeps_then P (run L first) (run_parts L later)
          (keeps_run first (λ g i. all g (in_left (groups_of first) (groups_in_all later) g i)))
          (keeps_parts later (λ g i. all g (in_right (groups_of first) (groups_in_all later) g i))) s n p
      keeps_form (Par no_statements) all s n p = keeps_idle F P L.rest keep.rests s n p
      keeps_form (Par (a_statement first later)) all s n p =
          keeps_both P (L.merged (L.driven first)) (keep.merges (L.driven first)) (run L first) (run_arms L later)
          (keeps_run first (λ g i. all g (in_left (groups_of first) (groups_in_all later) g i)))
          (keeps_arms later (λ g i. all g (in_right (groups_of first) (groups_in_all later) g i))) s n p
      keeps_form (If test comb a b) all s n p =
          keeps_test P L.rest keep.rests (L.test test.port comb) (run L a) (run L b)
          (keeps_run a (λ g i. all g (behind_comb comb (groups_of a ++ groups_of b) g (in_left (groups_of a) (groups_of b) g i))))
          (keeps_run b (λ g i. all g (behind_comb comb (groups_of a ++ groups_of b) g (in_right (groups_of a) (groups_of b) g i)))) s n p
      keeps_form (While test comb a) all s n p =
          keeps_loop_of P L.rest keep.rests (L.test test.port comb) (run L a) (keeps_run a (λ g i. all g (behind_comb comb (groups_of a) g i))) s n p
      keeps_form (Repeat zero a) all s n p = keeps_idle F P L.rest keep.rests s n p
      keeps_form (Repeat (suc k) a) all s n p = keeps_rounds P (suc k) (run L a) (keeps_run a all) s n p
      keeps_form (StaticSeq length parts) all s n p = keep.island (StaticSeq length parts) all s n p
      keeps_form (StaticPar length arms) all s n p = keep.island (StaticPar length arms) all s n p
      keeps_form (StaticIf length test a b) all s n p = keep.island (StaticIf length test a b) all s n p
      keeps_form (StaticRepeat length count a) all s n p = keep.island (StaticRepeat length count a) all s n p
      keeps_form (Timed k) all s n p = keep.timed k s n p

      pub keeps_run : (statement : PlainStatement) → ((g : ℕ) → In (groups_of statement) g → allowed g) → Keeps P (run L statement)
      keeps_run (Placed form place) all s n p = keeps_form form all s n p

      keeps_parts : (parts : PlainStatements) → ((g : ℕ) → In (groups_in_all parts) g → allowed g) → Keeps P (run_parts L parts)
      keeps_parts no_statements all s n p = p
      keeps_parts (a_statement first later) all s n p =
          keeps_then P (run L first) (run_parts L later)
          (keeps_run first (λ g i. all g (in_left (groups_of first) (groups_in_all later) g i)))
          (keeps_parts later (λ g i. all g (in_right (groups_of first) (groups_in_all later) g i))) s n p

      keeps_arms : (arms : PlainStatements) → ((g : ℕ) → In (groups_in_all arms) g → allowed g) → Keeps P (run_arms L arms)
      keeps_arms no_statements all s n p = p
      keeps_arms (a_statement first later) all s n p =
          keeps_both P (L.merged (L.driven first)) (keep.merges (L.driven first)) (run L first) (run_arms L later)
          (keeps_run first (λ g i. all g (in_left (groups_of first) (groups_in_all later) g i)))
          (keeps_arms later (λ g i. all g (in_right (groups_of first) (groups_in_all later) g i))) s n p
