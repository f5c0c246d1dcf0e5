-- Each form but par: its machine does what it means, where the machines of its parts do.
use Rattle.std.proofs.Common.{◌≡◌, ℕ, zero, suc, ◌≤◌, Bool, true, false, None, refl, ap, arith}
use Rattle.cx_meaning.specs.Answers.{End, Meaning, then_do, stay, idle_turn, Test, test_turn, loop, loop_of, rounds}
use Rattle.cx_lockstep.specs.Worlds.{Store, World, At, Done, Machine, Agree}
use Rattle.cx_lockstep.specs.Doing.{Settles, Meets, Does, KeepsRest}
use Rattle.cx_lockstep.specs.Machines.{within, idle_machine, done_machine, InSeq, First, Second, second_start, seq_machine, InIf, AtTest, InThen, InElse, if_machine, InWhile, AtHead, InBody, while_machine, in_round, next_round, repeat_machine, by_test, unclear}
use Rattle.cx_lockstep.proofs.FollowLaws.{meets_then, meets_last, meets_done, still_settled, idle_cycle, meets_test}
use Rattle.std.proofs.lemmas.Bool.{false_from_ne_true}
use Rattle.cx_text.proofs.BoolLaws.{not_both}

-- one idle turn
module _ {X : Type 0} {V : X → Type 0} {E S : Type 0} (W : World X V E S) (Rests : (x : X) → V x → Type 0) (F : Type 0) (D : X → Bool) (reads : X → Type 0) (rest : E → S → S) (keeps : KeepsRest W Rests rest) where
  idle_meets : (R : X → Type 0) (D2 : X → Bool) (e : E) (s : S) (n : ℕ) → Settles W Rests R (W.shown e s) → Meets W Rests (idle_machine X V) R {F = F} e D2 (At tt) (W.shown e s) n (idle_turn (rest e) s n)
  idle_meets R D2 e s zero settled = tt
  idle_meets R D2 e s (suc n) settled =
      idle_cycle W Rests rest keeps (idle_machine X V) R e D2 tt s n settled (λ w x. refl) Done (λ w near. refl) (λ w near. refl) {F = F} (End (rest e s) 0)
      (meets_done W Rests (idle_machine X V) R e D2 (rest e s) n (still_settled W Rests rest keeps (idle_machine X V) R e D2 tt s n settled (λ w x. refl)))

  pub idle_does : ((x : X) → D x ≡ true → reads x) → Does W Rests {F = F} (idle_machine X V) D reads (λ e. idle_turn (rest e))
  idle_does sees = record {
    sees = sees;
    only = λ c s x free. refl;
    does = λ R D2 r d e s n settled. idle_meets R D2 e s n settled;
  }

module _ {X : Type 0} {V : X → Type 0} {E S : Type 0} (W : World X V E S) (Rests : (x : X) → V x → Type 0) {F : Type 0} where
  -- the same with more spots
  pub does_within : (M : Machine X V) (D D2 : X → Bool) (R R2 : X → Type 0) (m : E → Meaning S F) → ((x : X) → D x ≡ true → D2 x ≡ true) → ((x : X) → R x → R2 x) → ((x : X) → D2 x ≡ true → R2 x)
      → Does W Rests M D R m → Does W Rests M D2 R2 m
  does_within M D D2 R R2 m more_driven more_read sees a = record {
    sees = sees;
    only = λ c s x free. a.only c s x (free_too x free);
    does = λ L E2 r d e s n settled. a.does L E2 (λ x i. r x (more_read x i)) (λ x free. free_too x (d x free)) e s n settled;
  }
    where
      free_too : (x : X) → D2 x ≡ false → D x ≡ false
      free_too x free = false_from_ne_true (D x) (λ driven. not_both (D2 x) (more_driven x driven) free)

  module _ (D : X → Bool) (reads : X → Type 0) where
    -- one after another
    pub seq_does : (A B : Machine X V) (m k : E → Meaning S F) → Does W Rests A D reads m → Does W Rests B D reads k → Does W Rests (seq_machine A B) D reads (λ e s n. then_do (m e s n) n (k e))
    seq_does A B m k a b = record {
      sees = a.sees;
      only = only;
      does = λ R D2 r d e s n settled.
          meets_then W Rests A (seq_machine A B) First (second_start A B) (record { steps = λ c w. refl; same = λ c w x. refl; same_faults = λ c w. refl }) R e D2 A.start (W.shown e s) n (m e s n) (k e)
          (a.does R D2 r d e s n settled)
          (λ after j again less. meets_last W Rests B (seq_machine A B) Second (record { steps = λ c w. refl; same = λ c w x. refl; same_faults = λ c w. refl }) R e D2 B.start after j (k e after j)
          (b.does R D2 r d e after j again));
    }
      where
        only : (c : InSeq A.Place B.Place) (s : Store X V) (x : X) → D x ≡ false → Machine.writes (seq_machine A B) c s x ≡ None
        only (First c) s x free = a.only c s x free
        only (Second c) s x free = b.only c s x free

    -- no part at all
    pub done_does : ((x : X) → D x ≡ true → reads x) → Does W Rests {F = F} (done_machine X V) D reads (λ e. stay)
    done_does sees = record {
      sees = sees;
      only = λ c s x free. absurd c;
      does = λ R D2 r d e s n settled. meets_done W Rests (done_machine X V) R e D2 s n settled;
    }

    -- rounds
    module _ (A : Machine X V) (m : E → Meaning S F) (a : Does W Rests A D reads m) (whole : ℕ) where
      rounds_meet : (R : X → Type 0) (D2 : X → Bool) → ((x : X) → reads x → R x) → ((x : X) → D2 x ≡ false → D x ≡ false) → (k : ℕ) (e : E) (s : S) (n : ℕ) → Settles W Rests R (W.shown e s)
          → Meets W Rests (repeat_machine whole A) R e D2 (next_round A k) (W.shown e s) n (rounds k (m e) s n)
      rounds_meet R D2 r d zero e s n settled = meets_done W Rests (repeat_machine whole A) R e D2 s n settled
      rounds_meet R D2 r d (suc k) e s n settled =
          meets_then W Rests A (repeat_machine whole A) (in_round k) (next_round A k) (record { steps = λ c w. refl; same = λ c w x. refl; same_faults = λ c w. refl }) R e D2 A.start (W.shown e s) n (m e s n) (rounds k (m e))
          (a.does R D2 r d e s n settled) (λ after j again less. rounds_meet R D2 r d k e after j again)

      pub repeat_does : Does W Rests (repeat_machine whole A) D reads (λ e. rounds whole (m e))
      repeat_does = record {
        sees = a.sees;
        only = λ c s x free. a.only c.place s x free;
        does = λ R D2 r d e s n settled. rounds_meet R D2 r d whole e s n settled;
      }

    module _ (rest : E → S → S) (keeps : KeepsRest W Rests rest) where
      -- what a test says hangs on what is read alone, and is what the meaning's says
      module _ (test : Store X V → Test F) (means : E → S → Test F) (local : (e : E) (s : S) (w : Store X V) → Agree reads w (W.shown e s) → test w ≡ means e s) where
        -- a test, and one of two
        module _ (A B : Machine X V) (m k : E → Meaning S F) (a : Does W Rests A D reads m) (b : Does W Rests B D reads k) where
          abbrev IfM : Machine X V
          IfM = if_machine test A B

          if_meets : (R : X → Type 0) (D2 : X → Bool) → ((x : X) → reads x → R x) → ((x : X) → D2 x ≡ false → D x ≡ false) → (e : E) (s : S) (n : ℕ) → Settles W Rests R (W.shown e s)
              → Meets W Rests IfM R e D2 (At AtTest) (W.shown e s) n (test_turn (rest e) (means e) (m e) (k e) s n)
          if_meets R D2 r d e s zero settled = tt
          if_meets R D2 r d e s (suc n) settled =
              meets_test W Rests rest keeps IfM R e D2 AtTest s n settled (λ w x. refl) (within InThen Done A.start) (within InElse Done B.start) (means e s)
              (λ w near. ap unclear (local e s w (λ x i. near x (r x i)))) (λ w near. ap (λ t. by_test t (within InThen Done A.start) (within InElse Done B.start)) (local e s w (λ x i. near x (r x i))))
              (m e (rest e s) n) (k e (rest e s) n)
              (meets_last W Rests A IfM InThen (record { steps = λ c w. refl; same = λ c w x. refl; same_faults = λ c w. refl }) R e D2 A.start (rest e s) n (m e (rest e s) n) (a.does R D2 r d e (rest e s) n again))
              (meets_last W Rests B IfM InElse (record { steps = λ c w. refl; same = λ c w x. refl; same_faults = λ c w. refl }) R e D2 B.start (rest e s) n (k e (rest e s) n) (b.does R D2 r d e (rest e s) n again))
            where
              again : Settles W Rests R (W.shown e (rest e s))
              again = still_settled W Rests rest keeps IfM R e D2 AtTest s n settled (λ w x. refl)

          pub if_does : Does W Rests IfM D reads (λ e. test_turn (rest e) (means e) (m e) (k e))
          if_does = record {
            sees = a.sees;
            only = only;
            does = λ R D2 r d e s n settled. if_meets R D2 r d e s n settled;
          }
            where
              only : (c : InIf A.Place B.Place) (s : Store X V) (x : X) → D x ≡ false → Machine.writes IfM c s x ≡ None
              only AtTest s x free = refl
              only (InThen c) s x free = a.only c s x free
              only (InElse c) s x free = b.only c s x free

        -- a loop
        module _ (A : Machine X V) (m : E → Meaning S F) (a : Does W Rests A D reads m) where
          abbrev WhileM : Machine X V
          WhileM = while_machine test A

          loop_meets : (R : X → Type 0) (D2 : X → Bool) → ((x : X) → reads x → R x) → ((x : X) → D2 x ≡ false → D x ≡ false) → (k : ℕ) (e : E) (s : S) (n : ℕ) → n ≤ k → Settles W Rests R (W.shown e s)
              → Meets W Rests WhileM R e D2 (At AtHead) (W.shown e s) n (loop (suc k) (rest e) (means e) (m e) s n)
          loop_meets R D2 r d k e s zero less settled = tt
          loop_meets R D2 r d zero e s (suc n) less settled = absurd (omega arith)
          loop_meets R D2 r d (suc k) e s (suc n) less settled =
              meets_test W Rests rest keeps WhileM R e D2 AtHead s n settled (λ w x. refl) (within InBody (At AtHead) A.start) Done (means e s)
              (λ w near. ap unclear (local e s w (λ x i. near x (r x i)))) (λ w near. ap (λ t. by_test t (within InBody (At AtHead) A.start) Done) (local e s w (λ x i. near x (r x i))))
              (then_do (m e (rest e s) n) n (loop (suc k) (rest e) (means e) (m e))) (stay (rest e s) n)
              (meets_then W Rests A WhileM InBody (At AtHead) (record { steps = λ c w. refl; same = λ c w x. refl; same_faults = λ c w. refl }) R e D2 A.start (W.shown e (rest e s)) n (m e (rest e s) n)
              (loop (suc k) (rest e) (means e) (m e)) (a.does R D2 r d e (rest e s) n again)
              (λ after j settles fewer. loop_meets R D2 r d k e after j (omega arith) settles))
              (meets_done W Rests WhileM R e D2 (rest e s) n again)
            where
              again : Settles W Rests R (W.shown e (rest e s))
              again = still_settled W Rests rest keeps WhileM R e D2 AtHead s n settled (λ w x. refl)

          pub while_does : Does W Rests WhileM D reads (λ e. loop_of (rest e) (means e) (m e))
          while_does = record {
            sees = a.sees;
            only = only;
            does = λ R D2 r d e s n settled. loop_meets R D2 r d n e s n (omega arith) settled;
          }
            where
              only : (c : InWhile A.Place) (s : Store X V) (x : X) → D x ≡ false → Machine.writes WhileM c s x ≡ None
              only AtHead s x free = refl
              only (InBody c) s x free = a.only c s x free
