-- What a part does, in the whole machine: so much for one cycle, for a part and what comes next, and for a test.
use Rattle.std.proofs.Common.{◌≡◌, ℕ, zero, suc, ◌+◌, ◌-◌, ◌≤◌, Bool, false, None, refl, sym, ap, ◌∙◌, subst, arith}
use Rattle.cx_meaning.specs.Answers.{Answer, End, More, Meaning, after_turns, then_do, stay, Test, Holds, Fails, Unclear, chosen}
use Rattle.cx_meaning.specs.Answers as answers
use Rattle.cx_lockstep.specs.Worlds.{Store, World, Control, At, Done, Machine, edge_of, edge, Agree}
use Rattle.cx_lockstep.specs.Doing.{Settles, After, EndsAs, GoesOn, Ended, Meets, KeepsRest}
use Rattle.cx_lockstep.specs.Machines.{within, by_test, unclear}

-- the places f of a whole are those of a part, and where the part is done the whole goes next
pub record PartOf {X : Type 0} {V : X → Type 0} (A M : Machine X V) (f : A.Place → M.Place) (next : Control M.Place) : Type 0 where
  pub steps : (c : A.Place) (w : Store X V) → M.step (f c) w ≡ within f next (A.step c w)
  pub same : (c : A.Place) (w : Store X V) (x : X) → M.writes (f c) w x ≡ A.writes c w x
  pub same_faults : (c : A.Place) (w : Store X V) → M.faults (f c) w ≡ A.faults c w

module _ {X : Type 0} {V : X → Type 0} {E S : Type 0} (W : World X V E S) (Rests : (x : X) → V x → Type 0) where
  module _ (M : Machine X V) (R : X → Type 0) where
    abbrev pub Respects : (Control M.Place → Store X V → Type 0) → Type 0
    Respects P = (c : Control M.Place) (a b : Store X V) → Agree R b a → P c a → P c b

    pub ends_respects : (after : Store X V) → Respects (EndsAs W Rests M R after)
    ends_respects after Done a b h e = λ x r. h x r ∙ e x r
    ends_respects after (At c) a b h e = e

    pub goes_respects : Respects (GoesOn W Rests M R)
    goes_respects Done a b h e = e
    goes_respects (At c) a b h e = e

    pub moved : (P : Control M.Place → Store X V → Type 0) → Respects P → (k : ℕ) (c : Control M.Place) (a b : Store X V) → Agree R b a → After W Rests M R k P c a → After W Rests M R k P c b
    moved P respects zero c a b h p = respects c a b h p
    moved P respects (suc k) Done a b h p = p
    moved P respects (suc k) (At c) a b h p = λ w g. p w (λ x r. g x r ∙ h x r)

  -- one cycle, and then the rest
  pub one_cycle : (M : Machine X V) (R : X → Type 0) (P : Control M.Place → Store X V → Type 0) → Respects M R P → (c : M.Place) (next : Control M.Place) (s after : Store X V) (k : ℕ)
      → ((w : Store X V) → Agree R w s → M.faults c w ≡ false) → ((w : Store X V) → Agree R w s → M.step c w ≡ next)
      → ((w : Store X V) → Agree R w s → Agree R (edge W.idle M (At c) w) after) → After W Rests M R k P next after → After W Rests M R (suc k) P (At c) s
  one_cycle M R P respects c next s after k clean steps same rest =
      λ w g. (clean w g, moved M R P respects k (M.step c w) after (edge W.idle M (At c) w) (same w g) (subst (λ d. After W Rests M R k P d after) (sym (steps w g)) rest))

  -- a part of a whole machine
  module _ (A M : Machine X V) (f : A.Place → M.Place) (next : Control M.Place) (part : PartOf A M f next) (R : X → Type 0) where
    chain : (P : Control A.Place → Store X V → Type 0) (Q : Control M.Place → Store X V → Type 0) → Respects M R Q → (t u : ℕ)
        → ((a : Control A.Place) (s : Store X V) → P a s → After W Rests M R u Q (within f next a) s) → (a : Control A.Place) (s : Store X V) → After W Rests A R t P a s → After W Rests M R (t + u) Q (within f next a) s
    chain P Q respects zero u h a s p =
        let e : u ≡ 0 + u = omega arith in
        subst (λ n. After W Rests M R n Q (within f next a) s) e (h a s p)
    chain P Q respects (suc t) u h Done s p = absurd p
    chain P Q respects (suc t) u h (At c) s p =
        let e : suc (t + u) ≡ suc t + u = omega arith in
        let go : After W Rests M R (suc (t + u)) Q (At (f c)) s =
        λ w g. let l = p w g in (
          part.same_faults c w ∙ l.0,
          moved M R Q respects (t + u) (M.step (f c) w) (edge W.idle A (At c) w) (edge W.idle M (At (f c)) w)
              (λ x r. ap (λ o. edge_of o (W.idle x (w x))) (part.same c w x))
              (subst (λ k. After W Rests M R (t + u) Q k (edge W.idle A (At c) w)) (sym (part.steps c w)) (chain P Q respects t u h (A.step c w) (edge W.idle A (At c) w) l.1)),
        )
        in
        subst (λ n. After W Rests M R n Q (At (f c)) s) e go

    at_end : (P : Control M.Place → Store X V → Type 0) → Respects M R P → (s1 : Store X V) (u : ℕ) → After W Rests M R u P next s1 → (a : Control A.Place) (s : Store X V) → EndsAs W Rests A R s1 a s → After W Rests M R u P (within f next a) s
    at_end P respects s1 u q Done s e = moved M R P respects u next s1 s e q
    at_end P respects s1 u q (At c) s e = absurd e

    still : (a : Control A.Place) (s : Store X V) → GoesOn W Rests A R a s → After W Rests M R 0 (GoesOn W Rests M R) (within f next a) s
    still Done s e = absurd e
    still (At c) s e = tt

    module _ {F : Type 0} (e : E) where
      after_part : (D : X → Bool) (a : Control A.Place) (s : Store X V) (n : ℕ) (s1 : S) (t : ℕ) (o : Answer S F) → Ended W Rests A R D a s n (W.shown e s1) t
          → Meets W Rests M R e D next (W.shown e s1) (n - t) o → Meets W Rests M R e D (within f next a) s n (after_turns t o)
      after_part D a s n s1 t (End s2 u) p q = record {
        in_budget = (let l1 : t ≤ n = p.in_budget in let l2 : u ≤ n - t = q.in_budget in omega arith);
        keeps = λ x r d. q.keeps x r d ∙ p.keeps x r d;
        settled = q.settled;
        ends = chain (EndsAs W Rests A R (W.shown e s1)) (EndsAs W Rests M R (W.shown e s2)) (ends_respects M R (W.shown e s2)) t u (at_end (EndsAs W Rests M R (W.shown e s2)) (ends_respects M R (W.shown e s2)) (W.shown e s1) u q.ends) a s p.ends;
      }
      after_part D a s n s1 t (answers.Fault g u) p q = tt
      after_part D a s n s1 t More p q =
          let l1 : t ≤ n = p.in_budget in
          let e1 : t + (n - t) ≡ n = omega arith in
          subst (λ k. After W Rests M R k (GoesOn W Rests M R) (within f next a) s) e1
          (chain (EndsAs W Rests A R (W.shown e s1)) (GoesOn W Rests M R) (goes_respects M R) t (n - t) (at_end (GoesOn W Rests M R) (goes_respects M R) (W.shown e s1) (n - t) q) a s p.ends)

      pub meets_then : (D : X → Bool) (a : Control A.Place) (s : Store X V) (n : ℕ) (o : Answer S F) (go : Meaning S F) → Meets W Rests A R e D a s n o
          → ((s1 : S) (m : ℕ) → Settles W Rests R (W.shown e s1) → m ≤ n → Meets W Rests M R e D next (W.shown e s1) m (go s1 m)) → Meets W Rests M R e D (within f next a) s n (then_do o n go)
      meets_then D a s n (End s1 t) go p q = after_part D a s n s1 t (go s1 (n - t)) p (q s1 (n - t) p.settled (omega arith))
      meets_then D a s n (answers.Fault g t) go p q = tt
      meets_then D a s n More go p q =
          let e1 : n + 0 ≡ n = omega arith in
          subst (λ k. After W Rests M R k (GoesOn W Rests M R) (within f next a) s) e1 (chain (GoesOn W Rests A R) (GoesOn W Rests M R) (goes_respects M R) n 0 still a s p)

  then_stay : {F : Type 0} (o : Answer S F) (n : ℕ) → then_do o n stay ≡ o
  then_stay (End s t) n = let e : t + 0 ≡ t = omega arith in ap (End s) e
  then_stay (answers.Fault f t) n = refl
  then_stay More n = refl

  pub meets_done : (M : Machine X V) (R : X → Type 0) (e : E) (D : X → Bool) (s : S) (n : ℕ) → Settles W Rests R (W.shown e s) → Ended W Rests M R D Done (W.shown e s) n (W.shown e s) 0
  meets_done M R e D s n st = record { in_budget = omega arith; keeps = λ x r d. refl; settled = st; ends = λ x r. refl }

  -- the last part of a whole
  pub meets_last : {F : Type 0} (A M : Machine X V) (f : A.Place → M.Place) → PartOf A M f Done → (R : X → Type 0) (e : E) (D : X → Bool) (a : Control A.Place) (s : S) (n : ℕ) (o : Answer S F)
      → Meets W Rests A R e D a (W.shown e s) n o → Meets W Rests M R e D (within f Done a) (W.shown e s) n o
  meets_last A M f part R e D a s n o met =
      subst (λ k. Meets W Rests M R e D (within f Done a) (W.shown e s) n k) (then_stay o n) (meets_then A M f Done part R e D a (W.shown e s) n o stay met (λ after m settled less. meets_done M R e D after m settled))

  -- AN IDLE CYCLE of a machine: nothing is written
  module _ (rest : E → S → S) (keeps : KeepsRest W Rests rest) (M : Machine X V) (R : X → Type 0) (e : E) (D : X → Bool) (c : M.Place) (s : S) (n : ℕ) (settled : Settles W Rests R (W.shown e s))
      (silent : (w : Store X V) (x : X) → M.writes c w x ≡ None) where
    abbrev pub Near : Store X V → Type 0
    Near w = Agree R w (W.shown e s)

    pub still_settled : Settles W Rests R (W.shown e (rest e s))
    still_settled x i = subst (Rests x) (sym (keeps.rested e s x (settled x i))) (settled x i)

    idle_edge : (w : Store X V) → Near w → Agree R (edge W.idle M (At c) w) (W.shown e (rest e s))
    idle_edge w near x i =
        ap (λ o. edge_of o (W.idle x (w x))) (silent w x) ∙ ap (W.idle x) (near x i) ∙ keeps.quiet x (W.shown e s x) (settled x i) ∙ sym (keeps.rested e s x (settled x i))

    module _ (next : Control M.Place) (clean : (w : Store X V) → Near w → M.faults c w ≡ false) (steps : (w : Store X V) → Near w → M.step c w ≡ next) where
      pub idle_cycle : {F : Type 0} (o : Answer S F) → Meets W Rests M R e D next (W.shown e (rest e s)) n o → Meets W Rests M R e D (At c) (W.shown e s) (suc n) (after_turns 1 o)
      idle_cycle (End after t) met = record {
        in_budget = (let less : t ≤ n = met.in_budget in omega arith);
        keeps = λ x i free. met.keeps x i free ∙ keeps.rested e s x (settled x i);
        settled = met.settled;
        ends = (let turns : suc t ≡ 1 + t = omega arith in
            subst (λ k. After W Rests M R k (EndsAs W Rests M R (W.shown e after)) (At c) (W.shown e s)) turns
            (one_cycle M R (EndsAs W Rests M R (W.shown e after)) (ends_respects M R (W.shown e after)) c next (W.shown e s) (W.shown e (rest e s)) t clean steps idle_edge met.ends));
      }
      idle_cycle (answers.Fault f t) met = tt
      idle_cycle More met = one_cycle M R (GoesOn W Rests M R) (goes_respects M R) c next (W.shown e s) (W.shown e (rest e s)) n clean steps idle_edge met

    -- a cycle in which a test leads to one of two
    pub meets_test : {F : Type 0} (first second : Control M.Place) (t : Test F) → ((w : Store X V) → Near w → M.faults c w ≡ unclear t) → ((w : Store X V) → Near w → M.step c w ≡ by_test t first second)
        → (o p : Answer S F) → Meets W Rests M R e D first (W.shown e (rest e s)) n o → Meets W Rests M R e D second (W.shown e (rest e s)) n p
        → Meets W Rests M R e D (At c) (W.shown e s) (suc n) (chosen t o p)
    meets_test first second Holds clean steps o p met other = idle_cycle first clean steps o met
    meets_test first second Fails clean steps o p met other = idle_cycle second clean steps p other
    meets_test first second (Unclear f) clean steps o p met other = tt
