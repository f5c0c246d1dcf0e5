-- Two arms side by side on one clock are each alone.
use Rattle.std.proofs.Common.{◌≡◌, ℕ, zero, suc, ◌≤◌, Bool, true, false, ◌||◌, Option, Some, None, refl, sym, ap, ◌∙◌, subst, arith, max, inl, inr}
use Rattle.std.specs.Prelude.{if◌then◌else◌, ◌⊎◌, nat_le}
use Rattle.cx_meaning.specs.Answers.{Answer, End, More, Meaning, both}
use Rattle.cx_meaning.specs.Answers as answers
use Rattle.cx_lockstep.specs.Worlds.{Store, World, Control, At, Done, Machine, edge_of, edge, writes, Agree}
use Rattle.cx_lockstep.specs.Doing.{Settles, After, EndsAs, GoesOn, Meets, Does}
use Rattle.cx_lockstep.specs.Machines.{join, left_of, right_of, first_some, par_machine}
use Rattle.std.proofs.lemmas.Bool.{false_from_ne_true, or_from}
use Rattle.cx_text.proofs.BoolLaws.{or_either, by_test, pick_false, neither_first, neither_second}

pub first_none : {A : Type 0} (o : Option A) → first_some o None ≡ o
first_none None = refl
first_none (Some v) = refl

pick : {A : Type 0} (b : Bool) (x y s : A) → (b ≡ true → s ≡ x) → (b ≡ false → s ≡ y) → s ≡ (if b then x else y)
pick true x y s f g = f refl
pick false x y s f g = g refl

module _ {X : Type 0} {V : X → Type 0} {E S : Type 0} (W : World X V E S) (Rests : (x : X) → V x → Type 0) (quiet : (x : X) (v : V x) → Rests x v → W.idle x v ≡ v) where
  module _ (M : Machine X V) (R : X → Type 0) where
    -- no fault for so many cycles, done or not
    abbrev Clean : ℕ → Control M.Place → Store X V → Type 0
    Clean zero c s = Unit {0}
    Clean (suc k) Done s = Unit {0}
    Clean (suc k) (At c) s = (w : Store X V) → Agree R w s → (M.faults c w ≡ false) × Clean k (M.step c w) (edge W.idle M (At c) w)

    clean_done : (k : ℕ) (s : Store X V) → Clean k Done s
    clean_done zero s = tt
    clean_done (suc k) s = tt

    clean_before : (P : Control M.Place → Store X V → Type 0) (k : ℕ) (c : Control M.Place) (s : Store X V) → After W Rests M R k P c s → Clean k c s
    clean_before P zero c s p = tt
    clean_before P (suc k) Done s p = tt
    clean_before P (suc k) (At c) s p = λ w g. ((p w g).0, clean_before P k (M.step c w) (edge W.idle M (At c) w) (p w g).1)

    clean_end : (after : Store X V) (t k : ℕ) (c : Control M.Place) (s : Store X V) → After W Rests M R t (EndsAs W Rests M R after) c s → Clean k c s
    clean_end after t zero c s p = tt
    clean_end after t (suc k) Done s p = tt
    clean_end after zero (suc k) (At c) s p = absurd p
    clean_end after (suc t) (suc k) (At c) s p = λ w g. ((p w g).0, clean_end after t k (M.step c w) (edge W.idle M (At c) w) (p w g).1)

  module _ {F : Type 0} (A B : Machine X V) (DA DB : X → Bool) (RA RB : X → Type 0) (mA mB : E → Meaning S F) (a : Does W Rests A DA RA mA) (b : Does W Rests B DB RB mB)
      (ab : (x : X) → DA x ≡ true → RB x → ⊥) (ba : (x : X) → DB x ≡ true → RA x → ⊥)
      (merged : E → S → S → S) (mix : (e : E) (s t : S) (x : X) → W.shown e (merged e s t) x ≡ (if DA x then W.shown e s x else W.shown e t x)) (R : X → Type 0) where
    abbrev M : Machine X V
    M = par_machine A B

    abbrev Left : X → Type 0
    Left x = R x × (DB x ≡ false)

    abbrev Right : X → Type 0
    Right x = R x × (DA x ≡ false)

    left_free : (x : X) → DA x ≡ true → DB x ≡ false
    left_free x e = false_from_ne_true (DB x) (λ f. ba x f (a.sees x e))

    left_only : (p : Control A.Place) (w : Store X V) (x : X) → DA x ≡ false → writes A p w x ≡ None
    left_only (At c) w x e = a.only c w x e
    left_only Done w x e = refl

    right_only : (q : Control B.Place) (w : Store X V) (x : X) → DB x ≡ false → writes B q w x ≡ None
    right_only (At c) w x e = b.only c w x e
    right_only Done w x e = refl

    join_writes : (p : Control A.Place) (q : Control B.Place) (w : Store X V) (x : X) → writes M (join p q) w x ≡ first_some (writes A p w x) (writes B q w x)
    join_writes (At c) (At d) w x = refl
    join_writes (At c) Done w x = refl
    join_writes Done (At c) w x = refl
    join_writes Done Done w x = refl

    left_edge : (p : Control A.Place) (q : Control B.Place) (w : Store X V) → Agree Left (edge W.idle M (join p q) w) (edge W.idle A p w)
    left_edge p q w x i = ap (λ o. edge_of o (W.idle x (w x))) (join_writes p q w x ∙ ap (first_some (writes A p w x)) (right_only q w x i.1) ∙ first_none (writes A p w x))

    right_edge : (p : Control A.Place) (q : Control B.Place) (w : Store X V) → Agree Right (edge W.idle M (join p q) w) (edge W.idle B q w)
    right_edge p q w x i = ap (λ o. edge_of o (W.idle x (w x))) (join_writes p q w x ∙ ap (λ o. first_some o (writes B q w x)) (left_only p w x i.1))

    left_after : (P : Control A.Place → Store X V → Type 0) (Q : Control M.Place → Store X V → Type 0) → ((p : Control A.Place) (q : Control B.Place) (u s : Store X V) → Agree Left s u → P p u → Q (join p q) s)
        → (k : ℕ) (p : Control A.Place) (q : Control B.Place) (u1 u2 s : Store X V) → Agree Left s u1 → Agree Right s u2 → After W Rests A Left k P p u1 → Clean B Right k q u2 → After W Rests M R k Q (join p q) s
    left_after P Q h zero p q u1 u2 s h1 h2 e cl = h p q u1 s h1 e
    left_after P Q h (suc k) Done q u1 u2 s h1 h2 e cl = absurd e
    left_after P Q h (suc k) (At c) (At d) u1 u2 s h1 h2 e cl =
        λ w i. let l = e w (λ x j. i x j.0 ∙ h1 x j) in let r = cl w (λ x j. i x j.0 ∙ h2 x j) in
        (or_from (A.faults c w) (B.faults d w) l.0 r.0, left_after P Q h k (A.step c w) (B.step d w) (edge W.idle A (At c) w) (edge W.idle B (At d) w) (edge W.idle M (join (At c) (At d)) w) (left_edge (At c) (At d) w) (right_edge (At c) (At d) w) l.1 r.1)
    left_after P Q h (suc k) (At c) Done u1 u2 s h1 h2 e cl =
        λ w i. let l = e w (λ x j. i x j.0 ∙ h1 x j) in
        (or_from (A.faults c w) false l.0 refl, left_after P Q h k (A.step c w) Done (edge W.idle A (At c) w) (edge W.idle B Done w) (edge W.idle M (join (At c) Done) w) (left_edge (At c) Done w) (right_edge (At c) Done w) l.1 (clean_done B Right k (edge W.idle B Done w)))

    right_after : (P : Control B.Place → Store X V → Type 0) (Q : Control M.Place → Store X V → Type 0) → ((p : Control A.Place) (q : Control B.Place) (u s : Store X V) → Agree Right s u → P q u → Q (join p q) s)
        → (k : ℕ) (p : Control A.Place) (q : Control B.Place) (u1 u2 s : Store X V) → Agree Left s u1 → Agree Right s u2 → Clean A Left k p u1 → After W Rests B Right k P q u2 → After W Rests M R k Q (join p q) s
    right_after P Q h zero p q u1 u2 s h1 h2 cl e = h p q u2 s h2 e
    right_after P Q h (suc k) p Done u1 u2 s h1 h2 cl e = absurd e
    right_after P Q h (suc k) (At c) (At d) u1 u2 s h1 h2 cl e =
        λ w i. let l = cl w (λ x j. i x j.0 ∙ h1 x j) in let r = e w (λ x j. i x j.0 ∙ h2 x j) in
        (or_from (A.faults c w) (B.faults d w) l.0 r.0, right_after P Q h k (A.step c w) (B.step d w) (edge W.idle A (At c) w) (edge W.idle B (At d) w) (edge W.idle M (join (At c) (At d)) w) (left_edge (At c) (At d) w) (right_edge (At c) (At d) w) l.1 r.1)
    right_after P Q h (suc k) Done (At d) u1 u2 s h1 h2 cl e =
        λ w i. let r = e w (λ x j. i x j.0 ∙ h2 x j) in
        (r.0, right_after P Q h k Done (B.step d w) (edge W.idle A Done w) (edge W.idle B (At d) w) (edge W.idle M (join Done (At d)) w) (left_edge Done (At d) w) (right_edge Done (At d) w) (clean_done A Left k (edge W.idle A Done w)) r.1)

    left_goes : (p : Control A.Place) (q : Control B.Place) (u s : Store X V) → Agree Left s u → GoesOn W Rests A Left p u → GoesOn W Rests M R (join p q) s
    left_goes Done q u s h g = absurd g
    left_goes (At c) (At d) u s h g = tt
    left_goes (At c) Done u s h g = tt

    right_goes : (p : Control A.Place) (q : Control B.Place) (u s : Store X V) → Agree Right s u → GoesOn W Rests B Right q u → GoesOn W Rests M R (join p q) s
    right_goes p Done u s h g = absurd g
    right_goes Done (At d) u s h g = tt
    right_goes (At c) (At d) u s h g = tt

    module _ (e : E) (s1 s2 : S) (st1 : Settles W Rests Left (W.shown e s1)) (st2 : Settles W Rests Right (W.shown e s2)) where
      abbrev Ends : ℕ → Control A.Place → Control B.Place → Store X V → Type 0
      Ends n p q s = After W Rests M R n (EndsAs W Rests M R (W.shown e (merged e s1 s2))) (join p q) s

      ends_both : (t v : ℕ) (p : Control A.Place) (q : Control B.Place) (u1 u2 s : Store X V) → Agree Left s u1 → Agree Right s u2
          → After W Rests A Left t (EndsAs W Rests A Left (W.shown e s1)) p u1 → After W Rests B Right v (EndsAs W Rests B Right (W.shown e s2)) q u2 → Ends (max t v) p q s
      ends_both zero zero Done Done u1 u2 s h1 h2 e1 e2 =
          λ x i. pick (DA x) (W.shown e s1 x) (W.shown e s2 x) (s x) (λ f. h1 x (i, left_free x f) ∙ e1 x (i, left_free x f)) (λ f. h2 x (i, f) ∙ e2 x (i, f)) ∙ sym (mix e s1 s2 x)
      ends_both zero v (At c) q u1 u2 s h1 h2 e1 e2 = absurd e1
      ends_both t zero p (At d) u1 u2 s h1 h2 e1 e2 = absurd e2
      ends_both (suc t) v Done q u1 u2 s h1 h2 e1 e2 = absurd e1
      ends_both t (suc v) p Done u1 u2 s h1 h2 e1 e2 = absurd e2
      ends_both zero (suc v) Done (At d) u1 u2 s h1 h2 e1 e2 =
          let m : suc (max 0 v) ≡ max 0 (suc v) = omega arith in
          subst (λ n. Ends n Done (At d) s) m
          (λ w g. let r = e2 w (λ x j. g x j.0 ∙ h2 x j) in (
            r.0,
            ends_both zero v Done (B.step d w) (W.shown e s1) (edge W.idle B (At d) w) (edge W.idle M (join Done (At d)) w)
                (λ x i. left_edge Done (At d) w x i ∙ ap (W.idle x) (g x i.0 ∙ h1 x i ∙ e1 x i) ∙ quiet x (W.shown e s1 x) (st1 x i))
                (right_edge Done (At d) w) (λ x i. refl) r.1,
          ))
      ends_both (suc t) zero (At c) Done u1 u2 s h1 h2 e1 e2 =
          let m : suc (max t 0) ≡ max (suc t) 0 = omega arith in
          subst (λ n. Ends n (At c) Done s) m
          (λ w g. let l = e1 w (λ x j. g x j.0 ∙ h1 x j) in (
            or_from (A.faults c w) false l.0 refl,
            ends_both t zero (A.step c w) Done (edge W.idle A (At c) w) (W.shown e s2) (edge W.idle M (join (At c) Done) w)
                (left_edge (At c) Done w)
                (λ x i. right_edge (At c) Done w x i ∙ ap (W.idle x) (g x i.0 ∙ h2 x i ∙ e2 x i) ∙ quiet x (W.shown e s2 x) (st2 x i))
                l.1 (λ x i. refl),
          ))
      ends_both (suc t) (suc v) (At c) (At d) u1 u2 s h1 h2 e1 e2 =
          let m : suc (max t v) ≡ max (suc t) (suc v) = omega arith in
          subst (λ n. Ends n (At c) (At d) s) m
          (λ w g. let l = e1 w (λ x j. g x j.0 ∙ h1 x j) in let r = e2 w (λ x j. g x j.0 ∙ h2 x j) in (
            or_from (A.faults c w) (B.faults d w) l.0 r.0,
            ends_both t v (A.step c w) (B.step d w) (edge W.idle A (At c) w) (edge W.idle B (At d) w) (edge W.idle M (join (At c) (At d)) w)
                (left_edge (At c) (At d) w) (right_edge (At c) (At d) w) l.1 r.1,
          ))

    module _ (D : X → Bool) (d : (x : X) → D x ≡ false → (DA x || DB x) ≡ false) (e : E) (s : Store X V) (n : ℕ) where
      par_meets : (o1 o2 : Answer S F) → Meets W Rests A Left e DA A.start s n o1 → Meets W Rests B Right e DB B.start s n o2 → Meets W Rests M R e D (join A.start B.start) s n (both (merged e) o1 o2)
      par_meets (End s1 t) (End s2 v) p q = record {
        in_budget = (let l1 : t ≤ n = p.in_budget in let l2 : v ≤ n = q.in_budget in omega arith);
        keeps = λ x i f. mix e s1 s2 x ∙ pick_false (DA x) _ _ (neither_first (DA x) (DB x) (d x f)) ∙ q.keeps x (i, neither_first (DA x) (DB x) (d x f)) (neither_second (DA x) (DB x) (d x f));
        settled = λ x i. subst (Rests x) (sym (mix e s1 s2 x)) (by_test (Rests x) (DA x) (W.shown e s1 x) (W.shown e s2 x) (λ f. p.settled x (i, left_free x f)) (λ f. q.settled x (i, f)));
        ends = ends_both e s1 s2 p.settled q.settled t v A.start B.start s s s (λ x i. refl) (λ x i. refl) p.ends q.ends;
      }
      par_meets (End s1 t) (answers.Fault g v) p q = tt
      par_meets (End s1 t) More p q = right_after (GoesOn W Rests B Right) (GoesOn W Rests M R) right_goes n A.start B.start s s s (λ x i. refl) (λ x i. refl) (clean_end A Left (W.shown e s1) t n A.start s p.ends) q
      par_meets (answers.Fault f t) (End s2 v) p q = tt
      par_meets (answers.Fault f t) (answers.Fault g v) p q = by_turn (nat_le t v)
        where
          by_turn : (c : Bool) → Meets W Rests M R e D (join A.start B.start) s n (if c then answers.Fault f t else answers.Fault g v)
          by_turn true = tt
          by_turn false = tt
      par_meets (answers.Fault f t) More p q = tt
      par_meets More (End s2 v) p q = left_after (GoesOn W Rests A Left) (GoesOn W Rests M R) left_goes n A.start B.start s s s (λ x i. refl) (λ x i. refl) p (clean_end B Right (W.shown e s2) v n B.start s q.ends)
      par_meets More (answers.Fault g v) p q = tt
      par_meets More More p q = left_after (GoesOn W Rests A Left) (GoesOn W Rests M R) left_goes n A.start B.start s s s (λ x i. refl) (λ x i. refl) p (clean_before B Right (GoesOn W Rests B Right) n B.start s q)

  pub par_does : {F : Type 0} (A B : Machine X V) (DA DB : X → Bool) (RA RB : X → Type 0) (mA mB : E → Meaning S F) → Does W Rests A DA RA mA → Does W Rests B DB RB mB
      → ((x : X) → DA x ≡ true → RB x → ⊥) → ((x : X) → DB x ≡ true → RA x → ⊥)
      → (merged : E → S → S → S) → ((e : E) (s t : S) (x : X) → W.shown e (merged e s t) x ≡ (if DA x then W.shown e s x else W.shown e t x))
      → Does W Rests (par_machine A B) (λ x. DA x || DB x) (λ x. RA x ⊎ RB x) (λ e s n. both (merged e) (mA e s n) (mB e s n))
  par_does A B DA DB RA RB mA mB a b ab ba merged mix = record {
    sees = λ x h. seen x (or_either (DA x) (DB x) h);
    only = λ c w x f. ap (first_some (writes A (left_of c) w x)) (right_only A B DA DB RA RB mA mB a b ab ba merged mix (λ y. Unit {0}) (right_of c) w x (neither_second (DA x) (DB x) f))
        ∙ ap (λ o. first_some o None) (left_only A B DA DB RA RB mA mB a b ab ba merged mix (λ y. Unit {0}) (left_of c) w x (neither_first (DA x) (DB x) f));
    does = λ R D r d e s n st.
        par_meets A B DA DB RA RB mA mB a b ab ba merged mix R D d e (W.shown e s) n (mA e s n) (mB e s n)
        (a.does (λ x. R x × (DB x ≡ false)) DA (λ x i. (r x (inl i), false_from_ne_true (DB x) (λ h. ba x h i))) (λ x f. f) e s n (λ x i. st x i.0))
        (b.does (λ x. R x × (DA x ≡ false)) DB (λ x i. (r x (inr i), false_from_ne_true (DA x) (λ h. ab x h i))) (λ x f. f) e s n (λ x i. st x i.0));
  }
    where
      seen : (x : X) → (DA x ≡ true) ⊎ (DB x ≡ true) → RA x ⊎ RB x
      seen x (inl h) = inl (a.sees x h)
      seen x (inr h) = inr (b.sees x h)
