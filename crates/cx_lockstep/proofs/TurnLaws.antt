-- A leaf of one place, whose turns hang on what it reads alone: its machine does turn after turn what is meant.
use Rattle.std.proofs.Common.{◌≡◌, ℕ, zero, suc, ◌+◌, ◌≤◌, Bool, true, false, None, refl, sym, ap, ◌∙◌, subst, arith}
use Rattle.cx_meaning.specs.Answers.{Answer, End, More, Turn, Ends, Goes, after_turns, turn_then, turns_of}
use Rattle.cx_meaning.specs.Answers as answers
use Rattle.cx_lockstep.specs.Worlds.{Store, World, Control, At, Done, Machine, edge_of, edge, Agree}
use Rattle.cx_lockstep.specs.Doing.{After, EndsAs, GoesOn, Meets, Does}
use Rattle.cx_lockstep.proofs.FollowLaws.{ends_respects, goes_respects, one_cycle, meets_done}

module _ {X : Type 0} {V : X → Type 0} {E S : Type 0} (W : World X V E S) (Rests : (x : X) → V x → Type 0) where
  -- a cycle from any store that comes to the state `after`, and then the rest
  pub meets_cycle : {F : Type 0} (M : Machine X V) (R : X → Type 0) (e : E) (D : X → Bool) (c : M.Place) (next : Control M.Place) (s : Store X V) (after : S) (n : ℕ)
      → ((w : Store X V) → Agree R w s → M.faults c w ≡ false) → ((w : Store X V) → Agree R w s → M.step c w ≡ next)
      → ((w : Store X V) → Agree R w s → Agree R (edge W.idle M (At c) w) (W.shown e after)) → ((x : X) → R x → D x ≡ false → W.shown e after x ≡ s x)
      → (o : Answer S F) → Meets W Rests M R e D next (W.shown e after) n o → Meets W Rests M R e D (At c) s (suc n) (after_turns 1 o)
  meets_cycle M R e D c next s after n clean steps same kept (End last t) met = record {
    in_budget = (let less : t ≤ n = met.in_budget in omega arith);
    keeps = λ x i free. met.keeps x i free ∙ kept x i free;
    settled = met.settled;
    ends = (let turns : suc t ≡ 1 + t = omega arith in
        subst (λ k. After W Rests M R k (EndsAs W Rests M R (W.shown e last)) (At c) s) turns
        (one_cycle W Rests M R (EndsAs W Rests M R (W.shown e last)) (ends_respects W Rests M R (W.shown e last)) c next s (W.shown e after) t clean steps same met.ends));
  }
  meets_cycle M R e D c next s after n clean steps same kept (answers.Fault f t) met = tt
  meets_cycle M R e D c next s after n clean steps same kept More met =
      one_cycle W Rests M R (GoesOn W Rests M R) (goes_respects W Rests M R) c next s (W.shown e after) n clean steps same met

  module _ (M : Machine X V) (c : M.Place) (drives : X → Bool) (rest : E → S → S) where
    -- a cycle with store w is the last turn, from state s
    pub record IsLast (e : E) (s : S) (w : Store X V) : Type 0 where
      pub clean : M.faults c w ≡ false
      pub is_over : M.step c w ≡ Done
      pub writes_none : (x : X) → M.writes c w x ≡ None
      pub idles : (x : X) → drives x ≡ true → W.shown e (rest e s) x ≡ W.idle x (W.shown e s x)
      pub settles : (x : X) → drives x ≡ true → Rests x (W.shown e (rest e s) x)

    -- or a turn to the state `after`
    pub record IsTurn (e : E) (s after : S) (w : Store X V) : Type 0 where
      pub clean : M.faults c w ≡ false
      pub stays : M.step c w ≡ At c
      pub writes_it : (x : X) → drives x ≡ true → edge_of (M.writes c w x) (W.idle x (w x)) ≡ W.shown e after x
      pub keeps : (x : X) → drives x ≡ false → Rests x (W.shown e s x) → W.shown e after x ≡ W.shown e s x

    -- of a fault nothing is promised
    abbrev pub Takes : {F : Type 0} → E → S → Store X V → Turn S F → Type 0
    Takes e s w Ends = IsLast e s w
    Takes e s w (Goes after) = IsTurn e s after w
    Takes e s w (answers.Faults f) = Unit {0}

    module _ (quiet : (x : X) (v : V x) → Rests x v → W.idle x v ≡ v) (rested : (e : E) (s : S) (x : X) → Rests x (W.shown e s x) → W.shown e (rest e s) x ≡ W.shown e s x)
        (only : (d : M.Place) (s : Store X V) (x : X) → drives x ≡ false → M.writes d s x ≡ None) where
      module _ (R : X → Type 0) (e : E) where
        -- what is not driven rests all the while
        abbrev Calm : S → Type 0
        Calm s = (x : X) → R x → drives x ≡ false → Rests x (W.shown e s x)

        either_way : {A : Type 0} (b : Bool) → (b ≡ true → A) → (b ≡ false → A) → A
        either_way true f g = f refl
        either_way false f g = g refl

        last_edge : (s : S) → Calm s → IsLast e s (W.shown e s) → (w : Store X V) → Agree R w (W.shown e s) → IsLast e s w → Agree R (edge W.idle M (At c) w) (W.shown e (rest e s))
        last_edge s calm here w near there x i =
            ap (λ o. edge_of o (W.idle x (w x))) (there.writes_none x) ∙ ap (W.idle x) (near x i)
            ∙ either_way (drives x) (λ d. sym (here.idles x d)) (λ d. quiet x (W.shown e s x) (calm x i d) ∙ sym (rested e s x (calm x i d)))

        turn_edge : (s after : S) → Calm s → (w : Store X V) → Agree R w (W.shown e s) → IsTurn e s after w → Agree R (edge W.idle M (At c) w) (W.shown e after)
        turn_edge s after calm w near there x i = either_way (drives x) (λ d. there.writes_it x d)
            (λ d. ap (λ o. edge_of o (W.idle x (w x))) (only c w x d) ∙ ap (W.idle x) (near x i) ∙ quiet x (W.shown e s x) (calm x i d) ∙ sym (there.keeps x d (calm x i d)))

      module _ {F : Type 0} (turn : E → S → Turn S F) (reads : X → Type 0) (takes : (e : E) (s : S) (w : Store X V) → Agree reads w (W.shown e s) → Takes e s w (turn e s)) where
        module _ (R : X → Type 0) (D : X → Bool) (more : (x : X) → reads x → R x) (less : (x : X) → D x ≡ false → drives x ≡ false) (e : E) where
          turns_meet : (n : ℕ) (s : S) → Calm R e s → Meets W Rests M R e D (At c) (W.shown e s) n (turns_of (rest e) (turn e) s n)
          turns_meet zero s calm = tt
          turns_meet (suc n) s calm = by_turn (turn e s) refl (λ after still. turns_meet n after still)
            where
              near : (w : Store X V) → Agree R w (W.shown e s) → Takes e s w (turn e s)
              near w agree = takes e s w (λ x i. agree x (more x i))

              by_turn : (t : Turn S F) → turn e s ≡ t → ((after : S) → Calm R e after → Meets W Rests M R e D (At c) (W.shown e after) n (turns_of (rest e) (turn e) after n))
                  → Meets W Rests M R e D (At c) (W.shown e s) (suc n) (turn_then (rest e) s t (λ after. turns_of (rest e) (turn e) after n))
              by_turn Ends is_last later =
                  let here = last (W.shown e s) (λ x i. refl) in
                  meets_cycle {F = F} M R e D c Done (W.shown e s) (rest e s) n (λ w agree. (last w agree).clean) (λ w agree. (last w agree).is_over) (λ w agree. last_edge R e s calm here w agree (last w agree))
                  (λ x i free. rested e s x (calm x i (less x free))) (End (rest e s) 0)
                  (meets_done W Rests M R e D (rest e s) n (λ x i. either_way R e (drives x) (λ d. here.settles x d) (λ d. subst (Rests x) (sym (rested e s x (calm x i d))) (calm x i d))))
                where
                  last : (w : Store X V) → Agree R w (W.shown e s) → IsLast e s w
                  last w agree = subst (Takes e s w) is_last (near w agree)
              by_turn (Goes after) goes later =
                  let here = taken (W.shown e s) (λ x i. refl) in
                  meets_cycle M R e D c (At c) (W.shown e s) after n (λ w agree. (taken w agree).clean) (λ w agree. (taken w agree).stays) (λ w agree. turn_edge R e s after calm w agree (taken w agree))
                  (λ x i free. here.keeps x (less x free) (calm x i (less x free))) (turns_of (rest e) (turn e) after n)
                  (later after (λ x i d. subst (Rests x) (sym (here.keeps x d (calm x i d))) (calm x i d)))
                where
                  taken : (w : Store X V) → Agree R w (W.shown e s) → IsTurn e s after w
                  taken w agree = subst (Takes e s w) goes (near w agree)
              by_turn (answers.Faults f) faults later = tt

        pub turn_does : M.start ≡ At c → ((x : X) → drives x ≡ true → reads x) → Does W Rests M drives reads (λ e. turns_of (rest e) (turn e))
        turn_does starts sees = record {
          sees = sees;
          only = only;
          does = λ R D r d e s n settled.
              subst (λ k. Meets W Rests M R e D k (W.shown e s) n (turns_of (rest e) (turn e) s n)) (sym starts) (turns_meet R D r d e n s (λ x i free. settled x i));
        }
