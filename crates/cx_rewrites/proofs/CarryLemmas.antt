-- What control makes of meanings that carry others carries what it makes of the others.
use Rattle.std.proofs.Common.{◌≡◌, ℕ, zero, suc, ◌+◌, ◌-◌, max, Bool, true, false, nat_le, if◌then◌else◌, refl, sym, ap, ◌∙◌, subst}
use Rattle.cx_meaning.specs.Answers.{Answer, End, Fault, More, Meaning, after_turns, then_do, stay, idle_turn, Turn, Ends, Goes, Faults, turn_then, one_turn, turns_of, Test, Holds, Fails, Unclear, chosen, test_turn, loop, loop_of, rounds, both}
use Rattle.cx_rewrites.specs.Tallies.{Tally, none, plus, Counted, chosen_count, then_count, turn_count, one_count, turns_count, test_count, loop_count, rounds_count}
use Rattle.cx_rewrites.specs.Carrying.{Pace, Keeps, Room, IfExact, TestCarried, Rests, Carried, Carries, TurnCarried}
use Rattle.cx_rewrites.proofs.TallyLemmas.{plus-none, plus-plus}
use Rattle.cx_rewrites.proofs.PaceLemmas.{keeps_same, keeps-+, keeps-max, room--, room-suc, room_less, no_room, if_exact, then_exact, both_exact, if_greater, fault_later}

two_answers : {T G : Type 0} (mixed : T → T → T) (x y v w : Answer T G) → x ≡ v → y ≡ w → both mixed x y ≡ both mixed v w
two_answers mixed x y v w e f = ap (λ q. both mixed q y) e ∙ ap (both mixed v) f

module _ {S T F G : Type 0} (pace : Pace) (R : Tally → S → T → Type 0) (faults : F → G) where
  abbrev Goes_on : Tally → Tally → Answer S F → Answer T G → Type 0
  Goes_on before counted o x = Carried pace R faults before counted o x

  -- so many turns later
  later_carried : (t u : ℕ) → Keeps pace u t → (before k : Tally) (o : Answer S F) (x : Answer T G) → Goes_on before k o x → Goes_on before k (after_turns t o) (after_turns u x)
  later_carried t u l before k (End a v) x (b, w, e, m, r) = (b, u + w, ap (after_turns u) e, keeps-+ pace u t w v l m, r)
  later_carried t u l before k (Fault f v) x e = fault_later pace t u v (faults f) x l e
  later_carried t u l before k More x e = then_exact pace (x ≡ More) (after_turns u x ≡ More) (λ h. ap (after_turns u) h) e

  -- what was counted before may be told as counted in the run
  regrouped : (before k j : Tally) (o : Answer S F) (x : Answer T G) → Goes_on (plus before k) j o x → Goes_on before (plus k j) o x
  regrouped before k j (End a t) x (b, u, e, m, r) = (b, u, e, m, subst (λ tally. R tally a b) (plus-plus before k j) r)
  regrouped before k j (Fault f t) x e = e
  regrouped before k j More x e = e

  counts_none : (before : Tally) (s : S) (z : T) → R before s z → R (plus before none) s z
  counts_none before s z r = subst (λ tally. R tally s z) (sym (plus-none before)) r

  pub then_carried : (before k : Tally) (n m : ℕ) → Room pace n m → (o : Answer S F) (x : Answer T G) (counts : Counted S) (go : Meaning S F) (on : Meaning T G)
      → Goes_on before k o x → Carries pace R faults counts go on → Goes_on before (plus k (then_count o n counts)) (then_do o n go) (then_do x m on)
  then_carried before k n m room (End a t) x counts go on (b, u, e, l, r) each =
      subst (λ y. Goes_on before (plus k (counts a (n - t))) (after_turns t (go a (n - t))) (then_do y m on)) (sym e)
      (later_carried t u l before (plus k (counts a (n - t))) (go a (n - t)) (on b (m - u))
      (regrouped before k (counts a (n - t)) (go a (n - t)) (on b (m - u)) (each (plus before k) a b (n - t) (m - u) (room-- pace n m t u room l) r)))
  then_carried before k n m room (Fault f t) x counts go on e each = then_exact pace (x ≡ Fault (faults f) t) (then_do x m on ≡ Fault (faults f) t) (λ h. ap (λ y. then_do y m on) h) e
  then_carried before k n m room More x counts go on e each = then_exact pace (x ≡ More) (then_do x m on ≡ More) (λ h. ap (λ y. then_do y m on) h) e

  -- ONE AFTER ANOTHER
  pub then_carries : (counts more : Counted S) (first go : Meaning S F) (other on : Meaning T G) → Carries pace R faults counts first other → Carries pace R faults more go on
      → Carries pace R faults (λ s n. plus (counts s n) (then_count (first s n) n more)) (λ s n. then_do (first s n) n go) (λ z n. then_do (other z n) n on)
  then_carries counts more first go other on f g before s z n m room r = then_carried before (counts s n) n m room (first s n) (other z m) more go on (f before s z n m room r) g

  pub stay_carries : Carries pace R faults (λ s n. none) stay stay
  stay_carries before s z n m room r = (z, 0, refl, keeps_same pace 0, counts_none before s z r)

  module _ (rest : S → S) (still : T → T) (rests : Rests R rest still) where
    rest_carried : (before : Tally) (s : S) (z : T) → R before s z → Goes_on before none (End (rest s) 1) (End (still z) 1)
    rest_carried before s z r = (still z, 1, refl, keeps_same pace 1, counts_none before (rest s) (still z) (rests before s z r))

    pub idle_carries : Carries pace R faults (λ s n. none) (idle_turn rest) (idle_turn still)
    idle_carries before s z zero zero room r = if_exact pace (More ≡ More) refl
    idle_carries before s z zero (suc m) room r = if_greater pace (idle_turn still z (suc m) ≡ More) m room
    idle_carries before s z (suc n) zero room r = absurd (no_room pace n room)
    idle_carries before s z (suc n) (suc m) room r = rest_carried before s z r

    -- A TURN, and what comes after it
    pub turn_carried : (before one : Tally) (s : S) (z : T) (o : Turn S F) (x : Turn T G) (counts : S → Tally) (go : S → Answer S F) (on : T → Answer T G)
        → R before s z → TurnCarried pace R faults before one o x → ((a : S) (b : T) → R (plus before one) a b → Goes_on (plus before one) (counts a) (go a) (on b))
        → Goes_on before (turn_count o (λ after. plus one (counts after))) (turn_then rest s o go) (turn_then still z x on)
    turn_carried before one s z Ends x counts go on r e each = subst (λ y. Goes_on before none (End (rest s) 1) (turn_then still z y on)) (sym e) (rest_carried before s z r)
    turn_carried before one s z (Goes a) x counts go on r (b, e, q) each =
        subst (λ y. Goes_on before (plus one (counts a)) (after_turns 1 (go a)) (turn_then still z y on)) (sym e)
        (later_carried 1 1 (keeps_same pace 1) before (plus one (counts a)) (go a) (on b) (regrouped before one (counts a) (go a) (on b) (each a b q)))
    turn_carried before one s z (Faults f) x counts go on r e each = then_exact pace (x ≡ Faults (faults f)) (turn_then still z x on ≡ Fault (faults f) 0) (λ h. ap (λ y. turn_then still z y on) h) e

    module _ (turn : S → Turn S F) (move : T → Turn T G) (one : Tally) (alike : (before : Tally) (s : S) (z : T) → R before s z → TurnCarried pace R faults before one (turn s) (move z)) where
      -- ONE TURN, and then the rest
      pub one_carries : (counts : Counted S) (go : Meaning S F) (on : Meaning T G) → Carries pace R faults counts go on → Carries pace R faults (one_count turn one counts) (one_turn rest turn go) (one_turn still move on)
      one_carries counts go on each before s z zero zero room r = if_exact pace (More ≡ More) refl
      one_carries counts go on each before s z zero (suc m) room r = if_greater pace (one_turn still move on z (suc m) ≡ More) m room
      one_carries counts go on each before s z (suc n) zero room r = absurd (no_room pace n room)
      one_carries counts go on each before s z (suc n) (suc m) room r =
          turn_carried before one s z (turn s) (move z) (λ a. counts a n) (λ a. go a n) (λ b. on b m) r (alike before s z r)
          (λ a b q. each (plus before one) a b n m (room_less pace n m room) q)

      -- ONE KIND OF TURN again and again
      pub turns_carry : Carries pace R faults (turns_count turn one) (turns_of rest turn) (turns_of still move)
      turns_carry before s z zero zero room r = if_exact pace (More ≡ More) refl
      turns_carry before s z zero (suc m) room r = if_greater pace (turns_of still move z (suc m) ≡ More) m room
      turns_carry before s z (suc n) zero room r = absurd (no_room pace n room)
      turns_carry before s z (suc n) (suc m) room r =
          turn_carried before one s z (turn s) (move z) (λ a. turns_count turn one a n) (λ a. turns_of rest turn a n) (λ b. turns_of still move b m) r (alike before s z r)
          (λ a b q. turns_carry (plus before one) a b n m (room_less pace n m room) q)

    module _ (test : S → Test F) (ask : T → Test G) (same : (before : Tally) (s : S) (z : T) → R before s z → TestCarried pace faults (test s) (ask z)) where
      chosen_carried : (before k j : Tally) (x : Test F) (y : Test G) (a c : Answer S F) (b d : Answer T G) → TestCarried pace faults x y → Goes_on before k a b → Goes_on before j c d
          → Goes_on before (chosen_count x k j) (chosen x a c) (chosen y b d)
      chosen_carried before k j Holds y a c b d e h i = subst (λ w. Goes_on before k (after_turns 1 a) (chosen w b d)) (sym e) (later_carried 1 1 (keeps_same pace 1) before k a b h)
      chosen_carried before k j Fails y a c b d e h i = subst (λ w. Goes_on before j (after_turns 1 c) (chosen w b d)) (sym e) (later_carried 1 1 (keeps_same pace 1) before j c d i)
      chosen_carried before k j (Unclear f) y a c b d e h i = then_exact pace (y ≡ Unclear (faults f)) (chosen y b d ≡ Fault (faults f) 0) (λ h. ap (λ w. chosen w b d) h) e

      -- BEHIND A TEST
      pub test_carries : (counts more : Counted S) (first second : Meaning S F) (one two : Meaning T G) → Carries pace R faults counts first one → Carries pace R faults more second two
          → Carries pace R faults (test_count rest test counts more) (test_turn rest test first second) (test_turn still ask one two)
      test_carries counts more first second one two f g before s z zero zero room r = if_exact pace (More ≡ More) refl
      test_carries counts more first second one two f g before s z zero (suc m) room r = if_greater pace (test_turn still ask one two z (suc m) ≡ More) m room
      test_carries counts more first second one two f g before s z (suc n) zero room r = absurd (no_room pace n room)
      test_carries counts more first second one two f g before s z (suc n) (suc m) room r =
          chosen_carried before (counts (rest s) n) (more (rest s) n) (test s) (ask z) (first (rest s) n) (second (rest s) n) (one (still z) m) (two (still z) m) (same before s z r)
          (f before (rest s) (still z) n m (room_less pace n m room) (rests before s z r)) (g before (rest s) (still z) n m (room_less pace n m room) (rests before s z r))

      -- at most so many tests, and in the other a number that suffices
      pub loop_carries : (counts : Counted S) (body : Meaning S F) (other : Meaning T G) → Carries pace R faults counts body other → (tests asks : ℕ) → Room pace tests asks
          → Carries pace R faults (loop_count tests rest test body counts) (loop tests rest test body) (loop asks still ask other)
      loop_carries counts body other each zero zero few before s z n m room r = if_exact pace (More ≡ More) refl
      loop_carries counts body other each zero (suc asks) few before s z n m room r = if_greater pace (loop (suc asks) still ask other z m ≡ More) asks few
      loop_carries counts body other each (suc tests) zero few before s z n m room r = absurd (no_room pace tests few)
      loop_carries counts body other each (suc tests) (suc asks) few before s z n m room r =
          test_carries (λ s1 k. plus (counts s1 k) (then_count (body s1 k) k (loop_count tests rest test body counts))) (λ s1 k. none)
          (λ s1 k. then_do (body s1 k) k (loop tests rest test body)) stay (λ z1 k. then_do (other z1 k) k (loop asks still ask other)) stay
          (then_carries counts (loop_count tests rest test body counts) body (loop tests rest test body) other (loop asks still ask other) each
          (loop_carries counts body other each tests asks (room_less pace tests asks few)))
          stay_carries before s z n m room r

      -- WHILE A TEST HOLDS
      pub loop_of_carries : (counts : Counted S) (body : Meaning S F) (other : Meaning T G) → Carries pace R faults counts body other
          → Carries pace R faults (λ s n. loop_count (suc n) rest test body counts s n) (loop_of rest test body) (loop_of still ask other)
      loop_of_carries counts body other each before s z n m room r = loop_carries counts body other each (suc n) (suc m) (room-suc pace n m room) before s z n m room r

  -- SO MANY TIMES
  pub rounds_carry : (counts : Counted S) (body : Meaning S F) (other : Meaning T G) → Carries pace R faults counts body other → (k : ℕ)
      → Carries pace R faults (rounds_count k body counts) (rounds k body) (rounds k other)
  rounds_carry counts body other each zero before s z n m room r = stay_carries before s z n m room r
  rounds_carry counts body other each (suc k) before s z n m room r =
      then_carried before (counts s n) n m room (body s n) (other z m) (rounds_count k body counts) (rounds k body) (rounds k other) (each before s z n m room r) (rounds_carry counts body other each k)

  -- SIDE BY SIDE: two runs from one state, within one budget
  module _ (merged : S → S → S) (mixed : T → T → T) (before k j : Tally) where
    -- of two faults the earlier one
    abbrev Earlier : Bool → F → F → ℕ → ℕ → Answer S F
    Earlier b f g t v = if b then Fault f t else Fault g v

    earlier_carried : (b : Bool) (f g : F) (t v : ℕ) (x : Answer T G) → IfExact pace (x ≡ (if b then Fault (faults f) t else Fault (faults g) v)) → Goes_on before (plus k j) (Earlier b f g t v) x
    earlier_carried true f g t v x e = e
    earlier_carried false f g t v x e = e

    pub both_carried : (o p : Answer S F) (x y : Answer T G)
        → ((a c : S) (b d : T) (t v : ℕ) → o ≡ End a t → p ≡ End c v → R (plus before k) a b → R (plus before j) c d → R (plus before (plus k j)) (merged a c) (mixed b d))
        → Goes_on before k o x → Goes_on before j p y → Goes_on before (plus k j) (both merged o p) (both mixed x y)
    both_carried (End a t) (End c v) x y merges (b, u, e, l, r) (d, w, f, i, q) =
        (mixed b d, max u w, two_answers mixed x y (End b u) (End d w) e f, keeps-max pace u t w v l i, merges a c b d t v refl refl r q)
    both_carried (End a t) (Fault g v) x y merges (b, u, e, l, r) q =
        then_exact pace (y ≡ Fault (faults g) v) (both mixed x y ≡ Fault (faults g) v) (λ h. two_answers mixed x y (End b u) (Fault (faults g) v) e h) q
    both_carried (End a t) More x y merges (b, u, e, l, r) q = then_exact pace (y ≡ More) (both mixed x y ≡ More) (λ h. two_answers mixed x y (End b u) More e h) q
    both_carried (Fault f t) (End c v) x y merges p (d, w, e, i, q) =
        then_exact pace (x ≡ Fault (faults f) t) (both mixed x y ≡ Fault (faults f) t) (λ h. two_answers mixed x y (Fault (faults f) t) (End d w) h e) p
    both_carried (Fault f t) (Fault g v) x y merges p q =
        earlier_carried (nat_le t v) f g t v (both mixed x y)
        (both_exact pace (x ≡ Fault (faults f) t) (y ≡ Fault (faults g) v) (both mixed x y ≡ (if nat_le t v then Fault (faults f) t else Fault (faults g) v))
        (λ h i. two_answers mixed x y (Fault (faults f) t) (Fault (faults g) v) h i) p q)
    both_carried (Fault f t) More x y merges p q =
        both_exact pace (x ≡ Fault (faults f) t) (y ≡ More) (both mixed x y ≡ Fault (faults f) t) (λ h i. two_answers mixed x y (Fault (faults f) t) More h i) p q
    both_carried More (End c v) x y merges p (d, w, e, i, q) = then_exact pace (x ≡ More) (both mixed x y ≡ More) (λ h. two_answers mixed x y More (End d w) h e) p
    both_carried More (Fault g v) x y merges p q =
        both_exact pace (x ≡ More) (y ≡ Fault (faults g) v) (both mixed x y ≡ Fault (faults g) v) (λ h i. two_answers mixed x y More (Fault (faults g) v) h i) p q
    both_carried More More x y merges p q = both_exact pace (x ≡ More) (y ≡ More) (both mixed x y ≡ More) (λ h i. two_answers mixed x y More More h i) p q
