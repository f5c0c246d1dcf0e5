-- Answers that are alike, and the meanings whose answers hang on a set of cells alone.
use Rattle.std.proofs.Common.{◌≡◌, ℕ, zero, suc, ◌-◌, Bool, true, false, Option, Some, None, if◌then◌else◌, nat_le, max, refl, sym, ap, subst}
use Rattle.cx_meaning.specs.Instances.{State}
use Rattle.cx_meaning.specs.Truths.{Truth, One, Zero}
use Rattle.cx_meaning.specs.Truths as truths
use Rattle.cx_meaning.specs.Cycles.{Fault, Ended}
use Rattle.cx_meaning.specs.Answers.{Answer, End, More, Meaning, after_turns, then_do, stay, idle_turn, Turn, Ends, Goes, Faults, turn_then, one_turn, turns_of, Test, Holds, Fails, Unclear, chosen, test_turn, loop, loop_of, rounds, both}
use Rattle.cx_meaning.specs.Answers as answers
use Rattle.cx_meaning.specs.Islands.{turn_of, unless_unclear}
use Rattle.cx_meaning.specs.Calls.{hole_turn}
use Rattle.cx_frames.specs.Agreeing.{Agree, Alike}

-- from states that agree on the set the answers are alike on it
abbrev pub Frames : (ℕ → Type 0) → Meaning State Fault → Type 0
Frames set meaning = (s t : State) (n : ℕ) → Agree set s t → Alike set (meaning s n) (meaning t n)

-- turns that are alike
abbrev pub AlikeTurn : (ℕ → Type 0) → Turn State Fault → Turn State Fault → Type 0
AlikeTurn set Ends x = x ≡ Ends
AlikeTurn set (Goes a) x = (b : State) × (x ≡ Goes b) × Agree set a b
AlikeTurn set (Faults f) x = x ≡ Faults f

-- by a done, and by samples, that are the same
pub hole_alike : (set : ℕ → Type 0) (g : ℕ) (x y : Truth) (a b : Ended) → x ≡ y → AlikeTurn set (turn_of a) (turn_of b) → AlikeTurn set (hole_turn g a x) (hole_turn g b y)
hole_alike set g x y a b e h = subst (λ z. AlikeTurn set (hole_turn g a x) (hole_turn g b z)) e (one x)
  where
    one : (z : Truth) → AlikeTurn set (hole_turn g a z) (hole_turn g b z)
    one One = refl
    one Zero = h
    one truths.Conflict = refl
    one truths.Undefined = refl

pub unclear_alike : (set : ℕ → Type 0) (x y : Option Fault) (a b : Ended) → x ≡ y → AlikeTurn set (turn_of a) (turn_of b) → AlikeTurn set (unless_unclear x a) (unless_unclear y b)
unclear_alike set x y a b e h = subst (λ z. AlikeTurn set (unless_unclear x a) (unless_unclear z b)) e (one x)
  where
    one : (z : Option Fault) → AlikeTurn set (unless_unclear z a) (unless_unclear z b)
    one None = h
    one (Some f) = refl

abbrev pub a_fault : Fault → ℕ → Answer State Fault
a_fault f t = answers.Fault f t

module _ (set : ℕ → Type 0) where
  later : (k : ℕ) (o x : Answer State Fault) → Alike set o x → Alike set (after_turns k o) (after_turns k x)
  later k (End a t) x (b, e, h) = (b, ap (after_turns k) e, h)
  later k (answers.Fault f t) x e = ap (after_turns k) e
  later k More x e = ap (after_turns k) e

  pub then_alike : (n : ℕ) (o x : Answer State Fault) (go : Meaning State Fault) → Alike set o x → Frames set go → Alike set (then_do o n go) (then_do x n go)
  then_alike n (End a t) x go (b, e, h) each =
      subst (λ y. Alike set (after_turns t (go a (n - t))) (then_do y n go)) (sym e) (later t (go a (n - t)) (go b (n - t)) (each a b (n - t) h))
  then_alike n (answers.Fault f t) x go e each = ap (λ y. then_do y n go) e
  then_alike n More x go e each = ap (λ y. then_do y n go) e

  pub then_frames : (first go : Meaning State Fault) → Frames set first → Frames set go → Frames set (λ s n. then_do (first s n) n go)
  then_frames first go f g s t n h = then_alike n (first s n) (first t n) go (f s t n h) g

  pub stay_frames : Frames set stay
  stay_frames s t n h = (t, refl, h)

  -- idle turns that keep the agreement
  module _ (rest : State → State) (rests : (s t : State) → Agree set s t → Agree set (rest s) (rest t)) where
    pub idle_frames : Frames set (idle_turn rest)
    idle_frames s t zero h = refl
    idle_frames s t (suc n) h = (rest t, refl, rests s t h)

    pub turn_alike : (s t : State) (o x : Turn State Fault) (go more : State → Answer State Fault) → Agree set s t → AlikeTurn set o x → ((a b : State) → Agree set a b → Alike set (go a) (more b))
        → Alike set (turn_then rest s o go) (turn_then rest t x more)
    turn_alike s t Ends x go more h e each = subst (λ y. Alike set (End (rest s) 1) (turn_then rest t y more)) (sym e) (rest t, refl, rests s t h)
    turn_alike s t (Goes a) x go more h (b, e, k) each = subst (λ y. Alike set (after_turns 1 (go a)) (turn_then rest t y more)) (sym e) (later 1 (go a) (more b) (each a b k))
    turn_alike s t (Faults f) x go more h e each = ap (λ y. turn_then rest t y more) e

    module _ (turn : State → Turn State Fault) (alike : (s t : State) → Agree set s t → AlikeTurn set (turn s) (turn t)) where
      pub one_frames : (go : Meaning State Fault) → Frames set go → Frames set (one_turn rest turn go)
      one_frames go g s t zero h = refl
      one_frames go g s t (suc n) h = turn_alike s t (turn s) (turn t) (λ a. go a n) (λ a. go a n) h (alike s t h) (λ a b k. g a b n k)

      pub turns_frames : Frames set (turns_of rest turn)
      turns_frames s t zero h = refl
      turns_frames s t (suc n) h = turn_alike s t (turn s) (turn t) (λ a. turns_of rest turn a n) (λ a. turns_of rest turn a n) h (alike s t h) (λ a b k. turns_frames a b n k)

    module _ (test : State → Test Fault) (same : (s t : State) → Agree set s t → test s ≡ test t) where
      chosen_alike : (x y : Test Fault) (a b c d : Answer State Fault) → x ≡ y → Alike set a b → Alike set c d → Alike set (chosen x a c) (chosen y b d)
      chosen_alike x y a b c d e h k = subst (λ z. Alike set (chosen x a c) (chosen z b d)) e (one x)
        where
          one : (z : Test Fault) → Alike set (chosen z a c) (chosen z b d)
          one Holds = later 1 a b h
          one Fails = later 1 c d k
          one (Unclear f) = refl

      pub test_frames : (first second : Meaning State Fault) → Frames set first → Frames set second → Frames set (test_turn rest test first second)
      test_frames first second f g s t zero h = refl
      test_frames first second f g s t (suc n) h =
          chosen_alike (test s) (test t) (first (rest s) n) (first (rest t) n) (second (rest s) n) (second (rest t) n) (same s t h)
          (f (rest s) (rest t) n (rests s t h)) (g (rest s) (rest t) n (rests s t h))

      pub loop_frames : (body : Meaning State Fault) → Frames set body → (tests : ℕ) → Frames set (loop tests rest test body)
      loop_frames body b zero s t n h = refl
      loop_frames body b (suc tests) s t n h =
          test_frames (λ s1 m. then_do (body s1 m) m (loop tests rest test body)) stay
          (λ s1 t1 m k. then_alike m (body s1 m) (body t1 m) (loop tests rest test body) (b s1 t1 m k) (loop_frames body b tests)) stay_frames s t n h

      pub loop_of_frames : (body : Meaning State Fault) → Frames set body → Frames set (loop_of rest test body)
      loop_of_frames body b s t n h = loop_frames body b (suc n) s t n h

  pub rounds_frames : (body : Meaning State Fault) → Frames set body → (k : ℕ) → Frames set (rounds k body)
  rounds_frames body b zero s t n h = (t, refl, h)
  rounds_frames body b (suc k) s t n h = then_alike n (body s n) (body t n) (rounds k body) (b s t n h) (rounds_frames body b k)

  -- two arms
  module _ (merged : State → State → State) (merges : (a b c d : State) → Agree set a c → Agree set b d → Agree set (merged a b) (merged c d)) where
    with_both : (o x x2 y y2 : Answer State Fault) → x ≡ x2 → y ≡ y2 → Alike set o (both merged x2 y2) → Alike set o (both merged x y)
    with_both o x x2 y y2 e f h = subst (λ z. Alike set o (both merged z y)) (sym e) (subst (λ z. Alike set o (both merged x2 z)) (sym f) h)

    two_faults : (f g : Fault) (t u : ℕ) → Alike set (both merged (answers.Fault f t) (answers.Fault g u)) (both merged (answers.Fault f t) (answers.Fault g u))
    two_faults f g t u = go (nat_le t u)
      where
        go : (b : Bool) → Alike set (if b then a_fault f t else a_fault g u) (if b then a_fault f t else a_fault g u)
        go true = refl
        go false = refl

    pub both_alike : (o x o2 x2 : Answer State Fault) → Alike set o x → Alike set o2 x2 → Alike set (both merged o o2) (both merged x x2)
    both_alike (End a t) x (End b u) x2 (c, e, h) (d, f, k) = with_both (End (merged a b) (max t u)) x (End c t) x2 (End d u) e f (merged c d, refl, merges a b c d h k)
    both_alike (End a t) x (answers.Fault g u) x2 (c, e, h) f = with_both (answers.Fault g u) x (End c t) x2 (answers.Fault g u) e f refl
    both_alike (End a t) x More x2 (c, e, h) f = with_both More x (End c t) x2 More e f refl
    both_alike (answers.Fault g t) x (End b u) x2 e (d, f, k) = with_both (answers.Fault g t) x (answers.Fault g t) x2 (End d u) e f refl
    both_alike (answers.Fault g t) x (answers.Fault j u) x2 e f = with_both (both merged (answers.Fault g t) (answers.Fault j u)) x (answers.Fault g t) x2 (answers.Fault j u) e f (two_faults g j t u)
    both_alike (answers.Fault g t) x More x2 e f = with_both (answers.Fault g t) x (answers.Fault g t) x2 More e f refl
    both_alike More x (End b u) x2 e (d, f, k) = with_both More x More x2 (End d u) e f refl
    both_alike More x (answers.Fault g u) x2 e f = with_both (answers.Fault g u) x More x2 (answers.Fault g u) e f refl
    both_alike More x More x2 e f = with_both More x More x2 More e f refl
