-- When a machine does what is meant, whatever else happens to the spots that are not left to it.
use Rattle.std.specs.Prelude.{◌≡◌, ℕ, zero, suc, ◌≤◌, Bool, true, false, None}
use Rattle.cx_meaning.specs.Answers.{Answer, End, More, Meaning}
use Rattle.cx_meaning.specs.Answers as answers
use Rattle.cx_lockstep.specs.Worlds.{Store, World, Control, At, Done, Machine, edge, Agree}

module _ {X : Type 0} {V : X → Type 0} {E S : Type 0} (W : World X V E S) (Rests : (x : X) → V x → Type 0) where
  -- nothing is under way at the spots of a set
  abbrev pub Settles : (X → Type 0) → Store X V → Type 0
  Settles R s = (x : X) → R x → Rests x (s x)

  -- an idle edge leaves what rests as it is, and so does an idle turn of the meaning
  pub record KeepsRest (rest : E → S → S) : Type 0 where
    pub quiet : (x : X) (v : V x) → Rests x v → W.idle x v ≡ v
    pub rested : (e : E) (s : S) (x : X) → Rests x (W.shown e s x) → W.shown e (rest e s) x ≡ W.shown e s x

  -- R are the spots that are left to the machine: before each cycle the others may change
  module _ (M : Machine X V) (R : X → Type 0) where
    -- so many cycles without a fault, and then P
    abbrev pub After : ℕ → (Control M.Place → Store X V → Type 0) → Control M.Place → Store X V → Type 0
    After zero P c s = P c s
    After (suc k) P Done s = ⊥
    After (suc k) P (At c) s =
        (w : Store X V) → Agree R w s
        → (M.faults c w ≡ false) × After k P (M.step c w) (edge W.idle M (At c) w)

    -- done, with this store
    abbrev pub EndsAs : Store X V → Control M.Place → Store X V → Type 0
    EndsAs after Done s = Agree R s after
    EndsAs after (At c) s = ⊥

    -- not done
    abbrev pub GoesOn : Control M.Place → Store X V → Type 0
    GoesOn Done s = ⊥
    GoesOn (At c) s = Unit {0}

    -- it ends after t cycles, within the budget, and what it does not drive is as it was
    pub record Ended (drives : X → Bool) (c : Control M.Place) (s : Store X V) (n : ℕ) (after : Store X V)
        (t : ℕ) : Type 0 where
      pub in_budget : t ≤ n
      pub keeps : (x : X) → R x → drives x ≡ false → after x ≡ s x
      pub settled : Settles R after
      pub ends : After t (EndsAs after) c s

    -- of a fault nothing is promised
    abbrev pub Meets : {F : Type 0} → E → (X → Bool) → Control M.Place → Store X V → ℕ → Answer S F → Type 0
    Meets e drives c s n (End after t) = Ended drives c s n (W.shown e after) t
    Meets e drives c s n (answers.Fault f t) = Unit {0}
    Meets e drives c s n More = After n GoesOn c s

  -- THE MACHINE DOES WHAT IS MEANT, and writes only what it drives, in any surroundings that leave to it what it reads
  pub record Does {F : Type 0} (M : Machine X V) (drives : X → Bool) (reads : X → Type 0)
      (meaning : E → Meaning S F) : Type 1 where
    pub sees : (x : X) → drives x ≡ true → reads x
    pub only : (c : M.Place) (s : Store X V) (x : X) → drives x ≡ false → M.writes c s x ≡ None
    pub does : (R : X → Type 0) (D : X → Bool) → ((x : X) → reads x → R x) → ((x : X) → D x ≡ false → drives x ≡ false)
        → (e : E) (s : S) (n : ℕ) → Settles R (W.shown e s) → Meets M R e D M.start (W.shown e s) n (meaning e s n)
