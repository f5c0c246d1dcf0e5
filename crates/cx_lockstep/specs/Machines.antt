-- Machines of parts: one after another, side by side, behind a test, again while a test holds, so many times.
use Rattle.std.specs.Prelude.{ℕ, zero, suc, Bool, true, false, ◌||◌, Option, Some, None}
use Rattle.cx_meaning.specs.Answers.{Test, Holds, Fails, Unclear}
use Rattle.cx_lockstep.specs.Worlds.{Store, Control, At, Done, Machine, step, writes, faults}

-- control of a part, in the whole: where the part is done, that is where the whole goes next
abbrev pub within : {C W : Type 0} → (C → W) → Control W → Control C → Control W
within f next (At c) = At (f c)
within f next Done = next

module _ (X : Type 0) (V : X → Type 0) where
  abbrev pub idle_machine : Machine X V
  idle_machine =
      record {
        Place = Unit {0};
        start = At tt;
        step = λ c s. Done;
        writes = λ c s x. None;
        faults = λ c s. false;
      }

  abbrev pub done_machine : Machine X V
  done_machine = record { Place = ⊥; start = Done; step = λ c s. Done; writes = λ c s x. None; faults = λ c s. false }

-- THE PLACES of each form
pub data InSeq (A B : Type 0) : Type 0 where
  First : (place : A) → InSeq A B
  Second : (place : B) → InSeq A B

pub data InPar (A B : Type 0) : Type 0 where
  Both : (a : A) (b : B) → InPar A B
  LeftOnly : (a : A) → InPar A B
  RightOnly : (b : B) → InPar A B

pub data InIf (A B : Type 0) : Type 0 where
  AtTest : InIf A B
  InThen : (place : A) → InIf A B
  InElse : (place : B) → InIf A B

pub data InWhile (A : Type 0) : Type 0 where
  AtHead : InWhile A
  InBody : (place : A) → InWhile A

-- rounds that are left after this one
pub record InRepeat (A : Type 0) : Type 0 where
  pub left : ℕ
  pub place : A

abbrev pub left_of : {A B : Type 0} → InPar A B → Control A
left_of (Both a b) = At a
left_of (LeftOnly a) = At a
left_of (RightOnly b) = Done

abbrev pub right_of : {A B : Type 0} → InPar A B → Control B
right_of (Both a b) = At b
right_of (LeftOnly a) = Done
right_of (RightOnly b) = At b

-- a par is done where all its arms are
abbrev pub join : {A B : Type 0} → Control A → Control B → Control (InPar A B)
join (At a) (At b) = At (Both a b)
join (At a) Done = At (LeftOnly a)
join Done (At b) = At (RightOnly b)
join Done Done = Done

abbrev pub first_some : {A : Type 0} → Option A → Option A → Option A
first_some None o = o
first_some (Some v) o = Some v

-- where a test leads; after an unclear one nothing matters
abbrev pub by_test : {F : Type 0} {C : Type 0} → Test F → C → C → C
by_test Holds a b = a
by_test Fails a b = b
by_test (Unclear f) a b = b

abbrev pub unclear : {F : Type 0} → Test F → Bool
unclear Holds = false
unclear Fails = false
unclear (Unclear f) = true

abbrev pub in_round : {A : Type 0} → ℕ → A → InRepeat A
in_round k c = record { left = k; place = c }

module _ {X : Type 0} {V : X → Type 0} where
  abbrev pub second_start : (A B : Machine X V) → Control (InSeq A.Place B.Place)
  second_start A B = within Second Done B.start

  abbrev pub seq_step : (A B : Machine X V) → InSeq A.Place B.Place → Store X V → Control (InSeq A.Place B.Place)
  seq_step A B (First c) s = within First (second_start A B) (A.step c s)
  seq_step A B (Second c) s = within Second Done (B.step c s)

  abbrev pub seq_writes : (A B : Machine X V) → InSeq A.Place B.Place → Store X V → (x : X) → Option (V x)
  seq_writes A B (First c) s x = A.writes c s x
  seq_writes A B (Second c) s x = B.writes c s x

  abbrev pub seq_faults : (A B : Machine X V) → InSeq A.Place B.Place → Store X V → Bool
  seq_faults A B (First c) s = A.faults c s
  seq_faults A B (Second c) s = B.faults c s

  abbrev pub seq_machine : Machine X V → Machine X V → Machine X V
  seq_machine A B =
      record {
        Place = InSeq A.Place B.Place;
        start = within First (second_start A B) A.start;
        step = seq_step A B;
        writes = seq_writes A B;
        faults = seq_faults A B;
      }

  abbrev pub par_machine : Machine X V → Machine X V → Machine X V
  par_machine A B = record {
    Place = InPar A.Place B.Place;
    start = join A.start B.start;
    step = λ c s. join (step A (left_of c) s) (step B (right_of c) s);
    writes = λ c s x. first_some (writes A (left_of c) s x) (writes B (right_of c) s x);
    faults = λ c s. faults A (left_of c) s || faults B (right_of c) s;
  }

  module _ {F : Type 0} (test : Store X V → Test F) where
    abbrev pub if_step : (A B : Machine X V) → InIf A.Place B.Place → Store X V → Control (InIf A.Place B.Place)
    if_step A B AtTest s = by_test (test s) (within InThen Done A.start) (within InElse Done B.start)
    if_step A B (InThen c) s = within InThen Done (A.step c s)
    if_step A B (InElse c) s = within InElse Done (B.step c s)

    abbrev pub if_writes : (A B : Machine X V) → InIf A.Place B.Place → Store X V → (x : X) → Option (V x)
    if_writes A B AtTest s x = None
    if_writes A B (InThen c) s x = A.writes c s x
    if_writes A B (InElse c) s x = B.writes c s x

    abbrev pub if_faults : (A B : Machine X V) → InIf A.Place B.Place → Store X V → Bool
    if_faults A B AtTest s = unclear (test s)
    if_faults A B (InThen c) s = A.faults c s
    if_faults A B (InElse c) s = B.faults c s

    abbrev pub if_machine : Machine X V → Machine X V → Machine X V
    if_machine A B =
        record {
          Place = InIf A.Place B.Place;
          start = At AtTest;
          step = if_step A B;
          writes = if_writes A B;
          faults = if_faults A B;
        }

    abbrev pub while_step : (A : Machine X V) → InWhile A.Place → Store X V → Control (InWhile A.Place)
    while_step A AtHead s = by_test (test s) (within InBody (At AtHead) A.start) Done
    while_step A (InBody c) s = within InBody (At AtHead) (A.step c s)

    abbrev pub while_writes : (A : Machine X V) → InWhile A.Place → Store X V → (x : X) → Option (V x)
    while_writes A AtHead s x = None
    while_writes A (InBody c) s x = A.writes c s x

    abbrev pub while_faults : (A : Machine X V) → InWhile A.Place → Store X V → Bool
    while_faults A AtHead s = unclear (test s)
    while_faults A (InBody c) s = A.faults c s

    abbrev pub while_machine : Machine X V → Machine X V
    while_machine A =
        record {
          Place = InWhile A.Place;
          start = At AtHead;
          step = while_step A;
          writes = while_writes A;
          faults = while_faults A;
        }

  abbrev pub next_round : (A : Machine X V) → ℕ → Control (InRepeat A.Place)
  next_round A zero = Done
  next_round A (suc k) = within (in_round k) (next_round A k) A.start

  abbrev pub repeat_machine : ℕ → Machine X V → Machine X V
  repeat_machine n A = record {
    Place = InRepeat A.Place;
    start = next_round A n;
    step = λ c s. within (in_round c.left) (next_round A c.left) (A.step c.place s);
    writes = λ c s x. A.writes c.place s x;
    faults = λ c s. A.faults c.place s;
  }
