-- Places as numbers: of a region a number below its size, and beside it numbers that are 0 where nothing is under way.
use Rattle.std.specs.Prelude.{ℕ, zero, suc, ◌+◌, ◌-◌, ◌<◌, nat_lt, Option, Some, None, option_map, if◌then◌else◌}
use Rattle.cx_lockstep.specs.Worlds.{Control, At, Done}
use Rattle.cx_lockstep.specs.Machines.{InSeq, First, Second, InPar, InIf, AtTest, InThen, InElse, InWhile, AtHead, InBody, InRepeat, in_round, left_of, right_of, join}

-- the places of a region as numbers; a place is fine where its numbers give it back
pub record Coding (P : Type 0) : Type 1 where
  pub size : ℕ
  -- how many numbers stand beside that of the place
  pub extra : ℕ
  pub number : P → ℕ
  pub other : P → ℕ → ℕ
  pub place : ℕ → (ℕ → ℕ) → Option P
  pub IsFine : P → Type 0

-- control in a bank of numbers, the region's own first; where it is done that is its size
pub record Bank (P : Type 0) : Type 1 where
  pub count : ℕ
  pub code : Control P → ℕ → ℕ
  pub decode : (ℕ → ℕ) → Control P
  pub IsFine : P → Type 0

-- some numbers, and others behind them
abbrev pub beside : ℕ → (ℕ → ℕ) → (ℕ → ℕ) → ℕ → ℕ
beside count first later j = if nat_lt j count then first j else later (j - count)

-- the numbers behind so many
abbrev pub shift : ℕ → (ℕ → ℕ) → ℕ → ℕ
shift count numbers j = numbers (count + j)

abbrev pub zeros : ℕ → ℕ
zeros j = 0

-- where control is done there is nothing to be fine
abbrev pub at_fine : {P : Type 0} → (P → Type 0) → Control P → Type 0
at_fine fine (At p) = fine p
at_fine fine Done = Unit {0}

abbrev pub one_place : ℕ → Option (Unit {0})
one_place zero = Some tt
one_place (suc n) = None

abbrev pub unit_coding : Coding (Unit {0})
unit_coding =
    record {
      size = 1;
      extra = 0;
      number = λ p. 0;
      other = λ p. zeros;
      place = λ n numbers. one_place n;
      IsFine = λ p. Unit {0};
    }

abbrev pub no_coding : Coding ⊥
no_coding =
    record {
      size = 0;
      extra = 0;
      number = λ p. 0;
      other = λ p. zeros;
      place = λ n numbers. None;
      IsFine = λ p. Unit {0};
    }

module _ {A B : Type 0} (a : Coding A) (b : Coding B) where
  -- the places of the first part, and behind them those of the second
  abbrev pub seq_number : InSeq A B → ℕ
  seq_number (First p) = a.number p
  seq_number (Second p) = a.size + b.number p

  abbrev pub seq_other : InSeq A B → ℕ → ℕ
  seq_other (First p) = beside a.extra (a.other p) zeros
  seq_other (Second p) = beside a.extra zeros (b.other p)

  abbrev pub seq_place : ℕ → (ℕ → ℕ) → Option (InSeq A B)
  seq_place n numbers =
      if nat_lt n a.size then option_map First (a.place n numbers)
      else option_map Second (b.place (n - a.size) (shift a.extra numbers))

  abbrev pub seq_fine : InSeq A B → Type 0
  seq_fine (First p) = a.IsFine p
  seq_fine (Second p) = b.IsFine p

  abbrev pub seq_coding : Coding (InSeq A B)
  seq_coding =
      record {
        size = a.size + b.size;
        extra = a.extra + b.extra;
        number = seq_number;
        other = seq_other;
        place = seq_place;
        IsFine = seq_fine;
      }

  -- the test, and behind it the places of the branches
  abbrev pub branch_of : InSeq A B → InIf A B
  branch_of (First p) = InThen p
  branch_of (Second p) = InElse p

  abbrev pub if_number : InIf A B → ℕ
  if_number AtTest = 0
  if_number (InThen p) = suc (seq_number (First p))
  if_number (InElse p) = suc (seq_number (Second p))

  abbrev pub if_other : InIf A B → ℕ → ℕ
  if_other AtTest = zeros
  if_other (InThen p) = seq_other (First p)
  if_other (InElse p) = seq_other (Second p)

  abbrev pub if_place : ℕ → (ℕ → ℕ) → Option (InIf A B)
  if_place zero numbers = Some AtTest
  if_place (suc n) numbers = option_map branch_of (seq_place n numbers)

  abbrev pub if_fine : InIf A B → Type 0
  if_fine AtTest = Unit {0}
  if_fine (InThen p) = a.IsFine p
  if_fine (InElse p) = b.IsFine p

  abbrev pub if_coding : Coding (InIf A B)
  if_coding =
      record {
        size = suc (a.size + b.size);
        extra = a.extra + b.extra;
        number = if_number;
        other = if_other;
        place = if_place;
        IsFine = if_fine;
      }

module _ {A : Type 0} (a : Coding A) where
  abbrev pub while_number : InWhile A → ℕ
  while_number AtHead = 0
  while_number (InBody p) = suc (a.number p)

  abbrev pub while_other : InWhile A → ℕ → ℕ
  while_other AtHead = zeros
  while_other (InBody p) = a.other p

  abbrev pub while_place : ℕ → (ℕ → ℕ) → Option (InWhile A)
  while_place zero numbers = Some AtHead
  while_place (suc n) numbers = option_map InBody (a.place n numbers)

  abbrev pub while_fine : InWhile A → Type 0
  while_fine AtHead = Unit {0}
  while_fine (InBody p) = a.IsFine p

  abbrev pub while_coding : Coding (InWhile A)
  while_coding =
      record {
        size = suc a.size;
        extra = a.extra;
        number = while_number;
        other = while_other;
        place = while_place;
        IsFine = while_fine;
      }

  -- rounds that are over from those that are left, of so many, and the other way
  abbrev pub turned : ℕ → ℕ → ℕ
  turned count n = if nat_lt n count then count - suc n else n

  abbrev pub repeat_other : ℕ → InRepeat A → ℕ → ℕ
  repeat_other count p zero = turned count p.left
  repeat_other count p (suc j) = a.other p.place j

  -- fewer rounds are left than there are
  pub record IsFineRound (count : ℕ) (p : InRepeat A) : Type 0 where
    pub less : p.left < count
    pub body : a.IsFine p.place

  abbrev pub repeat_coding : ℕ → Coding (InRepeat A)
  repeat_coding count = record {
    size = a.size;
    extra = suc a.extra;
    number = λ p. a.number p.place;
    other = repeat_other count;
    place = λ n numbers. option_map (in_round (turned count (numbers 0))) (a.place n (shift 1 numbers));
    IsFine = IsFineRound count;
  }

  abbrev pub bank_code : Control A → ℕ → ℕ
  bank_code (At p) zero = a.number p
  bank_code (At p) (suc j) = a.other p j
  bank_code Done zero = a.size
  bank_code Done (suc j) = 0

  abbrev pub control_at : Option A → Control A
  control_at None = Done
  control_at (Some p) = At p

  abbrev pub region_bank : Bank A
  region_bank =
      record {
        count = suc a.extra;
        code = bank_code;
        decode = λ numbers. control_at (a.place (numbers 0) (shift 1 numbers));
        IsFine = a.IsFine;
      }

abbrev pub done_bank : Bank ⊥
done_bank = record { count = 0; code = λ k. zeros; decode = λ numbers. Done; IsFine = λ p. Unit {0} }

module _ {A B : Type 0} where
  abbrev pub left_control : Control (InPar A B) → Control A
  left_control (At p) = left_of p
  left_control Done = Done

  abbrev pub right_control : Control (InPar A B) → Control B
  right_control (At p) = right_of p
  right_control Done = Done

  module _ (a : Bank A) (b : Bank B) where
    pub record AreFine (p : InPar A B) : Type 0 where
      pub left : at_fine a.IsFine (left_of p)
      pub right : at_fine b.IsFine (right_of p)

    abbrev pub par_bank : Bank (InPar A B)
    par_bank = record {
      count = a.count + b.count;
      code = λ k. beside a.count (a.code (left_control k)) (b.code (right_control k));
      decode = λ numbers. join (a.decode numbers) (b.decode (shift a.count numbers));
      IsFine = AreFine;
    }

abbrev pub place_in : {P : Type 0} → Control P → Option P
place_in (At p) = Some p
place_in Done = None

abbrev pub only_place : {P : Type 0} → Control P → ℕ → Option P
only_place k zero = place_in k
only_place k (suc n) = None

-- a par is one place of the region around it
abbrev pub bank_coding : {P : Type 0} → Bank P → Coding P
bank_coding b =
    record {
      size = 1;
      extra = b.count;
      number = λ p.
          0;
      other = λ p. b.code (At p);
      place = λ n numbers. only_place (b.decode numbers) n;
      IsFine = b.IsFine;
    }
