-- The value of a net in one cycle.
use Rattle.std.specs.Prelude.{◌≡◌, ℕ, ◌<◌, ◌==◌, nat_lt, IsSome, List, [], ◌∷◌, Option, Some, option_and_then, option_map, if◌then◌else◌, codes}
use Rattle.cx_bits.specs.BitVector.{BitVector}
use Rattle.cx_vtree.specs.Plain.{PlainExpr, Named, Number, Part, Word, Applied, Inverted, Chosen, Joined, PlainDecl, WireOf, RegisterOf, ArrayOf}
use Rattle.cx_vtree.specs.Operators.{operate, inverted, part_of, joined}
use Rattle.cx_vtree.specs.InstanceTree.{Placed, same_name, decls_at, Origin, Outside, Tied, Held, Given, origin_of}

-- the registers and the words of arrays, by instance and name
pub record State : Type 0 where
  pub register : ℕ → List ℕ → ℕ
  pub word : ℕ → List ℕ → ℕ → ℕ

-- one cycle: what is stored, and the inputs of `main`
pub record Moment : Type 0 where
  pub state : State
  pub reset : ℕ
  pub go : ℕ

-- a cycle of the edge with reset, and one of the run after it
abbrev pub resetting : State → Moment
resetting s = record { state = s; reset = 1; go = 0 }

abbrev pub running : State → Moment
running s = record { state = s; reset = 0; go = 1 }

-- an input of `main`; the clock, which no expression reads, is 0
abbrev pub outside_value : Moment → List ℕ → BitVector
outside_value m name =
    record {
      width = 1;
      value = if same_name name (codes "reset") then m.reset
          else (if same_name name (codes "go") then m.go else 0);
    }

-- the word of an array at an index; 0 from its length on
abbrev pub word_in : (List ℕ → ℕ → ℕ) → List PlainDecl → List ℕ → ℕ → BitVector
word_in words [] name index = record { width = 0; value = 0 }
word_in words (ArrayOf n w k ∷ ds) name index =
    if same_name n name then record { width = w; value = if nat_lt index k then words name index else 0 }
    else word_in words ds name index
word_in words (WireOf n w ∷ ds) name index = word_in words ds name index
word_in words (RegisterOf n w ∷ ds) name index = word_in words ds name index

-- an expression, where `nets` is what is known of the nets; None where a net that it needs is not known
abbrev pub expr_in : (List ℕ → Option BitVector) → (List ℕ → ℕ → BitVector) → PlainExpr → Option BitVector
expr_in nets words (Named n) = nets n
expr_in nets words (Number b) = Some b
expr_in nets words (Part n high low) = option_map (part_of high low) (nets n)
expr_in nets words (Word n i) = option_map (λ k. words n k.value) (expr_in nets words i)
expr_in nets words (Applied op a b) =
    option_and_then (λ x. option_map (operate op x) (expr_in nets words b)) (expr_in nets words a)
expr_in nets words (Inverted a) = option_map inverted (expr_in nets words a)
expr_in nets words (Chosen c a b) =
    option_and_then (λ t. if t.value == 0 then expr_in nets words b else expr_in nets words a)
    (expr_in nets words c)
expr_in nets words (Joined a b) =
    option_and_then (λ x. option_map (joined x) (expr_in nets words b)) (expr_in nets words a)

-- A look is what is known of the nets so far, by instance and name.
abbrev pub Look : Type 0
Look = ℕ → List ℕ → Option BitVector

-- an expression of an instance
abbrev pub expr_at : List Placed → Moment → Look → ℕ → PlainExpr → Option BitVector
expr_at tree m look i e = expr_in (look i) (word_in (m.state.word i) (decls_at tree i)) e

abbrev pub from_origin : List Placed → Moment → Look → ℕ → List ℕ → Origin → Option BitVector
from_origin tree m look i name Outside = Some (outside_value m name)
from_origin tree m look i name (Tied j net) = look j net
from_origin tree m look i name (Held w) = Some (record { width = w; value = m.state.register i name })
from_origin tree m look i name (Given e) = expr_at tree m look i e

-- one rule: a net has the value that what is known gives it
abbrev pub step : List Placed → Moment → Look → ℕ → List ℕ → Option BitVector
step tree m look i name = option_and_then (from_origin tree m look i name) (origin_of tree i name)

-- the net of a name in an instance has a value: by one rule from nets that have theirs
pub data HasValue (tree : List Placed) (m : Moment) : ℕ → List ℕ → BitVector → Type 0 where
  by_step : {i : ℕ} {name : List ℕ} {v : BitVector} (look : Look)
      → ((j : ℕ) (net : List ℕ) (w : BitVector) → look j net ≡ Some w → HasValue tree m j net w)
      → step tree m look i name ≡ Some v → HasValue tree m i name v

-- what is known is so
abbrev pub IsRight : List Placed → Moment → Look → Type 0
IsRight tree m look = (j : ℕ) (net : List ℕ) (w : BitVector) → look j net ≡ Some w → HasValue tree m j net w

-- an expression of an instance has a value: from nets that have theirs
pub data Eval (tree : List Placed) (m : Moment) : ℕ → PlainExpr → BitVector → Type 0 where
  by_nets : {i : ℕ} {e : PlainExpr} {v : BitVector} (look : Look)
      → ((j : ℕ) (net : List ℕ) (w : BitVector) → look j net ≡ Some w → HasValue tree m j net w)
      → expr_at tree m look i e ≡ Some v → Eval tree m i e v

-- the nets of its instance that an expression needs: of a choice, those of the test and of the chosen side alone
pub data Asks (tree : List Placed) (m : Moment) (i : ℕ) : PlainExpr → List ℕ → Type 0 where
  by_name : {n : List ℕ} → Asks tree m i (Named n) n
  by_part : {n : List ℕ} {high low : ℕ} → Asks tree m i (Part n high low) n
  by_index : {a n : List ℕ} {e : PlainExpr} → Asks tree m i e n → Asks tree m i (Word a e) n
  by_left : {op : _} {a b : PlainExpr} {n : List ℕ} → Asks tree m i a n → Asks tree m i (Applied op a b) n
  by_right : {op : _} {a b : PlainExpr} {n : List ℕ} → Asks tree m i b n → Asks tree m i (Applied op a b) n
  by_inner : {a : PlainExpr} {n : List ℕ} → Asks tree m i a n → Asks tree m i (Inverted a) n
  by_test : {c a b : PlainExpr} {n : List ℕ} → Asks tree m i c n → Asks tree m i (Chosen c a b) n
  by_one : {c a b : PlainExpr} {n : List ℕ} {v : BitVector} → Eval tree m i c v → (v.value ≡ 0 → ⊥)
      → Asks tree m i a n → Asks tree m i (Chosen c a b) n
  by_other : {c a b : PlainExpr} {n : List ℕ} {v : BitVector} → Eval tree m i c v → v.value ≡ 0
      → Asks tree m i b n → Asks tree m i (Chosen c a b) n
  by_high : {a b : PlainExpr} {n : List ℕ} → Asks tree m i a n → Asks tree m i (Joined a b) n
  by_low : {a b : PlainExpr} {n : List ℕ} → Asks tree m i b n → Asks tree m i (Joined a b) n

-- the nets that a net needs
pub data Needs (tree : List Placed) (m : Moment) : ℕ → List ℕ → ℕ → List ℕ → Type 0 where
  when_tied : {i j : ℕ} {name net : List ℕ} → origin_of tree i name ≡ Some (Tied j net) → Needs tree m i name j net
  when_given : {i : ℕ} {name net : List ℕ} {e : PlainExpr} → origin_of tree i name ≡ Some (Given e)
      → Asks tree m i e net → Needs tree m i name i net

-- a rank goes down along what is needed, and what is needed is a net that something drives
abbrev pub GoesDown : List Placed → Moment → (ℕ → List ℕ → ℕ) → Type 0
GoesDown tree m rank =
    (i : ℕ) (name : List ℕ) (j : ℕ) (net : List ℕ) → Needs tree m i name j net
    → (rank j net < rank i name) × IsSome (origin_of tree j net)

-- a net has one value at most
abbrev pub OneValue : Type 0
OneValue =
    (tree : List Placed) (m : Moment) (i : ℕ) (name : List ℕ) (v w : BitVector) → HasValue tree m i name v
    → HasValue tree m i name w → v ≡ w

-- an expression has one value at most
abbrev pub OneEval : Type 0
OneEval =
    (tree : List Placed) (m : Moment) (i : ℕ) (e : PlainExpr) (v w : BitVector) → Eval tree m i e v
    → Eval tree m i e w → v ≡ w

-- where a rank goes down along what is needed in this cycle, each net that something drives has a value
abbrev pub RankedHave : Type 0
RankedHave = (tree : List Placed) (m : Moment) (rank : ℕ → List ℕ → ℕ) → GoesDown tree m rank
    → (i : ℕ) (name : List ℕ) → IsSome (origin_of tree i name) → (v : BitVector) × HasValue tree m i name v
