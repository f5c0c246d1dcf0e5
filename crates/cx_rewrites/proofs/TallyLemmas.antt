-- Tallies add as numbers do, and parts that are run one after another count one after another.
use Rattle.std.proofs.Common.{◌≡◌, ℕ, zero, suc, refl, arith}
use Rattle.std.proofs.Math.Path.{fun_ext}
use Rattle.cx_meaning.specs.Instances.{Path, State}
use Rattle.cx_meaning.specs.Cycles.{Fault}
use Rattle.cx_meaning.specs.Answers.{Answer, End, More, Turn, Ends, Goes, Faults}
use Rattle.cx_meaning.specs.Answers as answers
use Rattle.cx_rewrites.specs.Tallies.{Tally, none, plus, then_count, turn_count, one_count}

-- tallies with the same numbers are one tally
pub same_numbers : (a b : Tally) → ((path : Path) (g : ℕ) → a path g ≡ b path g) → a ≡ b
same_numbers a b h = fun_ext (λ path. fun_ext (λ g. h path g))

pub plus-none : (a : Tally) → plus a none ≡ a
plus-none a = same_numbers (plus a none) a (λ path g. omega arith)

pub plus-plus : (a b c : Tally) → plus (plus a b) c ≡ plus a (plus b c)
plus-plus a b c = same_numbers (plus (plus a b) c) (plus a (plus b c)) (λ path g. omega arith)

pub none-plus : (a : Tally) → plus none a ≡ a
none-plus a = same_numbers (plus none a) a (λ path g. omega arith)

-- a turn in which nothing is counted, and no more after it
pub one_none : (turn : State → Turn State Fault) (s : State) (n : ℕ) → one_count turn none (λ a k. none) s n ≡ none
one_none turn s zero = refl
one_none turn s (suc n) = one (turn s)
  where
    one : (t : Turn State Fault) → turn_count t (λ after. plus none none) ≡ none
    one Ends = refl
    one (Goes a) = plus-none none
    one (Faults f) = refl

pub then_none : (o : Answer State Fault) (n : ℕ) → then_count o n (λ s k. none) ≡ none
then_none (End s t) n = refl
then_none (answers.Fault f t) n = refl
then_none More n = refl
