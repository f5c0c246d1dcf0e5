-- One cycle of a part and what follows it, and of numbers beside each other.
use Rattle.std.proofs.Common.{◌≡◌, ℕ, ◌+◌, ◌-◌, ◌<◌, ◌≤◌, Bool, true, false, if◌then◌else◌, List, ◌∷◌, ◌++◌, Option, Some, nat_lt, refl, sym, ap, ◌∙◌, arith}
use Rattle.std.proofs.lemmas.Bool.{ltb-true, ltb-false, lt-ltb, le-ltb}
use Rattle.cx_bits.specs.BitVector.{BitVector}
use Rattle.cx_lockstep.specs.Worlds.{Control, At, Done, is_done}
use Rattle.cx_lockstep.specs.Machines.{First, Second, within}
use Rattle.cx_control.specs.Codings.{Coding, beside, zeros, seq_coding}
use Rattle.cx_net.specs.Nets.{ToRegister, ToHole, PlainNetDriver}
use Rattle.cx_net.specs.NetMeaning.{Node, NetAround}
use Rattle.cx_wiring.specs.Takings.{Says, takes, AllIdle}
use Rattle.cx_wiring.proofs.TakingLemmas.{takes_append, passes, idle_passes}
use Rattle.cx_wiring_cycles.specs.Shown.{wide, Going}
use Rattle.cx_wiring_cycles.specs.Turning.{Turns, Moves, Enters}
use Rattle.cx_text.proofs.BoolLaws.{either_zero}

-- NUMBERS beside each other
pub beside_same : (c d : ℕ) (a b f g : ℕ → ℕ) → ((j : ℕ) → j < c → a j ≡ f j) → ((j : ℕ) → j < d → b j ≡ g j) → (n : ℕ) → n < c + d → beside c a b n ≡ beside c f g n
beside_same c d a b f g first later n less = choice (nat_lt n c) refl
  where
    choice : (t : Bool) → nat_lt n c ≡ t → (if t then a n else b (n - c)) ≡ (if t then f n else g (n - c))
    choice true e = first n (ltb-true n c e)
    choice false e = let l : c ≤ n = ltb-false n c e in later (n - c) (omega arith)

pub beside_first : (c d : ℕ) (a b f g : ℕ → ℕ) → ((n : ℕ) → n < c + d → beside c a b n ≡ beside c f g n) → (j : ℕ) → j < c → a j ≡ f j
beside_first c d a b f g same j less =
    sym (ap (λ t. if t then a j else b (j - c)) (lt-ltb j c less)) ∙ same j (omega arith) ∙ ap (λ t. if t then f j else g (j - c)) (lt-ltb j c less)

pub beside_later : (c d : ℕ) (a b f g : ℕ → ℕ) → ((n : ℕ) → n < c + d → beside c a b n ≡ beside c f g n) → (j : ℕ) → j < d → b j ≡ g j
beside_later c d a b f g same j less =
    let back : (c + j) - c ≡ j = omega arith in
    sym (ap (λ t. if t then a (c + j) else b ((c + j) - c)) (le-ltb (c + j) c (omega arith)) ∙ ap b back)
    ∙ same (c + j) (omega arith) ∙ ap (λ t. if t then f (c + j) else g ((c + j) - c)) (le-ltb (c + j) c (omega arith)) ∙ ap g back

pub beside_zero : (c : ℕ) (n : ℕ) → beside c zeros zeros n ≡ 0
beside_zero c n = either_zero (nat_lt n c)

pub zero_first : (c d : ℕ) (a b : ℕ → ℕ) → ((n : ℕ) → n < c + d → beside c a b n ≡ 0) → (j : ℕ) → j < c → a j ≡ 0
zero_first c d a b same = beside_first c d a b zeros zeros (λ n less. same n less ∙ sym (beside_zero c n))

pub zero_later : (c d : ℕ) (a b : ℕ → ℕ) → ((n : ℕ) → n < c + d → beside c a b n ≡ 0) → (j : ℕ) → j < d → b j ≡ 0
zero_later c d a b same = beside_later c d a b zeros zeros (λ n less. same n less ∙ sym (beside_zero c n))

module _ (groups : ℕ) (around : NetAround) (registers : ℕ → Option BitVector) (look : Node → Option BitVector) where
  -- a driver of the region before the others that does not act
  pub behind_idle : {P : Type 0} (coding : Coding P) (wire region position r : ℕ) (d : PlainNetDriver) (ds : List PlainNetDriver) (next : ℕ → ℕ) (goes : List Going) (k : Control P)
      → Says around registers look d.guard false → Turns groups around registers look coding wire region position r ds next goes k
      → Turns groups around registers look coding wire region position r (d ∷ ds) next goes k
  behind_idle {P = P} coding wire region position r d ds next goes k off t = record {
    ends = t.ends;
    moves = moved k t.moves;
    others = t.others;
    goes_so = λ g o. passes around registers look _ d (takes around registers look (ToHole (groups + g)) o ds) off ∙ t.goes_so g o;
  }
    where
      moved : (k : Control P) → Moves groups around registers look coding region position r ds k → Moves groups around registers look coding region position r (d ∷ ds) k
      moved (At p) m = passes around registers look _ d (takes around registers look (ToRegister region) (Some (wide r)) ds) off ∙ m
      moved Done m = λ o. passes around registers look _ d (takes around registers look (ToRegister region) o ds) off ∙ m o

  module _ {A B : Type 0} (a : Coding A) (b : Coding B) (xs ys : List PlainNetDriver) (first wire region position r : ℕ) (next_a next_b : ℕ → ℕ) (goes : List Going) where
    -- THE FIRST PART stands, and where it ends now what follows begins
    pub then_first : (start : Control B) (k : Control A) → Turns groups around registers look a first region position r xs next_a goes k
        → Enters groups around registers look b start wire region (position + a.size) ys next_b (is_done k)
        → Turns groups around registers look (seq_coding a b) wire region position r (xs ++ ys) (beside a.extra next_a next_b) goes (within First (within Second Done start) k)
    then_first start (At p) t e = record {
      ends = e.ends;
      moves = takes_append around registers look (ToRegister region) (Some (wide r)) xs ys ∙ ap (λ o. takes around registers look (ToRegister region) o xs) (e.moves (Some (wide r))) ∙ t.moves;
      others = λ n less. beside_same a.extra b.extra next_a next_b (a.other p) zeros t.others e.rests n less;
      goes_so = λ g o. takes_append around registers look (ToHole (groups + g)) o xs ys ∙ ap (λ o. takes around registers look (ToHole (groups + g)) o xs) (e.silent g o) ∙ t.goes_so g o;
    }
    then_first (At q) Done t e =
        let zero_at : b.number q ≡ 0 = e.at_first q refl in
        let place : position + a.size ≡ position + (a.size + b.number q) = omega arith in
        record {
          ends = e.ends;
          moves = takes_append around registers look (ToRegister region) (Some (wide r)) xs ys ∙ ap (λ o. takes around registers look (ToRegister region) o xs) (e.moves (Some (wide r)))
              ∙ t.moves (Some (wide (position + a.size))) ∙ ap (λ n. Some (wide n)) place;
          others = λ n less. beside_same a.extra b.extra next_a next_b zeros (b.other q) t.others (λ j l. e.rests j l ∙ sym (e.zeros_at q refl j)) n less;
          goes_so = λ g o. takes_append around registers look (ToHole (groups + g)) o xs ys ∙ ap (λ o. takes around registers look (ToHole (groups + g)) o xs) (e.silent g o) ∙ t.goes_so g o;
        }
    then_first Done Done t e = record {
      ends = e.ends;
      moves = λ o. takes_append around registers look (ToRegister region) o xs ys ∙ ap (λ o. takes around registers look (ToRegister region) o xs) (e.moves o) ∙ t.moves o;
      others = λ n less. beside_same a.extra b.extra next_a next_b zeros zeros t.others e.rests n less ∙ beside_zero a.extra n;
      goes_so = λ g o. takes_append around registers look (ToHole (groups + g)) o xs ys ∙ ap (λ o. takes around registers look (ToHole (groups + g)) o xs) (e.silent g o) ∙ t.goes_so g o;
    }

    -- WHAT FOLLOWS stands
    pub then_second : (k : Control B) → AllIdle around registers look xs → ((n : ℕ) → n < a.extra → next_a n ≡ 0)
        → Turns groups around registers look b wire region (position + a.size) r ys next_b goes k
        → Turns groups around registers look (seq_coding a b) wire region position r (xs ++ ys) (beside a.extra next_a next_b) goes (within Second Done k)
    then_second (At q) idle rests t =
        let place : (position + a.size) + b.number q ≡ position + (a.size + b.number q) = omega arith in
        record {
          ends = t.ends;
          moves = takes_append around registers look (ToRegister region) (Some (wide r)) xs ys ∙ idle_passes around registers look (ToRegister region) tt _ xs idle ∙ t.moves ∙ ap (λ n. Some (wide n)) place;
          others = λ n less. beside_same a.extra b.extra next_a next_b zeros (b.other q) rests t.others n less;
          goes_so = λ g o. takes_append around registers look (ToHole (groups + g)) o xs ys ∙ idle_passes around registers look (ToHole (groups + g)) tt _ xs idle ∙ t.goes_so g o;
        }
    then_second Done idle rests t = record {
      ends = t.ends;
      moves = λ o. takes_append around registers look (ToRegister region) o xs ys ∙ idle_passes around registers look (ToRegister region) tt _ xs idle ∙ t.moves o;
      others = λ n less. beside_same a.extra b.extra next_a next_b zeros zeros rests t.others n less ∙ beside_zero a.extra n;
      goes_so = λ g o. takes_append around registers look (ToHole (groups + g)) o xs ys ∙ idle_passes around registers look (ToHole (groups + g)) tt _ xs idle ∙ t.goes_so g o;
    }
