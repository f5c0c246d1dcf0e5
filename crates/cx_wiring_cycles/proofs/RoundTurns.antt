-- One cycle of a repeat, whose register counts the rounds that are over, and of one arm of a par.
use Rattle.std.proofs.Common.{◌≡◌, ℕ, zero, suc, ◌+◌, ◌-◌, ◌<◌, ◌^◌, ◌==◌, Bool, true, false, not, ◌&&◌, if◌then◌else◌, List, [], ◌∷◌, ◌++◌, Option, Some, refl, sym, ap, ◌∙◌, arith}
use Rattle.std.proofs.lemmas.Bool.{lt-ltb, eq-eqb, ne_eqb}
use Rattle.std.proofs.Math.Nat.{mod-eq_of_lt}
use Rattle.cx_bits.specs.BitVector.{BitVector}
use Rattle.cx_bits.specs.Operators.{sum_of}
use Rattle.cx_lockstep.specs.Worlds.{At, Done}
use Rattle.cx_lockstep.specs.Machines.{in_round}
use Rattle.cx_control.specs.Codings.{Coding, bank_code, turned, repeat_coding}
use Rattle.cx_net.specs.Nets.{OfRegister, Sum, ToRegister, PlainNetDriver}
use Rattle.cx_net.specs.NetMeaning.{Node, AWire, NetAround, truth_bit, both_known}
use Rattle.cx_wiring.specs.Parts.{both, word, drive}
use Rattle.cx_wiring.specs.Stands.{Stand, end_of}
use Rattle.cx_wiring.specs.Control.{in_last_round, in_earlier_round, counting}
use Rattle.cx_wiring.specs.Takings.{value, Says, takes_of, takes}
use Rattle.cx_wiring.proofs.TakingLemmas.{takes_known, says_both, says_equals, says_differs}
use Rattle.cx_wiring_cycles.specs.Shown.{wide, Going, counted}
use Rattle.cx_wiring_cycles.specs.Turning.{Turns}
use Rattle.cx_wiring_cycles.proofs.FormTurns.{region_known, repeat_region, repeat_hole}
use Rattle.cx_wiring_cycles.proofs.ArmTurns.{wide_value}

turned_is : {A : Type 0} (a : Coding A) (count left : ℕ) → left < count → turned a count left ≡ count - suc left
turned_is a count left less = ap (λ t. if t then count - suc left else left) (lt-ltb left count less)

module _ (groups : ℕ) (around : NetAround) (registers : ℕ → Option BitVector) (look : Node → Option BitVector) where
  -- THE COUNT: cleared with the last round, one more where another round ends
  module _ (x : Stand) (kept next : ℕ) (is : registers x.register ≡ Some (wide kept))
      (taken : takes around registers look (ToRegister x.register) (Some (wide kept))
      (drive (ToRegister x.register) (end_of x.wire) (word 0) ∷ drive (ToRegister x.register) (end_of (suc (suc x.wire))) (Sum (OfRegister x.register) (word 1)) ∷ []) ≡ Some (wide next)) where
    count_of : (e f : Bool) → Says around registers look (end_of x.wire) e → Says around registers look (end_of (suc (suc x.wire))) f
        → Some (wide next) ≡ (if e then Some (wide 0) else if f then value around registers look (Sum (OfRegister x.register) (word 1)) else Some (wide kept))
    count_of e f h k =
        sym taken ∙ region_known around registers look x.register 0 (end_of x.wire) e _ h
        ∙ ap (λ l. if e then Some (wide 0) else l)
        (ap (λ s. takes_of around registers look s (drive (ToRegister x.register) (end_of (suc (suc x.wire))) (Sum (OfRegister x.register) (word 1))) (Some (wide kept))) (eq-eqb x.register x.register refl)
        ∙ takes_known around registers look (drive (ToRegister x.register) (end_of (suc (suc x.wire))) (Sum (OfRegister x.register) (word 1))) f (Some (wide kept)) k)

    count_stays : Says around registers look (end_of x.wire) false → Says around registers look (end_of (suc (suc x.wire))) false → next ≡ kept
    count_stays h k = wide_value next kept (count_of false false h k)

    count_cleared : (f : Bool) → Says around registers look (end_of x.wire) true → Says around registers look (end_of (suc (suc x.wire))) f → next ≡ 0
    count_cleared f h k = wide_value next 0 (count_of true f h k)

    count_goes : kept + 1 < 2 ^ 32 → Says around registers look (end_of x.wire) false → Says around registers look (end_of (suc (suc x.wire))) true → next ≡ kept + 1
    count_goes fits h k =
        wide_value next (kept + 1) (count_of false true h k ∙ ap (λ o. both_known sum_of o (Some (wide 1))) is ∙ ap (λ n. Some (wide n)) (mod-eq_of_lt fits))

  -- a repeat of suc k rounds, of which so many are left after this one
  module _ {A : Type 0} (a : Coding A) (x : Stand) (k r : ℕ) (xs : List PlainNetDriver) (next_a : ℕ → ℕ) (kept next : ℕ) (goes : List Going) (few : k < 2 ^ 32)
      (apart : (x.register == x.region) ≡ false) (is : registers x.register ≡ Some (wide kept)) (ends : look (AWire (suc x.wire)) ≡ value around registers look (both (end_of (suc (suc x.wire))) (in_last_round x k)))
      (taken : takes around registers look (ToRegister x.register) (Some (wide kept))
      (drive (ToRegister x.register) (end_of x.wire) (word 0) ∷ drive (ToRegister x.register) (end_of (suc (suc x.wire))) (Sum (OfRegister x.register) (word 1)) ∷ []) ≡ Some (wide next)) where
    end_is : (f : Bool) → Says around registers look (end_of (suc (suc x.wire))) f → Says around registers look (end_of x.wire) (f && (kept == k))
    end_is f h = ends ∙ says_both around registers look (end_of (suc (suc x.wire))) (in_last_round x k) f (kept == k) h (says_equals around registers look (OfRegister x.register) (wide kept) k is)

    again_is : (f : Bool) → Says around registers look (end_of (suc (suc x.wire))) f → Says around registers look (both (end_of (suc (suc x.wire))) (in_earlier_round x k)) (f && not (kept == k))
    again_is f h = says_both around registers look (end_of (suc (suc x.wire))) (in_earlier_round x k) f (not (kept == k)) h (says_differs around registers look (OfRegister x.register) (wide kept) k is)

    -- the round goes on
    pub round_goes : (left : ℕ) (p : A) → kept ≡ turned a (suc k) left → Turns groups around registers look a (suc (suc x.wire)) x.region x.position r xs next_a goes (At p)
        → Turns groups around registers look (repeat_coding a (suc k)) x.wire x.region x.position r (xs ++ counting x k) (counted next next_a) goes (At (in_round left p))
    round_goes left p so t = record {
      ends = end_is false t.ends;
      moves = repeat_region around registers look x k xs (Some (wide r)) false apart (again_is false t.ends) ∙ t.moves;
      others = numbers;
      goes_so = λ g o. repeat_hole around registers look x k xs (groups + g) o ∙ t.goes_so g o;
    }
      where
        numbers : (n : ℕ) → n < suc a.extra → counted next next_a n ≡ bank_code (repeat_coding a (suc k)) (At (in_round left p)) (suc n)
        numbers zero less = count_stays x kept next is taken (end_is false t.ends) t.ends ∙ so
        numbers (suc n) less = t.others n (omega arith)

    -- the last one ends
    pub rounds_end : kept ≡ turned a (suc k) 0 → Turns groups around registers look a (suc (suc x.wire)) x.region x.position r xs next_a goes Done
        → Turns groups around registers look (repeat_coding a (suc k)) x.wire x.region x.position r (xs ++ counting x k) (counted next next_a) goes Done
    rounds_end so t = record {
      ends = over;
      moves = λ o. repeat_region around registers look x k xs o false apart (again_is true t.ends ∙ ap (λ b. Some (truth_bit (not b))) last) ∙ t.moves o;
      others = numbers;
      goes_so = λ g o. repeat_hole around registers look x k xs (groups + g) o ∙ t.goes_so g o;
    }
      where
        last : (kept == k) ≡ true
        last = let some : 0 < suc k = omega arith in let back : suc k - 1 ≡ k = omega arith in eq-eqb kept k (so ∙ turned_is a (suc k) 0 some ∙ back)

        over : Says around registers look (end_of x.wire) true
        over = end_is true t.ends ∙ ap (λ b. Some (truth_bit b)) last

        numbers : (n : ℕ) → n < suc a.extra → counted next next_a n ≡ 0
        numbers zero less = count_cleared x kept next is taken true over t.ends
        numbers (suc n) less = t.others n (omega arith)

    -- another one begins
    pub round_begins : (left : ℕ) (p : A) → suc left < suc k → kept ≡ turned a (suc k) (suc left) → a.number p ≡ 0 → ((j : ℕ) → a.other p j ≡ 0)
        → Turns groups around registers look a (suc (suc x.wire)) x.region x.position r xs next_a goes Done
        → Turns groups around registers look (repeat_coding a (suc k)) x.wire x.region x.position r (xs ++ counting x k) (counted next next_a) goes (At (in_round left p))
    round_begins left p less so first zeros_at t = record {
      ends = on;
      moves = repeat_region around registers look x k xs (Some (wide r)) true apart (again_is true t.ends ∙ ap (λ b. Some (truth_bit (not b))) earlier) ∙ t.moves (Some (wide x.position)) ∙ ap (λ n. Some (wide n)) place;
      others = numbers;
      goes_so = λ g o. repeat_hole around registers look x k xs (groups + g) o ∙ t.goes_so g o;
    }
      where
        count : kept ≡ suc k - suc (suc left)
        count = so ∙ turned_is a (suc k) (suc left) less

        earlier : (kept == k) ≡ false
        earlier = ne_eqb kept k (λ e. let c : kept ≡ suc k - suc (suc left) = count in omega arith)

        on : Says around registers look (end_of x.wire) false
        on = end_is true t.ends ∙ ap (λ b. Some (truth_bit b)) earlier

        place : x.position ≡ x.position + a.number p
        place = let z : a.number p ≡ 0 = first in omega arith

        numbers : (n : ℕ) → n < suc a.extra → counted next next_a n ≡ bank_code (repeat_coding a (suc k)) (At (in_round left p)) (suc n)
        numbers zero fewer =
            let c : kept ≡ suc k - suc (suc left) = count in
            let fits : kept + 1 < 2 ^ 32 = below (2 ^ 32) few c in
            let more : kept + 1 ≡ suc k - suc left = omega arith in
            let within_count : left < suc k = omega arith in
            count_goes x kept next is taken fits on t.ends ∙ more ∙ sym (turned_is a (suc k) left within_count)
          where
            below : (m : ℕ) → k < m → kept ≡ suc k - suc (suc left) → kept + 1 < m
            below m f c = omega arith
        numbers (suc n) fewer = t.others n (omega arith) ∙ sym (zeros_at n)
