-- Numbers give fine places back, for every form: what a coding owes, and that the codings of forms keep it.
use Rattle.std.proofs.Common.{◌≡◌, ℕ, zero, suc, ◌+◌, ◌-◌, ◌<◌, ◌≤◌, nat_lt, Bool, true, false, Option, Some, None, if◌then◌else◌, refl, sym, ap, ◌∙◌, subst, arith}
use Rattle.std.specs.Prelude.{option_map}
use Rattle.std.proofs.lemmas.Bool.{lt-ltb, ltb-true, le-ltb}
use Rattle.cx_meaning.specs.Answers.{Test, Holds, Fails, Unclear}
use Rattle.cx_lockstep.specs.Worlds.{Store, Control, At, Done, Machine, step}
use Rattle.cx_lockstep.specs.Machines.{within, InSeq, First, Second, second_start, seq_machine, InPar, Both, LeftOnly, RightOnly, left_of, right_of, join, par_machine, InIf, AtTest, InThen, InElse, if_machine, by_test, InWhile, AtHead, InBody, while_machine, InRepeat, in_round, next_round, repeat_machine, done_machine}
use Rattle.cx_control.specs.Codings.{Coding, Bank, beside, shift, zeros, at_fine, unit_coding, no_coding, seq_number, seq_other, seq_place, seq_fine, seq_coding, branch_of, if_number, if_other, if_place, if_fine, if_coding, while_number, while_other, while_place, while_fine, while_coding, turned, repeat_other, IsFineRound, repeat_coding, bank_code, control_at, region_bank, done_bank, left_control, right_control, AreFine, par_bank, place_in, only_place, bank_coding}

-- the same on so many first numbers
abbrev pub SameUpTo : ℕ → (ℕ → ℕ) → (ℕ → ℕ) → Type 0
SameUpTo count a b = (j : ℕ) → j < count → a j ≡ b j

beside_left : (count : ℕ) (a b : ℕ → ℕ) (j : ℕ) → j < count → beside count a b j ≡ a j
beside_left count a b j less = ap (λ t. if t then a j else b (j - count)) (lt-ltb j count less)

beside_right : (count : ℕ) (a b : ℕ → ℕ) (j : ℕ) → shift count (beside count a b) j ≡ b j
beside_right count a b j =
    let back : (count + j) - count ≡ j = omega arith in
    ap (λ t. if t then a (count + j) else b ((count + j) - count)) (le-ltb (count + j) count (omega arith)) ∙ ap b back

pub beside_none : (count : ℕ) (a b : ℕ → ℕ) → ((j : ℕ) → a j ≡ 0) → ((j : ℕ) → b j ≡ 0) → (j : ℕ)
    → beside count a b j ≡ 0
beside_none count a b first second j = either (nat_lt j count)
  where
    either : (t : Bool) → ◌≡◌ {A = ℕ} (if t then a j else b (j - count)) 0
    either true = first j
    either false = second (j - count)

left_same : (count more : ℕ) (a b : ℕ → ℕ) → SameUpTo (count + more) a b → SameUpTo count a b
left_same count more a b same = λ j less. same j (omega arith)

right_same : (count more : ℕ) (a b : ℕ → ℕ) → SameUpTo (count + more) a b
    → SameUpTo more (shift count a) (shift count b)
right_same count more a b same = λ j less. same (count + j) (omega arith)

either_alike : {A : Type 0} (t : Bool) (a b c d : A) → a ≡ b → c ≡ d → (if t then a else c) ≡ (if t then b else d)
either_alike t a b c d first second = ap (λ x. if t then x else c) first ∙ ap (λ x. if t then b else x) second

same_place : {P : Type 0} (p q : P) (k : Control P) → k ≡ At p → k ≡ At q → p ≡ q
same_place p q k e f = cc

-- where a part goes on or the whole goes next
within_fine : {C W : Type 0} (fine : C → Type 0) (whole : W → Type 0) (f : C → W) (next : Control W)
    → ((c : C) → fine c → whole (f c)) → at_fine whole next → (k : Control C) → at_fine fine k
    → at_fine whole (within f next k)
within_fine fine whole f next into after (At c) is = into c is
within_fine fine whole f next into after Done is = after

by_test_fine : {F C : Type 0} (fine : C → Type 0) (test : Test F) (a b : Control C) → at_fine fine a
    → at_fine fine b → at_fine fine (by_test test a b)
by_test_fine fine Holds a b first second = first
by_test_fine fine Fails a b first second = second
by_test_fine fine (Unclear fault) a b first second = second

module _ {X : Type 0} {V : X → Type 0} where
  -- WHAT A CODING OWES to a machine
  pub record IsCoding (M : Machine X V) (coding : Coding M.Place) : Type 0 where
    pub local : (n : ℕ) (a b : ℕ → ℕ) → SameUpTo coding.extra a b → coding.place n a ≡ coding.place n b
    pub found : (p : M.Place) → coding.IsFine p → coding.place (coding.number p) (coding.other p) ≡ Some p
    pub ended : (a : ℕ → ℕ) → coding.place coding.size a ≡ None
    pub below : (p : M.Place) → coding.number p < coding.size
    -- a start is fine and has all numbers 0, and a step leads from a fine place to a fine one
    pub starts : at_fine coding.IsFine M.start
    pub zero_at : (p : M.Place) → M.start ≡ At p → coding.number p ≡ 0
    pub zeros_at : (p : M.Place) → M.start ≡ At p → (j : ℕ) → coding.other p j ≡ 0
    pub stays : (p : M.Place) (s : Store X V) → coding.IsFine p → at_fine coding.IsFine (M.step p s)

  -- it takes a turn at least
  pub record HasFront (M : Machine X V) : Type 0 where
    pub first : M.Place
    pub starts : M.start ≡ At first

  pub record IsBank (M : Machine X V) (bank : Bank M.Place) : Type 0 where
    pub local : (a b : ℕ → ℕ) → SameUpTo bank.count a b → bank.decode a ≡ bank.decode b
    pub decoded : (k : Control M.Place) → at_fine bank.IsFine k → bank.decode (bank.code k) ≡ k
    pub starts : at_fine bank.IsFine M.start
    pub zeros_at : (j : ℕ) → bank.code M.start j ≡ 0
    pub stays : (p : M.Place) (s : Store X V) → bank.IsFine p → at_fine bank.IsFine (M.step p s)

  -- one place
  pub unit_is : (start : Control (Unit {0})) (step : Unit {0} → Store X V → Control (Unit {0}))
      (writes : Unit {0} → Store X V → (x : X) → Option (V x)) (faults : Unit {0} → Store X V → Bool)
      → IsCoding (record { Place = Unit {0}; start = start; step = step; writes = writes; faults = faults }) unit_coding
  unit_is start step writes faults = record {
    local = λ n a b same. refl;
    found = λ p fine. refl;
    ended = λ a. refl;
    below = λ p. omega arith;
    starts = any start;
    zero_at = λ p e. refl;
    zeros_at = λ p e j. refl;
    stays = λ p s fine. any (step p s);
  }
    where
      any : (k : Control (Unit {0})) → at_fine (λ p. Unit {0}) k
      any (At p) = tt
      any Done = tt

  pub none_is : IsCoding (done_machine X V) no_coding
  none_is = record {
    local = λ n a b same. refl;
    found = λ p fine. absurd p;
    ended = λ a. refl;
    below = λ p. absurd p;
    starts = tt;
    zero_at = λ p e. absurd p;
    zeros_at = λ p e j. absurd p;
    stays = λ p s fine. absurd p;
  }

  module _ (A B : Machine X V) (a : Coding A.Place) (b : Coding B.Place) (ia : IsCoding A a) (ib : IsCoding B b) where
    seq_local : (n : ℕ) (f g : ℕ → ℕ) → SameUpTo (a.extra + b.extra) f g → seq_place a b n f ≡ seq_place a b n g
    seq_local n f g same =
        either_alike (nat_lt n a.size) _ _ _ _
        (ap (option_map First) (ia.local n f g (left_same a.extra b.extra f g same)))
        (ap (option_map Second)
        (ib.local (n - a.size) (shift a.extra f) (shift a.extra g) (right_same a.extra b.extra f g same)))

    seq_found : (p : InSeq A.Place B.Place) → seq_fine a b p
        → seq_place a b (seq_number a b p) (seq_other a b p) ≡ Some p
    seq_found (First p) fine =
        ap (λ t. if t then option_map First (a.place (a.number p) (beside a.extra (a.other p) zeros))
        else option_map Second
        (b.place (a.number p - a.size) (shift a.extra (beside a.extra (a.other p) zeros))))
        (lt-ltb (a.number p) a.size (ia.below p))
        ∙ ap (option_map First) (ia.local (a.number p) _ (a.other p)
        (λ j less. beside_left a.extra (a.other p) zeros j less) ∙ ia.found p fine)
    seq_found (Second p) fine =
        let back : (a.size + b.number p) - a.size ≡ b.number p = omega arith in
        ap (λ t. if t
        then option_map First (a.place (a.size + b.number p) (beside a.extra zeros (b.other p)))
        else option_map Second
        (b.place ((a.size + b.number p) - a.size) (shift a.extra (beside a.extra zeros (b.other p)))))
        (le-ltb (a.size + b.number p) a.size (omega arith))
        ∙ ap (λ n. option_map Second (b.place n (shift a.extra (beside a.extra zeros (b.other p))))) back
        ∙ ap (option_map Second) (ib.local (b.number p) _ (b.other p)
        (λ j less. beside_right a.extra zeros (b.other p) j) ∙ ib.found p fine)

    seq_ended : (f : ℕ → ℕ) → seq_place a b (a.size + b.size) f ≡ None
    seq_ended f =
        let back : (a.size + b.size) - a.size ≡ b.size = omega arith in
        ap (λ t. if t then option_map First (a.place (a.size + b.size) f)
        else option_map Second (b.place ((a.size + b.size) - a.size) (shift a.extra f)))
        (le-ltb (a.size + b.size) a.size (omega arith))
        ∙ ap (λ n. option_map Second (b.place n (shift a.extra f))) back
        ∙ ap (option_map Second) (ib.ended (shift a.extra f))

    seq_below : (p : InSeq A.Place B.Place) → seq_number a b p < a.size + b.size
    seq_below (First p) = let less : a.number p < a.size = ia.below p in omega arith
    seq_below (Second p) = let less : b.number p < b.size = ib.below p in omega arith

    second_fine : at_fine (seq_fine a b) (second_start A B)
    second_fine = within_fine b.IsFine (seq_fine a b) Second Done (λ c is. is) tt B.start ib.starts

    seq_stays : (p : InSeq A.Place B.Place) (s : Store X V) → seq_fine a b p
        → at_fine (seq_fine a b) (Machine.step (seq_machine A B) p s)
    seq_stays (First p) s fine =
        within_fine a.IsFine (seq_fine a b) First (second_start A B) (λ c is. is) second_fine (A.step p s)
        (ia.stays p s fine)
    seq_stays (Second p) s fine =
        within_fine b.IsFine (seq_fine a b) Second Done (λ c is. is) tt (B.step p s) (ib.stays p s fine)

    pub seq_is : HasFront A → IsCoding (seq_machine A B) (seq_coding a b)
    seq_is front = record {
      local = seq_local;
      found = seq_found;
      ended = seq_ended;
      below = seq_below;
      starts = within_fine a.IsFine (seq_fine a b) First (second_start A B) (λ c is. is) second_fine A.start ia.starts;
      zero_at = λ p e. subst (λ q. seq_number a b q ≡ 0) (is_front p e) (ia.zero_at front.first front.starts);
      zeros_at =
          λ p e. subst (λ q. (j : ℕ) → seq_other a b q j ≡ 0) (is_front p e)
          (beside_none a.extra (a.other front.first) zeros (ia.zeros_at front.first front.starts)
          (λ j. refl));
      stays = seq_stays;
    }
      where
        is_front : (p : InSeq A.Place B.Place) → within First (second_start A B) A.start ≡ At p → First front.first ≡ p
        is_front p e = same_place (First front.first) p _ (ap (within First (second_start A B)) front.starts) e

    pub seq_front : HasFront A → HasFront (seq_machine A B)
    seq_front front = record { first = First front.first; starts = ap (within First (second_start A B)) front.starts }

    module _ {F : Type 0} (test : Store X V → Test F) where
      if_found : (p : InIf A.Place B.Place) → if_fine a b p → if_place a b (if_number a b p) (if_other a b p) ≡ Some p
      if_found AtTest fine = refl
      if_found (InThen p) fine = ap (option_map (branch_of a b)) (seq_found (First p) fine)
      if_found (InElse p) fine = ap (option_map (branch_of a b)) (seq_found (Second p) fine)

      if_local : (n : ℕ) (f g : ℕ → ℕ) → SameUpTo (a.extra + b.extra) f g → if_place a b n f ≡ if_place a b n g
      if_local zero f g same = refl
      if_local (suc n) f g same = ap (option_map (branch_of a b)) (seq_local n f g same)

      if_below : (p : InIf A.Place B.Place) → if_number a b p < suc (a.size + b.size)
      if_below AtTest = omega arith
      if_below (InThen p) = let less : a.number p < a.size = ia.below p in omega arith
      if_below (InElse p) = let less : b.number p < b.size = ib.below p in omega arith

      if_stays : (p : InIf A.Place B.Place) (s : Store X V) → if_fine a b p
          → at_fine (if_fine a b) (Machine.step (if_machine test A B) p s)
      if_stays AtTest s fine =
          by_test_fine (if_fine a b) (test s) _ _
          (within_fine a.IsFine (if_fine a b) InThen Done (λ c is. is) tt A.start ia.starts)
          (within_fine b.IsFine (if_fine a b) InElse Done (λ c is. is) tt B.start ib.starts)
      if_stays (InThen p) s fine =
          within_fine a.IsFine (if_fine a b) InThen Done (λ c is. is) tt (A.step p s) (ia.stays p s fine)
      if_stays (InElse p) s fine =
          within_fine b.IsFine (if_fine a b) InElse Done (λ c is. is) tt (B.step p s) (ib.stays p s fine)

      pub if_is : IsCoding (if_machine test A B) (if_coding a b)
      if_is = record {
        local = if_local;
        found = if_found;
        ended = λ f. ap (option_map (branch_of a b)) (seq_ended f);
        below = if_below;
        starts = tt;
        zero_at = λ p e. subst (λ q. if_number a b q ≡ 0) (same_place AtTest p (At AtTest) refl e) refl;
        zeros_at =
            λ p e. subst (λ q. (j : ℕ) → if_other a b q j ≡ 0) (same_place AtTest p (At AtTest) refl e)
            (λ j. refl);
        stays = if_stays;
      }

      pub if_front : HasFront (if_machine test A B)
      if_front = record { first = AtTest; starts = refl }

  module _ (A : Machine X V) (a : Coding A.Place) (ia : IsCoding A a) where
    module _ {F : Type 0} (test : Store X V → Test F) where
      while_found : (p : InWhile A.Place) → while_fine a p → while_place a (while_number a p) (while_other a p) ≡ Some p
      while_found AtHead fine = refl
      while_found (InBody p) fine = ap (option_map InBody) (ia.found p fine)

      while_local : (n : ℕ) (f g : ℕ → ℕ) → SameUpTo a.extra f g → while_place a n f ≡ while_place a n g
      while_local zero f g same = refl
      while_local (suc n) f g same = ap (option_map InBody) (ia.local n f g same)

      while_below : (p : InWhile A.Place) → while_number a p < suc a.size
      while_below AtHead = omega arith
      while_below (InBody p) = let less : a.number p < a.size = ia.below p in omega arith

      while_stays : (p : InWhile A.Place) (s : Store X V) → while_fine a p
          → at_fine (while_fine a) (Machine.step (while_machine test A) p s)
      while_stays AtHead s fine =
          by_test_fine (while_fine a) (test s) _ _
          (within_fine a.IsFine (while_fine a) InBody (At AtHead) (λ c is. is) tt A.start ia.starts) tt
      while_stays (InBody p) s fine =
          within_fine a.IsFine (while_fine a) InBody (At AtHead) (λ c is. is) tt (A.step p s)
          (ia.stays p s fine)

      pub while_is : IsCoding (while_machine test A) (while_coding a)
      while_is = record {
        local = while_local;
        found = while_found;
        ended = λ f. ap (option_map InBody) (ia.ended f);
        below = while_below;
        starts = tt;
        zero_at = λ p e. subst (λ q. while_number a q ≡ 0) (same_place AtHead p (At AtHead) refl e) refl;
        zeros_at =
            λ p e. subst (λ q. (j : ℕ) → while_other a q j ≡ 0) (same_place AtHead p (At AtHead) refl e)
            (λ j. refl);
        stays = while_stays;
      }

      pub while_front : HasFront (while_machine test A)
      while_front = record { first = AtHead; starts = refl }

    turned_twice : (count n : ℕ) → turned a count (turned a count n) ≡ n
    turned_twice count n = either (nat_lt n count) refl
      where
        either : (t : Bool) → nat_lt n count ≡ t → turned a count (if t then count - suc n else n) ≡ n
        either true e =
            let less : n < count = ltb-true n count e in
            let back : count - suc (count - suc n) ≡ n = omega arith in
            ap (λ t. if t then count - suc (count - suc n) else count - suc n)
            (lt-ltb (count - suc n) count (omega arith)) ∙ back
        either false e = ap (λ t. if t then count - suc n else n) e

    module _ (front : HasFront A) (k : ℕ) where
      first_round_zeros : (j : ℕ) → repeat_other a (suc k) (in_round k front.first) j ≡ 0
      first_round_zeros zero =
          let none : suc k - suc k ≡ 0 = omega arith in
          ap (λ t. if t then suc k - suc k else k) (lt-ltb k (suc k) (omega arith)) ∙ none
      first_round_zeros (suc j) = ia.zeros_at front.first front.starts j

      rounds_fine : (left : ℕ) → left ≤ suc k → at_fine (IsFineRound a (suc k)) (next_round A left)
      rounds_fine zero less = tt
      rounds_fine (suc left) less =
          within_fine a.IsFine (IsFineRound a (suc k)) (in_round left) (next_round A left)
          (λ c is. record { less = omega arith; body = is })
          (rounds_fine left (omega arith)) A.start ia.starts

      is_front : (p : InRepeat A.Place) → next_round A (suc k) ≡ At p → in_round k front.first ≡ p
      is_front p e = same_place (in_round k front.first) p _ (ap (within (in_round k) (next_round A k)) front.starts) e

      pub repeat_is : IsCoding (repeat_machine (suc k) A) (repeat_coding a (suc k))
      repeat_is = record {
        local =
            λ n f g same. ap (λ v. option_map (in_round (turned a (suc k) v)) (a.place n (shift 1 f)))
            (same 0 (omega arith))
            ∙ ap (option_map (in_round (turned a (suc k) (g 0))))
            (ia.local n (shift 1 f) (shift 1 g) (λ j less. same (1 + j) (omega arith)));
        found =
            λ p fine. ap
            (λ v. option_map (in_round v) (a.place (a.number p.place) (shift 1 (repeat_other a (suc k) p))))
            (turned_twice (suc k) p.left)
            ∙ ap (option_map (in_round p.left)) (ia.local (a.number p.place) _ (a.other p.place)
            (λ j less. let next : 1 + j ≡ suc j = omega arith in ap (repeat_other a (suc k) p) next) ∙
            ia.found p.place (IsFineRound.body fine));
        ended = λ f. ap (option_map (in_round (turned a (suc k) (f 0)))) (ia.ended (shift 1 f));
        below = λ p. ia.below p.place;
        starts = rounds_fine (suc k) (omega arith);
        zero_at =
            λ p e. subst (λ (q : InRepeat A.Place). a.number q.place ≡ 0) (is_front p e)
            (ia.zero_at front.first front.starts);
        zeros_at = λ p e. subst (λ q. (j : ℕ) → repeat_other a (suc k) q j ≡ 0) (is_front p e) first_round_zeros;
        stays = λ p s fine. let less : p.left < suc k = IsFineRound.less fine in
            within_fine a.IsFine (IsFineRound a (suc k)) (in_round p.left) (next_round A p.left)
            (λ c is. record { less = less; body = is }) (rounds_fine p.left (omega arith))
            (A.step p.place s) (ia.stays p.place s (IsFineRound.body fine));
      }

      pub repeat_front : HasFront (repeat_machine (suc k) A)
      repeat_front =
          record {
            first = in_round k front.first;
            starts = ap (within (in_round k) (next_round A k)) front.starts;
          }

    -- control of a region in its bank
    bank_decoded : (k : Control A.Place) → at_fine a.IsFine k
        → control_at a (a.place (bank_code a k 0) (shift 1 (bank_code a k))) ≡ k
    bank_decoded (At p) fine =
        ap (control_at a) (ia.local (a.number p) _ (a.other p)
        (λ j less. let next : 1 + j ≡ suc j = omega arith in ap (bank_code a (At p)) next) ∙
        ia.found p fine)
    bank_decoded Done fine = ap (control_at a) (ia.ended (shift 1 (bank_code a Done)))

    bank_zeros : (p : A.Place) → a.number p ≡ 0 → ((j : ℕ) → a.other p j ≡ 0) → (j : ℕ) → bank_code a (At p) j ≡ 0
    bank_zeros p first others zero = first
    bank_zeros p first others (suc j) = others j

    pub region_bank_is : HasFront A → IsBank A (region_bank a)
    region_bank_is front = record {
      local =
          λ f g same. ap (λ n. control_at a (a.place n (shift 1 f))) (same 0 (omega arith))
          ∙ ap (control_at a)
          (ia.local (g 0) (shift 1 f) (shift 1 g) (λ j less. same (1 + j) (omega arith)));
      decoded = bank_decoded;
      starts = ia.starts;
      zeros_at =
          λ j. ap (λ k. bank_code a k j) front.starts
          ∙ bank_zeros front.first (ia.zero_at front.first front.starts)
          (ia.zeros_at front.first front.starts) j;
      stays = ia.stays;
    }

  pub done_bank_is : IsBank (done_machine X V) done_bank
  done_bank_is =
      record {
        local = λ f g same.
            refl;
        decoded = decoded;
        starts = tt;
        zeros_at = λ j. refl;
        stays = λ p s fine. absurd p;
      }
    where
      decoded : (k : Control ⊥) → at_fine (λ p. Unit {0}) k → Done ≡ k
      decoded (At p) fine = absurd p
      decoded Done fine = refl

  module _ (A B : Machine X V) (a : Bank A.Place) (b : Bank B.Place) (ia : IsBank A a) (ib : IsBank B b) where
    joined : {P Q : Type 0} (k : Control (InPar P Q)) → join (left_control k) (right_control k) ≡ k
    joined (At (Both p q)) = refl
    joined (At (LeftOnly p)) = refl
    joined (At (RightOnly q)) = refl
    joined Done = refl

    left_joined : {P Q : Type 0} (k : Control P) (m : Control Q) → left_control (join k m) ≡ k
    left_joined (At p) (At q) = refl
    left_joined (At p) Done = refl
    left_joined Done (At q) = refl
    left_joined Done Done = refl

    right_joined : {P Q : Type 0} (k : Control P) (m : Control Q) → right_control (join k m) ≡ m
    right_joined (At p) (At q) = refl
    right_joined (At p) Done = refl
    right_joined Done (At q) = refl
    right_joined Done Done = refl

    join_fine : (k : Control A.Place) (m : Control B.Place) → at_fine a.IsFine k → at_fine b.IsFine m
        → at_fine (AreFine a b) (join k m)
    join_fine (At p) (At q) first second = record { left = first; right = second }
    join_fine (At p) Done first second = record { left = first; right = second }
    join_fine Done (At q) first second = record { left = first; right = second }
    join_fine Done Done first second = tt

    step_fine : (M : Machine X V) (fine : M.Place → Type 0)
        → ((p : M.Place) (s : Store X V) → fine p → at_fine fine (M.step p s))
        → (k : Control M.Place) (s : Store X V) → at_fine fine k → at_fine fine (step M k s)
    step_fine M fine stays (At p) s is = stays p s is
    step_fine M fine stays Done s is = tt

    left_fine : (k : Control (InPar A.Place B.Place)) → at_fine (AreFine a b) k → at_fine a.IsFine (left_control k)
    left_fine (At p) fine = AreFine.left fine
    left_fine Done fine = tt

    right_fine : (k : Control (InPar A.Place B.Place)) → at_fine (AreFine a b) k → at_fine b.IsFine (right_control k)
    right_fine (At p) fine = AreFine.right fine
    right_fine Done fine = tt

    pub par_bank_is : IsBank (par_machine A B) (par_bank a b)
    par_bank_is = record {
      local =
          λ f g same.
          ap (λ k. join k (b.decode (shift a.count f))) (ia.local f g (left_same a.count b.count f g same))
          ∙ ap (join (a.decode g)) (ib.local (shift a.count f) (shift a.count g) (right_same a.count b.count f g same));
      decoded = λ k fine.
          ap (λ m. join m (b.decode
          (shift a.count (beside a.count (a.code (left_control k)) (b.code (right_control k))))))
          (ia.local _ (a.code (left_control k))
          (λ j less. beside_left a.count (a.code (left_control k)) (b.code (right_control k)) j less) ∙
          ia.decoded (left_control k) (left_fine k fine))
          ∙ ap (join (left_control k)) (ib.local _ (b.code (right_control k))
          (λ j less. beside_right a.count (a.code (left_control k)) (b.code (right_control k)) j) ∙
          ib.decoded (right_control k) (right_fine k fine))
          ∙ joined k;
      starts = join_fine A.start B.start ia.starts ib.starts;
      zeros_at =
          beside_none a.count _ _ (λ j. ap (λ k. a.code k j) (left_joined A.start B.start) ∙ ia.zeros_at j)
          (λ j. ap (λ k. b.code k j) (right_joined A.start B.start) ∙ ib.zeros_at j);
      stays =
          λ p s fine. join_fine (step A (left_of p) s) (step B (right_of p) s)
          (step_fine A a.IsFine ia.stays (left_of p) s (AreFine.left fine))
          (step_fine B b.IsFine ib.stays (right_of p) s (AreFine.right fine));
    }

    pub par_front : HasFront A → HasFront (par_machine A B)
    par_front front = by_second B.start refl
      where
        by_second : (m : Control B.Place) → B.start ≡ m → HasFront (par_machine A B)
        by_second (At q) e =
            record {
              first = Both front.first q;
              starts = ap (λ k. join k B.start) front.starts ∙
                  ap (join (At front.first)) e;
            }
        by_second Done e =
            record {
              first = LeftOnly front.first;
              starts = ap (λ k. join k B.start) front.starts ∙
                  ap (join (At front.first)) e;
            }

  -- a par as one place
  pub bank_coding_is : (M : Machine X V) (b : Bank M.Place) → IsBank M b → IsCoding M (bank_coding b)
  bank_coding_is M b ib = record {
    local = λ n f g same. ap (λ k. only_place k n) (ib.local f g same);
    found = λ p fine. ap place_in (ib.decoded (At p) fine);
    ended = λ f. refl;
    below = λ p. omega arith;
    starts = ib.starts;
    zero_at = λ p e. refl;
    zeros_at = λ p e j. ap (λ k. b.code k j) (sym e) ∙ ib.zeros_at j;
    stays = ib.stays;
  }
