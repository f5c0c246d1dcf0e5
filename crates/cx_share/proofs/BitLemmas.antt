-- Marks that are bits of words.
use Rattle.std.proofs.Common.{◌≡◌, ◌≢◌, ℕ, zero, suc, ◌+◌, ◌*◌, ◌/◌, ◌%◌, ◌^◌, ◌<◌, ◌≤◌, max, min, Bool, true, false, ◌||◌, ◌&&◌, nat_eq, List, get_or, set, length, replicate, bit_or, bit_and, w64, refl, sym, ap, ◌∙◌, arith, tests, ⊎_elim}
use Rattle.std.specs.Int.{bit_at}
use Rattle.std.proofs.lemmas.Bool.{cases_eq, cases_lt}
use Rattle.std.proofs.lemmas.List.{get_or-set_same, get_or-set_other, length-set, get_or_past, ext_get_or, get_or-replicate, length-replicate}
use Rattle.std.proofs.lemmas.Nat.Bits.{bit_at-zero, bit_at-lt, bit_at_or, bit_at_and, bit_at_set_same, bit_at_set_other, shr_and_one}
use Rattle.cx_share.specs.Bits.{bit_in, marks_of}
use Rattle.cx_meaning.specs.Instances.{just}
use Rattle.cx_share.specs.Marks.{Adds}
use Rattle.cx_share.proofs.MarkLemmas.{by_at, by_long, by_past}
use Rattle.cx_text.proofs.BoolLaws.{or_false}
use Rattle.cx_meaning.proofs.InstancesLemmas.{just_other, just_same}

or-true : (a : Bool) → (a || true) ≡ true
or-true true = refl
or-true false = refl

pub marks_long : (count : ℕ) (words : List ℕ) → length (marks_of count words) ≡ count
marks_long count words = by_long count (bit_in words)

mark_at : (count : ℕ) (words : List ℕ) (c : ℕ) → c < count → get_or (marks_of count words) c false ≡ bit_in words c
mark_at count words c lt = by_at count (bit_in words) c lt

pub mark_past : (count : ℕ) (words : List ℕ) (c : ℕ) → count ≤ c → get_or (marks_of count words) c false ≡ false
mark_past count words c past = by_past count (bit_in words) c past

zero_at : (n k : ℕ) → ◌≡◌ {A = ℕ} (get_or (replicate n 0) k 0) 0
zero_at zero k = refl
zero_at (suc n) zero = refl
zero_at (suc n) (suc k) = zero_at n k

-- words that are 0
bare_bit : (words : List ℕ) (c : ℕ) → get_or words (c / 64) 0 ≡ 0 → bit_in words c ≡ false
bare_bit words c none = ap (λ x. nat_eq (bit_at x (c % 64)) 1) none ∙ ap (λ x. nat_eq x 1) (bit_at-zero (c % 64))

pub marks_blank : (count n : ℕ) (words : List ℕ) → words ≡ replicate n 0 → marks_of count words ≡ replicate count false
marks_blank count n words blank =
    ext_get_or false (marks_of count words) (replicate count false) (marks_long count words ∙ sym (length-replicate count false)) (λ c lt.
    let below : c < count = omega (arith, marks_long count words) in
    mark_at count words c below ∙ bare_bit words c (ap (λ ws. get_or ws (c / 64) 0) blank ∙ zero_at n (c / 64)) ∙ sym (get_or-replicate count c false false below))

-- a bit is set
pub bit_put : (words : List ℕ) (bit word : ℕ) → bit / 64 < length words → word ≡ get_or words (bit / 64) 0
    → (c : ℕ) → bit_in (set words (bit / 64) (bit_or word (1 * 2 ^ (bit % 64) % 2 ^ 64))) c ≡ (bit_in words c || just bit c)
bit_put words bit word inside there c = ⊎_elim (λ e. same e) (λ h. other h) (cases_eq c bit)
  where
    within : bit % 64 < 64
    within = omega arith

    new : ℕ
    new = bit_or word (1 * 2 ^ (bit % 64) % 2 ^ 64)

    here : bit_in (set words (bit / 64) new) bit ≡ true
    here =
        ap (λ x. nat_eq (bit_at x (bit % 64)) 1) (get_or-set_same words (bit / 64) new 0 inside)
        ∙ ap (λ x. nat_eq x 1) (bit_at_set_same w64 word (bit % 64) within)

    same : c ≡ bit → bit_in (set words (bit / 64) new) c ≡ (bit_in words c || just bit c)
    same e = rw e (here ∙ sym (or-true (bit_in words bit)) ∙ ap (λ v. bit_in words bit || v) (sym (just_same bit)))

    in_word : (c ≡ bit → ⊥) → c / 64 ≡ bit / 64 → bit_in (set words (bit / 64) new) c ≡ bit_in words c
    in_word h e =
        let apart : c % 64 ≢ bit % 64 = λ m. h (omega (arith, e, m)) in
        let old : word ≡ get_or words (c / 64) 0 = there ∙ ap (λ k. get_or words k 0) (sym e) in
        let now : get_or (set words (bit / 64) new) (c / 64) 0 ≡ new = ap (λ k. get_or (set words (bit / 64) new) k 0) e ∙ get_or-set_same words (bit / 64) new 0 inside in
        ap (λ x. nat_eq (bit_at x (c % 64)) 1) now ∙ ap (λ x. nat_eq x 1) (bit_at_set_other w64 word (bit % 64) within (c % 64) apart)
        ∙ ap (λ x. nat_eq (bit_at x (c % 64)) 1) old

    kept : (c ≡ bit → ⊥) → bit_in (set words (bit / 64) new) c ≡ bit_in words c
    kept h = ⊎_elim (λ e. in_word h e) (λ n. ap (λ x. nat_eq (bit_at x (c % 64)) 1) (get_or-set_other words (bit / 64) (c / 64) new 0 n)) (cases_eq (c / 64) (bit / 64))

    other : (c ≡ bit → ⊥) → bit_in (set words (bit / 64) new) c ≡ (bit_in words c || just bit c)
    other h = kept h ∙ sym (or_false (bit_in words c)) ∙ ap (λ v. bit_in words c || v) (sym (just_other bit c (λ e. h (sym e))))

pub bits_added : (count bit : ℕ) (old new : List ℕ) → ((c : ℕ) → bit_in new c ≡ (bit_in old c || just bit c)) → Adds (marks_of count old) (marks_of count new) (just bit)
bits_added count bit old new h = record {
  count = marks_long count new ∙ sym (marks_long count old);
  marks = λ c lt.
      let below : c < count = omega (arith, marks_long count old) in
      mark_at count new c below ∙ h c ∙ ap (λ v. v || just bit c) (sym (mark_at count old c below));
}

-- a bit that is beyond
pub adds_past : (count bit : ℕ) (words : List ℕ) → count ≤ bit → Adds (marks_of count words) (marks_of count words) (just bit)
adds_past count bit words past = record {
  count = refl;
  marks = λ c lt.
      let below : c < count = omega (arith, marks_long count words) in
      sym (or_false (get_or (marks_of count words) c false)) ∙ ap (λ v. get_or (marks_of count words) c false || v) (sym (just_other bit c (λ e. absurd (omega (arith, e)))));
}

pub bit_tested : (count : ℕ) (words : List ℕ) (c word : ℕ) → c < count → word ≡ get_or words (c / 64) 0 → nat_eq (bit_and (word / 2 ^ (c % 64)) 1) 1 ≡ get_or (marks_of count words) c false
bit_tested count words c word below there =
    ap (λ x. nat_eq x 1) (shr_and_one word (c % 64)) ∙ ap (λ x. nat_eq (bit_at x (c % 64)) 1) there ∙ sym (mark_at count words c below)

pub none_in : (count : ℕ) (words : List ℕ) (k c : ℕ) → get_or words k 0 ≡ 0 → c / 64 ≡ k → get_or (marks_of count words) c false ≡ false
none_in count words k c none e =
    ⊎_elim (λ lt. mark_at count words c lt ∙ bare_bit words c (ap (λ n. get_or words n 0) e ∙ none)) (λ le. mark_past count words c le) (cases_lt c count)

-- words that are joined
pub is_zero : (n : ℕ) → nat_eq n 0 ≡ true → ◌≡◌ {A = ℕ} n 0
is_zero zero h = refl
is_zero (suc n) h = grind (arith, tests, h)

either : (a b : ℕ) → a < 2 → b < 2 → nat_eq (max a b) 1 ≡ (nat_eq a 1 || nat_eq b 1)
either zero zero h k = refl
either zero (suc zero) h k = refl
either (suc zero) zero h k = refl
either (suc zero) (suc zero) h k = refl
either (suc (suc a)) b h k = absurd (omega arith)
either zero (suc (suc b)) h k = absurd (omega arith)
either (suc zero) (suc (suc b)) h k = absurd (omega arith)

pub words_joined : (count other : ℕ) (a b o : List ℕ) (old two : List Bool) → marks_of count a ≡ old → marks_of other o ≡ two → other ≡ count
    → ((k : ℕ) → get_or b k 0 ≡ bit_or (get_or a k 0) (get_or o k 0)) → Adds old (marks_of count b) (λ c. get_or two c false)
words_joined count other a b o old two first second same h = record {
  count = marks_long count b ∙ sym (marks_long count a) ∙ ap length first;
  marks = λ c lt.
      let below : c < count = omega (arith, marks_long count a, ap length first) in
      mark_at count b c below ∙ bit c ∙ ap (λ v. v || bit_in o c) (sym (mark_at count a c below) ∙ ap (λ m. get_or m c false) first)
      ∙ ap (λ v. get_or old c false || v) (sym (mark_at other o c (omega (arith, same, below))) ∙ ap (λ m. get_or m c false) second);
}
  where
    bit : (c : ℕ) → bit_in b c ≡ (bit_in a c || bit_in o c)
    bit c =
        let x = get_or a (c / 64) 0 in
        let y = get_or o (c / 64) 0 in
        ap (λ n. nat_eq (bit_at n (c % 64)) 1) (h (c / 64)) ∙ ap (λ n. nat_eq n 1) (bit_at_or x y (c % 64)) ∙ either (bit_at x (c % 64)) (bit_at y (c % 64)) (bit_at-lt x (c % 64)) (bit_at-lt y (c % 64))

-- sets of as many marks
pub same_count : (m n : ℕ) (xs ys : List ℕ) (one other : List Bool) → marks_of m xs ≡ one → marks_of n ys ≡ other → length one ≡ length other → m ≡ n
same_count m n xs ys one other e f h = sym (marks_long m xs) ∙ ap length e ∙ h ∙ ap length (sym f) ∙ marks_long n ys

-- the first words are joined, and the others are as they were
pub record JoinedTo (n : ℕ) (old others new : List ℕ) : Type 0 where
  pub count : length new ≡ length old
  pub first : (k : ℕ) → k < n → get_or new k 0 ≡ bit_or (get_or old k 0) (get_or others k 0)
  pub rest : (k : ℕ) → n ≤ k → get_or new k 0 ≡ get_or old k 0

pub joined_none : (old others : List ℕ) → JoinedTo 0 old others old
joined_none old others = record { count = refl; first = λ k lt. absurd (omega arith); rest = λ k le. refl }

-- the bits that two words have
both : (a b : ℕ) → a < 2 → b < 2 → nat_eq (min a b) 1 ≡ (nat_eq a 1 && nat_eq b 1)
both zero zero h k = refl
both zero (suc zero) h k = refl
both (suc zero) zero h k = refl
both (suc zero) (suc zero) h k = refl
both (suc (suc a)) b h k = absurd (omega arith)
both zero (suc (suc b)) h k = absurd (omega arith)
both (suc zero) (suc (suc b)) h k = absurd (omega arith)

and-none : (a : Bool) → (a && false) ≡ false
and-none true = refl
and-none false = refl

pub words_kept : (count other : ℕ) (a b o : List ℕ) (old two : List Bool) → marks_of count a ≡ old → marks_of other o ≡ two → other ≡ count
    → ((k : ℕ) → get_or b k 0 ≡ bit_and (get_or a k 0) (get_or o k 0)) → (c : ℕ) → get_or (marks_of count b) c false ≡ (get_or old c false && get_or two c false)
words_kept count other a b o old two first second same h c = ⊎_elim inside beyond (cases_lt c count)
  where
    bit : bit_in b c ≡ (bit_in a c && bit_in o c)
    bit =
        let x = get_or a (c / 64) 0 in
        let y = get_or o (c / 64) 0 in
        ap (λ n. nat_eq (bit_at n (c % 64)) 1) (h (c / 64)) ∙ ap (λ n. nat_eq n 1) (bit_at_and x y (c % 64)) ∙ both (bit_at x (c % 64)) (bit_at y (c % 64)) (bit_at-lt x (c % 64)) (bit_at-lt y (c % 64))

    inside : c < count → get_or (marks_of count b) c false ≡ (get_or old c false && get_or two c false)
    inside lt =
        mark_at count b c lt ∙ bit ∙ ap (λ v. v && bit_in o c) (sym (mark_at count a c lt) ∙ ap (λ m. get_or m c false) first)
        ∙ ap (λ v. get_or old c false && v) (sym (mark_at other o c (omega (arith, same, lt))) ∙ ap (λ m. get_or m c false) second)

    beyond : count ≤ c → get_or (marks_of count b) c false ≡ (get_or old c false && get_or two c false)
    beyond past =
        mark_past count b c past ∙ sym (and-none (get_or old c false))
        ∙ ap (λ v. get_or old c false && v) (sym (mark_past other o c (omega (arith, same, past))) ∙ ap (λ m. get_or m c false) second)

-- the first words are those that the others have too, and the rest are as they were
pub record KeptTo (n : ℕ) (old others new : List ℕ) : Type 0 where
  pub count : length new ≡ length old
  pub first : (k : ℕ) → k < n → get_or new k 0 ≡ bit_and (get_or old k 0) (get_or others k 0)
  pub rest : (k : ℕ) → n ≤ k → get_or new k 0 ≡ get_or old k 0

pub kept_none : (old others : List ℕ) → KeptTo 0 old others old
kept_none old others = record { count = refl; first = λ k lt. absurd (omega arith); rest = λ k le. refl }

pub kept_next : (n : ℕ) (old others mid : List ℕ) (word other : ℕ) → n < length old → word ≡ get_or mid n 0 → other ≡ get_or others n 0 → KeptTo n old others mid
    → KeptTo (n + 1) old others (set mid n (bit_and word other))
kept_next n old others mid word other inside at there j = record {
  count = length-set mid n new ∙ j.count;
  first = λ k lt. ⊎_elim (λ e. rw e here) (λ h. away k h ∙ j.first k (omega (arith, h))) (cases_eq k n);
  rest = λ k le. away k (λ e. absurd (omega (arith, e))) ∙ j.rest k (omega arith);
}
  where
    new : ℕ
    new = bit_and word other

    here : get_or (set mid n new) n 0 ≡ bit_and (get_or old n 0) (get_or others n 0)
    here =
        get_or-set_same mid n new 0 (let wide = j.count in omega (arith, wide, inside))
        ∙ ap (λ x. bit_and x other) (at ∙ j.rest n (omega arith)) ∙ ap (bit_and (get_or old n 0)) there

    away : (k : ℕ) → (k ≡ n → ⊥) → get_or (set mid n new) k 0 ≡ get_or mid k 0
    away k h = get_or-set_other mid n k new 0 h

pub kept_all : (n : ℕ) (old others new : List ℕ) → length old ≤ n → KeptTo n old others new → length others ≡ length old → (k : ℕ) → get_or new k 0 ≡ bit_and (get_or old k 0) (get_or others k 0)
kept_all n old others new end j same k = ⊎_elim (λ lt. j.first k lt) (λ le. past le) (cases_lt k n)
  where
    past : n ≤ k → get_or new k 0 ≡ bit_and (get_or old k 0) (get_or others k 0)
    past le =
        let none : get_or others k 0 ≡ 0 = get_or_past others k 0 (omega (arith, same, le, end)) in
        let bare : get_or old k 0 ≡ 0 = get_or_past old k 0 (omega (arith, le, end)) in
        j.rest k le ∙ bare ∙ sym (ap (λ x. bit_and x (get_or others k 0)) bare)
