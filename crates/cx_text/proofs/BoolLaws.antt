-- Facts of truth values.
use Rattle.std.proofs.Common.{◌≡◌, Bool, true, false, ◌&&◌, refl, sym, true≢false, not, ◌||◌, ◌⊎◌, inl, inr, ap, ◌∙◌, ℕ, if◌then◌else◌, cond, zero, suc, ◌<◌, arith}

pub and_both : (a b : Bool) → (a && b) ≡ true → (a ≡ true) × (b ≡ true)
and_both true b h = (refl, h)
and_both false b h = absurd (true≢false (sym h))

pub and_left : (a b : Bool) → (a && b) ≡ true → a ≡ true
and_left true b h = refl
and_left false b h = absurd (true≢false (sym h))

pub from_not : (b : Bool) → not b ≡ true → b ≡ false
from_not true e = absurd (cc)
from_not false e = refl

pub or_either : (a b : Bool) → (a || b) ≡ true → (a ≡ true) ⊎ (b ≡ true)
or_either true b h = inl refl
or_either false b h = inr h

pub or_assoc : (a b c : Bool) → ((a || b) || c) ≡ (a || (b || c))
or_assoc true b c = refl
or_assoc false b c = refl

pub or_right : (a b : Bool) → b ≡ true → a || b ≡ true
or_right true b p = refl
or_right false b p = p

pub and_right : (a b : Bool) → (a && b) ≡ true → b ≡ true
and_right true b h = h
and_right false b h = absurd (cc)

pub not_not : (b : Bool) → not b ≡ false → b ≡ true
not_not true h = refl
not_not false h = absurd (true≢false h)

pub or_second : (same a b : Bool) → (a ≡ true → b ≡ true) → (same || a) ≡ true → (same || b) ≡ true
or_second true a b h e = refl
or_second false a b h e = h e

pub and_second : (a b : Bool) → a && b ≡ true → b ≡ true
and_second true b h = h
and_second false b h = absurd (true≢false (sym h))

pub or_left : (a b : Bool) → a ≡ true → a || b ≡ true
or_left a b h = ap (λ t. t || b) h

pub not_both : (b : Bool) → b ≡ true → b ≡ false → ⊥
not_both b e f = cc

pub or_false : (b : Bool) → (b || false) ≡ b
or_false true = refl
or_false false = refl

pub swapped : (a b c : Bool) → a || (b || c) ≡ b || (a || c)
swapped true true c = refl
swapped true false c = refl
swapped false b c = refl

pub none_goes_on : (a b c : Bool) → (a || b || c) ≡ false → (a ≡ false) × (b ≡ false) × (c ≡ false)
none_goes_on true b c e = absurd (cc)
none_goes_on false true c e = absurd (cc)
none_goes_on false false c e = (refl, refl, e)

pub once : (a c : Bool) → a || c ≡ a || (a || c)
once true c = refl
once false c = refl

pub and_true : (a b : Bool) → a ≡ true → b ≡ true → a && b ≡ true
and_true a b h k = ap (λ x. x && b) h ∙ k

pub and_no : (a b : Bool) → b ≡ false → a && b ≡ false
and_no true b h = h
and_no false b h = refl

pub and_false : (a : Bool) → (a && false) ≡ false
and_false true = refl
and_false false = refl

pub and_true_also : (b : Bool) → (b && true) ≡ b
and_true_also true = refl
and_true_also false = refl

pub false_if : (b : Bool) → (b ≡ true → b ≡ false) → b ≡ false
false_if true h = h refl
false_if false h = refl

pub cases_of : (b : Bool) → (P : Type 0) → (b ≡ true → P) → (b ≡ false → P) → P
cases_of true P f g = f refl
cases_of false P f g = g refl

pub either_zero : (t : Bool) → ◌≡◌ {A = ℕ} (if t then 0 else 0) 0
either_zero true = refl
either_zero false = refl

-- one bit is 1 or 0
pub bit_of_number : (n : ℕ) → n < 2 → (b : Bool) × (n ≡ (if b then 1 else 0))
bit_of_number zero h = (false, refl)
bit_of_number (suc zero) h = (true, refl)
bit_of_number (suc (suc n)) h = absurd (omega arith)

pub by_test : {A : Type 0} (P : A → Type 0) (b : Bool) (x y : A) → (b ≡ true → P x) → (b ≡ false → P y) → P (if b then x else y)
by_test P true x y f g = f refl
by_test P false x y f g = g refl

pub pick_false : {A : Type 0} (t : Bool) (x y : A) → t ≡ false → (if t then x else y) ≡ y
pick_false t x y e = ap (λ t. if t then x else y) e

pub if_same : {A : Type 0} (b : Bool) (x : A) → (if b then x else x) ≡ x
if_same true x = refl
if_same false x = refl

pub neither_first : (a b : Bool) → (a || b) ≡ false → a ≡ false
neither_first true b e = e
neither_first false b e = refl

pub neither_second : (a b : Bool) → (a || b) ≡ false → b ≡ false
neither_second true b e = absurd (cc)
neither_second false b e = e

pub all_three : (a b c : Bool) → (a && b && c) ≡ true → (a ≡ true) × (b ≡ true) × (c ≡ true)
all_three true true true e = (refl, refl, refl)
all_three true true false e = absurd (cc)
all_three true false true e = absurd (cc)
all_three true false false e = absurd (cc)
all_three false true true e = absurd (cc)
all_three false true false e = absurd (cc)
all_three false false true e = absurd (cc)
all_three false false false e = absurd (cc)

pub bools_same : (a b : Bool) → (a ≡ true → b ≡ true) → (b ≡ true → a ≡ true) → a ≡ b
bools_same true b one other = sym (one refl)
bools_same false true one other = other refl
bools_same false false one other = refl

-- one of two is found: a search that goes on where the first is not
pub cond_either : (b h : Bool) → cond b true h ≡ (h || (b || false))
cond_either true true = refl
cond_either true false = refl
cond_either false true = refl
cond_either false false = refl
