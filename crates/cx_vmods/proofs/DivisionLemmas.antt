-- One bit of a division: from quotient and remainder of the bits so far to those of one bit more.
use Rattle.std.specs.Prelude.{◌≡◌, ℕ, ◌+◌, ◌-◌, ◌*◌, ◌/◌, ◌%◌, ◌^◌, ◌<◌, ◌≤◌, ◌==◌, nat_le, Bool, true, false, if◌then◌else◌, refl}
use Rattle.std.proofs.Common.{ap, sym, ◌∙◌, subst, arith}
use Rattle.std.proofs.Math.Nat.{mul-le-mul_right, div-lt_iff_lt-mul, mod-eq_of_lt, mod-lt, mod-le, div-le_self, div-eq_of_lt, mod-add-div, mod-add-div', div-div-eq-div-mul, add-mod_right}
use Rattle.std.proofs.Math.Arith.{mod-mul}
use Rattle.std.proofs.lemmas.Nat.{pow-add, pow_pos, mul-add-lt, mod-mul-add, div-mul-add}
use Rattle.std.proofs.lemmas.Bool.{eqb-true}
use Rattle.std.proofs.lemmas.Bool.Decides.{nat_tests}

-- quotient and remainder of so many bits, as a row has them
abbrev pub quotient_at : ℕ → ℕ → ℕ → ℕ
quotient_at bits dividend divisor = if divisor == 0 then 2 ^ bits - 1 else dividend / divisor

-- the dividend itself where the divisor is 0
abbrev pub remainder_at : ℕ → ℕ → ℕ
remainder_at dividend divisor = if divisor == 0 then dividend else dividend % divisor

-- whether the divisor goes into the remainder with one more bit
abbrev pub goes_into : ℕ → ℕ → ℕ → Bool
goes_into dividend bit divisor = nat_le divisor (2 * remainder_at dividend divisor + bit)

-- a bit as a number
abbrev pub one_where : Bool → ℕ
one_where t = if t then 1 else 0

-- the bits above N of l are those above twice N with one bit more, and the bits below are this bit and the rest
pub record HasBitAt (l N : ℕ) : Type 0 where
  pub above : l / N ≡ 2 * (l / (2 * N)) + l / N % 2
  pub below : l % (2 * N) ≡ l / N % 2 * N + l % N
  pub bit : l / N % 2 < 2

bit_at : (l N : ℕ) → 0 < N → HasBitAt l N
bit_at l N some =
    let two : 0 < 2 = omega arith in
    let parts : l / N % 2 + 2 * (l / N / 2) ≡ l / N = mod-add-div (l / N) 2 in
    let twice : l / N / 2 ≡ l / (N * 2) = div-div-eq-div-mul l N 2 in
    let turned : N * 2 ≡ 2 * N = omega arith in
    let half : l / N / 2 ≡ l / (2 * N) = twice ∙ ap (λ (k : ℕ). l / k) turned in
    record { above = omega (arith, parts, half); below = mod-mul l two some; bit = mod-lt (l / N) two }

module _ (t b r : ℕ) (bit : b < 2) where
  -- for a divisor that is not 0
  module _ (some : 0 < r) where
    first : t % r + t / r * r ≡ t
    first = mod-add-div' t r

    under : t % r < r
    under = mod-lt t some

    taken : r ≤ 2 * (t % r) + b → 2 * t + b ≡ (2 * (t / r) + 1) * r + (2 * (t % r) + b - r)
    taken into = omega (arith, first)

    left : 2 * t + b ≡ 2 * (t / r) * r + (2 * (t % r) + b)
    left = omega (arith, first)

    remainder_some : (g : Bool) → nat_le r (2 * (t % r) + b) ≡ g → (2 * t + b) % r ≡ (if g then 2 * (t % r) + b - r else 2 * (t % r) + b)
    remainder_some true test =
        let into : r ≤ 2 * (t % r) + b = grind (arith, nat_tests) in
        ap (λ (n : ℕ). n % r) (taken into) ∙ mod-mul-add (2 * (t / r) + 1) r (2 * (t % r) + b - r) (let below = under in omega (arith, below))
    remainder_some false test =
        let past : 2 * (t % r) + b < r = grind (arith, nat_tests) in
        ap (λ (n : ℕ). n % r) left ∙ mod-mul-add (2 * (t / r)) r (2 * (t % r) + b) past

    quotient_some : (g : Bool) → nat_le r (2 * (t % r) + b) ≡ g → (2 * t + b) / r ≡ 2 * (t / r) + one_where g
    quotient_some true test =
        let into : r ≤ 2 * (t % r) + b = grind (arith, nat_tests) in
        ap (λ (n : ℕ). n / r) (taken into) ∙ div-mul-add (2 * (t / r) + 1) r (2 * (t % r) + b - r) (let below = under in omega (arith, below))
    quotient_some false test =
        let past : 2 * (t % r) + b < r = grind (arith, nat_tests) in
        let same : 2 * (t / r) ≡ 2 * (t / r) + 0 = omega arith in
        ap (λ (n : ℕ). n / r) left ∙ div-mul-add (2 * (t / r)) r (2 * (t % r) + b) past ∙ same

  -- the next remainder
  pub remainder_at-next : remainder_at (2 * t + b) r ≡ (if goes_into t b r then 2 * remainder_at t r + b - r else 2 * remainder_at t r + b)
  remainder_at-next = by (r == 0) refl
    where
      by : (z : Bool) → (r == 0) ≡ z → (if z then 2 * t + b else (2 * t + b) % r)
          ≡ (if nat_le r (2 * (if z then t else t % r) + b) then 2 * (if z then t else t % r) + b - r else 2 * (if z then t else t % r) + b)
      by true is =
          let none : r ≡ 0 = eqb-true r 0 is in
          let into : nat_le r (2 * t + b) ≡ true = grind (arith, nat_tests) in
          let same : 2 * t + b ≡ 2 * t + b - r = omega arith in
          same ∙ ap (λ (g : Bool). if g then 2 * t + b - r else 2 * t + b) (sym into)
      by false is = remainder_some (grind (arith, nat_tests)) (nat_le r (2 * (t % r) + b)) refl

  -- and the next quotient
  pub quotient_at-next : (c : ℕ) → quotient_at (c + 1) (2 * t + b) r ≡ 2 * quotient_at c t r + one_where (goes_into t b r)
  quotient_at-next c = by (r == 0) refl
    where
      by : (z : Bool) → (r == 0) ≡ z → (if z then 2 ^ (c + 1) - 1 else (2 * t + b) / r) ≡ 2 * (if z then 2 ^ c - 1 else t / r) + one_where (nat_le r (2 * (if z then t else t % r) + b))
      by true is =
          let none : r ≡ 0 = eqb-true r 0 is in
          let into : nat_le r (2 * t + b) ≡ true = grind (arith, nat_tests) in
          let double : 2 ^ (c + 1) ≡ 2 ^ c * 2 = pow-add 2 c 1 in
          let some = pow_pos c in
          let sum : 2 ^ (c + 1) - 1 ≡ 2 * (2 ^ c - 1) + 1 = omega arith in
          sum ∙ ap (λ (g : Bool). 2 * (2 ^ c - 1) + one_where g) (sym into)
      by false is = quotient_some (grind (arith, nat_tests)) (nat_le r (2 * (t % r) + b)) refl

-- both are within the bits of the dividend
pub remainder_at-below : (t r : ℕ) → remainder_at t r ≤ t
remainder_at-below t r = by (r == 0)
  where
    by : (z : Bool) → (if z then t else t % r) ≤ t
    by true = omega arith
    by false = mod-le t r

-- the quotient fits as many bits
pub quotient_at-below : (c t r : ℕ) → t < 2 ^ c → quotient_at c t r < 2 ^ c
quotient_at-below c t r fits = by (r == 0)
  where
    by : (z : Bool) → (if z then 2 ^ c - 1 else t / r) < 2 ^ c
    by true = let some = pow_pos c in omega arith
    by false = let less = div-le_self t r in omega arith

-- the bits of the dividend that are left, above those of the quotient: the highest comes out on top, and the others move up
pub record MovesUp (l N P q : ℕ) : Type 0 where
  pub top : (l % (2 * N) * P + q) / (N * P) ≡ l / N % 2
  pub up : (l % (2 * N) * P + q) * 2 % (2 * (N * P)) ≡ 2 * (l % N * P + q)
  pub room : 2 * (l % N * P + q) + 1 < 2 * (N * P)

-- so they do
pub moves_up : (l N P q : ℕ) → 0 < N → q < P → MovesUp l N P q
moves_up l N P q some fits =
    let at = bit_at l N some in
    let low : l % N < N = mod-lt l some in
    let room_turned : l % N * P + q < P * N = mul-add-lt (l % N) P q N low fits in
    let turned : P * N ≡ N * P = omega arith in
    let room : l % N * P + q < N * P = omega arith in
    let split : l % (2 * N) * P + q ≡ l / N % 2 * (N * P) + (l % N * P + q) = ap (λ (n : ℕ). n * P + q) at.below ∙ by_parts (l / N % 2) N (l % N) P q in
    let double : (l % (2 * N) * P + q) * 2 ≡ l / N % 2 * (2 * (N * P)) + 2 * (l % N * P + q) = ap (λ (n : ℕ). n * 2) split ∙ twice (l / N % 2) (N * P) (l % N * P + q) in
    let room_twice : 2 * (l % N * P + q) < 2 * (N * P) = omega arith in
    record {
      top = ap (λ (n : ℕ). n / (N * P)) split ∙ div-mul-add (l / N % 2) (N * P) (l % N * P + q) room;
      up = ap (λ (n : ℕ). n % (2 * (N * P))) double ∙ mod-mul-add (l / N % 2) (2 * (N * P)) (2 * (l % N * P + q)) room_twice;
      room = omega arith;
    }
  where
    by_parts : (b N x P q : ℕ) → (b * N + x) * P + q ≡ b * (N * P) + (x * P + q)
    by_parts b N x P q = omega arith

    twice : (b M x : ℕ) → (b * M + x) * 2 ≡ b * (2 * M) + 2 * x
    twice b M x = omega arith

-- one cycle of a divider: the remainder with one more bit, whether the divisor goes into it, and what follows. A is two to the number of
-- bits that are left, N half of it, P two to the number of those that are done, W two to the width and M half of it
pub record OneBit (A N P M W c l r : ℕ) : Type 0 where
  pub low : remainder_at (l / A) r / M ≡ 0
  pub longer : (remainder_at (l / A) r * 2 % W + (l % A * P + quotient_at c (l / A) r) / M) % W ≡ 2 * remainder_at (l / A) r + l / N % 2
  pub rest : (if goes_into (l / A) (l / N % 2) r then (2 * remainder_at (l / A) r + l / N % 2 + W - r) % W else 2 * remainder_at (l / A) r + l / N % 2) ≡ remainder_at (l / N) r
  pub digits : ((l % A * P + quotient_at c (l / A) r) * 2 % W + one_where (goes_into (l / A) (l / N % 2) r)) % W ≡ l % N * (2 * P) + quotient_at (c + 1) (l / N) r

one_bit_by : (N P c l r : ℕ) → P ≡ 2 ^ c → 0 < N → l < 2 * (N * P) → r < 2 * (N * P) → OneBit (2 * N) N P (N * P) (2 * (N * P)) c l r
one_bit_by N P c l r power some fits_l fits_r =
    let at = bit_at l N some in
    let half : 0 < 2 * N = omega arith in
    let turned : 2 * (N * P) ≡ P * (2 * N) = omega arith in
    let few : l / (2 * N) < P = (div-lt_iff_lt-mul half).1 (omega (arith, turned, fits_l)) in
    let kept : remainder_at (l / (2 * N)) r ≤ l / (2 * N) = remainder_at-below (l / (2 * N)) r in
    let quotient_fits : quotient_at c (l / (2 * N)) r < P = subst (λ (p : ℕ). quotient_at c (l / (2 * N)) r < p) (sym power) (quotient_at-below c (l / (2 * N)) r (subst (λ (p : ℕ). l / (2 * N) < p) power few)) in
    let up = moves_up l N P (quotient_at c (l / (2 * N)) r) some quotient_fits in
    let grows : 1 * P ≤ N * P = mul-le-mul_right P some in
    let small : remainder_at (l / (2 * N)) r < N * P = omega arith in
    let bit = at.bit in
    let sum_fits : 2 * remainder_at (l / (2 * N)) r + l / N % 2 < 2 * (N * P) = omega arith in
    let doubled : remainder_at (l / (2 * N)) r * 2 % (2 * (N * P)) ≡ 2 * remainder_at (l / (2 * N)) r = let same : remainder_at (l / (2 * N)) r * 2 ≡ 2 * remainder_at (l / (2 * N)) r = omega arith in ap (λ (n : ℕ). n % (2 * (N * P))) same ∙ mod-eq_of_lt (omega arith) in
    let next_rest : remainder_at (l / N) r ≡ (if goes_into (l / (2 * N)) (l / N % 2) r then 2 * remainder_at (l / (2 * N)) r + l / N % 2 - r else 2 * remainder_at (l / (2 * N)) r + l / N % 2) =
    ap (λ (n : ℕ). remainder_at n r) at.above ∙ remainder_at-next (l / (2 * N)) (l / N % 2) r bit in
    let next_quotient : quotient_at (c + 1) (l / N) r ≡ 2 * quotient_at c (l / (2 * N)) r + one_where (goes_into (l / (2 * N)) (l / N % 2) r) =
    ap (λ (n : ℕ). quotient_at (c + 1) n r) at.above ∙ quotient_at-next (l / (2 * N)) (l / N % 2) r bit c in
    record {
      low = div-eq_of_lt small;
      longer = ap (λ (n : ℕ). (n + (l % (2 * N) * P + quotient_at c (l / (2 * N)) r) / (N * P)) % (2 * (N * P))) doubled ∙ ap (λ (n : ℕ). (2 * remainder_at (l / (2 * N)) r + n) % (2 * (N * P))) up.top ∙ mod-eq_of_lt sum_fits;
      rest = taken (goes_into (l / (2 * N)) (l / N % 2) r) refl (2 * remainder_at (l / (2 * N)) r + l / N % 2) refl sum_fits ∙ sym next_rest;
      digits = ap (λ (n : ℕ). (n + one_where (goes_into (l / (2 * N)) (l / N % 2) r)) % (2 * (N * P))) up.up
          ∙ mod-eq_of_lt (let room = up.room in let one = at_most (goes_into (l / (2 * N)) (l / N % 2) r) in omega (arith, room, one))
          ∙ spread (l % N) P (quotient_at c (l / (2 * N)) r) (one_where (goes_into (l / (2 * N)) (l / N % 2) r))
          ∙ ap (λ (n : ℕ). l % N * (2 * P) + n) (sym next_quotient);
    }
  where
    at_most : (g : Bool) → one_where g ≤ 1
    at_most true = omega arith
    at_most false = omega arith

    spread : (x P q t : ℕ) → 2 * (x * P + q) + t ≡ x * (2 * P) + (2 * q + t)
    spread x P q t = omega arith

    taken : (g : Bool) → nat_le r (2 * remainder_at (l / (2 * N)) r + l / N % 2) ≡ g → (long : ℕ) → long ≡ 2 * remainder_at (l / (2 * N)) r + l / N % 2 → long < 2 * (N * P)
        → (if g then (long + 2 * (N * P) - r) % (2 * (N * P)) else long) ≡ (if g then long - r else long)
    taken true test long is fits =
        let into : r ≤ long = grind (arith, nat_tests, is) in
        let same : long + 2 * (N * P) - r ≡ long - r + 2 * (N * P) = omega arith in
        ap (λ (n : ℕ). n % (2 * (N * P))) same ∙ add-mod_right (long - r) (2 * (N * P)) ∙ mod-eq_of_lt (omega arith)
    taken false test long is fits = refl

-- of a width, where some bits are left
pub one_bit : (w c l r : ℕ) → c < w → l < 2 ^ w → r < 2 ^ w → OneBit (2 ^ (w - c)) (2 ^ (w - (c + 1))) (2 ^ c) (2 ^ (w - 1)) (2 ^ w) c l r
one_bit w c l r under fits_l fits_r =
    let N = 2 ^ (w - (c + 1)) in
    let P = 2 ^ c in
    let left : 2 ^ (w - c) ≡ 2 * N = let same : w - c ≡ w - (c + 1) + 1 = omega arith in let power : 2 ^ (w - (c + 1) + 1) ≡ N * 2 = pow-add 2 (w - (c + 1)) 1 in let e = ap (λ (k : ℕ). 2 ^ k) same in omega (arith, e, power) in
    let half : 2 ^ (w - 1) ≡ N * P = let same : w - 1 ≡ w - (c + 1) + c = omega arith in ap (λ (k : ℕ). 2 ^ k) same ∙ pow-add 2 (w - (c + 1)) c in
    let whole : 2 ^ w ≡ 2 * (N * P) = let same : w ≡ w - 1 + 1 = omega arith in let power : 2 ^ (w - 1 + 1) ≡ 2 ^ (w - 1) * 2 = pow-add 2 (w - 1) 1 in let e = ap (λ (k : ℕ). 2 ^ k) same in omega (arith, e, power, half) in
    subst (λ (A : ℕ). OneBit A N P (2 ^ (w - 1)) (2 ^ w) c l r) (sym left)
    (subst (λ (M : ℕ). OneBit (2 * N) N P M (2 ^ w) c l r) (sym half)
    (subst (λ (W : ℕ). OneBit (2 * N) N P (N * P) W c l r) (sym whole)
    (one_bit_by N P c l r refl (pow_pos (w - (c + 1))) (subst (λ (W : ℕ). l < W) whole fits_l) (subst (λ (W : ℕ). r < W) whole fits_r))))
