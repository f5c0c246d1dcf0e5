-- Powers of two: what 128 bits keep of a number that is wanted modulo a power of two up to 2 ^ 128.
use Rattle.std.proofs.Common.{◌≡◌, ℕ, ◌+◌, ◌-◌, ◌*◌, ◌/◌, ◌%◌, ◌^◌, ◌<◌, ◌≤◌, mul_assoc, sym, ap, ◌∙◌, subst, arith}
use Rattle.std.proofs.lemmas.Nat.{pow-add, pow_pos, mul-add-lt, shl_whole}
use Rattle.std.proofs.lemmas.Nat.Bits.{ones_shr}
use Rattle.std.proofs.Math.Pow.{mod-mod-pow}
use Rattle.std.proofs.Math.Nat.{add-mul-mod_self_right, mul-mod_left, div-eq_of_lt, pow-le-pow_right}

-- a power of two is a multiple of each lower one
pub pow_split : (w k : ℕ) → w ≤ k → 2 ^ k ≡ 2 ^ (k - w) * 2 ^ w
pow_split w k h =
    let parts : k - w + w ≡ k = omega arith in
    ap (λ n. 2 ^ n) (sym parts) ∙ pow-add 2 (k - w) w

-- a power of two is at least each lower one
pub pow_grows : (w k : ℕ) → w ≤ k → 2 ^ w ≤ 2 ^ k
pow_grows w k h = let two : 0 < 2 = omega arith in pow-le-pow_right two h

-- the greatest number of 128 bits, shifted down to w bits
pub ones-shift : (w : ℕ) → w ≤ 128 → (2 ^ 128 - 1) / 2 ^ (128 - w) ≡ 2 ^ w - 1
ones-shift w h =
    let below : 128 - w ≤ 128 = omega arith in
    let back : 128 - (128 - w) ≡ w = omega arith in
    ones_shr 128 (128 - w) below ∙ ap (λ k. 2 ^ k - 1) back

-- taken modulo 2 ^ 128 first
pub mod-mod_wide : (w n : ℕ) → w ≤ 128 → n % 2 ^ 128 % 2 ^ w ≡ n % 2 ^ w
mod-mod_wide w n h =
    let parts : 128 - w + w ≡ 128 = omega arith in
    let P : ℕ → Type 0 = λ k. n % 2 ^ k % 2 ^ w ≡ n % 2 ^ w in
    subst P parts (mod-mod-pow n (128 - w) w)

-- a number below p, taken from q + 1 times p
sub_turns : (a b p q : ℕ) → b < p → a + ((q + 1) * p - b) ≡ a + p - b + q * p
sub_turns a b p q below = omega arith

-- a difference that borrows from 2 ^ 128 borrows as one that borrows from 2 ^ w
pub sub-mod_wide : (w a b : ℕ) → w ≤ 128 → b < 2 ^ w → (a + (2 ^ 128 - b)) % 2 ^ 128 % 2 ^ w ≡ (a + 2 ^ w - b) % 2 ^ w
sub-mod_wide w a b h below =
    let times = 2 ^ (128 - w) - 1 in
    let positive : 0 < 2 ^ (128 - w) = pow_pos (128 - w) in
    let more : 2 ^ (128 - w) ≡ times + 1 = omega arith in
    mod-mod_wide w (a + (2 ^ 128 - b)) h
    ∙ ap (λ n. (a + (n - b)) % 2 ^ w) (pow_split w 128 h ∙ ap (λ n. n * 2 ^ w) more)
    ∙ ap (λ n. n % 2 ^ w) (sub_turns a b (2 ^ w) times below)
    ∙ add-mul-mod_self_right (a + 2 ^ w - b) times (2 ^ w)

-- a shift by the width or more leaves no bit
pub shift-mod_past : (w a k : ℕ) → w ≤ k → a * 2 ^ k % 2 ^ w ≡ 0
shift-mod_past w a k h =
    ap (λ n. a * n % 2 ^ w) (pow_split w k h)
    ∙ ap (λ n. n % 2 ^ w) (sym (mul_assoc a (2 ^ (k - w)) (2 ^ w)))
    ∙ mul-mod_left (a * 2 ^ (k - w)) (2 ^ w)

-- what has w bits, shifted down by w or more, is 0
pub div-pow_past : (w a k : ℕ) → a < 2 ^ w → w ≤ k → a / 2 ^ k ≡ 0
div-pow_past w a k below h =
    let past : a < 2 ^ k = omega (arith, pow_grows w k h) in
    div-eq_of_lt past

-- two numbers side by side: the upper one is not cut, and the whole has as many bits as both
pub record FitSideBySide (a w b v : ℕ) : Type 0 where
  pub uncut : a * 2 ^ v % 2 ^ 128 ≡ a * 2 ^ v
  pub within : a * 2 ^ v + b < 2 ^ (w + v)
  pub representable : a * 2 ^ v + b < 2 ^ 128

-- two numbers that fit their widths fit side by side
pub side_by_side : (a w b v : ℕ) → a < 2 ^ w → b < 2 ^ v → w + v ≤ 128 → FitSideBySide a w b v
side_by_side a w b v upper lower fit =
    let whole : a * 2 ^ v + b < 2 ^ w * 2 ^ v = omega (arith, mul-add-lt a (2 ^ v) b (2 ^ w) upper lower) in
    let within : a * 2 ^ v + b < 2 ^ (w + v) = rw (pow-add 2 w v) whole in
    let representable : a * 2 ^ v + b < 2 ^ 128 = omega (arith, pow_grows (w + v) 128 fit) in
    record { uncut = shl_whole a w v 128 upper fit; within = within; representable = representable }
