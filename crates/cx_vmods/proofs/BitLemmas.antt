-- The least width that has so many numbers.
use Rattle.std.specs.Prelude.{◌≡◌, ℕ, zero, suc, ◌+◌, ◌-◌, ◌*◌, ◌%◌, ◌^◌, ◌<◌, ◌≤◌, Bool, true, false, nat_le, if◌then◌else◌, refl}
use Rattle.std.proofs.Common.{ap, ◌∙◌, arith}
use Rattle.std.proofs.Math.Nat.{mod-eq_of_lt}
use Rattle.std.proofs.Math.Pow.{pow-lt}
use Rattle.std.proofs.lemmas.Bool.Decides.{nat_tests}
use Rattle.cx_vmods.specs.BitCounts.{bits_for, bits_from}

-- all widths are tried from 1 on
pub bits_for-all : (numbers : ℕ) → bits_for numbers ≡ bits_from 31 1 numbers
unfolding bits_for
bits_for-all numbers = refl

-- a width that has so many numbers is the least from itself on
pub bits_from-enough : (more width numbers : ℕ) → numbers ≤ 2 ^ width → bits_from more width numbers ≡ width
unfolding bits_from
bits_from-enough zero width numbers enough = refl
bits_from-enough (suc more) width numbers enough =
    let test : nat_le numbers (2 ^ width) ≡ true = grind (arith, nat_tests) in
    ap (λ (b : Bool). if b then width else bits_from more (width + 1) numbers) test

step : (more width numbers : ℕ) → 2 ^ width < numbers → bits_from (suc more) width numbers ≡ bits_from more (width + 1) numbers
unfolding bits_from
step more width numbers few =
    let test : nat_le numbers (2 ^ width) ≡ false = grind (arith, nat_tests) in
    ap (λ (b : Bool). if b then width else bits_from more (width + 1) numbers) test

-- a width that has fewer is passed over
pub bits_from-few : (width numbers : ℕ) → width < 32 → 2 ^ width < numbers → bits_from (32 - width) width numbers ≡ bits_from (32 - (width + 1)) (width + 1) numbers
bits_from-few width numbers below few =
    let more : 32 - width ≡ suc (32 - (width + 1)) = omega arith in
    ap (λ (k : ℕ). bits_from k width numbers) more ∙ step (32 - (width + 1)) width numbers few

-- the last width is taken
pub bits_from-last : (width numbers : ℕ) → 32 ≤ width → bits_from (32 - width) width numbers ≡ width
unfolding bits_from
bits_from-last width numbers last =
    let none : 32 - width ≡ 0 = omega arith in
    ap (λ (k : ℕ). bits_from k width numbers) none

-- one bit moved up by fewer than 32 is a power of two
pub one_moved : (width : ℕ) → width < 32 → (1 * 2 ^ width) % 18446744073709551616 ≡ 2 ^ width
one_moved width below =
    let few : 2 ^ width < 18446744073709551616 = omega (arith, pow-lt below) in
    let same : 1 * 2 ^ width ≡ 2 ^ width = omega arith in
    ap (λ (n : ℕ). n % 18446744073709551616) same ∙ mod-eq_of_lt few

-- a number is below two to itself
pub number_below : (n : ℕ) → n < 2 ^ n
number_below zero = omega arith
number_below (suc n) =
    let last : n < suc n = omega arith in
    let below = number_below n in
    let grows : 2 ^ n < 2 ^ suc n = pow-lt last in
    omega arith
