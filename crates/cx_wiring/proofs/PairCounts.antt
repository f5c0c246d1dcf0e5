-- How many bundles a tree has: a sixteenth of its drivers on each level, and with all levels at most half as many as drivers.
use Rattle.std.proofs.Common.{◌≡◌, ℕ, zero, suc, ◌+◌, ◌*◌, ◌<◌, ◌≤◌, Bool, true, false, if◌then◌else◌, refl, arith}
use Rattle.std.specs.Prelude.{nat_lt}
use Rattle.std.proofs.lemmas.Bool.{ltb-true}
use Rattle.cx_wiring.specs.Trees.{together, begun, bundle_count, pairs_within, pairs}

begun_few : (room n : ℕ) → room ≤ 15 → 16 * begun room n + room ≤ n + 15
begun_few room zero few = omega arith
begun_few zero (suc n) few =
    let within : 15 ≤ 15 = omega arith in
    let h : 16 * begun 15 n + 15 ≤ n + 15 = begun_few 15 n within in
    omega arith
begun_few (suc room) (suc n) few =
    let within : room ≤ 15 = omega arith in
    let h : 16 * begun room n + room ≤ n + 15 = begun_few room n within in
    omega arith

pub bundles_few : (n : ℕ) → 16 * bundle_count n ≤ n + 15
bundles_few n =
    let within : 0 ≤ 15 = omega arith in
    let h : 16 * begun 0 n + 0 ≤ n + 15 = begun_few 0 n within in
    omega arith

pairs_within_few : (levels n : ℕ) → pairs_within levels n + pairs_within levels n ≤ n
pairs_within_few zero n = omega arith
pairs_within_few (suc levels) n = choice (nat_lt together n) refl (pairs_within_few levels (bundle_count n))
  where
    choice : (b : Bool) → nat_lt together n ≡ b → pairs_within levels (bundle_count n) + pairs_within levels (bundle_count n) ≤ bundle_count n
        → (if b then bundle_count n + pairs_within levels (bundle_count n) else 0) + (if b then bundle_count n + pairs_within levels (bundle_count n) else 0) ≤ n
    choice true e later =
        let more : 16 < n = ltb-true 16 n e in
        let few : 16 * bundle_count n ≤ n + 15 = bundles_few n in
        omega arith
    choice false e later = omega arith

pub pairs_few : (n : ℕ) → pairs n + pairs n ≤ n
pairs_few n = pairs_within_few n n
