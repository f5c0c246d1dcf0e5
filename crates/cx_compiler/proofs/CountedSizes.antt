-- The size that is counted of a design without static components is its size.
use Rattle.std.proofs.Common.{◌≡◌, ℕ, zero, suc, ◌+◌, ◌≤◌, List, [], ◌∷◌, length, get_or, refl, sym, ap, ◌∙◌, arith}
use Rattle.cx_meaning.specs.Designs.{PlainComponent, PlainDesign, component_at, no_component}
use Rattle.cx_rules.specs.Counts.{unless_static, counted_size, counted_sizes, counted_design_size}
use Rattle.cx_rules.specs.Flat.{IsFlat}
use Rattle.cx_rules.specs.Ports.{component_of}
use Rattle.cx_rules.specs.Sizes.{size_of, sizes_of, design_size}
use Rattle.cx_rules.proofs.CountsLemmas.{counted_size-flat}

abbrev sum_below : (ℕ → ℕ) → ℕ → ℕ
sum_below f zero = 0
sum_below f (suc k) = f k + sum_below f k

from_front : (f : ℕ → ℕ) (n : ℕ) → sum_below f (suc n) ≡ f 0 + sum_below (λ j. f (suc j)) n
from_front f zero = refl
from_front f (suc n) = let rest : f n + sum_below f n ≡ f 0 + sum_below (λ j. f (suc j)) n = from_front f n in omega (arith, rest)

sizes_summed : (parts : List PlainComponent) → sizes_of parts ≡ sum_below (λ j. size_of (get_or parts j no_component) + 1) (length parts)
sizes_summed [] = refl
sizes_summed (part ∷ parts) =
    let rest = sizes_summed parts in
    let front = from_front (λ j. size_of (get_or (part ∷ parts) j no_component) + 1) (length parts) in
    omega (arith, rest, front)

counted_summed : (d : PlainDesign) → IsFlat d → (k : ℕ) → k ≤ length d.components → counted_sizes d k ≡ sum_below (λ j. size_of (component_at d j) + 1) k
counted_summed d flat zero few = refl
counted_summed d flat (suc k) few =
    let own : unless_static (component_at d k).latency (counted_size (component_of d k) + 1) ≡ size_of (component_at d k) + 1 =
    ap (λ o. unless_static o (counted_size (component_of d k) + 1)) ((flat k (omega (arith, few))).dynamic) ∙ ap (λ n. n + 1) (counted_size-flat d flat (length d.components) k) in
    let rest = counted_summed d flat k (omega (arith, few)) in
    omega (arith, own, rest)

pub counted_design_size-flat : (d : PlainDesign) → IsFlat d → counted_design_size d ≡ design_size d
counted_design_size-flat d flat = counted_summed d flat (length d.components) (omega arith) ∙ sym (sizes_summed d.components)
