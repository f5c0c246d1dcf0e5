-- Facts of what `Loading` defines, that several crates above take.
use Rattle.std.proofs.Common.{◌≡◌, ℕ, List, [], ◌∷◌, map, refl, ap, zero, suc, ◌+◌, ◌*◌, ◌≤◌, true, arith}
use Rattle.cx_text.specs.Loading.{PlainMemory, with_words, word_count}
use Rattle.std.specs.Prelude.{nat_le}
use Rattle.std.specs.List.{list_all}
use Rattle.std.proofs.lemmas.Bool.{leb-true, and_parts}

pub same_shapes : (ms : List PlainMemory) (words : List (List ℕ)) → map (λ (m : PlainMemory). m.shape) (with_words ms words) ≡ map (λ (m : PlainMemory). m.shape) ms
same_shapes [] words = refl
same_shapes (m ∷ ms) [] = refl
same_shapes (m ∷ ms) (ws ∷ words) = ap (λ rs. m.shape ∷ rs) (same_shapes ms words)

-- a memory has words, and few of them
pub word_count_positive : (sizes : List ℕ) → list_all (λ size. nat_le 1 size) sizes ≡ true → 1 ≤ word_count sizes
word_count_positive [] e = omega arith
word_count_positive (size ∷ sizes) e =
    let parts = and_parts (nat_le 1 size) (list_all (λ size. nat_le 1 size) sizes) e in
    let first = leb-true 1 size parts.0 in
    let rest = word_count_positive sizes parts.1 in
    product size (word_count sizes) first rest
  where
    product : (a b : ℕ) → 1 ≤ a → 1 ≤ b → 1 ≤ a * b
    product (suc a) (suc b) one other = let same : suc a * suc b ≡ suc b + a * suc b = omega arith in omega (arith, same)
    product zero b one other = absurd (omega (arith, one))
    product (suc a) zero one other = absurd (omega (arith, other))
