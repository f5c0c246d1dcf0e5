-- Where the cells of a flat component stand: those that are kept in front, each at a number of its own, and behind them the blocks, none
-- in another.
use Rattle.std.proofs.Common.{◌≡◌, ◌≢◌, ℕ, zero, suc, ◌+◌, ◌<◌, ◌≤◌, ⊎_elim, List, [], ◌∷◌, length, Some, None, nat_eq, refl, sym, ◌∙◌, subst, arith}
use Rattle.std.proofs.Math.Dec.{eqb-zero-suc, eqb-suc-zero, eqb-suc-suc}
use Rattle.std.proofs.lemmas.Bool.{cases_eq, cases_lt}
use Rattle.cx_meaning.specs.Designs.{PlainCell, PlainComponent}
use Rattle.cx_flattening.specs.Flattened.{Kids, kid_at, kept, kept_at, block_size, block_at}

pub kept_less : (kids : Kids) (cells : List PlainCell) (c : ℕ) → c < length cells → kid_at kids c ≡ None → kept_at kids c < length (kept kids cells)
kept_less [] cells c h e = h
kept_less (k ∷ ks) [] c h e = absurd (omega (arith, h))
kept_less (None ∷ ks) (x ∷ xs) zero h e = omega arith
kept_less (Some child ∷ ks) (x ∷ xs) zero h e = absurd (cc)
kept_less (None ∷ ks) (x ∷ xs) (suc c) h e = let ih = kept_less ks xs c (omega (arith, h)) e in omega (arith, ih)
kept_less (Some child ∷ ks) (x ∷ xs) (suc c) h e = kept_less ks xs c (omega (arith, h)) e

pub kept_apart : (kids : Kids) (c d : ℕ) → kid_at kids c ≡ None → kid_at kids d ≡ None → nat_eq (kept_at kids c) (kept_at kids d) ≡ nat_eq c d
kept_apart [] c d e f = refl
kept_apart (k ∷ ks) zero zero e f = refl
kept_apart (None ∷ ks) zero (suc d) e f = eqb-zero-suc (kept_at ks d) ∙ sym (eqb-zero-suc d)
kept_apart (Some child ∷ ks) zero (suc d) e f = absurd (cc)
kept_apart (None ∷ ks) (suc c) zero e f = eqb-suc-zero (kept_at ks c) ∙ sym (eqb-suc-zero c)
kept_apart (Some child ∷ ks) (suc c) zero e f = absurd (cc)
kept_apart (None ∷ ks) (suc c) (suc d) e f = eqb-suc-suc (kept_at ks c) (kept_at ks d) ∙ kept_apart ks c d e f ∙ sym (eqb-suc-suc c d)
kept_apart (Some child ∷ ks) (suc c) (suc d) e f = kept_apart ks c d e f ∙ sym (eqb-suc-suc c d)

-- a block ends before a later cell's begins
pub block_before : (kids : Kids) (c d : ℕ) (child : PlainComponent) → c < d → kid_at kids c ≡ Some child → block_at kids c + block_size (Some child) ≤ block_at kids d
block_before [] c d child h e = absurd (cc)
block_before (k ∷ ks) zero zero child h e = absurd (omega (arith, h))
block_before (k ∷ ks) zero (suc d) child h e = subst (λ x. 0 + block_size (Some child) ≤ block_size x + block_at ks d) (sym e) (omega arith)
block_before (k ∷ ks) (suc c) zero child h e = absurd (omega (arith, h))
block_before (k ∷ ks) (suc c) (suc d) child h e = let ih = block_before ks c d child (omega (arith, h)) e in omega (arith, ih)

-- no cell of one block is one of another
pub blocks_apart : (kids : Kids) (c d m n : ℕ) (one other : PlainComponent) → c ≢ d → kid_at kids c ≡ Some one → kid_at kids d ≡ Some other
    → m < block_size (Some one) → n < block_size (Some other) → block_at kids c + m ≢ block_at kids d + n
blocks_apart kids c d m n one other apart e f less smaller same =
    ⊎_elim
    (λ (h : c < d). let before = block_before kids c d one h e in omega (arith, before, less, same))
    (λ (h : d ≤ c). let before = block_before kids d c other (later h) f in omega (arith, before, smaller, same))
    (cases_lt c d)
  where
    later : d ≤ c → d < c
    later h = ⊎_elim (λ (x : c ≡ d). absurd (apart x)) (λ x. strictly x h) (cases_eq c d)
      where
        strictly : (c ≡ d → ⊥) → d ≤ c → d < c
        strictly x h = ⊎_elim (λ (less : d < c). less) (λ (y : c ≤ d). absurd (x (omega (arith, h, y)))) (cases_lt d c)
