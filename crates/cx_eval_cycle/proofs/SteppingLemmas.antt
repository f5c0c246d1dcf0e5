-- What is kept of cells that can step, and their numbers.
use Rattle.std.proofs.Common.{◌≡◌, ℕ, zero, suc, ◌+◌, ◌<◌, ◌≤◌, ⊎_elim, List, get_or, [], ◌∷◌, ◌++◌, drop, drop-cons, length, map, Option, Some, None, refl, sym, ap, ◌∙◌, subst, arith}
use Rattle.std.specs.Prelude.{nat_eq, slice_get}
use Rattle.std.proofs.lemmas.Bool.{cases_eq, cases_lt, or_left}
use Rattle.std.proofs.lemmas.List.{length-append}
use Rattle.cx_meaning.specs.Designs.{PlainCell}
use Rattle.cx_design.specs.declared.cells.Cell.{Cell}
use Rattle.cx_design.specs.PlainForms.{plain_cell, plain_kind}
use Rattle.cx_eval_cycle.specs.declared.stepping.SteppingCell.{SteppingCell}
use Rattle.cx_eval_cycle.specs.Passes.{IsAscending, kind_at, listed_in}
use Rattle.cx_eval_cycle.specs.Stepping.{AreStepping, HaveNumbers, IsKeptOf, can_step, kept_at}
use Rattle.cx_eval_cycle.proofs.PassLemmas.{Above, not_listed, or_false}
use Rattle.cx_eval_cycle.proofs.PassesLemmas.{no_kind}
use Rattle.cx_text.proofs.ListLaws.{nothing_more}
use Rattle.cx_text.proofs.NumberLaws.{apart_numbers, same_numbers}

-- the last of a list, and those before
pub last_at : {A : Type 0} (xs : List A) (x y : A) (n : ℕ) → length xs ≡ n → get_or (xs ++ x ∷ []) n y ≡ x
last_at [] x y zero e = refl
last_at [] x y (suc n) e = absurd (omega (arith, e))
last_at (z ∷ xs) x y zero e = absurd (omega (arith, e))
last_at (z ∷ xs) x y (suc n) e = last_at xs x y n (omega (arith, e))

pub before_last : {A : Type 0} (xs : List A) (x y : A) (n : ℕ) → n < length xs → get_or (xs ++ x ∷ []) n y ≡ get_or xs n y
before_last [] x y n lt = absurd (omega (arith, lt))
before_last (z ∷ xs) x y zero lt = refl
before_last (z ∷ xs) x y (suc n) lt = before_last xs x y n (omega (arith, lt))

none_past : (kept : List (Option SteppingCell)) (c : ℕ) → length kept ≤ c → kept_at kept c ≡ None
none_past [] c le = refl
none_past (k ∷ kept) zero le = absurd (omega (arith, le))
none_past (k ∷ kept) (suc c) le = none_past kept c (omega (arith, le))

pub kept_below : (kept : List (Option SteppingCell)) (c : ℕ) (stepping : SteppingCell) → kept_at kept c ≡ Some stepping → c < length kept
kept_below kept c stepping e = ⊎_elim (λ lt. lt) (λ le. absurd (let f : Some stepping ≡ None = sym e ∙ none_past kept c le in cc)) (cases_lt c (length kept))

-- CELL BY CELL
pub kind_there : (cells : List Cell) (n : ℕ) (x : Cell) → n < length cells → kind_at (map plain_cell cells) n ≡ Some (plain_kind (get_or cells n x).kind)
kind_there [] n x lt = absurd (omega arith)
kind_there (cell ∷ cells) zero x lt = refl
kind_there (cell ∷ cells) (suc n) x lt = kind_there cells n x (let k : suc n < suc (length cells) = lt in omega arith)

-- the first cells are kept
pub record AreKept (cells : List PlainCell) (count : ℕ) (kept : List (Option SteppingCell)) : Type 0 where
  pub sized : length kept ≡ count
  pub each : (c : ℕ) → c < count → IsKeptOf (kind_at cells c) (kept_at kept c)

pub kept_more : (cells : List PlainCell) (n : ℕ) (old new : List (Option SteppingCell)) (x : Option SteppingCell) → AreKept cells n old → new ≡ old ++ x ∷ [] → IsKeptOf (kind_at cells n) x → AreKept cells (n + 1) new
kept_more cells n old new x are is kept = record {
  sized = ap length is ∙ length-append old (x ∷ []) ∙ ap (λ k. k + 1) are.sized;
  each =
      λ c lt.
      let sized = are.sized in
      subst (λ ks. IsKeptOf (kind_at cells c) (kept_at ks c)) (sym is)
      (⊎_elim
      (λ (e : c ≡ n). subst (λ k. IsKeptOf (kind_at cells k) (kept_at (old ++ x ∷ []) k)) (sym e) (subst (IsKeptOf (kind_at cells n)) (sym (last_at old x None n sized)) kept))
      (λ differ. (let below : c < n = omega (arith, lt, differ) in subst (IsKeptOf (kind_at cells c)) (sym (before_last old x None c (omega (arith, below, sized)))) (are.each c below)))
      (cases_eq c n));
}

pub all_kept : (cells : List PlainCell) (n : ℕ) (kept : List (Option SteppingCell)) → AreKept cells n kept → length cells ≡ n → AreStepping cells kept
all_kept cells n kept are all = record {
  count = are.sized ∙ sym all;
  each =
      λ c.
      let sized = are.sized in
      ⊎_elim (λ lt. are.each c lt)
      (λ le. subst (λ k. IsKeptOf k (kept_at kept c)) (sym (no_kind cells c (omega (arith, le, all)))) (subst (IsKeptOf None) (sym (none_past kept c (omega (arith, le, sized)))) tt))
      (cases_lt c n);
}

-- NUMBERS of those that can step, from one on
abbrev pub if_steps : Option SteppingCell → ℕ → List ℕ → List ℕ
if_steps None k rest = rest
if_steps (Some stepping) k rest = k ∷ rest

abbrev pub numbers_from : List (Option SteppingCell) → ℕ → List ℕ
numbers_from [] k = []
numbers_from (x ∷ kept) k = if_steps x k (numbers_from kept (suc k))

lower : (xs : List ℕ) (k n : ℕ) → k ≤ n → Above n xs → Above k xs
lower [] k n le a = tt
lower (x ∷ xs) k n le a = let h : n ≤ x = a.0 in (omega (arith, le, h), a.1)

from_above : (kept : List (Option SteppingCell)) (k : ℕ) → Above k (numbers_from kept k)
from_above [] k = tt
from_above (None ∷ kept) k = lower (numbers_from kept (suc k)) k (suc k) (omega arith) (from_above kept (suc k))
from_above (Some stepping ∷ kept) k = (omega arith, from_above kept (suc k))

first_above : (xs : List ℕ) (k n : ℕ) → Above k xs → slice_get xs 0 ≡ Some n → k ≤ n
first_above [] k n a e = absurd (cc)
first_above (x ∷ xs) k n a e = let same : x ≡ n = cc in let h : k ≤ x = a.0 in omega (arith, same, h)

ascending_of : (xs : List ℕ) (k : ℕ) → Above k xs → IsAscending xs
ascending_of [] k a i m n e f = absurd (cc)
ascending_of (x ∷ xs) k a zero m n e f = let same : x ≡ m = cc in let h = first_above xs (suc x) n a.1 f in omega (arith, same, h)
ascending_of (x ∷ xs) k a (suc i) m n e f = ascending_of xs (suc x) a.1 i m n e f

listed_from : (kept : List (Option SteppingCell)) (k c : ℕ) → listed_in (numbers_from kept k) (k + c) ≡ can_step (kept_at kept c)
listed_from [] k c = refl
listed_from (None ∷ kept) k zero = not_listed (numbers_from kept (suc k)) (suc k) (k + 0) (omega arith) (from_above kept (suc k))
listed_from (None ∷ kept) k (suc c) = (let s : k + suc c ≡ suc k + c = omega arith in ap (listed_in (numbers_from kept (suc k))) s) ∙ listed_from kept (suc k) c
listed_from (Some stepping ∷ kept) k zero = or_left (nat_eq k (k + 0)) (listed_in (numbers_from kept (suc k)) (k + 0)) (same_numbers k (k + 0) (omega arith))
listed_from (Some stepping ∷ kept) k (suc c) =
    or_false (nat_eq k (k + suc c)) (listed_in (numbers_from kept (suc k)) (k + suc c)) (apart_numbers k (k + suc c) (omega arith))
    ∙ (let s : k + suc c ≡ suc k + c = omega arith in ap (listed_in (numbers_from kept (suc k))) s)
    ∙ listed_from kept (suc k) c

pub have_numbers : (kept : List (Option SteppingCell)) (numbers : List ℕ) → numbers ≡ numbers_from kept 0 → HaveNumbers kept numbers
have_numbers kept numbers is =
    subst (HaveNumbers kept) (sym is)
    (record { ascending = ascending_of (numbers_from kept 0) 0 (from_above kept 0); listed = λ c. (let z : c ≡ 0 + c = omega arith in ap (listed_in (numbers_from kept 0)) z) ∙ listed_from kept 0 c })

-- the numbers so far, with those of the cells that are left, are all
abbrev pub AreSoFar : List (Option SteppingCell) → List ℕ → ℕ → Type 0
AreSoFar kept numbers n = numbers ++ numbers_from (drop n kept) n ≡ numbers_from kept 0

one_more : (kept : List (Option SteppingCell)) (n : ℕ) → n < length kept → numbers_from (drop n kept) n ≡ if_steps (kept_at kept n) n (numbers_from (drop (n + 1) kept) (n + 1))
one_more kept n lt =
    let s : suc n ≡ n + 1 = omega arith in
    ap (λ ks. numbers_from ks n) (drop-cons kept n None lt) ∙ ap (λ m. if_steps (kept_at kept n) n (numbers_from (drop m kept) m)) s

pub none_more : (kept : List (Option SteppingCell)) (numbers : List ℕ) (n : ℕ) → n < length kept → kept_at kept n ≡ None → AreSoFar kept numbers n → AreSoFar kept numbers (n + 1)
none_more kept numbers n lt is far =
    ap (λ xs. numbers ++ xs) (sym (one_more kept n lt ∙ ap (λ x. if_steps x n (numbers_from (drop (n + 1) kept) (n + 1))) is)) ∙ far

drop_all : (kept : List (Option SteppingCell)) (n : ℕ) → length kept ≤ n → drop n kept ≡ []
drop_all [] zero le = refl
drop_all [] (suc n) le = refl
drop_all (k ∷ kept) zero le = absurd (omega (arith, le))
drop_all (k ∷ kept) (suc n) le = drop_all kept n (omega (arith, le))

pub all_numbers : (kept : List (Option SteppingCell)) (numbers : List ℕ) (n : ℕ) → length kept ≤ n → AreSoFar kept numbers n → HaveNumbers kept numbers
all_numbers kept numbers n le far =
    have_numbers kept numbers (sym (nothing_more numbers) ∙ ap (λ ks. numbers ++ numbers_from ks n) (sym (drop_all kept n le)) ∙ far)
