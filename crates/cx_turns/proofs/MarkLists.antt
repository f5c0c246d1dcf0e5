-- Cells that are marked and listed one after the other, and the list in order.
use Rattle.std.proofs.Common.{◌≡◌, ℕ, zero, suc, ◌+◌, ◌≤◌, ◌<◌, Bool, true, false, not, ◌||◌, ◌&&◌, nat_eq, nat_lt, cond, ⊎_elim, List, [], ◌∷◌, ◌++◌, length, get_or, set, Option, Some, None, refl, sym, ap, ◌∙◌, subst, arith}
use Rattle.std.specs.Prelude.{All}
use Rattle.std.specs.List.{count_by}
use Rattle.std.specs.List.Sorted.{IsPermutation, IsNonDecreasingBy}
use Rattle.std.proofs.lemmas.Bool.{cases_lt, eqb-true, eqb-false, lt-ltb, le-ltb, or_right}
use Rattle.std.proofs.lemmas.List.{get_or-set_same, get_or-set_other, get_or_past, length-set, length_push}
use Rattle.std.proofs.lemmas.List.Sorted.{sum_by-IsPermutation}
use Rattle.std.proofs.lemmas.List.Sums.{sum_by-cons, sum_by_push, sum_by-set}
use Rattle.cx_eval_cycle.specs.Passes.{IsAscending, listed_in}
use Rattle.cx_turns.specs.Marks.{Lists, is_marked, set_count}
use Rattle.cx_eval_cycle.proofs.PassLemmas.{Above, above_of}
use Rattle.cx_text.proofs.NumberLaws.{same_numbers}

-- cells in order are no more than those that they are of
pub ascending_few : (xs : List ℕ) (m : ℕ) → IsAscending xs → All (λ c. c < m) xs → length xs ≤ m
ascending_few xs m ascending within =
    let few = from xs 0 (omega arith) (above_of xs 0 (λ k e. omega arith) ascending) within in
    omega (arith, few)
  where
    from : (ys : List ℕ) (k : ℕ) → k ≤ m → Above k ys → All (λ c. c < m) ys → k + length ys ≤ m
    from [] k some above all = omega (arith, some)
    from (y ∷ ys) k some above all =
        let here = above.0 in
        let less = all 0 y (omega arith) in
        let rest = from ys (suc y) (omega (arith, less)) above.1 (λ j e lt. all (suc j) e (omega (arith, lt))) in
        omega (arith, here, rest)

pub not_joined : (a b m : Bool) → (not a && (not b && m)) ≡ (not (a || b) && m)
not_joined true b m = refl
not_joined false b m = refl

abbrev one : Bool → ℕ
one b = cond b 1 0

-- HOW MANY marks are set
set_cons : (m : Bool) (ms : List Bool) → set_count (m ∷ ms) ≡ one m + set_count ms
set_cons m ms = sum_by-cons one m ms

set_most : (marks : List Bool) → set_count marks ≤ length marks
set_most [] = omega arith
set_most (m ∷ ms) = by m (set_most ms)
  where
    by : (b : Bool) → set_count ms ≤ length ms → set_count (b ∷ ms) ≤ suc (length ms)
    by true h = (let e : set_count (true ∷ ms) ≡ 1 + set_count ms = set_cons true ms in omega (arith, e, h))
    by false h = (let e : set_count (false ∷ ms) ≡ 0 + set_count ms = set_cons false ms in omega (arith, e, h))

-- one more
module _ (marks : List Bool) (k : ℕ) (inside : k < length marks) (off : is_marked marks k ≡ false) where
  set_more : set_count (set marks k true) ≡ set_count marks + 1
  set_more =
      let all : set_count (set marks k true) + one (is_marked marks k) ≡ set_count marks + 1 = sum_by-set one marks k true false inside in
      let none : one (is_marked marks k) ≡ 0 = ap one off in
      omega (arith, all, none)

  pub set_below : set_count marks < length marks
  set_below = (let h = set_more in let m = set_most (set marks k true) in let e = length-set marks k true in omega (arith, h, m, e))

pub none_set : (marks : List Bool) → ((c : ℕ) → is_marked marks c ≡ false) → set_count marks ≡ 0
none_set [] none = refl
none_set (m ∷ ms) none =
    let e : set_count (m ∷ ms) ≡ one m + set_count ms = set_cons m ms in
    let first : one m ≡ 0 = ap one (none zero) in
    let rest = none_set ms (λ c. none (suc c)) in
    omega (arith, e, first, rest)

pub set_none : (marks : List Bool) → set_count marks ≡ 0 → (c : ℕ) → is_marked marks c ≡ false
set_none [] e zero = refl
set_none [] e (suc c) = refl
set_none (true ∷ ms) e c = absurd (let f : set_count (true ∷ ms) ≡ 1 + set_count ms = set_cons true ms in omega (arith, e, f))
set_none (false ∷ ms) e zero = refl
set_none (false ∷ ms) e (suc c) = set_none ms (let f : set_count (false ∷ ms) ≡ 0 + set_count ms = set_cons false ms in omega (arith, e, f)) c

-- one mark more, and one less
pub mark_one : (marks : List Bool) (k c : ℕ) → k < length marks → is_marked (set marks k true) c ≡ (nat_eq k c || is_marked marks c)
mark_one marks k c inside = by (nat_eq k c) refl
  where
    by : (b : Bool) → nat_eq k c ≡ b → is_marked (set marks k true) c ≡ (b || is_marked marks c)
    by true e = ap (is_marked (set marks k true)) (sym (eqb-true k c e)) ∙ get_or-set_same marks k true false inside
    by false e = get_or-set_other marks k c true false (λ same. eqb-false k c e (sym same))

pub clear_one : (marks : List Bool) (k c : ℕ) → k < length marks → is_marked (set marks k false) c ≡ (not (nat_eq k c) && is_marked marks c)
clear_one marks k c inside = by (nat_eq k c) refl
  where
    by : (b : Bool) → nat_eq k c ≡ b → is_marked (set marks k false) c ≡ (not b && is_marked marks c)
    by true e = ap (is_marked (set marks k false)) (sym (eqb-true k c e)) ∙ get_or-set_same marks k false false inside
    by false e = get_or-set_other marks k c false false (λ same. eqb-false k c e (sym same))

-- a marked cell is one of the marks
pub marked_inside : (marks : List Bool) (c : ℕ) → is_marked marks c ≡ true → c < length marks
marked_inside marks c on = ⊎_elim (λ (less : c < length marks). less) (λ (past : length marks ≤ c). absurd (let e : true ≡ false = sym on ∙ get_or_past marks c false past in cc)) (cases_lt c (length marks))

-- HOW OFTEN a cell is listed
abbrev times : List ℕ → ℕ → ℕ
times cells c = count_by (λ k. nat_eq k c) cells

times_cons : (x : ℕ) (xs : List ℕ) (c : ℕ) → times (x ∷ xs) c ≡ one (nat_eq x c) + times xs c
times_cons x xs c = sum_by-cons (λ k. one (nat_eq k c)) x xs

listed_some : (xs : List ℕ) (c : ℕ) → listed_in xs c ≡ nat_lt 0 (times xs c)
listed_some [] c = refl
listed_some (x ∷ xs) c = by (nat_eq x c) refl (listed_some xs c)
  where
    by : (b : Bool) → nat_eq x c ≡ b → listed_in xs c ≡ nat_lt 0 (times xs c) → (b || listed_in xs c) ≡ nat_lt 0 (times (x ∷ xs) c)
    by true e h = sym (lt-ltb 0 (times (x ∷ xs) c) (let f = times_cons x xs c in let g : one (nat_eq x c) ≡ 1 = ap one e in omega (arith, f, g)))
    by false e h = h ∙ ap (nat_lt 0) (let f = times_cons x xs c in let g : one (nat_eq x c) ≡ 0 = ap one e in let same : times xs c ≡ times (x ∷ xs) c = omega (arith, f, g) in same)

pub listed_as : (xs : List ℕ) (c : ℕ) (b : Bool) → times xs c ≡ one b → listed_in xs c ≡ b
listed_as xs c true e = listed_some xs c ∙ lt-ltb 0 (times xs c) (let f : times xs c ≡ 1 = e in omega (arith, f))
listed_as xs c false e = listed_some xs c ∙ le-ltb 0 (times xs c) (let f : times xs c ≡ 0 = e in omega (arith, f))

-- a list in which no number falls and none stands twice
pub ascends : (xs : List ℕ) → IsNonDecreasingBy (λ k. k) xs → ((c : ℕ) → times xs c ≤ 1) → IsAscending xs
ascends [] up once k m n e f = absurd (let g : ◌≡◌ {A = Option ℕ} None (Some m) = e in cc)
ascends (x ∷ []) up once zero m n e f = absurd (let g : ◌≡◌ {A = Option ℕ} None (Some n) = f in cc)
ascends (x ∷ []) up once (suc k) m n e f = absurd (let g : ◌≡◌ {A = Option ℕ} None (Some m) = e in cc)
ascends (x ∷ y ∷ ys) up once zero m n e f =
    let a : Some x ≡ Some m = e in let b : Some y ≡ Some n = f in
    let first : x ≡ m = cc in let next : y ≡ n = cc in
    let le : x ≤ y = up 0 1 0 (omega arith) (let h : 1 < suc (suc (length ys)) = omega arith in h) in
    ⊎_elim (λ (less : x < y). omega (arith, less, first, next)) (λ (over : y ≤ x). absurd (twice (omega (arith, le, over)))) (cases_lt x y)
  where
    twice : y ≡ x → ⊥
    twice same =
        let p = times_cons x (y ∷ ys) x in
        let q = times_cons y ys x in
        let here : one (nat_eq x x) ≡ 1 = ap one (same_numbers x x refl) in
        let there : one (nat_eq y x) ≡ 1 = ap one (same_numbers y x same) in
        let most = once x in
        omega (arith, p, q, here, there, most)
ascends (x ∷ y ∷ ys) up once (suc k) m n e f =
    ascends (y ∷ ys) (λ i j d le less. up (suc i) (suc j) d (omega (arith, le)) (let h : suc j < suc (length (y ∷ ys)) = omega (arith, less) in h))
    (λ c. (let p = times_cons x (y ∷ ys) c in let o = once c in omega (arith, p, o))) k m n e f

-- THE LIST of marked cells
pub lists_start : (marks : List Bool) → set_count marks ≡ 0 → Lists marks []
lists_start marks clear = record { once = λ c. sym (ap one (set_none marks clear c)); count = sym clear }

pub lists_more : (marks : List Bool) (cells : List ℕ) (k : ℕ) → k < length marks → is_marked marks k ≡ false → Lists marks cells → Lists (set marks k true) (cells ++ k ∷ [])
lists_more marks cells k inside off so = record {
  once = λ c. sum_by_push (λ j. one (nat_eq j c)) cells k ∙ by c (nat_eq k c) refl;
  count = (let h = set_more marks k inside off in let n = so.count in let l = length_push cells k in omega (arith, h, n, l));
}
  where
    by : (c : ℕ) (b : Bool) → nat_eq k c ≡ b → times cells c + one (nat_eq k c) ≡ one (is_marked (set marks k true) c)
    by c true e =
        let before : times cells c ≡ 0 = so.once c ∙ ap one (subst (λ m. is_marked marks m ≡ false) (eqb-true k c e) off) in
        let here : one (nat_eq k c) ≡ 1 = ap one e in
        let now : one (is_marked (set marks k true) c) ≡ 1 = ap one (mark_one marks k c inside ∙ ap (λ b. b || is_marked marks c) e) in
        omega (arith, before, here, now)
    by c false e =
        let before = so.once c in
        let here : one (nat_eq k c) ≡ 0 = ap one e in
        let now : one (is_marked (set marks k true) c) ≡ one (is_marked marks c) = ap one (mark_one marks k c inside ∙ ap (λ b. b || is_marked marks c) e) in
        omega (arith, before, here, now)

module _ (marks : List Bool) (cells : List ℕ) (so : Lists marks cells) where
  pub lists_marked : (c : ℕ) → listed_in cells c ≡ is_marked marks c
  lists_marked c = listed_as cells c (is_marked marks c) (so.once c)

  -- in another order
  module _ (other : List ℕ) (moved : IsPermutation cells other) where
    moved_once : (c : ℕ) → times other c ≡ one (is_marked marks c)
    moved_once c = sum_by-IsPermutation (λ k. one (nat_eq k c)) cells other moved ∙ so.once c

    pub moved_marked : (c : ℕ) → listed_in other c ≡ is_marked marks c
    moved_marked c = listed_as other c (is_marked marks c) (moved_once c)

    pub moved_ascends : IsNonDecreasingBy (λ k. k) other → IsAscending other
    moved_ascends up = ascends other up (λ c. by c (is_marked marks c) (moved_once c))
      where
        by : (c : ℕ) (b : Bool) → times other c ≡ one b → times other c ≤ 1
        by c true e = (let f : times other c ≡ 1 = e in omega (arith, f))
        by c false e = (let f : times other c ≡ 0 = e in omega (arith, f))

  -- and when its marks are taken away
  pub lists_cleared : (new : List Bool) → ((c : ℕ) → is_marked new c ≡ (not (listed_in cells c) && is_marked marks c)) → set_count new ≡ 0
  lists_cleared new cleared = none_set new (λ c. cleared c ∙ ap (λ b. not b && is_marked marks c) (lists_marked c) ∙ none (is_marked marks c))
    where
      none : (b : Bool) → (not b && b) ≡ false
      none true = refl
      none false = refl

pub listed_at : (xs : List ℕ) (k d : ℕ) → k < length xs → listed_in xs (get_or xs k d) ≡ true
listed_at [] k d less = absurd (let h : k < 0 = less in omega (arith, h))
listed_at (x ∷ xs) zero d less = ap (λ b. b || listed_in xs x) (same_numbers x x refl)
listed_at (x ∷ xs) (suc k) d less = or_right (nat_eq x (get_or xs k d)) (listed_in xs (get_or xs k d)) (listed_at xs k d (let h : suc k < suc (length xs) = less in omega (arith, h)))

-- listed cells have their marks
pub lists_inside : (marks : List Bool) (cells : List ℕ) → Lists marks cells → All (λ c. c < length marks) cells
lists_inside marks cells so k d less = marked_inside marks (get_or cells k d) (sym (lists_marked marks cells so (get_or cells k d)) ∙ listed_at cells k d less)
