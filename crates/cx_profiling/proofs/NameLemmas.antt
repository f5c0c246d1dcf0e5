-- Free names: there are as many as are asked for, none is taken, and no two are the same.
use Rattle.std.proofs.Common.{◌≡◌, ℕ, zero, suc, ◌+◌, ◌<◌, ◌≤◌, ◌^◌, Bool, true, false, not, ◌||◌, inl, inr, ◌⊎◌, List, [], ◌∷◌, ◌++◌, length, map, Some, None, Option, refl, sym, ap, ◌∙◌, subst, arith}
use Rattle.std.specs.Prelude.{filter, take, drop, if◌then◌else◌}
use Rattle.std.specs.List.{range_with_len, slice_get}
use Rattle.std.proofs.lemmas.Fmt.{decimal_injective}
use Rattle.cx_text.proofs.MemberLaws.{in_at, in_either, number_in}
use Rattle.cx_text.proofs.BoolLaws.{from_not}
use Rattle.cx_text.specs.Members.{In}
use Rattle.cx_numbering.specs.Names.{same_name, is_among}
use Rattle.cx_numbering.proofs.NamesLemmas.{same_name-true, same_name-refl, is_among-cons}
use Rattle.cx_rules.specs.Wellformed.{AreApart}
use Rattle.cx_profiling.specs.FreeNames.{profile_name, free_names}
use Rattle.cx_profiling.specs.Instrumented.{name_at}

-- a name that is among no taken ones is none of them
pub not_among : (name : List ℕ) (taken : List (List ℕ)) → is_among name taken ≡ false → In taken name → ⊥
not_among name [] e i = absurd i
not_among name (x ∷ xs) e i = by i (sym (is_among-cons name x xs) ∙ e) (not_among name xs)
  where
    neither : (a b : Bool) → a || b ≡ false → (a ≡ false) × (b ≡ false)
    neither true b e = absurd cc
    neither false b e = (refl, e)

    by : In (x ∷ xs) name → same_name x name || is_among name xs ≡ false → (is_among name xs ≡ false → In xs name → ⊥) → ⊥
    by (inl same) e rest = absurd (let n = (neither (same_name x name) (is_among name xs) e).0 in let y : same_name x name ≡ true = ap (λ z. same_name x z) (sym same) ∙ same_name-refl x in let f : true ≡ false = sym y ∙ n in cc)
    by (inr i) e rest = rest (neither (same_name x name) (is_among name xs) e).1 i

-- how many of a list pass a test
abbrev how_many : {A : Type 0} → (A → Bool) → List A → ℕ
how_many p [] = 0
how_many p (x ∷ xs) = if p x then suc (how_many p xs) else how_many p xs

filter-length : {A : Type 0} (p : A → Bool) (xs : List A) → length (filter (λ x. not (p x)) xs) + how_many p xs ≡ length xs
filter-length p [] = refl
filter-length p (x ∷ xs) = by (p x) (filter-length p xs)
  where
    by : (b : Bool) → length (filter (λ y. not (p y)) xs) + how_many p xs ≡ length xs
        → length (if not b then x ∷ filter (λ y. not (p y)) xs else filter (λ y. not (p y)) xs) + (if b then suc (how_many p xs) else how_many p xs) ≡ suc (length xs)
    by true e = omega arith
    by false e = omega arith

how_many-either : {A : Type 0} (p q r : A → Bool) (xs : List A) → ((x : A) → r x ≡ p x || q x) → how_many r xs ≤ how_many p xs + how_many q xs
how_many-either p q r [] e = omega arith
how_many-either {A} p q r (x ∷ xs) e = subst (λ b. (if b then suc (how_many r xs) else how_many r xs) ≤ how_many p (x ∷ xs) + how_many q (x ∷ xs)) (sym (e x)) (by (p x) (q x) (how_many-either p q r xs e))
  where
    by : (a b : Bool) → how_many r xs ≤ how_many p xs + how_many q xs
        → (if a || b then suc (how_many r xs) else how_many r xs) ≤ (if a then suc (how_many p xs) else how_many p xs) + (if b then suc (how_many q xs) else how_many q xs)
    by true true h = omega arith
    by true false h = omega arith
    by false true h = omega arith
    by false false h = h

-- numbered names are apart
pub profile_names_apart : (m n : ℕ) → m < 2 ^ 64 → n < 2 ^ 64 → profile_name m ≡ profile_name n → m ≡ n
profile_names_apart m n a b e = decimal_injective m n a b (ap (drop 8) e)

-- of numbered names at most one is a given one
none_is : (x : List ℕ) (m a n : ℕ) → x ≡ profile_name m → m < a → a + n < 2 ^ 64 → how_many (λ name. same_name x name) (map profile_name (range_with_len a n)) ≡ 0
none_is x m a zero e less few = refl
none_is x m a (suc n) e less few = by (same_name x (profile_name a)) refl (none_is x m (a + 1) n e (omega arith) (omega arith))
  where
    rest : ℕ
    rest = how_many (λ name. same_name x name) (map profile_name (range_with_len (a + 1) n))

    by : (b : Bool) → same_name x (profile_name a) ≡ b → rest ≡ 0 → (if b then suc rest else rest) ≡ 0
    by true same r = absurd (let one : m ≡ a = profile_names_apart m a (omega arith) (omega arith) (sym e ∙ same_name-true x (profile_name a) same) in omega arith)
    by false other r = r

one_is : (x : List ℕ) (a n : ℕ) → a + n < 2 ^ 64 → how_many (λ name. same_name x name) (map profile_name (range_with_len a n)) ≤ 1
one_is x a zero few = omega arith
one_is x a (suc n) few = by (same_name x (profile_name a)) refl (λ e. none_is x a (a + 1) n e (omega arith) (omega arith)) (one_is x (a + 1) n (omega arith))
  where
    rest : ℕ
    rest = how_many (λ name. same_name x name) (map profile_name (range_with_len (a + 1) n))

    by : (b : Bool) → same_name x (profile_name a) ≡ b → (x ≡ profile_name a → rest ≡ 0) → rest ≤ 1 → (if b then suc rest else rest) ≤ 1
    by true same none r = let z : rest ≡ 0 = none (same_name-true x (profile_name a) same) in omega arith
    by false other none r = r

none_among : {A : Type 0} (xs : List A) → how_many (λ x. false) xs ≡ 0
none_among [] = refl
none_among (x ∷ xs) = none_among xs

few_taken : (taken : List (List ℕ)) (a n : ℕ) → a + n < 2 ^ 64 → how_many (λ name. is_among name taken) (map profile_name (range_with_len a n)) ≤ length taken
few_taken [] a n few = let z : how_many (λ name. is_among name []) (map profile_name (range_with_len a n)) ≡ 0 = none_among (map profile_name (range_with_len a n)) in omega arith
few_taken (x ∷ xs) a n few =
    let both : how_many (λ name. is_among name (x ∷ xs)) (map profile_name (range_with_len a n)) ≤ how_many (λ name. same_name x name) (map profile_name (range_with_len a n)) + how_many (λ name. is_among name xs) (map profile_name (range_with_len a n)) =
    how_many-either (λ name. same_name x name) (λ name. is_among name xs) (λ name. is_among name (x ∷ xs)) (map profile_name (range_with_len a n)) (λ name. is_among-cons name x xs) in
    let one : how_many (λ name. same_name x name) (map profile_name (range_with_len a n)) ≤ 1 = one_is x a n few in
    let rest : how_many (λ name. is_among name xs) (map profile_name (range_with_len a n)) ≤ length xs = few_taken xs a n few in
    omega arith

-- FREE NAMES
abbrev candidates : List (List ℕ) → ℕ → List (List ℕ)
candidates taken n = filter (λ name. not (is_among name taken)) (map profile_name (range_with_len 0 n))

length-take : {A : Type 0} (k : ℕ) (xs : List A) → k ≤ length xs → length (take k xs) ≡ k
length-take zero xs le = refl
length-take (suc k) [] le = absurd (omega arith)
length-take (suc k) (x ∷ xs) le = ap suc (length-take k xs (omega arith))

-- as many as are asked for
pub free_names-length : (taken : List (List ℕ)) (k : ℕ) → k + length taken < 2 ^ 64 → length (free_names taken k) ≡ k
free_names-length taken k few =
    let all : length (map profile_name (range_with_len 0 (k + length taken))) ≡ k + length taken = long 0 (k + length taken) in
    let parts : length (candidates taken (k + length taken)) + how_many (λ name. is_among name taken) (map profile_name (range_with_len 0 (k + length taken))) ≡ length (map profile_name (range_with_len 0 (k + length taken))) =
    filter-length (λ name. is_among name taken) (map profile_name (range_with_len 0 (k + length taken))) in
    let some : how_many (λ name. is_among name taken) (map profile_name (range_with_len 0 (k + length taken))) ≤ length taken = few_taken taken 0 (k + length taken) (omega arith) in
    length-take k (candidates taken (k + length taken)) (omega arith)
  where
    long : (a n : ℕ) → length (map profile_name (range_with_len a n)) ≡ n
    long a zero = refl
    long a (suc n) = ap suc (long (a + 1) n)

in_take : {A : Type 0} (k : ℕ) (xs : List A) (x : A) → In (take k xs) x → In xs x
in_take zero xs x i = absurd i
in_take (suc k) [] x i = absurd i
in_take (suc k) (y ∷ xs) x (inl e) = inl e
in_take (suc k) (y ∷ xs) x (inr i) = inr (in_take k xs x i)

-- what passes a filter is in the list and passes the test
pub in_filter : {A : Type 0} (p : A → Bool) (xs : List A) (x : A) → In (filter p xs) x → In xs x × (p x ≡ true)
in_filter p [] x i = absurd i
in_filter {A} p (y ∷ xs) x i = by (p y) refl i (in_filter p xs x)
  where
    by : (b : Bool) → p y ≡ b → In (if b then y ∷ filter p xs else filter p xs) x → (In (filter p xs) x → In xs x × (p x ≡ true)) → In (y ∷ xs) x × (p x ≡ true)
    by true e (inl same) rest = (inl same, subst (λ z. p z ≡ true) same e)
    by true e (inr i) rest = let r = rest i in (inr r.0, r.1)
    by false e i rest = let r = rest i in (inr r.0, r.1)

-- none is taken
pub free_names-free : (taken : List (List ℕ)) (k : ℕ) (name : List ℕ) → In (free_names taken k) name → In taken name → ⊥
free_names-free taken k name i here =
    let in_all : In (candidates taken (k + length taken)) name = in_take k (candidates taken (k + length taken)) name i in
    let passes = in_filter (λ n. not (is_among n taken)) (map profile_name (range_with_len 0 (k + length taken))) name in_all in
    not_among name taken (from_not (is_among name taken) passes.1) here

-- each is a numbered one
in_numbered : (a n : ℕ) (name : List ℕ) → In (map profile_name (range_with_len a n)) name → (m : ℕ) × (name ≡ profile_name m) × (a ≤ m) × (m < a + n)
in_numbered a zero name i = absurd i
in_numbered a (suc n) name (inl e) = (a, sym e, omega arith, omega arith)
in_numbered a (suc n) name (inr i) = by (in_numbered (a + 1) n name i)
  where
    by : (m : ℕ) × (name ≡ profile_name m) × (a + 1 ≤ m) × (m < a + 1 + n) → (m : ℕ) × (name ≡ profile_name m) × (a ≤ m) × (m < a + suc n)
    by (m, e, from, to) = (m, e, omega arith, omega arith)

pub free_names-bounded : (taken : List (List ℕ)) (k : ℕ) (name : List ℕ) → In (free_names taken k) name → (m : ℕ) × (name ≡ profile_name m) × (m < k + length taken)
free_names-bounded taken k name i =
    let passes = in_filter (λ n. not (is_among n taken)) (map profile_name (range_with_len 0 (k + length taken))) name (in_take k (candidates taken (k + length taken)) name i) in
    let n = in_numbered 0 (k + length taken) name passes.0 in
    let less : n.0 < 0 + (k + length taken) = n.3 in
    (n.0, n.1, omega (arith, less))

pub free_names-numbered : (taken : List (List ℕ)) (k : ℕ) (name : List ℕ) → In (free_names taken k) name → (m : ℕ) × (name ≡ profile_name m)
free_names-numbered taken k name i = let n = free_names-bounded taken k name i in (n.0, n.1)

-- no two of a list are the same
abbrev pub AllApart : {A : Type 0} → List A → Type 0
AllApart [] = Unit {0}
AllApart (x ∷ xs) = (In xs x → ⊥) × AllApart xs

apart_filter : {A : Type 0} (p : A → Bool) (xs : List A) → AllApart xs → AllApart (filter p xs)
apart_filter p [] h = tt
apart_filter {A} p (x ∷ xs) (new, rest) = by (p x) (apart_filter p xs rest)
  where
    by : (b : Bool) → AllApart (filter p xs) → AllApart (if b then x ∷ filter p xs else filter p xs)
    by true h = (λ i. new (in_filter p xs x i).0, h)
    by false h = h

apart_take : {A : Type 0} (k : ℕ) (xs : List A) → AllApart xs → AllApart (take k xs)
apart_take zero xs h = tt
apart_take (suc k) [] h = tt
apart_take (suc k) (x ∷ xs) (new, rest) = (λ i. new (in_take k xs x i), apart_take k xs rest)

apart_numbered : (a n : ℕ) → a + n < 2 ^ 64 → AllApart (map profile_name (range_with_len a n))
apart_numbered a zero few = tt
apart_numbered a (suc n) few = (other, apart_numbered (a + 1) n (omega arith))
  where
    other : In (map profile_name (range_with_len (a + 1) n)) (profile_name a) → ⊥
    other i =
        let m = in_numbered (a + 1) n (profile_name a) i in
        let from : a + 1 ≤ m.0 = m.2 in
        let to : m.0 < a + 1 + n = m.3 in
        let same : a ≡ m.0 = profile_names_apart a m.0 (omega arith) (omega arith) m.1 in
        omega arith

pub free_names-apart : (taken : List (List ℕ)) (k : ℕ) → k + length taken < 2 ^ 64 → AllApart (free_names taken k)
free_names-apart taken k few =
    apart_take k (candidates taken (k + length taken))
    (apart_filter (λ n. not (is_among n taken)) (map profile_name (range_with_len 0 (k + length taken))) (apart_numbered 0 (k + length taken) (omega arith)))

-- NEW NAMES BEHIND OLD ONES: some of a list of names that are apart, and none is among the old ones
abbrev pub some_names : List (List ℕ) → ℕ → ℕ → List (List ℕ)
some_names names n zero = []
some_names names n (suc k) = name_at names n ∷ some_names names (suc n) k

name_in : (names : List (List ℕ)) (n : ℕ) → n < length names → In names (name_at names n)
name_in [] n less = absurd (omega arith)
name_in (x ∷ xs) zero less = inl refl
name_in (x ∷ xs) (suc n) less = inr (name_in xs n (omega arith))

-- names at two places are apart
places_apart : (names : List (List ℕ)) (m n : ℕ) → AllApart names → m < n → n < length names → name_at names m ≡ name_at names n → ⊥
places_apart [] m n h less there e = absurd (omega arith)
places_apart (x ∷ xs) m zero h less there e = absurd (omega arith)
places_apart (x ∷ xs) zero (suc n) (new, rest) less there e = new (subst (In xs) (sym e) (name_in xs n (omega arith)))
places_apart (x ∷ xs) (suc m) (suc n) (new, rest) less there e = places_apart xs m n rest (omega arith) (omega arith) e

in_some : (names : List (List ℕ)) (n k : ℕ) (name : List ℕ) → In (some_names names n k) name → (m : ℕ) × (n ≤ m) × (m < n + k) × (name_at names m ≡ name)
in_some names n zero name i = absurd i
in_some names n (suc k) name (inl e) = (n, omega arith, omega arith, e)
in_some names n (suc k) name (inr i) = by (in_some names (suc n) k name i)
  where
    by : (m : ℕ) × (suc n ≤ m) × (m < suc n + k) × (name_at names m ≡ name) → (m : ℕ) × (n ≤ m) × (m < n + suc k) × (name_at names m ≡ name)
    by (m, from, to, e) = (m, omega arith, omega arith, e)

pub some_apart : (names : List (List ℕ)) (n k : ℕ) → AllApart names → n + k ≤ length names → AllApart (some_names names n k)
some_apart names n zero h few = tt
some_apart names n (suc k) h few = (other, some_apart names (suc n) k h (omega arith))
  where
    other : In (some_names names (suc n) k) (name_at names n) → ⊥
    other i =
        let m = in_some names (suc n) k (name_at names n) i in
        let from : suc n ≤ m.0 = m.1 in
        let to : m.0 < suc n + k = m.2 in
        places_apart names n m.0 h (omega arith) (omega arith) (sym m.3)

pub some_in : (names : List (List ℕ)) (n k : ℕ) (name : List ℕ) → n + k ≤ length names → In (some_names names n k) name → In names name
some_in names n k name few i =
    let m = in_some names n k name i in
    let to : m.0 < n + k = m.2 in
    subst (In names) m.3 (name_in names m.0 (omega arith))

one_place : {A : Type 0} (xs : List A) (m n : ℕ) (x : A) → AllApart xs → slice_get xs m ≡ Some x → slice_get xs n ≡ Some x → m ≡ n
one_place [] m n x h a b = absurd cc
one_place (y ∷ xs) zero zero x h a b = refl
one_place (y ∷ xs) zero (suc n) x (new, rest) a b = absurd (new (in_at xs n y (b ∙ sym a)))
one_place (y ∷ xs) (suc m) zero x (new, rest) a b = absurd (new (in_at xs m y (a ∙ sym b)))
one_place (y ∷ xs) (suc m) (suc n) x (new, rest) a b = ap suc (one_place xs m n x rest a b)

-- names that are apart stay so with new ones behind them
pub apart_behind : (old new : List (List ℕ)) → AreApart old → AllApart new → ((name : List ℕ) → In new name → In old name → ⊥) → AreApart (old ++ new)
apart_behind [] new h apart other m n name a b some = one_place new m n name apart a b
apart_behind (x ∷ old) new h apart other zero zero name a b some = refl
apart_behind (x ∷ old) new h apart other zero (suc n) name a b some = absurd (by (in_either old new name (in_at (old ++ new) n name b)))
  where
    same : ◌≡◌ {A = Option (List ℕ)} (Some x) (Some name) → x ≡ name
    same e = ap (λ o. first o) e
      where
        first : Option (List ℕ) → List ℕ
        first None = []
        first (Some y) = y

    at : In old name → (i : ℕ) × (slice_get old i ≡ Some name)
    at i = number_in old name i

    by : In old name ⊎ In new name → ⊥
    by (inl i) = let p = at i in let z : 0 ≡ suc p.0 = h 0 (suc p.0) name a p.1 some in omega arith
    by (inr i) = other name i (inl (same a))
apart_behind (x ∷ old) new h apart other (suc m) zero name a b some = absurd (by (in_either old new name (in_at (old ++ new) m name a)))
  where
    same : ◌≡◌ {A = Option (List ℕ)} (Some x) (Some name) → x ≡ name
    same e = ap (λ o. first o) e
      where
        first : Option (List ℕ) → List ℕ
        first None = []
        first (Some y) = y

    at : In old name → (i : ℕ) × (slice_get old i ≡ Some name)
    at i = number_in old name i

    by : In old name ⊎ In new name → ⊥
    by (inl i) = let p = at i in let z : 0 ≡ suc p.0 = h 0 (suc p.0) name b p.1 some in omega arith
    by (inr i) = other name i (inl (same b))
apart_behind (x ∷ old) new h apart other (suc m) (suc n) name a b some =
    ap suc (apart_behind old new (λ i j y f g s. pred_same (h (suc i) (suc j) y f g s)) apart (λ y i k. other y i (inr k)) m n name a b some)
  where
    pred_same : {i j : ℕ} → suc i ≡ suc j → i ≡ j
    pred_same e = omega arith
