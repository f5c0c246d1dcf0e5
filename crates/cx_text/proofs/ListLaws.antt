-- Facts of lists: members, places, what stands where.
use Rattle.std.proofs.Common.{◌≡◌, ℕ, zero, suc, ◌<◌, List, [], ◌∷◌, length, Some, arith, refl, get_or, option_map, map, ap, ◌∙◌, ◌++◌, ◌+◌, take, ◌⊎◌, inl, inr, ⊎_elim, ◌≢◌, set, drop, drop-cons, sym, add-one, replicate, Bool, true, false, ◌&&◌, if◌then◌else◌, ◌-◌, ◌≤◌, slice_set, ap₂, append_assoc}
use Rattle.std.specs.Prelude.{slice_get}
use Rattle.std.proofs.lemmas.Option.{slice_get-map, slice_get_read}
use Rattle.std.proofs.Math.Seq.{take-append_seam}
use Rattle.std.specs.List.{list_all, range_with_len}
use Rattle.std.proofs.lemmas.List.FromFn.{map-range_with_len_more}

pub there_below : {A : Type 0} (xs : List A) (n : ℕ) (x : A) → slice_get xs n ≡ Some x → n < length xs
there_below [] n x e = absurd (cc)
there_below (y ∷ xs) zero x e = omega arith
there_below (y ∷ xs) (suc n) x e = let lt = there_below xs n x e in omega (arith, lt)

pub there_at : {A : Type 0} (list : List A) (n : ℕ) → n < length list → (x : A) × (slice_get list n ≡ Some x)
there_at [] n h = absurd (omega arith)
there_at (y ∷ list) zero h = (y, refl)
there_at (y ∷ list) (suc n) h = there_at list n (let k : suc n < suc (length list) = h in omega arith)

-- what an element of a list stands for
pub item_at : {A B : Type 0} (f : A → B) (xs : List A) (i : ℕ) (x : A) → i < length xs → x ≡ get_or xs i x → slice_get (map f xs) i ≡ Some (f x)
item_at f xs i x lt at = slice_get-map f xs i ∙ ap (option_map f) (slice_get_read xs (length xs) i x refl lt at)

pub front : {A : Type 0} (xs ys : List A) (k : ℕ) (x : A) → slice_get xs k ≡ Some x → slice_get (xs ++ ys) k ≡ Some x
front [] ys k x e = absurd (cc)
front (y ∷ xs) ys zero x e = e
front (y ∷ xs) ys (suc k) x e = front xs ys k x e

pub behind : {A : Type 0} (xs ys : List A) (k j : ℕ) → k ≡ length xs + j → slice_get (xs ++ ys) k ≡ slice_get ys j
behind [] ys k j e = let same : k ≡ j = omega arith in ap (slice_get ys) same
behind (x ∷ xs) ys zero j e = absurd (omega arith)
behind (x ∷ xs) ys (suc k) j e = behind xs ys k j (omega arith)

pub append-front : {A : Type 0} (xs ys : List A) (i : ℕ) → i < length xs → slice_get (xs ++ ys) i ≡ slice_get xs i
append-front [] ys i lt = absurd (omega arith)
append-front (x ∷ xs) ys zero lt = refl
append-front (x ∷ xs) ys (suc i) lt = append-front xs ys i (let h : suc i < suc (length xs) = lt in omega arith)

-- a list that is written back whole
pub written_back : {A : Type 0} (new rest : List A) (len : ℕ) → len ≡ length new → take len (new ++ rest) ≡ new
written_back new rest len same = ap (λ k. take k (new ++ rest)) same ∙ take-append_seam new rest

pub slice_get-next : {A : Type 0} (x : A) (xs : List A) (k : ℕ) → slice_get (x ∷ xs) (suc k) ≡ slice_get xs k
slice_get-next x xs k = refl

-- what stands in a list with one more
pub either_at : {A : Type 0} (xs : List A) (x y : A) (n : ℕ) → slice_get (xs ++ x ∷ []) n ≡ Some y → (slice_get xs n ≡ Some y) ⊎ ((n ≡ length xs) × (x ≡ y))
either_at [] x y zero e = inr (refl, (let f : Some x ≡ Some y = e in cc))
either_at [] x y (suc n) e = absurd (cc)
either_at (z ∷ xs) x y zero e = inl e
either_at (z ∷ xs) x y (suc n) e = ⊎_elim (λ f. inl f) (λ f. inr (ap suc f.0, f.1)) (either_at xs x y n e)

pub set_other : {A : Type 0} (xs : List A) (i j : ℕ) (y : A) → j ≢ i → slice_get (set xs i y) j ≡ slice_get xs j
set_other [] i j y n = refl
set_other (x ∷ xs) zero zero y n = absurd (n refl)
set_other (x ∷ xs) zero (suc j) y n = refl
set_other (x ∷ xs) (suc i) zero y n = refl
set_other (x ∷ xs) (suc i) (suc j) y n = set_other xs i j y (λ e. n (ap suc e))

pub get_end : {A : Type 0} (xs : List A) (y : A) → slice_get (xs ++ y ∷ []) (length xs) ≡ Some y
get_end [] y = refl
get_end (x ∷ xs) y = get_end xs y

pub get_same : {A : Type 0} (xs : List A) (k : ℕ) (d e : A) → k < length xs → get_or xs k d ≡ get_or xs k e
get_same [] k d e h = absurd (omega (arith, h))
get_same (x ∷ xs) zero d e h = refl
get_same (x ∷ xs) (suc k) d e h = get_same xs k d e (omega (arith, h))

pub set_same : {A : Type 0} (xs : List A) (i : ℕ) (y : A) → i < length xs → slice_get (set xs i y) i ≡ Some y
set_same [] i y h = absurd (omega arith)
set_same (x ∷ xs) zero y h = refl
set_same (x ∷ xs) (suc i) y h = set_same xs i y (let lt : suc i < suc (length xs) = h in omega arith)

-- a list from an item on
pub drop_item : {A : Type 0} (xs : List A) (i : ℕ) (x : A) → x ≡ get_or xs i x → i < length xs → drop i xs ≡ x ∷ drop (i + 1) xs
drop_item xs i x at within = drop-cons xs i x within ∙ ap (λ y. y ∷ drop (suc i) xs) (sym at) ∙ ap (λ j. x ∷ drop j xs) (sym (add-one i))

pub one_of : (k j : ℕ) → j < k → slice_get {X = ℕ} (replicate k 1) j ≡ Some 1
one_of zero j less = absurd (omega arith)
one_of (suc k) zero less = refl
one_of (suc k) (suc j) less = one_of k j (omega arith)

pub kept : (t : Bool) (test : ℕ → Bool) (b : ℕ) (xs : List ℕ) → test b ≡ t → list_all test xs ≡ true → list_all test (if t then b ∷ xs else []) ≡ true
kept true test b xs e h = ap (λ t. t && list_all test xs) e ∙ h
kept false test b xs e h = refl

pub spliced : (t : Bool) (b : ℕ) (xs ys whole : List ℕ) → xs ++ ys ≡ whole → (if t then b ∷ xs else []) ++ (if t then ys else b ∷ whole) ≡ b ∷ whole
spliced true b xs ys whole e = ap (λ w. b ∷ w) e
spliced false b xs ys whole e = refl

pub length-map : {A B : Type 0} (f : A → B) (xs : List A) → length (map f xs) ≡ length xs
length-map f [] = refl
length-map f (x ∷ xs) = ap suc (length-map f xs)

pub append-back : {A : Type 0} (xs ys : List A) (n : ℕ) → length xs ≤ n → slice_get (xs ++ ys) n ≡ slice_get ys (n - length xs)
append-back [] ys n le = let same : n ≡ n - 0 = omega arith in ap (slice_get ys) same
append-back (x ∷ xs) ys zero le = absurd (omega arith)
append-back (x ∷ xs) ys (suc n) le = let same : n - length xs ≡ suc n - length (x ∷ xs) = omega arith in append-back xs ys n (omega arith) ∙ ap (slice_get ys) same

pub one_more : {A : Type 0} (xs : List A) (x : A) → length (xs ++ x ∷ []) ≡ length xs + 1
one_more [] x = refl
one_more (y ∷ xs) x = let h = one_more xs x in omega (arith, h)

pub snoc_length : {A : Type 0} (xs : List A) (y : A) → length (xs ++ y ∷ []) ≡ suc (length xs)
snoc_length [] y = refl
snoc_length (x ∷ xs) y = ap suc (snoc_length xs y)

pub read_at : {A : Type 0} (xs : List A) (i : ℕ) (x : A) → i < length xs → x ≡ get_or xs i x → slice_get xs i ≡ Some x
read_at xs i x lt at = slice_get_read xs (length xs) i x refl lt at

pub get_set_same : {A : Type 0} (xs : List A) (i : ℕ) (v : A) → i < length xs → slice_get (slice_set xs i v) i ≡ Some v
get_set_same [] i v lt = absurd (omega arith)
get_set_same (x ∷ xs) zero v lt = refl
get_set_same (x ∷ xs) (suc i) v lt = let step : length (x ∷ xs) ≡ suc (length xs) = refl in get_set_same xs i v (omega arith)

pub take_all : {A : Type 0} (xs : List A) (k : ℕ) → length xs ≤ k → take k xs ≡ xs
take_all [] zero le = refl
take_all [] (suc k) le = refl
take_all (x ∷ xs) zero le = absurd (let h : suc (length xs) ≤ 0 = le in omega (arith, h))
take_all (x ∷ xs) (suc k) le = ap (λ ys. x ∷ ys) (take_all xs k (let h : suc (length xs) ≤ suc k = le in omega (arith, h)))

pub same_map : {A : Type 0} (f : A → A) → ((x : A) → f x ≡ x) → (xs : List A) → map f xs ≡ xs
same_map f h [] = refl
same_map f h (x ∷ xs) = ap (λ y. y ∷ map f xs) (h x) ∙ ap (λ ys. x ∷ ys) (same_map f h xs)

pub at_map : {A B : Type 0} (f : A → B) (list : List A) (n : ℕ) (y : B) → slice_get (map f list) n ≡ Some y → (x : A) × (slice_get list n ≡ Some x) × (f x ≡ y)
at_map f [] n y e = absurd (cc)
at_map f (x ∷ xs) zero y e = (x, refl, cc)
at_map f (x ∷ xs) (suc n) y e = at_map f xs n y e

pub nothing_more : {A : Type 0} (xs : List A) → xs ++ [] ≡ xs
nothing_more [] = refl
nothing_more (x ∷ xs) = ap (λ list. x ∷ list) (nothing_more xs)

pub both_none : {A : Type 0} (xs ys : List A) → xs ≡ [] → ys ≡ [] → xs ++ ys ≡ []
both_none xs ys e h = ap₂ ◌++◌ e h

-- an item for each number, behind a list
pub range_appended : {A : Type 0} (f : ℕ → A) (old xs ys : List A) (x : A) (n : ℕ) → ys ≡ xs ++ x ∷ [] → xs ≡ old ++ map f (range_with_len 0 n) → x ≡ f n → ys ≡ old ++ map f (range_with_len 0 (n + 1))
range_appended f old xs ys x n pushed so_far is =
    pushed ∙ ap (λ l. l ++ x ∷ []) so_far ∙ ap (λ y. (old ++ map f (range_with_len 0 n)) ++ y ∷ []) is ∙ append_assoc old (map f (range_with_len 0 n)) (f n ∷ [])
    ∙ ap (λ l. old ++ l) (sym (map-range_with_len_more f 0 n n (omega arith)))

pub range_pushed : {A : Type 0} (f : ℕ → A) (xs ys : List A) (x : A) (n : ℕ) → ys ≡ xs ++ x ∷ [] → xs ≡ map f (range_with_len 0 n) → x ≡ f n → ys ≡ map f (range_with_len 0 (n + 1))
range_pushed f xs ys x n = range_appended f [] xs ys x n

-- the elements from one on

pub two_maps : {A B C : Type 0} (f : A → B) (g : B → C) (h : A → C) → ((x : A) → g (f x) ≡ h x) → (xs : List A) → map g (map f xs) ≡ map h xs
two_maps f g h same [] = refl
two_maps f g h same (x ∷ xs) = ap (λ y. y ∷ map g (map f xs)) (same x) ∙ ap (λ ys. h x ∷ ys) (two_maps f g h same xs)
