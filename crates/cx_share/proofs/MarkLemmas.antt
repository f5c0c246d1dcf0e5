-- Marks that are added, one set after another.
use Rattle.std.proofs.Common.{◌≡◌, ℕ, zero, suc, ◌+◌, ◌<◌, ◌≤◌, Bool, true, false, ◌||◌, nat_eq, tests, List, [], ◌∷◌, ◌++◌, get_or, take, length, map, replicate, refl, sym, ap, ◌∙◌, arith, ⊎_elim}
use Rattle.std.proofs.lemmas.Bool.{cases_eq}
use Rattle.std.proofs.lemmas.List.{get_or_append_left, get_or_at, get_or_past, ext_get_or, length-replicate}
use Rattle.std.proofs.lemmas.List.FromFn.{get_or-map-range_with_len, length-map-range_with_len}
use Rattle.std.proofs.lemmas.List.Folds.{list_any_more}
use Rattle.cx_text.proofs.ListLaws.{take_all}
use Rattle.cx_meaning.specs.Instances.{Set, just}
use Rattle.cx_share.specs.Marks.{AreMarks, Adds, any_of, marks_by}
use Rattle.cx_text.proofs.BoolLaws.{or_assoc, or_false}
use Rattle.cx_text.proofs.NumberLaws.{eq_next}

pub adds_none : (xs : List Bool) → Adds xs xs (λ c. false)
adds_none xs = record { count = refl; marks = λ c lt. sym (or_false (get_or xs c false)) }

pub adds_then : (a b c : List Bool) (s t : Set) → Adds a b s → Adds b c t → Adds a c (λ n. s n || t n)
adds_then a b c s t p q = record {
  count = q.count ∙ p.count;
  marks = λ n lt.
      let below : n < length b = omega (arith, p.count) in
      q.marks n below ∙ ap (λ v. v || t n) (p.marks n lt) ∙ or_assoc (get_or a n false) (s n) (t n);
}

pub adds_same : (a b : List Bool) (s t : Set) → ((c : ℕ) → c < length a → s c ≡ t c) → Adds a b s → Adds a b t
adds_same a b s t h p = record { count = p.count; marks = λ c lt. p.marks c lt ∙ ap (λ v. get_or a c false || v) (h c lt) }

-- the marks of a set
pub by_long : (count : ℕ) (set : Set) → length (marks_by count set) ≡ count
by_long count set = length-map-range_with_len set 0 count

pub by_at : (count : ℕ) (set : Set) (c : ℕ) → c < count → get_or (marks_by count set) c false ≡ set c
by_at count set c lt = get_or-map-range_with_len set 0 count c c false lt (omega arith)

pub by_past : (count : ℕ) (set : Set) (c : ℕ) → count ≤ c → get_or (marks_by count set) c false ≡ false
by_past count set c past = get_or_past (marks_by count set) c false (omega (arith, by_long count set))

pub by_same : (count : ℕ) (s t : Set) → ((c : ℕ) → c < count → s c ≡ t c) → marks_by count s ≡ marks_by count t
by_same count s t h =
    ext_get_or false (marks_by count s) (marks_by count t) (by_long count s ∙ sym (by_long count t)) (λ c lt.
    let below : c < count = omega (arith, by_long count s) in
    by_at count s c below ∙ h c below ∙ sym (by_at count t c below))

none_marked : (n c : ℕ) → get_or (replicate n false) c false ≡ false
none_marked zero c = refl
none_marked (suc n) zero = refl
none_marked (suc n) (suc c) = none_marked n c

-- a set that is added to no marks
pub filled : (count : ℕ) (marks : List Bool) (set : Set) → Adds (replicate count false) marks set → marks ≡ marks_by count set
filled count marks set p =
    let wide : length marks ≡ count = p.count ∙ length-replicate count false in
    ext_get_or false marks (marks_by count set) (wide ∙ sym (by_long count set)) (λ c lt.
    let below : c < count = omega (arith, wide) in
    p.marks c (omega (arith, below, length-replicate count false)) ∙ ap (λ v. v || set c) (none_marked count c) ∙ sym (by_at count set c below))

pub filled_at : (count : ℕ) (marks : List Bool) (set : Set) → Adds (replicate count false) marks set → (c : ℕ) → c < count → get_or marks c false ≡ set c
filled_at count marks set p c lt = ap (λ m. get_or m c false) (filled count marks set p) ∙ by_at count set c lt

-- from no marks
pub marks_added : (old new : List Bool) (set : Set) → AreMarks old (λ c. false) → Adds old new set → AreMarks new set
marks_added old new set none p = λ c lt.
    let below : c < length old = omega (arith, p.count) in
    p.marks c below ∙ ap (λ v. v || set c) (none c below)

-- one more set of a list of sets
pub adds_at : {A : Type 0} (f : A → Set) (xs : List A) (i : ℕ) (d : A) (old mid new : List Bool) → i < length xs
    → Adds old mid (any_of f (take i xs)) → Adds mid new (f (get_or xs i d)) → Adds old new (any_of f (take (i + 1) xs))
adds_at f xs i d old mid new inside p q =
    adds_same old new (λ c. any_of f (take i xs) c || f (get_or xs i d) c) (any_of f (take (i + 1) xs))
    (λ c lt. sym (list_any_more (λ y. f y c) xs i d inside))
    (adds_then old mid new (any_of f (take i xs)) (f (get_or xs i d)) p q)

pub adds_step : {A : Type 0} (f : A → Set) (xs : List A) (i : ℕ) (x : A) (old mid new : List Bool) → i < length xs → x ≡ get_or xs i x
    → Adds old mid (any_of f (take i xs)) → Adds mid new (f x) → Adds old new (any_of f (take (i + 1) xs))
adds_step f xs i x old mid new inside is p q =
    adds_at f xs i x old mid new inside p (adds_same mid new (f x) (f (get_or xs i x)) (λ c lt. ap (λ y. f y c) is) q)

-- all of them
pub adds_all : {A : Type 0} (f : A → Set) (xs : List A) (i : ℕ) (old new : List Bool) → length xs ≤ i → Adds old new (any_of f (take i xs)) → Adds old new (any_of f xs)
adds_all f xs i old new end p = let all : take i xs ≡ xs = take_all xs i end in rw all at p

pub any_of-map : {A B : Type 0} (f : B → Set) (g : A → B) (xs : List A) (c : ℕ) → any_of (λ x. f (g x)) xs c ≡ any_of f (map g xs) c
any_of-map f g [] c = refl
any_of-map f g (x ∷ xs) c = ap (λ v. f (g x) c || v) (any_of-map f g xs c)

-- marks that are pushed, one for each cell
pub marks_next : (set : Set) (old : List Bool) (n : ℕ) (b : Bool) → length old ≡ n → ((c : ℕ) → c < n → get_or old c false ≡ set c) → b ≡ set n
    → (c : ℕ) → c < n + 1 → get_or (old ++ b ∷ []) c false ≡ set c
marks_next set old n b wide h e c lt =
    ⊎_elim (λ same. here c same) (λ other. let below : c < n = omega (arith, other) in get_or_append_left old (b ∷ []) false c (omega (arith, wide)) ∙ h c below) (cases_eq c n)
  where
    at : get_or (old ++ b ∷ []) n false ≡ set n
    at = get_or_at old b [] false n wide ∙ e

    here : (c : ℕ) → c ≡ n → get_or (old ++ b ∷ []) c false ≡ set c
    here c same = rw same at
