-- Marks of pairs that are added, one set of pairs after another.
use Rattle.std.proofs.Common.{◌≡◌, ℕ, zero, suc, ◌+◌, ◌<◌, ◌≤◌, Bool, true, false, ◌||◌, ◌&&◌, nat_lt, List, [], ◌∷◌, get_or, set, take, length, map, replicate, refl, sym, ap, ◌∙◌, arith, ⊎_elim, add-one}
use Rattle.std.specs.List.{list_any}
use Rattle.std.proofs.lemmas.Bool.{cases_eq, cases_lt, lt-ltb, le-ltb, true≢false}
use Rattle.std.proofs.lemmas.List.{get_or-set_same, get_or-set_other, get_or_past, length-set, get_or-replicate, length-replicate}
use Rattle.std.proofs.lemmas.List.Folds.{list_any_more}
use Rattle.cx_text.proofs.ListLaws.{take_all}
use Rattle.cx_meaning.specs.Instances.{Set, just}
use Rattle.cx_share.specs.Marks.{AreMarks, Adds, any_of}
use Rattle.cx_share.specs.Tables.{row_at, IsTable, Joins, pairs_of, between, marked_pairs, in_order}
use Rattle.cx_share.proofs.MarkLemmas.{adds_none, adds_then, adds_same, adds_step, any_of-map}
use Rattle.cx_text.proofs.BoolLaws.{or_false}
use Rattle.cx_meaning.proofs.InstancesLemmas.{just_other, just_same}

pub joins_none : (rows : List (List Bool)) → Joins rows rows (λ x y. false)
joins_none rows = record { count = refl; rows = λ x lt. adds_none (row_at rows x) }

pub joins_then : (a b c : List (List Bool)) (p q : ℕ → Set) → Joins a b p → Joins b c q → Joins a c (λ x y. p x y || q x y)
joins_then a b c p q f g = record {
  count = g.count ∙ f.count;
  rows = λ x lt.
      let below : x < length b = omega (arith, f.count) in
      adds_then (row_at a x) (row_at b x) (row_at c x) (p x) (q x) (f.rows x lt) (g.rows x below);
}

-- pairs that are the same for the cells of the table
pub joins_same : (count : ℕ) (a b : List (List Bool)) (p q : ℕ → Set) → IsTable count a → ((x y : ℕ) → x < count → y < count → p x y ≡ q x y) → Joins a b p → Joins a b q
joins_same count a b p q t h f = record {
  count = f.count;
  rows = λ x lt.
      let inside : x < count = omega (arith, t.height) in
      adds_same (row_at a x) (row_at b x) (p x) (q x) (λ y below. h x y inside (let wide : length (row_at a x) ≡ count = t.width x inside in omega (arith, wide))) (f.rows x lt);
}

-- a table stays one
pub joined_table : (count : ℕ) (a b : List (List Bool)) (p : ℕ → Set) → IsTable count a → Joins a b p → IsTable count b
joined_table count a b p t f = record {
  height = f.count ∙ t.height;
  width = λ x inside.
      let lt : x < length a = omega (arith, t.height) in
      (f.rows x lt).count ∙ t.width x inside;
}

-- a row is changed
pub joins_row : (rows : List (List Bool)) (one : ℕ) (row : List Bool) (set_of : Set) → one < length rows → Adds (row_at rows one) row set_of
    → Joins rows (set rows one row) (λ x y. just one x && set_of y)
joins_row rows one row set_of inside p = record {
  count = length-set rows one row;
  rows = λ x lt. ⊎_elim (λ e. same x e) (λ h. other x h) (cases_eq x one);
}
  where
    and-true : (v w : Bool) → v ≡ true → w ≡ (v && w)
    and-true true w e = refl
    and-true false w e = absurd (cc)

    and-false : (v w : Bool) → v ≡ false → false ≡ (v && w)
    and-false true w e = absurd (cc)
    and-false false w e = refl

    here : Adds (row_at rows one) (row_at (set rows one row) one) (λ y. just one one && set_of y)
    here =
        let at : row_at (set rows one row) one ≡ row = get_or-set_same rows one row [] inside in
        rw at (adds_same (row_at rows one) row set_of (λ y. just one one && set_of y) (λ y lt. and-true (just one one) (set_of y) (just_same one)) p)

    same : (x : ℕ) → x ≡ one → Adds (row_at rows x) (row_at (set rows one row) x) (λ y. just one x && set_of y)
    same x e = rw e here

    other : (x : ℕ) → (x ≡ one → ⊥) → Adds (row_at rows x) (row_at (set rows one row) x) (λ y. just one x && set_of y)
    other x h =
        let at : row_at (set rows one row) x ≡ row_at rows x = get_or-set_other rows one x row [] h in
        rw at (adds_same (row_at rows x) (row_at rows x) (λ y. false) (λ y. just one x && set_of y) (λ y lt. and-false (just one x) (set_of y) (just_other one x (λ e. h (sym e)))) (adds_none (row_at rows x)))

-- one more set of pairs of a list of them
pub joins_step : {A : Type 0} (f : A → ℕ → Set) (xs : List A) (i : ℕ) (x : A) (old mid new : List (List Bool)) → i < length xs → x ≡ get_or xs i x
    → Joins old mid (pairs_of f (take i xs)) → Joins mid new (f x) → Joins old new (pairs_of f (take (i + 1) xs))
joins_step f xs i x old mid new inside is p q = record {
  count = q.count ∙ p.count;
  rows = λ n lt.
      let below : n < length mid = omega (arith, p.count) in
      adds_step (λ a. f a n) xs i x (row_at old n) (row_at mid n) (row_at new n) inside is (p.rows n lt) (q.rows n below);
}

pub joins_all : {A : Type 0} (f : A → ℕ → Set) (xs : List A) (i : ℕ) (old new : List (List Bool)) → length xs ≤ i → Joins old new (pairs_of f (take i xs)) → Joins old new (pairs_of f xs)
joins_all f xs i old new end p = let all : take i xs ≡ xs = take_all xs i end in rw all at p

-- no pairs
pub blank_table : (count : ℕ) → IsTable count (replicate count (replicate count false))
blank_table count = record {
  height = length-replicate count (replicate count false);
  width = λ x lt. ap length (get_or-replicate count x (replicate count false) [] lt) ∙ length-replicate count false;
}

pub blank_marks : (count x : ℕ) → x < count → AreMarks (row_at (replicate count (replicate count false)) x) (λ y. false)
blank_marks count x lt =
    let row : row_at (replicate count (replicate count false)) x ≡ replicate count false = get_or-replicate count x (replicate count false) [] lt in
    rw row (λ y below. none count y)
  where
    none : (n y : ℕ) → get_or (replicate n false) y false ≡ false
    none zero y = refl
    none (suc n) zero = refl
    none (suc n) (suc y) = none n y

pub joins_eq : (a b : List (List Bool)) (p q : ℕ → Set) → ((x y : ℕ) → p x y ≡ q x y) → Joins a b p → Joins a b q
joins_eq a b p q h f = record { count = f.count; rows = λ x lt. adds_same (row_at a x) (row_at b x) (p x) (q x) (λ y below. h x y) (f.rows x lt) }

-- pairs of what the elements of a list stand for
pub joins_map : {A B : Type 0} (f : B → ℕ → Set) (g : A → B) (xs : List A) (a b : List (List Bool)) → Joins a b (pairs_of (λ x. f (g x)) xs) → Joins a b (pairs_of f (map g xs))
joins_map f g xs a b j = joins_eq a b (pairs_of (λ x. f (g x)) xs) (pairs_of f (map g xs)) (λ x y. any_of-map (λ v. f v x) g xs y) j

between_next : (from n : ℕ) (p : ℕ → Set) (x y : ℕ) → from ≤ n → (between from n p x y || (just n x && p x y)) ≡ between from (suc n) p x y
between_next from n p x y le = ⊎_elim (λ lt. before lt) (λ past. inside past) (cases_lt x from)
  where
    before : x < from → (between from n p x y || (just n x && p x y)) ≡ between from (suc n) p x y
    before lt =
        let first : nat_lt x from ≡ true = lt-ltb x from lt in
        let other : just n x ≡ false = just_other n x (λ e. absurd (omega (arith, e))) in
        rw (first, other) refl

    inside : from ≤ x → (between from n p x y || (just n x && p x y)) ≡ between from (suc n) p x y
    inside past =
        let first : nat_lt x from ≡ false = le-ltb x from past in
        ⊎_elim
        (λ lt.
        let here : nat_lt x n ≡ true = lt-ltb x n lt in
        let there : nat_lt x (suc n) ≡ true = lt-ltb x (suc n) (omega arith) in
        let other : just n x ≡ false = just_other n x (λ e. absurd (omega (arith, e))) in
        rw (first, here, there, other) (or_false (p x y)))
        (λ beyond.
        let here : nat_lt x n ≡ false = le-ltb x n beyond in
        ⊎_elim
        (λ (e : n ≡ x).
        let there : nat_lt x (suc n) ≡ true = lt-ltb x (suc n) (omega arith) in
        let same : just n x ≡ true = ap (just n) (sym e) ∙ just_same n in
        rw (first, here, there, same) refl)
        (λ h.
        let there : nat_lt x (suc n) ≡ false = le-ltb x (suc n) (omega (arith, h)) in
        let other : just n x ≡ false = just_other n x h in
        rw (first, here, there, other) refl)
        (cases_eq n x))
        (cases_lt x n)

pub joins_next : (rows mid new : List (List Bool)) (from n : ℕ) (p : ℕ → Set) → from ≤ n → Joins rows mid (between from n p) → Joins mid new (λ x y. just n x && p x y) → Joins rows new (between from (n + 1) p)
joins_next rows mid new from n p le f g =
    rw (add-one n)
    (joins_eq rows new (λ x y. between from n p x y || (just n x && p x y)) (between from (suc n) p) (λ x y. between_next from n p x y le) (joins_then rows mid new (between from n p) (λ x y. just n x && p x y) f g))

-- a row of those with which a cell stands
pub joins_one : (rows : List (List Bool)) (one : ℕ) (row ones others : List Bool) → one < length rows → get_or ones one false ≡ true → Adds (row_at rows one) row (λ y. get_or others y false)
    → Joins rows (set rows one row) (λ x y. just one x && marked_pairs ones others x y)
joins_one rows one row ones others inside has p =
    joins_eq rows (set rows one row) (λ x y. just one x && get_or others y false) (λ x y. just one x && marked_pairs ones others x y) (λ x y. pair x y) (joins_row rows one row (λ y. get_or others y false) inside p)
  where
    pair : (x y : ℕ) → (just one x && get_or others y false) ≡ (just one x && marked_pairs ones others x y)
    pair x y =
        ⊎_elim
        (λ (e : one ≡ x). let here : get_or ones x false ≡ true = ap (λ n. get_or ones n false) (sym e) ∙ has in rw here refl)
        (λ h. let other : just one x ≡ false = just_other one x h in rw other refl)
        (cases_eq one x)

pub joins_absent : (rows : List (List Bool)) (one : ℕ) (ones others : List Bool) → get_or ones one false ≡ false → Joins rows rows (λ x y. just one x && marked_pairs ones others x y)
joins_absent rows one ones others none = joins_eq rows rows (λ x y. false) (λ x y. just one x && marked_pairs ones others x y) (λ x y. pair x y) (joins_none rows)
  where
    pair : (x y : ℕ) → false ≡ (just one x && marked_pairs ones others x y)
    pair x y =
        ⊎_elim
        (λ (e : one ≡ x).
        let here : get_or ones x false ≡ false = ap (λ n. get_or ones n false) (sym e) ∙ none in
        let same : just one x ≡ true = ap (just one) (sym e) ∙ just_same one in
        rw (same, here) refl)
        (λ h. let other : just one x ≡ false = just_other one x h in rw other refl)
        (cases_eq one x)

-- a cell that has a mark is there
pub marked_inside : (marks : List Bool) (c : ℕ) → get_or marks c false ≡ true → c < length marks
marked_inside marks c has =
    ⊎_elim (λ lt. lt) (λ past. let none : get_or marks c false ≡ false = get_or_past marks c false past in absurd (true≢false (sym has ∙ none))) (cases_lt c (length marks))

-- SETS IN ORDER: one more set, and those before it
and-false : (a : Bool) → (a && false) ≡ false
and-false true = refl
and-false false = refl

grown : (a b o g e : Bool) → (((a && b) || o) || (g && (a || e))) ≡ ((a && (b || g)) || (o || (g && e)))
grown false b o g e = refl
grown true true o g e = refl
grown true false true true e = refl
grown true false true false e = refl
grown true false false true e = refl
grown true false false false e = refl

order_next : (sets : List (List Bool)) (i : ℕ) (d : List Bool) (x y : ℕ) → i < length sets
    → (in_order (take i sets) y x || (get_or (get_or sets i d) x false && list_any (λ s. get_or s y false) (take i sets))) ≡ in_order (take (suc i) sets) y x
order_next [] i d x y lt = absurd (omega arith)
order_next (s ∷ ss) zero d x y lt = and-false (get_or s x false) ∙ sym (or_false (get_or s y false && false) ∙ and-false (get_or s y false))
order_next (s ∷ ss) (suc i) d x y lt =
    let below : i < length ss = let h : suc i < suc (length ss) = lt in omega arith in
    let new = get_or ss i d in
    let some : (list_any (λ t. get_or t x false) (take i ss) || get_or new x false) ≡ list_any (λ t. get_or t x false) (take (suc i) ss) =
    sym (list_any_more (λ t. get_or t x false) ss i d below) ∙ ap (λ n. list_any (λ t. get_or t x false) (take n ss)) (add-one i) in
    grown (get_or s y false) (list_any (λ t. get_or t x false) (take i ss)) (in_order (take i ss) y x) (get_or new x false) (list_any (λ t. get_or t y false) (take i ss))
    ∙ ap (λ v. (get_or s y false && v) || (in_order (take i ss) y x || (get_or new x false && list_any (λ t. get_or t y false) (take i ss)))) some
    ∙ ap (λ v. (get_or s y false && list_any (λ t. get_or t x false) (take (suc i) ss)) || v) (order_next ss i d x y below)

pub order_more : (sets : List (List Bool)) (i : ℕ) (set : List Bool) (earlier : List Bool) (count : ℕ) (a b c : List (List Bool)) → i < length sets → set ≡ get_or sets i set → IsTable count a → length earlier ≡ count
    → AreMarks earlier (any_of (λ s n. get_or s n false) (take i sets)) → Joins a b (λ x y. in_order (take i sets) y x) → Joins b c (marked_pairs set earlier)
    → Joins a c (λ x y. in_order (take (i + 1) sets) y x)
order_more sets i set earlier count a b c lt at t wide m f g =
    rw (add-one i)
    (joins_same count a c (λ x y. in_order (take i sets) y x || marked_pairs set earlier x y) (λ x y. in_order (take (suc i) sets) y x) t
    (λ x y h k.
    let below : y < length earlier = omega (arith, wide) in
    ap (λ v. in_order (take i sets) y x || (get_or set x false && v)) (m y below)
    ∙ ap (λ s. in_order (take i sets) y x || (get_or s x false && list_any (λ s. get_or s y false) (take i sets))) at
    ∙ order_next sets i set x y lt)
    (joins_then a b c (λ x y. in_order (take i sets) y x) (marked_pairs set earlier) f g))

pub earlier_more : (sets : List (List Bool)) (i : ℕ) (set earlier new : List Bool) → i < length sets → set ≡ get_or sets i set → AreMarks earlier (any_of (λ s n. get_or s n false) (take i sets))
    → Adds earlier new (λ c. get_or set c false) → AreMarks new (any_of (λ s n. get_or s n false) (take (i + 1) sets))
earlier_more sets i set earlier new lt at m p c inside =
    let below : c < length earlier = omega (arith, p.count) in
    p.marks c below ∙ ap (λ v. v || get_or set c false) (m c below) ∙ ap (λ s. any_of (λ s n. get_or s n false) (take i sets) c || get_or s c false) at
    ∙ sym (list_any_more (λ s. get_or s c false) sets i set lt)
