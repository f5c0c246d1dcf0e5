-- Tables of counts: one more of a group, and of each group that stands in a list.
use Rattle.std.proofs.Common.{◌≡◌, ◌≢◌, ℕ, zero, suc, ◌+◌, ◌%◌, ◌^◌, ◌<◌, ◌≤◌, Bool, true, false, ◌||◌, ⊎_elim, nat_eq, List, [], ◌∷◌, ◌++◌, length, map, get_or, set, take, Option, Some, None, refl, sym, ap, ◌∙◌, subst, arith, if◌then◌else◌}
use Rattle.std.specs.Prelude.{is_some}
use Rattle.std.proofs.Math.Nat.{mod-mod, mod-add-mod}
use Rattle.std.proofs.lemmas.Bool.{cases_eq, cases_lt}
use Rattle.std.proofs.lemmas.List.{get_or-set_same, get_or-set_other, length-set, set-get_or, set_past, take_more}
use Rattle.cx_meaning.specs.Active.{Entry, offset_in, only_at}
use Rattle.cx_design.specs.declared.actives.ActiveEntry.{ActiveEntry}
use Rattle.cx_design.specs.PlainActives.{plain_entry}
use Rattle.cx_text.proofs.NumberLaws.{equal, other, from_eq}
use Rattle.cx_profiling.specs.Counting.{once}
use Rattle.cx_interp.specs.Counts.{KeepsShape, GrowsAt, count_at, one_more}
use Rattle.cx_rules.specs.StaticControl.{one_if}

shape_set : (table : List (List ℕ)) (n : ℕ) (row : List ℕ) → length row ≡ length (get_or table n []) → KeepsShape table (set table n row)
shape_set [] n row e = refl
shape_set (r ∷ rs) zero row e = ap (λ (k : ℕ). k ∷ map (λ row. length row) rs) e
shape_set (r ∷ rs) (suc n) row e = ap (λ (ks : List ℕ). length r ∷ ks) (shape_set rs n row e)

-- one count of a row written
pub one_written : (table : List (List ℕ)) (n g value : ℕ) (row : List ℕ) (much : ℕ → ℕ) → n < length table → row ≡ get_or table n [] → g < length row
    → value % 2 ^ 64 ≡ (get_or row g 0 + much g) % 2 ^ 64 → ((h : ℕ) → h ≢ g → much h ≡ 0) → GrowsAt n much table (set table n (set row g value))
one_written table n g value row much inside is within grown rest = record {
  shape = shape_set table n (set row g value) (length-set row g value ∙ ap (λ (r : List ℕ). length r) is);
  own = λ h lt.
      let now : get_or (set table n (set row g value)) n [] ≡ set row g value = get_or-set_same table n (set row g value) [] inside in
      let was : count_at table n h ≡ get_or row h 0 = ap (λ (r : List ℕ). get_or r h 0) (sym is) in
      ap (λ (r : List ℕ). get_or r h 0 % 2 ^ 64) now
      ∙ ⊎_elim
      (λ (same : h ≡ g).
      ap (λ k. get_or (set row g value) k 0 % 2 ^ 64) same
      ∙ ap (λ v. v % 2 ^ 64) (get_or-set_same row g value 0 within)
      ∙ grown
      ∙ ap (λ k. (get_or row k 0 + much k) % 2 ^ 64) (sym same))
      (λ (other : h ≢ g).
      let none : get_or row h 0 + much h ≡ get_or row h 0 = omega (arith, rest h other) in
      ap (λ v. v % 2 ^ 64) (get_or-set_other row g h value 0 other ∙ sym none))
      (cases_eq h g)
      ∙ ap (λ v. (v + much h) % 2 ^ 64) (sym was);
  others = λ m h other. ap (λ (r : List ℕ). get_or r h 0) (get_or-set_other table n m (set row g value) [] other);
}

-- nothing grows
pub grows_none : (n : ℕ) (table : List (List ℕ)) (much : ℕ → ℕ) → ((h : ℕ) → h < length (get_or table n []) → much h ≡ 0) → GrowsAt n much table table
grows_none n table much none = record {
  shape = refl;
  own = λ h lt. let same : count_at table n h ≡ count_at table n h + much h = omega (arith, none h lt) in ap (λ v. v % 2 ^ 64) same;
  others = λ m h other. refl;
}

once_at : (g : ℕ) → once (only_at g g) ≡ 1
once_at g = ap (λ b. once (if b then Some 0 else None)) (equal g)

once_off : (g h : ℕ) → h ≢ g → once (only_at g h) ≡ 0
once_off g h apart = ap (λ b. once (if b then Some 0 else None)) (other g h (λ e. apart (sym e)))

row_there : (table : List (List ℕ)) (n h : ℕ) → h < length (get_or table n []) → n < length table
row_there [] n h lt = absurd (omega (arith, lt))
row_there (r ∷ rs) zero h lt = omega arith
row_there (r ∷ rs) (suc n) h lt = let e : n < length rs = row_there rs n h lt in omega (arith, e)

-- no such row or count
none_counted : (table : List (List ℕ)) (n g : ℕ) → (n < length table → g < length (get_or table n []) → ⊥) → GrowsAt n (λ h. once (only_at g h)) table table
none_counted table n g outside =
    grows_none n table (λ h. once (only_at g h))
    (λ h lt. ⊎_elim (λ (same : h ≡ g). absurd (outside (row_there table n h lt) (subst (λ k. k < length (get_or table n [])) same lt))) (λ (apart : h ≢ g). once_off g h apart)
    (cases_eq h g))

-- one more of one group, where there is such a count
pub one_counted : (table : List (List ℕ)) (n g : ℕ) (row : List ℕ) → n < length table → row ≡ get_or table n []
    → GrowsAt n (λ h. once (only_at g h)) table (set table n (one_more row g))
one_counted table n g row inside is = ⊎_elim there outside (cases_lt g (length row))
  where
    there : g < length row → GrowsAt n (λ h. once (only_at g h)) table (set table n (one_more row g))
    there within =
        one_written table n g ((get_or row g 0 + 1) % 2 ^ 64) row (λ h. once (only_at g h)) inside is within
        (mod-mod (get_or row g 0 + 1) (2 ^ 64) ∙ ap (λ k. (get_or row g 0 + k) % 2 ^ 64) (sym (once_at g))) (λ h apart. once_off g h apart)

    same : length row ≤ g → set table n (one_more row g) ≡ table
    same past = ap (λ (r : List ℕ). set table n r) (set_past row g ((get_or row g 0 + 1) % 2 ^ 64) past ∙ is) ∙ set-get_or table n []

    outside : length row ≤ g → GrowsAt n (λ h. once (only_at g h)) table (set table n (one_more row g))
    outside past =
        subst (λ (t : List (List ℕ)). GrowsAt n (λ h. once (only_at g h)) table t) (sym (same past))
        (none_counted table n g (λ lt within. let k : g < length row = subst (λ (r : List ℕ). g < length r) (sym is) within in omega (arith, k, past)))

-- the row of an instance, as it is read and written
pub read_mapped : {A B : Type 0} (f : A → B) (xs : List A) (n : ℕ) (v : A) (d : B) → n < length xs → v ≡ get_or xs n v → f v ≡ get_or (map f xs) n d
read_mapped f [] n v d lt e = absurd (omega (arith, lt))
read_mapped f (x ∷ xs) zero v d lt e = ap f e
read_mapped f (x ∷ xs) (suc n) v d lt e = read_mapped f xs n v d (let h : suc n < suc (length xs) = lt in omega (arith, h)) e

-- rows of one shape are as long
lengths_at : (table : List (List ℕ)) (n : ℕ) → get_or (map (λ row. length row) table) n 0 ≡ length (get_or table n [])
lengths_at [] n = refl
lengths_at (r ∷ rs) zero = refl
lengths_at (r ∷ rs) (suc n) = lengths_at rs n

pub row_length : (old new : List (List ℕ)) (n : ℕ) → KeepsShape old new → length (get_or new n []) ≡ length (get_or old n [])
row_length old new n shape = sym (lengths_at new n) ∙ ap (λ (ks : List ℕ). get_or ks n 0) shape ∙ lengths_at old n

pub wraps_twice : (a x b y c : ℕ) → b % 2 ^ 64 ≡ (a + x) % 2 ^ 64 → c % 2 ^ 64 ≡ (b + y) % 2 ^ 64 → c % 2 ^ 64 ≡ (a + (x + y)) % 2 ^ 64
wraps_twice a x b y c first second =
    second
    ∙ sym (mod-add-mod b (2 ^ 64) y)
    ∙ ap (λ k. (k + y) % 2 ^ 64) first
    ∙ mod-add-mod (a + x) (2 ^ 64) y
    ∙ (let sum : a + x + y ≡ a + (x + y) = omega arith in ap (λ k. k % 2 ^ 64) sum)

-- growing twice
pub grows_at_then : (n : ℕ) (first second both : ℕ → ℕ) (old middle new : List (List ℕ)) → ((h : ℕ) → both h ≡ first h + second h) → GrowsAt n first old middle
    → GrowsAt n second middle new → GrowsAt n both old new
grows_at_then n first second both old middle new sum one two = record {
  shape = two.shape ∙ one.shape;
  own = λ h lt.
      let there : h < length (get_or middle n []) = subst (λ k. h < k) (sym (row_length old middle n one.shape)) lt in
      wraps_twice (count_at old n h) (first h) (count_at middle n h) (second h) (count_at new n h) (one.own h lt) (two.own h there) ∙ ap (λ k. (count_at old n h + k) % 2 ^ 64)
      (sym (sum h));
  others = λ m h apart. two.others m h apart ∙ one.others m h apart;
}

pub grows_at_same : (n : ℕ) (much both : ℕ → ℕ) (old new : List (List ℕ)) → ((h : ℕ) → both h ≡ much h) → GrowsAt n much old new → GrowsAt n both old new
grows_at_same n much both old new same one = record {
  shape = one.shape;
  own = λ h lt. one.own h lt ∙ ap (λ k. (count_at old n h + k) % 2 ^ 64) (sym (same h));
  others = one.others;
}

-- LISTS OF ENTRIES: whether a group stands in them
abbrev pub among : List ActiveEntry → ℕ → Bool
among list g = is_some (offset_in (map plain_entry list) g)

among_head : (e : Entry) (es : List Entry) (g : ℕ) → is_some (offset_in (e ∷ es) g) ≡ (nat_eq e.group g || is_some (offset_in es g))
among_head e es g = by_case (nat_eq e.group g)
  where
    by_case : (b : Bool) → is_some (if b then Some e.offset else offset_in es g) ≡ (b || is_some (offset_in es g))
    by_case true = refl
    by_case false = refl

among_append : (xs : List ActiveEntry) (x : ActiveEntry) (g : ℕ) → among (xs ++ x ∷ []) g ≡ (among xs g || nat_eq x.group g)
among_append [] x g = among_head (plain_entry x) [] g ∙ or_none (nat_eq x.group g)
  where
    or_none : (b : Bool) → (b || false) ≡ b
    or_none true = refl
    or_none false = refl
among_append (y ∷ ys) x g =
    among_head (plain_entry y) (map plain_entry (ys ++ x ∷ [])) g
    ∙ ap (λ b. nat_eq y.group g || b) (among_append ys x g)
    ∙ grouped (nat_eq y.group g) (among ys g) (nat_eq x.group g)
    ∙ ap (λ b. b || nat_eq x.group g) (sym (among_head (plain_entry y) (map plain_entry ys) g))
  where
    grouped : (a b c : Bool) → (a || (b || c)) ≡ ((a || b) || c)
    grouped true b c = refl
    grouped false b c = refl

pub among_next : (xs : List ActiveEntry) (k : ℕ) (d : ActiveEntry) (g : ℕ) → k < length xs → among (take (k + 1) xs) g ≡ (among (take k xs) g || nat_eq (get_or xs k d).group g)
among_next xs k d g lt = ap (λ (ys : List ActiveEntry). among ys g) (take_more xs k d lt) ∙ among_append (take k xs) (get_or xs k d) g

pub not_yet : (xs : List ActiveEntry) (k : ℕ) (d : ActiveEntry) (g : ℕ) → k < length xs → among (take k xs) g ≡ false → ((get_or xs k d).group ≡ g → ⊥)
    → among (take (k + 1) xs) g ≡ false
not_yet xs k d g lt none apart = among_next xs k d g lt ∙ ap (λ b. b || nat_eq (get_or xs k d).group g) none ∙ other (get_or xs k d).group g apart

-- an entry of the list has the group
pub stands_there : (xs : List ActiveEntry) (k : ℕ) (d : ActiveEntry) (g : ℕ) → k < length xs → (get_or xs k d).group ≡ g → among xs g ≡ true
stands_there [] k d g lt e = absurd (omega (arith, lt))
stands_there (x ∷ xs) zero d g lt e = among_head (plain_entry x) (map plain_entry xs) g ∙ ap (λ k. nat_eq k g || among xs g) e ∙ ap (λ b. b || among xs g) (equal g)
stands_there (x ∷ xs) (suc k) d g lt e =
    among_head (plain_entry x) (map plain_entry xs) g ∙ ap (λ b. nat_eq x.group g || b) (stands_there xs k d g (omega (arith, lt)) e) ∙ or_true (nat_eq x.group g)
  where
    or_true : (b : Bool) → (b || true) ≡ true
    or_true true = refl
    or_true false = refl

-- what the entries count: once each group that stands in them
once_is : (o : Option ℕ) → once o ≡ one_if (is_some o)
once_is None = refl
once_is (Some m) = refl

-- an entry whose group is counted, and one whose group is not
module _ (n : ℕ) (xs : List ActiveEntry) (k : ℕ) (d : ActiveEntry) (lt : k < length xs) where
  abbrev entry_group : ℕ
  entry_group = (get_or xs k d).group

  abbrev pub CountsFirst : ℕ → List (List ℕ) → List (List ℕ) → Type 0
  CountsFirst j old new = GrowsAt n (λ h. once (offset_in (map plain_entry (take j xs)) h)) old new

  next_is : (h : ℕ) → once (offset_in (map plain_entry (take (k + 1) xs)) h) ≡ one_if (among (take k xs) h || nat_eq entry_group h)
  next_is h = once_is (offset_in (map plain_entry (take (k + 1) xs)) h) ∙ ap one_if (among_next xs k d h lt)

  entry_known : (old new : List (List ℕ)) → among (take k xs) entry_group ≡ true → CountsFirst k old new → CountsFirst (k + 1) old new
  entry_known old new known one = grows_at_same n (λ h. once (offset_in (map plain_entry (take k xs)) h)) (λ h. once (offset_in (map plain_entry (take (k + 1) xs)) h)) old new
      (λ h. next_is h ∙ same (among (take k xs) h) (nat_eq entry_group h) (λ e. ap (λ (g : ℕ). among (take k xs) g) (sym (from_eq entry_group h e)) ∙ known) ∙ sym
      (once_is (offset_in (map plain_entry (take k xs)) h))) one
    where
      same : (a b : Bool) → (b ≡ true → a ≡ true) → one_if (a || b) ≡ one_if a
      same true b only = refl
      same false true only = absurd (let f : false ≡ true = only refl in cc)
      same false false only = refl

  entry_new : (old middle new : List (List ℕ)) → among (take k xs) entry_group ≡ false → CountsFirst k old middle → GrowsAt n (λ h. once (only_at entry_group h)) middle new
      → CountsFirst (k + 1) old new
  entry_new old middle new unknown one two =
      grows_at_then n (λ h. once (offset_in (map plain_entry (take k xs)) h)) (λ h. once (only_at entry_group h)) (λ h. once (offset_in (map plain_entry (take (k + 1) xs)) h))
      old middle new
      (λ h. next_is h ∙ sum (among (take k xs) h) (nat_eq entry_group h) (λ e. ap (λ (g : ℕ). among (take k xs) g) (sym (from_eq entry_group h e)) ∙ unknown) ∙ ap
      (λ v. v + once (only_at entry_group h)) (sym (once_is (offset_in (map plain_entry (take k xs)) h)))) one two
    where
      sum : (a b : Bool) → (b ≡ true → a ≡ false) → one_if (a || b) ≡ one_if a + once (if b then Some 0 else None)
      sum true true only = absurd (let f : true ≡ false = only refl in cc)
      sum true false only = refl
      sum false true only = refl
      sum false false only = refl

  pub entry_counted : (old middle new : List (List ℕ)) → (among (take k xs) entry_group ≡ true → new ≡ middle)
      → (among (take k xs) entry_group ≡ false → GrowsAt n (λ h. once (only_at entry_group h)) middle new)
      → CountsFirst k old middle → CountsFirst (k + 1) old new
  entry_counted old middle new known unknown one = by_case (among (take k xs) entry_group) refl
    where
      by_case : (b : Bool) → among (take k xs) entry_group ≡ b → CountsFirst (k + 1) old new
      by_case true e = subst (λ (t : List (List ℕ)). CountsFirst (k + 1) old t) (sym (known e)) (entry_known old middle e one)
      by_case false e = entry_new old middle new e one (unknown e)
