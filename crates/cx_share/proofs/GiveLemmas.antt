-- What is kept and what is given.
use Rattle.std.proofs.Common.{◌≡◌, ℕ, zero, suc, ◌+◌, ◌<◌, ◌≤◌, Bool, true, false, ◌||◌, ◌&&◌, not, nat_eq, List, [], ◌∷◌, ◌++◌, get_or, set, take, length, map, reverse, refl, sym, ap, ◌∙◌, arith, ⊎_elim, if◌then◌else◌, add-one}
use Rattle.std.specs.List.{list_all, list_any}
use Rattle.std.proofs.lemmas.Bool.{cases_eq}
use Rattle.std.proofs.lemmas.List.{get_or-set_same, get_or-set_other, length-set, reverse-append, map-set, map-append, get_or-map, length-map}
use Rattle.std.proofs.lemmas.List.Folds.{list_any-append, list_all-append, list_any_more}
use Rattle.cx_text.proofs.ListLaws.{take_all}
use Rattle.cx_meaning.specs.Designs.{PlainCell, PlainKind, PlainComponent}
use Rattle.cx_meaning.specs.Control.{assigns_drive}
use Rattle.cx_design.specs.declared.cells.Cell.{Cell}
use Rattle.cx_design.specs.PlainForms.{plain_cell, plain_kind}
use Rattle.cx_meaning.specs.Instances.{just}
use Rattle.cx_sharing.specs.Giving.{Kept, is_in, takes, give, kept_after, kept_of, keeper_in, keeper, same_kind}
use Rattle.cx_sharing.specs.Meeting.{meet}
use Rattle.cx_sharing.specs.Uses.{kind_in, is_candidate, is_combinational, assigns_use}
use Rattle.cx_share.specs.declared.giving.Kept as memory
use Rattle.cx_share.specs.Marks.{Adds, AreMarks}
use Rattle.cx_share.specs.Givings.{no_kept, Within, AllWithin, AllNear, IsNear, Put, KeptBy, AreKeepers, plain_kept}
use Rattle.std.proofs.Math.Bool.{or_comm}
use Rattle.cx_text.proofs.BoolLaws.{or_assoc, or_false}
use Rattle.cx_meaning.proofs.InstancesLemmas.{just_other, just_is, just_same}

-- a reversed list
pub any-reverse : {A : Type 0} (p : A → Bool) (xs : List A) → list_any p (reverse xs) ≡ list_any p xs
any-reverse p [] = refl
any-reverse p (x ∷ xs) =
    ap (list_any p) (reverse-append (x ∷ []) xs) ∙ list_any-append p (reverse xs) (x ∷ []) ∙ ap (λ v. list_any p (reverse xs) || v) (or_false (p x))
    ∙ or_comm (list_any p (reverse xs)) (p x) ∙ ap (λ v. p x || v) (any-reverse p xs)

and-comm : (a b : Bool) → (a && b) ≡ (b && a)
and-comm true true = refl
and-comm true false = refl
and-comm false true = refl
and-comm false false = refl

and-true : (a : Bool) → (a && true) ≡ a
and-true true = refl
and-true false = refl

pub all-reverse : {A : Type 0} (p : A → Bool) (xs : List A) → list_all p (reverse xs) ≡ list_all p xs
all-reverse p [] = refl
all-reverse p (x ∷ xs) =
    ap (list_all p) (reverse-append (x ∷ []) xs) ∙ list_all-append p (reverse xs) (x ∷ []) ∙ ap (λ v. list_all p (reverse xs) && v) (and-true (p x))
    ∙ and-comm (list_all p (reverse xs)) (p x) ∙ ap (λ v. p x && v) (all-reverse p xs)

-- the kind of a cell
pub kind_at : (cells : List PlainCell) (c : ℕ) (d : PlainCell) → c < length cells → kind_in cells c ≡ (get_or cells c d).kind
kind_at [] c d lt = absurd (omega arith)
kind_at (cell ∷ cells) zero d lt = refl
kind_at (cell ∷ cells) (suc c) d lt = kind_at cells c d (let h : suc c < suc (length cells) = lt in omega arith)

-- where none takes the cell it is kept, and else it is given to the first that does
pub give_end : (part : PlainComponent) (c : ℕ) (ks : List Kept) → ((k : ℕ) → k < length ks → takes part c (get_or ks k no_kept) ≡ false)
    → give part c ks ≡ ks ++ record { cell = c; given = [] } ∷ []
give_end part c [] h = refl
give_end part c (k ∷ ks) h =
    let none : takes part c k ≡ false = h 0 (omega arith) in
    rw none (ap (λ rest. k ∷ rest) (give_end part c ks (λ n lt. h (suc n) (omega arith))))

pub give_at : (part : PlainComponent) (c : ℕ) (ks : List Kept) (i : ℕ) → i < length ks → ((k : ℕ) → k < i → takes part c (get_or ks k no_kept) ≡ false)
    → takes part c (get_or ks i no_kept) ≡ true
    → give part c ks ≡ set ks i (record { cell = (get_or ks i no_kept).cell; given = c ∷ (get_or ks i no_kept).given })
give_at part c [] i lt h t = absurd (omega arith)
give_at part c (k ∷ ks) zero lt h t = rw t refl
give_at part c (k ∷ ks) (suc i) lt h t =
    let none : takes part c k ≡ false = h 0 (omega arith) in
    rw none (ap (λ rest. k ∷ rest) (give_at part c ks i (let lt' : suc i < suc (length ks) = lt in omega arith) (λ n below. h (suc n) (omega arith)) t))

within_more : (n : ℕ) (ks : List Kept) → AllWithin n ks → AllWithin (suc n) ks
within_more n [] w = tt
within_more n (k ∷ ks) w = (record { cell = let h : k.cell < n = w.0.cell in omega arith; given = λ x e. let h : x < n = w.0.given x e in omega arith }, within_more n ks w.1)

within_if : (b : Bool) (n : ℕ) (xs ys : List Kept) → AllWithin n xs → AllWithin n ys → AllWithin n (if b then xs else ys)
within_if true n xs ys u v = u
within_if false n xs ys u v = v

within_given : (c : ℕ) (k : Kept) → Within c k → Within (suc c) (record { cell = k.cell; given = c ∷ k.given })
within_given c k w = record {
  cell = let h : k.cell < c = w.cell in omega arith;
  given = λ x e. ⊎_elim
      (λ same. omega (arith, same))
      (λ other. let h : x < c = w.given x (ap (λ v. v || is_in x k.given) (sym (sym (just_is c x) ∙ just_other c x (λ f. other (sym f)))) ∙ e) in omega arith)
      (cases_eq x c);
}

within_give : (part : PlainComponent) (c : ℕ) (ks : List Kept) → AllWithin c ks → AllWithin (suc c) (give part c ks)
within_give part c [] w = (record { cell = omega arith; given = λ x e. absurd (cc) }, tt)
within_give part c (k ∷ ks) w =
    within_if (takes part c k) (suc c) (record { cell = k.cell; given = c ∷ k.given } ∷ ks) (k ∷ give part c ks)
    (within_given c k w.0, within_more c ks w.1)
    (record { cell = let h : k.cell < c = w.0.cell in omega arith; given = λ x e. let h : x < c = w.0.given x e in omega arith }, within_give part c ks w.1)

pub kept_within : (part : PlainComponent) (c : ℕ) → AllWithin c (kept_after part c)
kept_within part zero = tt
kept_within part (suc c) =
    within_if (is_candidate part c) (suc c) (give part c (kept_after part c)) (kept_after part c) (within_give part c (kept_after part c) (kept_within part c)) (within_more c (kept_after part c) (kept_within part c))

pub within_at : (n : ℕ) (ks : List Kept) (i : ℕ) → i < length ks → AllWithin n ks → Within n (get_or ks i no_kept)
within_at n [] i lt w = absurd (omega arith)
within_at n (k ∷ ks) zero lt w = w.0
within_at n (k ∷ ks) (suc i) lt w = within_at n ks i (let h : suc i < suc (length ks) = lt in omega arith) w.1

lt_if : (b : Bool) (n x y : ℕ) → x < n → y < n → (if b then x else y) < n
lt_if true n x y h k = h
lt_if false n x y h k = k

keeper_in_within : (n : ℕ) (ks : List Kept) (c : ℕ) → AllWithin n ks → c < n → keeper_in ks c < n
keeper_in_within n [] c w lt = lt
keeper_in_within n (k ∷ ks) c w lt = lt_if (is_in c k.given) n k.cell (keeper_in ks c) w.0.cell (keeper_in_within n ks c w.1 lt)

pub keeper_within : (part : PlainComponent) (c : ℕ) → c < length part.cells → keeper part c < length part.cells
keeper_within part c lt = keeper_in_within (length part.cells) (kept_of part) c (kept_within part (length part.cells)) lt

pub put_none : (cell : ℕ) (old : List ℕ) → Put cell [] old old
put_none cell old = record { count = refl; cells = λ c lt. refl }

pub put_there : (cell x : ℕ) (old : List ℕ) → x < length old → Put cell (x ∷ []) old (set old x cell)
put_there cell x old inside = record {
  count = length-set old x cell;
  cells = λ c below. ⊎_elim (λ e. same c e) (λ h. other c h) (cases_eq c x);
}
  where
    is_one : (c : ℕ) → is_in c (x ∷ []) ≡ just x c
    is_one c = or_false (nat_eq x c) ∙ sym (just_is x c)

    here : get_or (set old x cell) x 0 ≡ (if is_in x (x ∷ []) then cell else get_or old x 0)
    here = get_or-set_same old x cell 0 inside ∙ ap (λ v. if v then cell else get_or old x 0) (sym (is_one x ∙ just_same x))

    same : (c : ℕ) → c ≡ x → get_or (set old x cell) c 0 ≡ (if is_in c (x ∷ []) then cell else get_or old c 0)
    same c e = rw e here

    other : (c : ℕ) → (c ≡ x → ⊥) → get_or (set old x cell) c 0 ≡ (if is_in c (x ∷ []) then cell else get_or old c 0)
    other c h = get_or-set_other old x c cell 0 h ∙ ap (λ v. if v then cell else get_or old c 0) (sym (is_one c ∙ just_other x c (λ e. h (sym e))))

pub put_next : (cell : ℕ) (given : List ℕ) (i : ℕ) (old mid new : List ℕ) → i < length given → Put cell (take i given) old mid → Put cell (get_or given i 0 ∷ []) mid new
    → Put cell (take (i + 1) given) old new
put_next cell given i old mid new lt p q = record {
  count = q.count ∙ p.count;
  cells = λ c below.
      let inside : c < length mid = omega (arith, p.count) in
      q.cells c inside ∙ ap (λ v. if is_in c (get_or given i 0 ∷ []) then cell else v) (p.cells c below)
      ∙ either (nat_eq (get_or given i 0) c) (is_in c (take i given)) (get_or old c 0)
      ∙ ap (λ v. if v then cell else get_or old c 0) (sym (list_any_more (λ y. nat_eq y c) given i 0 lt));
}
  where
    either : (now before : Bool) (other : ℕ) → (if (now || false) then cell else (if before then cell else other)) ≡ (if (before || now) then cell else other)
    either true true other = refl
    either true false other = refl
    either false true other = refl
    either false false other = refl

pub put_all : (cell : ℕ) (given : List ℕ) (i : ℕ) (old new : List ℕ) → length given ≤ i → Put cell (take i given) old new → Put cell given old new
put_all cell given i old new end p = let all : take i given ≡ given = take_all given i end in rw all at p

pub kept_before : (count : ℕ) (k : Kept) (ks : List Kept) (given old new : List ℕ) → k.given ≡ reverse given → KeptBy count ks old → Put k.cell given old new → KeptBy count (k ∷ ks) new
kept_before count k ks given old new e b p = record {
  long = p.count ∙ b.long;
  cells = λ c lt.
      let below : c < length old = omega (arith, b.long) in
      let listed : is_in c given ≡ is_in c k.given = sym (ap (is_in c) e ∙ any-reverse (λ x. nat_eq x c) given) in
      p.cells c below ∙ ap (λ v. if v then k.cell else get_or old c 0) listed ∙ ap (λ v. if is_in c k.given then k.cell else v) (b.cells c lt);
}

-- one more given cell, as it lies in memory
pub given_more : (part : PlainComponent) (c : ℕ) (kept : List memory.Kept) (i : ℕ) (before new : memory.Kept) → i < length kept → before ≡ get_or kept i before
    → new.cell ≡ before.cell → new.given.items ≡ before.given.items ++ c ∷ []
    → ((k : ℕ) → k < i → takes part c (get_or (map plain_kept kept) k no_kept) ≡ false) → takes part c (get_or (map plain_kept kept) i no_kept) ≡ true
    → map plain_kept (set kept i new) ≡ give part c (map plain_kept kept)
given_more part c kept i before new lt at same more first taken =
    map-set plain_kept kept i new
    ∙ ap (λ k. set (map plain_kept kept) i k) (one ∙ ap (λ k. record { cell = k.cell; given = c ∷ k.given }) (sym there))
    ∙ sym (give_at part c (map plain_kept kept) i (rw (length-map kept plain_kept) lt) first taken)
  where
    there : get_or (map plain_kept kept) i no_kept ≡ plain_kept before
    there = get_or-map plain_kept kept i before no_kept lt ∙ ap plain_kept (sym at)

    one : plain_kept new ≡ record { cell = before.cell; given = c ∷ reverse before.given.items }
    one =
        ap (λ n. record { cell = n; given = reverse new.given.items }) same
        ∙ ap (λ xs. record { cell = before.cell; given = reverse xs }) more
        ∙ ap (λ xs. record { cell = before.cell; given = xs }) (reverse-append before.given.items (c ∷ []))

-- or one more kept
pub kept_more : (part : PlainComponent) (c : ℕ) (kept : List memory.Kept) (new : memory.Kept) → new.cell ≡ c → new.given.items ≡ []
    → ((k : ℕ) → k < length kept → takes part c (get_or (map plain_kept kept) k no_kept) ≡ false)
    → map plain_kept (kept ++ new ∷ []) ≡ give part c (map plain_kept kept)
kept_more part c kept new same none first =
    map-append plain_kept kept (new ∷ [])
    ∙ ap (λ n. map plain_kept kept ++ record { cell = n; given = reverse new.given.items } ∷ []) same
    ∙ ap (λ xs. map plain_kept kept ++ record { cell = c; given = reverse xs } ∷ []) none
    ∙ sym (give_end part c (map plain_kept kept) (λ k lt. first k (rw (length-map kept plain_kept) at lt)))

-- the next cell is a candidate
pub now_given : (part : PlainComponent) (c : ℕ) (ks new : List Kept) → is_candidate part c ≡ true → ks ≡ kept_after part c → new ≡ give part c ks → new ≡ kept_after part (c + 1)
now_given part c ks new candidate same given = rw (add-one c, candidate) (given ∙ ap (give part c) same)

-- what a kept one takes, by the marks of those that are near
near_takes : (part : PlainComponent) (c : ℕ) (k : memory.Kept) → takes part c (plain_kept k) ≡ (same_kind (kind_in part.cells k.cell) (kind_in part.cells c) && not (meet part k.cell c || list_any (λ x. meet part x c) k.given.items))
near_takes part c k =
    ap (λ v. same_kind (kind_in part.cells k.cell) (kind_in part.cells c) && (not (meet part k.cell c) && v)) (all-reverse (λ x. not (meet part x c)) k.given.items ∙ sym (none_of (λ x. meet part x c) k.given.items))
    ∙ ap (λ v. same_kind (kind_in part.cells k.cell) (kind_in part.cells c) && v) (sym (by (meet part k.cell c) (list_any (λ x. meet part x c) k.given.items)))
  where
    by : (a b : Bool) → not (a || b) ≡ (not a && not b)
    by true b = refl
    by false b = refl

    none_of : (p : ℕ → Bool) (xs : List ℕ) → not (list_any p xs) ≡ list_all (λ x. not (p x)) xs
    none_of p [] = refl
    none_of p (x ∷ xs) = by (p x) (list_any p xs) ∙ ap (λ v. not (p x) && v) (none_of p xs)

pub takes_by : (part : PlainComponent) (c : ℕ) (k : memory.Kept) (near : Bool) → IsNear part k → c < length part.cells → near ≡ get_or k.near c false
    → (same_kind (kind_in part.cells k.cell) (kind_in part.cells c) && not near) ≡ takes part c (plain_kept k)
takes_by part c k near n lt at = ap (λ v. same_kind (kind_in part.cells k.cell) (kind_in part.cells c) && not v) (at ∙ n.marks c lt) ∙ sym (near_takes part c k)

pub takes_none : (part : PlainComponent) (c : ℕ) (k : memory.Kept) (near : Bool) → IsNear part k → c < length part.cells → near ≡ get_or k.near c false → near ≡ true → false ≡ takes part c (plain_kept k)
takes_none part c k near n lt at met = sym (and-none (same_kind (kind_in part.cells k.cell) (kind_in part.cells c))) ∙ ap (λ v. same_kind (kind_in part.cells k.cell) (kind_in part.cells c) && not v) (sym met) ∙ takes_by part c k near n lt at
  where
    and-none : (b : Bool) → (b && false) ≡ false
    and-none true = refl
    and-none false = refl

pub takes_alike : (part : PlainComponent) (c : ℕ) (k : memory.Kept) (near : Bool) → IsNear part k → c < length part.cells → near ≡ get_or k.near c false → near ≡ false
    → same_kind (kind_in part.cells k.cell) (kind_in part.cells c) ≡ takes part c (plain_kept k)
takes_alike part c k near n lt at free =
    sym (and-true (same_kind (kind_in part.cells k.cell) (kind_in part.cells c))) ∙ ap (λ v. same_kind (kind_in part.cells k.cell) (kind_in part.cells c) && not v) (sym free) ∙ takes_by part c k near n lt at

-- the marks of those that are near
pub near_kept : (part : PlainComponent) (c : ℕ) (k : memory.Kept) (row : List Bool) → k.cell ≡ c → k.given.items ≡ [] → k.near ≡ row → length row ≡ length part.cells → AreMarks row (meet part c) → IsNear part k
near_kept part c k row same none there wide m = record {
  count = ap length there ∙ wide;
  marks = λ y lt.
      let below : y < length row = omega (arith, wide) in
      ap (λ xs. get_or xs y false) there ∙ m y below ∙ sym (or_false (meet part c y)) ∙ ap (λ n. meet part n y || false) (sym same)
      ∙ ap (λ xs. meet part k.cell y || list_any (λ x. meet part x y) xs) (sym none);
}

pub near_given : (part : PlainComponent) (c : ℕ) (before new : memory.Kept) (row : List Bool) → new.cell ≡ before.cell → new.given.items ≡ before.given.items ++ c ∷ []
    → Adds before.near new.near (λ y. get_or row y false) → length row ≡ length part.cells → AreMarks row (meet part c) → IsNear part before → IsNear part new
near_given part c before new row same more p wide m n = record {
  count = p.count ∙ n.count;
  marks = λ y lt.
      let below : y < length row = omega (arith, wide) in
      let there : y < length before.near = omega (arith, n.count) in
      p.marks y there ∙ ap (λ v. v || get_or row y false) (n.marks y lt) ∙ ap (λ v. (meet part before.cell y || list_any (λ x. meet part x y) before.given.items) || v) (m y below)
      ∙ or_assoc (meet part before.cell y) (list_any (λ x. meet part x y) before.given.items) (meet part c y)
      ∙ ap (λ v. meet part before.cell y || v) (ap (λ v. list_any (λ x. meet part x y) before.given.items || v) (sym (or_false (meet part c y))) ∙ sym (list_any-append (λ x. meet part x y) before.given.items (c ∷ [])))
      ∙ ap (λ xs. meet part before.cell y || list_any (λ x. meet part x y) xs) (sym more) ∙ ap (λ d. meet part d y || list_any (λ x. meet part x y) new.given.items) (sym same);
}

pub near_at : (part : PlainComponent) (kept : List memory.Kept) (i : ℕ) (k : memory.Kept) → i < length kept → k ≡ get_or kept i k → AllNear part kept → IsNear part k
near_at part [] i k lt at n = absurd (omega arith)
near_at part (one ∷ kept) zero k lt at n = rw at n.0
near_at part (one ∷ kept) (suc i) k lt at n = near_at part kept i k (let h : suc i < suc (length kept) = lt in omega arith) at n.1

pub near_set : (part : PlainComponent) (kept : List memory.Kept) (i : ℕ) (k : memory.Kept) → AllNear part kept → IsNear part k → AllNear part (set kept i k)
near_set part [] i k n new = tt
near_set part (one ∷ kept) zero k n new = (new, n.1)
near_set part (one ∷ kept) (suc i) k n new = (n.0, near_set part kept i k n.1 new)

pub near_push : (part : PlainComponent) (kept : List memory.Kept) (k : memory.Kept) → AllNear part kept → IsNear part k → AllNear part (kept ++ k ∷ [])
near_push part [] k n new = (new, tt)
near_push part (one ∷ kept) k n new = (n.0, near_push part kept k n.1 new)

-- what stands in lists in memory
pub kept_at : (kept : List memory.Kept) (i : ℕ) (k : memory.Kept) → i < length kept → k ≡ get_or kept i k → get_or (map plain_kept kept) i no_kept ≡ plain_kept k
kept_at kept i k lt at = get_or-map plain_kept kept i k no_kept lt ∙ ap plain_kept (sym at)

pub within_kept : (n : ℕ) (kept : List memory.Kept) (i : ℕ) (k : memory.Kept) → i < length kept → k ≡ get_or kept i k → AllWithin n (map plain_kept kept) → Within n (plain_kept k)
within_kept n kept i k lt at w = rw (kept_at kept i k lt at) at (within_at n (map plain_kept kept) i (rw (length-map kept plain_kept) lt) w)

pub kind_there : (cells : List Cell) (c : ℕ) (cell : Cell) → c < length cells → cell ≡ get_or cells c cell → kind_in (map plain_cell cells) c ≡ plain_kind cell.kind
kind_there cells c cell lt at =
    kind_at (map plain_cell cells) c (plain_cell cell) (rw (length-map cells plain_cell) lt)
    ∙ ap (λ (k : PlainCell). k.kind) (get_or-map plain_cell cells c cell (plain_cell cell) lt ∙ ap plain_cell (sym at))

-- the cells that stand for those of a component, by what is kept of them
pub keepers_made : (part : PlainComponent) (count : ℕ) (ks : List Kept) (list : List ℕ) → count ≡ length part.cells → ks ≡ kept_of part → KeptBy count ks list → AreKeepers part list
keepers_made part count ks list wide same k = record {
  count = k.long ∙ wide;
  keeps = λ c lt.
      let below : c < count = omega (arith, wide) in
      k.cells c below ∙ ap (λ v. keeper_in v c) same;
  within = λ c lt. keeper_within part c lt;
}

-- what is a candidate
pub free_is : (part : PlainComponent) (n : ℕ) (kind : PlainKind) (driven named free : Bool) → kind_in part.cells n ≡ kind → driven ≡ list_any (λ g. assigns_drive g.assigns n) part.groups
    → named ≡ assigns_use part.always n → free ≡ (is_combinational kind && driven && not named) → free ≡ is_candidate part n
free_is part n kind driven named free k d m f =
    f ∙ ap (λ v. is_combinational v && driven && not named) (sym k) ∙ ap (λ v. is_combinational (kind_in part.cells n) && v && not named) d
    ∙ ap (λ v. is_combinational (kind_in part.cells n) && list_any (λ g. assigns_drive g.assigns n) part.groups && not v) m
