-- Which cells meet, group by group and statement by statement.
use Rattle.std.proofs.Common.{◌≡◌, ℕ, ◌<◌, Bool, true, false, ◌||◌, ◌&&◌, List, [], ◌∷◌, get_or, length, map, replicate, refl, ap, ◌∙◌, arith}
use Rattle.std.specs.List.{list_any}
use Rattle.cx_meaning.specs.Designs.{PlainComponent, PlainStatement}
use Rattle.cx_meaning.specs.Instances.{Set}
use Rattle.cx_rules.specs.Items.{Visited, statements_in}
use Rattle.cx_sharing.specs.Meeting.{has_both, arms_meet, form_meets}
use Rattle.cx_sharing.specs.Uses.{assigns_use, uses}
use Rattle.cx_share.specs.Marks.{AreMarks, marks_by}
use Rattle.cx_share.specs.Tables.{row_at, IsTable, Joins, pairs_of, marked_pairs, in_order, IsMeeting}
use Rattle.cx_share.specs.Using.{arm_marks, group_marks}
use Rattle.cx_share.proofs.MarkLemmas.{by_at, marks_added}
use Rattle.cx_share.proofs.TableLemmas.{joins_then, joins_same, joined_table, blank_table, blank_marks}

-- a cell in one of several sets, by their marks
any_marks : {A : Type 0} (count : ℕ) (f : A → Set) (xs : List A) (y : ℕ) → y < count → list_any (λ s. get_or s y false) (map (λ x. marks_by count (f x)) xs) ≡ list_any (λ x. f x y) xs
any_marks count f [] y lt = refl
any_marks count f (x ∷ xs) y lt =
    ap (λ v. v || list_any (λ s. get_or s y false) (map (λ z. marks_by count (f z)) xs)) (by_at count (f x) y lt) ∙ ap (λ v. f x y || v) (any_marks count f xs y lt)

-- two cells of one set
both_marks : {A : Type 0} (count : ℕ) (f : A → Set) (xs : List A) (x y : ℕ) → x < count → y < count
    → pairs_of (λ s. marked_pairs s s) (map (λ a. marks_by count (f a)) xs) x y ≡ pairs_of (λ a. has_both (f a)) xs x y
both_marks count f [] x y h k = refl
both_marks count f (a ∷ rest) x y h k =
    ap (λ v. (v && get_or (marks_by count (f a)) y false) || pairs_of (λ s. marked_pairs s s) (map (λ z. marks_by count (f z)) rest) x y) (by_at count (f a) x h)
    ∙ ap (λ v. (f a x && v) || pairs_of (λ s. marked_pairs s s) (map (λ z. marks_by count (f z)) rest) x y) (by_at count (f a) y k)
    ∙ ap (λ v. (f a x && f a y) || v) (both_marks count f rest x y h k)

pub groups_joined : (part : PlainComponent) (a b : List (List Bool)) → IsTable (length part.cells) a → Joins a b (pairs_of (λ s. marked_pairs s s) (group_marks part))
    → Joins a b (pairs_of (λ g. has_both (assigns_use g.assigns)) part.groups)
groups_joined part a b t j =
    joins_same (length part.cells) a b (pairs_of (λ s. marked_pairs s s) (group_marks part)) (pairs_of (λ g. has_both (assigns_use g.assigns)) part.groups) t
    (both_marks (length part.cells) (λ g. assigns_use g.assigns) part.groups) j

-- arms, in order and the other way round
arms_in_order : (part : PlainComponent) (arms : List PlainStatement) (x y : ℕ) → x < length part.cells → y < length part.cells
    → (in_order (arm_marks part arms) x y || in_order (arm_marks part arms) y x) ≡ arms_meet part arms x y
arms_in_order part [] x y h k = refl
arms_in_order part (arm ∷ later) x y h k =
    one (get_or (marks_by (length part.cells) (uses part arm)) x false) (uses part arm x) (list_any (λ s. get_or s y false) (arm_marks part later)) (list_any (λ s. uses part s y) later)
    (get_or (marks_by (length part.cells) (uses part arm)) y false) (uses part arm y) (list_any (λ s. get_or s x false) (arm_marks part later)) (list_any (λ s. uses part s x) later)
    (in_order (arm_marks part later) x y) (in_order (arm_marks part later) y x) (arms_meet part later x y)
    (by_at (length part.cells) (uses part arm) x h) (any_marks (length part.cells) (uses part) later y k) (by_at (length part.cells) (uses part arm) y k) (any_marks (length part.cells) (uses part) later x h)
    (arms_in_order part later x y h k)
  where
    turned : (p u q v : Bool) → ((p || u) || (q || v)) ≡ (p || q || (u || v))
    turned true u q v = refl
    turned false true true v = refl
    turned false true false v = refl
    turned false false q v = refl

    one : (ax ax' ly ly' ay ay' lx lx' u v met : Bool) → ax ≡ ax' → ly ≡ ly' → ay ≡ ay' → lx ≡ lx' → (u || v) ≡ met
        → (((ax && ly) || u) || ((ay && lx) || v)) ≡ ((ax' && ly') || (ay' && lx') || met)
    one ax ax' ly ly' ay ay' lx lx' u v met a b c d e =
        turned (ax && ly) u (ay && lx) v ∙ ap (λ w. (w && ly) || (ay && lx) || (u || v)) a ∙ ap (λ w. (ax' && w) || (ay && lx) || (u || v)) b
        ∙ ap (λ w. (ax' && ly') || (w && lx) || (u || v)) c ∙ ap (λ w. (ax' && ly') || (ay' && w) || (u || v)) d ∙ ap (λ w. (ax' && ly') || (ay' && lx') || w) e

pub arms_joined : (part : PlainComponent) (arms : List PlainStatement) (one two a b c : List (List Bool)) → one ≡ arm_marks part arms → two ≡ arm_marks part arms → IsTable (length part.cells) a
    → Joins a b (in_order one) → Joins b c (λ x y. in_order two y x) → Joins a c (arms_meet part arms)
arms_joined part arms one two a b c e f t p q =
    joins_same (length part.cells) a c (λ x y. in_order one x y || in_order two y x) (arms_meet part arms) t
    (λ x y h k. ap (λ sets. in_order sets x y || in_order two y x) e ∙ ap (λ sets. in_order (arm_marks part arms) x y || in_order sets y x) f ∙ arms_in_order part arms x y h k)
    (joins_then a b c (in_order one) (λ x y. in_order two y x) p q)

-- two sets of pairs in an empty table
made_table : (count : ℕ) (first second : ℕ → Set) (a b c : List (List Bool)) → a ≡ replicate count (replicate count false) → Joins a b first → Joins b c second → IsTable count c
made_table count first second a b c blank p q =
    let start : IsTable count a = rw blank (blank_table count) in
    joined_table count b c second (joined_table count a b first start p) q

made_marks : (count : ℕ) (first second : ℕ → Set) (a b c : List (List Bool)) → a ≡ replicate count (replicate count false) → Joins a b first → Joins b c second
    → (x : ℕ) → x < count → AreMarks (row_at c x) (λ y. first x y || second x y)
made_marks count first second a b c blank p q x h =
    let start : IsTable count a = rw blank (blank_table count) in
    let none : AreMarks (row_at a x) (λ y. false) = rw blank (blank_marks count x h) in
    let inside : x < length a = omega (arith, start.height) in
    let both : Joins a c (λ n m. first n m || second n m) = joins_then a b c first second p q in
    marks_added (row_at a x) (row_at c x) (λ y. first x y || second x y) none (both.rows x inside)

-- ALL THAT MEET
pub meeting_made : (part : PlainComponent) (visited : List Visited) (a b c : List (List Bool)) → a ≡ replicate (length part.cells) (replicate (length part.cells) false) → visited ≡ statements_in part
    → Joins a b (pairs_of (λ g. has_both (assigns_use g.assigns)) part.groups) → Joins b c (pairs_of (λ v. form_meets part v.form) visited) → IsMeeting part c
meeting_made part visited a b c blank seen p q = record {
  table = made_table (length part.cells) (pairs_of (λ g. has_both (assigns_use g.assigns)) part.groups) (pairs_of (λ v. form_meets part v.form) visited) a b c blank p q;
  pairs = λ x h y lt.
      made_marks (length part.cells) (pairs_of (λ g. has_both (assigns_use g.assigns)) part.groups) (pairs_of (λ v. form_meets part v.form) visited) a b c blank p q x h y lt
      ∙ ap (λ vs. list_any (λ g. has_both (assigns_use g.assigns) x y) part.groups || list_any (λ v. form_meets part v.form x y) vs) seen;
}
