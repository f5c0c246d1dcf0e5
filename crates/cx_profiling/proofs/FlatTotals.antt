-- What a tally of the flat instance says of the groups of the tree: totals over the entries that stand for them.
use Rattle.std.proofs.Common.{◌≡◌, ℕ, zero, suc, ◌+◌, ◌<◌, Bool, true, false, List, [], ◌∷◌, length, map, Some, None, refl, sym, ap, ◌∙◌, arith}
use Rattle.std.specs.Prelude.{sum_by, if◌then◌else◌}
use Rattle.std.proofs.lemmas.List.Sums.{sum_by-cons, sum_by-append}
use Rattle.cx_meaning.specs.Designs.{PlainComponent}
use Rattle.cx_meaning.specs.Instances.{Instance, Node, Cells, no_cells, a_primitive, an_instance, OfInstance, part_of, cell_at, child_at, instance_at, Path}
use Rattle.cx_meaning.specs.Control.{groups_of}
use Rattle.cx_meaning.proofs.InstancesLemmas.{instance_is}
use Rattle.cx_rules.specs.Counts.{is_one_of}
use Rattle.cx_rewrites.specs.Tallies.{Tally, none, plus}
use Rattle.cx_rewrites.proofs.TallyLemmas.{same_numbers}
use Rattle.cx_flattening.specs.Flattened.{Kids, kid_at, kept_at, start_of, copy_of, flat_kids}
use Rattle.cx_profiling.specs.Counters.{ProfileEntry}
use Rattle.cx_profiling.specs.FlatEntries.{entry_at, invokes_of, placed_entry, placed_entries, entries_in_flat, entries_below, count_at, total_of}

-- TOTALS add as tallies do
pub total-plus : (a b : Tally) (list : List ProfileEntry) → total_of (plus a b) list ≡ total_of a list + total_of b list
total-plus a b [] = omega arith
total-plus a b (e ∷ rest) =
    let all = sum_by-cons (count_at (plus a b)) e rest in
    let one = sum_by-cons (count_at a) e rest in
    let other = sum_by-cons (count_at b) e rest in
    let later = total-plus a b rest in
    omega (arith, all, one, other, later)

pub total-none : (list : List ProfileEntry) → total_of none list ≡ 0
total-none [] = refl
total-none (e ∷ rest) = let all = sum_by-cons (count_at none) e rest in let later = total-none rest in omega (arith, all, later)

pub total-alone : (tally : Tally) (path : Path) (g : ℕ) → total_of tally (entry_at path g ∷ []) ≡ tally path g
total-alone tally path g = omega arith

total-same : (a b : Tally) → ((path : Path) (g : ℕ) → a path g ≡ b path g) → (list : List ProfileEntry) → total_of a list ≡ total_of b list
total-same a b same list = ap (λ tally. total_of tally list) (same_numbers a b same)

total-copies : (tally : Tally) (copy : ℕ → ℕ) (js : List ℕ) → total_of tally (map (λ j. entry_at [] (copy j)) js) ≡ sum_by (λ j. tally [] (copy j)) js
total-copies tally copy [] = refl
total-copies tally copy (j ∷ js) =
    sum_by-cons (count_at tally) (entry_at [] (copy j)) (map (λ k. entry_at [] (copy k)) js)
    ∙ ap (λ n. tally [] (copy j) + n) (total-copies tally copy js) ∙ sym (sum_by-cons (λ k. tally [] (copy k)) j js)

-- the tally of the flat child at cell c, by that of the flat component
abbrev pub lowered : Kids → PlainComponent → ℕ → Tally → Tally
lowered kids part c tally path g = total_of tally (placed_entry kids part c (kid_at kids c) path g)

total-placed : (kids : Kids) (part : PlainComponent) (c : ℕ) (tally : Tally) (list : List ProfileEntry)
    → total_of tally (placed_entries kids part c list) ≡ total_of (lowered kids part c tally) list
total-placed kids part c tally [] = refl
total-placed kids part c tally (e ∷ rest) =
    sum_by-append (count_at tally) (placed_entry kids part c (kid_at kids c) e.path e.group) (placed_entries kids part c rest)
    ∙ ap (λ n. lowered kids part c tally e.path e.group + n) (total-placed kids part c tally rest)
    ∙ sym (sum_by-cons (count_at (lowered kids part c tally)) e rest)

pub lowered_kept : (kids : Kids) (part : PlainComponent) (c : ℕ) (tally : Tally) → kid_at kids c ≡ None → (path : Path) (g : ℕ)
    → lowered kids part c tally path g ≡ tally (kept_at kids c ∷ path) g
lowered_kept kids part c tally kept path g = ap (λ k. total_of tally (placed_entry kids part c k path g)) kept ∙ total-alone tally (kept_at kids c ∷ path) g

pub lowered_inner : (kids : Kids) (part : PlainComponent) (c : ℕ) (tally : Tally) (child : PlainComponent) → kid_at kids c ≡ Some child → (e : ℕ) (path : Path) (g : ℕ)
    → lowered kids part c tally (e ∷ path) g ≡ tally ((start_of kids part c + e) ∷ path) g
lowered_inner kids part c tally child static e path g =
    ap (λ k. total_of tally (placed_entry kids part c k (e ∷ path) g)) static ∙ total-alone tally ((start_of kids part c + e) ∷ path) g

pub lowered_copies : (kids : Kids) (part : PlainComponent) (c : ℕ) (tally : Tally) (child : PlainComponent) → kid_at kids c ≡ Some child → (g : ℕ)
    → lowered kids part c tally [] g ≡ (if is_one_of g (groups_of child.control) then sum_by (λ j. tally [] (copy_of kids part child j g)) (invokes_of c 0 part.invokes) else 0)
lowered_copies kids part c tally child static g =
    ap (λ k. total_of tally (placed_entry kids part c k [] g)) static ∙ by (is_one_of g (groups_of child.control))
  where
    copies : List ProfileEntry
    copies = map (λ j. entry_at [] (copy_of kids part child j g)) (invokes_of c 0 part.invokes)

    by : (b : Bool) → total_of tally (if b then copies else []) ≡ (if b then sum_by (λ j. tally [] (copy_of kids part child j g)) (invokes_of c 0 part.invokes) else 0)
    by true = total-copies tally (λ j. copy_of kids part child j g) (invokes_of c 0 part.invokes)
    by false = refl

-- WHAT A TALLY OF THE FLAT INSTANCE SAYS of each group of the tree
abbrev pub told : Instance → Tally → Tally
told i tally path g = total_of tally (entries_in_flat i path g)

pub entries-child : (cells : Cells) (c : ℕ) (child : Instance) → cell_at cells c ≡ OfInstance child → (path : Path) (g : ℕ)
    → entries_below cells c path g ≡ entries_in_flat child path g
entries-child no_cells c child at path g = absurd (cc)
entries-child (a_primitive row rest) zero child at path g = absurd (cc)
entries-child (a_primitive row rest) (suc c) child at path g = entries-child rest c child at path g
entries-child (an_instance other rest) zero child at path g = ap (λ i. entries_in_flat i path g) (instance_is other child at)
entries-child (an_instance other rest) (suc c) child at path g = entries-child rest c child at path g

pub told_own : (part : PlainComponent) (cells : Cells) (tally : Tally) (g : ℕ) → told (Node part cells) tally [] g ≡ tally [] g
told_own part cells tally g = total-alone tally [] g

pub told_below : (part : PlainComponent) (cells : Cells) (tally : Tally) (c : ℕ) (child : Instance) → cell_at cells c ≡ OfInstance child → (path : Path) (g : ℕ)
    → told (Node part cells) tally (c ∷ path) g ≡ told child (lowered (flat_kids cells) part c tally) path g
told_below part cells tally c child at path g =
    ap (λ list. total_of tally (placed_entries (flat_kids cells) part c list)) (entries-child cells c child at path g)
    ∙ total-placed (flat_kids cells) part c tally (entries_in_flat child path g)

pub told_plus : (i : Instance) (a b : Tally) (path : Path) (g : ℕ) → told i (plus a b) path g ≡ told i a path g + told i b path g
told_plus i a b path g = total-plus a b (entries_in_flat i path g)

pub told_none : (i : Instance) (path : Path) (g : ℕ) → told i none path g ≡ 0
told_none i path g = total-none (entries_in_flat i path g)

pub told_same : (i : Instance) (a b : Tally) → ((path : Path) (g : ℕ) → a path g ≡ b path g) → (path : Path) (g : ℕ) → told i a path g ≡ told i b path g
told_same i a b same path g = total-same a b same (entries_in_flat i path g)

-- A GROUP that is there, below a cell, is of a child
abbrev pub IsThere : Instance → Path → ℕ → Type 0
IsThere i path g = g < length (part_of (instance_at i path)).groups

pub child_there : (cells : Cells) (c : ℕ) (path : Path) (g : ℕ) → g < length (part_of (child_at cells c path)).groups
    → (child : Instance) × (cell_at cells c ≡ OfInstance child) × IsThere child path g
child_there no_cells c path g less = absurd (omega (arith, less))
child_there (a_primitive row rest) zero path g less = absurd (omega (arith, less))
child_there (a_primitive row rest) (suc c) path g less = child_there rest c path g less
child_there (an_instance child rest) zero path g less = (child, refl, less)
child_there (an_instance child rest) (suc c) path g less = child_there rest c path g less
