-- COUNTS of a component that is shared, with its static components written out: a cell that is gone is a primitive, so cells alone grow fewer.
use Rattle.std.proofs.Common.{◌≡◌, ℕ, ◌+◌, ◌≤◌, Bool, true, false, List, [], ◌∷◌, ◌++◌, length, map, Option, Some, None, option_map, refl, ap, ap₂, ◌∙◌, arith}
use Rattle.std.specs.Prelude.{is_some}
use Rattle.std.proofs.lemmas.List.{length-map}
use Rattle.cx_meaning.specs.declared.ports.PortRef.{PortRef}
use Rattle.cx_meaning.specs.Designs.{PlainGroup, PlainInvoke, PlainComponent, PlainForm}
use Rattle.cx_meaning.specs.Islands.{kind_length, group_length}
use Rattle.cx_rules.specs.Items.{Dynamic, statements_in}
use Rattle.cx_rules.specs.Invokes.{invoke_at, invokes_of, captures_of}
use Rattle.cx_rules.specs.Counts.{needed, is_one_of, group_if, needed_from, needed_groups, Inner, Inners, inner_at, inner_for, cell_count_of, cells_in, always_count_of, always_in, group_count_of, copy_count_of, groups_for, copies_for, captures_in, statement_count_of, statements_counted, occurrence_count_of, form_counted, occurrences_counted, inner, size_with}
use Rattle.cx_rules.specs.Sizes.{assigns_size, groups_size}
use Rattle.cx_rewrites.specs.Moving.{moved_group, moved_form}
use Rattle.cx_rewrites.specs.Renaming.{renamed}
use Rattle.cx_rewrites.proofs.MovedLists as lists
use Rattle.cx_rewrites.proofs.MovedLists.{moved_group_at}
use Rattle.cx_rewrites.proofs.MovedInvokes.{invokes_of-moved, form_counted-moved, occurrences_counted-moved, statements_counted-moved}
use Rattle.cx_sharing.specs.Giving.{new_cell}
use Rattle.cx_sharing.specs.SharedDesign.{shared_invoke, shared_part}
use Rattle.cx_sharing.proofs.SharedParts.{invoke_at-shared, of_invoke, captures_of-shared}

-- a static component counts as another, but for fewer cells
pub record CountsLess (x y : Inner) : Type 0 where
  pub cells : y.cells ≤ x.cells
  pub always : y.always ≡ x.always
  pub groups : y.groups ≡ x.groups
  pub copies : y.copies ≡ x.copies
  pub statements : y.statements ≡ x.statements
  pub occurrences : y.occurrences ≡ x.occurrences

-- what stands at a cell does
abbrev pub IsLess : Option Inner → Option Inner → Type 0
IsLess None None = Unit {0}
IsLess None (Some y) = ⊥
IsLess (Some x) None = ⊥
IsLess (Some x) (Some y) = CountsLess x y

pub fewer_cells_of : (a b : Option Inner) → IsLess a b → cell_count_of b ≤ cell_count_of a
fewer_cells_of None None h = omega arith
fewer_cells_of None (Some y) h = absurd h
fewer_cells_of (Some x) None h = absurd h
fewer_cells_of (Some x) (Some y) h = h.cells

pub same_always_of : (a b : Option Inner) → IsLess a b → always_count_of b ≡ always_count_of a
same_always_of None None h = refl
same_always_of None (Some y) h = absurd h
same_always_of (Some x) None h = absurd h
same_always_of (Some x) (Some y) h = h.always

same_groups_of : (a b : Option Inner) → IsLess a b → group_count_of b ≡ group_count_of a
same_groups_of None None h = refl
same_groups_of None (Some y) h = absurd h
same_groups_of (Some x) None h = absurd h
same_groups_of (Some x) (Some y) h = h.groups

same_copies_of : (a b : Option Inner) → IsLess a b → copy_count_of b ≡ copy_count_of a
same_copies_of None None h = refl
same_copies_of None (Some y) h = absurd h
same_copies_of (Some x) None h = absurd h
same_copies_of (Some x) (Some y) h = h.copies

same_statements_of : (a b : Option Inner) (n : ℕ) → IsLess a b → statement_count_of b n ≡ statement_count_of a n
same_statements_of None None n h = refl
same_statements_of None (Some y) n h = absurd h
same_statements_of (Some x) None n h = absurd h
same_statements_of (Some x) (Some y) n h = ap (λ m. m + (n + n)) h.statements

same_occurrences_of : (a b : Option Inner) (n : ℕ) → IsLess a b → occurrence_count_of b n ≡ occurrence_count_of a n
same_occurrences_of None None n h = refl
same_occurrences_of None (Some y) n h = absurd h
same_occurrences_of (Some x) None n h = absurd h
same_occurrences_of (Some x) (Some y) n h = ap (λ m. m + n) h.occurrences

-- THE COMPONENT, where what stands at each cell's new number counts as what stands at the cell
module _ (part : PlainComponent) (below more : Inners) (at : (c : ℕ) → IsLess (inner_at below c) (inner_at more (new_cell part c))) where
  abbrev move : PortRef → PortRef
  move = renamed (new_cell part)

  groups_for-shared : (vs : List PlainInvoke) → groups_for more (map (shared_invoke (new_cell part)) vs) ≡ groups_for below vs
  groups_for-shared [] = refl
  groups_for-shared (v ∷ vs) = ap₂ ◌+◌ (same_groups_of (inner_at below v.cell) (inner_at more (new_cell part v.cell)) (at v.cell)) (groups_for-shared vs)

  pub invoked_groups-shared : groups_for more (shared_part part).invokes ≡ groups_for below part.invokes
  invoked_groups-shared = groups_for-shared part.invokes

  copies_for-shared : (vs : List PlainInvoke) → copies_for more (map (shared_invoke (new_cell part)) vs) ≡ copies_for below vs
  copies_for-shared [] = refl
  copies_for-shared (v ∷ vs) = ap₂ ◌+◌ (same_copies_of (inner_at below v.cell) (inner_at more (new_cell part v.cell)) (at v.cell)) (copies_for-shared vs)

  lengths : (g : ℕ) → group_length (shared_part part) g ≡ group_length part g
  lengths g = ap (λ (x : PlainGroup). kind_length x.kind) (moved_group_at move part.groups g)

  occurs : (k : ℕ) → occurrence_count_of (inner_for more (invoke_at (shared_part part) k)) (captures_in (invoke_at (shared_part part) k)) ≡ occurrence_count_of (inner_for below (invoke_at part k)) (captures_in (invoke_at part k))
  occurs k = ap (λ o. occurrence_count_of (inner_for more o) (captures_in o)) (invoke_at-shared part k) ∙ by (invoke_at part k)
    where
      by : (o : Option PlainInvoke) → occurrence_count_of (inner_for more (option_map (shared_invoke (new_cell part)) o)) (captures_in (option_map (shared_invoke (new_cell part)) o)) ≡ occurrence_count_of (inner_for below o) (captures_in o)
      by None = refl
      by (Some v) = same_occurrences_of (inner_at below v.cell) (inner_at more (new_cell part v.cell)) (captures_in (Some v)) (at v.cell)

  states : (k : ℕ) → statement_count_of (inner_for more (invoke_at (shared_part part) k)) (captures_in (invoke_at (shared_part part) k)) ≡ statement_count_of (inner_for below (invoke_at part k)) (captures_in (invoke_at part k))
  states k = ap (λ o. statement_count_of (inner_for more o) (captures_in o)) (invoke_at-shared part k) ∙ by (invoke_at part k)
    where
      by : (o : Option PlainInvoke) → statement_count_of (inner_for more (option_map (shared_invoke (new_cell part)) o)) (captures_in (option_map (shared_invoke (new_cell part)) o)) ≡ statement_count_of (inner_for below o) (captures_in o)
      by None = refl
      by (Some v) = same_statements_of (inner_at below v.cell) (inner_at more (new_cell part v.cell)) (captures_in (Some v)) (at v.cell)

  pub form_counted-shared : (form : PlainForm) → form_counted (shared_part part) more (moved_form move form) ≡ form_counted part below form
  form_counted-shared = form_counted-moved move part (shared_part part) lengths below more occurs

  statements-shared : statements_counted (shared_part part) more (statements_in (shared_part part)) ≡ statements_counted part below (statements_in part)
  statements-shared =
      ap (statements_counted (shared_part part) more) (lists.visit-moved move Dynamic part.control) ∙ statements_counted-moved move part (shared_part part) below more states (statements_in part)

  occurrences-shared : occurrences_counted (shared_part part) more (statements_in (shared_part part)) ≡ occurrences_counted part below (statements_in part)
  occurrences-shared =
      ap (occurrences_counted (shared_part part) more) (lists.visit-moved move Dynamic part.control)
      ∙ occurrences_counted-moved move part (shared_part part) lengths below more occurs (of_invoke part is_some (λ v. refl)) (statements_in part)

  -- the groups that control needs
  needed_moved : (gs : List ℕ) (g : ℕ) (list : List PlainGroup) → needed_from gs g (map (moved_group move) list) ≡ map (moved_group move) (needed_from gs g list)
  needed_moved gs g [] = refl
  needed_moved gs g (x ∷ xs) = ap (group_if (is_one_of g gs) (moved_group move x)) (needed_moved gs (1 + g) xs) ∙ by (is_one_of g gs)
    where
      by : (b : Bool) → group_if b (moved_group move x) (map (moved_group move) (needed_from gs (1 + g) xs)) ≡ map (moved_group move) (group_if b x (needed_from gs (1 + g) xs))
      by true = refl
      by false = refl

  needed_groups-shared : needed_groups (shared_part part) ≡ map (moved_group move) (needed_groups part)
  needed_groups-shared = ap (λ gs. needed_from gs 0 (shared_part part).groups) needed-shared ∙ needed_moved (needed part) 0 part.groups
    where
      needed-shared : needed (shared_part part) ≡ needed part
      needed-shared = ap₂ ◌++◌ (lists.groups_of-moved move part.control) (ap (captures_of (shared_part part)) (invokes_of-moved move part.control) ∙ captures_of-shared part (invokes_of part.control))

  -- where it has no more cells, and as many continuous assignments
  module _ (cells : cells_in (shared_part part).cells more ≤ cells_in part.cells below) (always : always_in more ≡ always_in below) where
    always_size : assigns_size (shared_part part).always ≡ assigns_size part.always
    always_size = lists.assigns_size-moved move part.always

    pub inner-shared : CountsLess (inner part below) (inner (shared_part part) more)
    inner-shared = record {
      cells = (let few = cells in omega (arith, few));
      always = ap₂ ◌+◌ always_size always;
      groups = ap₂ ◌+◌ (ap length needed_groups-shared ∙ length-map (needed_groups part) (moved_group move)) invoked_groups-shared;
      copies = ap₂ ◌+◌ (ap groups_size needed_groups-shared ∙ lists.groups_size-moved move (needed_groups part)) (copies_for-shared part.invokes);
      statements = statements-shared;
      occurrences = occurrences-shared;
    }

    pub size_with-shared : size_with (shared_part part) more ≤ size_with part below
    size_with-shared =
        let few = cells in
        let groups : groups_size (shared_part part).groups ≡ groups_size part.groups = lists.groups_size-moved move part.groups in
        let copies : copies_for more (shared_part part).invokes ≡ copies_for below part.invokes = copies_for-shared part.invokes in
        let assigns = always_size in
        let many = always in
        let statements = statements-shared in
        let occurrences = occurrences-shared in
        omega (arith, few, groups, copies, assigns, many, statements, occurrences)
