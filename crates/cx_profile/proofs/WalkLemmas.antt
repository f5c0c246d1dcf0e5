-- A walk through the tree of instances, step by step.
use Rattle.std.proofs.Common.{◌≡◌, ℕ, suc, ◌+◌, Bool, true, false, List, [], ◌∷◌, ◌++◌, append_assoc, refl, sym, ap, ◌∙◌, subst, arith, append-nil}
use Rattle.std.specs.Prelude.{if◌then◌else◌}
use Rattle.cx_prim.specs.Rows.{Row}
use Rattle.cx_meaning.specs.Designs.{PlainCell, PlainGroup, PlainComponent, PlainDesign, component_at}
use Rattle.cx_meaning.specs.Instances.{Instance, Node, no_cells, a_primitive, an_instance, cells_for, tree_within}
use Rattle.cx_rules.specs.Sizes.{instances_below, instances_in}
use Rattle.cx_profile.specs.declared.entries.Walk.{Walk}
use Rattle.cx_profile.specs.Counted.{counts_group}
use Rattle.cx_profile.specs.Rows.{own_rows, names_below, rows_in, rows_below}
use Rattle.cx_profile.specs.Walks.{counted_row, counted_rows, IsPast, IsPastCells}
use Rattle.cx_profile.proofs.CountLemmas.{group_counts}

-- the rows of own groups by the cells of the component
counted-own : (trees : ℕ → Instance) (cells : List PlainCell) (n : ℕ) (names : List ℕ) (g : ℕ) (gs : List PlainGroup) → counted_rows cells n names g gs ≡ own_rows (cells_for trees cells) n names g gs
counted-own trees cells n names g [] = refl
counted-own trees cells n names g (x ∷ gs) =
    ap (λ l. counted_row cells n names g x ++ l) (counted-own trees cells n names (g + 1) gs)
    ∙ by (counts_group cells x) ∙ ap (λ b. if b then record { instance = n; group = g; path = names ++ x.name } ∷ own_rows (cells_for trees cells) n names (g + 1) gs else own_rows (cells_for trees cells) n names (g + 1) gs) (sym (group_counts trees cells x))
  where
    by : (b : Bool) → (if b then record { instance = n; group = g; path = names ++ x.name } ∷ [] else []) ++ own_rows (cells_for trees cells) n names (g + 1) gs
        ≡ (if b then record { instance = n; group = g; path = names ++ x.name } ∷ own_rows (cells_for trees cells) n names (g + 1) gs else own_rows (cells_for trees cells) n names (g + 1) gs)
    by true = refl
    by false = refl

-- PAST AN INSTANCE: its own groups, and then its cells
pub past_node : (d : PlainDesign) (n m k : ℕ) (part : PlainComponent) (names : List ℕ) (before mid past : Walk) → m ≡ suc n → part ≡ component_at d k
    → mid.groups.items ≡ before.groups.items ++ counted_rows part.cells before.instance names 0 part.groups → mid.instance ≡ before.instance + 1
    → IsPastCells (cells_for (tree_within d n) part.cells) part.cells names mid past → IsPast (tree_within d m k) names before past
past_node d n m k part names before mid past levels own groups instance behind =
    subst (λ l. IsPast (tree_within d l k) names before past) (sym levels) (subst (λ p. IsPast (Node p (cells_for (tree_within d n) p.cells)) names before past) own here)
  where
    here : IsPast (Node part (cells_for (tree_within d n) part.cells)) names before past
    here = record {
      groups =
          behind.groups ∙ ap (λ i. mid.groups.items ++ rows_below (cells_for (tree_within d n) part.cells) part.cells i names) instance
          ∙ ap (λ l. l ++ rows_below (cells_for (tree_within d n) part.cells) part.cells (before.instance + 1) names) groups
          ∙ append_assoc before.groups.items (counted_rows part.cells before.instance names 0 part.groups) (rows_below (cells_for (tree_within d n) part.cells) part.cells (before.instance + 1) names)
          ∙ ap (λ l. before.groups.items ++ (l ++ rows_below (cells_for (tree_within d n) part.cells) part.cells (before.instance + 1) names)) (counted-own (tree_within d n) part.cells before.instance names 0 part.groups);
      instance = let e : past.instance ≡ mid.instance + instances_in (cells_for (tree_within d n) part.cells) = behind.instance in omega arith;
    }

-- PAST A CELL: nothing of a primitive, and the instance of a component
pub past_none : (row : Row) (cs : List PlainCell) (names : List ℕ) (walk : Walk) → IsPastCells (a_primitive row no_cells) cs names walk walk
past_none row cs names walk = record { groups = sym (append-nil walk.groups.items); instance = omega arith }

pub past_child : (child : Instance) (cell : PlainCell) (names below : List ℕ) (walk past : Walk) → below ≡ names_below names cell.name → IsPast child below walk past → IsPastCells (an_instance child no_cells) (cell ∷ []) names walk past
past_child child cell names below walk past is h = record {
  groups = h.groups ∙ ap (λ b. walk.groups.items ++ rows_in child walk.instance b) is ∙ ap (λ l. walk.groups.items ++ l) (sym (append-nil (rows_in child walk.instance (names_below names cell.name))));
  instance = let e : past.instance ≡ walk.instance + instances_below child = h.instance in omega arith;
}

-- what is behind so far, and what is left, are all
pub record IsOnWay (trees : ℕ → Instance) (names : List ℕ) (left cells : List PlainCell) (walk past : Walk) : Type 0 where
  pub groups : past.groups.items ++ rows_below (cells_for trees left) left past.instance names ≡ walk.groups.items ++ rows_below (cells_for trees cells) cells walk.instance names
  pub instance : past.instance + instances_in (cells_for trees left) ≡ walk.instance + instances_in (cells_for trees cells)

pub way_begins : (trees : ℕ → Instance) (names : List ℕ) (cells : List PlainCell) (walk : Walk) → IsOnWay trees names cells cells walk walk
way_begins trees names cells walk = record { groups = refl; instance = refl }

pub way_ends : (trees : ℕ → Instance) (names : List ℕ) (left cells : List PlainCell) (walk past : Walk) → left ≡ [] → IsOnWay trees names left cells walk past → IsPastCells (cells_for trees cells) cells names walk past
way_ends trees names left cells walk past none way = record {
  groups = sym (append-nil past.groups.items) ∙ ap (λ l. past.groups.items ++ rows_below (cells_for trees l) l past.instance names) (sym none) ∙ way.groups;
  instance =
      let a : instances_in (cells_for trees left) ≡ 0 = ap (λ l. instances_in (cells_for trees l)) none in
      let e : past.instance + instances_in (cells_for trees left) ≡ walk.instance + instances_in (cells_for trees cells) = way.instance in
      omega arith;
}
