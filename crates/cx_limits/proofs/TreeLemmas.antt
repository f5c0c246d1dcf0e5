-- Trees beside others, one cell more.
use Rattle.std.proofs.Common.{◌≡◌, ℕ, ◌+◌, ◌-◌, ◌^◌, ◌<◌, ◌≤◌, max, List, [], ◌∷◌, map, drop, length, get_or, refl, sym, ap, ◌∙◌, subst, arith}
use Rattle.std.proofs.lemmas.List.{drop_more}
use Rattle.cx_meaning.specs.Designs.{PlainCell, PlainDesign}
use Rattle.cx_design.specs.declared.cells.Cell.{Cell}
use Rattle.cx_design.specs.PlainForms.{plain_cell}
use Rattle.cx_design_sizes.specs.Capped.{capped}
use Rattle.cx_limits.specs.declared.rows.Row.{Row}
use Rattle.cx_limits.specs.declared.rows.TreeCounts.{TreeCounts}
use Rattle.cx_limits.specs.Rows.{no_trees, beside, tree_by, trees_by}

pub record IsSmall (t : TreeCounts) : Type 0 where
  pub instances : t.instances ≤ 2 ^ 64 - 1
  pub weight : t.weight ≤ 2 ^ 64 - 1

trees_eq : (a b : TreeCounts) → a.instances ≡ b.instances → a.depth ≡ b.depth → a.weight ≡ b.weight → a ≡ b
trees_eq a b e f g = λ i. record { instances = e i; depth = f i; weight = g i }

pub small_none : IsSmall no_trees
small_none = record { instances = omega arith; weight = omega arith }

pub small_beside : (a b t : TreeCounts) → t ≡ beside a b → IsSmall t
small_beside a b t e = subst IsSmall (sym e) (record { instances = under (a.instances + b.instances); weight = under (a.weight + b.weight) })
  where
    under : (n : ℕ) → capped n ≤ 2 ^ 64 - 1
    under n = omega arith

beside_beside : (a b c : TreeCounts) → beside (beside a b) c ≡ beside a (beside b c)
beside_beside a b c =
    trees_eq (beside (beside a b) c) (beside a (beside b c)) (sum a.instances b.instances c.instances) (most a.depth b.depth c.depth) (sum a.weight b.weight c.weight)
  where
    sum : (x y z : ℕ) → capped (capped (x + y) + z) ≡ capped (x + capped (y + z))
    sum x y z = omega arith

    most : (x y z : ℕ) → max (max x y) z ≡ max x (max y z)
    most x y z = omega arith

none_beside : (t : TreeCounts) → IsSmall t → beside no_trees t ≡ t
none_beside t small = trees_eq (beside no_trees t) t (zero_sum t.instances small.instances) (zero_most t.depth) (zero_sum t.weight small.weight)
  where
    zero_sum : (x : ℕ) → x ≤ 2 ^ 64 - 1 → capped (0 + x) ≡ x
    zero_sum x le = omega arith

    zero_most : (x : ℕ) → max 0 x ≡ x
    zero_most x = omega arith

pub beside_none : (t : TreeCounts) → IsSmall t → beside t no_trees ≡ t
beside_none t small = trees_eq (beside t no_trees) t (sum_zero t.instances small.instances) (most_zero t.depth) (sum_zero t.weight small.weight)
  where
    sum_zero : (x : ℕ) → x ≤ 2 ^ 64 - 1 → capped (x + 0) ≡ x
    sum_zero x le = omega arith

    most_zero : (x : ℕ) → max x 0 ≡ x
    most_zero x = omega arith

module _ (d : PlainDesign) (rows : List Row) where
  pub trees_begin : (cells : List PlainCell) → beside no_trees (trees_by d rows cells) ≡ trees_by d rows cells
  trees_begin [] = none_beside no_trees small_none
  trees_begin (c ∷ cs) = none_beside (trees_by d rows (c ∷ cs)) (small_beside (tree_by d rows c.kind) (trees_by d rows cs) (trees_by d rows (c ∷ cs)) refl)

  pub trees_step : (t next : TreeCounts) (cells : List Cell) (i : ℕ) (cell : Cell) → i < length cells → cell ≡ get_or cells i cell → next ≡ beside t (tree_by d rows (plain_cell cell).kind)
      → beside next (trees_by d rows (map plain_cell (drop (i + 1) cells))) ≡ beside t (trees_by d rows (map plain_cell (drop i cells)))
  trees_step t next cells i cell lt is e =
      ap (λ x. beside x (trees_by d rows (map plain_cell (drop (i + 1) cells)))) e
      ∙ beside_beside t (tree_by d rows (plain_cell cell).kind) (trees_by d rows (map plain_cell (drop (i + 1) cells)))
      ∙ ap (λ x. beside t (trees_by d rows (map plain_cell (x ∷ drop (i + 1) cells)))) is
      ∙ ap (λ xs. beside t (trees_by d rows (map plain_cell xs))) (sym (drop_more cells i cell lt))

  pub trees_end : (t : TreeCounts) (cells : List Cell) (i : ℕ) → drop i cells ≡ [] → IsSmall t → beside t (trees_by d rows (map plain_cell (drop i cells))) ≡ trees_by d rows (map plain_cell cells)
      → t ≡ trees_by d rows (map plain_cell cells)
  trees_end t cells i none small e =
      sym (beside_none t small) ∙ ap (λ xs. beside t (trees_by d rows (map plain_cell xs))) (sym none) ∙ e
