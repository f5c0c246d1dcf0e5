-- The numbers of the instances that rows stand for are small.
use Rattle.std.proofs.Common.{◌≡◌, suc, ◌<◌, ◌^◌, List, [], ◌∷◌, ◌++◌, length, map, refl, ap, sym, subst}
use Rattle.cx_vtree.specs.InstanceTree.{Placed}
use Rattle.cx_velab.specs.declared.tree.Row.{Row}
use Rattle.cx_velab.specs.Rows.{placed_of}
use Rattle.cx_vnets.specs.Numbers.{nets_before, arrays_before}
use Rattle.cx_vsim.specs.Trees.{IsSmall}

-- one list alone
pub alone : (tree : List Placed) → tree ++ [] ≡ tree
alone [] = refl
alone (p ∷ tree) = ap (λ l. p ∷ l) (alone tree)

rows_length : (rows : List Row) → length (map placed_of rows) ≡ length rows
rows_length [] = refl
rows_length (r ∷ rows) = ap suc (rows_length rows)

module _ (rows : List Row) (tree : List Placed) (is : map placed_of rows ≡ tree) (small : IsSmall tree) where
  pub nets_small : nets_before (map placed_of rows) (length rows) < 2 ^ 32
  nets_small = subst (λ n. nets_before (map placed_of rows) n < 2 ^ 32) (rows_length rows) (subst (λ t. nets_before t (length t) < 2 ^ 32) (sym is) small.nets)

  pub arrays_small : arrays_before (map placed_of rows) (length rows) < 2 ^ 32
  arrays_small = subst (λ n. arrays_before (map placed_of rows) n < 2 ^ 32) (rows_length rows) (subst (λ t. arrays_before t (length t) < 2 ^ 32) (sym is) small.arrays)
