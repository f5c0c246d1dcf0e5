-- A PATH THAT ENDS AT A GROUP leads to an instance, which the table has by its number.
use Rattle.std.proofs.Common.{◌≡◌, ℕ, zero, suc, ◌<◌, List, [], ◌∷◌, ◌++◌, length, slice_get, append_assoc, append-nil, refl, sym, ap, subst, arith}
use Rattle.cx_meaning.specs.Designs.{PlainDesign}
use Rattle.cx_meaning.specs.Instances.{Instance, Node, Cells, no_cells, a_primitive, an_instance, OfInstance, Path, cell_at, cells_of, child_at, instance_at, part_of, paths_of, tree_of}
use Rattle.cx_state.specs.declared.tables.InstanceRow.{InstanceRow}
use Rattle.cx_state.specs.Tables.{IsNumber, IsTable, child_of}
use Rattle.cx_driver.specs.Placing.{number_along}
use Rattle.cx_profiling.proofs.FlatTotals.{IsThere, child_there}

abbrev IsPartAt : Instance → Path → ℕ → Type 0
IsPartAt i path c = (child : Instance) × (cell_at (cells_of (instance_at i path)) c ≡ OfInstance child)

mutual
  leads_on : (i : Instance) (above : Path) (c : ℕ) (rest : Path) (g : ℕ) → IsThere i (above ++ c ∷ rest) g → IsPartAt i above c
  leads_on (Node part cells) [] c rest g h = let r = child_there cells c rest g h in (r.0, r.1)
  leads_on (Node part cells) (a ∷ above) c rest g h = leads_below cells a above c rest g h

  leads_below : (cells : Cells) (a : ℕ) (above : Path) (c : ℕ) (rest : Path) (g : ℕ) → g < length (part_of (child_at cells a (above ++ c ∷ rest))).groups
      → (child : Instance) × (cell_at (cells_of (child_at cells a above)) c ≡ OfInstance child)
  leads_below no_cells a above c rest g h = absurd (omega (arith, h))
  leads_below (a_primitive row cells) zero above c rest g h = absurd (omega (arith, h))
  leads_below (a_primitive row cells) (suc a) above c rest g h = leads_below cells a above c rest g h
  leads_below (an_instance child cells) zero above c rest g h = leads_on child above c rest g h
  leads_below (an_instance child cells) (suc a) above c rest g h = leads_below cells a above c rest g h

module _ (d : PlainDesign) (rows : List InstanceRow) (children : List ℕ) (table : IsTable d rows children) (g : ℕ) where
  number_on : (rest above : Path) (n : ℕ) → IsNumber d n above → IsThere (tree_of d) (above ++ rest) g → IsNumber d (number_along rows children n rest) (above ++ rest)
  number_on [] above n number h = subst (IsNumber d n) (sym (append-nil above)) number
  number_on (c ∷ rest) above n number h =
      let one = append_assoc above (c ∷ []) rest in
      let there = leads_on (tree_of d) above c rest g h in
      subst (IsNumber d (number_along rows children (child_of rows children n c) rest)) one
      (number_on rest (above ++ c ∷ []) (child_of rows children n c) (table.child n c above there.0 number there.1) (subst (λ p. IsThere (tree_of d) p g) (sym one) h))

  -- main is the first
  first_is : (i : Instance) → (rest : List Path) × (paths_of i ≡ [] ∷ rest)
  first_is (Node part cells) = (_, refl)

  pub path_number : (path : Path) → IsThere (tree_of d) path g → IsNumber d (number_along rows children 0 path) path
  path_number path h = number_on path [] 0 (main (first_is (tree_of d))) h
    where
      main : (rest : List Path) × (paths_of (tree_of d) ≡ [] ∷ rest) → IsNumber d 0 []
      main r = ap (λ l. slice_get l 0) r.1
