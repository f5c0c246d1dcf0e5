-- Every instance of a design's tree has all cells of its component, since no cell leads back to its component: so no path is longer
-- than there are components. What the rules say of the ports of a component holds so in each of its instances.
use Rattle.std.proofs.Common.{◌≡◌, inl, inr, ℕ, zero, suc, ◌+◌, ◌<◌, ◌≤◌, List, [], ◌∷◌, length, refl, sym, ap, subst, arith}
use Rattle.std.proofs.lemmas.Bool.{cases_lt}
use Rattle.cx_text.specs.Members.{In}
use Rattle.cx_prim.specs.Rows.{Row}
use Rattle.cx_meaning.specs.declared.ports.PortRef.{PortRef}
use Rattle.cx_meaning.specs.declared.ports.PortRef.TheVariants as ports
use Rattle.cx_meaning.specs.Designs.{PlainKind, OfPrimitive, OfComponent, PlainCell, PlainComponent, PlainDesign, no_component, component_at}
use Rattle.cx_meaning.specs.Instances.{Instance, Node, Cells, no_cells, At, Nothing, OfRow, OfInstance, cell_at, part_of, add_cell, cells_for, tree_within, tree_of, Path, instance_at, child_at}
use Rattle.cx_meaning.specs.Sights.{part_port}
use Rattle.cx_prim.specs.Table.{row_of}
use Rattle.cx_rules.specs.Ports.{is_part_output, is_cell_output, is_source_only, part_width, cell_width, written_width}
use Rattle.cx_rules.specs.Wellformed.{IsKind, IsThere, LeadsTo, by_cell, by_way_of, IsDesign, port_count}
use Rattle.cx_rules.proofs.Finite.{Distinct, distinct_few}
use Rattle.cx_wiring.specs.Reached.{numbers_from}
use Rattle.cx_wiring.proofs.NumberLemmas.{length-numbers_from}

in_numbers : (j a n : ℕ) → a ≤ j → j < a + n → In (numbers_from a n) j
in_numbers j a zero low high = absurd (omega arith)
in_numbers j a (suc n) low high = elim (cases_lt a j) [ inl l ↦ inr (in_numbers j (suc a) n l (omega (arith, high))) | inr h ↦ inl (omega (arith, low, h)) ]

-- an instance is a tree of its component with one level at least, or there is none
pub data IsWhole (d : PlainDesign) : Instance → Type 0 where
  of_component : (m k : ℕ) → k < length d.components → IsWhole d (tree_within d (suc m) k)
  of_nothing : IsWhole d (Node no_component no_cells)

module _ (d : PlainDesign) where
  kind_whole : (child : ℕ → Instance) (path : Path) (kind : PlainKind) (rest : Cells) → ((j : ℕ) → kind ≡ OfComponent j → IsWhole d (instance_at (child j) path))
      → ((c : ℕ) → IsWhole d (child_at rest c path)) → (c : ℕ) → IsWhole d (child_at (add_cell child kind rest) c path)
  kind_whole child path (OfPrimitive p) rest first later zero = of_nothing
  kind_whole child path (OfPrimitive p) rest first later (suc c) = later c
  kind_whole child path (OfComponent j) rest first later zero = first j refl
  kind_whole child path (OfComponent j) rest first later (suc c) = later c

  below_whole : (child : ℕ → Instance) (path : Path) (cells : List PlainCell) → ((cell : PlainCell) (j : ℕ) → In cells cell → cell.kind ≡ OfComponent j → IsWhole d (instance_at (child j) path))
      → (c : ℕ) → IsWhole d (child_at (cells_for child cells) c path)
  below_whole child path [] each c = of_nothing
  below_whole child path (cell ∷ cells) each c =
      kind_whole child path cell.kind (cells_for child cells) (λ j e. each cell j (inl refl) e) (below_whole child path cells (λ x j i e. each x j (inr i) e)) c

  module _ (rules : IsDesign d) where
    -- the components on the way from main to a component, each of which leads to it
    record IsWay (k : ℕ) (seen : List ℕ) : Type 0 where
      apart : Distinct (k ∷ seen)
      there : (j : ℕ) → In (k ∷ seen) j → j < length d.components
      leads : (j : ℕ) → In seen j → LeadsTo d j k

    few : (k : ℕ) (seen : List ℕ) → IsWay k seen → suc (length seen) ≤ length d.components
    few k seen way =
        subst (λ n. suc (length seen) ≤ n) (length-numbers_from 0 (length d.components))
        (distinct_few (k ∷ seen) (numbers_from 0 (length d.components)) way.apart (λ j i. let less = way.there j i in in_numbers j 0 (length d.components) (omega arith) (omega (arith, less))))

    module _ (k j : ℕ) (seen : List ℕ) (way : IsWay k seen) (cell : PlainCell) (i : In (component_at d k).cells cell) (is : cell.kind ≡ OfComponent j) where
      all_lead : (m : ℕ) → In (k ∷ seen) m → LeadsTo d m j
      all_lead m (inl e) = subst (λ x. LeadsTo d x j) e (by_cell j cell i is)
      all_lead m (inr h) = by_way_of k (way.leads m h) (by_cell j cell i is)

      all_there : (m : ℕ) → In (j ∷ k ∷ seen) m → m < length d.components
      all_there m (inl e) = subst (λ x. x < length d.components) e (subst (IsKind d) is ((rules.components k (way.there k (inl refl))).cells cell i).kind)
      all_there m (inr h) = way.there m h

      way_on : IsWay j (k ∷ seen)
      way_on = record { apart = ((λ h. rules.not_recursive j (all_lead j h)), way.apart); there = all_there; leads = all_lead }

    whole_at : (n k : ℕ) (seen : List ℕ) → IsWay k seen → n + length seen ≡ length d.components → (path : Path) → IsWhole d (instance_at (tree_within d n k) path)
    whole_at zero k seen way left path = let h = few k seen way in absurd (omega (arith, h, left))
    whole_at (suc n) k seen way left [] = of_component n k (way.there k (inl refl))
    whole_at (suc n) k seen way left (c ∷ path) =
        below_whole (tree_within d n) path (component_at d k).cells (λ cell j i is. whole_at n j (k ∷ seen) (way_on k j seen way cell i is) (omega (arith, left)) path) c

    -- EVERY INSTANCE of the tree
    pub instance_whole : (path : Path) → IsWhole d (instance_at (tree_of d) path)
    instance_whole path = whole_at (length d.components) d.main [] start (omega arith) path
      where
        only_main : (m : ℕ) → In (d.main ∷ []) m → m < length d.components
        only_main m (inl e) = subst (λ x. x < length d.components) e rules.main_there
        only_main m (inr h) = absurd h

        start : IsWay d.main []
        start = record { apart = ((λ h. h), tt); there = only_main; leads = λ j h. absurd h }

-- what stands at a cell of two trees of one component, each with one level at least
pub data AreAlike : At → At → Type 0 where
  nothings : AreAlike Nothing Nothing
  rows : (row : Row) → AreAlike (OfRow row) (OfRow row)
  instances : (a b : Instance) → part_of a ≡ part_of b → AreAlike (OfInstance a) (OfInstance b)

module _ (f g : ℕ → Instance) (same : (k : ℕ) → part_of (f k) ≡ part_of (g k)) where
  kind_alike : (kind : PlainKind) (xs ys : Cells) → ((c : ℕ) → AreAlike (cell_at xs c) (cell_at ys c)) → (c : ℕ) → AreAlike (cell_at (add_cell f kind xs) c) (cell_at (add_cell g kind ys) c)
  kind_alike (OfPrimitive p) xs ys later zero = rows (row_of p)
  kind_alike (OfPrimitive p) xs ys later (suc c) = later c
  kind_alike (OfComponent k) xs ys later zero = instances (f k) (g k) (same k)
  kind_alike (OfComponent k) xs ys later (suc c) = later c

  pub cells_alike : (cells : List PlainCell) (c : ℕ) → AreAlike (cell_at (cells_for f cells) c) (cell_at (cells_for g cells) c)
  cells_alike [] c = nothings
  cells_alike (cell ∷ cells) c = kind_alike cell.kind (cells_for f cells) (cells_for g cells) (cells_alike cells) c

same_width : {a b : At} → AreAlike a b → (p : ℕ) → cell_width a p ≡ cell_width b p
same_width nothings p = refl
same_width (rows row) p = refl
same_width (instances a b e) p = ap (λ (x : PlainComponent). part_width x (part_port x p)) e

same_count : {a b : At} → AreAlike a b → port_count a ≡ port_count b
same_count nothings = refl
same_count (rows row) = refl
same_count (instances a b e) = ap (λ (x : PlainComponent). 2 + length x.inputs + length x.outputs) e

same_output : {a b : At} → AreAlike a b → (p : ℕ) → is_cell_output a p ≡ is_cell_output b p
same_output nothings p = refl
same_output (rows row) p = refl
same_output (instances a b e) p = ap (λ (x : PlainComponent). is_part_output (part_port x p)) e

-- so ports are there in both, with one width, and are outputs in both
module _ (part : PlainComponent) (cells more : Cells) (alike : (c : ℕ) → AreAlike (cell_at cells c) (cell_at more c)) where
  pub alike_there : (p : PortRef) → IsThere (Node part more) p → IsThere (Node part cells) p
  alike_there (ports.Cell c p) h = (h.0, subst (λ n. p < n) (sym (same_count (alike c))) h.1)
  alike_there (ports.Input n) h = h
  alike_there (ports.Output n) h = h
  alike_there (ports.Done g) h = h
  alike_there (ports.Literal w v) h = tt

  pub alike_written : (p : PortRef) → written_width (Node part cells) p ≡ written_width (Node part more) p
  alike_written (ports.Cell c p) = same_width (alike c) p
  alike_written (ports.Input n) = refl
  alike_written (ports.Output n) = refl
  alike_written (ports.Done g) = refl
  alike_written (ports.Literal w v) = refl

  pub alike_source : (p : PortRef) → is_source_only (Node part cells) p ≡ is_source_only (Node part more) p
  alike_source (ports.Cell c p) = same_output (alike c) p
  alike_source (ports.Input n) = refl
  alike_source (ports.Output n) = refl
  alike_source (ports.Done g) = refl
  alike_source (ports.Literal w v) = refl
