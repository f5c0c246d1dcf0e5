-- THE TREE OF THE INSTRUMENTED DESIGN beside the tree of the design: the same components at the same cells, each with its counters.
use Rattle.std.proofs.Common.{◌≡◌, ℕ, zero, suc, ◌<◌, ◌≤◌, inl, inr, true, List, [], ◌∷◌, ◌++◌, length, refl, sym, subst, arith}
use Rattle.std.proofs.lemmas.Bool.{eqb-false}
use Rattle.cx_prim.specs.declared.names.PrimitiveName.TheVariants as primitives
use Rattle.cx_meaning.specs.Designs.{PlainKind, OfPrimitive, OfComponent, PlainCell, PlainDesign, component_at}
use Rattle.cx_meaning.specs.Instances.{Cells, add_cell, cells_for, tree_within}
use Rattle.cx_text.specs.Members.{In}
use Rattle.cx_rules.specs.Ports.{component_of}
use Rattle.cx_rules.specs.Wellformed.{IsDesign}
use Rattle.cx_flattening.proofs.TreeLevels.{child_there}
use Rattle.cx_profiling.specs.Counters.{counters}
use Rattle.cx_profiling.specs.Instrumented.{is_reached, with_counts}
use Rattle.cx_profiling.proofs.DepthLemmas.{Deep, deep, whole_tree}
use Rattle.cx_profiling.proofs.ListedCells.{at_row}
use Rattle.cx_profiling.proofs.ReachedLemmas.{is_reached-from, child_reached}
use Rattle.cx_profiling.proofs.RestLemmas.{GrewInto, CellsGrew}
use Rattle.cx_profiling.proofs.RoleLemmas.{more_cells, register_there}

-- a component of the tree, with so many levels below it: it is reached, and deep enough
pub record InTree (d : PlainDesign) (m k : ℕ) : Type 0 where
  pub within : k < length d.components
  pub deep_enough : Deep d m k
  pub few : m ≤ length d.components
  pub reached : is_reached d k ≡ true

module _ (d : PlainDesign) where
  pub in_reach : {m k : ℕ} → InTree d m k → is_reached d k ≡ true
  in_reach at = at.reached

  pub is_whole : {m k : ℕ} → InTree d m k → tree_within d m k ≡ component_of d k
  is_whole {m} {k} at = whole_tree d m k at.deep_enough at.few

  module _ (design : IsDesign d) where
    pub main_in_tree : InTree d (length d.components) d.main
    main_in_tree = record { within = design.main_there; deep_enough = deep d design d.main design.main_there; few = omega arith; reached = is_reached-from d design d.main (inl refl) }

    pub child_in_tree : {m k : ℕ} → InTree d (suc m) k → (cell : PlainCell) (j : ℕ) → In (component_at d k).cells cell → cell.kind ≡ OfComponent j → InTree d m j
    child_in_tree {m} {k} at cell j i is = record {
      within = child_there d design k j cell at.within i is;
      deep_enough = at.deep_enough cell j i is;
      few = (let most : suc m ≤ length d.components = at.few in omega (arith, most));
      reached = (child_reached d design k j cell at.reached i is).0;
    }

    -- main is the component of no cell below it
    pub no_main_below : {m k : ℕ} → InTree d m k → (cell : PlainCell) (j : ℕ) → In (component_at d k).cells cell → cell.kind ≡ OfComponent j → j ≡ d.main → ⊥
    no_main_below {m} {k} at cell j i is main = eqb-false j d.main (child_reached d design k j cell at.reached i is).1 main

    kinds_grow : (m : ℕ) (kind : PlainKind) (xs ys : Cells) → ((j : ℕ) → kind ≡ OfComponent j → GrewInto (tree_within d m j) (tree_within (with_counts d) m j)) → CellsGrew xs ys
        → CellsGrew (add_cell (tree_within d m) kind xs) (add_cell (tree_within (with_counts d) m) kind ys)
    kinds_grow m (OfPrimitive p) xs ys each rest = (refl, rest)
    kinds_grow m (OfComponent j) xs ys each rest = (each j refl, rest)

    cells_grow : (m : ℕ) (cells more : List PlainCell)
        → ((cell : PlainCell) (j : ℕ) → In cells cell → cell.kind ≡ OfComponent j → GrewInto (tree_within d m j) (tree_within (with_counts d) m j))
        → CellsGrew (cells_for (tree_within d m) cells) (cells_for (tree_within (with_counts d) m) (cells ++ more))
    cells_grow m [] more each = tt
    cells_grow m (cell ∷ cells) more each =
        kinds_grow m cell.kind (cells_for (tree_within d m) cells) (cells_for (tree_within (with_counts d) m) (cells ++ more)) (λ j is. each cell j (inl refl) is)
        (cells_grow m cells more (λ x j i is. each x j (inr i) is))

    -- THE TREES GROW
    pub trees_grow : (m k : ℕ) → InTree d m k → GrewInto (tree_within d m k) (tree_within (with_counts d) m k)
    trees_grow zero k at = absurd at.deep_enough
    trees_grow (suc m) k at =
        let more = more_cells d k at.within in (
          subst (λ list. CellsGrew (cells_for (tree_within d m) (component_at d k).cells) (cells_for (tree_within (with_counts d) m) list)) (sym more.1)
              (cells_grow m (component_at d k).cells more.0 (λ cell j i is. trees_grow m j (child_in_tree at cell j i is))),
          λ counter i.
              let r = register_there d k at.within (in_reach at) counter (subst (λ tree. In (counters tree) counter) (is_whole at) i) in
              at_row (tree_within (with_counts d) m) (component_at (with_counts d) k).cells counter.register r.0 (record { name = primitives.Reg; numbers = 64 ∷ [] }) r.1 r.2,
        )
