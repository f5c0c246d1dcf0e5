-- What holds of the instance at each path holds of each node of the tree.
use Rattle.std.proofs.Common.{ℕ, zero, suc, [], ◌∷◌}
use Rattle.cx_meaning.specs.Designs.{PlainComponent}
use Rattle.cx_meaning.specs.Instances.{Instance, Node, Cells, no_cells, a_primitive, an_instance, Path, instance_at, child_at}

module _ (Fine : PlainComponent → Cells → Type 0) where
  abbrev mutual
    pub AllNodes : Instance → Type 0
    AllNodes (Node part cells) = Fine part cells × CellsNodes cells

    pub CellsNodes : Cells → Type 0
    CellsNodes no_cells = Unit {0}
    CellsNodes (a_primitive row rest) = CellsNodes rest
    CellsNodes (an_instance child rest) = AllNodes child × CellsNodes rest

  abbrev pub FineAt : Instance → Type 0
  FineAt (Node part cells) = Fine part cells

  mutual
    pub all_nodes : (i : Instance) → ((path : Path) → FineAt (instance_at i path)) → AllNodes i
    all_nodes (Node part cells) each = (each [], cells_nodes cells (λ c path. each (c ∷ path)))

    cells_nodes : (cells : Cells) → ((c : ℕ) (path : Path) → FineAt (child_at cells c path)) → CellsNodes cells
    cells_nodes no_cells each = tt
    cells_nodes (a_primitive row rest) each = cells_nodes rest (λ c path. each (suc c) path)
    cells_nodes (an_instance child rest) each = (all_nodes child (λ path. each zero path), cells_nodes rest (λ c path. each (suc c) path))
