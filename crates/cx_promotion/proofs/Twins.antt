-- TWO TREES OF ONE SHAPE, whose instances stand beside each other: their idle edges, starts and cells are the same.
use Rattle.std.proofs.Common.{◌≡◌, ℕ, zero, suc, [], ◌∷◌, refl, sym, ap, subst}
use Rattle.std.proofs.Math.Path.{fun_ext}
use Rattle.cx_prim.specs.CellStates.{CellState}
use Rattle.cx_prim.specs.Rows.{Row}
use Rattle.cx_meaning.specs.Instances.{Instance, Node, Cells, no_cells, a_primitive, an_instance, At, Nothing, OfRow, OfInstance, cell_at, cell_count, cells_of, Path, idle_at, idle_below, idle, start_at, start_below}

module _ (Beside : Instance → Instance → Type 0) where
  abbrev mutual
    pub Twins : Instance → Instance → Type 0
    Twins (Node part cells) (Node other more) = Beside (Node part cells) (Node other more) × TwinCells cells more

    pub TwinCells : Cells → Cells → Type 0
    TwinCells no_cells no_cells = Unit {0}
    TwinCells no_cells (a_primitive twin more) = ⊥
    TwinCells no_cells (an_instance twin more) = ⊥
    TwinCells (a_primitive row rest) no_cells = ⊥
    TwinCells (a_primitive row rest) (a_primitive twin more) = (row ≡ twin) × TwinCells rest more
    TwinCells (a_primitive row rest) (an_instance twin more) = ⊥
    TwinCells (an_instance child rest) no_cells = ⊥
    TwinCells (an_instance child rest) (a_primitive twin more) = ⊥
    TwinCells (an_instance child rest) (an_instance twin more) = Twins child twin × TwinCells rest more

  pub beside_each : (i j : Instance) → Twins i j → Beside i j
  beside_each (Node part cells) (Node other more) (h, hs) = h

  pub twin_cells : (i j : Instance) → Twins i j → TwinCells (cells_of i) (cells_of j)
  twin_cells (Node part cells) (Node other more) (h, hs) = hs

  -- what stands at a number
  pub data TwinAt : At → At → Type 0 where
    none_there : TwinAt Nothing Nothing
    a_row_there : {row : Row} → TwinAt (OfRow row) (OfRow row)
    a_child_there : {child twin : Instance} → Twins child twin → TwinAt (OfInstance child) (OfInstance twin)

  row_twins : (row twin : Row) → row ≡ twin → TwinAt (OfRow row) (OfRow twin)
  row_twins row twin e = subst (λ r. TwinAt (OfRow row) (OfRow r)) e a_row_there

  pub twins_at : (cells more : Cells) → TwinCells cells more → (c : ℕ) → TwinAt (cell_at cells c) (cell_at more c)
  twins_at no_cells no_cells h c = none_there
  twins_at no_cells (a_primitive twin more) h c = absurd h
  twins_at no_cells (an_instance twin more) h c = absurd h
  twins_at (a_primitive row rest) no_cells h c = absurd h
  twins_at (a_primitive row rest) (a_primitive twin more) (e, h) zero = row_twins row twin e
  twins_at (a_primitive row rest) (a_primitive twin more) (e, h) (suc c) = twins_at rest more h c
  twins_at (a_primitive row rest) (an_instance twin more) h c = absurd h
  twins_at (an_instance child rest) no_cells h c = absurd h
  twins_at (an_instance child rest) (a_primitive twin more) h c = absurd h
  twins_at (an_instance child rest) (an_instance twin more) (t, h) zero = a_child_there t
  twins_at (an_instance child rest) (an_instance twin more) (t, h) (suc c) = twins_at rest more h c

  pub cell_count-twin : (cells more : Cells) → TwinCells cells more → cell_count cells ≡ cell_count more
  cell_count-twin no_cells no_cells h = refl
  cell_count-twin no_cells (a_primitive twin more) h = absurd h
  cell_count-twin no_cells (an_instance twin more) h = absurd h
  cell_count-twin (a_primitive row rest) no_cells h = absurd h
  cell_count-twin (a_primitive row rest) (a_primitive twin more) (e, h) = ap suc (cell_count-twin rest more h)
  cell_count-twin (a_primitive row rest) (an_instance twin more) h = absurd h
  cell_count-twin (an_instance child rest) no_cells h = absurd h
  cell_count-twin (an_instance child rest) (a_primitive twin more) h = absurd h
  cell_count-twin (an_instance child rest) (an_instance twin more) (t, h) = ap suc (cell_count-twin rest more h)

  -- AN IDLE EDGE is the same
  mutual
    idle_at-twin : (i j : Instance) → Twins i j → (path : Path) (d : CellState) → idle_at i path d ≡ idle_at j path d
    idle_at-twin (Node part cells) (Node other more) (h, hs) [] d = refl
    idle_at-twin (Node part cells) (Node other more) (h, hs) (c ∷ path) d = idle_below-twin cells more hs c path d

    idle_below-twin : (cells more : Cells) → TwinCells cells more → (c : ℕ) (path : Path) (d : CellState) → idle_below cells c path d ≡ idle_below more c path d
    idle_below-twin no_cells no_cells h c path d = refl
    idle_below-twin no_cells (a_primitive twin more) h c path d = absurd h
    idle_below-twin no_cells (an_instance twin more) h c path d = absurd h
    idle_below-twin (a_primitive row rest) no_cells h c path d = absurd h
    idle_below-twin (a_primitive row rest) (a_primitive twin more) (e, h) zero [] d = ap (λ (r : Row). r.idle d) e
    idle_below-twin (a_primitive row rest) (a_primitive twin more) (e, h) zero (x ∷ path) d = refl
    idle_below-twin (a_primitive row rest) (a_primitive twin more) (e, h) (suc c) path d = idle_below-twin rest more h c path d
    idle_below-twin (a_primitive row rest) (an_instance twin more) h c path d = absurd h
    idle_below-twin (an_instance child rest) no_cells h c path d = absurd h
    idle_below-twin (an_instance child rest) (a_primitive twin more) h c path d = absurd h
    idle_below-twin (an_instance child rest) (an_instance twin more) (t, h) zero path d = idle_at-twin child twin t path d
    idle_below-twin (an_instance child rest) (an_instance twin more) (t, h) (suc c) path d = idle_below-twin rest more h c path d

  pub idle-twin : (i j : Instance) → Twins i j → idle j ≡ idle i
  idle-twin i j t = fun_ext (λ s. fun_ext (λ path. sym (idle_at-twin i j t path (s path))))

  -- and so is the start
  mutual
    pub start_at-twin : (i j : Instance) → Twins i j → (path : Path) → start_at i path ≡ start_at j path
    start_at-twin (Node part cells) (Node other more) (h, hs) [] = refl
    start_at-twin (Node part cells) (Node other more) (h, hs) (c ∷ path) = start_below-twin cells more hs c path

    start_below-twin : (cells more : Cells) → TwinCells cells more → (c : ℕ) (path : Path) → start_below cells c path ≡ start_below more c path
    start_below-twin no_cells no_cells h c path = refl
    start_below-twin no_cells (a_primitive twin more) h c path = absurd h
    start_below-twin no_cells (an_instance twin more) h c path = absurd h
    start_below-twin (a_primitive row rest) no_cells h c path = absurd h
    start_below-twin (a_primitive row rest) (a_primitive twin more) (e, h) zero path = ap (λ (r : Row). r.start) e
    start_below-twin (a_primitive row rest) (a_primitive twin more) (e, h) (suc c) path = start_below-twin rest more h c path
    start_below-twin (a_primitive row rest) (an_instance twin more) h c path = absurd h
    start_below-twin (an_instance child rest) no_cells h c path = absurd h
    start_below-twin (an_instance child rest) (a_primitive twin more) h c path = absurd h
    start_below-twin (an_instance child rest) (an_instance twin more) (t, h) zero path = start_at-twin child twin t path
    start_below-twin (an_instance child rest) (an_instance twin more) (t, h) (suc c) path = start_below-twin rest more h c path
