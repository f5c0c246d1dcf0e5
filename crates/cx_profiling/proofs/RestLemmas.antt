-- An idle turn keeps grown states grown.
use Rattle.std.proofs.Common.{◌≡◌, ℕ, suc, ◌+◌, ◌^◌, ◌%◌, Bool, false, [], ◌∷◌, refl, sym, ap, ◌∙◌, subst, arith}
use Rattle.cx_prim.specs.CellStates.{CellState, Register}
use Rattle.cx_prim.specs.Rows.{Row}
use Rattle.cx_prim.specs.Table.{row_of}
use Rattle.cx_prim.specs.declared.names.PrimitiveName.TheVariants as primitives
use Rattle.cx_meaning.specs.Designs.{PlainComponent}
use Rattle.cx_meaning.specs.Instances.{Instance, Node, Cells, no_cells, a_primitive, an_instance, OfRow, cell_at, Path, State, under, idle, idle_below}
use Rattle.cx_text.specs.Members.{In}
use Rattle.cx_meaning.proofs.InstancesLemmas.{idle_below-row}
use Rattle.cx_rewrites.specs.Tallies.{Tally, at_cell}
use Rattle.cx_profiling.specs.Counters.{Counter, counters}
use Rattle.cx_profiling.specs.Growing.{Grown, GrownCells}

-- an instance has the cells of another first, each a row or a child that grew so, and at each counter's number its register
abbrev pub counter_row : Row
counter_row = row_of (record { name = primitives.Reg; numbers = 64 ∷ [] })

abbrev mutual
  pub GrewInto : Instance → Instance → Type 0
  GrewInto (Node part cells) (Node after more) = CellsGrew cells more × ((counter : Counter) → In (counters (Node part cells)) counter → cell_at more counter.register ≡ OfRow counter_row)

  pub CellsGrew : Cells → Cells → Type 0
  CellsGrew no_cells more = Unit {0}
  CellsGrew (a_primitive row rest) no_cells = ⊥
  CellsGrew (a_primitive row rest) (a_primitive other more) = (row ≡ other) × CellsGrew rest more
  CellsGrew (a_primitive row rest) (an_instance other more) = ⊥
  CellsGrew (an_instance child rest) no_cells = ⊥
  CellsGrew (an_instance child rest) (a_primitive other more) = ⊥
  CellsGrew (an_instance child rest) (an_instance other more) = GrewInto child other × CellsGrew rest more

counter_rests : (v : ℕ) (done : Bool) → counter_row.idle (Register v done) ≡ Register v false
counter_rests v done = refl

-- states that are the same at every path
mutual
  pub grown_states : (i : Instance) (τ : Tally) (s t a b : State) → ((path : Path) → s path ≡ a path) → ((path : Path) → t path ≡ b path) → Grown i τ s t → Grown i τ a b
  grown_states (Node part cells) τ s t a b e f (h, k) =
      (cells_states cells 0 τ s t a b e f h, λ counter at. let r = k counter at in (r.0, sym (f (counter.register ∷ [])) ∙ r.1))

  cells_states : (cells : Cells) (c : ℕ) (τ : Tally) (s t a b : State) → ((path : Path) → s path ≡ a path) → ((path : Path) → t path ≡ b path) → GrownCells cells c τ s t → GrownCells cells c τ a b
  cells_states no_cells c τ s t a b e f h = tt
  cells_states (a_primitive row rest) c τ s t a b e f (h, hs) = (sym (f (c ∷ [])) ∙ h ∙ e (c ∷ []), cells_states rest (suc c) τ s t a b e f hs)
  cells_states (an_instance child rest) c τ s t a b e f (h, hs) =
      (grown_states child (at_cell c τ) (under c s) (under c t) (under c a) (under c b) (λ path. e (c ∷ path)) (λ path. f (c ∷ path)) h, cells_states rest (suc c) τ s t a b e f hs)

-- a is s with the idle edges of cells, which are numbered from k on
abbrev IdleFrom : Cells → ℕ → State → State → Type 0
IdleFrom cells k s a = (c : ℕ) (path : Path) → a ((k + c) ∷ path) ≡ idle_below cells c path (s ((k + c) ∷ path))

next_from : (cells rest : Cells) (k : ℕ) (s a : State) → ((c : ℕ) (path : Path) (d : CellState) → idle_below cells (suc c) path d ≡ idle_below rest c path d) → IdleFrom cells k s a → IdleFrom rest (suc k) s a
next_from cells rest k s a same h c path =
    let number : k + suc c ≡ suc k + c = omega arith in
    subst (λ n. a (n ∷ path) ≡ idle_below rest c path (s (n ∷ path))) number (h (suc c) path ∙ same c path (s ((k + suc c) ∷ path)))

first_from : (cells : Cells) (k : ℕ) (s a : State) (path : Path) → IdleFrom cells k s a → a (k ∷ path) ≡ idle_below cells 0 path (s (k ∷ path))
first_from cells k s a path h = let number : k + 0 ≡ k = omega arith in subst (λ n. a (n ∷ path) ≡ idle_below cells 0 path (s (n ∷ path))) number (h 0 path)

all_from : (part : PlainComponent) (cells : Cells) (s : State) → IdleFrom cells 0 s (idle (Node part cells) s)
all_from part cells s c path =
    let number : c ≡ 0 + c = omega arith in
    subst (λ n. idle (Node part cells) s (n ∷ path) ≡ idle_below cells c path (s (n ∷ path))) number refl

mutual
  pub grown_rests : (i j : Instance) → GrewInto i j → (τ : Tally) (s t : State) → Grown i τ s t → Grown i τ (idle i s) (idle j t)
  grown_rests (Node part cells) (Node after more) (grew, registers) τ s t (h, k) = (
    cells_rest cells more grew 0 τ s t (idle (Node part cells) s) (idle (Node after more) t) (all_from part cells s) (all_from after more t) h,
    λ counter at. let r = k counter at in (
      false,
      ap (idle_below more counter.register []) r.1
          ∙ idle_below-row more counter.register counter_row (Register (τ [] counter.group % 2 ^ 64) r.0) (registers counter at) ∙ counter_rests (τ [] counter.group % 2 ^ 64) r.0,
    ),
  )

  cells_rest : (cells more : Cells) → CellsGrew cells more → (k : ℕ) (τ : Tally) (s t a b : State) → IdleFrom cells k s a → IdleFrom more k t b → GrownCells cells k τ s t → GrownCells cells k τ a b
  cells_rest no_cells more grew k τ s t a b ea eb h = tt
  cells_rest (a_primitive row rest) no_cells grew k τ s t a b ea eb h = absurd grew
  cells_rest (a_primitive row rest) (an_instance other more) grew k τ s t a b ea eb h = absurd grew
  cells_rest (an_instance child rest) no_cells grew k τ s t a b ea eb h = absurd grew
  cells_rest (an_instance child rest) (a_primitive other more) grew k τ s t a b ea eb h = absurd grew
  cells_rest (a_primitive row rest) (a_primitive other more) (same, grew) k τ s t a b ea eb (h, hs) = (
    first_from (a_primitive other more) k t b [] eb ∙ ap (λ (x : CellState). other.idle x) h ∙ ap (λ (x : Row). x.idle (s (k ∷ []))) (sym same) ∙ sym (first_from (a_primitive row rest) k s a [] ea),
    cells_rest rest more grew (suc k) τ s t a b (next_from (a_primitive row rest) rest k s a (λ c path d. refl) ea) (next_from (a_primitive other more) more k t b (λ c path d. refl) eb) hs,
  )
  cells_rest (an_instance child rest) (an_instance other more) (inner, grew) k τ s t a b ea eb (h, hs) = (
    grown_states child (at_cell k τ) (idle child (under k s)) (idle other (under k t)) (under k a) (under k b)
        (λ path. sym (first_from (an_instance child rest) k s a path ea)) (λ path. sym (first_from (an_instance other more) k t b path eb))
        (grown_rests child other inner (at_cell k τ) (under k s) (under k t) h),
    cells_rest rest more grew (suc k) τ s t a b (next_from (an_instance child rest) rest k s a (λ c path d. refl) ea) (next_from (an_instance other more) more k t b (λ c path d. refl) eb) hs,
  )
