-- The states of a design beside those of the instrumented one.
use Rattle.std.specs.Prelude.{◌≡◌, ℕ, suc, Bool, ◌^◌, ◌%◌, [], ◌∷◌}
use Rattle.cx_prim.specs.CellStates.{Register}
use Rattle.cx_meaning.specs.Instances.{Instance, Node, Cells, no_cells, a_primitive, an_instance, State, under}
use Rattle.cx_text.specs.Members.{In}
use Rattle.cx_rewrites.specs.Tallies.{Tally, at_cell}
use Rattle.cx_profiling.specs.Counters.{Counter, counters}

-- GROWN: the cells of the design are as they were, and each counter holds what was counted of its group, modulo 2 to the 64. The done of a
-- counter is free, for nothing reads it; nothing is asked of other new cells
abbrev mutual
  pub Grown : Instance → Tally → State → State → Type 0
  Grown (Node part cells) counted s t =
      GrownCells cells 0 counted s t
      × ((counter : Counter) → In (counters (Node part cells)) counter →
      (done : Bool) × (t (counter.register ∷ []) ≡ Register (counted [] counter.group % 2 ^ 64) done))

  pub GrownCells : Cells → ℕ → Tally → State → State → Type 0
  GrownCells no_cells c counted s t = Unit {0}
  GrownCells (a_primitive row rest) c counted s t = (t (c ∷ []) ≡ s (c ∷ [])) × GrownCells rest (suc c) counted s t
  GrownCells (an_instance child rest) c counted s t =
      Grown child (at_cell c counted) (under c s) (under c t) × GrownCells rest (suc c) counted s t
