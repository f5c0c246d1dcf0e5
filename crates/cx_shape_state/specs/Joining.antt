-- Graphs that grow by lists of edges.
use Rattle.std.specs.Prelude.{ℕ, zero, suc, ◌<◌, List, [], ◌∷◌, ◌++◌}
use Rattle.cx_graphs.specs.Graphs.{Edges}
use Rattle.cx_shape_state.specs.declared.basis.Basis.{Basis}
use Rattle.cx_shape_state.specs.declared.basis.Basis.TheVariants as basis

-- with more edges of one node
abbrev pub with_edges : Edges → ℕ → List ℕ → Edges
with_edges [] n more = []
with_edges (ms ∷ rest) zero more = (ms ++ more) ∷ rest
with_edges (ms ∷ rest) (suc n) more = ms ∷ with_edges rest n more

-- with more edges of each node, the first of which has a number
abbrev pub joined : Edges → ℕ → (ℕ → List ℕ) → Edges
joined [] n more = []
joined (ms ∷ rest) n more = (ms ++ more n) ∷ joined rest (suc n) more

-- a cell that is waited for is below a bound
abbrev pub IsWithin : ℕ → Basis → Type 0
IsWithin bound basis.State = Unit {0}
IsWithin bound basis.Nothing = Unit {0}
IsWithin bound (basis.Cell c) = c < bound
