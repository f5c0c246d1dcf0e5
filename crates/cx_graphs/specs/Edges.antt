-- Changes of a graph.
use Rattle.std.specs.Prelude.{ℕ, zero, suc, [], ◌∷◌, ◌++◌}
use Rattle.cx_graphs.specs.Graphs.{Edges}

-- with one more edge, the last of its node
abbrev pub with_edge : Edges → ℕ → ℕ → Edges
with_edge [] n m = []
with_edge (ms ∷ rest) zero m = (ms ++ m ∷ []) ∷ rest
with_edge (ms ∷ rest) (suc n) m = ms ∷ with_edge rest n m

-- without the edges of a node
abbrev pub without_edges : Edges → ℕ → Edges
without_edges [] n = []
without_edges (ms ∷ rest) zero = [] ∷ rest
without_edges (ms ∷ rest) (suc n) = ms ∷ without_edges rest n

-- so many nodes without edges
abbrev pub no_edges : ℕ → Edges
no_edges zero = []
no_edges (suc n) = [] ∷ no_edges n
