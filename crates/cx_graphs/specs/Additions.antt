-- Graphs with more edges.
use Rattle.std.specs.Prelude.{◌≡◌, ℕ, ◌<◌, ◌⊎◌, List, length}
use Rattle.cx_text.specs.Members.{In}
use Rattle.cx_graphs.specs.Graphs.{Edges, targets_of}

-- edges, as what they lead from and to
abbrev pub Link : Type 1
Link = ℕ → ℕ → Type 0

abbrev pub IsEdge : ℕ → ℕ → Link
IsEdge from to m n = (m ≡ from) × (n ≡ to)

-- a graph with more edges
pub record Adds (g : Edges) (more : Link) (after : Edges) : Type 0 where
  pub same_length : length after ≡ length g
  pub kept : (m n : ℕ) → In (targets_of g m) n → In (targets_of after m) n
  pub all : (m n : ℕ) → more m n → In (targets_of after m) n
  pub known : (m n : ℕ) → In (targets_of after m) n → In (targets_of g m) n ⊎ more m n

-- a graph of so many nodes without edges
pub record IsBare (count : ℕ) (g : Edges) : Type 0 where
  pub same_length : length g ≡ count
  pub no_edges : (m n : ℕ) → In (targets_of g m) n → ⊥

-- from some nodes to one, and the edges of the first nodes of a graph, turned round
abbrev pub IntoNode : List ℕ → ℕ → Link
IntoNode nodes to m n = In nodes m × (n ≡ to)

abbrev pub IsBackOfFirst : Edges → ℕ → Link
IsBackOfFirst g count m n = (n < count) × In (targets_of g n) m
