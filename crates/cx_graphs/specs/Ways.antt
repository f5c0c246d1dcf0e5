-- Ways along edges, circles, and orders in which each edge leads to an earlier node.
use Rattle.std.specs.Prelude.{◌≡◌, ℕ, ◌<◌, ◌⊎◌, List, ◌++◌, Some, length, slice_get}
use Rattle.cx_text.specs.Members.{In}
use Rattle.cx_graphs.specs.Graphs.{Edges, Bounded, targets_of}

-- the nodes to which the edges of each node lead
abbrev pub Targets : Type 0
Targets = ℕ → List ℕ

-- a WAY of one edge or more
pub data Way (targets : Targets) : ℕ → ℕ → Type 0 where
  edge : {m n : ℕ} → In (targets m) n → Way targets m n
  further : {m n : ℕ} (k : ℕ) → In (targets m) k → Way targets k n → Way targets m n

-- some node leads back to itself
abbrev pub HasCircle : Targets → Type 0
HasCircle targets = (n : ℕ) × Way targets n n

-- one of some nodes, or on a way from one of them
abbrev pub Comes : Targets → List ℕ → ℕ → Type 0
Comes targets starts n = In starts n ⊎ ((s : ℕ) × In starts s × Way targets s n)

-- a circle to which a way leads from one of some nodes, or in which one of them stands
abbrev pub HasCircleFrom : Targets → List ℕ → Type 0
HasCircleFrom targets starts = (n : ℕ) × Comes targets starts n × Way targets n n

-- an ORDER of all nodes, each once, in which each edge leads to an earlier one
pub record IsOrder (g : Edges) (order : List ℕ) : Type 0 where
  pub within : Bounded (length g) order
  pub all : (n : ℕ) → n < length g → In order n
  pub once : (i j n : ℕ) → slice_get order i ≡ Some n → slice_get order j ≡ Some n → i ≡ j
  pub earlier : (i n m : ℕ) → slice_get order i ≡ Some n → In (targets_of g n) m
      → (j : ℕ) × (j < i) × (slice_get order j ≡ Some m)

-- the edges of two graphs together
abbrev pub both : Edges → Edges → Targets
both g more n = targets_of g n ++ targets_of more n

-- each edge of a graph leads to one of so many nodes
abbrev pub LeadsWithin : ℕ → Edges → Type 0
LeadsWithin count g = (n : ℕ) → Bounded count (targets_of g n)

-- a graph with the edges of another turned round
abbrev pub IsTurned : Edges → Edges → Type 0
IsTurned g turned =
    (length turned ≡ length g) × ((m n : ℕ) →
    (In (targets_of turned m) n → In (targets_of g n) m)
    × (In (targets_of g n) m → In (targets_of turned m) n))
