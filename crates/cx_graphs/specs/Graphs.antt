-- Graphs whose nodes are the numbers below the length of a list, which has for each node the nodes to which its edges lead.
use Rattle.std.specs.Prelude.{◌≡◌, ℕ, zero, suc, ◌+◌, ◌*◌, ◌<◌, ◌≤◌, ◌⊎◌, Bool, true, List, [], ◌∷◌, Some, length, drop, slice_get, map, if◌then◌else◌}
use Rattle.std.specs.declared.vec.Vec.{Vec}
use Rattle.cx_text.specs.Members.{In}

abbrev pub Edges : Type 0
Edges = List (List ℕ)

-- the nodes to which the edges of a node lead
abbrev pub targets_of : Edges → ℕ → List ℕ
targets_of [] n = []
targets_of (ms ∷ rest) zero = ms
targets_of (ms ∷ rest) (suc n) = targets_of rest n

-- all of a list are below a bound
abbrev pub Bounded : ℕ → List ℕ → Type 0
Bounded bound ns = (n : ℕ) → In ns n → n < bound

-- each edge leads to a node
abbrev pub IsGraph : Edges → Type 0
IsGraph g = (n : ℕ) → Bounded (length g) (targets_of g n)

-- REACHED from a list of nodes: one of them, or by an edge from what is reached
pub data IsReached (g : Edges) (starts : List ℕ) : ℕ → Type 0 where
  at_start : {n : ℕ} → In starts n → IsReached g starts n
  by_edge : {n : ℕ} (m : ℕ) → IsReached g starts m → In (targets_of g m) n → IsReached g starts n

abbrev pub Marked : List Bool → ℕ → Type 0
Marked marks n = slice_get marks n ≡ Some true

-- how many are not marked
abbrev pub unmarked : List Bool → ℕ
unmarked [] = 0
unmarked (m ∷ ms) = (if m then 0 else 1) + unmarked ms

-- what marking the nodes of a list leaves: they are marked, and so are those that were; what is newly marked is of the list and
-- waits; what waited still waits
pub record Spread (marks : List Bool) (waiting nodes : List ℕ) (after : List Bool) (now_waiting : List ℕ) : Type 0 where
  pub same_length : length after ≡ length marks
  pub kept : (n : ℕ) → Marked marks n → Marked after n
  pub marked : (n : ℕ) → In nodes n → Marked after n
  pub new : (n : ℕ) → Marked after n → Marked marks n ⊎ (In nodes n × In now_waiting n)
  pub still : (n : ℕ) → In waiting n → In now_waiting n
  pub known : (n : ℕ) → In now_waiting n → In waiting n ⊎ In nodes n
  pub less : length now_waiting + 2 * unmarked after ≤ length waiting + 2 * unmarked marks

-- the same of a list that waits, and is perhaps gone through from its front: what stands there stays, and what is
-- newly marked comes at its end
pub record Appends (marks : List Bool) (waiting nodes : List ℕ) (after : List Bool)
    (now_waiting : List ℕ) : Type 0 where
  pub longer : length waiting ≤ length now_waiting
  pub spread : (next : ℕ) → next ≤ length waiting → Spread marks (drop next waiting) nodes after (drop next now_waiting)

-- a graph as it lies in memory
abbrev pub edges_of : {A : Type 0} → List (Vec ℕ A) → Edges
edges_of lists = map (λ list. list.items) lists
