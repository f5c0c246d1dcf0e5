-- A search for the grounded nodes on its way.
use Rattle.std.specs.Prelude.{◌≡◌, ℕ, ◌+◌, ◌<◌, ◌⊎◌, Bool, List, length, take, slice_index}
use Rattle.cx_text.specs.Members.{In}
use Rattle.cx_graphs.specs.Graphs.{Edges, edges_of, targets_of, Bounded, Marked, unmarked}
use Rattle.cx_graphs.specs.declared.grounding.Search.{Search}
use Rattle.cx_graphs.specs.Grounds.{IsGrounded}

abbrev pub AllMarked : List Bool → List ℕ → Type 0
AllMarked marks ms = (m : ℕ) → In ms m → Marked marks m

-- a node waits for one to which an edge of it leads, and which is new where it is marked
pub record Waits (g : Edges) (marks : List Bool) (waiting : Edges) (fresh : List ℕ) (n : ℕ) : Type 0 where
  pub need : ℕ
  pub edge : In (targets_of g n) need
  pub waits : In (targets_of waiting need) n
  pub not_gone : Marked marks need → In fresh need

-- marked nodes are grounded; of the edges of a node the first so many lead to marked ones; a node is marked, or has yet to
-- be settled, or waits
pub record IsOnWay (g : Edges) (marks : List Bool) (known : List ℕ) (waiting : Edges)
    (fresh todo : List ℕ) : Type 0 where
  pub mark_count : length marks ≡ length g
  pub known_count : length known ≡ length g
  pub waiting_count : length waiting ≡ length g
  pub sound : (n : ℕ) → Marked marks n → IsGrounded g n
  pub met : (n : ℕ) → AllMarked marks (take (slice_index known n) (targets_of g n))
  pub placed : (n : ℕ) → n < length g → Marked marks n ⊎ (In todo n ⊎ Waits g marks waiting fresh n)
  pub few_wait : (m : ℕ) → Bounded (length g) (targets_of waiting m)
  pub few_fresh : Bounded (length g) fresh
  pub few_todo : Bounded (length g) todo

abbrev pub IsSearch : Edges → Search → List ℕ → Type 0
IsSearch g s todo = IsOnWay g s.marks.items s.known.items (edges_of s.waiting.items) s.fresh.items todo

-- the tables have an entry for each node
pub record HasCounts (g : Edges) (s : Search) : Type 0 where
  pub mark_count : length s.marks.items ≡ length g
  pub known_count : length s.known.items ≡ length g
  pub waiting_count : length s.waiting.items ≡ length g

-- what is left to do: it grows less with each new node that is looked at
abbrev pub work : Search → ℕ
work s = length s.fresh.items + unmarked s.marks.items
