-- What is reached along the edges of two graphs over the same nodes.
use Rattle.std.specs.Prelude.{◌≡◌, ℕ, ◌≤◌, ◌⊎◌, Bool, List, [], ◌∷◌, length, drop}
use Rattle.cx_text.specs.Members.{In}
use Rattle.cx_graphs.specs.Graphs.{Edges, Bounded, Marked}
use Rattle.cx_graphs.specs.declared.searching.Reach.{Reach}
use Rattle.cx_graphs.specs.Ways.{Targets, Comes, both}

-- a way leads from a node to one of the nodes from the first to the last, or it is one of them
abbrev pub Reaches : Edges → Edges → ℕ → ℕ → ℕ → Type 0
Reaches g more start first last = (n : ℕ) × (first ≤ n) × (n ≤ last) × Comes (both g more) (start ∷ []) n

abbrev pub SomeMarked : List Bool → ℕ → ℕ → Type 0
SomeMarked marks first last = (n : ℕ) × (first ≤ n) × (n ≤ last) × Marked marks n

-- the marks are those of what is reached from a node
pub record AreReached (targets : Targets) (start : ℕ) (marks : List Bool) : Type 0 where
  pub sound : (n : ℕ) → Marked marks n → Comes targets (start ∷ []) n
  pub all : (n : ℕ) → Comes targets (start ∷ []) n → Marked marks n

-- a search on its way: what is marked is reached, and what waits has yet to be gone through
pub record IsUnderWay (targets : Targets) (count start : ℕ) (marks : List Bool) (waiting : List ℕ) : Type 0 where
  pub same_length : length marks ≡ count
  pub sound : (n : ℕ) → Marked marks n → Comes targets (start ∷ []) n
  pub begun : Marked marks start
  pub waits : (n : ℕ) → In waiting n → Marked marks n
  pub gone : (n : ℕ) → Marked marks n → In waiting n ⊎ ((m : ℕ) → In (targets n) m → Marked marks m)

-- what is marked, and no more than nodes, is touched
pub record IsKept (marks : List Bool) (touched : List ℕ) : Type 0 where
  pub within : Bounded (length marks) touched
  pub all : (n : ℕ) → Marked marks n → In touched n

-- no node is marked
pub record IsUnmarked (count : ℕ) (reach : Reach) : Type 0 where
  pub size : length reach.marks.items ≡ count
  pub none : (n : ℕ) → Marked reach.marks.items n → ⊥
  pub none_touched : reach.touched.items ≡ []

-- the nodes that were touched before a place are gone through
pub record IsQueue (targets : Targets) (count start : ℕ) (marks : List Bool) (touched : List ℕ)
    (next : ℕ) : Type 0 where
  pub way : IsUnderWay targets count start marks (drop next touched)
  pub kept : IsKept marks touched
  pub place : next ≤ length touched
