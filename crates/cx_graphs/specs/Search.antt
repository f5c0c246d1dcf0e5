-- A search on its way: what is marked is reached, and what waits has yet to be gone through.
use Rattle.std.specs.Prelude.{◌≡◌, ℕ, ◌⊎◌, Bool, List, length}
use Rattle.cx_text.specs.Members.{In}
use Rattle.cx_graphs.specs.Graphs.{Edges, targets_of, IsReached, Marked}

pub record IsUnderWay (g : Edges) (starts : List ℕ) (marks : List Bool) (waiting : List ℕ) : Type 0 where
  pub same_length : length marks ≡ length g
  pub sound : (n : ℕ) → Marked marks n → IsReached g starts n
  pub begun : (n : ℕ) → In starts n → Marked marks n
  pub waits : (n : ℕ) → In waiting n → Marked marks n
  pub gone : (n : ℕ) → Marked marks n → In waiting n ⊎ ((m : ℕ) → In (targets_of g n) m → Marked marks m)
