-- Nodes of a graph from which every way ends.
use Rattle.std.specs.Prelude.{ℕ, zero, suc, ◌<◌, nat_lt, Bool, false, ◌&&◌, length}
use Rattle.std.specs.List.{list_all}
use Rattle.cx_text.specs.Members.{In}
use Rattle.cx_graphs.specs.Graphs.{Edges, targets_of}

-- GROUNDED, the least set that has each node whose edges all lead to nodes of it: no way from it leads on for ever
pub data IsGrounded (g : Edges) : ℕ → Type 0 where
  grounded : {n : ℕ} → n < length g → ((m : ℕ) → In (targets_of g n) m → IsGrounded g m) → IsGrounded g n

-- every way from a node ends before so many steps
abbrev pub ends_before : Edges → ℕ → ℕ → Bool
ends_before g zero n = false
ends_before g (suc k) n = nat_lt n (length g) && list_all (ends_before g k) (targets_of g n)

-- no way that ends has more steps than there are nodes
abbrev pub is_grounded : Edges → ℕ → Bool
is_grounded g n = ends_before g (length g) n
