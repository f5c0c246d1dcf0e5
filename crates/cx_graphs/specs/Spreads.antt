-- A tally on its way through lists, and through a graph.
use Rattle.std.specs.Prelude.{◌≡◌, ℕ, ◌<◌, ◌≤◌, ◌⊎◌, List, length, drop}
use Rattle.cx_text.specs.Members.{In}
use Rattle.cx_graphs.specs.Graphs.{Edges, targets_of}
use Rattle.cx_graphs.specs.declared.owners.Owners.{Owners}
use Rattle.cx_graphs.specs.declared.owners.Owners.TheVariants.{Nobody}
use Rattle.cx_graphs.specs.Owners.{Covers, Sound, owners_at}
use Rattle.cx_graphs.specs.Tallies.{IsKept, Starts, Reaches, starts_of}

-- the lists before a number are tallied
pub record IsBegun (count : ℕ) (lists : Edges) (number : ℕ) (owners : List Owners) (touched : List ℕ) : Type 0 where
  pub same_length : length owners ≡ count
  pub sound : (n : ℕ) → Sound (Starts (targets_of lists) n) (owners_at owners n)
  pub all : (n k : ℕ) → k < number → Starts (targets_of lists) n k → Covers (owners_at owners n) k
  pub some : (n : ℕ) → In touched n → (k : ℕ) × Covers (owners_at owners n) k
  pub kept : IsKept owners touched

-- the owners of the groups that were touched before a place own what the groups have
pub record IsShared (members group_lists lists : Edges) (group_owners : List Owners) (passed : List ℕ)
    (owners : List Owners) (touched : List ℕ) : Type 0 where
  pub sound : (n : ℕ) → Sound (Starts (starts_of members group_lists lists) n) (owners_at owners n)
  pub begun : (n k : ℕ) → Starts (targets_of lists) n k → Covers (owners_at owners n) k
  pub shared : (g n k : ℕ) → In passed g → In (targets_of members g) n
      → Covers (owners_at group_owners g) k → Covers (owners_at owners n) k
  pub some : (n : ℕ) → In touched n → (k : ℕ) × Covers (owners_at owners n) k
  pub kept : IsKept owners touched

-- the owners of a node own the nodes to which its edges lead
abbrev pub IsPassed : Edges → List Owners → ℕ → Type 0
IsPassed g owners n = (m k : ℕ) → In (targets_of g n) m → Covers (owners_at owners n) k → Covers (owners_at owners m) k

-- the nodes that were touched before a place have passed their owners on
pub record IsSpreading (g : Edges) (starts : ℕ → List ℕ) (owners : List Owners) (touched : List ℕ)
    (next : ℕ) : Type 0 where
  pub same_length : length owners ≡ length g
  pub sound : (n : ℕ) → Sound (Reaches g starts n) (owners_at owners n)
  pub begun : (n k : ℕ) → Starts starts n k → Covers (owners_at owners n) k
  pub some : (n : ℕ) → In touched n → (k : ℕ) × Covers (owners_at owners n) k
  pub kept : IsKept owners touched
  pub place : next ≤ length touched
  pub gone : (n : ℕ) → (owners_at owners n ≡ Nobody) ⊎ In (drop next touched) n ⊎ IsPassed g owners n
