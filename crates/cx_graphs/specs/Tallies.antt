-- Tallies: the owners of each node of a list, and the nodes that have some.
use Rattle.std.specs.Prelude.{◌≡◌, ℕ, ◌+◌, ◌≤◌, ◌⊎◌, List, [], ◌∷◌, ◌++◌, length, flat_map}
use Rattle.cx_text.specs.Members.{In}
use Rattle.cx_graphs.specs.Graphs.{Edges, targets_of, Bounded, IsReached}
use Rattle.cx_graphs.specs.declared.owners.Owners.{Owners}
use Rattle.cx_graphs.specs.declared.owners.Owners.TheVariants.{Nobody}
use Rattle.cx_graphs.specs.Owners.{Covers, Tells, joined, room, owners_at}

-- no node has an owner
pub record IsClear (count : ℕ) (owners : List Owners) (touched : List ℕ) : Type 0 where
  pub size : length owners ≡ count
  pub nobody : (n : ℕ) → owners_at owners n ≡ Nobody
  pub none_touched : touched ≡ []

-- what is touched are nodes, and no others have owners
pub record IsKept (owners : List Owners) (touched : List ℕ) : Type 0 where
  pub within : Bounded (length owners) touched
  pub others : (n : ℕ) → (owners_at owners n ≡ Nobody) ⊎ In touched n

-- a node stands in the list of number k, or is reached from it
abbrev pub Starts : (ℕ → List ℕ) → ℕ → ℕ → Type 0
Starts starts n k = In (starts k) n

abbrev pub Reaches : Edges → (ℕ → List ℕ) → ℕ → ℕ → Type 0
Reaches g starts n k = IsReached g (starts k) n

-- the nodes of list k, and those that the groups of group list k have
abbrev pub starts_of : Edges → Edges → Edges → ℕ → List ℕ
starts_of members group_lists lists k = targets_of lists k ++ flat_map (targets_of members) (targets_of group_lists k)

-- TALLIES: the owners of each node are the numbers that P relates it to; touched are those that have some
pub record Tallies (P : ℕ → ℕ → Type 0) (owners : List Owners) (touched : List ℕ) : Type 0 where
  pub tells : (n : ℕ) → Tells (P n) (owners_at owners n)
  pub some : (n : ℕ) → In touched n → (k : ℕ) × Covers (owners_at owners n) k
  pub kept : IsKept owners touched

-- the sum of what is left
abbrev pub rooms : List Owners → ℕ
rooms [] = 0
rooms (o ∷ os) = room o + rooms os

-- what adding owners to the nodes of a list leaves: they have them, and what they had before; the owners of what is newly
-- touched are more than before
pub record Added (owners : List Owners) (touched nodes : List ℕ) (more : Owners) (after : List Owners)
    (now : List ℕ) : Type 0 where
  pub same_length : length after ≡ length owners
  pub still : (n k : ℕ) → Covers (owners_at owners n) k → Covers (owners_at after n) k
  pub given : (n k : ℕ) → In nodes n → Covers more k → Covers (owners_at after n) k
  pub fresh : List ℕ
  pub longer : now ≡ touched ++ fresh
  pub among : (n : ℕ) → In fresh n → In nodes n
  pub some : (n : ℕ) → In fresh n → (k : ℕ) × Covers (owners_at after n) k
  pub changed : (n : ℕ) → (owners_at after n ≡ owners_at owners n)
      ⊎ (In nodes n × In fresh n × (owners_at after n ≡ joined (owners_at owners n) more))
  pub less : length now + rooms after ≤ length touched + rooms owners
