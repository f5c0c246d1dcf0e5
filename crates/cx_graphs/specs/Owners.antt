-- Which of some numbered owners a node has, as far as none, one and several are told apart.
use Rattle.std.specs.Prelude.{◌≡◌, ◌≢◌, ℕ, ◌≤◌, nat_eq, nat_lt, List, Option, Some, None, get_or, if◌then◌else◌}
use Rattle.cx_text.specs.Members.{In}
use Rattle.cx_graphs.specs.declared.owners.Owners.{Owners}
use Rattle.cx_graphs.specs.declared.owners.Owners.TheVariants.{Nobody, Only, Several}

-- a number may be among the owners; among several any may be
abbrev pub Covers : Owners → ℕ → Type 0
Covers Nobody k = ⊥
Covers (Only j) k = j ≡ k
Covers Several k = Unit {0}

-- P holds of the owner that is told, and of two where several are
abbrev pub Sound : (ℕ → Type 0) → Owners → Type 0
Sound P Nobody = Unit {0}
Sound P (Only j) = P j
Sound P Several = (j : ℕ) × (k : ℕ) × (j ≢ k) × P j × P k

-- TELLS: none, one or several are told as P holds of none, one or several numbers
pub record Tells (P : ℕ → Type 0) (owners : Owners) : Type 0 where
  pub sound : Sound P owners
  pub all : (k : ℕ) → P k → Covers owners k

-- owners and others
abbrev pub joined : Owners → Owners → Owners
joined Nobody b = b
joined (Only j) Nobody = Only j
joined (Only j) (Only k) = if nat_eq j k then Only j else Several
joined (Only j) Several = Several
joined Several b = Several

-- how often the owners can still become more
abbrev pub room : Owners → ℕ
room Nobody = 2
room (Only j) = 1
room Several = 0

-- the owners of a node
abbrev pub owners_at : List Owners → ℕ → Owners
owners_at owners n = get_or owners n Nobody

abbrev pub IsSeveral : List Owners → ℕ → Type 0
IsSeveral owners n = owners_at owners n ≡ Several

-- the least node of a list that several own, where there is one
abbrev pub IsLeast : List Owners → List ℕ → Option ℕ → Type 0
IsLeast owners among None = (n : ℕ) → In among n → IsSeveral owners n → ⊥
IsLeast owners among (Some n) = In among n × IsSeveral owners n × ((m : ℕ) → In among m → IsSeveral owners m → n ≤ m)

abbrev pub or_lesser : Option ℕ → ℕ → Option ℕ
or_lesser None n = Some n
or_lesser (Some m) n = if nat_lt m n then Some m else Some n

abbrev pub if_several : Owners → Option ℕ → Option ℕ → Option ℕ
if_several Nobody more least = least
if_several (Only j) more least = least
if_several Several more least = more

-- the lesser of the least so far and one more node, if several own it
abbrev pub lesser : List Owners → Option ℕ → ℕ → Option ℕ
lesser owners least n = if_several (owners_at owners n) (or_lesser least n) least
