-- Marks by the ranks of nets: which nets may have another value than they had.
use Rattle.std.specs.Prelude.{◌≡◌, ℕ, ◌<◌, ◌≤◌, Bool, true, false, List, Option, MatchOption, get_or, length, nat_eq}

-- the mark of a rank is the byte 1
abbrev pub is_stale : List ℕ → ℕ → Bool
is_stale stale k = nat_eq (get_or stale k 0) 1

abbrev pub rank_at : List ℕ → ℕ → ℕ
rank_at ranks f = get_or ranks f 0

-- the net has a rank, and this a mark
abbrev pub HasPlace : List ℕ → List ℕ → ℕ → Type 0
HasPlace ranks stale f = (f < length ranks) × (rank_at ranks f < length stale)

-- marks are only added, and a net that has none has stayed the same
pub record Tells (ranks : List ℕ) (old new : List ℕ) (same : ℕ → Type 0) : Type 0 where
  pub long : length new ≡ length old
  pub kept : (k : ℕ) → is_stale new k ≡ false → is_stale old k ≡ false
  pub stays : (f : ℕ) → HasPlace ranks old f → is_stale new (rank_at ranks f) ≡ false → same f

-- below a rank no mark changes
abbrev pub SameBelow : ℕ → List ℕ → List ℕ → Type 0
SameBelow from old new = (k : ℕ) → k < from → is_stale new k ≡ is_stale old k

abbrev pub AllStale : List ℕ → Type 0
AllStale stale = (k : ℕ) → k < length stale → is_stale stale k ≡ true

-- no rank from one up to another is marked
abbrev pub NoneStale : List ℕ → ℕ → ℕ → Type 0
NoneStale stale from to = (k : ℕ) → from ≤ k → k < to → is_stale stale k ≡ false

-- the first marked rank from one on
pub record IsNext (stale : List ℕ) (from next : ℕ) : Type 0 where
  pub low : from ≤ next
  pub high : next < length stale
  pub before : NoneStale stale from next
  pub marked : is_stale stale next ≡ true

-- it, where there is one
abbrev pub IsNextStale : List ℕ → ℕ → Option ℕ → Type 0
IsNextStale stale from r = MatchOption r (NoneStale stale from (length stale)) (IsNext stale from)

-- the first marked rank from one up to another; this one where there is none
pub record IsNear (stale : List ℕ) (from to next : ℕ) : Type 0 where
  pub low : from ≤ next
  pub high : next ≤ to
  pub before : NoneStale stale from next
  pub marked : next < to → is_stale stale next ≡ true
