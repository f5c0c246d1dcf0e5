-- Nodes that depend on one another, and what is known of them.
use Rattle.std.specs.Prelude.{◌≡◌, ℕ, ◌<◌, Bool, true, false, List, Option, Some, None, slice_get}
use Rattle.cx_meaning.specs.declared.sights.Seen.{Seen}
use Rattle.cx_meaning.specs.declared.sights.Seen.TheVariants.{Undefined}
use Rattle.cx_text.specs.Members.{In}
use Rattle.cx_eval_network.specs.declared.marks.NodeMark.{NodeMark}
use Rattle.cx_eval_network.specs.declared.marks.NodeMark.TheVariants.{Unseen, Open, Known}
use Rattle.cx_eval_network.specs.declared.network.Found.{Found}
use Rattle.cx_eval_network.specs.declared.network.Found.TheVariants.{Worth, Waits}

-- a node depends on another by a chain of one or more
pub data Way (leads : ℕ → List ℕ) : ℕ → ℕ → Type 0 where
  at_once : {n m : ℕ} → In (leads n) m → Way leads n m
  by_way_of : {n m : ℕ} (k : ℕ) → In (leads n) k → Way leads k m → Way leads n m

-- none on itself
abbrev pub IsGrounded : (ℕ → List ℕ) → Type 0
IsGrounded leads = (n : ℕ) → Way leads n n → ⊥

abbrev pub StaysWithin : (ℕ → List ℕ) → ℕ → Type 0
StaysWithin leads count = (n m : ℕ) → n < count → In (leads n) m → m < count

abbrev pub is_known : Option NodeMark → Bool
is_known None = false
is_known (Some Unseen) = false
is_known (Some Open) = false
is_known (Some (Known x)) = true

abbrev pub known_at : List NodeMark → ℕ → Bool
known_at marks n = is_known (slice_get marks n)

-- what a mark shows
abbrev pub shown : Option NodeMark → Seen
shown None = Undefined
shown (Some Unseen) = Undefined
shown (Some Open) = Undefined
shown (Some (Known x)) = x

-- these nodes are known with their values
abbrev pub AreKnown : (ℕ → Seen) → List NodeMark → List ℕ → Type 0
AreKnown value marks nodes = (m : ℕ) → In nodes m → slice_get marks m ≡ Some (Known (value m))

-- what is known is right
abbrev pub IsRight : (ℕ → Seen) → List NodeMark → Type 0
IsRight value marks = (n : ℕ) (x : Seen) → slice_get marks n ≡ Some (Known x) → x ≡ value n

-- what a look finds at a node that leads to some nodes: its value, or one of these that is not known
abbrev pub Looked : List ℕ → Seen → List NodeMark → Found → Type 0
Looked leads value marks (Worth x) = x ≡ value
Looked leads value marks (Waits m) = In leads m × (known_at marks m ≡ false)

-- what is known is right, and no node waits
pub record Ready (value : ℕ → Seen) (marks : List NodeMark) : Type 0 where
  pub right : IsRight value marks
  pub closed : (n : ℕ) → slice_get marks n ≡ Some Open → ⊥

-- nothing is known
abbrev pub AllUnseen : List NodeMark → Type 0
AllUnseen marks = (n : ℕ) (m : NodeMark) → slice_get marks n ≡ Some m → m ≡ Unseen

-- what was known still is
abbrev pub Keeps : List NodeMark → List NodeMark → Type 0
Keeps old marks = (n : ℕ) (x : Seen) → slice_get old n ≡ Some (Known x) → slice_get marks n ≡ Some (Known x)

-- after a demand: the node is known with its value, and so is what was known before
pub record Demanded (value : ℕ → Seen) (root : ℕ) (old marks : List NodeMark) : Type 0 where
  pub ready : Ready value marks
  pub found : slice_get marks root ≡ Some (Known (value root))
  pub kept : Keeps old marks
