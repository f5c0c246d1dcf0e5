-- A walk along edges, on its way.
use Rattle.std.specs.Prelude.{◌≡◌, ℕ, ◌+◌, ◌<◌, ◌⊎◌, List, [], ◌∷◌, Some, length, slice_get}
use Rattle.cx_text.specs.Members.{In}
use Rattle.cx_graphs.specs.declared.walking.Mark.{Mark}
use Rattle.cx_graphs.specs.declared.walking.Mark.TheVariants.{Fresh, Entered, Left}
use Rattle.cx_graphs.specs.declared.walking.Step.{Step}
use Rattle.cx_graphs.specs.declared.walking.Next.{Next}
use Rattle.cx_graphs.specs.declared.walking.Next.TheVariants as next
use Rattle.cx_graphs.specs.declared.walking.Walk.{Walk}
use Rattle.cx_graphs.specs.Graphs.{Bounded}
use Rattle.cx_graphs.specs.Ways.{Targets, Way, Comes}

abbrev pub Is : List Mark → ℕ → Mark → Type 0
Is marks n mark = slice_get marks n ≡ Some mark

abbrev pub freshness : Mark → ℕ
freshness Fresh = 1
freshness Entered = 0
freshness Left = 0

-- how many nodes are fresh
abbrev pub fresh_count : List Mark → ℕ
fresh_count [] = 0
fresh_count (mark ∷ marks) = freshness mark + fresh_count marks

-- nothing is walked yet, over so many nodes
pub record IsReady (count : ℕ) (walk : Walk) : Type 0 where
  pub same_length : length walk.marks.items ≡ count
  pub fresh : (n : ℕ) → n < count → Is walk.marks.items n Fresh
  pub no_path : walk.path.items ≡ []
  pub no_order : walk.order.items ≡ []
  pub none_entered : walk.entered.items ≡ []

-- each node is fresh, or in the list of those that were entered
pub record IsKnown (count : ℕ) (marks : List Mark) (entered : List ℕ) : Type 0 where
  pub same_length : length marks ≡ count
  pub within : Bounded count entered
  pub known : (n : ℕ) → n < count → Is marks n Fresh ⊎ In entered n

-- each node of a path leads to all later ones, and is none of them
abbrev pub IsChain : Targets → List Step → Type 0
IsChain targets [] = Unit {0}
IsChain targets (s ∷ rest) =
    ((r : Step) → In rest r → Way targets s.node r.node × (s.node ≡ r.node → ⊥)) × IsChain targets rest

-- the edges before a number lead to what is left
abbrev pub AreLeft : List ℕ → List Mark → ℕ → Type 0
AreLeft targets marks before = (k t : ℕ) → k < before → slice_get targets k ≡ Some t → Is marks t Left

-- a walk that has met no circle
pub record IsWalk (targets : Targets) (count : ℕ) (marks : List Mark) (path : List Step)
    (order entered : List ℕ) : Type 0 where
  pub known : IsKnown count marks entered
  pub on_path : (s : Step) → In path s → Is marks s.node Entered
  pub entered_on : (n : ℕ) → Is marks n Entered → (s : Step) × In path s × (s.node ≡ n)
  pub chain : IsChain targets path
  pub passed : (s : Step) → In path s → AreLeft (targets s.node) marks s.next
  pub left_ordered : (n : ℕ) → Is marks n Left → In order n
  pub ordered_left : (n : ℕ) → In order n → Is marks n Left
  pub once : (i j n : ℕ) → slice_get order i ≡ Some n → slice_get order j ≡ Some n → i ≡ j
  pub earlier : (i n m : ℕ) → slice_get order i ≡ Some n → In (targets n) m
      → (j : ℕ) × (j < i) × (slice_get order j ≡ Some m)

abbrev pub IsWalkOf : Targets → ℕ → Walk → Type 0
IsWalkOf targets count walk = IsWalk targets count walk.marks.items walk.path.items walk.order.items walk.entered.items

abbrev pub IsKnownOf : ℕ → Walk → Type 0
IsKnownOf count walk = IsKnown count walk.marks.items walk.entered.items

-- the nodes of a path come from some nodes
abbrev pub AllCome : Targets → List ℕ → List Step → Type 0
AllCome targets starts path = (s : Step) → In path s → Comes targets starts s.node

-- what is fresh was so before
abbrev pub NoFresher : List Mark → List Mark → Type 0
NoFresher marks after = (n : ℕ) → Is after n Fresh → Is marks n Fresh

-- what comes next among the edges of a node: none, one to a node of the path, or one to a fresh node, behind edges to what
-- is left
abbrev pub IsNext : List ℕ → List Mark → Next → Type 0
IsNext targets marks next.Nothing = (t : ℕ) → In targets t → Is marks t Left
IsNext targets marks next.Circle = (t : ℕ) × In targets t × Is marks t Entered
IsNext targets marks (next.Fresh at target) =
    AreLeft targets marks at × (slice_get targets at ≡ Some target) × Is marks target Fresh
