-- Lists of the arms.
use Rattle.std.proofs.Common.{◌≡◌, ℕ, zero, suc, List, [], ◌∷◌, Option, Some, None, map, slice_get, ◌⊎◌, inl, inr, ⊎_elim, refl, sym, ap, subst}
use Rattle.cx_graphs.specs.Graphs as graphs
use Rattle.cx_graphs.specs.Graphs.{Edges, Bounded, targets_of, IsReached, at_start, by_edge}
use Rattle.cx_meaning.specs.Designs.{PlainStatement, statements_of, list_of}
use Rattle.cx_text.specs.Members.{In}
use Rattle.cx_design.specs.declared.statements.Statement.{Statement}
use Rattle.cx_design.specs.PlainForms.{plain_statement}
use Rattle.cx_race.specs.Links.{Within}
use Rattle.cx_meaning.proofs.DesignsLemmas.{list_again}

-- the two ways to say what stands in a list of numbers
pub as_node : (ns : List ℕ) (n : ℕ) → In ns n → In ns n
as_node [] n i = absurd i
as_node (m ∷ ns) n (inl e) = inl e
as_node (m ∷ ns) n (inr i) = inr (as_node ns n i)

pub from_node : (ns : List ℕ) (n : ℕ) → In ns n → In ns n
from_node [] n i = absurd i
from_node (m ∷ ns) n (inl e) = inl e
from_node (m ∷ ns) n (inr i) = inr (from_node ns n i)

pub par_arms : (parts : List Statement) → map plain_statement parts ≡ list_of (statements_of (map plain_statement parts))
par_arms parts = sym (list_again (map plain_statement parts))

abbrev one_or : PlainStatement → Option PlainStatement → PlainStatement
one_or s None = s
one_or s (Some x) = x

-- the list of an arm
pub list_at : (f : PlainStatement → List ℕ) (arms : List PlainStatement) (k : ℕ) (s : PlainStatement) → slice_get arms k ≡ Some s → targets_of (map f arms) k ≡ f s
list_at f [] k s e = absurd (cc)
list_at f (x ∷ arms) zero s e = ap (λ o. f (one_or x o)) e
list_at f (x ∷ arms) (suc k) s e = list_at f arms k s e

abbrev IsArm : List PlainStatement → ℕ → Type 0
IsArm arms k = (s : PlainStatement) × (slice_get arms k ≡ Some s) × In arms s

-- a number is that of an arm, or lists have none of it
pub arm_at : (arms : List PlainStatement) (k : ℕ) → IsArm arms k ⊎ ((f : PlainStatement → List ℕ) → targets_of (map f arms) k ≡ [])
arm_at [] k = inr (λ f. refl)
arm_at (x ∷ arms) zero = inl (x, refl, inl refl)
arm_at (x ∷ arms) (suc k) = ⊎_elim (λ h. inl (h.0, h.1, inr h.2)) (λ e. inr e) (arm_at arms k)

-- the lists are within bounds where that of each arm is
pub lists_within : (f : PlainStatement → List ℕ) (count : ℕ) (arms : List PlainStatement) → ((s : PlainStatement) → In arms s → Within count (f s)) → (k : ℕ) → Bounded count (targets_of (map f arms) k)
lists_within f count arms h k n i =
    ⊎_elim
    (λ a. h a.0 a.2 n (from_node (f a.0) n (subst (λ l. In l n) (list_at f arms k a.0 a.1) i)))
    (λ none. absurd (subst (λ l. In l n) (none f) i))
    (arm_at arms k)

-- nothing is reached from nowhere
pub from_nowhere : (g : Edges) (n : ℕ) → IsReached g [] n → ⊥
from_nowhere g n (at_start i) = i
from_nowhere g n (by_edge m r i) = from_nowhere g m r
