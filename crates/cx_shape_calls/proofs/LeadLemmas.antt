-- What is reached from one list of nodes, as a tally of it tells.
use Rattle.std.proofs.Common.{◌≢◌, ℕ, zero, suc, [], ◌∷◌, List, refl, sym, subst}
use Rattle.cx_text.proofs.ListLaws.{nothing_more}
use Rattle.cx_graphs.specs.Graphs.{Edges, IsReached, at_start, by_edge}
use Rattle.cx_graphs.specs.declared.owners.Owners.{Owners}
use Rattle.cx_graphs.specs.declared.owners.Owners.TheVariants.{Nobody, Only, Several}
use Rattle.cx_graphs.specs.Owners.{Covers, Tells}
use Rattle.cx_graphs.specs.Tallies.{Reaches, starts_of}

from_none : (g : Edges) (n : ℕ) → IsReached g [] n → ⊥
from_none g n (at_start i) = absurd i
from_none g n (by_edge m r i) = from_none g m r

module _ (g : Edges) (nodes : List ℕ) (n : ℕ) where
  abbrev P : ℕ → Type 0
  P k = Reaches g (starts_of [] [] (nodes ∷ [])) n k

  from_one : (k : ℕ) → P k → IsReached g nodes n
  from_one zero r = subst (λ l. IsReached g l n) (nothing_more nodes) r
  from_one (suc k) r = absurd (from_none g n r)

  pub tallied_reached : (owners : Owners) → Tells P owners → owners ≢ Nobody → IsReached g nodes n
  tallied_reached Nobody told some = absurd (some refl)
  tallied_reached (Only k) told some = from_one k told.sound
  tallied_reached Several told some = let s = told.sound in from_one s.0 s.3

  pub reached_tallied : (owners : Owners) → Tells P owners → IsReached g nodes n → owners ≢ Nobody
  reached_tallied owners told r none = subst (λ o. Covers o 0) none (told.all 0 (subst (λ l. IsReached g l n) (sym (nothing_more nodes)) r))
