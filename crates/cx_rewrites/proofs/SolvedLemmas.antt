-- WHAT SOLVES THE STEPS of a closed set of ports is what is seen there.
use Rattle.std.proofs.Common.{◌≡◌, refl, ◌∙◌}
use Rattle.cx_meaning.specs.declared.ports.PortRef.{PortRef}
use Rattle.cx_meaning.specs.declared.sights.Seen.{Seen}
use Rattle.cx_meaning.specs.Instances.{Instance, cells_of, State}
use Rattle.cx_meaning.specs.Active.{Active}
use Rattle.cx_meaning.specs.Sights.{Look, Held, Sees, by_step, seen}
use Rattle.cx_meaning.proofs.SightsLemmas.{step_alike}
use Rattle.cx_rules.specs.Circles.{IsAcyclic, AcyclicBelow}
use Rattle.cx_rules.proofs.FoundLemmas.{needs_leads, seen_found}
use Rattle.cx_rewrites.specs.Solving.{Solves}

pub solved_is_seen : {i : Instance} {held : Held} {act : Active} {s : State} {inside : PortRef → Type 0} {look : Look} {p : PortRef} {x : Seen}
    → Solves i held act s inside look → inside p → Sees i held act s p x → look p ≡ x
solved_is_seen {i} {held} {act} {s} {inside} {look} {p} {x} solves here (by_step more below h b e) =
    solves.steps p below here b
    ∙ step_alike look more i held act s below below p (λ c port n child is at. refl)
    (λ q n m. solved_is_seen solves (solves.closed p q here (needs_leads i act look p q n)) (h q m))
    ∙ e

-- and, where nothing leads in a circle, what is found
pub solved_is_found : (i : Instance) (held : Held) (act : Active) (s : State) (inside : PortRef → Type 0) (look : Look) → IsAcyclic i act → AcyclicBelow (cells_of i)
    → Solves i held act s inside look → (p : PortRef) → inside p → look p ≡ seen i held act s p
solved_is_found i held act s inside look acyclic deeper solves p here = solved_is_seen solves here (seen_found i held act s acyclic deeper p)
