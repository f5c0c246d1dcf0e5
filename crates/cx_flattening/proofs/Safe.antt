-- SAFE PORTS: those from which nothing leads on without end. Where nothing leads in a circle each port is one, and the other way round.
use Rattle.std.proofs.Common.{ℕ, zero, suc, ◌+◌, ◌≤◌, ◌<◌, ⊎_elim, List, [], ◌∷◌, length, subst, arith}
use Rattle.cx_text.specs.Members.{In}
use Rattle.cx_meaning.specs.declared.ports.PortRef.{PortRef}
use Rattle.cx_meaning.specs.Instances.{Instance}
use Rattle.cx_meaning.specs.Active.{Active}
use Rattle.cx_meaning.specs.Sights.{ports_of}
use Rattle.cx_rules.specs.Footprints.{Leads, Depends, at_once, by_way_of}
use Rattle.cx_rules.specs.Circles.{IsAcyclic}
use Rattle.cx_rules.proofs.Finite.{Distinct, distinct_few}
use Rattle.cx_rules.proofs.FoundLemmas.{leads_real}
use Rattle.cx_rules.proofs.CircleLemmas.{depends_then}

pub data Safe (i : Instance) (act : Active) : PortRef → Type 0 where
  safe : {p : PortRef} → ((q : PortRef) → Leads i act p q → Safe i act q) → Safe i act p

-- no safe port depends on itself
pub no_loop : (i : Instance) (act : Active) (p : PortRef) → Safe i act p → Depends i act p p → ⊥
no_loop i act p (safe h) (at_once l) = no_loop i act p (h p l) (at_once l)
no_loop i act p (safe h) (by_way_of r l d) = no_loop i act r (h r l) (depends_then d l)

pub safe_acyclic : (i : Instance) (act : Active) → ((p : PortRef) → Safe i act p) → IsAcyclic i act
safe_acyclic i act all (p, loop) = no_loop i act p (all p) loop

-- with the ports that depend on this one, all different, there are more than all
module _ (i : Instance) (act : Active) (acyclic : IsAcyclic i act) where
  enough : (n : ℕ) (p : PortRef) (above : List PortRef) → Distinct above → ((v : PortRef) → In above v → In (ports_of i) v) → ((v : PortRef) → In above v → Depends i act v p)
      → length (ports_of i) < n + length above → Safe i act p
  enough zero p above distinct real depends h = absurd (let few : length above ≤ length (ports_of i) = distinct_few above (ports_of i) distinct real in omega arith)
  enough (suc n) p above distinct real depends h =
      safe (λ q l.
      enough n q (p ∷ above)
      ((λ j. acyclic (p, depends p j)), distinct)
      (λ v j. ⊎_elim (λ e. subst (λ x. In (ports_of i) x) e (leads_real i act p q l)) (λ k. real v k) j)
      (λ v j. ⊎_elim (λ e. subst (λ x. Depends i act x q) e (at_once l)) (λ k. depends_then (depends v k) l) j)
      (longer n (length above) h))
    where
      longer : (n k : ℕ) → length (ports_of i) < suc n + k → length (ports_of i) < n + suc k
      longer n k h = omega arith

  -- EACH PORT IS SAFE
  pub acyclic_safe : (p : PortRef) → Safe i act p
  acyclic_safe p = enough (suc (length (ports_of i))) p [] tt (λ v j. absurd j) (λ v j. absurd j) (omega arith)
