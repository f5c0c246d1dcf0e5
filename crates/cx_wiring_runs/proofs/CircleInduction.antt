-- Induction where nothing leads in a circle: what holds of a port wherever it holds of all that leads from it holds of all of finitely
-- many ports.
use Rattle.std.proofs.Common.{ℕ, zero, suc, ◌+◌, ◌≤◌, ◌<◌, ⊎_elim, List, [], ◌∷◌, length, subst, arith}
use Rattle.cx_meaning.specs.declared.ports.PortRef.{PortRef}
use Rattle.cx_meaning.specs.Instances.{Instance}
use Rattle.cx_meaning.specs.Active.{Active}
use Rattle.cx_text.specs.Members.{In}
use Rattle.cx_rules.specs.Footprints.{Leads, Depends, at_once}
use Rattle.cx_rules.specs.Circles.{IsAcyclic}
use Rattle.cx_rules.proofs.Finite.{Distinct, distinct_few}
use Rattle.cx_rules.proofs.CircleLemmas.{depends_then}

module _ (i : Instance) (act : Active) (acyclic : IsAcyclic i act) (ports : List PortRef) (P : PortRef → Type 0) (step : (p : PortRef) → In ports p → ((q : PortRef) → In ports q → Leads i act p q → P q) → P p) where
  -- so many further steps are enough where more ports than all would have been passed: each of them depends on this one
  deeper : (n : ℕ) (p : PortRef) (above : List PortRef) → In ports p → Distinct above → ((v : PortRef) → In above v → In ports v) → ((v : PortRef) → In above v → Depends i act v p) → length ports < n + length above → P p
  deeper zero p above here distinct among depends h = absurd (let few : length above ≤ length ports = distinct_few above ports distinct among in omega arith)
  deeper (suc n) p above here distinct among depends h =
      step p here
      (λ q there l.
      deeper n q (p ∷ above) there
      ((λ j. acyclic (p, depends p j)), distinct)
      (λ v j. ⊎_elim (λ e. subst (λ x. In ports x) e here) (λ k. among v k) j)
      (λ v j. ⊎_elim (λ e. subst (λ x. Depends i act x q) e (at_once l)) (λ k. depends_then (depends v k) l) j)
      (longer n (length above) h))
    where
      longer : (n k : ℕ) → length ports < suc n + k → length ports < n + suc k
      longer n k h = omega arith

  pub acyclic_induction : (p : PortRef) → In ports p → P p
  acyclic_induction p here = deeper (suc (length ports)) p [] here tt (λ v j. absurd j) (λ v j. absurd j) (omega arith)
