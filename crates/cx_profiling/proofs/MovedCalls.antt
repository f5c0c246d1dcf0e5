-- The ports of a component are told from one another where they are moved, and their assignments name no others.
use Rattle.std.proofs.Common.{◌≡◌, Bool, true, false, List, refl, ap, ◌∙◌}
use Rattle.std.proofs.lemmas.Bool.{both_ways}
use Rattle.cx_meaning.specs.declared.ports.PortRef.{PortRef}
use Rattle.cx_meaning.specs.declared.ports.PortRef.TheVariants as ports
use Rattle.cx_meaning.specs.Designs.{PlainAssign, PlainComponent, PlainDesign}
use Rattle.cx_meaning.specs.Active.{same_port}
use Rattle.cx_meaning.proofs.PortsLemmas.{same_self}
use Rattle.cx_rules.specs.CallShape.{one, with_target}
use Rattle.cx_rules.proofs.FoundLemmas.{same_is}
use Rattle.cx_rewrites.proofs.MovedCalls.{AllInside, IsAlone}
use Rattle.cx_profiling.specs.Instrumented.{moved_in}
use Rattle.cx_profiling.proofs.LoneDrivers.{other_port}
use Rattle.cx_profiling.proofs.NameLemmas.{in_filter}
use Rattle.cx_profiling.proofs.PortLemmas.{IsInside, moved_apart}

module _ (d : PlainDesign) (part : PlainComponent) where
  abbrev mv : PortRef → PortRef
  mv p = moved_in d part p

  pub same_moved : (p q : PortRef) → IsInside d part p → IsInside d part q → same_port (mv p) (mv q) ≡ same_port p q
  same_moved p q here there = by (same_port p q) refl
    where
      by : (b : Bool) → same_port p q ≡ b → same_port (mv p) (mv q) ≡ b
      by true e = ap (λ x. same_port (mv x) (mv q)) (same_is p q e) ∙ same_self (mv q)
      by false e = other_port (mv p) (mv q) (λ h. both_ways (same_port p q) e (ap (λ x. same_port x q) (moved_apart d part p q here there h) ∙ same_self q))

  pub one_kept : (t : PortRef) → same_port (mv t) one ≡ same_port t one
  one_kept (ports.Cell c m) = refl
  one_kept (ports.Input n) = refl
  one_kept (ports.Output n) = refl
  one_kept (ports.Done g) = refl
  one_kept (ports.Literal w v) = refl

  pub stands_alone : (q : PortRef) → IsInside d part q → IsAlone mv (IsInside d part) q
  stands_alone q here t inside = same_moved t q inside here

  pub target_inside : (q : PortRef) (list : List PlainAssign) → AllInside (IsInside d part) list → AllInside (IsInside d part) (with_target q list)
  target_inside q list all a i = all a (in_filter (λ x. same_port x.target q) list a i).0
