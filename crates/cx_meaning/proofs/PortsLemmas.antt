-- Facts of what `Ports` defines, that several crates above take.
use Rattle.std.proofs.Common.{◌≡◌, true, ◌&&◌, nat_eq, refl, ap, ◌∙◌}
use Rattle.std.proofs.lemmas.Bool.{eq-eqb}
use Rattle.cx_meaning.specs.declared.ports.PortRef.{PortRef}
use Rattle.cx_meaning.specs.declared.ports.PortRef.TheVariants as ports
use Rattle.cx_meaning.specs.Active.{same_port}
use Rattle.cx_meaning.specs.Sights.{Given}
use Rattle.cx_prim.specs.Rows.{Inputs}

pub same_self : (p : PortRef) → same_port p p ≡ true
same_self (ports.Cell c p) = ap (λ b. b && nat_eq p p) (eq-eqb c c refl) ∙ eq-eqb p p refl
same_self (ports.Input n) = eq-eqb n n refl
same_self (ports.Output n) = eq-eqb n n refl
same_self (ports.Done g) = eq-eqb g g refl
same_self (ports.Literal w v) = ap (λ b. b && nat_eq v v) (eq-eqb w w refl) ∙ eq-eqb v v refl

pub given_is : (a b : Inputs) → Given a ≡ Given b → a ≡ b
given_is a b e = cc
