-- Facts of the parts that `DesignOf` makes, that several crates above take.
use Rattle.std.proofs.Common.{◌≡◌, ap, ◌∙◌}
use Rattle.cx_text.specs.declared.places.Place.{Place}
use Rattle.cx_meaning.specs.declared.ports.PortRef.{PortRef}
use Rattle.cx_meaning.specs.declared.ports.PlacedPort.{PlacedPort}
use Rattle.cx_meaning.specs.Designs.{PlainAssign, PlainGuard}

-- an assignment by its parts
abbrev pub an_assign : PortRef → PlainGuard → PlacedPort → Place → PlainAssign
an_assign target guard source place = record { target = target; guard = guard; source = source; place = place }

pub assign_is : (t u : PortRef) (g h : PlainGuard) (s r : PlacedPort) (place : Place) → t ≡ u → g ≡ h → s ≡ r → an_assign t g s place ≡ an_assign u h r place
assign_is t u g h s r place a b c = ap (λ x. an_assign x g s place) a ∙ ap (λ x. an_assign u x s place) b ∙ ap (λ x. an_assign u h x place) c
