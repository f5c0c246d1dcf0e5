use Rattle.std.proofs.Common.{◌≡◌, Bool, true, false, ◌&&◌, Some, None, cond, nat_eq, ℕ, is_some, refl, ap, ◌∙◌, rules}
use Rattle.cx_meaning.specs.declared.ports.PortRef.{PortRef}
use Rattle.cx_meaning.specs.declared.ports.PortRef.TheVariants as ports
use Rattle.cx_meaning.specs.Designs.{PlainComponent}
use Rattle.cx_rules.specs.CallShape.{is_register, is_register_enable}
use Rattle.cx_design.specs.PlainForms.{plain_component}
use Rattle.cx_shape_calls.specs.Forms.{register_of}
use Rattle.cx_shape_calls.proofs.assigns.is_register_enable.Goals as goal

some_if : (b : Bool) (r : ℕ) → is_some (cond b (Some r) None) ≡ b
some_if true r = refl
some_if false r = refl

enables : (part : PlainComponent) (t : PortRef) → is_some (register_of part t) ≡ is_register_enable part t
enables part (ports.Cell r p) = some_if (is_register part r && nat_eq p 1) r
enables part (ports.Input n) = refl
enables part (ports.Output n) = refl
enables part (ports.Done g) = refl
enables part (ports.Literal w v) = refl

pub returns : goal.returns
returns c =
    let some : c.is_some.result ≡ is_some c.register_of.result = search rules in
    record { value = some ∙ ap is_some c.register_of.ensures.value ∙ enables (plain_component c.args.component.now) c.args.port }
