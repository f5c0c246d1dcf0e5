use Rattle.std.specs.Prelude.{◌≡◌, codes}
use Rattle.std.proofs.Common.{ap, ◌∙◌}
use Rattle.cx_vtree.specs.Plain.{PlainExpr}
use Rattle.cx_vtree.specs.PlainParts.{plain_expr}
use Rattle.cx_vmods.specs.Parts.{Interior, Register, with_piece}
use Rattle.cx_vmods.specs.Shown.{parts_shown}
use Rattle.cx_vmods.specs.Spelling.{net}
use Rattle.cx_vmods.proofs.parts.Parts.holding.Goals as goal

pub returns : goal.returns
returns c =
    let rest : parts_shown c.register.new.self ≡ with_piece (parts_shown c.args.self.now) (Register (codes "rest") c.args.width (net (codes "rest_next"))) =
    c.in_ok-register.ensures.value
    ∙ ap (λ (e : PlainExpr). with_piece (parts_shown c.args.self.now) (Register (codes "rest") c.args.width e)) c.in_ok-rest.ensures.value in
    let digits : parts_shown c.register-2.new.self ≡ with_piece (with_piece (parts_shown c.args.self.now) (Register (codes "rest") c.args.width (net (codes "rest_next")))) (Register (codes "digits") c.args.width (net (codes "digits_next"))) =
    c.in_ok-register-2.ensures.value
    ∙ ap (λ (i : Interior). with_piece i (Register (codes "digits") c.args.width (plain_expr c.in_ok-digits.digits))) rest
    ∙ ap (λ (e : PlainExpr). with_piece (with_piece (parts_shown c.args.self.now) (Register (codes "rest") c.args.width (net (codes "rest_next")))) (Register (codes "digits") c.args.width e)) c.in_ok-digits.ensures.value in
    record {
      value = c.in_ok-register-3.ensures.value
          ∙ ap (λ (i : Interior). with_piece i (Register (codes "divisor") c.args.width (plain_expr c.in_ok-divisor.divisor))) digits
          ∙ ap (λ (e : PlainExpr). with_piece (with_piece (with_piece (parts_shown c.args.self.now) (Register (codes "rest") c.args.width (net (codes "rest_next")))) (Register (codes "digits") c.args.width (net (codes "digits_next")))) (Register (codes "divisor") c.args.width e)) c.in_ok-divisor.ensures.value;
    }
