use Rattle.std.specs.Prelude.{codes}
use Rattle.std.proofs.Common.{ap, ◌∙◌}
use Rattle.cx_vtree.specs.Plain.{PlainExpr, Chosen}
use Rattle.cx_vmods.specs.Spelling.{net}
use Rattle.cx_vtree.specs.PlainParts.{plain_expr}
use Rattle.cx_vmods.specs.Parts.{Register, with_piece}
use Rattle.cx_vmods.specs.Shown.{parts_shown}
use Rattle.cx_vmods.proofs.parts.Parts.taking.Goals as goal

pub returns : goal.returns
returns c = record {
  value = c.in_ok-register.ensures.value
      ∙ ap (λ (e : PlainExpr). with_piece (parts_shown c.args.self.now) (Register (codes "held") c.args.width e))
      (c.in_ok-next.ensures.value
      ∙ ap (λ (e : PlainExpr). Chosen (net (codes "write_en")) e (plain_expr c.in_ok-old.old)) c.in_ok-new.ensures.value
      ∙ ap (λ (e : PlainExpr). Chosen (net (codes "write_en")) (net (codes "in")) e) c.in_ok-old.ensures.value);
}
