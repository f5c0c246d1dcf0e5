use Rattle.std.specs.Prelude.{codes}
use Rattle.std.proofs.Common.{ap, ◌∙◌}
use Rattle.cx_vtree.specs.Plain.{PlainExpr}
use Rattle.cx_vmods.specs.Spelling.{net}
use Rattle.cx_vmods.specs.Parts.{Interior, Output, Register, with_piece}
use Rattle.cx_vmods.specs.Shown.{parts_shown}
use Rattle.cx_vmods.proofs.parts.Parts.holding_read.Goals as goal

pub returns : goal.returns
returns c = record {
  value = c.in_ok-output_net.ensures.value
      ∙ ap (λ (i : Interior). with_piece i (Output (codes "read_data") (net (codes "held"))))
      (c.in_ok-register.ensures.value
      ∙ ap (λ (e : PlainExpr). with_piece (parts_shown c.args.self.now) (Register (codes "held") c.args.width e)) c.in_ok-next.ensures.value);
}
