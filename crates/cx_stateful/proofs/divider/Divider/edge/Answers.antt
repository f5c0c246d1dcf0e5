use Rattle.std.proofs.Common.{refl}
use Rattle.cx_stateful.proofs.divider.Divider.edge.Goals as goal

pub advance-requires-clause-operands : goal.advance-requires-clause-operands
advance-requires-clause-operands c = record {
  left = λ b there. c.requires.inputs_fit.widths 1 _ b refl there;
  right = λ b there. c.requires.inputs_fit.widths 2 _ b refl there;
}
