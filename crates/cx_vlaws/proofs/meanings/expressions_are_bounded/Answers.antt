use Rattle.cx_vlaws.proofs.ExpressionWidths.{expression_bounded}
use Rattle.cx_vlaws.proofs.meanings.expressions_are_bounded.Goals as goal

pub returns : goal.returns
returns c source i w e sound fits = expression_bounded source sound i e w fits.named fits.width
