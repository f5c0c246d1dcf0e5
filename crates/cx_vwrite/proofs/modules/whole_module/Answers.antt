use Rattle.cx_vtree.specs.PlainParts.{plain_module}
use Rattle.cx_vwrite.proofs.LinesText.{module_pieces}
use Rattle.cx_vwrite.proofs.modules.whole_module.Goals as goal

pub returns : goal.returns
returns c = module_pieces (plain_module c.args.m.now) _ _ _ c.in_ok-signature.ensures c.in_ok-body.ensures
