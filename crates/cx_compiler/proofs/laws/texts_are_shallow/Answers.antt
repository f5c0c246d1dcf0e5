use Rattle.cx_compiler.proofs.RunLayers.{are_shallow}
use Rattle.cx_compiler.proofs.laws.texts_are_shallow.Goals as goal

pub returns : goal.returns
returns c = are_shallow
