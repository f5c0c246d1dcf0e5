use Rattle.cx_names.proofs.Placed.{texts_placed}
use Rattle.cx_names.proofs.place_laws.texts_are_placed.Goals as goal

pub returns : goal.returns
returns c = texts_placed
