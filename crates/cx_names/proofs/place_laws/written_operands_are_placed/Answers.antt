use Rattle.cx_names.proofs.OfText.{written_placed}
use Rattle.cx_names.proofs.place_laws.written_operands_are_placed.Goals as goal

pub returns : goal.returns
returns c = written_placed
