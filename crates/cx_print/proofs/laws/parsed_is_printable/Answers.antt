use Rattle.cx_print.proofs.FileGiven.{tree_of_text}
use Rattle.cx_print.proofs.laws.parsed_is_printable.Goals as goal

pub returns : goal.returns
returns c = tree_of_text
