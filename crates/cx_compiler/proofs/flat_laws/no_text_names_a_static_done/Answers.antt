use Rattle.cx_compiler.proofs.StaticEnds.{names_no_done}
use Rattle.cx_compiler.proofs.flat_laws.no_text_names_a_static_done.Goals as goal

pub returns : goal.returns
returns c = names_no_done
