use Rattle.cx_design_parts.proofs.OutputLemmas.{row_of-reads_first}
use Rattle.cx_design_parts.proofs.output_laws.outputs_read_first.Goals as goal

pub returns : goal.returns
returns c = row_of-reads_first
