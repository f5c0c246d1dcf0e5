use Rattle.cx_compiler.proofs.TextRuns.{text_keeps_runs}
use Rattle.cx_compiler.proofs.flat_laws.accepted_texts_keep_their_runs.Goals as goal

pub returns : goal.returns
returns c text tree has named accepted few = text_keeps_runs text tree has named accepted few c.accepted_designs_keep_their_runs.ensures
