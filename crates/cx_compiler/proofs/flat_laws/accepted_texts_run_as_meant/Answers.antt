use Rattle.cx_compiler.proofs.TextRuns.{text_runs_as_meant}
use Rattle.cx_compiler.proofs.flat_laws.accepted_texts_run_as_meant.Goals as goal

pub returns : goal.returns
returns c text tree has named accepted few =
    text_runs_as_meant text tree has named accepted few c.accepted_designs_keep_their_runs.ensures c.means_the_same_without.ensures
