use Rattle.cx_vtree.proofs.Runs as runs
use Rattle.cx_vtree.proofs.laws.one_outcome.Goals as goal

pub returns : goal.returns
returns c source loaded last o q a b = runs.one_outcome a b
