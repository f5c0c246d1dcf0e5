use Rattle.cx_sharing.proofs.SharedMain.{rows_shared}
use Rattle.cx_sharing.proofs.WholeMain.{whole_ends, whole_fault, whole_more}
use Rattle.cx_sharing.proofs.whole_laws.whole_shared_runs_alike.Goals as goal

pub returns-clause-ends : goal.returns-clause-ends
returns-clause-ends c = λ d words n t s design accepted undone ends. whole_ends d design accepted undone words n s t ends

pub returns-clause-faults : goal.returns-clause-faults
returns-clause-faults c = λ d words n t fault design accepted undone stops. whole_fault d design accepted undone words n fault t stops

pub returns-clause-more : goal.returns-clause-more
returns-clause-more c = λ d words n design accepted undone more. whole_more d design accepted undone words n more

pub returns-clause-rows : goal.returns-clause-rows
returns-clause-rows c = λ d design. rows_shared d design
