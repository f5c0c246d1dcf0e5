use Rattle.cx_vlaws.proofs.TallyLemmas.{nets_by_number, arrays_by_number, words_by_number}
use Rattle.cx_vlaws.proofs.counts.counts_go_by_instances.Goals as goal

pub returns-clause-nets : goal.returns-clause-nets
returns-clause-nets c tree f first next = nets_by_number tree f first next

pub returns-clause-arrays : goal.returns-clause-arrays
returns-clause-arrays c tree f first next = arrays_by_number tree f first next

pub returns-clause-words : goal.returns-clause-words
returns-clause-words c tree f first next = words_by_number tree f first next
