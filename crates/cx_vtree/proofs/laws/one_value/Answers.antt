use Rattle.cx_vtree.proofs.Values as values
use Rattle.cx_vtree.proofs.laws.one_value.Goals as goal

pub returns-clause-nets : goal.returns-clause-nets
returns-clause-nets c tree m i name v w a b = values.one_value a b

pub returns-clause-exprs : goal.returns-clause-exprs
returns-clause-exprs c tree m i e v w a b = values.one_eval a b
