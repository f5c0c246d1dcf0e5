use Rattle.cx_rules.proofs.ForeignLemmas.{foreign_zero}
use Rattle.cx_rules.proofs.laws.foreign_enables_are_zero.Goals as goal

pub returns : goal.returns
returns c = λ i act k p row held s alone apart stands enabling. foreign_zero i act k p alone apart row stands enabling held s
