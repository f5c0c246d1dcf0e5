use Rattle.cx_cells.proofs.NumberLemmas.{IsCounting}
use Rattle.cx_cells.proofs.numbers.word_count.Given as goal

abbrev pub invariant-loop-size : goal.invariant-loop-size
invariant-loop-size l = IsCounting l.sizes l.size-index l.count
