use Rattle.cx_prim.specs.Table.{row_of}
use Rattle.cx_prim.proofs.CellStatesLemmas.{has_word}
use Rattle.cx_cell_tests.proofs.words.holds.Goals as goal

pub word-requires-clause-within : goal.word-requires-clause-within
word-requires-clause-within g c = has_word (row_of c.args.cell.now).shape c.args.words.now c.loop-n.n-counter c.requires.taken c.loop-n-test.true
