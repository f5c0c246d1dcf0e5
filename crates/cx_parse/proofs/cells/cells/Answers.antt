use Rattle.cx_grammar.specs.Calyx.{cells}
use Rattle.cx_parse.proofs.Steps.{pair}
use Rattle.cx_parse.proofs.cells.cells.Goals as goal

pub returns : goal.returns
unfolding cells
returns c = record { value = λ levels. pair (c.sign.ensures.value levels) (pair (c.sign-2.ensures.value levels) (pair (c.cell_list-all.ensures.value levels) (c.sign-3.ensures.value levels))) }
