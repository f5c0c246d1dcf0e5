use Rattle.cx_grammar.specs.Calyx.{cell, cell_kind}
use Rattle.cx_parse.proofs.Steps.{pair, stops_first, stops_second}
use Rattle.cx_parse.proofs.cells.cell.Goals as goal

pub returns-in_err-name : goal.returns-in_err-name
unfolding cell cell_kind
returns-in_err-name c = record { value = λ levels. stops_second (c.attributes-attributes.ensures.value levels) (stops_first (c.in_err-name.ensures.value levels)) }

pub returns-in_err-kind : goal.returns-in_err-kind
unfolding cell cell_kind
returns-in_err-kind c = record { value = λ levels. stops_second (c.attributes-attributes.ensures.value levels) (stops_second (c.in_ok-name.ensures.value levels) (stops_second (c.marks-marks.ensures.value levels) (stops_second (c.sign.ensures.value levels) (stops_first (c.in_err-kind.ensures.value levels))))) }

pub returns : goal.returns
unfolding cell cell_kind
returns c = record { value = λ levels. pair (c.attributes-attributes.ensures.value levels) (pair (c.in_ok-name.ensures.value levels) (pair (c.marks-marks.ensures.value levels) (pair (c.sign.ensures.value levels) (pair (c.in_ok-kind.ensures.value levels) (pair (pair (c.sign-2.ensures.value levels) (pair (c.numbers-numbers.ensures.value levels) (c.sign-3.ensures.value levels))) (c.sign-4.ensures.value levels)))))) }
