use Rattle.cx_grammar.specs.Calyx.{body}
use Rattle.cx_parse.proofs.Steps.{pair}
use Rattle.cx_parse.proofs.components.body.Goals as goal

pub returns : goal.returns
unfolding body
returns c = record { value = pair (c.sign.ensures.value c.args.levels) (pair (c.cells-cells.ensures.value c.args.levels) (pair c.wires_part-wires.ensures.value (pair c.control-control.ensures.value (c.sign-2.ensures.value c.args.levels)))) }
