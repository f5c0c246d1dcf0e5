use Rattle.cx_grammar.specs.Calyx.{wires_part}
use Rattle.cx_parse.proofs.Steps.{pair}
use Rattle.cx_parse.proofs.groups.wires_part.Goals as goal

pub returns : goal.returns
unfolding wires_part
returns c = record { value = pair (c.sign.ensures.value c.args.levels) (pair (c.sign-2.ensures.value c.args.levels) (pair c.wire_list-all.ensures.value (c.sign-3.ensures.value c.args.levels))) }
