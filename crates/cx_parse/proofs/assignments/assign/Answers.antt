use Rattle.cx_grammar.specs.Calyx.{assign}
use Rattle.cx_parse.proofs.Steps.{applied}
use Rattle.cx_parse.proofs.assignments.assign.Goals as goal

pub returns : goal.returns
unfolding assign
returns c = record { value = applied (c.attributes-attributes.ensures.value c.args.levels) c.bare_assign.ensures.value }
