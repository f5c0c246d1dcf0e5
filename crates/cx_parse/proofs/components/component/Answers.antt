use Rattle.cx_grammar.specs.Calyx.{component}
use Rattle.cx_parse.proofs.Steps.{pair, stops_first, stops_second}
use Rattle.cx_parse.proofs.components.component.Goals as goal

pub returns-in_err-name : goal.returns-in_err-name
unfolding component
returns-in_err-name c = record { value = stops_second (c.attributes-attributes.ensures.value c.args.levels) (stops_second (c.component_word-length.ensures.value c.args.levels) (stops_first (c.in_err-name.ensures.value c.args.levels))) }

pub returns : goal.returns
unfolding component
returns c = record { value = pair (c.attributes-attributes.ensures.value c.args.levels) (pair (c.component_word-length.ensures.value c.args.levels) (pair (c.in_ok-name.ensures.value c.args.levels) c.body-cells.ensures.value)) }
