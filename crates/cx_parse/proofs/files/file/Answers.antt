use Rattle.cx_grammar.specs.Calyx.{file}
use Rattle.cx_parse.proofs.Steps.{pair, stops_first, stops_second, headed}
use Rattle.cx_parse.proofs.files.file.Goals as goal

pub returns-in_err-first : goal.returns-in_err-first
unfolding file
returns-in_err-first c = record { value = stops_second (c.imports-imports.ensures.value c.args.levels) (stops_first c.in_err-first.ensures.value) }

pub returns : goal.returns
unfolding file
returns c = record { value = pair (c.imports-imports.ensures.value c.args.levels) (headed (λ cs. cs) c.in_ok-first.ensures.value c.more_components-components.ensures.value) }
