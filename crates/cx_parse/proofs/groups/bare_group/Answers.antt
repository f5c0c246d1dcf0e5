use Rattle.cx_grammar.specs.Calyx.{bare_group}
use Rattle.cx_parse.proofs.Steps.{pair, stops_first, stops_second, as_seen}
use Rattle.cx_parse.proofs.groups.bare_group.Goals as goal

pub returns-in_err-name : goal.returns-in_err-name
unfolding bare_group
returns-in_err-name c = record { value = stops_first (stops_second (c.group_word-kind.ensures.value c.args.levels) (stops_first (c.in_err-name.ensures.value c.args.levels))) }

pub returns : goal.returns
unfolding bare_group
returns c = record { value = as_seen (λ f. f c.args.attributes.items) (pair (c.group_word-kind.ensures.value c.args.levels) (pair (c.in_ok-name.ensures.value c.args.levels) (pair (c.marks-marks.ensures.value c.args.levels) (pair (c.sign.ensures.value c.args.levels) (pair c.assigns-assigns.ensures.value (c.sign-2.ensures.value c.args.levels)))))) }
