use Rattle.cx_grammar.specs.Calyx.{bare_assign}
use Rattle.cx_parse.proofs.Steps.{pair, as_seen}
use Rattle.cx_parse.proofs.assignments.bare_assign.Goals as goal

pub returns : goal.returns
unfolding bare_assign
returns c = record { value = as_seen (λ f. f c.args.attributes.items) (pair (c.target-target.ensures.value c.args.levels) (pair (c.sign.ensures.value c.args.levels) (pair c.value-guard.ensures.value (c.sign-2.ensures.value c.args.levels)))) }
