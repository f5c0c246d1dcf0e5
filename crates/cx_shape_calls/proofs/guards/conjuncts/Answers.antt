use Rattle.std.proofs.Common.{rules, ◌∙◌, ap, map}
use Rattle.cx_design.specs.PlainForms.{plain_guard}
use Rattle.cx_shape_calls.proofs.ConjunctionLemmas.{none_if_not, some_if_so}
use Rattle.cx_shape_calls.proofs.guards.conjuncts.Goals as goal

pub returns-then-not-is_conjunction : goal.returns-then-not-is_conjunction
returns-then-not-is_conjunction c = record { value = none_if_not (plain_guard c.args.guard.now) (search rules) }

pub returns : goal.returns
returns c = record {
  value = some_if_so (plain_guard c.args.guard.now) c.in_ok-ports.ports.items (search rules) (c.in_ok-ports.ensures.value ∙ ap (λ l. map (λ p. p.port) l) (c.as_slice.ensures.value ∙ c.in_ok-atoms.ensures.value));
}
