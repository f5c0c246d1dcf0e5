use Rattle.std.proofs.Common.{ap, ◌∙◌}
use Rattle.std.specs.Prelude.{nat_eq}
use Rattle.std.proofs.lemmas.Bool.{ne_eqb}
use Rattle.cx_state.proofs.WireLemmas.{point_last, front_left}
use Rattle.cx_state.proofs.paths.without_point.Goals as goal

pub returns-then-last-eq46-clause-some : goal.returns-then-last-eq46-clause-some
returns-then-last-eq46-clause-some c = (
  point_last c.args.name.now c.in_ok-last.front.now c.in_ok-last.last.now c.in_ok-last.ensures.cases.0 ∙ ap (λ x. nat_eq x 46) c.if-last-eq46.true,
  front_left c.args.name.now c.in_ok-last.front.now c.in_ok-last.last.now c.in_ok-last.ensures.cases.0,
)

pub returns-else-last-eq46-clause-none : goal.returns-else-last-eq46-clause-none
returns-else-last-eq46-clause-none c =
    point_last c.args.name.now c.in_ok-last.front.now c.in_ok-last.last.now c.in_ok-last.ensures.cases.0 ∙ ne_eqb c.in_ok-last.last.now 46 c.if-last-eq46.false
