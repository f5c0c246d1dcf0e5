use Rattle.std.proofs.Common.{◌≡◌, rules, ◌∙◌, [], ap, drop, map, sym, subst, arith}
use Rattle.std.proofs.Math.ListN.{drop_of_length-le}
use Rattle.cx_design.specs.PlainForms.{plain_assign, plain_assigns}
use Rattle.cx_eval_cycle.specs.Passes.{IsAscending}
use Rattle.cx_turns.proofs.DriveLemmas.{with_targets, listed_are_driven, ascends}
use Rattle.cx_turns.proofs.driving.driven_cells.Goals as goal

pub returns-clause-cells : goal.returns-clause-cells
returns-clause-cells c =
    let assigns = c.args.assigns.now in
    let all : c.in_ok-collect.field-0.items ≡ c.loop-assign.found.keys = search rules in
    let gone : drop c.loop-assign.assign-index assigns ≡ [] = drop_of_length-le assigns (omega arith) in
    listed_are_driven c.in_ok-collect.field-0.items (plain_assigns assigns)
    (all ∙ ap (λ l. with_targets c.loop-assign.found.keys (map plain_assign l)) (sym gone) ∙ c.loop-assign.invariant)

pub returns-clause-ascending : goal.returns-clause-ascending
returns-clause-ascending c =
    let all : c.in_ok-collect.field-0.items ≡ c.loop-assign.found.keys = search rules in
    subst IsAscending (sym all) (ascends c.loop-assign.found.keys c.iter.ensures.ordered)
