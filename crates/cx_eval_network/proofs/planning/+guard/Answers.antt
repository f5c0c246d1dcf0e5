use Rattle.std.proofs.Common.{◌≡◌, ◌∙◌, [], ap, append-nil, drop, map, sym}
use Rattle.std.proofs.lemmas.List.{drop_all}
use Rattle.cx_design.specs.PlainForms.{plain_guard}
use Rattle.cx_eval_network.specs.Planned.{guard_plan, guards_of, numbered_guard}
use Rattle.cx_eval_network.specs.Plans.{instance_of}
use Rattle.cx_eval_network.proofs.PlanLemmas.{guards_planned}
use Rattle.cx_eval_network.proofs.planning.+guard.Goals as goal

pub planned_guards-returns : goal.planned_guards-returns
planned_guards-returns t c =
    let i = instance_of c.args.part.now in
    let none : drop c.loop-guard.guard-index c.args.guards.now ≡ [] = drop_all _ _ c.loop-guard-test.false in
    let all : map numbered_guard c.loop-guard.planned.items ≡ map (guard_plan i) (map plain_guard c.args.guards.now) =
    sym (append-nil (map numbered_guard c.loop-guard.planned.items)) ∙ (rw none at c.loop-guard.invariant) in
    record { value = ap guards_of all ∙ guards_planned i (map plain_guard c.args.guards.now) }
