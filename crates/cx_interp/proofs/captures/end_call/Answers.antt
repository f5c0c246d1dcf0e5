use Rattle.std.proofs.Common.{◌≡◌, sym, subst}
use Rattle.cx_turns.specs.Groups.{group_driving}
use Rattle.cx_turns.specs.Machines.{design_of, rows_of}
use Rattle.cx_interp.specs.declared.answers.Answer.TheVariants.{End, Fault, More}
use Rattle.cx_interp.specs.Callees.{after_does}
use Rattle.cx_interp.specs.Doings.{then_does}
use Rattle.cx_interp.specs.Done.{Done}
use Rattle.cx_interp.proofs.DoneLemmas.{done_then, done_stopped}
use Rattle.cx_interp.proofs.captures.end_call.Goals as goal

pub returns-in-End-clause-done : goal.returns-in-End-clause-done
returns-in-End-clause-done c old first one =
    subst (λ a. Done (design_of c.args.plan.now) old (rows_of c.after_child.new.machine) c.args.instance (group_driving c.args.group) (then_does first (after_does c.args.group c.args.cell)) c.args.budget a) (sym c.later.ensures)
    (done_then (design_of c.args.plan.now) c.args.instance (group_driving c.args.group) old (rows_of c.args.machine.now) (rows_of c.after_child.new.machine) first (after_does c.args.group c.args.cell) c.args.budget c.in-End.turns c.after_child.result
    (subst (λ a. Done (design_of c.args.plan.now) old (rows_of c.args.machine.now) c.args.instance (group_driving c.args.group) first c.args.budget a) c.in-End.is one) c.after_child.ensures.done)

pub returns-in-Fault-clause-done : goal.returns-in-Fault-clause-done
returns-in-Fault-clause-done c old first one =
    done_stopped (design_of c.args.plan.now) c.args.instance (group_driving c.args.group) old (rows_of c.args.machine.now) first (after_does c.args.group c.args.cell) c.args.budget (Fault c.in-Fault.fault c.in-Fault.turn) tt
    (subst (λ a. Done (design_of c.args.plan.now) old (rows_of c.args.machine.now) c.args.instance (group_driving c.args.group) first c.args.budget a) c.in-Fault.is one)

pub returns-in-More-clause-done : goal.returns-in-More-clause-done
returns-in-More-clause-done c old first one =
    done_stopped (design_of c.args.plan.now) c.args.instance (group_driving c.args.group) old (rows_of c.args.machine.now) first (after_does c.args.group c.args.cell) c.args.budget More tt
    (subst (λ a. Done (design_of c.args.plan.now) old (rows_of c.args.machine.now) c.args.instance (group_driving c.args.group) first c.args.budget a) c.in-More.is one)

pub returns-in-End-clause-ends : goal.returns-in-End-clause-ends
returns-in-End-clause-ends c turns e = (c.in-End.turns, c.in-End.is)

pub returns-in-Fault-clause-ends : goal.returns-in-Fault-clause-ends
returns-in-Fault-clause-ends c turns e = absurd (let h : Fault c.in-Fault.fault c.in-Fault.turn ≡ End turns = e in cc)

pub returns-in-More-clause-ends : goal.returns-in-More-clause-ends
returns-in-More-clause-ends c turns e = absurd (let h : More ≡ End turns = e in cc)
