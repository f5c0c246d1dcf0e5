use Rattle.std.proofs.Common.{Ok, true, false, refl, subst}
use Rattle.cx_meaning.specs.Designs.{If}
use Rattle.cx_design.specs.PlainForms.{plain_statement}
use Rattle.cx_turns.specs.Machines.{design_of, rows_of}
use Rattle.cx_turns.specs.Tests.{Tested}
use Rattle.cx_turns.proofs.PartLemmas.{yes_stands, no_stands}
use Rattle.cx_turns.proofs.StandLemmas.{test_port, test_comb}
use Rattle.cx_orders.specs.Leaves.{test_drives}
use Rattle.cx_weave.specs.Strides.{HasRested}
use Rattle.cx_weave.proofs.LeafSteps.{choice_holds, choice_fails}
use Rattle.cx_weave.proofs.OpenSupplies.{first_branch, second_branch}
use Rattle.cx_weave.proofs.leaf_turns.step_choice.Goals as goal

pub test-requires-clause-port : goal.test-requires-clause-port
test-requires-clause-port c = test_port (design_of c.args.plan.now) c.requires.plan.accepted c.requires.plan.design c.args.plan.now.table.rows.items c.args.plan.now.table.children.items c.requires.plan.table c.args.instance (If c.args.port c.args.comb (plain_statement c.args.first.now) (plain_statement c.args.second.now)) c.args.port c.requires.stands refl

pub test-requires-clause-comb : goal.test-requires-clause-comb
test-requires-clause-comb c = test_comb (design_of c.args.plan.now) c.requires.plan.accepted c.requires.plan.design c.args.plan.now.table.rows.items c.args.plan.now.table.children.items c.requires.plan.table c.args.instance (If c.args.port c.args.comb (plain_statement c.args.first.now) (plain_statement c.args.second.now)) c.args.comb c.requires.stands (λ part w. w)

pub rest_comb-requires-clause-comb : goal.rest_comb-requires-clause-comb
rest_comb-requires-clause-comb c = test_comb (design_of c.args.plan.now) c.requires.plan.accepted c.requires.plan.design c.args.plan.now.table.rows.items c.args.plan.now.table.children.items c.requires.plan.table c.args.instance (If c.args.port c.args.comb (plain_statement c.args.first.now) (plain_statement c.args.second.now)) c.args.comb c.requires.stands (λ part w. w)

pub rest_comb-requires-in-Ok-false-clause-comb : goal.rest_comb-requires-in-Ok-false-clause-comb
rest_comb-requires-in-Ok-false-clause-comb c = test_comb (design_of c.args.plan.now) c.requires.plan.accepted c.requires.plan.design c.args.plan.now.table.rows.items c.args.plan.now.table.children.items c.requires.plan.table c.args.instance (If c.args.port c.args.comb (plain_statement c.args.first.now) (plain_statement c.args.second.now)) c.args.comb c.requires.stands (λ part w. w)

pub open_statement-requires-clause-statement : goal.open_statement-requires-clause-statement
open_statement-requires-clause-statement c = yes_stands (design_of c.args.plan.now) c.args.instance c.args.port c.args.comb (plain_statement c.args.first.now) (plain_statement c.args.second.now) c.requires.stands

pub open_statement-requires-in-Ok-false-clause-statement : goal.open_statement-requires-in-Ok-false-clause-statement
open_statement-requires-in-Ok-false-clause-statement c = no_stands (design_of c.args.plan.now) c.args.instance c.args.port c.args.comb (plain_statement c.args.first.now) (plain_statement c.args.second.now) c.requires.stands

pub open_statement-requires-clause-supplied : goal.open_statement-requires-clause-supplied
open_statement-requires-clause-supplied c = first_branch (design_of c.args.plan.now) c.args.instance c.args.spares.now (plain_statement c.args.first.now) (plain_statement c.args.second.now) c.requires.supplied

pub open_statement-requires-in-Ok-false-clause-supplied : goal.open_statement-requires-in-Ok-false-clause-supplied
open_statement-requires-in-Ok-false-clause-supplied c = second_branch (design_of c.args.plan.now) c.args.instance c.args.spares.now (plain_statement c.args.first.now) (plain_statement c.args.second.now) c.requires.supplied

pub returns-in-Ok-true-clause-stepped : goal.returns-in-Ok-true-clause-stepped
returns-in-Ok-true-clause-stepped c =
    let d = design_of c.args.plan.now in
    let rows = rows_of c.args.machine.now in
    let told : Tested d rows c.args.instance c.args.port.port c.args.comb (Ok true) = subst (λ b. Tested d rows c.args.instance c.args.port.port c.args.comb (Ok b)) c.in-Ok-true.field-0-test c.in-Ok-true.ensures.tested in
    let rests : HasRested d rows (rows_of c.rest_comb.new.machine) c.args.instance (λ part. test_drives part c.args.comb) = subst (λ m. HasRested d (rows_of m) (rows_of c.rest_comb.new.machine) c.args.instance (λ part. test_drives part c.args.comb)) c.test.ensures.same c.rest_comb.ensures.rested in
    choice_holds d c.args.instance c.args.leaf rows (rows_of c.rest_comb.new.machine) c.args.port c.args.comb (plain_statement c.args.first.now) (plain_statement c.args.second.now) c.open_statement.result told rests c.open_statement.ensures.opens

pub returns-in-Ok-false-clause-stepped : goal.returns-in-Ok-false-clause-stepped
returns-in-Ok-false-clause-stepped c =
    let d = design_of c.args.plan.now in
    let rows = rows_of c.args.machine.now in
    let told : Tested d rows c.args.instance c.args.port.port c.args.comb (Ok false) = subst (λ b. Tested d rows c.args.instance c.args.port.port c.args.comb (Ok b)) c.in-Ok-false.field-0-test c.in-Ok-false.ensures.tested in
    let rests : HasRested d rows (rows_of c.rest_comb-in-Ok-false.new.machine) c.args.instance (λ part. test_drives part c.args.comb) = subst (λ m. HasRested d (rows_of m) (rows_of c.rest_comb-in-Ok-false.new.machine) c.args.instance (λ part. test_drives part c.args.comb)) c.test.ensures.same c.rest_comb-in-Ok-false.ensures.rested in
    choice_fails d c.args.instance c.args.leaf rows (rows_of c.rest_comb-in-Ok-false.new.machine) c.args.port c.args.comb (plain_statement c.args.first.now) (plain_statement c.args.second.now) c.open_statement-in-Ok-false.result told rests c.open_statement-in-Ok-false.ensures.opens

pub returns-in-Ok-true-clause-ledger : goal.returns-in-Ok-true-clause-ledger
returns-in-Ok-true-clause-ledger c = c.open_statement.ensures.ledger

pub returns-in-Ok-false-clause-ledger : goal.returns-in-Ok-false-clause-ledger
returns-in-Ok-false-clause-ledger c = c.open_statement-in-Ok-false.ensures.ledger
