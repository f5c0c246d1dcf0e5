use Rattle.std.proofs.Common.{Ok, true, false, refl, subst}
use Rattle.cx_meaning.specs.Designs.{While}
use Rattle.cx_design.specs.PlainForms.{plain_statement}
use Rattle.cx_turns.specs.Machines.{design_of, rows_of}
use Rattle.cx_turns.specs.Tests.{Tested}
use Rattle.cx_turns.proofs.StandLemmas.{test_port, test_comb}
use Rattle.cx_orders.specs.Leaves.{test_drives}
use Rattle.cx_weave.specs.Strides.{HasRested}
use Rattle.cx_weave.proofs.LeafSteps.{test_holds, test_fails}
use Rattle.cx_weave.proofs.Ledgers.{untouched}
use Rattle.cx_weave.proofs.leaf_turns.step_test.Goals as goal

pub test-requires-clause-port : goal.test-requires-clause-port
test-requires-clause-port c = test_port (design_of c.args.plan.now) c.requires.plan.accepted c.requires.plan.design c.args.plan.now.table.rows.items c.args.plan.now.table.children.items c.requires.plan.table c.args.instance (While c.args.port c.args.comb (plain_statement c.args.body.now)) c.args.port c.requires.stands refl

pub test-requires-clause-comb : goal.test-requires-clause-comb
test-requires-clause-comb c = test_comb (design_of c.args.plan.now) c.requires.plan.accepted c.requires.plan.design c.args.plan.now.table.rows.items c.args.plan.now.table.children.items c.requires.plan.table c.args.instance (While c.args.port c.args.comb (plain_statement c.args.body.now)) c.args.comb c.requires.stands (λ part w. w)

pub rest_comb-requires-clause-comb : goal.rest_comb-requires-clause-comb
rest_comb-requires-clause-comb c = test_comb (design_of c.args.plan.now) c.requires.plan.accepted c.requires.plan.design c.args.plan.now.table.rows.items c.args.plan.now.table.children.items c.requires.plan.table c.args.instance (While c.args.port c.args.comb (plain_statement c.args.body.now)) c.args.comb c.requires.stands (λ part w. w)

pub rest_comb-requires-in-Ok-false-clause-comb : goal.rest_comb-requires-in-Ok-false-clause-comb
rest_comb-requires-in-Ok-false-clause-comb c = test_comb (design_of c.args.plan.now) c.requires.plan.accepted c.requires.plan.design c.args.plan.now.table.rows.items c.args.plan.now.table.children.items c.requires.plan.table c.args.instance (While c.args.port c.args.comb (plain_statement c.args.body.now)) c.args.comb c.requires.stands (λ part w. w)

pub returns-in-Ok-true-clause-stepped : goal.returns-in-Ok-true-clause-stepped
returns-in-Ok-true-clause-stepped c =
    let d = design_of c.args.plan.now in
    let rows = rows_of c.args.machine.now in
    let told : Tested d rows c.args.instance c.args.port.port c.args.comb (Ok true) = subst (λ b. Tested d rows c.args.instance c.args.port.port c.args.comb (Ok b)) c.in-Ok-true.field-0-test c.in-Ok-true.ensures.tested in
    let rests : HasRested d rows (rows_of c.rest_comb.new.machine) c.args.instance (λ part. test_drives part c.args.comb) = subst (λ m. HasRested d (rows_of m) (rows_of c.rest_comb.new.machine) c.args.instance (λ part. test_drives part c.args.comb)) c.test.ensures.same c.rest_comb.ensures.rested in
    test_holds d c.args.instance c.args.leaf rows (rows_of c.rest_comb.new.machine) c.args.port c.args.comb (plain_statement c.args.body.now) (plain_statement c.args.body.now) c.open_loop.result told rests c.open_loop.ensures.opens

pub returns-in-Ok-false-clause-stepped : goal.returns-in-Ok-false-clause-stepped
returns-in-Ok-false-clause-stepped c =
    let d = design_of c.args.plan.now in
    let rows = rows_of c.args.machine.now in
    let told : Tested d rows c.args.instance c.args.port.port c.args.comb (Ok false) = subst (λ b. Tested d rows c.args.instance c.args.port.port c.args.comb (Ok b)) c.in-Ok-false.field-0-test c.in-Ok-false.ensures.tested in
    let rests : HasRested d rows (rows_of c.rest_comb-in-Ok-false.new.machine) c.args.instance (λ part. test_drives part c.args.comb) = subst (λ m. HasRested d (rows_of m) (rows_of c.rest_comb-in-Ok-false.new.machine) c.args.instance (λ part. test_drives part c.args.comb)) c.test.ensures.same c.rest_comb-in-Ok-false.ensures.rested in
    test_fails d c.args.instance c.args.leaf rows (rows_of c.rest_comb-in-Ok-false.new.machine) c.args.port c.args.comb (plain_statement c.args.body.now) (plain_statement c.args.body.now) told rests

pub returns-in-Ok-true-clause-ledger : goal.returns-in-Ok-true-clause-ledger
returns-in-Ok-true-clause-ledger c = c.open_loop.ensures.ledger

pub returns-in-Ok-false-clause-ledger : goal.returns-in-Ok-false-clause-ledger
returns-in-Ok-false-clause-ledger c = untouched c.args.spares.now (λ x. 0)
