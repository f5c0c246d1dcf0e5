use Rattle.std.proofs.Common.{Ok, ap, ◌∙◌, subst}
use Rattle.cx_meaning.specs.Instances.{tree_of}
use Rattle.cx_state.specs.ReadStates.{state_in}
use Rattle.cx_turns.specs.Machines.{design_of, rows_of}
use Rattle.cx_weave.specs.Ledger.{amount}
use Rattle.cx_weave.specs.Levels.{HasEnded, BelowStepped, BelowTurned}
use Rattle.cx_weave.specs.Strands.{plain_strand}
use Rattle.cx_weave.specs.Strides.{left_by}
use Rattle.cx_weave.specs.Supplied.{MayTurn}
use Rattle.cx_weave.proofs.LevelSteps.{ended_may, ended_then, turned_then}
use Rattle.cx_weave.proofs.PartSteps.{some_leaf}
use Rattle.cx_weave.proofs.levels.step_leaf.Goals as goal

pub returns-in-Ok-true-clause-stepped : goal.returns-in-Ok-true-clause-stepped
returns-in-Ok-true-clause-stepped c =
    subst (λ r. BelowStepped (design_of c.args.plan.now) (rows_of c.args.machine.now) (rows_of c.step_below.new.machine) c.args.instance (plain_strand c.args.strand.now) c.args.leaf r c.step_below.new.strand) (c.in-Ok-true.is ∙ ap (λ b. Ok b) c.in-Ok-true.field-0-test) c.step_below.ensures.stepped

pub returns-in-Ok-true-clause-ledger : goal.returns-in-Ok-true-clause-ledger
returns-in-Ok-true-clause-ledger c =
    subst (λ r. BelowTurned c.args.spares.now c.step_below.new.spares (λ x. amount x c.args.strand.now) r c.step_below.new.strand) (c.in-Ok-true.is ∙ ap (λ b. Ok b) c.in-Ok-true.field-0-test) c.step_below.ensures.ledger

pub returns-in-Err-clause-stepped : goal.returns-in-Err-clause-stepped
returns-in-Err-clause-stepped c =
    subst (λ r. BelowStepped (design_of c.args.plan.now) (rows_of c.args.machine.now) (rows_of c.step_below.new.machine) c.args.instance (plain_strand c.args.strand.now) c.args.leaf r c.step_below.new.strand) c.in-Err.is c.step_below.ensures.stepped

pub step-requires : goal.step-requires
step-requires c =
    let d = design_of c.args.plan.now in
    let ended : HasEnded d (rows_of c.args.machine.now) (rows_of c.step_below.new.machine) c.args.instance (plain_strand c.args.strand.now) c.args.leaf (plain_strand c.step_below.new.strand) =
    subst (λ r. BelowStepped d (rows_of c.args.machine.now) (rows_of c.step_below.new.machine) c.args.instance (plain_strand c.args.strand.now) c.args.leaf r c.step_below.new.strand) (c.in-Ok-false.is ∙ ap (λ b. Ok b) c.in-Ok-false.field-0-test) c.step_below.ensures.stepped in
    let stood = c.rows_stand.ensures d c.args.plan.now.table.rows.items c.args.plan.now.table.children.items (rows_of c.args.machine.now) c.requires.plan.table c.requires.machine.state in
    let may : MayTurn d c.args.instance c.step_below.new.spares (plain_strand c.step_below.new.strand) (λ x. amount x c.step_below.new.strand) =
    ended_may d (rows_of c.args.machine.now) (rows_of c.step_below.new.machine) c.args.instance c.args.leaf (plain_strand c.args.strand.now) (plain_strand c.step_below.new.strand) c.args.spares.now c.step_below.new.spares (λ x. amount x c.args.strand.now) (λ x. amount x c.step_below.new.strand) ended
    (state_in (tree_of d) (rows_of c.args.machine.now)) stood
    (subst (λ r. BelowTurned c.args.spares.now c.step_below.new.spares (λ x. amount x c.args.strand.now) r c.step_below.new.strand) (c.in-Ok-false.is ∙ ap (λ b. Ok b) c.in-Ok-false.field-0-test) c.step_below.ensures.ledger) c.requires.supplied in
    record {
      plan = c.requires.plan;
      machine = c.step_below.ensures.machine;
      instance = c.requires.instance;
      shown = (may.0, may.1);
      leaf = some_leaf d c.args.instance (plain_strand c.step_below.new.strand) may.0 may.1;
      supplied = may;
    }

pub returns-in-Ok-false-clause-stepped : goal.returns-in-Ok-false-clause-stepped
returns-in-Ok-false-clause-stepped c =
    let d = design_of c.args.plan.now in
    ended_then d (rows_of c.args.machine.now) (rows_of c.step_below.new.machine) (rows_of c.step.new.machine) c.args.instance c.args.leaf (plain_strand c.args.strand.now) (plain_strand c.step_below.new.strand) (left_by c.step.result c.step.new.strand)
    (subst (λ r. BelowStepped d (rows_of c.args.machine.now) (rows_of c.step_below.new.machine) c.args.instance (plain_strand c.args.strand.now) c.args.leaf r c.step_below.new.strand) (c.in-Ok-false.is ∙ ap (λ b. Ok b) c.in-Ok-false.field-0-test) c.step_below.ensures.stepped) c.step.ensures.stepped

pub returns-in-Ok-false-clause-ledger : goal.returns-in-Ok-false-clause-ledger
returns-in-Ok-false-clause-ledger c =
    turned_then c.args.spares.now c.step_below.new.spares c.step.new.spares (λ x. amount x c.args.strand.now) (λ x. amount x c.step_below.new.strand) (left_by c.step.result c.step.new.strand)
    (subst (λ r. BelowTurned c.args.spares.now c.step_below.new.spares (λ x. amount x c.args.strand.now) r c.step_below.new.strand) (c.in-Ok-false.is ∙ ap (λ b. Ok b) c.in-Ok-false.field-0-test) c.step_below.ensures.ledger) c.step.ensures.ledger
