use Rattle.std.proofs.Common.{Ok, Err, sym, ◌∙◌, subst, arith}
use Rattle.cx_design.specs.PlainDesigns.{plain_design}
use Rattle.cx_design.specs.declared.actives.Active.TheVariants as actives
use Rattle.cx_state.specs.States.{IsStateOf, plain_state}
use Rattle.cx_eval.specs.Evaluated.{CanAct, Cycled}
use Rattle.cx_eval_cycle.specs.Passes.{IsAscending, listed_in}
use Rattle.cx_turns.specs.Groups.{group_driving}
use Rattle.cx_turns.specs.Machines.{design_of, rows_of}
use Rattle.cx_turns.proofs.GroupLemmas.{row_ascends}
use Rattle.cx_interp.specs.Callees.{capture_does}
use Rattle.cx_interp.specs.Pauses.{Paused}
use Rattle.cx_interp.proofs.CaptureLemmas.{capture_none, capture_goes, capture_stops}
use Rattle.cx_interp.proofs.captures.capture_turn.Goals as goal

pub returns-then-budget-eq0-clause-paused : goal.returns-then-budget-eq0-clause-paused
returns-then-budget-eq0-clause-paused c =
    capture_none (design_of c.args.plan.now) c.args.instance c.args.group c.args.cell c.args.row.now c.requires.row c.requires.callee (rows_of c.args.machine.now) c.args.budget c.if-budget-eq0.true c.requires.machine.state

pub cycle_of-requires-clause-active : goal.cycle_of-requires-clause-active
cycle_of-requires-clause-active c = subst (λ e. CanAct (plain_design e) c.args.instance (actives.CallEnd c.args.group)) (sym c.requires.machine.evaluator) c.requires.group

pub cycle_of-requires-clause-ascending : goal.cycle_of-requires-clause-ascending
cycle_of-requires-clause-ascending c =
    subst (λ xs. IsAscending xs) (sym c.as_slice-cells.ensures.value) (row_ascends (design_of c.args.plan.now) c.args.instance c.args.group c.args.row.now c.requires.instance c.requires.row)

pub returns-in-Ok-clause-machine : goal.returns-in-Ok-clause-machine
returns-in-Ok-clause-machine c = record {
  evaluator = c.cycle_of.ensures.same ∙ c.requires.machine.evaluator;
  state = subst (λ e. IsStateOf (plain_design e) (plain_state c.cycle_of.new.state)) c.requires.machine.evaluator c.cycle_of.ensures.fits;
  room = c.requires.machine.room;
}

pub returns-in-Ok-clause-paused : goal.returns-in-Ok-clause-paused
returns-in-Ok-clause-paused c =
    subst (λ a. Paused (design_of c.args.plan.now) (rows_of c.args.machine.now) (plain_state c.cycle_of.new.state) c.args.instance (group_driving c.args.group) (capture_does c.args.group c.args.cell) c.args.budget a) (sym c.two_turns.ensures)
    (capture_goes (design_of c.args.plan.now) c.args.instance c.args.group c.args.cell c.args.row.now c.requires.row c.requires.callee (rows_of c.args.machine.now) (plain_state c.cycle_of.new.state) c.args.budget (omega arith)
    (subst (λ e. IsStateOf (plain_design e) (plain_state c.cycle_of.new.state)) c.requires.machine.evaluator c.cycle_of.ensures.fits)
    (λ path held act listed s off settled. c.listed_cells_suffice.ensures (design_of c.args.plan.now) path held act listed s c.requires.plan.accepted off settled)
    (subst (λ xs. Cycled (design_of c.args.plan.now) (rows_of c.args.machine.now) (plain_state c.cycle_of.new.state) c.args.instance (actives.CallEnd c.args.group) (listed_in xs) (Ok tt)) c.as_slice-cells.ensures.value
    (subst (λ e. Cycled (plain_design e) (rows_of c.args.machine.now) (plain_state c.cycle_of.new.state) c.args.instance (actives.CallEnd c.args.group) (listed_in c.as_slice-cells.result.now) (Ok tt)) c.requires.machine.evaluator c.in-Ok.ensures.value)))

pub returns-clause-machine : goal.returns-clause-machine
returns-clause-machine c = record {
  evaluator = c.cycle_of.ensures.same ∙ c.requires.machine.evaluator;
  state = subst (λ e. IsStateOf (plain_design e) (plain_state c.cycle_of.new.state)) c.requires.machine.evaluator c.cycle_of.ensures.fits;
  room = c.requires.machine.room;
}

pub returns-clause-paused : goal.returns-clause-paused
returns-clause-paused c =
    capture_stops (design_of c.args.plan.now) c.args.instance c.args.group c.args.cell c.args.row.now c.requires.row c.requires.callee (rows_of c.args.machine.now) (plain_state c.cycle_of.new.state) c.args.budget (omega arith)
    (subst (λ e. IsStateOf (plain_design e) (plain_state c.cycle_of.new.state)) c.requires.machine.evaluator c.cycle_of.ensures.fits)
    (λ path held act listed s off settled. c.listed_cells_suffice.ensures (design_of c.args.plan.now) path held act listed s c.requires.plan.accepted off settled)
    c.in-Err.fault
    (subst (λ xs. Cycled (design_of c.args.plan.now) (rows_of c.args.machine.now) (plain_state c.cycle_of.new.state) c.args.instance (actives.CallEnd c.args.group) (listed_in xs) (Err c.in-Err.fault)) c.as_slice-cells.ensures.value
    (subst (λ e. Cycled (plain_design e) (rows_of c.args.machine.now) (plain_state c.cycle_of.new.state) c.args.instance (actives.CallEnd c.args.group) (listed_in c.as_slice-cells.result.now) (Err c.in-Err.fault)) c.requires.machine.evaluator c.in-Err.ensures.value))
