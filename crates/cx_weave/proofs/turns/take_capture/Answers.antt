use Rattle.std.proofs.Common.{sym, ◌∙◌, subst}
use Rattle.cx_design.specs.PlainDesigns.{plain_design}
use Rattle.cx_design.specs.declared.actives.Active.TheVariants as actives
use Rattle.cx_state.specs.States.{IsStateOf, plain_state}
use Rattle.cx_eval.specs.Evaluated.{CanAct, Cycled}
use Rattle.cx_eval_cycle.specs.Passes.{listed_in}
use Rattle.cx_turns.specs.Machines.{design_of, rows_of}
use Rattle.cx_weave.proofs.TurnsTaken.{capture_cycled}
use Rattle.cx_weave.proofs.turns.take_capture.Goals as goal

pub cycle_of-requires-clause-active : goal.cycle_of-requires-clause-active
cycle_of-requires-clause-active c = subst (λ e. CanAct (plain_design e) c.args.instance (actives.CallEnd c.args.group)) (sym c.requires.machine.evaluator) c.requires.group

pub returns-clause-machine : goal.returns-clause-machine
returns-clause-machine c = record {
  evaluator = c.cycle_of.ensures.same ∙ c.requires.machine.evaluator;
  state = subst (λ e. IsStateOf (plain_design e) (plain_state c.cycle_of.new.state)) c.requires.machine.evaluator c.cycle_of.ensures.fits;
  room = c.requires.machine.room;
}

pub returns-clause-taken : goal.returns-clause-taken
returns-clause-taken c =
    capture_cycled (design_of c.args.plan.now) c.args.instance c.args.group c.args.cell (rows_of c.args.machine.now) (plain_state c.cycle_of.new.state) c.args.cells.now c.requires.calls c.requires.listed c.cycle_of.result
    (subst (λ e. Cycled (plain_design e) (rows_of c.args.machine.now) (plain_state c.cycle_of.new.state) c.args.instance (actives.CallEnd c.args.group) (listed_in c.args.cells.now) c.cycle_of.result) c.requires.machine.evaluator c.cycle_of.ensures.value)
