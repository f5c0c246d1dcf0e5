use Rattle.std.proofs.Common.{sym, ◌∙◌, subst}
use Rattle.cx_meaning.specs.declared.ports.PortRef.TheVariants as ports
use Rattle.cx_design.specs.PlainDesigns.{plain_design}
use Rattle.cx_design.specs.declared.actives.Active.TheVariants as actives
use Rattle.cx_state.specs.States.{IsStateOf, plain_state}
use Rattle.cx_eval.specs.Evaluated.{CanAct, HasCycled, IsPort, IsSeenAlone}
use Rattle.cx_eval_cycle.specs.Passes.{listed_in}
use Rattle.cx_turns.specs.Machines.{design_of, rows_of}
use Rattle.cx_weave.specs.Strides.{TakesTurn}
use Rattle.cx_orders.specs.Leaves.{own_turn}
use Rattle.cx_weave.proofs.TurnsTaken.{group_alone, group_cycled}
use Rattle.cx_weave.proofs.turns.take_group.Goals as goal

pub group_turn-requires-clause-active : goal.group_turn-requires-clause-active
group_turn-requires-clause-active c = subst (λ e. CanAct (plain_design e) c.args.instance (actives.Group c.args.group)) (sym c.requires.machine.evaluator) c.requires.group

pub group_turn-requires-clause-port : goal.group_turn-requires-clause-port
group_turn-requires-clause-port c = subst (λ e. IsPort (plain_design e) c.args.instance (ports.Done c.args.group)) (sym c.requires.machine.evaluator) (λ path number. (c.requires.group path number, tt))

pub returns-in-Seen-clause-machine : goal.returns-in-Seen-clause-machine
returns-in-Seen-clause-machine c = record {
  evaluator = c.group_turn.ensures.same ∙ c.requires.machine.evaluator;
  state = subst (λ e. IsStateOf (plain_design e) (plain_state c.group_turn.new.state)) c.requires.machine.evaluator c.group_turn.ensures.fits;
  room = c.requires.machine.room;
}

pub returns-in-Cycled-clause-machine : goal.returns-in-Cycled-clause-machine
returns-in-Cycled-clause-machine c = record {
  evaluator = c.group_turn.ensures.same ∙ c.requires.machine.evaluator;
  state = subst (λ e. IsStateOf (plain_design e) (plain_state c.group_turn.new.state)) c.requires.machine.evaluator c.group_turn.ensures.fits;
  room = c.requires.machine.room;
}

pub returns-in-Seen-clause-taken : goal.returns-in-Seen-clause-taken
returns-in-Seen-clause-taken c =
    group_alone (design_of c.args.plan.now) c.args.instance c.args.group (rows_of c.args.machine.now) (plain_state c.group_turn.new.state) c.in-Seen.hole c.hole_turn.result
    (subst (λ e. IsSeenAlone (plain_design e) (rows_of c.args.machine.now) (plain_state c.group_turn.new.state) c.args.instance c.args.group c.in-Seen.hole) c.requires.machine.evaluator c.in-Seen.ensures.value) c.hole_turn.ensures

pub returns-in-Cycled-clause-taken : goal.returns-in-Cycled-clause-taken
returns-in-Cycled-clause-taken c =
    subst (λ t. TakesTurn (design_of c.args.plan.now) (rows_of c.args.machine.now) (plain_state c.group_turn.new.state) c.args.instance t (λ i held s. own_turn i held c.args.group s)) (sym c.cycle_turn.ensures)
    (group_cycled (design_of c.args.plan.now) c.args.instance c.args.group (rows_of c.args.machine.now) (plain_state c.group_turn.new.state) c.args.cells.now c.requires.listed c.in-Cycled.ended
    (subst (λ e. HasCycled (plain_design e) (rows_of c.args.machine.now) (plain_state c.group_turn.new.state) c.args.instance c.args.group (listed_in c.args.cells.now) c.in-Cycled.ended) c.requires.machine.evaluator c.in-Cycled.ensures.value))
