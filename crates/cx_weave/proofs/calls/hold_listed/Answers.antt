use Rattle.std.proofs.Common.{◌≡◌, ◌+◌, ◌<◌, [], get_or, length, sym, ◌∙◌, subst, arith}
use Rattle.cx_meaning.specs.Instances.{Path, paths_of, tree_of}
use Rattle.cx_state.specs.Tables.{IsNumber}
use Rattle.cx_state.specs.States.{instance_state, IsStateOf}
use Rattle.cx_turns.specs.Machines.{design_of, rows_of}
use Rattle.cx_meaning.specs.declared.sights.Seen.TheVariants.{Undefined}
use Rattle.cx_turns.proofs.HoldLemmas.{own_path, child_there, held_fits}
use Rattle.cx_orders.specs.Steps.{held_as}
use Rattle.cx_weave.proofs.HeldSteps.{HoldsSoFar, held_goes, held_ends, width_fits, input_there}
use Rattle.cx_text.proofs.ListLaws.{get_same}
use Rattle.cx_weave.proofs.calls.hold_listed.Goals as goal

pub hold-requires-clause-instance : goal.hold-requires-clause-instance
hold-requires-clause-instance c =
    let d = design_of c.args.plan.now in
    let own : Path = get_or (paths_of (tree_of d)) c.args.instance [] in
    let at : IsNumber d c.args.instance own = own_path d c.args.instance c.requires.instance in
    child_there d c.args.instance c.args.cell c.args.child own at c.requires.child (rows_of c.loop-input.machine) c.loop-input.invariant.0.state

pub hold-requires-clause-input : goal.hold-requires-clause-input
hold-requires-clause-input c =
    let d = design_of c.args.plan.now in
    let own : Path = get_or (paths_of (tree_of d)) c.args.instance [] in
    let at : IsNumber d c.args.instance own = own_path d c.args.instance c.requires.instance in
    let less : c.loop-input.input < length c.args.inputs.now = omega (arith, c.loop-input-test.true, c.loop-input.auto.input-end) in
    input_there d (rows_of c.args.machine.now) c.args.child c.args.inputs.now c.args.instance c.args.cell c.loop-input.input c.requires.child own at c.requires.inputs (rows_of c.loop-input.machine) c.loop-input.invariant.0.state less

pub loop-input-preserved : goal.loop-input-preserved
loop-input-preserved c =
    let d = design_of c.args.plan.now in
    let rows = rows_of c.loop-input.machine in
    let own : Path = get_or (paths_of (tree_of d)) c.args.instance [] in
    let at : IsNumber d c.args.instance own = own_path d c.args.instance c.requires.instance in
    let less : c.loop-input.input < length c.args.inputs.now = omega (arith, c.loop-input-test.true, c.loop-input.auto.input-end) in
    let there : c.args.child < length rows = child_there d c.args.instance c.args.cell c.args.child own at c.requires.child rows c.loop-input.invariant.0.state in
    let inside : c.loop-input.input < length (instance_state rows c.args.child).held = input_there d (rows_of c.args.machine.now) c.args.child c.args.inputs.now c.args.instance c.args.cell c.loop-input.input c.requires.child own at c.requires.inputs rows c.loop-input.invariant.0.state less in
    let is : c.index-inputs-input.result ≡ held_as c.args.inputs.now c.loop-input.input = c.index-inputs-input.is ∙ get_same c.args.inputs.now c.loop-input.input c.index-inputs-input.result Undefined less in (
      record {
        evaluator = c.loop-input.invariant.0.evaluator;
        state =
            subst (IsStateOf d) (sym c.hold.ensures.value)
            (held_fits rows c.args.child c.loop-input.input c.index-inputs-input.result d c.loop-input.invariant.0.state there inside
            (width_fits d (rows_of c.args.machine.now) c.args.child c.args.inputs.now c.args.instance c.args.cell c.loop-input.input c.index-inputs-input.result c.requires.child own at c.requires.inputs less is));
        room = c.loop-input.invariant.0.room;
      },
      subst (λ new. HoldsSoFar d (rows_of c.args.machine.now) new c.args.child c.args.inputs.now (c.loop-input.input + 1)) (sym c.hold.ensures.value)
          (held_goes d (rows_of c.args.machine.now) c.args.child c.args.inputs.now rows c.loop-input.input c.index-inputs-input.result there inside is c.loop-input.invariant.1),
    )

pub returns-clause-held : goal.returns-clause-held
returns-clause-held c =
    let d = design_of c.args.plan.now in
    let own : Path = get_or (paths_of (tree_of d)) c.args.instance [] in
    let at : IsNumber d c.args.instance own = own_path d c.args.instance c.requires.instance in
    held_ends d (rows_of c.args.machine.now) c.args.child c.args.inputs.now (rows_of c.loop-input.machine) c.args.instance c.args.cell c.loop-input.input c.requires.child own at c.requires.inputs c.loop-input.invariant.0.state
    (omega (arith, c.loop-input-test.false, c.loop-input.auto.input-end)) c.loop-input.invariant.1
