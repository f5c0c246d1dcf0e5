use Rattle.std.proofs.Common.{[], ◌∷◌, ◌++◌, Some, get_or, length, sym, subst}
use Rattle.std.specs.Prelude.{vec_capacity}
use Rattle.cx_meaning.specs.Instances.{Path, paths_of, tree_of}
use Rattle.cx_state.specs.States.{instance_state}
use Rattle.cx_state.specs.Tables.{IsNumber}
use Rattle.cx_turns.specs.Machines.{design_of, rows_of}
use Rattle.cx_turns.proofs.HoldLemmas.{own_path, child_there}
use Rattle.cx_weave.specs.Calls.{HoldsAs}
use Rattle.cx_weave.specs.Ledger.{inputs_amount}
use Rattle.cx_weave.specs.Strands.{seen_items}
use Rattle.cx_weave.proofs.HeldSteps.{first_held}
use Rattle.cx_weave.proofs.IslandSupplies.{inputs_fit, inputs_kept, inputs_left, inputs_seen_first}
use Rattle.cx_weave.proofs.calls.hold_call.Goals as goal

pub held_inputs-requires : goal.held_inputs-requires
held_inputs-requires c =
    let d = design_of c.args.plan.now in
    let own : Path = get_or (paths_of (tree_of d)) c.args.instance [] in
    let at : IsNumber d c.args.instance own = own_path d c.args.instance c.requires.instance in
    let number : IsNumber d c.args.child (own ++ c.args.cell ∷ []) = c.requires.child own at in
    let fit = c.hold_inputs.ensures.machine.state.fits c.args.child (own ++ c.args.cell ∷ []) number in
    record {
      instance = child_there d c.args.instance c.args.cell c.args.child own at c.requires.child (rows_of c.hold_inputs.new.machine) c.hold_inputs.ensures.machine.state;
      some = inputs_left d c.args.instance c.args.spares.now c.args.inputs c.in-None.is c.requires.supplied;
      room =
          inputs_fit d c.args.instance c.args.spares.now c.args.inputs c.in-None.is c.requires.supplied c.args.child (own ++ c.args.cell ∷ []) (length (instance_state (rows_of c.hold_inputs.new.machine) c.args.child).held) number
          fit.inputs;
    }

pub returns-in-None-clause-held : goal.returns-in-None-clause-held
returns-in-None-clause-held c =
    let d = design_of c.args.plan.now in
    subst (λ before. HoldsAs d (rows_of c.args.machine.now) (rows_of c.hold_inputs.new.machine) c.args.instance c.args.group c.args.cell c.args.child (seen_items (λ v. v.items) before) c.held_inputs.result.items) (sym c.in-None.is)
    (first_held d (rows_of c.args.machine.now) (rows_of c.hold_inputs.new.machine) c.args.instance c.args.group c.args.cell c.args.child c.requires.part c.requires.child c.hold_inputs.ensures.machine.state c.hold_inputs.ensures.held c.held_inputs.result.items c.held_inputs.ensures.held)

pub returns-in-None-clause-ledger : goal.returns-in-None-clause-ledger
returns-in-None-clause-ledger c =
    inputs_seen_first c.args.spares.now c.held_inputs.new.spares c.args.inputs (λ x. inputs_amount (λ v. vec_capacity v) x (Some c.held_inputs.result)) c.in-None.is c.held_inputs.ensures.ledger

pub returns-in-Some-clause-ledger : goal.returns-in-Some-clause-ledger
returns-in-Some-clause-ledger c = inputs_kept c.args.spares.now c.args.inputs c.in-Some.inputs c.in-Some.is
