use Rattle.std.proofs.Common.{rules, ◌≡◌, ◌<◌, ◌+◌, ◌^◌, Ok, Err, Some, None, [], sym, ap, ◌∙◌, subst, arith}
use Rattle.std.proofs.Math.Nat.{mod-lt}
use Rattle.cx_meaning.specs.Instances.{instance_at, tree_of}
use Rattle.cx_state.specs.ReadStates.{state_in}
use Rattle.cx_turns.specs.Machines.{design_of, rows_of}
use Rattle.cx_design.specs.PlainForms.{plain_statement}
use Rattle.cx_turns.proofs.ChildLemmas.{control_stands}
use Rattle.cx_weave.specs.Strides.{HasStepped, left_by}
use Rattle.cx_orders.specs.Open.{open_statement}
use Rattle.cx_weave.specs.Strands.{IsShown, plain_strand, strand_leaves}
use Rattle.cx_weave.specs.declared.weaving.Wove.TheVariants.{End}
use Rattle.cx_weave.specs.Results.{EndsIn}
use Rattle.cx_orders.specs.Woven.{by_list, woven}
use Rattle.cx_weave.proofs.PartSteps.{counted_shown, some_leaf}
use Rattle.cx_weave.proofs.WeaveSteps.{WovenSoFar, left_shown, weave_ends, weave_faults, weave_goes, weave_more, weave_starts}
use Rattle.cx_weave.specs.Ledger.{Turned, amount}
use Rattle.cx_weave.proofs.WeaveSupplies.{left_may, main_asked, main_may}
use Rattle.cx_meaning.proofs.InstancesLemmas.{main_first, main_there}
use Rattle.cx_weave.proofs.weaving.weave_on.Goals as goal

pub control_of-control-requires-clause-instance : goal.control_of-control-requires-clause-instance
control_of-control-requires-clause-instance c = main_there (tree_of (design_of c.args.plan.now))

pub open_statement-strand-requires-clause-statement : goal.open_statement-strand-requires-clause-statement
open_statement-strand-requires-clause-statement c = control_stands (design_of c.args.plan.now) 0 (plain_statement c.control_of-control.result.now) c.control_of-control.ensures

pub open_statement-strand-requires-clause-supplied : goal.open_statement-strand-requires-clause-supplied
open_statement-strand-requires-clause-supplied c = main_asked (design_of c.args.plan.now) 0 c.args.spares.now (plain_statement c.control_of-control.result.now) c.control_of-control.ensures c.requires.supplied

pub loop-made-init : goal.loop-made-init
loop-made-init c =
    let d = design_of c.args.plan.now in (
      c.requires.machine,
      (open_statement (instance_at (tree_of d) []) (plain_statement c.control_of-control.result.now), c.open_statement-strand.ensures.opens [] (main_first (tree_of d))),
      c.requires.unheld 0,
      λ words stands. weave_starts d words (by_list c.args.list.now) c.args.steps (plain_statement c.control_of-control.result.now) c.open_statement-strand.result (rows_of c.args.machine.now) c.control_of-control.ensures c.open_statement-strand.ensures.opens stands,
      omega arith,
      main_may d 0 c.args.spares.now (plain_statement c.control_of-control.result.now) c.control_of-control.ensures c.requires.supplied c.open_statement-strand.new.spares c.open_statement-strand.result c.open_statement-strand.ensures.opens
          c.open_statement-strand.ensures.ledger,
    )

pub chosen_leaf-leaf-requires-clause-leaves : goal.chosen_leaf-leaf-requires-clause-leaves
chosen_leaf-leaf-requires-clause-leaves c =
    let shown : IsShown (design_of c.args.plan.now) 0 (plain_strand c.loop-made.strand) = c.loop-made.invariant.1 in
    some_leaf (design_of c.args.plan.now) 0 (plain_strand c.loop-made.strand) shown.0 shown.1

pub chosen_leaf-leaf-requires-clause-counted : goal.chosen_leaf-leaf-requires-clause-counted
chosen_leaf-leaf-requires-clause-counted c =
    let shown : IsShown (design_of c.args.plan.now) 0 (plain_strand c.loop-made.strand) = c.loop-made.invariant.1 in
    counted_shown (design_of c.args.plan.now) 0 (plain_strand c.loop-made.strand) shown.0 shown.1

pub step_leaf-requires-clause-instance : goal.step_leaf-requires-clause-instance
step_leaf-requires-clause-instance c = main_there (tree_of (design_of c.args.plan.now))

pub step_leaf-requires-clause-leaf : goal.step_leaf-requires-clause-leaf
step_leaf-requires-clause-leaf c =
    let shown : IsShown (design_of c.args.plan.now) 0 (plain_strand c.loop-made.strand) = c.loop-made.invariant.1 in
    let some : 0 < strand_leaves (plain_strand c.loop-made.strand) = some_leaf (design_of c.args.plan.now) 0 (plain_strand c.loop-made.strand) shown.0 shown.1 in
    subst (λ k. k < strand_leaves (plain_strand c.loop-made.strand)) (sym c.chosen_leaf-leaf.ensures) (mod-lt (by_list c.args.list.now c.loop-made.made) some)

pub returns-in-Ok-false-clause-woven : goal.returns-in-Ok-false-clause-woven
returns-in-Ok-false-clause-woven c = λ words stands.
    let d = design_of c.args.plan.now in
    let x = woven d words (by_list c.args.list.now) c.args.steps in
    let turn : HasStepped d (rows_of c.loop-made.machine) (rows_of c.step_leaf.new.machine) 0 (plain_strand c.loop-made.strand) c.chosen_leaf-leaf.result (Ok None) =
    subst (λ r. HasStepped d (rows_of c.loop-made.machine) (rows_of c.step_leaf.new.machine) 0 (plain_strand c.loop-made.strand) c.chosen_leaf-leaf.result (left_by r c.step_leaf.new.strand)) (c.in-Ok-false.is ∙ ap (λ b. Ok b) c.in-Ok-false.field-0-test) c.step_leaf.ensures.stepped in
    let same : c.chosen_leaf-leaf.result ≡ c.from.result = (let e = c.from.ensures in first_of (cc, search (rules, e))) in
    subst (λ m. EndsIn d (rows_of c.step_leaf.new.machine) (End (c.loop-made.made + 1) (c.loop-made.sum + m)) x) same
    (weave_ends d words (by_list c.args.list.now) c.args.steps c.loop-made.made c.loop-made.sum c.chosen_leaf-leaf.result (plain_strand c.loop-made.strand) (rows_of c.loop-made.machine) c.loop-made-test.true c.chosen_leaf-leaf.ensures c.loop-made.invariant.2
    (c.loop-made.invariant.3 words stands) (rows_of c.step_leaf.new.machine) turn)

pub step_leaf-requires-clause-supplied : goal.step_leaf-requires-clause-supplied
step_leaf-requires-clause-supplied c = c.loop-made.invariant.5

pub returns-in-Err-clause-woven : goal.returns-in-Err-clause-woven
returns-in-Err-clause-woven c = λ words stands.
    let d = design_of c.args.plan.now in
    let turn : HasStepped d (rows_of c.loop-made.machine) (rows_of c.step_leaf.new.machine) 0 (plain_strand c.loop-made.strand) c.chosen_leaf-leaf.result (Err c.in-Err.fault) =
    subst (λ r. HasStepped d (rows_of c.loop-made.machine) (rows_of c.step_leaf.new.machine) 0 (plain_strand c.loop-made.strand) c.chosen_leaf-leaf.result (left_by r c.step_leaf.new.strand)) c.in-Err.is c.step_leaf.ensures.stepped in
    weave_faults d words (by_list c.args.list.now) c.args.steps c.loop-made.made c.loop-made.sum c.chosen_leaf-leaf.result (plain_strand c.loop-made.strand) (rows_of c.loop-made.machine) c.loop-made-test.true c.chosen_leaf-leaf.ensures c.loop-made.invariant.2
    (c.loop-made.invariant.3 words stands) (rows_of c.step_leaf.new.machine) c.in-Err.fault turn

pub loop-made-preserved : goal.loop-made-preserved
loop-made-preserved c =
    let d = design_of c.args.plan.now in
    let turn : HasStepped d (rows_of c.loop-made.machine) (rows_of c.step_leaf.new.machine) 0 (plain_strand c.loop-made.strand) c.chosen_leaf-leaf.result (Ok (Some c.step_leaf.new.strand)) =
    subst (λ r. HasStepped d (rows_of c.loop-made.machine) (rows_of c.step_leaf.new.machine) 0 (plain_strand c.loop-made.strand) c.chosen_leaf-leaf.result (left_by r c.step_leaf.new.strand)) (c.in-Ok-true.is ∙ ap (λ b. Ok b) c.in-Ok-true.field-0-test) c.step_leaf.ensures.stepped in
    let bound = c.loop-made.invariant.4 in
    let small : c.chosen_leaf-leaf.result < 2 ^ 32 = (let r = c.chosen_leaf-leaf.type_inv in first_of (omega (arith, r), search (rules, r))) in
    let same : c.chosen_leaf-leaf.result ≡ c.from-sum.result = (let e = c.from-sum.ensures in first_of (cc, search (rules, e))) in
    let stood = c.rows_stand.ensures d c.args.plan.now.table.rows.items c.args.plan.now.table.children.items (rows_of c.loop-made.machine) c.requires.plan.table c.loop-made.invariant.0.state in (
      c.step_leaf.ensures.machine,
      left_shown d (rows_of c.loop-made.machine) (rows_of c.step_leaf.new.machine) 0 c.chosen_leaf-leaf.result (plain_strand c.loop-made.strand) c.step_leaf.new.strand turn [] (state_in (tree_of d) (rows_of c.loop-made.machine)) (main_first (tree_of d)) stood c.loop-made.invariant.1,
      λ input. c.step_leaf.ensures.stepped.held 0 input (omega arith) ∙ c.loop-made.invariant.2 input,
      λ words stands.
          subst (λ m. WovenSoFar d words (by_list c.args.list.now) c.args.steps (c.loop-made.made + 1) (c.loop-made.sum + m) (plain_strand c.step_leaf.new.strand) (rows_of c.step_leaf.new.machine)) same
          (weave_goes d words (by_list c.args.list.now) c.args.steps c.loop-made.made c.loop-made.sum c.chosen_leaf-leaf.result (plain_strand c.loop-made.strand) (rows_of c.loop-made.machine) c.loop-made-test.true c.chosen_leaf-leaf.ensures c.loop-made.invariant.2
          (c.loop-made.invariant.3 words stands) (rows_of c.step_leaf.new.machine) c.step_leaf.new.strand turn),
      omega (arith, bound, small, same),
      left_may d (rows_of c.loop-made.machine) (rows_of c.step_leaf.new.machine) 0 c.chosen_leaf-leaf.result (plain_strand c.loop-made.strand) c.step_leaf.new.strand c.loop-made.spares c.step_leaf.new.spares (λ x. amount x c.loop-made.strand) turn (state_in (tree_of d) (rows_of c.loop-made.machine)) stood
          (subst (λ r. Turned c.loop-made.spares c.step_leaf.new.spares (λ x. amount x c.loop-made.strand) (left_by r c.step_leaf.new.strand)) (c.in-Ok-true.is ∙ ap (λ b. Ok b) c.in-Ok-true.field-0-test) c.step_leaf.ensures.ledger) c.loop-made.invariant.5,
    )

pub returns-clause-woven : goal.returns-clause-woven
returns-clause-woven c = λ words stands.
    let past = c.loop-made-test.false in
    weave_more (design_of c.args.plan.now) words (by_list c.args.list.now) c.args.steps c.loop-made.made c.loop-made.sum (plain_strand c.loop-made.strand) (rows_of c.loop-made.machine) (omega (arith, past)) (c.loop-made.invariant.3 words stands)
