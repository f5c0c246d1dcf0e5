use Rattle.std.proofs.Common.{rules, ◌≡◌, ◌+◌, ◌-◌, ◌≤◌, ◌<◌, Ok, Err, Some, None, length, refl, sym, ap, ◌∙◌, subst, arith}
use Rattle.std.specs.Box.{with_value}
use Rattle.std.specs.Prelude.{vec_capacity}
use Rattle.std.proofs.lemmas.Result.{err_from_is_err_and}
use Rattle.cx_design.specs.PlainForms.{plain_form, plain_statement, plain_statements}
use Rattle.cx_design_sizes.specs.Capped.{capped}
use Rattle.cx_turns.specs.Children.{IsPart}
use Rattle.cx_turns.specs.Machines.{design_of, rows_of, StandIn, StandsIn}
use Rattle.cx_turns.proofs.ChildLemmas.{child_instance}
use Rattle.cx_weave.specs.declared.strands.Strand.{Strand}
use Rattle.cx_weave.specs.declared.strands.Arms.{Arms}
use Rattle.cx_weave.specs.declared.strands.Strand.TheVariants as strands
use Rattle.cx_weave.specs.declared.strands.Arms.TheVariants as parts
use Rattle.cx_weave.specs.Strands.{AGroup, AChoice, ATest, AnIsland, ACapture, AClosing, ASeq, APar, ALoop, ARepeat, ACall, HasNoPart, IsShown, body_of, later_of, plain_strand, seen_items, strand_leaves, arms_leaves, plain_arms, AreCounted, AreShown, one_arm, both_arms, test_of}
use Rattle.cx_weave.specs.Strides.{HasStepped, HaveStepped, kept_if, left_by, some_left}
use Rattle.cx_weave.specs.Supplied.{MayTurn, MayTurnAll, Supplied}
use Rattle.cx_weave.specs.Takes.{box_takes, need, needs}
use Rattle.cx_weave.specs.Ledger.{ArmsTurned, Kind, Ledger, Turned, amount, arms_amount, arms_box_amount, arms_left_amount, box_amount, inputs_amount, island_amount, left_amount}
use Rattle.cx_weave.proofs.Amounts.{amount_both, amount_call, amount_capture, amount_choice, amount_closing, amount_group, amount_idling, amount_island, amount_loop, amount_one, amount_par, amount_repeat, amount_seq, amount_test, amount_waiting}
use Rattle.cx_weave.proofs.PartLedgers.{same_amounts, told_before}
use Rattle.cx_weave.proofs.Supplies.{all_may_as, all_turn_placed, arm_turns, back_placed, back_turns, call_placed, child_turns, choice_turns, front_placed, front_turns, hold_supplied, loop_goes_on, loop_turns, may_as, par_placed, par_turns, repeat_goes_on, repeat_turns, seq_goes_on, seq_turns, supplied_as, test_turns, turn_placed}
use Rattle.cx_weave.proofs.TurnLedgers.{all_turned_before, arm_kept, call_turned, kept_turned, leaf_kept, leaf_turned, part_turned, turned_before}
use Rattle.cx_weave.proofs.CallSteps.{call_goes, call_stops, call_part, child_shown}
use Rattle.cx_weave.proofs.LeafSteps.{idling_ends, waiting_stays}
use Rattle.cx_weave.proofs.PartSteps.{seq_on, seq_off, loop_on, loop_off, repeat_on, repeat_off, par_on, par_off, arms_of_par, one_arm_shown, first_shown, other_shown, first_counted, arm_turned, front_goes, front_stops, back_goes, back_stops, part_shown_seq, part_shown_loop, part_shown_repeat}
use Rattle.cx_weave.proofs.StrandFolds.{is_idling, is_waiting, is_group, is_choice, is_test, is_island, is_capture, is_closing, is_seq, is_par, is_loop, is_repeat, is_call, is_one, is_both, no_arm}
use Rattle.cx_weave.proofs.StrandSizes.{size_of, sizes_of}
use Rattle.cx_weave.proofs.stepping.+step.Goals as goal

pub step_out-returns-in-Idling-clause-stepped : goal.step_out-returns-in-Idling-clause-stepped
step_out-returns-in-Idling-clause-stepped t c =
    subst (λ p. HasStepped (design_of c.args.plan.now) (rows_of c.args.machine.now) (rows_of c.args.machine.now) c.args.instance p c.args.leaf (Ok None)) (sym (ap plain_strand c.in-Idling.is ∙ is_idling))
    (idling_ends (design_of c.args.plan.now) c.args.instance c.args.leaf (rows_of c.args.machine.now))

pub step_out-returns-in-Waiting-clause-stepped : goal.step_out-returns-in-Waiting-clause-stepped
step_out-returns-in-Waiting-clause-stepped t c =
    subst (λ p. HasStepped (design_of c.args.plan.now) (rows_of c.args.machine.now) (rows_of c.args.machine.now) c.args.instance p c.args.leaf (Ok (Some strands.Waiting))) (sym (ap plain_strand c.in-Waiting.is ∙ is_waiting))
    (waiting_stays (design_of c.args.plan.now) c.args.instance c.args.leaf (rows_of c.args.machine.now) strands.Waiting is_waiting)

pub step_out-step_choice-requires-clause-stands : goal.step_out-step_choice-requires-clause-stands
step_out-step_choice-requires-clause-stands t c =
    let whole : plain_strand c.args.strand ≡ AChoice c.in-Choosing.port c.in-Choosing.comb (plain_statement c.in-Choosing.first.now) (plain_statement c.in-Choosing.second.now) = ap plain_strand c.in-Choosing.is ∙ is_choice c.in-Choosing.port c.in-Choosing.comb c.in-Choosing.first c.in-Choosing.second in
    let shown : IsShown (design_of c.args.plan.now) c.args.instance (AChoice c.in-Choosing.port c.in-Choosing.comb (plain_statement c.in-Choosing.first.now) (plain_statement c.in-Choosing.second.now)) = subst (IsShown (design_of c.args.plan.now) c.args.instance) whole c.requires.shown in
    shown.1.1

pub step_out-returns-in-Choosing-clause-stepped : goal.step_out-returns-in-Choosing-clause-stepped
step_out-returns-in-Choosing-clause-stepped t c =
    let whole : plain_strand c.args.strand ≡ AChoice c.in-Choosing.port c.in-Choosing.comb (plain_statement c.in-Choosing.first.now) (plain_statement c.in-Choosing.second.now) = ap plain_strand c.in-Choosing.is ∙ is_choice c.in-Choosing.port c.in-Choosing.comb c.in-Choosing.first c.in-Choosing.second in
    subst (λ p. HasStepped (design_of c.args.plan.now) (rows_of c.args.machine.now) (rows_of c.step_choice.new.machine) c.args.instance p c.args.leaf c.step_choice.result) (sym whole) c.step_choice.ensures.stepped

pub step_out-step_test-requires-clause-stands : goal.step_out-step_test-requires-clause-stands
step_out-step_test-requires-clause-stands t c =
    let whole : plain_strand c.args.strand ≡ ATest c.in-Testing.port c.in-Testing.comb (plain_statement c.in-Testing.body.now) = ap plain_strand c.in-Testing.is ∙ is_test c.in-Testing.port c.in-Testing.comb c.in-Testing.body in
    let shown : IsShown (design_of c.args.plan.now) c.args.instance (ATest c.in-Testing.port c.in-Testing.comb (plain_statement c.in-Testing.body.now)) = subst (IsShown (design_of c.args.plan.now) c.args.instance) whole c.requires.shown in
    shown.1.1

pub step_out-returns-in-Testing-clause-stepped : goal.step_out-returns-in-Testing-clause-stepped
step_out-returns-in-Testing-clause-stepped t c =
    let whole : plain_strand c.args.strand ≡ ATest c.in-Testing.port c.in-Testing.comb (plain_statement c.in-Testing.body.now) = ap plain_strand c.in-Testing.is ∙ is_test c.in-Testing.port c.in-Testing.comb c.in-Testing.body in
    subst (λ p. HasStepped (design_of c.args.plan.now) (rows_of c.args.machine.now) (rows_of c.step_test.new.machine) c.args.instance p c.args.leaf c.step_test.result) (sym whole) c.step_test.ensures.stepped

pub step_out-step_island-requires-clause-shown : goal.step_out-step_island-requires-clause-shown
step_out-step_island-requires-clause-shown t c =
    let whole : plain_strand c.args.strand ≡ AnIsland (plain_form c.in-InIsland.island.form.now) c.in-InIsland.island.cycle c.in-InIsland.island.left c.in-InIsland.island.samples.items c.in-InIsland.island.cells.items = ap plain_strand c.in-InIsland.is ∙ is_island c.in-InIsland.island in
    let shown : IsShown (design_of c.args.plan.now) c.args.instance (AnIsland (plain_form c.in-InIsland.island.form.now) c.in-InIsland.island.cycle c.in-InIsland.island.left c.in-InIsland.island.samples.items c.in-InIsland.island.cells.items) = subst (IsShown (design_of c.args.plan.now) c.args.instance) whole c.requires.shown in
    shown

pub step_out-returns-in-InIsland-clause-stepped : goal.step_out-returns-in-InIsland-clause-stepped
step_out-returns-in-InIsland-clause-stepped t c =
    let whole : plain_strand c.args.strand ≡ AnIsland (plain_form c.in-InIsland.island.form.now) c.in-InIsland.island.cycle c.in-InIsland.island.left c.in-InIsland.island.samples.items c.in-InIsland.island.cells.items = ap plain_strand c.in-InIsland.is ∙ is_island c.in-InIsland.island in
    subst (λ p. HasStepped (design_of c.args.plan.now) (rows_of c.args.machine.now) (rows_of c.step_island.new.machine) c.args.instance p c.args.leaf c.step_island.result) (sym whole) c.step_island.ensures.stepped

pub step_out-step_capture-requires-clause-group : goal.step_out-step_capture-requires-clause-group
step_out-step_capture-requires-clause-group t c =
    let whole : plain_strand c.args.strand ≡ ACapture c.in-Capturing.group c.in-Capturing.cell = ap plain_strand c.in-Capturing.is ∙ is_capture c.in-Capturing.group c.in-Capturing.cell in
    let shown : IsShown (design_of c.args.plan.now) c.args.instance (ACapture c.in-Capturing.group c.in-Capturing.cell) = subst (IsShown (design_of c.args.plan.now) c.args.instance) whole c.requires.shown in
    shown.1.1

pub step_out-step_capture-requires-clause-calls : goal.step_out-step_capture-requires-clause-calls
step_out-step_capture-requires-clause-calls t c =
    let whole : plain_strand c.args.strand ≡ ACapture c.in-Capturing.group c.in-Capturing.cell = ap plain_strand c.in-Capturing.is ∙ is_capture c.in-Capturing.group c.in-Capturing.cell in
    let shown : IsShown (design_of c.args.plan.now) c.args.instance (ACapture c.in-Capturing.group c.in-Capturing.cell) = subst (IsShown (design_of c.args.plan.now) c.args.instance) whole c.requires.shown in
    shown.1.2

pub step_out-returns-in-Capturing-clause-stepped : goal.step_out-returns-in-Capturing-clause-stepped
step_out-returns-in-Capturing-clause-stepped t c =
    let whole : plain_strand c.args.strand ≡ ACapture c.in-Capturing.group c.in-Capturing.cell = ap plain_strand c.in-Capturing.is ∙ is_capture c.in-Capturing.group c.in-Capturing.cell in
    subst (λ p. HasStepped (design_of c.args.plan.now) (rows_of c.args.machine.now) (rows_of c.step_capture.new.machine) c.args.instance p c.args.leaf c.step_capture.result) (sym whole) c.step_capture.ensures.stepped

pub step_out-step_closing-requires-clause-group : goal.step_out-step_closing-requires-clause-group
step_out-step_closing-requires-clause-group t c =
    let whole : plain_strand c.args.strand ≡ AClosing c.in-Closing.group = ap plain_strand c.in-Closing.is ∙ is_closing c.in-Closing.group in
    let shown : IsShown (design_of c.args.plan.now) c.args.instance (AClosing c.in-Closing.group) = subst (IsShown (design_of c.args.plan.now) c.args.instance) whole c.requires.shown in
    shown.1.1

pub step_out-returns-in-Closing-clause-stepped : goal.step_out-returns-in-Closing-clause-stepped
step_out-returns-in-Closing-clause-stepped t c =
    let whole : plain_strand c.args.strand ≡ AClosing c.in-Closing.group = ap plain_strand c.in-Closing.is ∙ is_closing c.in-Closing.group in
    subst (λ p. HasStepped (design_of c.args.plan.now) (rows_of c.args.machine.now) (rows_of c.step_closing.new.machine) c.args.instance p c.args.leaf c.step_closing.result) (sym whole) c.step_closing.ensures.stepped

pub step_out-returns-in-Idling-clause-ledger : goal.step_out-returns-in-Idling-clause-ledger
step_out-returns-in-Idling-clause-ledger t c =
    let none : (x : Kind) → amount x c.args.strand ≡ 0 = λ x. ap (amount x) c.in-Idling.is ∙ amount_idling x in
    same_amounts c.args.spares.now (λ x. amount x c.args.strand) (λ x. 0) none

pub step_out-returns-in-Waiting-clause-ledger : goal.step_out-returns-in-Waiting-clause-ledger
step_out-returns-in-Waiting-clause-ledger t c =
    let none : (x : Kind) → amount x c.args.strand ≡ 0 = λ x. ap (amount x) c.in-Waiting.is ∙ amount_waiting x in
    same_amounts c.args.spares.now (λ x. amount x c.args.strand) (λ x. left_amount x (Some strands.Waiting)) (λ x. none x ∙ sym (amount_waiting x))

pub step_out-returns-in-Capturing-clause-ledger : goal.step_out-returns-in-Capturing-clause-ledger
step_out-returns-in-Capturing-clause-ledger t c =
    let none : (x : Kind) → amount x c.args.strand ≡ 0 = λ x. ap (amount x) c.in-Capturing.is ∙ amount_capture x c.in-Capturing.group c.in-Capturing.cell in
    leaf_turned c.args.spares.now (λ x. amount x c.args.strand) c.step_capture.result none c.step_capture.ensures.ledger

pub step_out-returns-in-Closing-clause-ledger : goal.step_out-returns-in-Closing-clause-ledger
step_out-returns-in-Closing-clause-ledger t c =
    let none : (x : Kind) → amount x c.args.strand ≡ 0 = λ x. ap (amount x) c.in-Closing.is ∙ amount_closing x c.in-Closing.group in
    leaf_turned c.args.spares.now (λ x. amount x c.args.strand) c.step_closing.result none c.step_closing.ensures.ledger

pub step_out-returns-in-Choosing-clause-ledger : goal.step_out-returns-in-Choosing-clause-ledger
step_out-returns-in-Choosing-clause-ledger t c =
    let none : (x : Kind) → amount x c.args.strand ≡ 0 = λ x. ap (amount x) c.in-Choosing.is ∙ amount_choice x c.in-Choosing.port c.in-Choosing.comb c.in-Choosing.first c.in-Choosing.second in
    turned_before c.args.spares.now c.step_choice.new.spares (λ x. amount x c.args.strand) (λ x. 0) c.step_choice.result none c.step_choice.ensures.ledger

pub step_out-returns-in-Testing-clause-ledger : goal.step_out-returns-in-Testing-clause-ledger
step_out-returns-in-Testing-clause-ledger t c =
    let none : (x : Kind) → amount x c.args.strand ≡ 0 = λ x. ap (amount x) c.in-Testing.is ∙ amount_test x c.in-Testing.port c.in-Testing.comb c.in-Testing.body in
    turned_before c.args.spares.now c.step_test.new.spares (λ x. amount x c.args.strand) (λ x. 0) c.step_test.result none c.step_test.ensures.ledger

pub step_out-step_choice-requires-clause-supplied : goal.step_out-step_choice-requires-clause-supplied
step_out-step_choice-requires-clause-supplied t c =
    let none : (x : Kind) → amount x c.args.strand ≡ 0 = λ x. ap (amount x) c.in-Choosing.is ∙ amount_choice x c.in-Choosing.port c.in-Choosing.comb c.in-Choosing.first c.in-Choosing.second in
    let whole : plain_strand c.args.strand ≡ AChoice c.in-Choosing.port c.in-Choosing.comb (plain_statement c.in-Choosing.first.now) (plain_statement c.in-Choosing.second.now) = ap plain_strand c.in-Choosing.is ∙ is_choice c.in-Choosing.port c.in-Choosing.comb c.in-Choosing.first c.in-Choosing.second in
    choice_turns (design_of c.args.plan.now) c.args.instance c.args.spares.now c.in-Choosing.port c.in-Choosing.comb (plain_statement c.in-Choosing.first.now) (plain_statement c.in-Choosing.second.now) (λ x. amount x c.args.strand) none
    (may_as (design_of c.args.plan.now) c.args.instance c.args.spares.now (plain_strand c.args.strand) (AChoice c.in-Choosing.port c.in-Choosing.comb (plain_statement c.in-Choosing.first.now) (plain_statement c.in-Choosing.second.now)) (λ x. amount x c.args.strand) (λ x. amount x c.args.strand) whole (λ x. refl) c.requires.supplied)

pub step_out-step_test-requires-clause-supplied : goal.step_out-step_test-requires-clause-supplied
step_out-step_test-requires-clause-supplied t c =
    let none : (x : Kind) → amount x c.args.strand ≡ 0 = λ x. ap (amount x) c.in-Testing.is ∙ amount_test x c.in-Testing.port c.in-Testing.comb c.in-Testing.body in
    let whole : plain_strand c.args.strand ≡ ATest c.in-Testing.port c.in-Testing.comb (plain_statement c.in-Testing.body.now) = ap plain_strand c.in-Testing.is ∙ is_test c.in-Testing.port c.in-Testing.comb c.in-Testing.body in
    test_turns (design_of c.args.plan.now) c.args.instance c.args.spares.now c.in-Testing.port c.in-Testing.comb (plain_statement c.in-Testing.body.now) (λ x. amount x c.args.strand) none
    (may_as (design_of c.args.plan.now) c.args.instance c.args.spares.now (plain_strand c.args.strand) (ATest c.in-Testing.port c.in-Testing.comb (plain_statement c.in-Testing.body.now)) (λ x. amount x c.args.strand) (λ x. amount x c.args.strand) whole (λ x. refl) c.requires.supplied)

pub step_out-step_island-requires-clause-places : goal.step_out-step_island-requires-clause-places
step_out-step_island-requires-clause-places t c =
    let own : (x : Kind) → amount x c.args.strand ≡ island_amount x (vec_capacity c.in-InIsland.island.cells) (length c.in-InIsland.island.samples.items) = λ x. ap (amount x) c.in-InIsland.is ∙ amount_island x c.in-InIsland.island in
    turn_placed (design_of c.args.plan.now) c.args.instance c.args.spares.now (plain_strand c.args.strand) (λ x. amount x c.args.strand) (λ x. island_amount x (vec_capacity c.in-InIsland.island.cells) (length c.in-InIsland.island.samples.items)) own c.requires.supplied

pub step_out-returns-in-InIsland-clause-ledger : goal.step_out-returns-in-InIsland-clause-ledger
step_out-returns-in-InIsland-clause-ledger t c =
    let own : (x : Kind) → amount x c.args.strand ≡ island_amount x (vec_capacity c.in-InIsland.island.cells) (length c.in-InIsland.island.samples.items) = λ x. ap (amount x) c.in-InIsland.is ∙ amount_island x c.in-InIsland.island in
    turned_before c.args.spares.now c.step_island.new.spares (λ x. amount x c.args.strand) (λ x. island_amount x (vec_capacity c.in-InIsland.island.cells) (length c.in-InIsland.island.samples.items)) c.step_island.result own c.step_island.ensures.ledger

pub step-step-requires : goal.step-step-requires
step-step-requires t c =
    let d = design_of c.args.plan.now in
    let whole : plain_strand c.args.strand.now ≡ ASeq (plain_strand c.deref_mut.result.now) (plain_statements c.in-InSeq.later.now) = ap plain_strand c.in-InSeq.is ∙ is_seq c.in-InSeq.first c.in-InSeq.later ∙ ap (λ (x : Strand). ASeq (plain_strand x) (plain_statements c.in-InSeq.later.now)) (sym c.deref_mut.ensures.value) in
    let had : (x : Kind) → amount x c.args.strand.now ≡ box_amount x + amount x c.deref_mut.result.now = λ x. ap (amount x) c.in-InSeq.is ∙ amount_seq x c.in-InSeq.first c.in-InSeq.later ∙ ap (λ (s : Strand). box_amount x + amount x s) (sym c.deref_mut.ensures.value) in
    let falls : size_of (plain_strand c.args.strand.now) ≡ 1 + size_of (plain_strand c.deref_mut.result.now) = ap size_of whole in
    let leaves : strand_leaves (plain_strand c.args.strand.now) ≡ strand_leaves (plain_strand c.deref_mut.result.now) = ap strand_leaves whole in
    let less = c.requires.leaf in (
      omega (arith, c.decreases, falls),
      (
        c.requires.plan,
        (
          c.requires.machine,
          (
            c.requires.instance,
            (
              part_shown_seq d c.args.instance (plain_strand c.deref_mut.result.now) (plain_statements c.in-InSeq.later.now) (subst (IsShown d c.args.instance) whole c.requires.shown),
              (omega (arith, less, leaves), seq_turns d c.args.instance c.args.spares.now (plain_strand c.deref_mut.result.now) (λ x. amount x c.deref_mut.result.now) (plain_statements c.in-InSeq.later.now) (may_as d c.args.instance c.args.spares.now (plain_strand c.args.strand.now) (ASeq (plain_strand c.deref_mut.result.now) (plain_statements c.in-InSeq.later.now)) (λ x. amount x c.args.strand.now) (λ x. box_amount x + amount x c.deref_mut.result.now) whole had c.requires.supplied)),
            ),
          ),
        ),
      ),
    )

pub step-returns-in-Ok-true-clause-stepped : goal.step-returns-in-Ok-true-clause-stepped
step-returns-in-Ok-true-clause-stepped t c =
    let d = design_of c.args.plan.now in
    let whole : plain_strand c.args.strand.now ≡ ASeq (plain_strand c.deref_mut.result.now) (plain_statements c.in-InSeq.later.now) = ap plain_strand c.in-InSeq.is ∙ is_seq c.in-InSeq.first c.in-InSeq.later ∙ ap (λ (x : Strand). ASeq (plain_strand x) (plain_statements c.in-InSeq.later.now)) (sym c.deref_mut.ensures.value) in
    let kept : Strand = strands.InSeq (with_value c.in-InSeq.first c.step.new.strand) c.in-InSeq.later in
    seq_on d (rows_of c.args.machine.now) (rows_of c.step.new.machine) c.args.instance c.args.leaf (plain_strand c.deref_mut.result.now) (plain_statements c.in-InSeq.later.now) (plain_strand c.args.strand.now) c.step.new.strand kept whole (is_seq (with_value c.in-InSeq.first c.step.new.strand) c.in-InSeq.later) (subst (IsShown d c.args.instance) whole c.requires.shown).1.3
    (subst (λ r. HasStepped d (rows_of c.args.machine.now) (rows_of c.step.new.machine) c.args.instance (plain_strand c.deref_mut.result.now) c.args.leaf (left_by r c.step.new.strand)) (c.in-Ok-true.is ∙ ap (λ b. Ok b) c.in-Ok-true.field-0-test) c.step.ensures.stepped)

pub step-returns-in-Ok-true-clause-ledger : goal.step-returns-in-Ok-true-clause-ledger
step-returns-in-Ok-true-clause-ledger t c =
    let had : (x : Kind) → amount x c.args.strand.now ≡ box_amount x + amount x c.deref_mut.result.now = λ x. ap (amount x) c.in-InSeq.is ∙ amount_seq x c.in-InSeq.first c.in-InSeq.later ∙ ap (λ (s : Strand). box_amount x + amount x s) (sym c.deref_mut.ensures.value) in
    let kept : Strand = strands.InSeq (with_value c.in-InSeq.first c.step.new.strand) c.in-InSeq.later in
    kept_turned c.args.spares.now c.step.new.spares (λ x. amount x c.deref_mut.result.now) (λ x. amount x c.step.new.strand) box_amount (λ x. amount x c.args.strand.now) (λ x. amount x kept) had (λ x. amount_seq x (with_value c.in-InSeq.first c.step.new.strand) c.in-InSeq.later)
    (subst (λ r. Turned c.args.spares.now c.step.new.spares (λ x. amount x c.deref_mut.result.now) (left_by r c.step.new.strand)) (c.in-Ok-true.is ∙ ap (λ b. Ok b) c.in-Ok-true.field-0-test) c.step.ensures.ledger)

pub step-seq_ended-requires : goal.step-seq_ended-requires
step-seq_ended-requires t c =
    let d = design_of c.args.plan.now in
    let whole : plain_strand c.args.strand.now ≡ ASeq (plain_strand c.deref_mut.result.now) (plain_statements c.in-InSeq.later.now) = ap plain_strand c.in-InSeq.is ∙ is_seq c.in-InSeq.first c.in-InSeq.later ∙ ap (λ (x : Strand). ASeq (plain_strand x) (plain_statements c.in-InSeq.later.now)) (sym c.deref_mut.ensures.value) in
    let had : (x : Kind) → amount x c.args.strand.now ≡ box_amount x + amount x c.deref_mut.result.now = λ x. ap (amount x) c.in-InSeq.is ∙ amount_seq x c.in-InSeq.first c.in-InSeq.later ∙ ap (λ (s : Strand). box_amount x + amount x s) (sym c.deref_mut.ensures.value) in
    record {
      plan = c.requires.plan;
      instance = c.requires.instance;
      seq = ((with_value c.in-InSeq.first c.step.new.strand), c.in-InSeq.later, refl);
      later = subst (StandIn d c.args.instance) (sym (ap later_of (is_seq (with_value c.in-InSeq.first c.step.new.strand) c.in-InSeq.later))) (subst (IsShown d c.args.instance) whole c.requires.shown).1.3;
      supplied = subst (λ l. Supplied d c.args.instance c.step.new.spares (λ k i. box_takes k + needs k i l) box_amount) (sym (ap later_of (is_seq (with_value c.in-InSeq.first c.step.new.strand) c.in-InSeq.later)))
          (supplied_as d c.args.instance c.step.new.spares (λ k i. box_takes k + needs k i (plain_statements c.in-InSeq.later.now)) (λ x. box_amount x + 0) box_amount (λ x. omega arith) (seq_goes_on d c.args.instance c.args.spares.now (plain_strand c.deref_mut.result.now) (λ x. amount x c.deref_mut.result.now) c.step.new.spares (λ x. 0) (subst (λ r. Turned c.args.spares.now c.step.new.spares (λ x. amount x c.deref_mut.result.now) (left_by r c.step.new.strand)) (c.in-Ok-false.is ∙ ap (λ b. Ok b) c.in-Ok-false.field-0-test) c.step.ensures.ledger) (plain_statements c.in-InSeq.later.now) (may_as d c.args.instance c.args.spares.now (plain_strand c.args.strand.now) (ASeq (plain_strand c.deref_mut.result.now) (plain_statements c.in-InSeq.later.now)) (λ x. amount x c.args.strand.now) (λ x. box_amount x + amount x c.deref_mut.result.now) whole had c.requires.supplied)));
    }

pub step-returns-in-Ok-false-clause-stepped : goal.step-returns-in-Ok-false-clause-stepped
step-returns-in-Ok-false-clause-stepped t c =
    let d = design_of c.args.plan.now in
    let whole : plain_strand c.args.strand.now ≡ ASeq (plain_strand c.deref_mut.result.now) (plain_statements c.in-InSeq.later.now) = ap plain_strand c.in-InSeq.is ∙ is_seq c.in-InSeq.first c.in-InSeq.later ∙ ap (λ (x : Strand). ASeq (plain_strand x) (plain_statements c.in-InSeq.later.now)) (sym c.deref_mut.ensures.value) in
    let kept : Strand = strands.InSeq (with_value c.in-InSeq.first c.step.new.strand) c.in-InSeq.later in
    seq_off d (rows_of c.args.machine.now) (rows_of c.step.new.machine) c.args.instance c.args.leaf (plain_strand c.deref_mut.result.now) (plain_statements c.in-InSeq.later.now) (plain_strand c.args.strand.now) (plain_strand kept) (kept_if c.seq_ended.result c.seq_ended.new.strand) whole (ap later_of (is_seq (with_value c.in-InSeq.first c.step.new.strand) c.in-InSeq.later)) c.seq_ended.ensures.leaves
    (subst (λ r. HasStepped d (rows_of c.args.machine.now) (rows_of c.step.new.machine) c.args.instance (plain_strand c.deref_mut.result.now) c.args.leaf (left_by r c.step.new.strand)) (c.in-Ok-false.is ∙ ap (λ b. Ok b) c.in-Ok-false.field-0-test) c.step.ensures.stepped)

pub step-step-requires-in-InLoop : goal.step-step-requires-in-InLoop
step-step-requires-in-InLoop t c =
    let d = design_of c.args.plan.now in
    let whole : plain_strand c.args.strand.now ≡ ALoop (plain_strand c.deref_mut-in-InLoop.result.now) c.in-InLoop.port c.in-InLoop.comb (plain_statement c.in-InLoop.body.now) = ap plain_strand c.in-InLoop.is ∙ is_loop c.in-InLoop.run' c.in-InLoop.port c.in-InLoop.comb c.in-InLoop.body ∙ ap (λ (x : Strand). ALoop (plain_strand x) c.in-InLoop.port c.in-InLoop.comb (plain_statement c.in-InLoop.body.now)) (sym c.deref_mut-in-InLoop.ensures.value) in
    let had : (x : Kind) → amount x c.args.strand.now ≡ box_amount x + amount x c.deref_mut-in-InLoop.result.now = λ x. ap (amount x) c.in-InLoop.is ∙ amount_loop x c.in-InLoop.run' c.in-InLoop.port c.in-InLoop.comb c.in-InLoop.body ∙ ap (λ (s : Strand). box_amount x + amount x s) (sym c.deref_mut-in-InLoop.ensures.value) in
    let falls : size_of (plain_strand c.args.strand.now) ≡ 1 + size_of (plain_strand c.deref_mut-in-InLoop.result.now) = ap size_of whole in
    let leaves : strand_leaves (plain_strand c.args.strand.now) ≡ strand_leaves (plain_strand c.deref_mut-in-InLoop.result.now) = ap strand_leaves whole in
    let less = c.requires.leaf in (
      omega (arith, c.decreases, falls),
      (
        c.requires.plan,
        (
          c.requires.machine,
          (
            c.requires.instance,
            (
              part_shown_loop d c.args.instance (plain_strand c.deref_mut-in-InLoop.result.now) c.in-InLoop.port c.in-InLoop.comb (plain_statement c.in-InLoop.body.now) (subst (IsShown d c.args.instance) whole c.requires.shown),
              (omega (arith, less, leaves), loop_turns d c.args.instance c.args.spares.now (plain_strand c.deref_mut-in-InLoop.result.now) (λ x. amount x c.deref_mut-in-InLoop.result.now) c.in-InLoop.port c.in-InLoop.comb (plain_statement c.in-InLoop.body.now) (may_as d c.args.instance c.args.spares.now (plain_strand c.args.strand.now) (ALoop (plain_strand c.deref_mut-in-InLoop.result.now) c.in-InLoop.port c.in-InLoop.comb (plain_statement c.in-InLoop.body.now)) (λ x. amount x c.args.strand.now) (λ x. box_amount x + amount x c.deref_mut-in-InLoop.result.now) whole had c.requires.supplied)),
            ),
          ),
        ),
      ),
    )

pub step-returns-in-Ok-true-step-clause-stepped : goal.step-returns-in-Ok-true-step-clause-stepped
step-returns-in-Ok-true-step-clause-stepped t c =
    let d = design_of c.args.plan.now in
    let whole : plain_strand c.args.strand.now ≡ ALoop (plain_strand c.deref_mut-in-InLoop.result.now) c.in-InLoop.port c.in-InLoop.comb (plain_statement c.in-InLoop.body.now) = ap plain_strand c.in-InLoop.is ∙ is_loop c.in-InLoop.run' c.in-InLoop.port c.in-InLoop.comb c.in-InLoop.body ∙ ap (λ (x : Strand). ALoop (plain_strand x) c.in-InLoop.port c.in-InLoop.comb (plain_statement c.in-InLoop.body.now)) (sym c.deref_mut-in-InLoop.ensures.value) in
    let kept : Strand = strands.InLoop (with_value c.in-InLoop.run' c.step-in-InLoop.new.strand) c.in-InLoop.port c.in-InLoop.comb c.in-InLoop.body in
    loop_on d (rows_of c.args.machine.now) (rows_of c.step-in-InLoop.new.machine) c.args.instance c.args.leaf (plain_strand c.deref_mut-in-InLoop.result.now) c.in-InLoop.port c.in-InLoop.comb (plain_statement c.in-InLoop.body.now) (plain_strand c.args.strand.now) c.step-in-InLoop.new.strand kept whole (is_loop (with_value c.in-InLoop.run' c.step-in-InLoop.new.strand) c.in-InLoop.port c.in-InLoop.comb c.in-InLoop.body) (subst (IsShown d c.args.instance) whole c.requires.shown).1.3
    (subst (λ r. HasStepped d (rows_of c.args.machine.now) (rows_of c.step-in-InLoop.new.machine) c.args.instance (plain_strand c.deref_mut-in-InLoop.result.now) c.args.leaf (left_by r c.step-in-InLoop.new.strand)) (c.in-Ok-true-step.is ∙ ap (λ b. Ok b) c.in-Ok-true-step.field-0-test) c.step-in-InLoop.ensures.stepped)

pub step-returns-in-Ok-true-step-clause-ledger : goal.step-returns-in-Ok-true-step-clause-ledger
step-returns-in-Ok-true-step-clause-ledger t c =
    let had : (x : Kind) → amount x c.args.strand.now ≡ box_amount x + amount x c.deref_mut-in-InLoop.result.now = λ x. ap (amount x) c.in-InLoop.is ∙ amount_loop x c.in-InLoop.run' c.in-InLoop.port c.in-InLoop.comb c.in-InLoop.body ∙ ap (λ (s : Strand). box_amount x + amount x s) (sym c.deref_mut-in-InLoop.ensures.value) in
    let kept : Strand = strands.InLoop (with_value c.in-InLoop.run' c.step-in-InLoop.new.strand) c.in-InLoop.port c.in-InLoop.comb c.in-InLoop.body in
    kept_turned c.args.spares.now c.step-in-InLoop.new.spares (λ x. amount x c.deref_mut-in-InLoop.result.now) (λ x. amount x c.step-in-InLoop.new.strand) box_amount (λ x. amount x c.args.strand.now) (λ x. amount x kept) had (λ x. amount_loop x (with_value c.in-InLoop.run' c.step-in-InLoop.new.strand) c.in-InLoop.port c.in-InLoop.comb c.in-InLoop.body)
    (subst (λ r. Turned c.args.spares.now c.step-in-InLoop.new.spares (λ x. amount x c.deref_mut-in-InLoop.result.now) (left_by r c.step-in-InLoop.new.strand)) (c.in-Ok-true-step.is ∙ ap (λ b. Ok b) c.in-Ok-true-step.field-0-test) c.step-in-InLoop.ensures.ledger)

pub step-loop_ended-requires : goal.step-loop_ended-requires
step-loop_ended-requires t c =
    let d = design_of c.args.plan.now in
    let whole : plain_strand c.args.strand.now ≡ ALoop (plain_strand c.deref_mut-in-InLoop.result.now) c.in-InLoop.port c.in-InLoop.comb (plain_statement c.in-InLoop.body.now) = ap plain_strand c.in-InLoop.is ∙ is_loop c.in-InLoop.run' c.in-InLoop.port c.in-InLoop.comb c.in-InLoop.body ∙ ap (λ (x : Strand). ALoop (plain_strand x) c.in-InLoop.port c.in-InLoop.comb (plain_statement c.in-InLoop.body.now)) (sym c.deref_mut-in-InLoop.ensures.value) in
    let had : (x : Kind) → amount x c.args.strand.now ≡ box_amount x + amount x c.deref_mut-in-InLoop.result.now = λ x. ap (amount x) c.in-InLoop.is ∙ amount_loop x c.in-InLoop.run' c.in-InLoop.port c.in-InLoop.comb c.in-InLoop.body ∙ ap (λ (s : Strand). box_amount x + amount x s) (sym c.deref_mut-in-InLoop.ensures.value) in
    record {
      loops = ((with_value c.in-InLoop.run' c.step-in-InLoop.new.strand), c.in-InLoop.port, c.in-InLoop.comb, c.in-InLoop.body, refl);
      places = λ k. (let h = (loop_goes_on d c.args.instance c.args.spares.now (plain_strand c.deref_mut-in-InLoop.result.now) (λ x. amount x c.deref_mut-in-InLoop.result.now) c.step-in-InLoop.new.spares (λ x. 0) (subst (λ r. Turned c.args.spares.now c.step-in-InLoop.new.spares (λ x. amount x c.deref_mut-in-InLoop.result.now) (left_by r c.step-in-InLoop.new.strand)) (c.in-Ok-false-step.is ∙ ap (λ b. Ok b) c.in-Ok-false-step.field-0-test) c.step-in-InLoop.ensures.ledger) c.in-InLoop.port c.in-InLoop.comb (plain_statement c.in-InLoop.body.now) (may_as d c.args.instance c.args.spares.now (plain_strand c.args.strand.now) (ALoop (plain_strand c.deref_mut-in-InLoop.result.now) c.in-InLoop.port c.in-InLoop.comb (plain_statement c.in-InLoop.body.now)) (λ x. amount x c.args.strand.now) (λ x. box_amount x + amount x c.deref_mut-in-InLoop.result.now) whole had c.requires.supplied)) k in omega (arith, h));
    }

pub step-returns-in-Ok-false-step-clause-stepped : goal.step-returns-in-Ok-false-step-clause-stepped
step-returns-in-Ok-false-step-clause-stepped t c =
    let d = design_of c.args.plan.now in
    let whole : plain_strand c.args.strand.now ≡ ALoop (plain_strand c.deref_mut-in-InLoop.result.now) c.in-InLoop.port c.in-InLoop.comb (plain_statement c.in-InLoop.body.now) = ap plain_strand c.in-InLoop.is ∙ is_loop c.in-InLoop.run' c.in-InLoop.port c.in-InLoop.comb c.in-InLoop.body ∙ ap (λ (x : Strand). ALoop (plain_strand x) c.in-InLoop.port c.in-InLoop.comb (plain_statement c.in-InLoop.body.now)) (sym c.deref_mut-in-InLoop.ensures.value) in
    let kept : Strand = strands.InLoop (with_value c.in-InLoop.run' c.step-in-InLoop.new.strand) c.in-InLoop.port c.in-InLoop.comb c.in-InLoop.body in
    loop_off d (rows_of c.args.machine.now) (rows_of c.step-in-InLoop.new.machine) c.args.instance c.args.leaf (plain_strand c.deref_mut-in-InLoop.result.now) c.in-InLoop.port c.in-InLoop.comb (plain_statement c.in-InLoop.body.now) (plain_strand c.args.strand.now) c.loop_ended.new.strand whole (c.loop_ended.ensures.tests ∙ ap test_of (is_loop (with_value c.in-InLoop.run' c.step-in-InLoop.new.strand) c.in-InLoop.port c.in-InLoop.comb c.in-InLoop.body)) (subst (IsShown d c.args.instance) whole c.requires.shown).1.3
    (subst (λ r. HasStepped d (rows_of c.args.machine.now) (rows_of c.step-in-InLoop.new.machine) c.args.instance (plain_strand c.deref_mut-in-InLoop.result.now) c.args.leaf (left_by r c.step-in-InLoop.new.strand)) (c.in-Ok-false-step.is ∙ ap (λ b. Ok b) c.in-Ok-false-step.field-0-test) c.step-in-InLoop.ensures.stepped)

pub step-step-requires-in-InRepeat : goal.step-step-requires-in-InRepeat
step-step-requires-in-InRepeat t c =
    let d = design_of c.args.plan.now in
    let whole : plain_strand c.args.strand.now ≡ ARepeat (plain_strand c.deref_mut-in-InRepeat.result.now) c.in-InRepeat.left (plain_statement c.in-InRepeat.body.now) = ap plain_strand c.in-InRepeat.is ∙ is_repeat c.in-InRepeat.run' c.in-InRepeat.left c.in-InRepeat.body ∙ ap (λ (x : Strand). ARepeat (plain_strand x) c.in-InRepeat.left (plain_statement c.in-InRepeat.body.now)) (sym c.deref_mut-in-InRepeat.ensures.value) in
    let had : (x : Kind) → amount x c.args.strand.now ≡ box_amount x + amount x c.deref_mut-in-InRepeat.result.now = λ x. ap (amount x) c.in-InRepeat.is ∙ amount_repeat x c.in-InRepeat.run' c.in-InRepeat.left c.in-InRepeat.body ∙ ap (λ (s : Strand). box_amount x + amount x s) (sym c.deref_mut-in-InRepeat.ensures.value) in
    let falls : size_of (plain_strand c.args.strand.now) ≡ 1 + size_of (plain_strand c.deref_mut-in-InRepeat.result.now) = ap size_of whole in
    let leaves : strand_leaves (plain_strand c.args.strand.now) ≡ strand_leaves (plain_strand c.deref_mut-in-InRepeat.result.now) = ap strand_leaves whole in
    let less = c.requires.leaf in (
      omega (arith, c.decreases, falls),
      (
        c.requires.plan,
        (
          c.requires.machine,
          (
            c.requires.instance,
            (
              part_shown_repeat d c.args.instance (plain_strand c.deref_mut-in-InRepeat.result.now) c.in-InRepeat.left (plain_statement c.in-InRepeat.body.now) (subst (IsShown d c.args.instance) whole c.requires.shown),
              (omega (arith, less, leaves), repeat_turns d c.args.instance c.args.spares.now (plain_strand c.deref_mut-in-InRepeat.result.now) (λ x. amount x c.deref_mut-in-InRepeat.result.now) c.in-InRepeat.left (plain_statement c.in-InRepeat.body.now) (may_as d c.args.instance c.args.spares.now (plain_strand c.args.strand.now) (ARepeat (plain_strand c.deref_mut-in-InRepeat.result.now) c.in-InRepeat.left (plain_statement c.in-InRepeat.body.now)) (λ x. amount x c.args.strand.now) (λ x. box_amount x + amount x c.deref_mut-in-InRepeat.result.now) whole had c.requires.supplied)),
            ),
          ),
        ),
      ),
    )

pub step-returns-in-Ok-true-step-2-clause-stepped : goal.step-returns-in-Ok-true-step-2-clause-stepped
step-returns-in-Ok-true-step-2-clause-stepped t c =
    let d = design_of c.args.plan.now in
    let whole : plain_strand c.args.strand.now ≡ ARepeat (plain_strand c.deref_mut-in-InRepeat.result.now) c.in-InRepeat.left (plain_statement c.in-InRepeat.body.now) = ap plain_strand c.in-InRepeat.is ∙ is_repeat c.in-InRepeat.run' c.in-InRepeat.left c.in-InRepeat.body ∙ ap (λ (x : Strand). ARepeat (plain_strand x) c.in-InRepeat.left (plain_statement c.in-InRepeat.body.now)) (sym c.deref_mut-in-InRepeat.ensures.value) in
    let kept : Strand = strands.InRepeat (with_value c.in-InRepeat.run' c.step-in-InRepeat.new.strand) c.in-InRepeat.left c.in-InRepeat.body in
    repeat_on d (rows_of c.args.machine.now) (rows_of c.step-in-InRepeat.new.machine) c.args.instance c.args.leaf (plain_strand c.deref_mut-in-InRepeat.result.now) c.in-InRepeat.left (plain_statement c.in-InRepeat.body.now) (plain_strand c.args.strand.now) c.step-in-InRepeat.new.strand kept whole (is_repeat (with_value c.in-InRepeat.run' c.step-in-InRepeat.new.strand) c.in-InRepeat.left c.in-InRepeat.body) (subst (IsShown d c.args.instance) whole c.requires.shown).1.3
    (subst (λ r. HasStepped d (rows_of c.args.machine.now) (rows_of c.step-in-InRepeat.new.machine) c.args.instance (plain_strand c.deref_mut-in-InRepeat.result.now) c.args.leaf (left_by r c.step-in-InRepeat.new.strand)) (c.in-Ok-true-step-2.is ∙ ap (λ b. Ok b) c.in-Ok-true-step-2.field-0-test) c.step-in-InRepeat.ensures.stepped)

pub step-returns-in-Ok-true-step-2-clause-ledger : goal.step-returns-in-Ok-true-step-2-clause-ledger
step-returns-in-Ok-true-step-2-clause-ledger t c =
    let had : (x : Kind) → amount x c.args.strand.now ≡ box_amount x + amount x c.deref_mut-in-InRepeat.result.now = λ x. ap (amount x) c.in-InRepeat.is ∙ amount_repeat x c.in-InRepeat.run' c.in-InRepeat.left c.in-InRepeat.body ∙ ap (λ (s : Strand). box_amount x + amount x s) (sym c.deref_mut-in-InRepeat.ensures.value) in
    let kept : Strand = strands.InRepeat (with_value c.in-InRepeat.run' c.step-in-InRepeat.new.strand) c.in-InRepeat.left c.in-InRepeat.body in
    kept_turned c.args.spares.now c.step-in-InRepeat.new.spares (λ x. amount x c.deref_mut-in-InRepeat.result.now) (λ x. amount x c.step-in-InRepeat.new.strand) box_amount (λ x. amount x c.args.strand.now) (λ x. amount x kept) had (λ x. amount_repeat x (with_value c.in-InRepeat.run' c.step-in-InRepeat.new.strand) c.in-InRepeat.left c.in-InRepeat.body)
    (subst (λ r. Turned c.args.spares.now c.step-in-InRepeat.new.spares (λ x. amount x c.deref_mut-in-InRepeat.result.now) (left_by r c.step-in-InRepeat.new.strand)) (c.in-Ok-true-step-2.is ∙ ap (λ b. Ok b) c.in-Ok-true-step-2.field-0-test) c.step-in-InRepeat.ensures.ledger)

pub step-repeat_ended-requires : goal.step-repeat_ended-requires
step-repeat_ended-requires t c =
    let d = design_of c.args.plan.now in
    let whole : plain_strand c.args.strand.now ≡ ARepeat (plain_strand c.deref_mut-in-InRepeat.result.now) c.in-InRepeat.left (plain_statement c.in-InRepeat.body.now) = ap plain_strand c.in-InRepeat.is ∙ is_repeat c.in-InRepeat.run' c.in-InRepeat.left c.in-InRepeat.body ∙ ap (λ (x : Strand). ARepeat (plain_strand x) c.in-InRepeat.left (plain_statement c.in-InRepeat.body.now)) (sym c.deref_mut-in-InRepeat.ensures.value) in
    let had : (x : Kind) → amount x c.args.strand.now ≡ box_amount x + amount x c.deref_mut-in-InRepeat.result.now = λ x. ap (amount x) c.in-InRepeat.is ∙ amount_repeat x c.in-InRepeat.run' c.in-InRepeat.left c.in-InRepeat.body ∙ ap (λ (s : Strand). box_amount x + amount x s) (sym c.deref_mut-in-InRepeat.ensures.value) in
    record {
      plan = c.requires.plan;
      instance = c.requires.instance;
      repeats = ((with_value c.in-InRepeat.run' c.step-in-InRepeat.new.strand), c.in-InRepeat.left, c.in-InRepeat.body, refl);
      body = subst (StandsIn d c.args.instance) (sym (ap body_of (is_repeat (with_value c.in-InRepeat.run' c.step-in-InRepeat.new.strand) c.in-InRepeat.left c.in-InRepeat.body))) (subst (IsShown d c.args.instance) whole c.requires.shown).1.3;
      supplied = subst (λ b. Supplied d c.args.instance c.step-in-InRepeat.new.spares (λ k i. box_takes k + need k i b) box_amount) (sym (ap body_of (is_repeat (with_value c.in-InRepeat.run' c.step-in-InRepeat.new.strand) c.in-InRepeat.left c.in-InRepeat.body)))
          (supplied_as d c.args.instance c.step-in-InRepeat.new.spares (λ k i. box_takes k + need k i (plain_statement c.in-InRepeat.body.now)) (λ x. box_amount x + 0) box_amount (λ x. omega arith) (repeat_goes_on d c.args.instance c.args.spares.now (plain_strand c.deref_mut-in-InRepeat.result.now) (λ x. amount x c.deref_mut-in-InRepeat.result.now) c.step-in-InRepeat.new.spares (λ x. 0) (subst (λ r. Turned c.args.spares.now c.step-in-InRepeat.new.spares (λ x. amount x c.deref_mut-in-InRepeat.result.now) (left_by r c.step-in-InRepeat.new.strand)) (c.in-Ok-false-step-2.is ∙ ap (λ b. Ok b) c.in-Ok-false-step-2.field-0-test) c.step-in-InRepeat.ensures.ledger) c.in-InRepeat.left (plain_statement c.in-InRepeat.body.now) (may_as d c.args.instance c.args.spares.now (plain_strand c.args.strand.now) (ARepeat (plain_strand c.deref_mut-in-InRepeat.result.now) c.in-InRepeat.left (plain_statement c.in-InRepeat.body.now)) (λ x. amount x c.args.strand.now) (λ x. box_amount x + amount x c.deref_mut-in-InRepeat.result.now) whole had c.requires.supplied)));
    }

pub step-returns-in-Ok-false-step-2-clause-stepped : goal.step-returns-in-Ok-false-step-2-clause-stepped
step-returns-in-Ok-false-step-2-clause-stepped t c =
    let d = design_of c.args.plan.now in
    let whole : plain_strand c.args.strand.now ≡ ARepeat (plain_strand c.deref_mut-in-InRepeat.result.now) c.in-InRepeat.left (plain_statement c.in-InRepeat.body.now) = ap plain_strand c.in-InRepeat.is ∙ is_repeat c.in-InRepeat.run' c.in-InRepeat.left c.in-InRepeat.body ∙ ap (λ (x : Strand). ARepeat (plain_strand x) c.in-InRepeat.left (plain_statement c.in-InRepeat.body.now)) (sym c.deref_mut-in-InRepeat.ensures.value) in
    let kept : Strand = strands.InRepeat (with_value c.in-InRepeat.run' c.step-in-InRepeat.new.strand) c.in-InRepeat.left c.in-InRepeat.body in
    repeat_off d (rows_of c.args.machine.now) (rows_of c.step-in-InRepeat.new.machine) c.args.instance c.args.leaf (plain_strand c.deref_mut-in-InRepeat.result.now) c.in-InRepeat.left (plain_statement c.in-InRepeat.body.now) (plain_strand c.args.strand.now) (plain_strand kept) (plain_strand c.step-in-InRepeat.new.strand) (kept_if c.repeat_ended.result c.repeat_ended.new.strand) whole (is_repeat (with_value c.in-InRepeat.run' c.step-in-InRepeat.new.strand) c.in-InRepeat.left c.in-InRepeat.body) c.repeat_ended.ensures.leaves
    (subst (λ r. HasStepped d (rows_of c.args.machine.now) (rows_of c.step-in-InRepeat.new.machine) c.args.instance (plain_strand c.deref_mut-in-InRepeat.result.now) c.args.leaf (left_by r c.step-in-InRepeat.new.strand)) (c.in-Ok-false-step-2.is ∙ ap (λ b. Ok b) c.in-Ok-false-step-2.field-0-test) c.step-in-InRepeat.ensures.stepped)

pub step-step_arms-requires : goal.step-step_arms-requires
step-step_arms-requires t c =
    let d = design_of c.args.plan.now in
    let whole : plain_strand c.args.strand.now ≡ APar (plain_arms c.deref_mut-in-InPar.result.now) = ap plain_strand c.in-InPar.is ∙ is_par c.in-InPar.arms ∙ ap (λ (x : Arms). APar (plain_arms x)) (sym c.deref_mut-in-InPar.ensures.value) in
    let had : (x : Kind) → amount x c.args.strand.now ≡ arms_box_amount x + arms_amount x c.deref_mut-in-InPar.result.now = λ x. ap (amount x) c.in-InPar.is ∙ amount_par x c.in-InPar.arms ∙ ap (λ (a : Arms). arms_box_amount x + arms_amount x a) (sym c.deref_mut-in-InPar.ensures.value) in
    let falls : size_of (plain_strand c.args.strand.now) ≡ 1 + sizes_of (plain_arms c.deref_mut-in-InPar.result.now) = ap size_of whole in
    let leaves : strand_leaves (plain_strand c.args.strand.now) ≡ arms_leaves (plain_arms c.deref_mut-in-InPar.result.now) = ap strand_leaves whole in
    let less = c.requires.leaf in (
      omega (arith, c.decreases, falls),
      (c.requires.plan, (c.requires.machine, (c.requires.instance, (arms_of_par d c.args.instance (plain_arms c.deref_mut-in-InPar.result.now) (subst (IsShown d c.args.instance) whole c.requires.shown), (omega (arith, less, leaves), par_turns d c.args.instance c.args.spares.now (plain_arms c.deref_mut-in-InPar.result.now) (λ x. arms_amount x c.deref_mut-in-InPar.result.now) (may_as d c.args.instance c.args.spares.now (plain_strand c.args.strand.now) (APar (plain_arms c.deref_mut-in-InPar.result.now)) (λ x. amount x c.args.strand.now) (λ x. arms_box_amount x + arms_amount x c.deref_mut-in-InPar.result.now) whole had c.requires.supplied)))))),
    )

pub step-returns-in-Ok-true-step_arms-clause-stepped : goal.step-returns-in-Ok-true-step_arms-clause-stepped
step-returns-in-Ok-true-step_arms-clause-stepped t c =
    let d = design_of c.args.plan.now in
    let whole : plain_strand c.args.strand.now ≡ APar (plain_arms c.deref_mut-in-InPar.result.now) = ap plain_strand c.in-InPar.is ∙ is_par c.in-InPar.arms ∙ ap (λ (x : Arms). APar (plain_arms x)) (sym c.deref_mut-in-InPar.ensures.value) in
    let kept : Strand = strands.InPar (with_value c.in-InPar.arms c.step_arms.new.arms) in
    par_on d (rows_of c.args.machine.now) (rows_of c.step_arms.new.machine) c.args.instance (plain_arms c.deref_mut-in-InPar.result.now) c.args.leaf (plain_strand c.args.strand.now) c.step_arms.new.arms kept whole (is_par (with_value c.in-InPar.arms c.step_arms.new.arms))
    (subst (λ r. HaveStepped d (rows_of c.args.machine.now) (rows_of c.step_arms.new.machine) c.args.instance (plain_arms c.deref_mut-in-InPar.result.now) c.args.leaf (left_by r c.step_arms.new.arms)) (c.in-Ok-true-step_arms.is ∙ ap (λ b. Ok b) c.in-Ok-true-step_arms.field-0-test) c.step_arms.ensures.stepped)

pub step-returns-in-Ok-true-step_arms-clause-ledger : goal.step-returns-in-Ok-true-step_arms-clause-ledger
step-returns-in-Ok-true-step_arms-clause-ledger t c =
    let had : (x : Kind) → amount x c.args.strand.now ≡ arms_box_amount x + arms_amount x c.deref_mut-in-InPar.result.now = λ x. ap (amount x) c.in-InPar.is ∙ amount_par x c.in-InPar.arms ∙ ap (λ (a : Arms). arms_box_amount x + arms_amount x a) (sym c.deref_mut-in-InPar.ensures.value) in
    let kept : Strand = strands.InPar (with_value c.in-InPar.arms c.step_arms.new.arms) in
    kept_turned c.args.spares.now c.step_arms.new.spares (λ x. arms_amount x c.deref_mut-in-InPar.result.now) (λ x. arms_amount x c.step_arms.new.arms) arms_box_amount (λ x. amount x c.args.strand.now) (λ x. amount x kept) had (λ x. amount_par x (with_value c.in-InPar.arms c.step_arms.new.arms))
    (subst (λ r. ArmsTurned c.args.spares.now c.step_arms.new.spares (λ x. arms_amount x c.deref_mut-in-InPar.result.now) (left_by r c.step_arms.new.arms)) (c.in-Ok-true-step_arms.is ∙ ap (λ b. Ok b) c.in-Ok-true-step_arms.field-0-test) c.step_arms.ensures.ledger)

pub step-par_ended-requires : goal.step-par_ended-requires
step-par_ended-requires t c =
    let d = design_of c.args.plan.now in
    let whole : plain_strand c.args.strand.now ≡ APar (plain_arms c.deref_mut-in-InPar.result.now) = ap plain_strand c.in-InPar.is ∙ is_par c.in-InPar.arms ∙ ap (λ (x : Arms). APar (plain_arms x)) (sym c.deref_mut-in-InPar.ensures.value) in
    let had : (x : Kind) → amount x c.args.strand.now ≡ arms_box_amount x + arms_amount x c.deref_mut-in-InPar.result.now = λ x. ap (amount x) c.in-InPar.is ∙ amount_par x c.in-InPar.arms ∙ ap (λ (a : Arms). arms_box_amount x + arms_amount x a) (sym c.deref_mut-in-InPar.ensures.value) in
    record {
      par = ((with_value c.in-InPar.arms c.step_arms.new.arms), refl);
      places = λ k. (let h = par_placed d c.args.instance c.args.spares.now (plain_arms c.deref_mut-in-InPar.result.now) (λ x. arms_amount x c.deref_mut-in-InPar.result.now) c.step_arms.new.spares (λ x. 0) (subst (λ r. ArmsTurned c.args.spares.now c.step_arms.new.spares (λ x. arms_amount x c.deref_mut-in-InPar.result.now) (left_by r c.step_arms.new.arms)) (c.in-Ok-false-step_arms.is ∙ ap (λ b. Ok b) c.in-Ok-false-step_arms.field-0-test) c.step_arms.ensures.ledger) (may_as d c.args.instance c.args.spares.now (plain_strand c.args.strand.now) (APar (plain_arms c.deref_mut-in-InPar.result.now)) (λ x. amount x c.args.strand.now) (λ x. arms_box_amount x + arms_amount x c.deref_mut-in-InPar.result.now) whole had c.requires.supplied) k in omega (arith, h));
    }

pub step-returns-in-Ok-false-step_arms-clause-stepped : goal.step-returns-in-Ok-false-step_arms-clause-stepped
step-returns-in-Ok-false-step_arms-clause-stepped t c =
    let d = design_of c.args.plan.now in
    let whole : plain_strand c.args.strand.now ≡ APar (plain_arms c.deref_mut-in-InPar.result.now) = ap plain_strand c.in-InPar.is ∙ is_par c.in-InPar.arms ∙ ap (λ (x : Arms). APar (plain_arms x)) (sym c.deref_mut-in-InPar.ensures.value) in
    par_off d (rows_of c.args.machine.now) (rows_of c.step_arms.new.machine) c.args.instance (plain_arms c.deref_mut-in-InPar.result.now) c.args.leaf (plain_strand c.args.strand.now) whole
    (subst (λ r. HaveStepped d (rows_of c.args.machine.now) (rows_of c.step_arms.new.machine) c.args.instance (plain_arms c.deref_mut-in-InPar.result.now) c.args.leaf (left_by r c.step_arms.new.arms)) (c.in-Ok-false-step_arms.is ∙ ap (λ b. Ok b) c.in-Ok-false-step_arms.field-0-test) c.step_arms.ensures.stepped)

pub step_front-step_arms-requires : goal.step_front-step_arms-requires
step_front-step_arms-requires t c =
    let whole : plain_arms c.deref_mut.result.now ≡ plain_arms c.args.one.value = ap plain_arms c.deref_mut.ensures.value in
    let size : sizes_of (plain_arms c.deref_mut.result.now) ≡ sizes_of (plain_arms c.args.one.value) = ap sizes_of whole in
    let leaves : arms_leaves (plain_arms c.deref_mut.result.now) ≡ arms_leaves (plain_arms c.args.one.value) = ap arms_leaves whole in
    let same : (x : Kind) → arms_amount x c.args.one.value ≡ arms_amount x c.deref_mut.result.now = λ x. ap (arms_amount x) (sym c.deref_mut.ensures.value) in
    let less = c.requires.leaf in (
      omega (arith, c.decreases, size),
      (c.requires.plan, (c.requires.machine, (c.requires.instance, (subst (AreShown (design_of c.args.plan.now) c.args.instance) (sym whole) c.requires.shown, (omega (arith, less, leaves), all_may_as (design_of c.args.plan.now) c.args.instance c.args.spares.now (plain_arms c.args.one.value) (plain_arms c.deref_mut.result.now) (λ x. arms_amount x c.args.one.value) (λ x. arms_amount x c.deref_mut.result.now) (sym whole) same c.requires.supplied))))),
    )

pub step_front-returns-in_err-goes-clause-stepped : goal.step_front-returns-in_err-goes-clause-stepped
step_front-returns-in_err-goes-clause-stepped t c leaves =
    let d = design_of c.args.plan.now in
    let whole : plain_arms c.deref_mut.result.now ≡ plain_arms c.args.one.value = ap plain_arms c.deref_mut.ensures.value in
    let p = err_from_is_err_and c.from_residual.result c.from_residual.ensures.1 in
    rw (p.1, p.2)
    (front_stops d (rows_of c.args.machine.now) (rows_of c.step_arms.new.machine) c.args.instance (plain_arms c.args.one.value) (plain_arms c.args.other.value) leaves c.args.leaf c.requires.leaf c.in_err-goes.field-0.0
    (subst (λ a. HaveStepped d (rows_of c.args.machine.now) (rows_of c.step_arms.new.machine) c.args.instance a c.args.leaf (Err c.in_err-goes.field-0.0)) whole c.in_err-goes.ensures.stepped))

pub step_front-returns-clause-stepped : goal.step_front-returns-clause-stepped
step_front-returns-clause-stepped t c leaves =
    let d = design_of c.args.plan.now in
    let whole : plain_arms c.deref_mut.result.now ≡ plain_arms c.args.one.value = ap plain_arms c.deref_mut.ensures.value in
    front_goes d (rows_of c.args.machine.now) (rows_of c.step_arms.new.machine) c.args.instance (plain_arms c.args.one.value) (plain_arms c.args.other.value) leaves c.args.leaf c.requires.leaf (kept_if c.in_ok-goes.goes c.step_arms.new.arms) c.front_left.result
    (subst (λ a. HaveStepped d (rows_of c.args.machine.now) (rows_of c.step_arms.new.machine) c.args.instance a c.args.leaf (Ok (kept_if c.in_ok-goes.goes c.step_arms.new.arms))) whole c.in_ok-goes.ensures.stepped) c.front_left.ensures.front

pub step_front-front_left-requires : goal.step_front-front_left-requires
step_front-front_left-requires t c =
    let same : (x : Kind) → arms_amount x c.args.one.value ≡ arms_amount x c.deref_mut.result.now = λ x. ap (arms_amount x) (sym c.deref_mut.ensures.value) in
    let one : Ledger c.args.spares.now c.step_arms.new.spares (λ x. arms_amount x c.args.one.value) (λ x. arms_left_amount x (kept_if c.in_ok-goes.goes c.step_arms.new.arms)) = told_before c.args.spares.now c.step_arms.new.spares (λ x. arms_amount x c.deref_mut.result.now) (λ x. arms_amount x c.args.one.value) (λ x. arms_left_amount x (kept_if c.in_ok-goes.goes c.step_arms.new.arms)) same c.in_ok-goes.ensures.ledger in
    record { places = front_placed c.args.spares.now (λ x. arms_amount x c.args.one.value) (λ x. arms_amount x c.args.other.value) c.step_arms.new.spares (λ x. arms_left_amount x (kept_if c.in_ok-goes.goes c.step_arms.new.arms)) c.requires.places one }

pub step_front-returns-clause-ledger : goal.step_front-returns-clause-ledger
step_front-returns-clause-ledger t c =
    let same : (x : Kind) → arms_amount x c.args.one.value ≡ arms_amount x c.deref_mut.result.now = λ x. ap (arms_amount x) (sym c.deref_mut.ensures.value) in
    let one : Ledger c.args.spares.now c.step_arms.new.spares (λ x. arms_amount x c.args.one.value) (λ x. arms_left_amount x (kept_if c.in_ok-goes.goes c.step_arms.new.arms)) = told_before c.args.spares.now c.step_arms.new.spares (λ x. arms_amount x c.deref_mut.result.now) (λ x. arms_amount x c.args.one.value) (λ x. arms_left_amount x (kept_if c.in_ok-goes.goes c.step_arms.new.arms)) same c.in_ok-goes.ensures.ledger in
    part_turned c.args.spares.now c.step_arms.new.spares c.front_left.new.spares (λ x. arms_amount x c.args.one.value) (λ x. arms_left_amount x (kept_if c.in_ok-goes.goes c.step_arms.new.arms)) (λ x. arms_box_amount x + (arms_box_amount x + arms_amount x c.args.other.value))
    (λ x. (arms_box_amount x + arms_amount x c.args.one.value) + (arms_box_amount x + arms_amount x c.args.other.value)) (λ x. (arms_box_amount x + arms_left_amount x (kept_if c.in_ok-goes.goes c.step_arms.new.arms)) + (arms_box_amount x + arms_amount x c.args.other.value)) (λ x. arms_left_amount x (Some c.front_left.result)) one c.front_left.ensures.ledger (λ x. omega arith) (λ x. omega arith)

pub step_back-step_arms-requires : goal.step_back-step_arms-requires
step_back-step_arms-requires t c =
    let whole : plain_arms c.deref_mut.result.now ≡ plain_arms c.args.other.value = ap plain_arms c.deref_mut.ensures.value in
    let size : sizes_of (plain_arms c.deref_mut.result.now) ≡ sizes_of (plain_arms c.args.other.value) = ap sizes_of whole in
    let leaves : arms_leaves (plain_arms c.deref_mut.result.now) ≡ arms_leaves (plain_arms c.args.other.value) = ap arms_leaves whole in
    let same : (x : Kind) → arms_amount x c.args.other.value ≡ arms_amount x c.deref_mut.result.now = λ x. ap (arms_amount x) (sym c.deref_mut.ensures.value) in
    let less = c.requires.leaf in (
      omega (arith, c.decreases, size),
      (c.requires.plan, (c.requires.machine, (c.requires.instance, (subst (AreShown (design_of c.args.plan.now) c.args.instance) (sym whole) c.requires.shown, (omega (arith, less, leaves), all_may_as (design_of c.args.plan.now) c.args.instance c.args.spares.now (plain_arms c.args.other.value) (plain_arms c.deref_mut.result.now) (λ x. arms_amount x c.args.other.value) (λ x. arms_amount x c.deref_mut.result.now) (sym whole) same c.requires.supplied))))),
    )

pub step_back-returns-in_err-goes-clause-stepped : goal.step_back-returns-in_err-goes-clause-stepped
step_back-returns-in_err-goes-clause-stepped t c leaves =
    let d = design_of c.args.plan.now in
    let whole : plain_arms c.deref_mut.result.now ≡ plain_arms c.args.other.value = ap plain_arms c.deref_mut.ensures.value in
    let p = err_from_is_err_and c.from_residual.result c.from_residual.ensures.1 in
    rw (p.1, p.2)
    (back_stops d (rows_of c.args.machine.now) (rows_of c.step_arms.new.machine) c.args.instance (plain_arms c.args.one.value) (plain_arms c.args.other.value) leaves c.args.leaf c.in_err-goes.field-0.0
    (subst (λ a. HaveStepped d (rows_of c.args.machine.now) (rows_of c.step_arms.new.machine) c.args.instance a c.args.leaf (Err c.in_err-goes.field-0.0)) whole c.in_err-goes.ensures.stepped))

pub step_back-returns-clause-stepped : goal.step_back-returns-clause-stepped
step_back-returns-clause-stepped t c leaves =
    let d = design_of c.args.plan.now in
    let whole : plain_arms c.deref_mut.result.now ≡ plain_arms c.args.other.value = ap plain_arms c.deref_mut.ensures.value in
    back_goes d (rows_of c.args.machine.now) (rows_of c.step_arms.new.machine) c.args.instance (plain_arms c.args.one.value) (plain_arms c.args.other.value) leaves c.args.leaf (kept_if c.in_ok-goes.goes c.step_arms.new.arms) c.back_left.result
    (subst (λ a. HaveStepped d (rows_of c.args.machine.now) (rows_of c.step_arms.new.machine) c.args.instance a c.args.leaf (Ok (kept_if c.in_ok-goes.goes c.step_arms.new.arms))) whole c.in_ok-goes.ensures.stepped) c.back_left.ensures.behind

pub step_back-back_left-requires : goal.step_back-back_left-requires
step_back-back_left-requires t c =
    let same : (x : Kind) → arms_amount x c.args.other.value ≡ arms_amount x c.deref_mut.result.now = λ x. ap (arms_amount x) (sym c.deref_mut.ensures.value) in
    let one : Ledger c.args.spares.now c.step_arms.new.spares (λ x. arms_amount x c.args.other.value) (λ x. arms_left_amount x (kept_if c.in_ok-goes.goes c.step_arms.new.arms)) = told_before c.args.spares.now c.step_arms.new.spares (λ x. arms_amount x c.deref_mut.result.now) (λ x. arms_amount x c.args.other.value) (λ x. arms_left_amount x (kept_if c.in_ok-goes.goes c.step_arms.new.arms)) same c.in_ok-goes.ensures.ledger in
    record { places = back_placed c.args.spares.now (λ x. arms_amount x c.args.one.value) (λ x. arms_amount x c.args.other.value) c.step_arms.new.spares (λ x. arms_left_amount x (kept_if c.in_ok-goes.goes c.step_arms.new.arms)) c.requires.places one }

pub step_back-returns-clause-ledger : goal.step_back-returns-clause-ledger
step_back-returns-clause-ledger t c =
    let same : (x : Kind) → arms_amount x c.args.other.value ≡ arms_amount x c.deref_mut.result.now = λ x. ap (arms_amount x) (sym c.deref_mut.ensures.value) in
    let one : Ledger c.args.spares.now c.step_arms.new.spares (λ x. arms_amount x c.args.other.value) (λ x. arms_left_amount x (kept_if c.in_ok-goes.goes c.step_arms.new.arms)) = told_before c.args.spares.now c.step_arms.new.spares (λ x. arms_amount x c.deref_mut.result.now) (λ x. arms_amount x c.args.other.value) (λ x. arms_left_amount x (kept_if c.in_ok-goes.goes c.step_arms.new.arms)) same c.in_ok-goes.ensures.ledger in
    part_turned c.args.spares.now c.step_arms.new.spares c.back_left.new.spares (λ x. arms_amount x c.args.other.value) (λ x. arms_left_amount x (kept_if c.in_ok-goes.goes c.step_arms.new.arms)) (λ x. arms_box_amount x + (arms_box_amount x + arms_amount x c.args.one.value))
    (λ x. (arms_box_amount x + arms_amount x c.args.one.value) + (arms_box_amount x + arms_amount x c.args.other.value)) (λ x. (arms_box_amount x + arms_amount x c.args.one.value) + (arms_box_amount x + arms_left_amount x (kept_if c.in_ok-goes.goes c.step_arms.new.arms))) (λ x. arms_left_amount x (Some c.back_left.result)) one c.back_left.ensures.ledger (λ x. omega arith) (λ x. omega arith)

pub step_both-step_front-requires : goal.step_both-step_front-requires
step_both-step_front-requires t c =
    let d = design_of c.args.plan.now in
    let one = plain_arms c.in-Both.one.value in
    let other = plain_arms c.in-Both.other.value in
    let whole : plain_arms c.args.arms ≡ both_arms c.in-Both.leaves one other = ap plain_arms c.in-Both.is ∙ is_both c.in-Both.leaves c.in-Both.one c.in-Both.other in
    let shown : AreShown d c.args.instance (both_arms c.in-Both.leaves one other) = subst (AreShown d c.args.instance) whole c.requires.shown in
    let split : (x : Kind) → arms_amount x c.args.arms ≡ (arms_box_amount x + arms_amount x c.in-Both.one.value) + (arms_box_amount x + arms_amount x c.in-Both.other.value) = λ x. ap (arms_amount x) c.in-Both.is ∙ amount_both x c.in-Both.leaves c.in-Both.one c.in-Both.other in
    let may = all_may_as (design_of c.args.plan.now) c.args.instance c.args.spares.now (plain_arms c.args.arms) (both_arms c.in-Both.leaves one other) (λ x. arms_amount x c.args.arms) (λ x. (arms_box_amount x + arms_amount x c.in-Both.one.value) + (arms_box_amount x + arms_amount x c.in-Both.other.value)) whole split c.requires.supplied in
    let falls : sizes_of (plain_arms c.args.arms) ≡ 1 + sizes_of one + sizes_of other = ap sizes_of whole in
    let told : c.count_arms-leaves.result ≡ capped (arms_leaves one) =
    subst (λ (x : Arms). AreCounted (plain_arms x) → c.count_arms-leaves.result ≡ capped (arms_leaves (plain_arms x))) c.deref.ensures c.count_arms-leaves.ensures (first_counted d c.args.instance c.in-Both.leaves one other shown) in
    let less : c.args.leaf < c.count_arms-leaves.result = (let a = c.if-from-leaves.true in first_of (omega (arith, a), search (rules, a))) in (
      omega (arith, c.decreases, falls),
      (c.requires.plan, (c.requires.machine, (c.requires.instance, (first_shown d c.args.instance c.in-Both.leaves one other shown, (omega (arith, told, less), (front_turns (design_of c.args.plan.now) c.args.instance c.args.spares.now c.in-Both.leaves one other (λ x. arms_amount x c.in-Both.one.value) (λ x. arms_amount x c.in-Both.other.value) (λ k. refl) may, all_turn_placed (design_of c.args.plan.now) c.args.instance c.args.spares.now (plain_arms c.args.arms) (λ x. arms_amount x c.args.arms) (λ x. (arms_box_amount x + arms_amount x c.in-Both.one.value) + (arms_box_amount x + arms_amount x c.in-Both.other.value)) split c.requires.supplied)))))),
    )

pub step_both-step_back-requires : goal.step_both-step_back-requires
step_both-step_back-requires t c =
    let d = design_of c.args.plan.now in
    let one = plain_arms c.in-Both.one.value in
    let other = plain_arms c.in-Both.other.value in
    let whole : plain_arms c.args.arms ≡ both_arms c.in-Both.leaves one other = ap plain_arms c.in-Both.is ∙ is_both c.in-Both.leaves c.in-Both.one c.in-Both.other in
    let shown : AreShown d c.args.instance (both_arms c.in-Both.leaves one other) = subst (AreShown d c.args.instance) whole c.requires.shown in
    let split : (x : Kind) → arms_amount x c.args.arms ≡ (arms_box_amount x + arms_amount x c.in-Both.one.value) + (arms_box_amount x + arms_amount x c.in-Both.other.value) = λ x. ap (arms_amount x) c.in-Both.is ∙ amount_both x c.in-Both.leaves c.in-Both.one c.in-Both.other in
    let may = all_may_as (design_of c.args.plan.now) c.args.instance c.args.spares.now (plain_arms c.args.arms) (both_arms c.in-Both.leaves one other) (λ x. arms_amount x c.args.arms) (λ x. (arms_box_amount x + arms_amount x c.in-Both.one.value) + (arms_box_amount x + arms_amount x c.in-Both.other.value)) whole split c.requires.supplied in
    let falls : sizes_of (plain_arms c.args.arms) ≡ 1 + sizes_of one + sizes_of other = ap sizes_of whole in
    let leaves : arms_leaves (plain_arms c.args.arms) ≡ arms_leaves one + arms_leaves other = ap arms_leaves whole in
    let told : c.count_arms-leaves.result ≡ capped (arms_leaves one) =
    subst (λ (x : Arms). AreCounted (plain_arms x) → c.count_arms-leaves.result ≡ capped (arms_leaves (plain_arms x))) c.deref.ensures c.count_arms-leaves.ensures (first_counted d c.args.instance c.in-Both.leaves one other shown) in
    let past : c.count_arms-leaves.result ≤ c.args.leaf = (let a = c.if-from-leaves.false in first_of (omega (arith, a), search (rules, a))) in
    let small = c.ranges.leaf.fits in
    let less = c.requires.leaf in (
      omega (arith, c.decreases, falls),
      (c.requires.plan, (c.requires.machine, (c.requires.instance, (other_shown d c.args.instance c.in-Both.leaves one other shown, (omega (arith, told, past, small, less, leaves), (back_turns (design_of c.args.plan.now) c.args.instance c.args.spares.now c.in-Both.leaves one other (λ x. arms_amount x c.in-Both.one.value) (λ x. arms_amount x c.in-Both.other.value) (λ k. refl) may, all_turn_placed (design_of c.args.plan.now) c.args.instance c.args.spares.now (plain_arms c.args.arms) (λ x. arms_amount x c.args.arms) (λ x. (arms_box_amount x + arms_amount x c.in-Both.one.value) + (arms_box_amount x + arms_amount x c.in-Both.other.value)) split c.requires.supplied)))))),
    )

pub step_both-returns-then-from-leaves-clause-stepped : goal.step_both-returns-then-from-leaves-clause-stepped
step_both-returns-then-from-leaves-clause-stepped t c =
    let one = plain_arms c.in-Both.one.value in
    let other = plain_arms c.in-Both.other.value in
    let whole : plain_arms c.args.arms ≡ both_arms c.in-Both.leaves one other = ap plain_arms c.in-Both.is ∙ is_both c.in-Both.leaves c.in-Both.one c.in-Both.other in
    subst (λ a. HaveStepped (design_of c.args.plan.now) (rows_of c.args.machine.now) (rows_of c.step_front.new.machine) c.args.instance a c.args.leaf (some_left c.step_front.result)) (sym whole) (c.step_front.ensures.stepped c.in-Both.leaves)

pub step_both-returns-then-from-leaves-clause-ledger : goal.step_both-returns-then-from-leaves-clause-ledger
step_both-returns-then-from-leaves-clause-ledger t c =
    let split : (x : Kind) → arms_amount x c.args.arms ≡ (arms_box_amount x + arms_amount x c.in-Both.one.value) + (arms_box_amount x + arms_amount x c.in-Both.other.value) = λ x. ap (arms_amount x) c.in-Both.is ∙ amount_both x c.in-Both.leaves c.in-Both.one c.in-Both.other in
    all_turned_before c.args.spares.now c.step_front.new.spares (λ x. arms_amount x c.args.arms) (λ x. (arms_box_amount x + arms_amount x c.in-Both.one.value) + (arms_box_amount x + arms_amount x c.in-Both.other.value)) (some_left c.step_front.result) split c.step_front.ensures.ledger

pub step_both-returns-else-from-leaves-clause-stepped : goal.step_both-returns-else-from-leaves-clause-stepped
step_both-returns-else-from-leaves-clause-stepped t c =
    let d = design_of c.args.plan.now in
    let one = plain_arms c.in-Both.one.value in
    let other = plain_arms c.in-Both.other.value in
    let whole : plain_arms c.args.arms ≡ both_arms c.in-Both.leaves one other = ap plain_arms c.in-Both.is ∙ is_both c.in-Both.leaves c.in-Both.one c.in-Both.other in
    let shown : AreShown d c.args.instance (both_arms c.in-Both.leaves one other) = subst (AreShown d c.args.instance) whole c.requires.shown in
    let told : c.count_arms-leaves.result ≡ capped (arms_leaves one) =
    subst (λ (x : Arms). AreCounted (plain_arms x) → c.count_arms-leaves.result ≡ capped (arms_leaves (plain_arms x))) c.deref.ensures c.count_arms-leaves.ensures (first_counted d c.args.instance c.in-Both.leaves one other shown) in
    let past : c.count_arms-leaves.result ≤ c.args.leaf = (let a = c.if-from-leaves.false in first_of (omega (arith, a), search (rules, a))) in
    let small = c.ranges.leaf.fits in
    let at : arms_leaves one + (c.args.leaf - c.count_arms-leaves.result) ≡ c.args.leaf = omega (arith, told, past, small) in
    subst (λ a. HaveStepped d (rows_of c.args.machine.now) (rows_of c.step_back.new.machine) c.args.instance a c.args.leaf (some_left c.step_back.result)) (sym whole)
    (subst (λ k. HaveStepped d (rows_of c.args.machine.now) (rows_of c.step_back.new.machine) c.args.instance (both_arms c.in-Both.leaves one other) k (some_left c.step_back.result)) at (c.step_back.ensures.stepped c.in-Both.leaves))

pub step_both-returns-else-from-leaves-clause-ledger : goal.step_both-returns-else-from-leaves-clause-ledger
step_both-returns-else-from-leaves-clause-ledger t c =
    let split : (x : Kind) → arms_amount x c.args.arms ≡ (arms_box_amount x + arms_amount x c.in-Both.one.value) + (arms_box_amount x + arms_amount x c.in-Both.other.value) = λ x. ap (arms_amount x) c.in-Both.is ∙ amount_both x c.in-Both.leaves c.in-Both.one c.in-Both.other in
    all_turned_before c.args.spares.now c.step_back.new.spares (λ x. arms_amount x c.args.arms) (λ x. (arms_box_amount x + arms_amount x c.in-Both.one.value) + (arms_box_amount x + arms_amount x c.in-Both.other.value)) (some_left c.step_back.result) split c.step_back.ensures.ledger

pub step_arms-step-requires : goal.step_arms-step-requires
step_arms-step-requires t c =
    let d = design_of c.args.plan.now in
    let whole : plain_arms c.args.arms.now ≡ one_arm (plain_strand c.in-One.arm) = ap plain_arms c.in-One.is ∙ is_one c.in-One.arm in
    let falls : sizes_of (plain_arms c.args.arms.now) ≡ 1 + size_of (plain_strand c.in-One.arm) = ap sizes_of whole in
    let leaves : arms_leaves (plain_arms c.args.arms.now) ≡ strand_leaves (plain_strand c.in-One.arm) = ap arms_leaves whole in
    let less = c.requires.leaf in (
      omega (arith, c.decreases, falls),
      (
        c.requires.plan,
        (
          c.requires.machine,
          (
            c.requires.instance,
            (
              one_arm_shown d c.args.instance (plain_strand c.in-One.arm) (subst (AreShown d c.args.instance) whole c.requires.shown),
              (
                omega (arith, less, leaves),
                arm_turns d c.args.instance c.args.spares.now (plain_strand c.in-One.arm) (λ x. amount x c.in-One.arm)
                    (all_may_as d c.args.instance c.args.spares.now (plain_arms c.args.arms.now) (one_arm (plain_strand c.in-One.arm)) (λ x. arms_amount x c.args.arms.now) (λ x. amount x c.in-One.arm) whole (λ x. ap (arms_amount x) c.in-One.is ∙ amount_one x c.in-One.arm) c.requires.supplied),
              ),
            ),
          ),
        ),
      ),
    )

pub step_arms-returns-in-One-clause-stepped : goal.step_arms-returns-in-One-clause-stepped
step_arms-returns-in-One-clause-stepped t c =
    let d = design_of c.args.plan.now in
    let whole : plain_arms c.args.arms.now ≡ one_arm (plain_strand c.in-One.arm) = ap plain_arms c.in-One.is ∙ is_one c.in-One.arm in
    let leaves : arms_leaves (plain_arms c.args.arms.now) ≡ strand_leaves (plain_strand c.in-One.arm) = ap arms_leaves whole in
    let less = c.requires.leaf in
    arm_turned d (rows_of c.args.machine.now) (rows_of c.step.new.machine) c.args.instance (plain_strand c.in-One.arm) c.args.leaf (omega (arith, less, leaves)) (plain_arms c.args.arms.now) c.step.new.strand (parts.One c.step.new.strand) c.step.result whole (is_one c.step.new.strand) c.step.ensures.stepped

pub step_arms-returns-in-One-clause-ledger : goal.step_arms-returns-in-One-clause-ledger
step_arms-returns-in-One-clause-ledger t c =
    arm_kept c.args.spares.now c.step.new.spares (λ x. arms_amount x c.args.arms.now) (λ x. amount x c.in-One.arm) c.step.new.strand c.step.result (λ x. ap (arms_amount x) c.in-One.is ∙ amount_one x c.in-One.arm) c.step.ensures.ledger

pub step_arms-step_both-requires : goal.step_arms-step_both-requires
step_arms-step_both-requires t c =
    let d = design_of c.args.plan.now in
    let same : c.replace-both.result ≡ c.args.arms.now = c.replace-both.ensures.value in
    let size : sizes_of (plain_arms c.replace-both.result) ≡ sizes_of (plain_arms c.args.arms.now) = ap (λ (a : Arms). sizes_of (plain_arms a)) same in (
      omega (arith, c.decreases, size),
      (
        c.requires.plan,
        (
          c.requires.machine,
          (
            c.requires.instance,
            (
              λ arm e. absurd (no_arm c.in-Both.leaves c.in-Both.one c.in-Both.other arm (sym c.in-Both.is ∙ sym same ∙ e)),
              (
                subst (λ (a : Arms). AreShown d c.args.instance (plain_arms a)) (sym same) c.requires.shown,
                (
                  subst (λ (a : Arms). c.args.leaf < arms_leaves (plain_arms a)) (sym same) c.requires.leaf,
                  subst (λ (a : Arms). MayTurnAll d c.args.instance c.args.spares.now (plain_arms a) (λ x. arms_amount x a)) (sym same) c.requires.supplied,
                ),
              ),
            ),
          ),
        ),
      ),
    )

pub step-step_group-requires-clause-group : goal.step-step_group-requires-clause-group
step-step_group-requires-clause-group t c =
    let whole : plain_strand c.args.strand.now ≡ AGroup c.in-InGroup.group = ap plain_strand c.in-InGroup.is ∙ is_group c.in-InGroup.group in
    let shown : IsShown (design_of c.args.plan.now) c.args.instance (AGroup c.in-InGroup.group) = subst (IsShown (design_of c.args.plan.now) c.args.instance) whole c.requires.shown in
    shown.1.1

pub step-returns-in-InGroup-clause-stepped : goal.step-returns-in-InGroup-clause-stepped
step-returns-in-InGroup-clause-stepped t c =
    let whole : plain_strand c.args.strand.now ≡ AGroup c.in-InGroup.group = ap plain_strand c.in-InGroup.is ∙ is_group c.in-InGroup.group in
    subst (λ p. HasStepped (design_of c.args.plan.now) (rows_of c.args.machine.now) (rows_of c.step_group.new.machine) c.args.instance p c.args.leaf (left_by c.step_group.result (strands.InGroup c.in-InGroup.group))) (sym whole) c.step_group.ensures.stepped

pub step-returns-in-InGroup-clause-ledger : goal.step-returns-in-InGroup-clause-ledger
step-returns-in-InGroup-clause-ledger t c =
    let none : (x : Kind) → amount x c.args.strand.now ≡ 0 = λ x. ap (amount x) c.in-InGroup.is ∙ amount_group x c.in-InGroup.group in
    leaf_kept c.args.spares.now (λ x. amount x c.args.strand.now) (strands.InGroup c.in-InGroup.group) c.step_group.result none (λ x. amount_group x c.in-InGroup.group)

pub step-step_whole-requires : goal.step-step_whole-requires
step-step_whole-requires t c =
    let d = design_of c.args.plan.now in (
      omega (arith, c.decreases),
      (
        c.requires.plan,
        (
          c.requires.machine,
          (
            c.requires.instance,
            (record { group = c.in_default.not-InGroup; seq = c.in_default.not-InSeq; par = c.in_default.not-InPar; loop = c.in_default.not-InLoop; repeat = c.in_default.not-InRepeat }, (c.requires.shown, (c.requires.leaf, c.requires.supplied))),
          ),
        ),
      ),
    )

pub step_whole-step_out-requires : goal.step_whole-step_out-requires
step_whole-step_out-requires t c =
    let d = design_of c.args.plan.now in
    let same : c.replace-whole.result ≡ c.args.strand.now = c.replace-whole.ensures.value in
    let size : size_of (plain_strand c.replace-whole.result) ≡ size_of (plain_strand c.args.strand.now) = ap (λ (s : Strand). size_of (plain_strand s)) same in (
      omega (arith, c.decreases, size),
      (
        c.requires.plan,
        (
          c.requires.machine,
          (
            c.requires.instance,
            (
              subst HasNoPart (sym same) c.requires.whole,
              (
                subst (λ (s : Strand). IsShown d c.args.instance (plain_strand s)) (sym same) c.requires.shown,
                (
                  subst (λ (s : Strand). c.args.leaf < strand_leaves (plain_strand s)) (sym same) c.requires.leaf,
                  subst (λ (s : Strand). MayTurn d c.args.instance c.args.spares.now (plain_strand s) (λ x. amount x s)) (sym same) c.requires.supplied,
                ),
              ),
            ),
          ),
        ),
      ),
    )

pub step_whole-returns-in-Err-clause-stepped : goal.step_whole-returns-in-Err-clause-stepped
step_whole-returns-in-Err-clause-stepped t c =
    let d = design_of c.args.plan.now in
    subst (λ (s : Strand). HasStepped d (rows_of c.args.machine.now) (rows_of c.step_out.new.machine) c.args.instance (plain_strand s) c.args.leaf (Err c.in-Err.fault)) c.replace-whole.ensures.value
    (subst (λ r. HasStepped d (rows_of c.args.machine.now) (rows_of c.step_out.new.machine) c.args.instance (plain_strand c.replace-whole.result) c.args.leaf r) c.in-Err.is c.step_out.ensures.stepped)

pub step_whole-returns-in-Ok-clause-stepped : goal.step_whole-returns-in-Ok-clause-stepped
step_whole-returns-in-Ok-clause-stepped t c =
    let d = design_of c.args.plan.now in
    subst (λ o. HasStepped d (rows_of c.args.machine.now) (rows_of c.step_out.new.machine) c.args.instance (plain_strand c.args.strand.now) c.args.leaf (Ok o)) (sym c.put.ensures)
    (subst (λ (s : Strand). HasStepped d (rows_of c.args.machine.now) (rows_of c.step_out.new.machine) c.args.instance (plain_strand s) c.args.leaf (Ok c.in-Ok.left)) c.replace-whole.ensures.value
    (subst (λ r. HasStepped d (rows_of c.args.machine.now) (rows_of c.step_out.new.machine) c.args.instance (plain_strand c.replace-whole.result) c.args.leaf r) c.in-Ok.is c.step_out.ensures.stepped))

pub step_whole-returns-in-Ok-clause-ledger : goal.step_whole-returns-in-Ok-clause-ledger
step_whole-returns-in-Ok-clause-ledger t c =
    subst (λ o. Ledger c.args.spares.now c.step_out.new.spares (λ x. amount x c.args.strand.now) (λ x. left_amount x o)) (sym c.put.ensures)
    (subst (λ (s : Strand). Ledger c.args.spares.now c.step_out.new.spares (λ x. amount x s) (λ x. left_amount x c.in-Ok.left)) c.replace-whole.ensures.value
    (subst (λ r. Turned c.args.spares.now c.step_out.new.spares (λ x. amount x c.replace-whole.result) r) c.in-Ok.is c.step_out.ensures.ledger))

pub step_out-step_call-requires : goal.step_out-step_call-requires
step_out-step_call-requires t c =
    let whole : plain_strand c.args.strand ≡ ACall c.in-InCall.group c.in-InCall.cell (seen_items (λ v. v.items) c.in-InCall.inputs) (plain_strand c.in-InCall.child.value) = ap plain_strand c.in-InCall.is ∙ is_call c.in-InCall.group c.in-InCall.cell c.in-InCall.inputs c.in-InCall.child in
    let kept : (x : Kind) → amount x c.args.strand ≡ box_amount x + inputs_amount (λ v. vec_capacity v) x c.in-InCall.inputs + amount x c.in-InCall.child.value = λ x. ap (amount x) c.in-InCall.is ∙ amount_call x c.in-InCall.group c.in-InCall.cell c.in-InCall.inputs c.in-InCall.child in
    let falls : size_of (plain_strand c.args.strand) ≡ 1 + size_of (plain_strand c.in-InCall.child.value) = ap size_of whole in
    let leaves : strand_leaves (plain_strand c.args.strand) ≡ strand_leaves (plain_strand c.in-InCall.child.value) = ap strand_leaves whole in
    let less = c.requires.leaf in (
      omega (arith, c.decreases, falls),
      (c.requires.plan, (c.requires.machine, (c.requires.instance, (subst (IsShown (design_of c.args.plan.now) c.args.instance) whole c.requires.shown, (omega (arith, less, leaves), may_as (design_of c.args.plan.now) c.args.instance c.args.spares.now (plain_strand c.args.strand) (ACall c.in-InCall.group c.in-InCall.cell (seen_items (λ v. v.items) c.in-InCall.inputs) (plain_strand c.in-InCall.child.value)) (λ x. amount x c.args.strand) (λ x. box_amount x + inputs_amount (λ v. vec_capacity v) x c.in-InCall.inputs + amount x c.in-InCall.child.value) whole kept c.requires.supplied))))),
    )

pub step_out-returns-in-InCall-clause-stepped : goal.step_out-returns-in-InCall-clause-stepped
step_out-returns-in-InCall-clause-stepped t c =
    let whole : plain_strand c.args.strand ≡ ACall c.in-InCall.group c.in-InCall.cell (seen_items (λ v. v.items) c.in-InCall.inputs) (plain_strand c.in-InCall.child.value) = ap plain_strand c.in-InCall.is ∙ is_call c.in-InCall.group c.in-InCall.cell c.in-InCall.inputs c.in-InCall.child in
    subst (λ p. HasStepped (design_of c.args.plan.now) (rows_of c.args.machine.now) (rows_of c.step_call.new.machine) c.args.instance p c.args.leaf c.step_call.result) (sym whole) c.step_call.ensures.stepped

pub step_out-returns-in-InCall-clause-ledger : goal.step_out-returns-in-InCall-clause-ledger
step_out-returns-in-InCall-clause-ledger t c =
    let kept : (x : Kind) → amount x c.args.strand ≡ box_amount x + inputs_amount (λ v. vec_capacity v) x c.in-InCall.inputs + amount x c.in-InCall.child.value = λ x. ap (amount x) c.in-InCall.is ∙ amount_call x c.in-InCall.group c.in-InCall.cell c.in-InCall.inputs c.in-InCall.child in
    turned_before c.args.spares.now c.step_call.new.spares (λ x. amount x c.args.strand) (λ x. box_amount x + inputs_amount (λ v. vec_capacity v) x c.in-InCall.inputs + amount x c.in-InCall.child.value) c.step_call.result kept c.step_call.ensures.ledger

pub step_call-child_number-number-requires-clause-part : goal.step_call-child_number-number-requires-clause-part
step_call-child_number-number-requires-clause-part t c = call_part (design_of c.args.plan.now) c.args.instance c.args.group c.args.cell (seen_items (λ v. v.items) c.args.inputs) (plain_strand c.args.child.value) c.requires.shown

pub step_call-hold_call-inputs-requires-clause-part : goal.step_call-hold_call-inputs-requires-clause-part
step_call-hold_call-inputs-requires-clause-part t c = call_part (design_of c.args.plan.now) c.args.instance c.args.group c.args.cell (seen_items (λ v. v.items) c.args.inputs) (plain_strand c.args.child.value) c.requires.shown

pub step_call-hold_call-inputs-requires-clause-supplied : goal.step_call-hold_call-inputs-requires-clause-supplied
step_call-hold_call-inputs-requires-clause-supplied t c = hold_supplied (design_of c.args.plan.now) c.args.instance c.args.group c.args.cell c.args.spares.now (seen_items (λ v. v.items) c.args.inputs) (plain_strand c.args.child.value) (λ x. inputs_amount (λ v. vec_capacity v) x c.args.inputs) (λ x. amount x c.args.child.value) c.requires.supplied (λ k. refl)

pub step_call-step-requires : goal.step_call-step-requires
step_call-step-requires t c =
    let d = design_of c.args.plan.now in
    let size : size_of (plain_strand c.deref_mut.result.now) ≡ size_of (plain_strand c.args.child.value) = ap (λ (s : Strand). size_of (plain_strand s)) c.deref_mut.ensures.value in
    let shown : IsShown d c.child_number-number.result (plain_strand c.args.child.value) = child_shown d c.args.instance c.args.group c.args.cell c.child_number-number.result (seen_items (λ v. v.items) c.args.inputs) (plain_strand c.args.child.value) c.requires.instance c.child_number-number.ensures c.requires.shown in
    let may : MayTurn d c.child_number-number.result c.hold_call-inputs.new.spares (plain_strand c.args.child.value) (λ x. amount x c.args.child.value) = child_turns d c.args.instance c.args.group c.args.cell c.args.spares.now (seen_items (λ v. v.items) c.args.inputs) (plain_strand c.args.child.value) (λ x. inputs_amount (λ v. vec_capacity v) x c.args.inputs) (λ x. amount x c.args.child.value) c.requires.supplied c.child_number-number.result c.child_number-number.ensures c.hold_call-inputs.new.spares c.hold_call-inputs.result (λ x. inputs_amount (λ v. vec_capacity v) x (Some c.hold_call-inputs.result)) (λ k. refl) c.hold_call-inputs.ensures.ledger in (
      omega (arith, c.decreases, size),
      (
        c.requires.plan,
        (
          c.hold_call-inputs.ensures.machine,
          (
            child_instance d c.args.instance c.args.cell c.child_number-number.result c.requires.instance c.child_number-number.ensures,
            (
              subst (λ (s : Strand). IsShown d c.child_number-number.result (plain_strand s)) (sym c.deref_mut.ensures.value) shown,
              (subst (λ (s : Strand). c.args.leaf < strand_leaves (plain_strand s)) (sym c.deref_mut.ensures.value) c.requires.leaf, subst (λ (s : Strand). MayTurn d c.child_number-number.result c.hold_call-inputs.new.spares (plain_strand s) (λ x. amount x s)) (sym c.deref_mut.ensures.value) may),
            ),
          ),
        ),
      ),
    )

pub step_call-returns-in_err-goes-clause-stepped : goal.step_call-returns-in_err-goes-clause-stepped
step_call-returns-in_err-goes-clause-stepped t c =
    let d = design_of c.args.plan.now in
    let part : IsPart d c.args.instance c.args.cell = call_part d c.args.instance c.args.group c.args.cell (seen_items (λ v. v.items) c.args.inputs) (plain_strand c.args.child.value) c.requires.shown in
    let p = err_from_is_err_and c.from_residual.result c.from_residual.ensures.1 in
    rw (p.1, p.2)
    (call_stops d (rows_of c.args.machine.now) (rows_of c.hold_call-inputs.new.machine) (rows_of c.step.new.machine) c.args.instance c.args.group c.args.cell c.child_number-number.result c.args.leaf (seen_items (λ v. v.items) c.args.inputs) (plain_strand c.args.child.value)
    c.hold_call-inputs.result.items part c.child_number-number.ensures c.requires.instance c.hold_call-inputs.ensures.held c.in_err-goes.field-0.0 (subst (λ (s : Strand). HasStepped d (rows_of c.hold_call-inputs.new.machine) (rows_of c.step.new.machine) c.child_number-number.result (plain_strand s) c.args.leaf (Err c.in_err-goes.field-0.0)) c.deref_mut.ensures.value c.in_err-goes.ensures.stepped))

pub step_call-returns-clause-stepped : goal.step_call-returns-clause-stepped
step_call-returns-clause-stepped t c =
    let d = design_of c.args.plan.now in
    let part : IsPart d c.args.instance c.args.cell = call_part d c.args.instance c.args.group c.args.cell (seen_items (λ v. v.items) c.args.inputs) (plain_strand c.args.child.value) c.requires.shown in
    call_goes d (rows_of c.args.machine.now) (rows_of c.hold_call-inputs.new.machine) (rows_of c.step.new.machine) c.args.instance c.args.group c.args.cell c.child_number-number.result c.args.leaf (seen_items (λ v. v.items) c.args.inputs) (plain_strand c.args.child.value)
    c.hold_call-inputs.result.items part c.child_number-number.ensures c.requires.instance c.hold_call-inputs.ensures.held (kept_if c.in_ok-goes.goes c.step.new.strand) c.call_left.result (subst (λ (s : Strand). HasStepped d (rows_of c.hold_call-inputs.new.machine) (rows_of c.step.new.machine) c.child_number-number.result (plain_strand s) c.args.leaf (Ok (kept_if c.in_ok-goes.goes c.step.new.strand))) c.deref_mut.ensures.value c.in_ok-goes.ensures.stepped) c.call_left.ensures.leaves

pub step_call-call_left-requires-clause-places : goal.step_call-call_left-requires-clause-places
step_call-call_left-requires-clause-places t c =
    call_placed (design_of c.args.plan.now) c.args.instance c.args.group c.args.cell c.args.spares.now (seen_items (λ v. v.items) c.args.inputs) (plain_strand c.args.child.value) (λ x. inputs_amount (λ v. vec_capacity v) x c.args.inputs) (λ x. amount x c.args.child.value) c.requires.supplied c.child_number-number.result c.child_number-number.ensures c.hold_call-inputs.new.spares c.hold_call-inputs.result (λ x. inputs_amount (λ v. vec_capacity v) x (Some c.hold_call-inputs.result)) (λ k. refl) c.hold_call-inputs.ensures.ledger c.step.new.spares (λ x. left_amount x (kept_if c.in_ok-goes.goes c.step.new.strand)) (subst (λ (s : Strand). Ledger c.hold_call-inputs.new.spares c.step.new.spares (λ x. amount x s) (λ x. left_amount x (kept_if c.in_ok-goes.goes c.step.new.strand))) c.deref_mut.ensures.value c.in_ok-goes.ensures.ledger)

pub step_call-returns-clause-ledger : goal.step_call-returns-clause-ledger
step_call-returns-clause-ledger t c =
    call_turned c.args.spares.now c.hold_call-inputs.new.spares c.step.new.spares c.call_left.new.spares (λ x. inputs_amount (λ v. vec_capacity v) x c.args.inputs) (λ x. inputs_amount (λ v. vec_capacity v) x (Some c.hold_call-inputs.result)) (λ x. amount x c.args.child.value) (λ x. left_amount x (kept_if c.in_ok-goes.goes c.step.new.strand)) (λ x. left_amount x c.call_left.result) c.hold_call-inputs.ensures.ledger
    (subst (λ (s : Strand). Ledger c.hold_call-inputs.new.spares c.step.new.spares (λ x. amount x s) (λ x. left_amount x (kept_if c.in_ok-goes.goes c.step.new.strand))) c.deref_mut.ensures.value c.in_ok-goes.ensures.ledger) c.call_left.ensures.ledger
