use Rattle.std.proofs.Common.{rules, ◌≢◌, List, [], take, map, Ok, true, false, ◌≡◌, ◌+◌, ◌-◌, ◌≤◌, Some, length, refl, sym, ap, ◌∙◌, subst, arith}
use Rattle.cx_meaning.specs.Designs.{PlainForm, PlainStatement, Placed, Empty, Enable, If, While, Repeat}
use Rattle.cx_design.specs.PlainForms.{plain_form, plain_statement, form_step, statement_step}
use Rattle.cx_turns.specs.Tests.{Tested}
use Rattle.cx_turns.specs.Machines.{design_of, rows_of, StandsIn, FormStands}
use Rattle.cx_turns.proofs.Measures.{steps, form_steps}
use Rattle.cx_meaning.specs.Designs.{Seq}
use Rattle.cx_design.specs.PlainForms.{plain_statements}
use Rattle.std.specs.List.{slice_get}
use Rattle.cx_turns.proofs.StandLemmas.{test_port, test_comb, enabled_group}
use Rattle.cx_turns.proofs.GroupLemmas.{row_ascends, row_within}
use Rattle.cx_design.specs.declared.statements.Form.TheFolds.{fold-roll-Form, fold-roll-Statement}
use Rattle.cx_design.specs.declared.statements.Form.TheVariants as forms
use Rattle.cx_turns.proofs.PartLemmas.{yes_stands, no_stands, part_stands, part_falls}
use Rattle.cx_turns.specs.Groups.{ListWithin}
use Rattle.cx_turns.proofs.ChildLemmas.{callee_part, child_instance, child_less, control_stands}
use Rattle.cx_interp.specs.declared.answers.Answer.TheVariants.{End, Fault, More}
use Rattle.cx_interp.specs.Doings.{form_does, form_drives, statement_does, statement_drives}
use Rattle.cx_interp.specs.Done.{Done, limit_of}
use Rattle.cx_interp.proofs.ParLemmas.{some_do, some_drive, arms_start, arms_next, arms_end, par_empty, par_stands, arm_is, map_length}
use Rattle.cx_interp.proofs.IslandRuns.{enable_is_island}
use Rattle.cx_eval_cycle.specs.Passes.{IsAscending}
use Rattle.cx_interp.proofs.EnableLemmas.{enable_turns}
use Rattle.cx_interp.proofs.ControlLemmas.{empty_form, timed_form, if_yes, if_no, if_unclear, if_no_turn, repeat_none, repeat_start, repeat_after, repeat_stop, repeat_end, seq_empty, seq_start, seq_next, seq_stop, seq_ended, while_start, while_fails, while_unclear, while_spent, while_body, while_body_stops}
use Rattle.cx_interp.specs.Callees.{child_does}
use Rattle.cx_interp.proofs.CallLemmas.{done_lifted, enable_call}
use Rattle.cx_text.proofs.ListLaws.{take_all}
use Rattle.cx_meaning.specs.Designs.{Par, statements_of}
use Rattle.cx_meaning.specs.Instances.{Path, instance_at, tree_of}
use Rattle.cx_rules.specs.Items.{Dynamic}
use Rattle.cx_rewrites.specs.Tallies.{Tally}
use Rattle.cx_state.specs.Tables.{IsNumber}
use Rattle.cx_interp.specs.Counts.{plain_counts}
use Rattle.cx_interp.specs.Counted.{GrowsBy, Counted, turns_count_of, statement_counts, form_counts}
use Rattle.cx_interp.proofs.GrowthLemmas.{by_same_at, counted_stops, counted_grows, counted_same_at, counted_none}
use Rattle.cx_interp.proofs.LoopCounts.{seq_none, seq_counts_start, seq_counts_next, seq_counts_end, while_counts_start, while_counts_next, while_counts_end, repeat_counts_start, repeat_counts_next, repeat_counts_end}
use Rattle.cx_interp.proofs.ControlCounts.{arms_count, arms_counted, par_none, if_counts_yes, if_counts_no, child_counts, count_turns, count_call, child_grows}
use Rattle.cx_interp.proofs.ParLemmas.{there as par_there}
use Rattle.cx_interp.proofs.control.+control.Goals as goal

pub run_form-returns-in-Empty-clause-done : goal.run_form-returns-in-Empty-clause-done
run_form-returns-in-Empty-clause-done t c =
    empty_form (design_of c.args.plan.now) c.args.instance (plain_form c.args.form.now) (rows_of c.args.machine.now) c.args.budget c.idle_turn.result (ap plain_form c.in-Empty.is ∙ ap plain_form (sym forms.rolls-Empty) ∙ fold-roll-Form PlainForm PlainStatement form_step statement_step _)
    (λ driving. c.idle_turn.ensures (design_of c.args.plan.now) (rows_of c.args.machine.now) c.args.instance driving c.requires.machine.state)

pub run_form-returns-in-StaticInvoke-clause-done : goal.run_form-returns-in-StaticInvoke-clause-done
run_form-returns-in-StaticInvoke-clause-done t c = timed_form (design_of c.args.plan.now) c.args.instance c.in-StaticInvoke.field-0 (plain_form c.args.form.now) (rows_of c.args.machine.now) c.args.budget (ap plain_form c.in-StaticInvoke.is ∙ ap plain_form (sym (forms.rolls-StaticInvoke c.in-StaticInvoke.field-0)) ∙ fold-roll-Form PlainForm PlainStatement form_step statement_step _) c.requires.machine.state

pub run_form-returns-in-Timed-clause-done : goal.run_form-returns-in-Timed-clause-done
run_form-returns-in-Timed-clause-done t c = timed_form (design_of c.args.plan.now) c.args.instance c.in-Timed.field-0 (plain_form c.args.form.now) (rows_of c.args.machine.now) c.args.budget (ap plain_form c.in-Timed.is ∙ ap plain_form (sym (forms.rolls-Timed c.in-Timed.field-0)) ∙ fold-roll-Form PlainForm PlainStatement form_step statement_step _) c.requires.machine.state

pub run_if-returns-then-budget-eq0-clause-done : goal.run_if-returns-then-budget-eq0-clause-done
run_if-returns-then-budget-eq0-clause-done t c =
    if_no_turn (design_of c.args.plan.now) c.args.instance c.args.port c.args.comb (plain_statement c.args.yes.now) (plain_statement c.args.no.now) (rows_of c.args.machine.now) c.args.budget c.if-budget-eq0.true c.requires.machine.state

pub run_if-test-requires-clause-port : goal.run_if-test-requires-clause-port
run_if-test-requires-clause-port t c =
    test_port (design_of c.args.plan.now) c.requires.plan.accepted c.requires.plan.design c.args.plan.now.table.rows.items c.args.plan.now.table.children.items c.requires.plan.table c.args.instance
    (If c.args.port c.args.comb (plain_statement c.args.yes.now) (plain_statement c.args.no.now)) c.args.port c.requires.form refl

pub run_if-test-requires-clause-comb : goal.run_if-test-requires-clause-comb
run_if-test-requires-clause-comb t c =
    test_comb (design_of c.args.plan.now) c.requires.plan.accepted c.requires.plan.design c.args.plan.now.table.rows.items c.args.plan.now.table.children.items c.requires.plan.table c.args.instance
    (If c.args.port c.args.comb (plain_statement c.args.yes.now) (plain_statement c.args.no.now)) c.args.comb c.requires.form (λ part w. w)

pub run_if-run_statement-requires : goal.run_if-run_statement-requires
run_if-run_statement-requires t c = (
  omega (arith, c.decreases),
  (
    c.requires.plan,
    (
      search rules,
      (
        c.requires.instance,
        yes_stands (design_of c.args.plan.now) c.args.instance c.args.port c.args.comb (plain_statement c.args.yes.now) (plain_statement c.args.no.now) c.requires.form,
      ),
    ),
  ),
)

pub run_if-run_statement-requires-in-Ok-false : goal.run_if-run_statement-requires-in-Ok-false
run_if-run_statement-requires-in-Ok-false t c = (
  omega (arith, c.decreases),
  (
    c.requires.plan,
    (
      search rules,
      (
        c.requires.instance,
        no_stands (design_of c.args.plan.now) c.args.instance c.args.port c.args.comb (plain_statement c.args.yes.now) (plain_statement c.args.no.now) c.requires.form,
      ),
    ),
  ),
)

pub run_seq-returns-then-is_empty-clause-done : goal.run_seq-returns-then-is_empty-clause-done
run_seq-returns-then-is_empty-clause-done t c =
    seq_empty (design_of c.args.plan.now) c.args.instance c.args.parts.now (rows_of c.args.machine.now) c.args.budget c.idle_turn.result (search rules)
    (λ driving. c.idle_turn.ensures (design_of c.args.plan.now) (rows_of c.args.machine.now) c.args.instance driving c.requires.machine.state)

pub run_seq-loop-part-init : goal.run_seq-loop-part-init
run_seq-loop-part-init t c = (
  c.requires.machine,
  omega arith,
  seq_start (design_of c.args.plan.now) c.args.instance c.args.parts.now (rows_of c.args.machine.now) c.args.budget (search rules),
  seq_counts_start (design_of c.args.plan.now) c.args.instance c.args.parts.now (rows_of c.args.machine.now) (plain_counts c.args.counts.now) c.args.budget,
  refl,
)

pub run_seq-run_statement-requires : goal.run_seq-run_statement-requires
run_seq-run_statement-requires t c = (
  omega (arith, c.decreases, part_falls c.args.parts.now c.loop-part.part-index c.part-item.result (omega arith) c.part-item.is),
  (
    c.requires.plan,
    (
      c.loop-part.invariant.0,
      (
        c.requires.instance,
        part_stands (design_of c.args.plan.now) c.args.instance c.args.parts.now c.loop-part.part-index c.part-item.result (omega arith) c.part-item.is c.requires.parts,
      ),
    ),
  ),
)

pub run_seq-returns-in-Fault-clause-done : goal.run_seq-returns-in-Fault-clause-done
run_seq-returns-in-Fault-clause-done t c =
    seq_stop (design_of c.args.plan.now) c.args.instance c.args.parts.now (rows_of c.args.machine.now) (rows_of c.loop-part.machine) (form_does (Seq (plain_statements c.args.parts.now))) c.args.budget c.loop-part.spent c.loop-part.part-index c.part-item.result
    (omega arith) c.part-item.is (rows_of c.run_statement.new.machine) (Fault c.in-Fault.fault c.in-Fault.turn) tt c.loop-part.invariant.2 c.in-Fault.ensures.done

pub run_seq-returns-in-More-clause-done : goal.run_seq-returns-in-More-clause-done
run_seq-returns-in-More-clause-done t c =
    seq_stop (design_of c.args.plan.now) c.args.instance c.args.parts.now (rows_of c.args.machine.now) (rows_of c.loop-part.machine) (form_does (Seq (plain_statements c.args.parts.now))) c.args.budget c.loop-part.spent c.loop-part.part-index c.part-item.result
    (omega arith) c.part-item.is (rows_of c.run_statement.new.machine) More tt c.loop-part.invariant.2 c.in-More.ensures.done

pub run_seq-loop-part-preserved : goal.run_seq-loop-part-preserved
run_seq-loop-part-preserved t c =
    let within : c.in-End.turns ≤ c.args.budget - c.loop-part.spent = c.in-End.ensures.done.within in (
      c.run_statement.ensures.machine,
      omega (arith, within, c.loop-part.invariant.1),
      seq_next (design_of c.args.plan.now) c.args.instance c.args.parts.now (rows_of c.args.machine.now) (rows_of c.loop-part.machine) (rows_of c.run_statement.new.machine) (form_does (Seq (plain_statements c.args.parts.now))) c.args.budget c.loop-part.spent
          c.loop-part.part-index c.in-End.turns c.part-item.result (omega arith) c.part-item.is c.loop-part.invariant.2 c.in-End.ensures.done,
      seq_counts_next (design_of c.args.plan.now) c.args.instance c.args.parts.now (rows_of c.args.machine.now) (rows_of c.loop-part.machine) (rows_of c.run_statement.new.machine) (plain_counts c.args.counts.now) (plain_counts c.loop-part.counts)
          (plain_counts c.run_statement.new.counts) c.args.budget c.loop-part.spent c.loop-part.part-index c.in-End.turns c.part-item.result (omega arith) c.part-item.is c.loop-part.invariant.3 c.in-End.ensures.counted.shape c.in-End.ensures.done
          (c.in-End.ensures.counted.grows c.in-End.turns refl),
      c.in-End.ensures.counted.shape ∙ c.loop-part.invariant.4,
    )

pub run_seq-returns-clause-done : goal.run_seq-returns-clause-done
run_seq-returns-clause-done t c =
    seq_ended (design_of c.args.plan.now) c.args.instance c.args.parts.now (rows_of c.args.machine.now) (rows_of c.loop-part.machine) (form_does (Seq (plain_statements c.args.parts.now))) c.args.budget c.loop-part.spent c.loop-part.part-index
    (omega arith) c.loop-part.invariant.0.state c.loop-part.invariant.2

pub run_statement-run_form-requires : goal.run_statement-run_form-requires
run_statement-run_form-requires t c =
    let whole : plain_statement c.args.statement.now ≡ Placed (plain_form c.args.statement.now.form) c.args.statement.now.place = fold-roll-Statement PlainForm PlainStatement form_step statement_step _ in
    let falls : steps (plain_statement c.args.statement.now) ≡ 1 + form_steps (plain_form c.args.statement.now.form) = ap steps whole in (
      omega (arith, c.decreases, falls),
      (
        c.requires.plan,
        (c.requires.machine, (c.requires.instance, (c.args.statement.now.place, subst (λ s. StandsIn (design_of c.args.plan.now) c.args.instance s) whole c.requires.statement))),
      ),
    )

pub run_statement-returns-clause-done : goal.run_statement-returns-clause-done
run_statement-returns-clause-done t c =
    let whole : plain_statement c.args.statement.now ≡ Placed (plain_form c.args.statement.now.form) c.args.statement.now.place = fold-roll-Statement PlainForm PlainStatement form_step statement_step _ in
    subst (λ s. Done (design_of c.args.plan.now) (rows_of c.args.machine.now) (rows_of c.run_form.new.machine) c.args.instance (statement_drives s) (statement_does s) c.args.budget c.run_form.result) (sym whole) c.run_form.ensures.done

pub run_if-returns-in-Ok-true-clause-done : goal.run_if-returns-in-Ok-true-clause-done
run_if-returns-in-Ok-true-clause-done t c =
    let from : Done (design_of c.args.plan.now) (rows_of c.args.machine.now) (rows_of c.run_statement.new.machine) c.args.instance (statement_drives (plain_statement c.args.yes.now)) (statement_does (plain_statement c.args.yes.now)) (c.args.budget - 1) c.run_statement.result =
    subst (λ m. Done (design_of c.args.plan.now) (rows_of m) (rows_of c.run_statement.new.machine) c.args.instance (statement_drives (plain_statement c.args.yes.now)) (statement_does (plain_statement c.args.yes.now)) (c.args.budget - 1) c.run_statement.result)
    c.in-Ok-true.ensures.same c.run_statement.ensures.done in
    let tested : Tested (design_of c.args.plan.now) (rows_of c.args.machine.now) c.args.instance c.args.port.port c.args.comb (Ok true) =
    subst (λ b. Tested (design_of c.args.plan.now) (rows_of c.args.machine.now) c.args.instance c.args.port.port c.args.comb (Ok b)) c.in-Ok-true.field-0-test c.in-Ok-true.ensures.tested in
    subst (λ a. Done (design_of c.args.plan.now) (rows_of c.args.machine.now) (rows_of c.run_statement.new.machine) c.args.instance (form_drives (If c.args.port c.args.comb (plain_statement c.args.yes.now) (plain_statement c.args.no.now)))
    (form_does (If c.args.port c.args.comb (plain_statement c.args.yes.now) (plain_statement c.args.no.now))) c.args.budget a) (sym c.later.ensures)
    (if_yes (design_of c.args.plan.now) c.args.instance c.args.port c.args.comb (plain_statement c.args.yes.now) (plain_statement c.args.no.now) (rows_of c.args.machine.now) (rows_of c.run_statement.new.machine) c.args.budget c.run_statement.result
    (omega arith) tested from)

pub run_if-returns-in-Ok-false-clause-done : goal.run_if-returns-in-Ok-false-clause-done
run_if-returns-in-Ok-false-clause-done t c =
    let from : Done (design_of c.args.plan.now) (rows_of c.args.machine.now) (rows_of c.run_statement-in-Ok-false.new.machine) c.args.instance (statement_drives (plain_statement c.args.no.now)) (statement_does (plain_statement c.args.no.now)) (c.args.budget - 1) c.run_statement-in-Ok-false.result =
    subst (λ m. Done (design_of c.args.plan.now) (rows_of m) (rows_of c.run_statement-in-Ok-false.new.machine) c.args.instance (statement_drives (plain_statement c.args.no.now)) (statement_does (plain_statement c.args.no.now)) (c.args.budget - 1) c.run_statement-in-Ok-false.result)
    c.in-Ok-false.ensures.same c.run_statement-in-Ok-false.ensures.done in
    let tested : Tested (design_of c.args.plan.now) (rows_of c.args.machine.now) c.args.instance c.args.port.port c.args.comb (Ok false) =
    subst (λ b. Tested (design_of c.args.plan.now) (rows_of c.args.machine.now) c.args.instance c.args.port.port c.args.comb (Ok b)) c.in-Ok-false.field-0-test c.in-Ok-false.ensures.tested in
    subst (λ a. Done (design_of c.args.plan.now) (rows_of c.args.machine.now) (rows_of c.run_statement-in-Ok-false.new.machine) c.args.instance (form_drives (If c.args.port c.args.comb (plain_statement c.args.yes.now) (plain_statement c.args.no.now)))
    (form_does (If c.args.port c.args.comb (plain_statement c.args.yes.now) (plain_statement c.args.no.now))) c.args.budget a) (sym c.later-in-Ok-false.ensures)
    (if_no (design_of c.args.plan.now) c.args.instance c.args.port c.args.comb (plain_statement c.args.yes.now) (plain_statement c.args.no.now) (rows_of c.args.machine.now) (rows_of c.run_statement-in-Ok-false.new.machine) c.args.budget c.run_statement-in-Ok-false.result
    (omega arith) tested from)

pub run_if-returns-in-Err-clause-done : goal.run_if-returns-in-Err-clause-done
run_if-returns-in-Err-clause-done t c =
    subst (λ m. Done (design_of c.args.plan.now) (rows_of c.args.machine.now) (rows_of m) c.args.instance (form_drives (If c.args.port c.args.comb (plain_statement c.args.yes.now) (plain_statement c.args.no.now)))
    (form_does (If c.args.port c.args.comb (plain_statement c.args.yes.now) (plain_statement c.args.no.now))) c.args.budget (Fault c.in-Err.fault 0)) (sym c.in-Err.ensures.same)
    (if_unclear (design_of c.args.plan.now) c.args.instance c.args.port c.args.comb (plain_statement c.args.yes.now) (plain_statement c.args.no.now) (rows_of c.args.machine.now) c.args.budget c.in-Err.fault (omega arith) c.requires.machine.state
    c.in-Err.ensures.tested)

pub run_while-test-requires-clause-port : goal.run_while-test-requires-clause-port
run_while-test-requires-clause-port t c =
    test_port (design_of c.args.plan.now) c.requires.plan.accepted c.requires.plan.design c.args.plan.now.table.rows.items c.args.plan.now.table.children.items c.requires.plan.table c.args.instance
    (While c.args.port c.args.comb (plain_statement c.args.body.now)) c.args.port c.requires.form refl

pub run_while-test-requires-clause-comb : goal.run_while-test-requires-clause-comb
run_while-test-requires-clause-comb t c =
    test_comb (design_of c.args.plan.now) c.requires.plan.accepted c.requires.plan.design c.args.plan.now.table.rows.items c.args.plan.now.table.children.items c.requires.plan.table c.args.instance
    (While c.args.port c.args.comb (plain_statement c.args.body.now)) c.args.comb c.requires.form (λ part w. w)

pub run_while-returns-in-Ok-false-clause-done : goal.run_while-returns-in-Ok-false-clause-done
run_while-returns-in-Ok-false-clause-done t c =
    let tested : Tested (design_of c.args.plan.now) (rows_of c.loop-spent.machine) c.args.instance c.args.port.port c.args.comb (Ok false) =
    subst (λ b. Tested (design_of c.args.plan.now) (rows_of c.loop-spent.machine) c.args.instance c.args.port.port c.args.comb (Ok b)) c.in-Ok-false.field-0-test c.in-Ok-false.ensures.tested in
    subst (λ m. Done (design_of c.args.plan.now) (rows_of c.args.machine.now) (rows_of m) c.args.instance (form_drives (While c.args.port c.args.comb (plain_statement c.args.body.now)))
    (form_does (While c.args.port c.args.comb (plain_statement c.args.body.now))) c.args.budget (End (c.loop-spent.spent + 1))) (sym c.in-Ok-false.ensures.same)
    (while_fails (design_of c.args.plan.now) c.args.instance c.args.port c.args.comb (plain_statement c.args.body.now) (rows_of c.args.machine.now) (rows_of c.loop-spent.machine) c.args.budget c.loop-spent.spent c.loop-spent-test.true
    c.loop-spent.invariant.0.state tested c.loop-spent.invariant.2)

pub run_while-returns-in-Err-clause-done : goal.run_while-returns-in-Err-clause-done
run_while-returns-in-Err-clause-done t c =
    subst (λ m. Done (design_of c.args.plan.now) (rows_of c.args.machine.now) (rows_of m) c.args.instance (form_drives (While c.args.port c.args.comb (plain_statement c.args.body.now)))
    (form_does (While c.args.port c.args.comb (plain_statement c.args.body.now))) c.args.budget (Fault c.in-Err.fault c.loop-spent.spent)) (sym c.in-Err.ensures.same)
    (while_unclear (design_of c.args.plan.now) c.args.instance c.args.port c.args.comb (plain_statement c.args.body.now) (rows_of c.args.machine.now) (rows_of c.loop-spent.machine) c.args.budget c.loop-spent.spent c.in-Err.fault c.loop-spent-test.true
    c.loop-spent.invariant.0.state c.in-Err.ensures.tested c.loop-spent.invariant.2)

pub run_while-loop-spent-preserved : goal.run_while-loop-spent-preserved
run_while-loop-spent-preserved t c =
    let tested : Tested (design_of c.args.plan.now) (rows_of c.loop-spent.machine) c.args.instance c.args.port.port c.args.comb (Ok true) =
    subst (λ b. Tested (design_of c.args.plan.now) (rows_of c.loop-spent.machine) c.args.instance c.args.port.port c.args.comb (Ok b)) c.in-Ok-true.field-0-test c.in-Ok-true.ensures.tested in
    let one : Done (design_of c.args.plan.now) (rows_of c.loop-spent.machine) (rows_of c.run_statement.new.machine) c.args.instance (statement_drives (plain_statement c.args.body.now)) (statement_does (plain_statement c.args.body.now)) (c.args.budget - (c.loop-spent.spent + 1)) (End c.in-End.turns) =
    subst (λ m. Done (design_of c.args.plan.now) (rows_of m) (rows_of c.run_statement.new.machine) c.args.instance (statement_drives (plain_statement c.args.body.now)) (statement_does (plain_statement c.args.body.now)) (c.args.budget - (c.loop-spent.spent + 1)) (End c.in-End.turns))
    c.in-Ok-true.ensures.same c.in-End.ensures.done in
    let within : c.in-End.turns ≤ c.args.budget - (c.loop-spent.spent + 1) = one.within in (
      c.run_statement.ensures.machine,
      omega (arith, within, c.loop-spent-test.true),
      while_body (design_of c.args.plan.now) c.args.instance c.args.port c.args.comb (plain_statement c.args.body.now) (rows_of c.args.machine.now) (rows_of c.loop-spent.machine) c.args.budget c.loop-spent.spent c.loop-spent-test.true tested
          (rows_of c.run_statement.new.machine) c.in-End.turns c.loop-spent.invariant.2 one,
      while_counts_next (design_of c.args.plan.now) c.args.instance c.args.port c.args.comb (plain_statement c.args.body.now) (rows_of c.args.machine.now) (rows_of c.loop-spent.machine) (rows_of c.run_statement.new.machine) (plain_counts c.args.counts.now)
          (plain_counts c.loop-spent.counts) (plain_counts c.run_statement.new.counts) c.args.budget c.loop-spent.spent c.in-End.turns c.loop-spent-test.true tested c.loop-spent.invariant.3 c.in-End.ensures.counted.shape one
          (subst (λ m. GrowsBy (design_of c.args.plan.now) (rows_of m) (plain_counts c.loop-spent.counts) (plain_counts c.run_statement.new.counts) c.args.instance (statement_counts (plain_statement c.args.body.now)) (c.args.budget - (c.loop-spent.spent + 1)))
          c.in-Ok-true.ensures.same (c.in-End.ensures.counted.grows c.in-End.turns refl)),
      c.in-End.ensures.counted.shape ∙ c.loop-spent.invariant.4,
    )

pub run_while-returns-in-Fault-clause-done : goal.run_while-returns-in-Fault-clause-done
run_while-returns-in-Fault-clause-done t c =
    let tested : Tested (design_of c.args.plan.now) (rows_of c.loop-spent.machine) c.args.instance c.args.port.port c.args.comb (Ok true) =
    subst (λ b. Tested (design_of c.args.plan.now) (rows_of c.loop-spent.machine) c.args.instance c.args.port.port c.args.comb (Ok b)) c.in-Ok-true.field-0-test c.in-Ok-true.ensures.tested in
    while_body_stops (design_of c.args.plan.now) c.args.instance c.args.port c.args.comb (plain_statement c.args.body.now) (rows_of c.args.machine.now) (rows_of c.loop-spent.machine) c.args.budget c.loop-spent.spent c.loop-spent-test.true tested
    (rows_of c.run_statement.new.machine) (Fault c.in-Fault.fault c.in-Fault.turn) tt c.loop-spent.invariant.2
    (subst (λ m. Done (design_of c.args.plan.now) (rows_of m) (rows_of c.run_statement.new.machine) c.args.instance (statement_drives (plain_statement c.args.body.now)) (statement_does (plain_statement c.args.body.now)) (c.args.budget - (c.loop-spent.spent + 1)) (Fault c.in-Fault.fault c.in-Fault.turn))
    c.in-Ok-true.ensures.same c.in-Fault.ensures.done)

pub run_while-returns-in-More-clause-done : goal.run_while-returns-in-More-clause-done
run_while-returns-in-More-clause-done t c =
    let tested : Tested (design_of c.args.plan.now) (rows_of c.loop-spent.machine) c.args.instance c.args.port.port c.args.comb (Ok true) =
    subst (λ b. Tested (design_of c.args.plan.now) (rows_of c.loop-spent.machine) c.args.instance c.args.port.port c.args.comb (Ok b)) c.in-Ok-true.field-0-test c.in-Ok-true.ensures.tested in
    while_body_stops (design_of c.args.plan.now) c.args.instance c.args.port c.args.comb (plain_statement c.args.body.now) (rows_of c.args.machine.now) (rows_of c.loop-spent.machine) c.args.budget c.loop-spent.spent c.loop-spent-test.true tested
    (rows_of c.run_statement.new.machine) More tt c.loop-spent.invariant.2
    (subst (λ m. Done (design_of c.args.plan.now) (rows_of m) (rows_of c.run_statement.new.machine) c.args.instance (statement_drives (plain_statement c.args.body.now)) (statement_does (plain_statement c.args.body.now)) (c.args.budget - (c.loop-spent.spent + 1)) More)
    c.in-Ok-true.ensures.same c.in-More.ensures.done)

pub run_while-returns-clause-done : goal.run_while-returns-clause-done
run_while-returns-clause-done t c =
    while_spent (design_of c.args.plan.now) c.args.instance c.args.port c.args.comb (plain_statement c.args.body.now) (rows_of c.args.machine.now) (rows_of c.loop-spent.machine) c.args.budget c.loop-spent.spent c.loop-spent-test.false
    c.loop-spent.invariant.0.state c.loop-spent.invariant.2

pub run_repeat-returns-then-count-eq0-clause-done : goal.run_repeat-returns-then-count-eq0-clause-done
run_repeat-returns-then-count-eq0-clause-done t c =
    repeat_none (design_of c.args.plan.now) c.args.instance (plain_statement c.args.body.now) (rows_of c.args.machine.now) c.args.count c.args.budget c.idle_turn.result c.if-count-eq0.true
    (λ driving. c.idle_turn.ensures (design_of c.args.plan.now) (rows_of c.args.machine.now) c.args.instance driving c.requires.machine.state)

pub run_repeat-loop-round-init : goal.run_repeat-loop-round-init
run_repeat-loop-round-init t c = (
  c.requires.machine,
  omega arith,
  repeat_start (design_of c.args.plan.now) c.args.instance (plain_statement c.args.body.now) (rows_of c.args.machine.now) c.args.count c.args.budget c.if-count-eq0.false,
  repeat_counts_start (design_of c.args.plan.now) c.args.instance (plain_statement c.args.body.now) (rows_of c.args.machine.now) (plain_counts c.args.counts.now) c.args.budget c.args.count,
  refl,
)

pub run_repeat-run_statement-requires : goal.run_repeat-run_statement-requires
run_repeat-run_statement-requires t c = (omega (arith, c.decreases), (c.requires.plan, (c.loop-round.invariant.0, (c.requires.instance, c.requires.body))))

pub run_repeat-returns-in-Fault-clause-done : goal.run_repeat-returns-in-Fault-clause-done
run_repeat-returns-in-Fault-clause-done t c =
    repeat_stop (design_of c.args.plan.now) c.args.instance (plain_statement c.args.body.now) (rows_of c.args.machine.now) (rows_of c.loop-round.machine) (form_does (Repeat c.args.count (plain_statement c.args.body.now))) c.args.budget c.loop-round.spent c.args.count c.loop-round._round
    c.loop-round-test.true c.loop-round.invariant.2 (rows_of c.run_statement.new.machine) (Fault c.in-Fault.fault c.in-Fault.turn) tt c.in-Fault.ensures.done

pub run_repeat-returns-in-More-clause-done : goal.run_repeat-returns-in-More-clause-done
run_repeat-returns-in-More-clause-done t c =
    repeat_stop (design_of c.args.plan.now) c.args.instance (plain_statement c.args.body.now) (rows_of c.args.machine.now) (rows_of c.loop-round.machine) (form_does (Repeat c.args.count (plain_statement c.args.body.now))) c.args.budget c.loop-round.spent c.args.count c.loop-round._round
    c.loop-round-test.true c.loop-round.invariant.2 (rows_of c.run_statement.new.machine) More tt c.in-More.ensures.done

pub run_repeat-loop-round-preserved : goal.run_repeat-loop-round-preserved
run_repeat-loop-round-preserved t c =
    let within : c.in-End.turns ≤ c.args.budget - c.loop-round.spent = c.in-End.ensures.done.within in (
      c.run_statement.ensures.machine,
      omega (arith, within, c.loop-round.invariant.1),
      repeat_after (design_of c.args.plan.now) c.args.instance (plain_statement c.args.body.now) (rows_of c.args.machine.now) (rows_of c.loop-round.machine) (form_does (Repeat c.args.count (plain_statement c.args.body.now))) c.args.budget c.loop-round.spent c.args.count c.loop-round._round
          c.loop-round-test.true c.loop-round.invariant.2 (rows_of c.run_statement.new.machine) c.in-End.turns c.in-End.ensures.done,
      repeat_counts_next (design_of c.args.plan.now) c.args.instance (plain_statement c.args.body.now) (rows_of c.args.machine.now) (rows_of c.loop-round.machine) (rows_of c.run_statement.new.machine) (plain_counts c.args.counts.now)
          (plain_counts c.loop-round.counts) (plain_counts c.run_statement.new.counts) c.args.budget c.loop-round.spent c.args.count c.loop-round._round c.in-End.turns c.loop-round-test.true c.loop-round.invariant.3 c.in-End.ensures.counted.shape
          c.in-End.ensures.done (c.in-End.ensures.counted.grows c.in-End.turns refl),
      c.in-End.ensures.counted.shape ∙ c.loop-round.invariant.4,
    )

pub run_repeat-returns-clause-done : goal.run_repeat-returns-clause-done
run_repeat-returns-clause-done t c =
    repeat_end (design_of c.args.plan.now) c.args.instance (plain_statement c.args.body.now) (rows_of c.args.machine.now) (rows_of c.loop-round.machine) (form_does (Repeat c.args.count (plain_statement c.args.body.now))) c.args.budget c.loop-round.spent
    (c.args.count - c.loop-round._round) (omega arith) c.loop-round.invariant.0.state c.loop-round.invariant.2

pub run_par-returns-then-is_empty-clause-done : goal.run_par-returns-then-is_empty-clause-done
run_par-returns-then-is_empty-clause-done t c =
    par_empty (design_of c.args.plan.now) c.args.instance c.args.arms.now (rows_of c.args.machine.now) c.args.budget c.idle_turn.result (search rules)
    (λ driving. c.idle_turn.ensures (design_of c.args.plan.now) (rows_of c.args.machine.now) c.args.instance driving c.requires.machine.state)

pub run_par-loop-arm-init : goal.run_par-loop-arm-init
run_par-loop-arm-init t c = (
  c.requires.machine,
  arms_start (design_of c.args.plan.now) c.args.instance (map plain_statement c.args.arms.now) (rows_of c.args.machine.now) c.args.budget c.requires.machine.state,
  counted_none (design_of c.args.plan.now) c.args.instance (rows_of c.args.machine.now) (plain_counts c.args.counts.now) (arms_count []) c.args.budget (End 0) (λ i held s q g. refl),
)

pub run_par-run_statement-answer-requires : goal.run_par-run_statement-answer-requires
run_par-run_statement-answer-requires t c = (
  omega (arith, c.decreases, part_falls c.args.arms.now c.loop-arm.arm-index c.arm-item.result (omega arith) c.arm-item.is),
  (
    c.requires.plan,
    (
      c.loop-arm.invariant.0,
      (
        c.requires.instance,
        part_stands (design_of c.args.plan.now) c.args.instance c.args.arms.now c.loop-arm.arm-index c.arm-item.result (omega arith) c.arm-item.is (par_stands (design_of c.args.plan.now) c.args.instance c.args.arms.now c.requires.form),
      ),
    ),
  ),
)

pub run_par-loop-arm-preserved : goal.run_par-loop-arm-preserved
run_par-loop-arm-preserved t c =
    let list : List PlainStatement = map plain_statement c.args.arms.now in
    let at : slice_get list c.loop-arm.arm-index ≡ Some (plain_statement c.arm-item.result) = arm_is c.args.arms.now c.loop-arm.arm-index c.arm-item.result (omega arith) c.arm-item.is in
    let second : Done (design_of c.args.plan.now) (rows_of c.loop-arm.machine) (rows_of c.run_statement-answer.new.machine) c.args.instance (statement_drives (plain_statement c.arm-item.result)) (statement_does (plain_statement c.arm-item.result)) (limit_of c.args.budget c.loop-arm.joined) c.run_statement-answer.result =
    subst (λ b. Done (design_of c.args.plan.now) (rows_of c.loop-arm.machine) (rows_of c.run_statement-answer.new.machine) c.args.instance (statement_drives (plain_statement c.arm-item.result)) (statement_does (plain_statement c.arm-item.result)) b c.run_statement-answer.result)
    c.limit-turns.ensures c.run_statement-answer.ensures.done in (
      c.run_statement-answer.ensures.machine,
      subst (λ a. Done (design_of c.args.plan.now) (rows_of c.args.machine.now) (rows_of c.run_statement-answer.new.machine) c.args.instance (some_drive (take (c.loop-arm.arm-index + 1) list)) (some_do (take (c.loop-arm.arm-index + 1) list)) c.args.budget a) (sym c.join-joined.ensures)
          (arms_next (design_of c.args.plan.now) c.args.instance list c.requires.form c.loop-arm.arm-index (plain_statement c.arm-item.result) at
          (λ path held v s cur next m o p visited form first other.
          c.next_arm.ensures.numbered (design_of c.args.plan.now) path held v list c.loop-arm.arm-index (plain_statement c.arm-item.result) s cur next m o p c.requires.plan.design c.requires.plan.accepted visited form at first other)
          (rows_of c.args.machine.now) (rows_of c.loop-arm.machine) (rows_of c.run_statement-answer.new.machine) c.args.budget c.loop-arm.joined c.run_statement-answer.result c.loop-arm.invariant.1 second),
      subst (λ a. Counted (design_of c.args.plan.now) (rows_of c.args.machine.now) (plain_counts c.args.counts.now) (plain_counts c.run_statement-answer.new.counts) c.args.instance (arms_count (take (c.loop-arm.arm-index + 1) list)) c.args.budget a) (sym c.join-joined.ensures)
          (arms_counted (design_of c.args.plan.now) c.args.instance list c.loop-arm.arm-index (plain_statement c.arm-item.result)
          (λ path held s cur m budget o number ran.
          c.arms_add_up.ensures (design_of c.args.plan.now) path held (record { context = Dynamic; form = Par (statements_of list); place = c.requires.form.0 }) list c.loop-arm.arm-index (plain_statement c.arm-item.result) s cur m budget o c.requires.plan.design
          c.requires.plan.accepted (par_there (design_of c.args.plan.now) c.args.instance list c.requires.form path number) refl at ran)
          (rows_of c.args.machine.now) (rows_of c.loop-arm.machine) (plain_counts c.args.counts.now) (plain_counts c.loop-arm.counts) (plain_counts c.run_statement-answer.new.counts) c.args.budget c.loop-arm.joined c.run_statement-answer.result
          c.loop-arm.invariant.1 c.loop-arm.invariant.2
          (subst (λ b. Counted (design_of c.args.plan.now) (rows_of c.loop-arm.machine) (plain_counts c.loop-arm.counts) (plain_counts c.run_statement-answer.new.counts) c.args.instance (statement_counts (plain_statement c.arm-item.result)) b c.run_statement-answer.result)
          c.limit-turns.ensures c.run_statement-answer.ensures.counted)),
    )

pub run_par-returns-clause-done : goal.run_par-returns-clause-done
run_par-returns-clause-done t c =
    let list : List PlainStatement = map plain_statement c.args.arms.now in
    let count : length list ≡ length c.args.arms.now = map_length c.args.arms.now in
    let filled : length c.args.arms.now ≢ 0 = search rules in
    let some : 1 ≤ length list = omega (arith, count, filled) in
    arms_end (design_of c.args.plan.now) c.args.instance list c.requires.form
    (λ i held place s after m o enough ran. c.whole_par.ensures.listed i held list place s after m o enough ran)
    c.loop-arm.arm-index (take_all list c.loop-arm.arm-index (omega (arith, count))) some (rows_of c.args.machine.now) (rows_of c.loop-arm.machine) c.args.budget c.loop-arm.joined c.loop-arm.invariant.1

pub run_form-run_enable-requires : goal.run_form-run_enable-requires
run_form-run_enable-requires t c =
    let whole : plain_form c.args.form.now ≡ Enable c.in-Enable.group = ap plain_form c.in-Enable.is ∙ ap plain_form (sym (forms.rolls-Enable c.in-Enable.group)) ∙ fold-roll-Form PlainForm PlainStatement form_step statement_step _ in
    let falls : form_steps (plain_form c.args.form.now) ≡ 1 = ap form_steps whole in (
      omega (arith, c.decreases, falls),
      (
        c.requires.plan,
        (
          c.requires.machine,
          (
            c.requires.instance,
            (
              c.requires.form,
              (
                whole,
                enabled_group (design_of c.args.plan.now) c.requires.plan.accepted c.requires.plan.design c.args.plan.now.table.rows.items c.args.plan.now.table.children.items c.requires.plan.table c.args.instance c.in-Enable.group
                    (subst (λ f. FormStands (design_of c.args.plan.now) c.args.instance f) whole c.requires.form),
              ),
            ),
          ),
        ),
      ),
    )

pub run_enable-returns-in-None-clause-done : goal.run_enable-returns-in-None-clause-done
run_enable-returns-in-None-clause-done t c =
    subst (λ f. Done (design_of c.args.plan.now) (rows_of c.args.machine.now) (rows_of c.run_dynamic.new.machine) c.args.instance (form_drives f) (form_does f) c.args.budget c.run_dynamic.result) (sym c.requires.enable) c.run_dynamic.ensures.done

pub run_enable-run_island-requires-clause-island : goal.run_enable-run_island-requires-clause-island
run_enable-run_island-requires-clause-island t c =
    enable_is_island (design_of c.args.plan.now) c.args.instance c.args.group c.in-Some.field-0 (plain_form c.args.form.now) c.requires.enable c.in-Some.ensures

pub run_dynamic-run_group-requires-clause-within : goal.run_dynamic-run_group-requires-clause-within
run_dynamic-run_group-requires-clause-within t c =
    subst (λ xs. ListWithin (design_of c.args.plan.now) c.args.instance xs) (sym c.as_slice.ensures.value)
    (row_within (design_of c.args.plan.now) c.requires.plan.design c.args.plan.now.table.rows.items c.args.plan.now.table.children.items c.requires.plan.table c.args.instance c.args.group c.group_row-row.result.now c.requires.group c.group_row-row.ensures)

pub run_dynamic-run_group-requires-clause-ascending : goal.run_dynamic-run_group-requires-clause-ascending
run_dynamic-run_group-requires-clause-ascending t c =
    subst (λ xs. IsAscending xs) (sym c.as_slice.ensures.value) (row_ascends (design_of c.args.plan.now) c.args.instance c.args.group c.group_row-row.result.now c.requires.instance c.group_row-row.ensures)

pub run_dynamic-returns-in-None-clause-done : goal.run_dynamic-returns-in-None-clause-done
run_dynamic-returns-in-None-clause-done t c =
    enable_turns (design_of c.args.plan.now) c.args.instance c.args.group c.group_row-row.result.now (rows_of c.args.machine.now) (rows_of c.run_group.new.machine) c.args.budget c.run_group.result c.group_row-row.ensures c.requires.dynamic c.in-None.is
    c.run_group.ensures.done

pub run_call-child_number-child-requires-clause-part : goal.run_call-child_number-child-requires-clause-part
run_call-child_number-child-requires-clause-part t c = callee_part (design_of c.args.plan.now) c.args.instance c.args.group c.args.cell c.args.row.now c.requires.row c.requires.callee

pub run_call-hold_inputs-requires-clause-part : goal.run_call-hold_inputs-requires-clause-part
run_call-hold_inputs-requires-clause-part t c = callee_part (design_of c.args.plan.now) c.args.instance c.args.group c.args.cell c.args.row.now c.requires.row c.requires.callee

pub run_call-control_of-control-requires-clause-instance : goal.run_call-control_of-control-requires-clause-instance
run_call-control_of-control-requires-clause-instance t c = child_instance (design_of c.args.plan.now) c.args.instance c.args.cell c.child_number-child.result c.requires.instance c.child_number-child.ensures

pub run_call-run_statement-answer-requires : goal.run_call-run_statement-answer-requires
run_call-run_statement-answer-requires t c = (
  omega (
    arith,
    c.decreases,
    child_less (design_of c.args.plan.now) c.args.instance c.args.cell c.child_number-child.result (plain_statement c.control_of-control.result.now) c.requires.instance
        (callee_part (design_of c.args.plan.now) c.args.instance c.args.group c.args.cell c.args.row.now c.requires.row c.requires.callee) c.child_number-child.ensures c.control_of-control.ensures,
  ),
  (
    c.requires.plan,
    (
      c.hold_inputs.ensures.machine,
      (
        child_instance (design_of c.args.plan.now) c.args.instance c.args.cell c.child_number-child.result c.requires.instance c.child_number-child.ensures,
        control_stands (design_of c.args.plan.now) c.child_number-child.result (plain_statement c.control_of-control.result.now) c.control_of-control.ensures,
      ),
    ),
  ),
)

pub run_call-returns-clause-done : goal.run_call-returns-clause-done
run_call-returns-clause-done t c =
    enable_call (design_of c.args.plan.now) c.args.instance c.args.group c.args.cell c.args.row.now (rows_of c.args.machine.now) (rows_of c.end_call.new.machine) c.args.budget c.end_call.result c.requires.row c.requires.dynamic c.requires.callee
    (c.end_call.ensures.done (rows_of c.args.machine.now) (child_does c.args.group c.args.cell)
    (done_lifted (design_of c.args.plan.now) c.args.instance c.args.group c.args.cell c.child_number-child.result (λ path at. sym (c.requires.row path at).callee ∙ c.requires.callee) c.child_number-child.ensures
    (λ path held other s m same. c.own_inputs_suffice.ensures (design_of c.args.plan.now) path held other s m c.requires.plan.design c.requires.plan.accepted same)
    (rows_of c.args.machine.now) (rows_of c.hold_inputs.new.machine) (rows_of c.run_statement-answer.new.machine) (plain_statement c.control_of-control.result.now) c.args.budget c.run_statement-answer.result c.control_of-control.ensures
    c.hold_inputs.ensures.held c.run_statement-answer.ensures.done))

pub run_form-returns-in-Empty-clause-counted : goal.run_form-returns-in-Empty-clause-counted
run_form-returns-in-Empty-clause-counted t c =
    let whole : plain_form c.args.form.now ≡ Empty = ap plain_form c.in-Empty.is ∙ ap plain_form (sym forms.rolls-Empty) ∙ fold-roll-Form PlainForm PlainStatement form_step statement_step _ in
    subst (λ f. Counted (design_of c.args.plan.now) (rows_of c.args.machine.now) (plain_counts c.args.counts.now) (plain_counts c.args.counts.now) c.args.instance (form_counts f) c.args.budget c.idle_turn.result) (sym whole)
    (counted_none (design_of c.args.plan.now) c.args.instance (rows_of c.args.machine.now) (plain_counts c.args.counts.now) (form_counts Empty) c.args.budget c.idle_turn.result (λ i held s q g. refl))

pub run_form-returns-in-StaticInvoke-clause-counted : goal.run_form-returns-in-StaticInvoke-clause-counted
run_form-returns-in-StaticInvoke-clause-counted t c = counted_stops (design_of c.args.plan.now) c.args.instance (rows_of c.args.machine.now) (plain_counts c.args.counts.now) (plain_counts c.args.counts.now) (form_counts (plain_form c.args.form.now)) c.args.budget _ tt refl

pub run_form-returns-in-Timed-clause-counted : goal.run_form-returns-in-Timed-clause-counted
run_form-returns-in-Timed-clause-counted t c = counted_stops (design_of c.args.plan.now) c.args.instance (rows_of c.args.machine.now) (plain_counts c.args.counts.now) (plain_counts c.args.counts.now) (form_counts (plain_form c.args.form.now)) c.args.budget _ tt refl

pub run_statement-returns-clause-counted : goal.run_statement-returns-clause-counted
run_statement-returns-clause-counted t c =
    let whole : plain_statement c.args.statement.now ≡ Placed (plain_form c.args.statement.now.form) c.args.statement.now.place = fold-roll-Statement PlainForm PlainStatement form_step statement_step _ in
    subst (λ s. Counted (design_of c.args.plan.now) (rows_of c.args.machine.now) (plain_counts c.args.counts.now) (plain_counts c.run_form.new.counts) c.args.instance (statement_counts s) c.args.budget c.run_form.result) (sym whole) c.run_form.ensures.counted

pub run_seq-returns-then-is_empty-clause-counted : goal.run_seq-returns-then-is_empty-clause-counted
run_seq-returns-then-is_empty-clause-counted t c =
    let none : length c.args.parts.now ≡ 0 = search rules in
    counted_none (design_of c.args.plan.now) c.args.instance (rows_of c.args.machine.now) (plain_counts c.args.counts.now) (form_counts (Seq (plain_statements c.args.parts.now))) c.args.budget c.idle_turn.result (λ i held s q g. seq_none c.args.parts.now none i held s c.args.budget q g)

pub run_seq-returns-in-Fault-clause-counted : goal.run_seq-returns-in-Fault-clause-counted
run_seq-returns-in-Fault-clause-counted t c = counted_stops (design_of c.args.plan.now) c.args.instance (rows_of c.args.machine.now) (plain_counts c.args.counts.now) (plain_counts c.run_statement.new.counts) (form_counts (Seq (plain_statements c.args.parts.now))) c.args.budget _ tt (c.in-Fault.ensures.counted.shape ∙ c.loop-part.invariant.4)

pub run_seq-returns-in-More-clause-counted : goal.run_seq-returns-in-More-clause-counted
run_seq-returns-in-More-clause-counted t c = counted_stops (design_of c.args.plan.now) c.args.instance (rows_of c.args.machine.now) (plain_counts c.args.counts.now) (plain_counts c.run_statement.new.counts) (form_counts (Seq (plain_statements c.args.parts.now))) c.args.budget _ tt (c.in-More.ensures.counted.shape ∙ c.loop-part.invariant.4)

pub run_seq-returns-clause-counted : goal.run_seq-returns-clause-counted
run_seq-returns-clause-counted t c =
    counted_grows (design_of c.args.plan.now) c.args.instance (rows_of c.args.machine.now) (plain_counts c.args.counts.now) (plain_counts c.loop-part.counts) (form_counts (Seq (plain_statements c.args.parts.now))) c.args.budget _ c.loop-part.invariant.4
    (seq_counts_end (design_of c.args.plan.now) c.args.instance c.args.parts.now (rows_of c.args.machine.now) (rows_of c.loop-part.machine) (plain_counts c.args.counts.now) (plain_counts c.loop-part.counts) c.args.budget c.loop-part.spent c.loop-part.part-index (omega arith) c.loop-part.invariant.3)

pub run_par-returns-then-is_empty-clause-counted : goal.run_par-returns-then-is_empty-clause-counted
run_par-returns-then-is_empty-clause-counted t c =
    let none : length c.args.arms.now ≡ 0 = search rules in
    counted_none (design_of c.args.plan.now) c.args.instance (rows_of c.args.machine.now) (plain_counts c.args.counts.now) (form_counts (Par (plain_statements c.args.arms.now))) c.args.budget c.idle_turn.result (λ i held s q g. par_none c.args.arms.now none i held s c.args.budget q g)

pub run_par-returns-clause-counted : goal.run_par-returns-clause-counted
run_par-returns-clause-counted t c =
    let list : List PlainStatement = map plain_statement c.args.arms.now in
    let count : length list ≡ length c.args.arms.now = map_length c.args.arms.now in
    subst (λ xs. Counted (design_of c.args.plan.now) (rows_of c.args.machine.now) (plain_counts c.args.counts.now) (plain_counts c.loop-arm.counts) c.args.instance (arms_count xs) c.args.budget c.loop-arm.joined) (take_all list c.loop-arm.arm-index (omega (arith, count))) c.loop-arm.invariant.2

pub run_if-returns-then-budget-eq0-clause-counted : goal.run_if-returns-then-budget-eq0-clause-counted
run_if-returns-then-budget-eq0-clause-counted t c = counted_stops (design_of c.args.plan.now) c.args.instance (rows_of c.args.machine.now) (plain_counts c.args.counts.now) (plain_counts c.args.counts.now) (form_counts (If c.args.port c.args.comb (plain_statement c.args.yes.now) (plain_statement c.args.no.now))) c.args.budget _ tt refl

pub run_if-returns-in-Err-clause-counted : goal.run_if-returns-in-Err-clause-counted
run_if-returns-in-Err-clause-counted t c = counted_stops (design_of c.args.plan.now) c.args.instance (rows_of c.args.machine.now) (plain_counts c.args.counts.now) (plain_counts c.args.counts.now) (form_counts (If c.args.port c.args.comb (plain_statement c.args.yes.now) (plain_statement c.args.no.now))) c.args.budget _ tt refl

pub run_if-returns-in-Ok-true-clause-counted : goal.run_if-returns-in-Ok-true-clause-counted
run_if-returns-in-Ok-true-clause-counted t c =
    let from : Counted (design_of c.args.plan.now) (rows_of c.args.machine.now) (plain_counts c.args.counts.now) (plain_counts c.run_statement.new.counts) c.args.instance (statement_counts (plain_statement c.args.yes.now)) (c.args.budget - 1) c.run_statement.result =
    subst (λ m. Counted (design_of c.args.plan.now) (rows_of m) (plain_counts c.args.counts.now) (plain_counts c.run_statement.new.counts) c.args.instance (statement_counts (plain_statement c.args.yes.now)) (c.args.budget - 1) c.run_statement.result)
    c.in-Ok-true.ensures.same c.run_statement.ensures.counted in
    let tested : Tested (design_of c.args.plan.now) (rows_of c.args.machine.now) c.args.instance c.args.port.port c.args.comb (Ok true) =
    subst (λ b. Tested (design_of c.args.plan.now) (rows_of c.args.machine.now) c.args.instance c.args.port.port c.args.comb (Ok b)) c.in-Ok-true.field-0-test c.in-Ok-true.ensures.tested in
    subst (λ a. Counted (design_of c.args.plan.now) (rows_of c.args.machine.now) (plain_counts c.args.counts.now) (plain_counts c.run_statement.new.counts) c.args.instance (form_counts (If c.args.port c.args.comb (plain_statement c.args.yes.now) (plain_statement c.args.no.now))) c.args.budget a) (sym c.later.ensures)
    (if_counts_yes (design_of c.args.plan.now) c.args.instance c.args.port c.args.comb (plain_statement c.args.yes.now) (plain_statement c.args.no.now) (rows_of c.args.machine.now) (plain_counts c.args.counts.now) (plain_counts c.run_statement.new.counts) c.args.budget c.run_statement.result (omega arith) tested from)

pub run_if-returns-in-Ok-false-clause-counted : goal.run_if-returns-in-Ok-false-clause-counted
run_if-returns-in-Ok-false-clause-counted t c =
    let from : Counted (design_of c.args.plan.now) (rows_of c.args.machine.now) (plain_counts c.args.counts.now) (plain_counts c.run_statement-in-Ok-false.new.counts) c.args.instance (statement_counts (plain_statement c.args.no.now)) (c.args.budget - 1) c.run_statement-in-Ok-false.result =
    subst (λ m. Counted (design_of c.args.plan.now) (rows_of m) (plain_counts c.args.counts.now) (plain_counts c.run_statement-in-Ok-false.new.counts) c.args.instance (statement_counts (plain_statement c.args.no.now)) (c.args.budget - 1) c.run_statement-in-Ok-false.result)
    c.in-Ok-false.ensures.same c.run_statement-in-Ok-false.ensures.counted in
    let tested : Tested (design_of c.args.plan.now) (rows_of c.args.machine.now) c.args.instance c.args.port.port c.args.comb (Ok false) =
    subst (λ b. Tested (design_of c.args.plan.now) (rows_of c.args.machine.now) c.args.instance c.args.port.port c.args.comb (Ok b)) c.in-Ok-false.field-0-test c.in-Ok-false.ensures.tested in
    subst (λ a. Counted (design_of c.args.plan.now) (rows_of c.args.machine.now) (plain_counts c.args.counts.now) (plain_counts c.run_statement-in-Ok-false.new.counts) c.args.instance (form_counts (If c.args.port c.args.comb (plain_statement c.args.yes.now) (plain_statement c.args.no.now))) c.args.budget a) (sym c.later-in-Ok-false.ensures)
    (if_counts_no (design_of c.args.plan.now) c.args.instance c.args.port c.args.comb (plain_statement c.args.yes.now) (plain_statement c.args.no.now) (rows_of c.args.machine.now) (plain_counts c.args.counts.now) (plain_counts c.run_statement-in-Ok-false.new.counts) c.args.budget c.run_statement-in-Ok-false.result (omega arith) tested from)

pub run_while-returns-in-Ok-false-clause-counted : goal.run_while-returns-in-Ok-false-clause-counted
run_while-returns-in-Ok-false-clause-counted t c =
    let tested : Tested (design_of c.args.plan.now) (rows_of c.loop-spent.machine) c.args.instance c.args.port.port c.args.comb (Ok false) =
    subst (λ b. Tested (design_of c.args.plan.now) (rows_of c.loop-spent.machine) c.args.instance c.args.port.port c.args.comb (Ok b)) c.in-Ok-false.field-0-test c.in-Ok-false.ensures.tested in
    counted_grows (design_of c.args.plan.now) c.args.instance (rows_of c.args.machine.now) (plain_counts c.args.counts.now) (plain_counts c.loop-spent.counts) (form_counts (While c.args.port c.args.comb (plain_statement c.args.body.now))) c.args.budget _ c.loop-spent.invariant.4
    (while_counts_end (design_of c.args.plan.now) c.args.instance c.args.port c.args.comb (plain_statement c.args.body.now) (rows_of c.args.machine.now) (rows_of c.loop-spent.machine) (plain_counts c.args.counts.now) (plain_counts c.loop-spent.counts) c.args.budget c.loop-spent.spent c.loop-spent-test.true tested
    c.loop-spent.invariant.3)

pub run_while-returns-in-Err-clause-counted : goal.run_while-returns-in-Err-clause-counted
run_while-returns-in-Err-clause-counted t c = counted_stops (design_of c.args.plan.now) c.args.instance (rows_of c.args.machine.now) (plain_counts c.args.counts.now) (plain_counts c.loop-spent.counts) (form_counts (While c.args.port c.args.comb (plain_statement c.args.body.now))) c.args.budget _ tt c.loop-spent.invariant.4

pub run_while-returns-clause-counted : goal.run_while-returns-clause-counted
run_while-returns-clause-counted t c = counted_stops (design_of c.args.plan.now) c.args.instance (rows_of c.args.machine.now) (plain_counts c.args.counts.now) (plain_counts c.loop-spent.counts) (form_counts (While c.args.port c.args.comb (plain_statement c.args.body.now))) c.args.budget _ tt c.loop-spent.invariant.4

pub run_while-returns-in-Fault-clause-counted : goal.run_while-returns-in-Fault-clause-counted
run_while-returns-in-Fault-clause-counted t c = counted_stops (design_of c.args.plan.now) c.args.instance (rows_of c.args.machine.now) (plain_counts c.args.counts.now) (plain_counts c.run_statement.new.counts) (form_counts (While c.args.port c.args.comb (plain_statement c.args.body.now))) c.args.budget _ tt (c.in-Fault.ensures.counted.shape ∙ c.loop-spent.invariant.4)

pub run_while-returns-in-More-clause-counted : goal.run_while-returns-in-More-clause-counted
run_while-returns-in-More-clause-counted t c = counted_stops (design_of c.args.plan.now) c.args.instance (rows_of c.args.machine.now) (plain_counts c.args.counts.now) (plain_counts c.run_statement.new.counts) (form_counts (While c.args.port c.args.comb (plain_statement c.args.body.now))) c.args.budget _ tt (c.in-More.ensures.counted.shape ∙ c.loop-spent.invariant.4)

pub run_while-loop-spent-init : goal.run_while-loop-spent-init
run_while-loop-spent-init t c = (
  c.requires.machine,
  omega arith,
  while_start (design_of c.args.plan.now) c.args.instance c.args.port c.args.comb (plain_statement c.args.body.now) (rows_of c.args.machine.now) c.args.budget,
  while_counts_start (design_of c.args.plan.now) c.args.instance c.args.port c.args.comb (plain_statement c.args.body.now) (rows_of c.args.machine.now) (plain_counts c.args.counts.now) c.args.budget,
  refl,
)

pub run_repeat-returns-then-count-eq0-clause-counted : goal.run_repeat-returns-then-count-eq0-clause-counted
run_repeat-returns-then-count-eq0-clause-counted t c =
    subst (λ k. Counted (design_of c.args.plan.now) (rows_of c.args.machine.now) (plain_counts c.args.counts.now) (plain_counts c.args.counts.now) c.args.instance (form_counts (Repeat k (plain_statement c.args.body.now))) c.args.budget c.idle_turn.result) (sym c.if-count-eq0.true)
    (counted_none (design_of c.args.plan.now) c.args.instance (rows_of c.args.machine.now) (plain_counts c.args.counts.now) (form_counts (Repeat 0 (plain_statement c.args.body.now))) c.args.budget c.idle_turn.result (λ i held s q g. refl))

pub run_repeat-returns-in-Fault-clause-counted : goal.run_repeat-returns-in-Fault-clause-counted
run_repeat-returns-in-Fault-clause-counted t c = counted_stops (design_of c.args.plan.now) c.args.instance (rows_of c.args.machine.now) (plain_counts c.args.counts.now) (plain_counts c.run_statement.new.counts) (form_counts (Repeat c.args.count (plain_statement c.args.body.now))) c.args.budget _ tt (c.in-Fault.ensures.counted.shape ∙ c.loop-round.invariant.4)

pub run_repeat-returns-in-More-clause-counted : goal.run_repeat-returns-in-More-clause-counted
run_repeat-returns-in-More-clause-counted t c = counted_stops (design_of c.args.plan.now) c.args.instance (rows_of c.args.machine.now) (plain_counts c.args.counts.now) (plain_counts c.run_statement.new.counts) (form_counts (Repeat c.args.count (plain_statement c.args.body.now))) c.args.budget _ tt (c.in-More.ensures.counted.shape ∙ c.loop-round.invariant.4)

pub run_repeat-returns-clause-counted : goal.run_repeat-returns-clause-counted
run_repeat-returns-clause-counted t c =
    counted_grows (design_of c.args.plan.now) c.args.instance (rows_of c.args.machine.now) (plain_counts c.args.counts.now) (plain_counts c.loop-round.counts) (form_counts (Repeat c.args.count (plain_statement c.args.body.now))) c.args.budget _ c.loop-round.invariant.4
    (repeat_counts_end (design_of c.args.plan.now) c.args.instance (plain_statement c.args.body.now) (rows_of c.args.machine.now) (rows_of c.loop-round.machine) (plain_counts c.args.counts.now) (plain_counts c.loop-round.counts) c.args.budget c.loop-round.spent c.args.count c.loop-round._round (omega arith)
    c.loop-round.invariant.3)

pub run_enable-returns-in-None-clause-counted : goal.run_enable-returns-in-None-clause-counted
run_enable-returns-in-None-clause-counted t c =
    subst (λ f. Counted (design_of c.args.plan.now) (rows_of c.args.machine.now) (plain_counts c.args.counts.now) (plain_counts c.run_dynamic.new.counts) c.args.instance (form_counts f) c.args.budget c.run_dynamic.result) (sym c.requires.enable) c.run_dynamic.ensures.counted

pub run_dynamic-returns-in-None-clause-counted : goal.run_dynamic-returns-in-None-clause-counted
run_dynamic-returns-in-None-clause-counted t c =
    counted_same_at (design_of c.args.plan.now) c.args.instance (rows_of c.args.machine.now) (plain_counts c.args.counts.now) (plain_counts c.run_group.new.counts) (turns_count_of c.args.group) (form_counts (Enable c.args.group)) c.args.budget c.run_group.result
    (λ path held s number q g.
    ap (λ (x : Tally). x q g) (count_turns (instance_at (tree_of (design_of c.args.plan.now)) path) held c.args.group s c.args.budget (sym (c.requires.dynamic path number)) (sym (c.group_row-row.ensures path number).callee ∙ c.in-None.is)))
    c.run_group.ensures.counted

pub run_call-returns-clause-counted : goal.run_call-returns-clause-counted
run_call-returns-clause-counted t c =
    let called_there = λ (path : Path) (at : IsNumber (design_of c.args.plan.now) c.args.instance path). sym (c.requires.row path at).callee ∙ c.requires.callee in
    record {
      shape = c.run_statement-answer.ensures.counted.shape;
      grows = λ turns e.
          let first = c.end_call.ensures.ends turns e in
          by_same_at (design_of c.args.plan.now) c.args.instance (rows_of c.args.machine.now) (plain_counts c.args.counts.now) (plain_counts c.run_statement-answer.new.counts) (child_counts c.args.group c.args.cell) (form_counts (Enable c.args.group)) c.args.budget
          (λ path held s number q g. ap (λ (x : Tally). x q g) (count_call (instance_at (tree_of (design_of c.args.plan.now)) path) held c.args.group s c.args.budget c.args.cell (sym (c.requires.dynamic path number)) (called_there path number)))
          (child_grows (design_of c.args.plan.now) c.args.instance c.args.group c.args.cell c.child_number-child.result called_there c.child_number-child.ensures
          (λ path held other s m same q g. c.own_inputs_suffice_for_counts.ensures (design_of c.args.plan.now) path held other s m c.requires.plan.design c.requires.plan.accepted same q g)
          (rows_of c.args.machine.now) (rows_of c.hold_inputs.new.machine) (plain_statement c.control_of-control.result.now) c.args.budget c.control_of-control.ensures c.hold_inputs.ensures.held (plain_counts c.args.counts.now) (plain_counts c.run_statement-answer.new.counts)
          (c.run_statement-answer.ensures.counted.grows first.0 first.1));
    }
