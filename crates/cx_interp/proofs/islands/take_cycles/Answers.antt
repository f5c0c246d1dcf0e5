use Rattle.std.proofs.Common.{◌≡◌, ◌+◌, ◌<◌, ◌≤◌, ℕ, Vec, Global, suc, refl, sym, ◌∙◌, subst, arith}
use Rattle.cx_meaning.specs.Designs.{PlainComponent, PlainForm}
use Rattle.cx_meaning.specs.Control as control
use Rattle.cx_meaning.specs.Islands.{form_length}
use Rattle.cx_design.specs.PlainForms.{plain_component, plain_form}
use Rattle.cx_eval_cycle.specs.Passes.{IsAscending}
use Rattle.cx_turns.specs.Groups.{ListDriven}
use Rattle.cx_turns.specs.Islands.{SampledBefore}
use Rattle.cx_turns.specs.Machines.{design_of, rows_of}
use Rattle.cx_turns.proofs.IslandLemmas.{island_short, length_told}
use Rattle.cx_interp.specs.declared.answers.Answer.TheVariants as result
use Rattle.cx_interp.specs.Counts.{plain_counts}
use Rattle.cx_interp.specs.Counted.{sampled_counts}
use Rattle.cx_interp.specs.Doings.{form_drives}
use Rattle.cx_interp.specs.IslandCycles.{sampled_does, samples_in}
use Rattle.cx_interp.specs.Pauses.{Paused}
use Rattle.cx_interp.proofs.IslandLoop.{CyclesGo, cycles_start, cycles_on, cycles_fault, cycles_counted, cycles_end, cycles_more}
use Rattle.cx_interp.proofs.GrowthLemmas.{counted_grows, counted_stops}
use Rattle.cx_interp.proofs.islands.take_cycles.Goals as goal

pub loop-cycle-init : goal.loop-cycle-init
loop-cycle-init c = (
  c.requires.machine,
  cycles_start (design_of c.args.plan.now) c.args.instance (plain_form c.args.form.now) (form_drives (plain_form c.args.form.now)) (form_length (plain_component c.args.part.now) (plain_form c.args.form.now)) c.args.budget (samples_in c.args.machine.now)
      (rows_of c.args.machine.now) (plain_counts c.args.counts.now),
  tt,
  refl,
  refl,
)

pub take_cycle-requires-clause-driven : goal.take_cycle-requires-clause-driven
take_cycle-requires-clause-driven c =
    subst (λ (cells : Vec ℕ Global). ListDriven (design_of c.args.plan.now) c.args.instance cells.items (λ part. control.form_drives part (plain_form c.args.form.now))) (sym c.loop-cycle.invariant.4) c.requires.driven

pub take_cycle-requires-clause-ascending : goal.take_cycle-requires-clause-ascending
take_cycle-requires-clause-ascending c = subst (λ (cells : Vec ℕ Global). IsAscending cells.items) (sym c.loop-cycle.invariant.4) c.requires.ascending

pub returns-in-Err-clause-paused : goal.returns-in-Err-clause-paused
returns-in-Err-clause-paused c =
    let part : PlainComponent = plain_component c.args.part.now in
    let form : PlainForm = plain_form c.args.form.now in
    let count : ℕ = form_length part form in
    let length : c.form_length-length.result ≡ count =
    length_told part form c.form_length-length.result
    (island_short (design_of c.args.plan.now) c.args.instance form part c.requires.instance c.requires.form c.requires.island c.requires.part
    (λ path v stands island. c.accepted_islands_are_short.ensures (design_of c.args.plan.now) path v c.requires.plan.flat c.requires.plan.accepted stands island))
    c.form_length-length.ensures in
    let inside : c.loop-cycle.cycle < count = omega (arith, length, c.loop-cycle-test.true, c.min-cycle-end.ensures) in
    let left : c.loop-cycle.cycle < c.args.budget = omega (arith, c.loop-cycle-test.true, c.min-cycle-end.ensures) in
    cycles_fault (design_of c.args.plan.now) c.args.instance form (form_drives form) count c.args.budget (samples_in c.args.machine.now) (rows_of c.args.machine.now)
    (rows_of c.loop-cycle.machine) (rows_of c.take_cycle.new.machine) (plain_counts c.args.counts.now) (plain_counts c.loop-cycle.counts) (samples_in c.loop-cycle.machine) (samples_in c.take_cycle.new.machine) c.loop-cycle.cycle inside left c.in-Err.fault c.loop-cycle.invariant.1 c.in-Err.ensures.taken

pub loop-cycle-preserved : goal.loop-cycle-preserved
loop-cycle-preserved c =
    let part : PlainComponent = plain_component c.args.part.now in
    let form : PlainForm = plain_form c.args.form.now in
    let count : ℕ = form_length part form in
    let length : c.form_length-length.result ≡ count =
    length_told part form c.form_length-length.result
    (island_short (design_of c.args.plan.now) c.args.instance form part c.requires.instance c.requires.form c.requires.island c.requires.part
    (λ path v stands island. c.accepted_islands_are_short.ensures (design_of c.args.plan.now) path v c.requires.plan.flat c.requires.plan.accepted stands island))
    c.form_length-length.ensures in
    let inside : c.loop-cycle.cycle < count = omega (arith, length, c.loop-cycle-test.true, c.min-cycle-end.ensures) in
    let left : c.loop-cycle.cycle < c.args.budget = omega (arith, c.loop-cycle-test.true, c.min-cycle-end.ensures) in
    let next : suc c.loop-cycle.cycle ≡ c.loop-cycle.cycle + 1 = omega arith in (
      c.in_default.ensures.machine,
      cycles_on (design_of c.args.plan.now) c.args.instance form (form_drives form) count c.args.budget (samples_in c.args.machine.now) (rows_of c.args.machine.now) (rows_of c.loop-cycle.machine)
          (rows_of c.take_cycle.new.machine) (plain_counts c.args.counts.now) (plain_counts c.loop-cycle.counts) (samples_in c.loop-cycle.machine) (samples_in c.take_cycle.new.machine) c.loop-cycle.cycle inside left part (plain_counts c.add_active.new.self) c.requires.part c.loop-cycle.invariant.3
          (c.add_active.ensures.grows _ c.in_default.ensures.active) c.loop-cycle.invariant.1 c.in_default.ensures.taken,
      subst (λ t. SampledBefore part t form (samples_in c.take_cycle.new.machine)) next c.in_default.ensures.sampled,
      c.add_active.ensures.shape ∙ c.loop-cycle.invariant.3,
      c.in_default.ensures.cells ∙ c.loop-cycle.invariant.4,
    )

pub returns-then-length-budget-clause-paused : goal.returns-then-length-budget-clause-paused
returns-then-length-budget-clause-paused c =
    let part : PlainComponent = plain_component c.args.part.now in
    let form : PlainForm = plain_form c.args.form.now in
    let count : ℕ = form_length part form in
    let length : c.form_length-length.result ≡ count =
    length_told part form c.form_length-length.result
    (island_short (design_of c.args.plan.now) c.args.instance form part c.requires.instance c.requires.form c.requires.island c.requires.part
    (λ path v stands island. c.accepted_islands_are_short.ensures (design_of c.args.plan.now) path v c.requires.plan.flat c.requires.plan.accepted stands island))
    c.form_length-length.ensures in
    let lt : count < c.args.budget = omega (arith, length, c.if-length-budget.true) in
    let end : c.loop-cycle.cycle ≡ count = omega (arith, length, c.if-length-budget.true, c.loop-cycle-test.false, c.loop-cycle.auto.cycle-end, c.min-cycle-end.ensures) in
    subst (λ k. Paused (design_of c.args.plan.now) (rows_of c.args.machine.now) (rows_of c.loop-cycle.machine) c.args.instance (form_drives form) (sampled_does form count (samples_in c.args.machine.now)) c.args.budget (result.End (k + 1))) (sym length)
    (cycles_end (design_of c.args.plan.now) c.args.instance form (form_drives form) count c.args.budget (samples_in c.args.machine.now) (rows_of c.args.machine.now) (rows_of c.loop-cycle.machine) (plain_counts c.args.counts.now) (plain_counts c.loop-cycle.counts) (samples_in c.loop-cycle.machine) c.loop-cycle.invariant.0.state lt
    (subst (λ k. CyclesGo (design_of c.args.plan.now) c.args.instance form (form_drives form) count c.args.budget (samples_in c.args.machine.now) (rows_of c.args.machine.now) (rows_of c.loop-cycle.machine) (plain_counts c.args.counts.now) (plain_counts c.loop-cycle.counts) (samples_in c.loop-cycle.machine) k) end c.loop-cycle.invariant.1))

pub returns-else-length-budget-clause-paused : goal.returns-else-length-budget-clause-paused
returns-else-length-budget-clause-paused c =
    let part : PlainComponent = plain_component c.args.part.now in
    let form : PlainForm = plain_form c.args.form.now in
    let count : ℕ = form_length part form in
    let length : c.form_length-length.result ≡ count =
    length_told part form c.form_length-length.result
    (island_short (design_of c.args.plan.now) c.args.instance form part c.requires.instance c.requires.form c.requires.island c.requires.part
    (λ path v stands island. c.accepted_islands_are_short.ensures (design_of c.args.plan.now) path v c.requires.plan.flat c.requires.plan.accepted stands island))
    c.form_length-length.ensures in
    let over : c.args.budget ≤ c.loop-cycle.cycle = omega (arith, c.if-length-budget.false, c.loop-cycle-test.false, c.min-cycle-end.ensures) in
    cycles_more (design_of c.args.plan.now) c.args.instance form (form_drives form) count c.args.budget (samples_in c.args.machine.now) (rows_of c.args.machine.now) (rows_of c.loop-cycle.machine) (plain_counts c.args.counts.now) (plain_counts c.loop-cycle.counts) (samples_in c.loop-cycle.machine)
    c.loop-cycle.invariant.0.state c.loop-cycle.cycle over c.loop-cycle.invariant.1

pub returns-then-length-budget-clause-counted : goal.returns-then-length-budget-clause-counted
returns-then-length-budget-clause-counted c =
    let part : PlainComponent = plain_component c.args.part.now in
    let form : PlainForm = plain_form c.args.form.now in
    let count : ℕ = form_length part form in
    let length : c.form_length-length.result ≡ count =
    length_told part form c.form_length-length.result
    (island_short (design_of c.args.plan.now) c.args.instance form part c.requires.instance c.requires.form c.requires.island c.requires.part
    (λ path v stands island. c.accepted_islands_are_short.ensures (design_of c.args.plan.now) path v c.requires.plan.flat c.requires.plan.accepted stands island))
    c.form_length-length.ensures in
    let end : c.loop-cycle.cycle ≡ count = omega (arith, length, c.if-length-budget.true, c.loop-cycle-test.false, c.loop-cycle.auto.cycle-end, c.min-cycle-end.ensures) in
    counted_grows (design_of c.args.plan.now) c.args.instance (rows_of c.args.machine.now) (plain_counts c.args.counts.now) (plain_counts c.loop-cycle.counts) (sampled_counts form count (samples_in c.args.machine.now)) c.args.budget _ c.loop-cycle.invariant.3
    (cycles_counted (design_of c.args.plan.now) c.args.instance form (form_drives form) count c.args.budget (samples_in c.args.machine.now) (rows_of c.args.machine.now) (rows_of c.loop-cycle.machine) (plain_counts c.args.counts.now) (plain_counts c.loop-cycle.counts) (samples_in c.loop-cycle.machine) c.loop-cycle.invariant.0.state
    (subst (λ k. CyclesGo (design_of c.args.plan.now) c.args.instance form (form_drives form) count c.args.budget (samples_in c.args.machine.now) (rows_of c.args.machine.now) (rows_of c.loop-cycle.machine) (plain_counts c.args.counts.now) (plain_counts c.loop-cycle.counts) (samples_in c.loop-cycle.machine) k) end c.loop-cycle.invariant.1))

pub returns-in-Err-clause-counted : goal.returns-in-Err-clause-counted
returns-in-Err-clause-counted c =
    counted_stops (design_of c.args.plan.now) c.args.instance (rows_of c.args.machine.now) (plain_counts c.args.counts.now) (plain_counts c.loop-cycle.counts)
    (sampled_counts (plain_form c.args.form.now) (form_length (plain_component c.args.part.now) (plain_form c.args.form.now)) (samples_in c.args.machine.now)) c.args.budget _ tt c.loop-cycle.invariant.3

pub returns-else-length-budget-clause-counted : goal.returns-else-length-budget-clause-counted
returns-else-length-budget-clause-counted c =
    counted_stops (design_of c.args.plan.now) c.args.instance (rows_of c.args.machine.now) (plain_counts c.args.counts.now) (plain_counts c.loop-cycle.counts)
    (sampled_counts (plain_form c.args.form.now) (form_length (plain_component c.args.part.now) (plain_form c.args.form.now)) (samples_in c.args.machine.now)) c.args.budget _ tt c.loop-cycle.invariant.3
