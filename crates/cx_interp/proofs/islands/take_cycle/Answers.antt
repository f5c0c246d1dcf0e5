use Rattle.std.proofs.Common.{◌≡◌, ℕ, Vec, Global, Result, Ok, Err, sym, ap, ◌∙◌, subst, arith}
use Rattle.std.specs.Prelude.{IfOk}
use Rattle.cx_design.specs.declared.actives.PortFault.{PortFault}
use Rattle.cx_meaning.specs.Instances.{Set, part_of}
use Rattle.cx_design.specs.PlainDesigns.{plain_design}
use Rattle.cx_design.specs.PlainForms.{plain_component, plain_form}
use Rattle.cx_state.specs.States.{plain_state, IsStateOf}
use Rattle.cx_eval.specs.Evaluated.{CanAct, Cycled}
use Rattle.cx_laws.specs.Samples.{active_by}
use Rattle.cx_eval_cycle.specs.Passes.{IsAscending, listed_in}
use Rattle.cx_interp_islands.specs.Rooms.{samples_of}
use Rattle.cx_turns.specs.declared.turns.Turn.TheVariants as turns
use Rattle.cx_turns.specs.Machines.{design_of, rows_of}
use Rattle.cx_turns.specs.Rooms.{HasActive}
use Rattle.cx_turns.proofs.IslandLemmas.{active_is, can_run}
use Rattle.cx_turns.proofs.RoomLemmas.{island_room}
use Rattle.cx_interp.specs.Doings.{form_drives}
use Rattle.cx_interp.specs.IslandCycles.{CycleTaken, samples_in}
use Rattle.cx_interp.proofs.IslandRuns.{sampled_now}
use Rattle.cx_interp.proofs.IslandTurns.{taken_clear, taken_unclear}
use Rattle.cx_interp.proofs.islands.take_cycle.Goals as goal

pub returns-in-Some-clause-sampled : goal.returns-in-Some-clause-sampled
returns-in-Some-clause-sampled c =
    sampled_now (plain_component c.args.part.now) (plain_form c.args.form.now) c.sample.ensures.taken.look (samples_in c.args.machine.now) (samples_in c.sample.new.machine) c.taken_samples_are_of_a_run.ensures.first
    c.taken_samples_are_of_a_run.ensures.later c.args.cycle c.requires.sampled c.sample.ensures.taken.taken

pub returns-in-Some-clause-taken : goal.returns-in-Some-clause-taken
returns-in-Some-clause-taken c =
    let d = design_of c.args.plan.now in
    let rows = rows_of c.args.machine.now in
    let form = plain_form c.args.form.now in
    let kept = samples_in c.args.machine.now in
    let next = samples_in c.sample.new.machine in
    subst (λ new. CycleTaken d rows new c.args.instance form (form_drives form) c.args.cycle kept next (turns.Faults c.in-Some.fault)) (sym c.sample.ensures.rows)
    (taken_unclear d c.args.instance c.args.cycle form (form_drives form) kept next (plain_component c.args.part.now) rows c.requires.part c.in-Some.fault c.in-Some.ensures.taken c.requires.machine.state)

pub activate-requires-clause-samples : goal.activate-requires-clause-samples
activate-requires-clause-samples c =
    let fits = island_room (design_of c.args.plan.now) c.requires.plan.accepted c.requires.plan.design c.args.plan.now.table.rows.items c.args.plan.now.table.children.items c.requires.plan.table c.args.instance (plain_form c.args.form.now) c.sample.new.machine.room
    c.requires.instance c.requires.form c.sample.ensures.machine.room in
    let room = fits.0 in
    let told = c.deref.ensures.len in
    omega (arith, room, told)

pub activate-requires-clause-room : goal.activate-requires-clause-room
activate-requires-clause-room c =
    let fits = island_room (design_of c.args.plan.now) c.requires.plan.accepted c.requires.plan.design c.args.plan.now.table.rows.items c.args.plan.now.table.children.items c.requires.plan.table c.args.instance (plain_form c.args.form.now) c.sample.new.machine.room
    c.requires.instance c.requires.form c.sample.ensures.machine.room in
    fits.1

pub cycle_of-requires-clause-active : goal.cycle_of-requires-clause-active
cycle_of-requires-clause-active c =
    let d = design_of c.args.plan.now in
    let part = plain_component c.args.part.now in
    let form = plain_form c.args.form.now in
    let next = samples_in c.sample.new.machine in
    let sampled = sampled_now part form c.sample.ensures.taken.look (samples_in c.args.machine.now) next c.taken_samples_are_of_a_run.ensures.first c.taken_samples_are_of_a_run.ensures.later c.args.cycle c.requires.sampled c.sample.ensures.taken.taken in
    let has : HasActive c.activate.new.active (active_by part next c.args.cycle form) = subst (λ items. HasActive c.activate.new.active (active_by part (samples_of items) c.args.cycle form)) c.deref.ensures.value c.activate.ensures.value in
    subst (λ e. CanAct (plain_design e) c.args.instance c.activate.new.active) (sym c.sample.ensures.machine.evaluator)
    (can_run d c.args.instance c.args.cycle form part sampled.0 c.activate.new.active (active_by part next c.args.cycle form) c.requires.form c.requires.part has
    (active_is part form c.args.cycle next sampled (λ h kept. c.samples_give_the_cycle.ensures.active part form h c.args.cycle next kept) (λ h. c.timers_give_the_active_groups.ensures part form h c.args.cycle c.requires.within)))

pub returns-clause-sampled : goal.returns-clause-sampled
returns-clause-sampled c =
    sampled_now (plain_component c.args.part.now) (plain_form c.args.form.now) c.sample.ensures.taken.look (samples_in c.args.machine.now) (samples_in c.sample.new.machine) c.taken_samples_are_of_a_run.ensures.first
    c.taken_samples_are_of_a_run.ensures.later c.args.cycle c.requires.sampled c.sample.ensures.taken.taken

pub returns-clause-taken : goal.returns-clause-taken
returns-clause-taken c =
    let d = design_of c.args.plan.now in
    let rows = rows_of c.args.machine.now in
    let part = plain_component c.args.part.now in
    let form = plain_form c.args.form.now in
    let kept = samples_in c.args.machine.now in
    let next = samples_in c.sample.new.machine in
    let new = plain_state c.cycle_of.new.state in
    let sampled = sampled_now part form c.sample.ensures.taken.look kept next c.taken_samples_are_of_a_run.ensures.first c.taken_samples_are_of_a_run.ensures.later c.args.cycle c.requires.sampled c.sample.ensures.taken.taken in
    let has : HasActive c.activate.new.active (active_by part next c.args.cycle form) = subst (λ items. HasActive c.activate.new.active (active_by part (samples_of items) c.args.cycle form)) c.deref.ensures.value c.activate.ensures.value in
    let fits : IsStateOf d new = subst (λ e. IsStateOf (plain_design e) new) c.sample.ensures.machine.evaluator c.cycle_of.ensures.fits in
    let listed : Set = listed_in c.as_slice.result.now in
    let cycled : Cycled d rows new c.args.instance c.activate.new.active listed c.cycle_of.result =
    subst (λ old. Cycled d old new c.args.instance c.activate.new.active listed c.cycle_of.result) c.sample.ensures.rows
    (subst (λ e. Cycled (plain_design e) (rows_of c.sample.new.machine) new c.args.instance c.activate.new.active listed c.cycle_of.result) c.sample.ensures.machine.evaluator c.cycle_of.ensures.value) in
    let own : c.as_slice.result.now ≡ c.args.machine.now.room.cells.items = c.as_slice.ensures.value ∙ ap (λ (cells : Vec ℕ Global). cells.items) c.sample.ensures.cells in
    taken_clear d c.args.instance c.args.cycle form (form_drives form) kept next part rows c.requires.part new c.activate.new.active sampled.0 c.cycle_of.result c.in_default.ensures.taken fits has
    (active_is part form c.args.cycle next sampled (λ h kept. c.samples_give_the_cycle.ensures.active part form h c.args.cycle next kept) (λ h. c.timers_give_the_active_groups.ensures part form h c.args.cycle c.requires.within))
    (λ i cell off. c.active_groups_within.ensures.island (part_of i) form c.requires.form.0 sampled.0 c.args.cycle cell off)
    (λ path held act listed s undriven settled. c.listed_cells_suffice.ensures d path held act listed s c.requires.plan.accepted undriven settled)
    listed (λ path cell number off. sym (ap (λ xs. listed_in xs cell) own ∙ c.requires.driven path cell number) ∙ off) cycled

pub returns-clause-active : goal.returns-clause-active
returns-clause-active c =
    let part = plain_component c.args.part.now in
    let form = plain_form c.args.form.now in
    let next = samples_in c.sample.new.machine in
    let has : HasActive c.activate.new.active (active_by part next c.args.cycle form) = subst (λ items. HasActive c.activate.new.active (active_by part (samples_of items) c.args.cycle form)) c.deref.ensures.value c.activate.ensures.value in
    whatever c.cycle_of.result has
  where
    whatever : {P : Type 0} (r : Result (Unit {0}) PortFault) → P → IfOk r (λ _. P)
    whatever (Ok done) p = p
    whatever (Err fault) p = tt

pub cycle_of-requires-clause-ascending : goal.cycle_of-requires-clause-ascending
cycle_of-requires-clause-ascending c =
    subst IsAscending (sym (c.as_slice.ensures.value ∙ ap (λ (cells : Vec ℕ Global). cells.items) c.sample.ensures.cells)) c.requires.ascending
