use Rattle.std.proofs.Common.{◌<◌, Err, [], get_or, sym, ap, subst, arith}
use Rattle.cx_text.specs.declared.limits.TheConstants.{REPETITIONS}
use Rattle.cx_meaning.specs.Instances.{part_of, instance_at, paths_of, tree_of}
use Rattle.cx_meaning.specs.Islands.{History, form_length}
use Rattle.cx_laws.specs.Samples.{active_by}
use Rattle.cx_design.specs.PlainDesigns.{plain_design}
use Rattle.cx_design.specs.PlainForms.{plain_component, plain_form}
use Rattle.cx_state.specs.States.{plain_state}
use Rattle.cx_eval.specs.Evaluated.{CanAct, Cycled}
use Rattle.cx_eval_cycle.specs.Passes.{listed_in}
use Rattle.cx_interp_islands.specs.Rooms.{samples_of}
use Rattle.cx_interp_islands.specs.Sampled.{AreSampled}
use Rattle.cx_turns.specs.Islands.{SamplesTaken}
use Rattle.cx_turns.specs.Machines.{design_of, rows_of}
use Rattle.cx_turns.proofs.HoldLemmas.{own_path}
use Rattle.cx_turns.proofs.IslandLemmas.{active_is, can_run, island_short, there, stands_there}
use Rattle.cx_turns.proofs.RoomLemmas.{island_room}
use Rattle.cx_weave.specs.Strands.{KeptBefore}
use Rattle.cx_weave.specs.Strides.{IslandTaken}
use Rattle.cx_weave.proofs.IslandSteps.{are_sampled, gives_cycle, island_unclear, island_clear}
use Rattle.cx_state.proofs.TablesLemmas.{one_path}
use Rattle.cx_weave.proofs.islands.take_cycle.Goals as goal

pub sample-requires-clause-cycle : goal.sample-requires-clause-cycle
sample-requires-clause-cycle c =
    let d = design_of c.args.plan.now in
    let own = own_path d c.args.instance c.requires.instance in
    let path = get_or (paths_of (tree_of d)) c.args.instance [] in
    let form = plain_form c.args.form.now in
    let short : form_length (part_of (instance_at (tree_of d) path)) form < REPETITIONS =
    island_short d c.args.instance form (part_of (instance_at (tree_of d) path)) c.requires.instance c.requires.form c.requires.island (λ other number. ap (λ p. part_of (instance_at (tree_of d) p)) (one_path d c.args.instance path other own number))
    (λ p v stands island. c.accepted_islands_are_short.ensures d p v c.requires.plan.flat c.requires.plan.accepted stands island) in
    let inside = c.requires.within path own in
    omega (arith, short, inside)

pub activate-requires-clause-cycle : goal.activate-requires-clause-cycle
activate-requires-clause-cycle c =
    let d = design_of c.args.plan.now in
    let own = own_path d c.args.instance c.requires.instance in
    let path = get_or (paths_of (tree_of d)) c.args.instance [] in
    let form = plain_form c.args.form.now in
    let short : form_length (part_of (instance_at (tree_of d) path)) form < REPETITIONS =
    island_short d c.args.instance form (part_of (instance_at (tree_of d) path)) c.requires.instance c.requires.form c.requires.island (λ other number. ap (λ p. part_of (instance_at (tree_of d) p)) (one_path d c.args.instance path other own number))
    (λ p v stands island. c.accepted_islands_are_short.ensures d p v c.requires.plan.flat c.requires.plan.accepted stands island) in
    let inside = c.requires.within path own in
    omega (arith, short, inside)

pub activate-requires-clause-room : goal.activate-requires-clause-room
activate-requires-clause-room c =
    let fits = island_room (design_of c.args.plan.now) c.requires.plan.accepted c.requires.plan.design c.args.plan.now.table.rows.items c.args.plan.now.table.children.items c.requires.plan.table c.args.instance (plain_form c.args.form.now) c.sample.new.machine.room
    c.requires.instance c.requires.form c.sample.ensures.machine.room in
    fits.1

pub returns-in-Some-clause-taken : goal.returns-in-Some-clause-taken
returns-in-Some-clause-taken c =
    let d = design_of c.args.plan.now in
    let rows = rows_of c.args.machine.now in
    let form = plain_form c.args.form.now in
    let kept = samples_of c.args.samples.now in
    let next = samples_of c.sample.new.samples in
    subst (λ new. IslandTaken d rows new c.args.instance form c.args.cycle kept next (Err c.in-Some.fault)) (sym c.sample.ensures.rows)
    (island_unclear d c.args.instance c.args.cycle form (plain_component c.instance_part-part.result.now) rows kept next c.instance_part-part.ensures c.samples_are_kept.ensures.first c.samples_are_kept.ensures.later
    (λ path number.
    gives_cycle (part_of (instance_at (tree_of d) path)) form c.args.cycle next (λ h. c.samples_give_the_cycle.ensures.active (part_of (instance_at (tree_of d) path)) form h c.args.cycle next) (λ h. c.samples_give_the_cycle.ensures.begun (part_of (instance_at (tree_of d) path)) form h c.args.cycle next)
    (λ h. c.timers_give_the_active_groups.ensures (part_of (instance_at (tree_of d) path)) form h c.args.cycle (c.requires.within path number))
    (λ h. c.timers_give_the_begun_ports.ensures (part_of (instance_at (tree_of d) path)) form h c.args.cycle
    (c.accepted_has_no_empty_if.ensures d path (there form c.requires.form.0) c.requires.plan.flat c.requires.plan.accepted (stands_there d c.args.instance form c.requires.form path number)) (c.requires.within path number)))
    c.in-Some.fault (subst (λ f. SamplesTaken d rows c.args.instance (plain_component c.instance_part-part.result.now) form c.args.cycle kept next f) c.in-Some.is c.sample.ensures.taken))

pub cycle_of-requires-clause-active : goal.cycle_of-requires-clause-active
cycle_of-requires-clause-active c =
    let d = design_of c.args.plan.now in
    let part = plain_component c.instance_part-part.result.now in
    let form = plain_form c.args.form.now in
    let next = samples_of c.sample.new.samples in
    let own = own_path d c.args.instance c.requires.instance in
    let path = get_or (paths_of (tree_of d)) c.args.instance [] in
    let sampled : AreSampled part c.args.cycle form next =
    are_sampled part form c.sample.ensures.taken.look (samples_of c.args.samples.now) next c.samples_are_kept.ensures.first c.samples_are_kept.ensures.later c.args.cycle
    (subst (λ p. (h : History) × KeptBefore p h c.args.cycle form (samples_of c.args.samples.now)) (sym (c.instance_part-part.ensures path own)) (c.requires.sampled path own)) c.sample.ensures.taken.taken in
    let inside : c.args.cycle < form_length part form = subst (λ p. c.args.cycle < form_length p form) (sym (c.instance_part-part.ensures path own)) (c.requires.within path own) in
    subst (λ e. CanAct (plain_design e) c.args.instance c.activate.new.active) (sym c.sample.ensures.machine.evaluator)
    (can_run d c.args.instance c.args.cycle form part sampled.0 c.activate.new.active (active_by part next c.args.cycle form) c.requires.form c.instance_part-part.ensures c.activate.ensures.value
    (active_is part form c.args.cycle next sampled (λ h kept. c.samples_give_the_cycle.ensures.active part form h c.args.cycle next kept) (λ h. c.timers_give_the_active_groups.ensures part form h c.args.cycle inside)))

pub returns-clause-taken : goal.returns-clause-taken
returns-clause-taken c =
    let d = design_of c.args.plan.now in
    let rows = rows_of c.args.machine.now in
    let form = plain_form c.args.form.now in
    let kept = samples_of c.args.samples.now in
    let next = samples_of c.sample.new.samples in
    let new = plain_state c.cycle_of.new.state in
    let cycled : Cycled d rows new c.args.instance c.activate.new.active (listed_in c.args.cells.now) c.cycle_of.result =
    subst (λ old. Cycled d old new c.args.instance c.activate.new.active (listed_in c.args.cells.now) c.cycle_of.result) c.sample.ensures.rows
    (subst (λ e. Cycled (plain_design e) (rows_of c.sample.new.machine) new c.args.instance c.activate.new.active (listed_in c.args.cells.now) c.cycle_of.result) c.sample.ensures.machine.evaluator c.cycle_of.ensures.value) in
    island_clear d c.args.instance c.args.cycle form (plain_component c.instance_part-part.result.now) rows kept next c.instance_part-part.ensures c.samples_are_kept.ensures.first c.samples_are_kept.ensures.later
    (λ path number.
    gives_cycle (part_of (instance_at (tree_of d) path)) form c.args.cycle next (λ h. c.samples_give_the_cycle.ensures.active (part_of (instance_at (tree_of d) path)) form h c.args.cycle next) (λ h. c.samples_give_the_cycle.ensures.begun (part_of (instance_at (tree_of d) path)) form h c.args.cycle next)
    (λ h. c.timers_give_the_active_groups.ensures (part_of (instance_at (tree_of d) path)) form h c.args.cycle (c.requires.within path number))
    (λ h. c.timers_give_the_begun_ports.ensures (part_of (instance_at (tree_of d) path)) form h c.args.cycle
    (c.accepted_has_no_empty_if.ensures d path (there form c.requires.form.0) c.requires.plan.flat c.requires.plan.accepted (stands_there d c.args.instance form c.requires.form path number)) (c.requires.within path number)))
    new c.activate.new.active c.args.cells.now c.cycle_of.result c.in_default.ensures.taken c.activate.ensures.value c.requires.driven cycled
