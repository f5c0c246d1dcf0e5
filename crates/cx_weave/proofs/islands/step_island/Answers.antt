use Rattle.std.proofs.Common.{rules, ◌≡◌, ◌<◌, ◌+◌, ◌-◌, suc, Ok, Err, Some, None, [], length, get_or, sym, ap, ◌∙◌, subst, arith}
use Rattle.std.proofs.lemmas.List.{with_items_is}
use Rattle.std.specs.Vec.{vec_capacity, with_items}
use Rattle.cx_meaning.specs.Control.{form_drives}
use Rattle.cx_text.specs.declared.limits.TheConstants.{REPETITIONS}
use Rattle.cx_meaning.specs.Instances.{part_of, instance_at, paths_of, tree_of}
use Rattle.cx_meaning.specs.Islands.{form_length}
use Rattle.cx_design.specs.PlainForms.{plain_form}
use Rattle.cx_eval.specs.Evaluated.{HeldAlike}
use Rattle.cx_interp_islands.specs.Rooms.{samples_of}
use Rattle.cx_turns.specs.Machines.{design_of, rows_of}
use Rattle.cx_turns.proofs.HoldLemmas.{own_path}
use Rattle.cx_turns.proofs.IslandLemmas.{island_short}
use Rattle.cx_state.specs.ReadStates.{state_in}
use Rattle.cx_weave.specs.declared.strands.Island.{Island}
use Rattle.cx_weave.specs.declared.strands.Strand.TheVariants as strands
use Rattle.cx_turns.specs.Groups.{ListDriven}
use Rattle.cx_weave.specs.Strands.{AnIsland, KeptBefore}
use Rattle.cx_weave.specs.Strides.{HasStepped, IslandTaken}
use Rattle.cx_weave.proofs.IslandSteps.{island_ends, island_goes, island_held, island_kept, island_stops}
use Rattle.cx_weave.proofs.StrandFolds.{is_island}
use Rattle.cx_weave.specs.Ledger.{island_amount, left_amount}
use Rattle.cx_weave.proofs.Amounts.{amount_island}
use Rattle.cx_weave.proofs.IslandSupplies.{island_place}
use Rattle.cx_weave.proofs.PartLedgers.{same_amounts}
use Rattle.cx_state.proofs.TablesLemmas.{one_path}
use Rattle.cx_weave.proofs.islands.step_island.Goals as goal

pub returns-then-left-eq0-clause-stepped : goal.returns-then-left-eq0-clause-stepped
returns-then-left-eq0-clause-stepped c =
    let d = design_of c.args.plan.now in
    let form = plain_form c.args.island.form.now in
    let kept = island_kept d c.args.instance form c.args.island.cycle c.args.island.left c.args.island.samples.items c.args.island.cells.items c.requires.shown in
    let lists : ListDriven d c.args.instance c.as_slice.result.now (λ part. form_drives part form) = subst (λ xs. ListDriven d c.args.instance xs (λ part. form_drives part form)) (sym c.as_slice.ensures.value) kept.1.driven in
    subst (λ m. HasStepped d (rows_of c.args.machine.now) (rows_of c.rest_listed.new.machine) c.args.instance (AnIsland form c.args.island.cycle m c.args.island.samples.items c.args.island.cells.items) c.args.leaf (Ok None)) (sym c.if-left-eq0.true)
    (island_ends d (rows_of c.args.machine.now) (rows_of c.rest_listed.new.machine) c.args.instance c.args.leaf form c.args.island.cycle c.args.island.samples.items c.args.island.cells.items (c.rest_listed.ensures.rested (λ part. form_drives part form) lists))

pub take_cycle-requires-clause-sampled : goal.take_cycle-requires-clause-sampled
take_cycle-requires-clause-sampled c path number =
    let d = design_of c.args.plan.now in
    let form = plain_form c.args.island.form.now in
    let kept = island_kept d c.args.instance form c.args.island.cycle c.args.island.left c.args.island.samples.items c.args.island.cells.items c.requires.shown in
    let knows = kept.1.knows path number in
    (knows.history, subst (λ xs. KeptBefore (part_of (instance_at (tree_of d) path)) knows.history c.args.island.cycle form (samples_of xs)) (sym c.deref_mut.ensures.value) knows.before)

pub overflow_add-result : goal.overflow_add-result
overflow_add-result c =
    let d = design_of c.args.plan.now in
    let form = plain_form c.args.island.form.now in
    let kept = island_kept d c.args.instance form c.args.island.cycle c.args.island.left c.args.island.samples.items c.args.island.cells.items c.requires.shown in
    let own = own_path d c.args.instance c.requires.instance in
    let path = get_or (paths_of (tree_of d)) c.args.instance [] in
    let short : form_length (part_of (instance_at (tree_of d) path)) form < REPETITIONS =
    island_short d c.args.instance form (part_of (instance_at (tree_of d) path)) c.requires.instance kept.1.stands kept.1.island (λ other number. ap (λ p. part_of (instance_at (tree_of d) p)) (one_path d c.args.instance path other own number))
    (λ p v stands island. c.accepted_islands_are_short.ensures d p v c.requires.plan.flat c.requires.plan.accepted stands island) in
    let whole = kept.1.whole path own in
    first_of (omega (arith, short, whole), search (rules, short, whole))

pub returns-in-Ok-clause-stepped : goal.returns-in-Ok-clause-stepped
returns-in-Ok-clause-stepped c =
    let d = design_of c.args.plan.now in
    let rows = rows_of c.args.machine.now in
    let new = rows_of c.take_cycle.new.machine in
    let form = plain_form c.args.island.form.now in
    let t = c.args.island.cycle in
    let samples = c.args.island.samples.items in
    let cells = c.args.island.cells.items in
    let next = c.take_cycle.new.samples in
    let kept = island_kept d c.args.instance form t c.args.island.left samples cells c.requires.shown in
    let own = own_path d c.args.instance c.requires.instance in
    let path = get_or (paths_of (tree_of d)) c.args.instance [] in
    let stood = c.rows_stand.ensures d c.args.plan.now.table.rows.items c.args.plan.now.table.children.items rows c.requires.plan.table c.requires.machine.state in
    let same : c.deref_mut.result.now ≡ samples = c.deref_mut.ensures.value in
    let long : length next ≡ length samples = c.take_cycle.ensures.length ∙ ap (λ xs. length xs) same in
    let items : (with_items c.args.island.samples next).items ≡ next = with_items_is c.args.island.samples next (c.take_cycle.ensures.length ∙ c.deref_mut.ensures.len) in
    let told : IslandTaken d rows new c.args.instance form t (samples_of samples) (samples_of next) (Ok tt) =
    subst (λ xs. IslandTaken d rows new c.args.instance form t (samples_of xs) (samples_of next) (Ok tt)) same (subst (λ r. IslandTaken d rows new c.args.instance form t (samples_of c.deref_mut.result.now) (samples_of next) r) c.in-Ok.is c.take_cycle.ensures.taken) in
    let held : HeldAlike rows new = island_held d rows new c.args.instance form t c.args.island.left samples next cells (Ok tt) told kept path (state_in (tree_of d) rows) own stood in
    let some : c.args.island.left ≡ suc (c.args.island.left - 1) = (let a = c.if-left-eq0.false in first_of (omega (arith, a), search (rules, a))) in
    let after : Island = record { form = c.args.island.form; cycle = t + 1; left = c.args.island.left - 1; samples = with_items c.args.island.samples next; cells = c.args.island.cells } in
    subst (λ m. HasStepped d rows new c.args.instance (AnIsland form t m samples cells) c.args.leaf (Ok (Some (strands.InIsland after)))) (sym some)
    (island_goes d rows new c.args.instance c.args.leaf form t samples cells (c.args.island.left - 1) next held (strands.InIsland after)
    (is_island after ∙ ap (λ xs. AnIsland form (t + 1) (c.args.island.left - 1) xs cells) items ∙ ap (λ m. AnIsland form m (c.args.island.left - 1) next cells) (let e : t + 1 ≡ suc t = omega arith in e))
    long told)

pub returns-clause-stepped : goal.returns-clause-stepped
returns-clause-stepped c =
    let d = design_of c.args.plan.now in
    let rows = rows_of c.args.machine.now in
    let new = rows_of c.take_cycle.new.machine in
    let form = plain_form c.args.island.form.now in
    let t = c.args.island.cycle in
    let samples = c.args.island.samples.items in
    let cells = c.args.island.cells.items in
    let next = c.take_cycle.new.samples in
    let kept = island_kept d c.args.instance form t c.args.island.left samples cells c.requires.shown in
    let own = own_path d c.args.instance c.requires.instance in
    let path = get_or (paths_of (tree_of d)) c.args.instance [] in
    let stood = c.rows_stand.ensures d c.args.plan.now.table.rows.items c.args.plan.now.table.children.items rows c.requires.plan.table c.requires.machine.state in
    let same : c.deref_mut.result.now ≡ samples = c.deref_mut.ensures.value in
    let told : IslandTaken d rows new c.args.instance form t (samples_of samples) (samples_of next) (Err c.in-Err.fault) =
    subst (λ xs. IslandTaken d rows new c.args.instance form t (samples_of xs) (samples_of next) (Err c.in-Err.fault)) same (subst (λ r. IslandTaken d rows new c.args.instance form t (samples_of c.deref_mut.result.now) (samples_of next) r) c.in-Err.is c.take_cycle.ensures.taken) in
    let held : HeldAlike rows new = island_held d rows new c.args.instance form t c.args.island.left samples next cells (Err c.in-Err.fault) told kept path (state_in (tree_of d) rows) own stood in
    let some : c.args.island.left ≡ suc (c.args.island.left - 1) = (let a = c.if-left-eq0.false in first_of (omega (arith, a), search (rules, a))) in
    subst (λ m. HasStepped d rows new c.args.instance (AnIsland form t m samples cells) c.args.leaf (Err c.in-Err.fault)) (sym some)
    (island_stops d rows new c.args.instance c.args.leaf form t samples cells (c.args.island.left - 1) next held c.in-Err.fault told)

pub give_island-requires : goal.give_island-requires
give_island-requires c = record { place = island_place c.args.spares.now (vec_capacity c.args.island.cells) (length c.args.island.samples.items) c.requires.places }

pub returns-in-Ok-clause-ledger : goal.returns-in-Ok-clause-ledger
returns-in-Ok-clause-ledger c =
    let next = c.take_cycle.new.samples in
    let after : Island = record { form = c.args.island.form; cycle = c.args.island.cycle + 1; left = c.args.island.left - 1; samples = with_items c.args.island.samples next; cells = c.args.island.cells } in
    let same : c.deref_mut.result.now ≡ c.args.island.samples.items = c.deref_mut.ensures.value in
    let long : length next ≡ length c.args.island.samples.items = c.take_cycle.ensures.length ∙ ap (λ xs. length xs) same in
    let items : (with_items c.args.island.samples next).items ≡ next = with_items_is c.args.island.samples next (c.take_cycle.ensures.length ∙ c.deref_mut.ensures.len) in
    let count : length (with_items c.args.island.samples next).items ≡ length c.args.island.samples.items = ap (λ xs. length xs) items ∙ long in
    same_amounts c.args.spares.now (λ x. island_amount x (vec_capacity c.args.island.cells) (length c.args.island.samples.items)) (λ x. left_amount x (Some (strands.InIsland after)))
    (λ x. ap (λ m. island_amount x (vec_capacity c.args.island.cells) m) (sym count) ∙ sym (amount_island x after))
