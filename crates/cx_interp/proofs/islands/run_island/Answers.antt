use Rattle.std.proofs.Common.{◌≡◌, ◌≤◌, Global, ℕ, Bool, List, Vec, length, sym, ap, ◌∙◌, subst}
use Rattle.std.specs.Prelude.{vec_capacity}
use Rattle.std.specs.Vec.{with_items}
use Rattle.std.proofs.lemmas.List.{with_items_is}
use Rattle.cx_meaning.specs.Designs.{PlainComponent, PlainForm}
use Rattle.cx_meaning.specs.Instances.{Instance, instance_at, tree_of}
use Rattle.cx_meaning.specs.Control as control
use Rattle.cx_meaning.specs.Islands.{form_length}
use Rattle.cx_design.specs.PlainForms.{plain_component, plain_form}
use Rattle.cx_eval_cycle.specs.Passes.{IsAscending, listed_in}
use Rattle.cx_turns.specs.Groups.{ListDriven, ListWithin}
use Rattle.cx_turns.specs.Machines.{design_of, rows_of}
use Rattle.cx_turns.specs.Marks.{HasMarks, set_count}
use Rattle.cx_turns.specs.Rooms.{HasRoom}
use Rattle.cx_turns.proofs.IslandLemmas.{there, stands_there}
use Rattle.cx_turns.proofs.RestLemmas.{rows_at}
use Rattle.cx_turns.proofs.RoomLemmas.{room_listed, room_marks}
use Rattle.cx_laws.specs.Samples.{Samples}
use Rattle.cx_rewrites.specs.Tallies.{Tally}
use Rattle.cx_profiling.specs.StatementCounts.{sampled_count_from}
use Rattle.cx_interp.specs.Counts.{plain_counts}
use Rattle.cx_interp.specs.Counted.{form_counts, sampled_counts}
use Rattle.cx_interp.specs.Doings.{form_does, form_drives}
use Rattle.cx_interp.specs.IslandCycles.{sampled_does, samples_in}
use Rattle.cx_interp.proofs.EnableLemmas.{done_same_at}
use Rattle.cx_interp.proofs.IslandRuns.{samples_run}
use Rattle.cx_interp.proofs.LoopLemmas.{done_rested}
use Rattle.cx_interp.proofs.ControlCounts.{island_counts}
use Rattle.cx_interp.proofs.GrowthLemmas.{counted_same_at}
use Rattle.cx_interp.proofs.islands.run_island.Goals as goal

pub driven_cells-requires-clause-marks : goal.driven_cells-requires-clause-marks
driven_cells-requires-clause-marks c =
    subst (λ xs. HasMarks (design_of c.args.plan.now) c.args.instance xs) (sym c.deref_mut.ensures.value)
    (room_marks (design_of c.args.plan.now) c.requires.plan.design c.args.plan.now.table.rows.items c.args.plan.now.table.children.items c.requires.plan.table c.args.instance c.args.machine.now.room c.requires.machine.room)

pub driven_cells-requires-clause-clear : goal.driven_cells-requires-clause-clear
driven_cells-requires-clause-clear c = ap (λ xs. set_count xs) c.deref_mut.ensures.value ∙ c.requires.machine.room.clear

pub driven_cells-requires-clause-room : goal.driven_cells-requires-clause-room
driven_cells-requires-clause-room c = subst (λ (xs : List Bool). length xs ≤ vec_capacity c.args.machine.now.room.cells) (sym c.deref_mut.ensures.value) c.requires.machine.room.lists

pub take_cycles-answer-requires-clause-machine : goal.take_cycles-answer-requires-clause-machine
take_cycles-answer-requires-clause-machine c =
    let room = c.args.machine.now.room in
    let marks : (with_items room.marks c.driven_cells.new.marks).items ≡ c.driven_cells.new.marks = with_items_is room.marks c.driven_cells.new.marks (c.driven_cells.ensures.length ∙ c.deref_mut.ensures.len) in
    record {
      evaluator = c.requires.machine.evaluator;
      state = c.requires.machine.state;
      room = room_listed (design_of c.args.plan.now) room (with_items room.marks c.driven_cells.new.marks) c.driven_cells.new.cells c.requires.machine.room
          (ap (λ (xs : List Bool). length xs) marks ∙ c.driven_cells.ensures.length ∙ ap (λ (xs : List Bool). length xs) c.deref_mut.ensures.value)
          (ap (λ (xs : List Bool). set_count xs) marks ∙ c.driven_cells.ensures.clear) c.driven_cells.ensures.room;
    }

pub rest_listed-requires-clause-within : goal.rest_listed-requires-clause-within
rest_listed-requires-clause-within c = subst (λ (cells : Vec ℕ Global). ListWithin (design_of c.args.plan.now) c.args.instance cells.items) (sym c.take_cycles-answer.ensures.cells) c.driven_cells.ensures.within

pub rest_listed-requires-clause-ascending : goal.rest_listed-requires-clause-ascending
rest_listed-requires-clause-ascending c = subst (λ (cells : Vec ℕ Global). IsAscending cells.items) (sym c.take_cycles-answer.ensures.cells) c.driven_cells.ensures.ascending

pub returns-clause-machine : goal.returns-clause-machine
returns-clause-machine c = record {
  evaluator = c.rest_listed.ensures.evaluator ∙ c.take_cycles-answer.ensures.machine.evaluator;
  state = c.rest_listed.ensures.rested.fits;
  room = subst (λ r. HasRoom (design_of c.args.plan.now) r) (sym c.rest_listed.ensures.room) c.take_cycles-answer.ensures.machine.room;
}

pub returns-clause-done : goal.returns-clause-done
returns-clause-done c =
    let driven : ListDriven (design_of c.args.plan.now) c.args.instance c.take_cycles-answer.new.machine.room.cells.items (λ part. control.form_drives part (plain_form c.args.form.now)) =
    subst (λ (cells : Vec ℕ Global). ListDriven (design_of c.args.plan.now) c.args.instance cells.items (λ part. control.form_drives part (plain_form c.args.form.now))) (sym c.take_cycles-answer.ensures.cells) c.driven_cells.ensures.driven in
    let count : ℕ = form_length (plain_component c.instance_part-part.result.now) (plain_form c.args.form.now) in
    done_same_at (design_of c.args.plan.now) c.args.instance (form_drives (plain_form c.args.form.now)) (rows_of c.args.machine.now) (rows_of c.rest_listed.new.machine) (sampled_does (plain_form c.args.form.now) count (samples_in c.args.machine.now))
    (form_does (plain_form c.args.form.now)) c.args.budget c.take_cycles-answer.result
    (λ path held s number.
    samples_run (instance_at (tree_of (design_of c.args.plan.now)) path) held (plain_form c.args.form.now) count (samples_in c.args.machine.now) s c.args.budget
    (ap (λ (p : PlainComponent). form_length p (plain_form c.args.form.now)) (sym (c.instance_part-part.ensures path number)))
    (c.requires.island path number)
    (c.islands_run_by_samples.ensures (instance_at (tree_of (design_of c.args.plan.now)) path) held (plain_form c.args.form.now) (samples_in c.args.machine.now) s c.args.budget
    (c.accepted_has_no_empty_if.ensures (design_of c.args.plan.now) path (there (plain_form c.args.form.now) c.requires.form.0) c.requires.plan.flat c.requires.plan.accepted
    (stands_there (design_of c.args.plan.now) c.args.instance (plain_form c.args.form.now) c.requires.form path number))))
    (done_rested (design_of c.args.plan.now) c.args.instance (rows_of c.args.machine.now) (rows_of c.take_cycles-answer.new.machine) (rows_of c.rest_listed.new.machine) (form_drives (plain_form c.args.form.now))
    (sampled_does (plain_form c.args.form.now) count (samples_in c.args.machine.now)) c.args.budget c.take_cycles-answer.result (listed_in c.take_cycles-answer.new.machine.room.cells.items)
    (λ path k number off. sym (driven path k number) ∙ off)
    (λ path s. c.idle_settles.ensures (instance_at (tree_of (design_of c.args.plan.now)) path) s (rows_at (tree_of (design_of c.args.plan.now)) path (c.designs_keep_idle.ensures (design_of c.args.plan.now))))
    c.take_cycles-answer.ensures.paused c.rest_listed.ensures.rested)

pub returns-clause-counted : goal.returns-clause-counted
returns-clause-counted c =
    let form : PlainForm = plain_form c.args.form.now in
    let count : ℕ = form_length (plain_component c.instance_part-part.result.now) form in
    let first : Samples = samples_in c.args.machine.now in
    counted_same_at (design_of c.args.plan.now) c.args.instance (rows_of c.args.machine.now) (plain_counts c.args.counts.now) (plain_counts c.take_cycles-answer.new.counts) (sampled_counts form count first) (form_counts form) c.args.budget c.take_cycles-answer.result
    (λ path held s number q g.
    let i : Instance = instance_at (tree_of (design_of c.args.plan.now)) path in
    ap (λ k. sampled_count_from i held form k 0 first s c.args.budget q g) (ap (λ (p : PlainComponent). form_length p form) (c.instance_part-part.ensures path number))
    ∙ c.islands_count_by_samples.ensures i held form first s c.args.budget
    (c.accepted_has_no_empty_if.ensures (design_of c.args.plan.now) path (there form c.requires.form.0) c.requires.plan.flat c.requires.plan.accepted
    (stands_there (design_of c.args.plan.now) c.args.instance form c.requires.form path number))
    q g
    ∙ ap (λ (t : Tally). t q g) (island_counts i held form s c.args.budget (c.requires.island path number)))
    c.take_cycles-answer.ensures.counted
