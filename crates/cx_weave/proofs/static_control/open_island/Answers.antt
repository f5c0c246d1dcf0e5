use Rattle.std.proofs.Common.{◌≡◌, ◌≤◌, ◌<◌, Bool, List, length, refl, sym, ap, ◌∙◌, subst, arith}
use Rattle.std.specs.Prelude.{vec_capacity}
use Rattle.std.specs.Vec.{with_items}
use Rattle.std.proofs.lemmas.List.{with_items_is}
use Rattle.cx_text.specs.declared.limits.TheConstants.{REPETITIONS}
use Rattle.cx_meaning.specs.Instances.{part_of, instance_at, tree_of}
use Rattle.cx_meaning.specs.Islands.{form_length, no_history}
use Rattle.cx_design.specs.PlainForms.{plain_component, plain_form}
use Rattle.cx_laws.specs.Samples.{form_ifs}
use Rattle.cx_turns.specs.Machines.{design_of}
use Rattle.cx_turns.proofs.IslandLemmas.{island_short, length_told}
use Rattle.cx_weave.specs.declared.strands.Island.{Island}
use Rattle.cx_weave.specs.declared.strands.Strand.TheVariants as strands
use Rattle.cx_weave.specs.Ledger.{amount}
use Rattle.cx_orders.specs.Open.{InIsland}
use Rattle.cx_weave.specs.Strands.{AnIsland}
use Rattle.cx_weave.proofs.Amounts.{amount_island}
use Rattle.cx_turns.specs.Marks.{HasMarks, set_count}
use Rattle.cx_weave.proofs.IslandSupplies.{cells_fit, cells_listed, lists_left, marks_clear, marks_fit, samples_fit}
use Rattle.cx_weave.proofs.OpenSteps.{island_opens, opens_as}
use Rattle.cx_weave.proofs.StrandFolds.{is_island}
use Rattle.cx_weave.proofs.static_control.open_island.Goals as goal

pub take_island-samples-requires : goal.take_island-samples-requires
take_island-samples-requires c = record { some = lists_left (design_of c.args.plan.now) c.args.instance c.args.spares.now (plain_form c.args.form.now) c.requires.supplied c.requires.island }

pub driven_cells-requires-clause-marks : goal.driven_cells-requires-clause-marks
driven_cells-requires-clause-marks c = subst (λ xs. HasMarks (design_of c.args.plan.now) c.args.instance xs) (sym c.deref_mut.ensures.value)
    (marks_fit (design_of c.args.plan.now) c.args.instance c.args.spares.now (plain_form c.args.form.now) c.requires.supplied c.take_island-samples.new.spares (vec_capacity c.take_island-samples.result.cells) (length c.take_island-samples.result.samples.items) c.take_island-samples.ensures.ledger)

pub driven_cells-requires-clause-clear : goal.driven_cells-requires-clause-clear
driven_cells-requires-clause-clear c = ap (λ xs. set_count xs) c.deref_mut.ensures.value
    ∙ marks_clear (design_of c.args.plan.now) c.args.instance c.args.spares.now (plain_form c.args.form.now) c.requires.supplied c.take_island-samples.new.spares (vec_capacity c.take_island-samples.result.cells) (length c.take_island-samples.result.samples.items) c.take_island-samples.ensures.ledger

pub driven_cells-requires-clause-room : goal.driven_cells-requires-clause-room
driven_cells-requires-clause-room c = subst (λ (xs : List Bool). length xs ≤ vec_capacity c.take_island-samples.result.cells) (sym c.deref_mut.ensures.value)
    (cells_fit (design_of c.args.plan.now) c.args.instance c.args.spares.now (plain_form c.args.form.now) c.requires.supplied c.take_island-samples.new.spares (vec_capacity c.take_island-samples.result.cells) (length c.take_island-samples.result.samples.items) c.take_island-samples.ensures.ledger)

pub returns-clause-opens : goal.returns-clause-opens
returns-clause-opens c =
    let d = design_of c.args.plan.now in
    let form = plain_form c.args.form.now in
    let part = plain_component c.instance_part.result.now in
    let island : Island = record { form = c.args.form; cycle = 0; left = c.form_length-left.result; samples = c.take_island-samples.result.samples; cells = c.driven_cells.new.cells } in
    let short : form_length part form < REPETITIONS =
    island_short d c.args.instance form part c.requires.instance c.requires.form c.requires.island c.instance_part.ensures (λ path v stands is. c.accepted_islands_are_short.ensures d path v c.requires.plan.flat c.requires.plan.accepted stands is) in
    let long : c.form_length-left.result ≡ form_length part form = length_told part form c.form_length-left.result short c.form_length-left.ensures in
    let room : form_ifs form ≤ length c.take_island-samples.result.samples.items =
    samples_fit d c.args.instance c.args.spares.now form c.requires.supplied c.take_island-samples.new.spares (vec_capacity c.take_island-samples.result.cells) (length c.take_island-samples.result.samples.items) c.take_island-samples.ensures.ledger c.requires.instance c.requires.form in
    opens_as d c.args.instance form (strands.InIsland island) (AnIsland form 0 c.form_length-left.result c.take_island-samples.result.samples.items c.driven_cells.new.cells.items) (is_island island)
    (λ path number.
    let i = instance_at (tree_of d) path in
    let whole : c.form_length-left.result ≡ form_length (part_of i) form = long ∙ ap (λ p. form_length p form) (c.instance_part.ensures path number) in (
      no_history,
      island_opens i form (c.requires.island path number) ∙ ap (λ m. InIsland form 0 m no_history) (sym whole),
      record {
        stands = c.requires.form;
        island = c.requires.island;
        room = room;
        driven = c.driven_cells.ensures.driven;
        ascending = c.driven_cells.ensures.ascending;
        within = c.driven_cells.ensures.within;
        knows = λ other there. record { history = no_history; same = λ port at is. refl; before = tt };
        whole = λ other there. (let w = long ∙ ap (λ p. form_length p form) (c.instance_part.ensures other there) in omega (arith, w));
      },
    ))

pub returns-clause-ledger : goal.returns-clause-ledger
returns-clause-ledger c =
    let island : Island = record { form = c.args.form; cycle = 0; left = c.form_length-left.result; samples = c.take_island-samples.result.samples; cells = c.driven_cells.new.cells } in
    let mid = c.take_island-samples.new.spares.marks in
    let first : c.deref_mut.result.now ≡ mid.items = c.deref_mut.ensures.value in
    let marks : (with_items mid c.driven_cells.new.marks).items ≡ c.driven_cells.new.marks = with_items_is mid c.driven_cells.new.marks (c.driven_cells.ensures.length ∙ c.deref_mut.ensures.len) in
    let long : length (with_items mid c.driven_cells.new.marks).items ≡ length mid.items = ap (λ (xs : List Bool). length xs) marks ∙ c.driven_cells.ensures.length ∙ ap (λ (xs : List Bool). length xs) first in
    let clear : set_count (with_items mid c.driven_cells.new.marks).items ≡ 0 = ap (λ (xs : List Bool). set_count xs) marks ∙ c.driven_cells.ensures.clear in
    cells_listed c.args.spares.now c.take_island-samples.new.spares (with_items mid c.driven_cells.new.marks) (vec_capacity c.take_island-samples.result.cells) (vec_capacity c.driven_cells.new.cells) (length c.take_island-samples.result.samples.items)
    c.take_island-samples.ensures.ledger c.driven_cells.ensures.room long clear (λ x. amount x (strands.InIsland island)) (λ x. amount_island x island)
