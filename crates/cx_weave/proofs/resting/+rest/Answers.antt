use Rattle.std.proofs.Common.{rules, ◌≡◌, ◌<◌, [], get_or, length, refl, sym, ◌∙◌, subst, arith}
use Rattle.std.proofs.lemmas.Bool.{lt-ltb, le-ltb}
use Rattle.cx_meaning.specs.Cycles.{every_cell}
use Rattle.cx_meaning.specs.Instances.{Set, paths_of, tree_of}
use Rattle.cx_design.specs.declared.cells.CellKind.TheVariants.{Prim, Part}
use Rattle.cx_turns.specs.Children.{IsPart}
use Rattle.cx_turns.specs.Machines.{design_of, rows_of}
use Rattle.cx_turns.specs.Rooms.{HasRoom}
use Rattle.cx_turns.proofs.ChildLemmas.{child_instance}
use Rattle.cx_turns.proofs.HoldLemmas.{own_path, part_inside}
use Rattle.cx_turns.proofs.Measures.{below, call_falls}
use Rattle.cx_weave.specs.Deep.{IsDeep}
use Rattle.cx_weave.proofs.CellKinds.{few_cells, part_is, other_is, within_cells}
use Rattle.cx_weave.proofs.RestSteps.{deep_starts, deep_ends, deep_skips, deep_goes, below_number, one_below, none_below}
use Rattle.cx_weave.proofs.resting.+rest.Goals as goal

pub rest_instance-loop-cell-init : goal.rest_instance-loop-cell-init
rest_instance-loop-cell-init t c =
    let d = design_of c.args.plan.now in (
      record {
        evaluator = c.rest_all.ensures.evaluator ∙ c.requires.machine.evaluator;
        state = c.rest_all.ensures.rested.fits;
        room = subst (λ r. HasRoom d r) (sym c.rest_all.ensures.room) c.requires.machine.room;
      },
      subst (λ (set : Set). IsDeep d (rows_of c.args.machine.now) (rows_of c.rest_all.new.machine) c.args.instance set every_cell) (sym none_below)
          (deep_starts d c.args.instance (rows_of c.args.machine.now) (rows_of c.rest_all.new.machine) every_cell c.rest_all.ensures.rested),
    )

pub rest_instance-overflow_cast-cell : goal.rest_instance-overflow_cast-cell
rest_instance-overflow_cast-cell t c =
    let d = design_of c.args.plan.now in
    let few = few_cells d c.requires.plan.design c.args.plan.now.table.rows.items c.args.plan.now.table.children.items c.requires.plan.table c.args.instance c.instance_part.result.now c.instance_part.ensures (get_or (paths_of (tree_of d)) c.args.instance []) (own_path d c.args.instance c.requires.instance) in
    let less = c.loop-cell-test.true in
    first_of (omega (arith, few, less), search (rules, few, less))

pub rest_instance-rest_below-requires : goal.rest_instance-rest_below-requires
rest_instance-rest_below-requires t c =
    let d = design_of c.args.plan.now in
    let less = c.loop-cell-test.true in (
      omega (arith, c.decreases),
      (
        c.requires.plan,
        (
          c.loop-cell.invariant.0,
          (
            c.requires.instance,
            λ path number.
                let count = within_cells d c.requires.plan.design c.args.plan.now.table.rows.items c.args.plan.now.table.children.items c.requires.plan.table c.args.instance c.instance_part.result.now c.instance_part.ensures path number in
                omega (arith, count, less),
          ),
        ),
      ),
    )

pub rest_instance-loop-cell-preserved : goal.rest_instance-loop-cell-preserved
rest_instance-loop-cell-preserved t c =
    let d = design_of c.args.plan.now in (
      c.rest_below.ensures.machine,
      subst (λ (set : Set). IsDeep d (rows_of c.args.machine.now) (rows_of c.rest_below.new.machine) c.args.instance set every_cell) (sym (one_below c.loop-cell.cell))
          (c.rest_below.ensures.rested (rows_of c.args.machine.now) (below_number c.loop-cell.cell) every_cell (le-ltb c.loop-cell.cell c.loop-cell.cell (omega arith)) c.loop-cell.invariant.1),
    )

pub rest_instance-returns-clause-rested : goal.rest_instance-returns-clause-rested
rest_instance-returns-clause-rested t c =
    let d = design_of c.args.plan.now in
    let past = c.loop-cell-test.false in
    deep_ends d c.args.instance (rows_of c.args.machine.now) (rows_of c.loop-cell.machine) (below_number c.loop-cell.cell) every_cell (λ part. every_cell) (λ path number. refl)
    (λ path k child number e.
    let inside = part_inside d c.requires.plan.design c.args.plan.now.table.rows.items c.args.plan.now.table.children.items c.requires.plan.table c.args.instance k path child number e in
    let count = within_cells d c.requires.plan.design c.args.plan.now.table.rows.items c.args.plan.now.table.children.items c.requires.plan.table c.args.instance c.instance_part.result.now c.instance_part.ensures path number in
    lt-ltb k c.loop-cell.cell (omega (arith, inside, count, past)))
    c.loop-cell.invariant.1

pub rest_below-child_number-child-requires-clause-part : goal.rest_below-child_number-child-requires-clause-part
rest_below-child_number-child-requires-clause-part t c =
    let d = design_of c.args.plan.now in
    let inside : c.args.cell < length c.instance_part.result.now.cells.items = (
    let own = own_path d c.args.instance c.requires.instance in
    let count = within_cells d c.requires.plan.design c.args.plan.now.table.rows.items c.args.plan.now.table.children.items c.requires.plan.table c.args.instance c.instance_part.result.now c.instance_part.ensures (get_or (paths_of (tree_of d)) c.args.instance []) own in
    let here = c.requires.cell (get_or (paths_of (tree_of d)) c.args.instance []) own in
    omega (arith, count, here)) in
    part_is d c.requires.plan.design c.args.plan.now.table.rows.items c.args.plan.now.table.children.items c.requires.plan.table c.args.instance c.instance_part.result.now c.instance_part.ensures c.args.cell c.in-Part.field-0 c.index-own.result.now inside c.index-own.ensures c.in-Part.is

pub rest_below-rest_instance-requires : goal.rest_below-rest_instance-requires
rest_below-rest_instance-requires t c =
    let d = design_of c.args.plan.now in
    let own = own_path d c.args.instance c.requires.instance in
    let path = get_or (paths_of (tree_of d)) c.args.instance [] in
    let inside : c.args.cell < length c.instance_part.result.now.cells.items = (
    let count = within_cells d c.requires.plan.design c.args.plan.now.table.rows.items c.args.plan.now.table.children.items c.requires.plan.table c.args.instance c.instance_part.result.now c.instance_part.ensures path own in
    let here = c.requires.cell path own in
    omega (arith, count, here)) in
    let part : IsPart d c.args.instance c.args.cell =
    part_is d c.requires.plan.design c.args.plan.now.table.rows.items c.args.plan.now.table.children.items c.requires.plan.table c.args.instance c.instance_part.result.now c.instance_part.ensures c.args.cell c.in-Part.field-0 c.index-own.result.now inside c.index-own.ensures c.in-Part.is in
    let falls = call_falls d c.args.instance c.args.cell c.child_number-child.result path (part path own).0 own (c.child_number-child.ensures path own) (part path own).1 in (
      omega (arith, c.decreases, falls),
      (c.requires.plan, (c.requires.machine, child_instance d c.args.instance c.args.cell c.child_number-child.result c.requires.instance c.child_number-child.ensures)),
    )

pub rest_below-returns-in-Part-clause-rested : goal.rest_below-returns-in-Part-clause-rested
rest_below-returns-in-Part-clause-rested t c rows below top off rests =
    let d = design_of c.args.plan.now in
    let own = own_path d c.args.instance c.requires.instance in
    let path = get_or (paths_of (tree_of d)) c.args.instance [] in
    let inside : c.args.cell < length c.instance_part.result.now.cells.items = (
    let count = within_cells d c.requires.plan.design c.args.plan.now.table.rows.items c.args.plan.now.table.children.items c.requires.plan.table c.args.instance c.instance_part.result.now c.instance_part.ensures path own in
    let here = c.requires.cell path own in
    omega (arith, count, here)) in
    let part : IsPart d c.args.instance c.args.cell =
    part_is d c.requires.plan.design c.args.plan.now.table.rows.items c.args.plan.now.table.children.items c.requires.plan.table c.args.instance c.instance_part.result.now c.instance_part.ensures c.args.cell c.in-Part.field-0 c.index-own.result.now inside c.index-own.ensures c.in-Part.is in
    deep_goes d c.args.instance rows (rows_of c.args.machine.now) (rows_of c.rest_instance.new.machine) below top c.args.cell c.child_number-child.result part c.child_number-child.ensures off rests c.rest_instance.ensures.rested

pub rest_below-returns-in-Prim-clause-rested : goal.rest_below-returns-in-Prim-clause-rested
rest_below-returns-in-Prim-clause-rested t c rows below top off rests =
    let d = design_of c.args.plan.now in
    let own = own_path d c.args.instance c.requires.instance in
    let path = get_or (paths_of (tree_of d)) c.args.instance [] in
    let inside : c.args.cell < length c.instance_part.result.now.cells.items = (
    let count = within_cells d c.requires.plan.design c.args.plan.now.table.rows.items c.args.plan.now.table.children.items c.requires.plan.table c.args.instance c.instance_part.result.now c.instance_part.ensures path own in
    let here = c.requires.cell path own in
    omega (arith, count, here)) in
    deep_skips d c.args.instance rows (rows_of c.args.machine.now) below top c.args.cell
    (λ at child number e.
    other_is d c.requires.plan.design c.args.plan.now.table.rows.items c.args.plan.now.table.children.items c.requires.plan.table c.args.instance c.instance_part.result.now c.instance_part.ensures c.args.cell c.index-own.result.now inside c.index-own.ensures
    (λ k is. (let f : Prim c.in-Prim.field-0 ≡ Part k = sym c.in-Prim.is ∙ is in cc)) at child number e) rests
