use Rattle.std.proofs.Common.{◌≤◌, [], List, ℕ, get_or, length, sym, subst, ◌∙◌, arith}
use Rattle.std.specs.Prelude.{vec_capacity}
use Rattle.cx_meaning.specs.Instances.{paths_of, part_of, instance_at, tree_of}
use Rattle.cx_eval_cycle.specs.Passes.{IsAscending}
use Rattle.cx_turns.specs.Groups.{ListGroup, ListWithin}
use Rattle.cx_turns.specs.Machines.{design_of}
use Rattle.cx_turns.proofs.GroupLemmas.{row_ascends, row_lists, row_within}
use Rattle.cx_turns.proofs.HoldLemmas.{own_path}
use Rattle.cx_turns.proofs.MarkLists.{ascending_few}
use Rattle.cx_turns.proofs.driven.list_group.Goals as goal

pub copy_cells-requires : goal.copy_cells-requires
copy_cells-requires c =
    let d = design_of c.args.plan.now in
    let n = c.args.instance in
    let row = c.group_row-row.result.now in
    let path = get_or (paths_of (tree_of d)) n [] in
    let number = own_path d n c.requires.instance in
    let within = row_within d c.requires.plan.design c.args.plan.now.table.rows.items c.args.plan.now.table.children.items c.requires.plan.table n c.args.group row c.requires.group c.group_row-row.ensures path number in
    let few = ascending_few row.cells.items (length (part_of (instance_at (tree_of d) path)).cells) (row_ascends d n c.args.group row c.requires.instance c.group_row-row.ensures) within in
    let room = c.requires.room path number in
    record { room = subst (λ (xs : List ℕ). length xs ≤ vec_capacity c.args.cells.now) (sym c.as_slice.ensures.value) (omega (arith, few, room)) }

pub returns-clause-driven : goal.returns-clause-driven
returns-clause-driven c =
    subst (λ (xs : List ℕ). ListGroup (design_of c.args.plan.now) c.args.instance c.args.group xs) (sym (c.copy_cells.ensures.items ∙ c.as_slice.ensures.value))
    (row_lists (design_of c.args.plan.now) c.args.instance c.args.group c.group_row-row.result.now c.group_row-row.ensures)

pub returns-clause-ascending : goal.returns-clause-ascending
returns-clause-ascending c =
    subst IsAscending (sym (c.copy_cells.ensures.items ∙ c.as_slice.ensures.value)) (row_ascends (design_of c.args.plan.now) c.args.instance c.args.group c.group_row-row.result.now c.requires.instance c.group_row-row.ensures)

pub returns-clause-within : goal.returns-clause-within
returns-clause-within c =
    subst (λ (xs : List ℕ). ListWithin (design_of c.args.plan.now) c.args.instance xs) (sym (c.copy_cells.ensures.items ∙ c.as_slice.ensures.value))
    (row_within (design_of c.args.plan.now) c.requires.plan.design c.args.plan.now.table.rows.items c.args.plan.now.table.children.items c.requires.plan.table c.args.instance c.args.group c.group_row-row.result.now c.requires.group c.group_row-row.ensures)
