use Rattle.std.proofs.Common.{rules, ◌<◌, ℕ, [], get_or, length, sym, subst, arith}
use Rattle.cx_meaning.specs.Instances.{paths_of, part_of, instance_at, tree_of}
use Rattle.cx_turns.specs.Groups.{IsGroupOf}
use Rattle.cx_turns.specs.Machines.{design_of}
use Rattle.cx_turns.proofs.GroupLemmas.{row_within}
use Rattle.cx_turns.proofs.HoldLemmas.{own_path}
use Rattle.cx_turns.proofs.MarkSteps.{groups_are}
use Rattle.cx_turns.proofs.driven.mark_group.Goals as goal

pub group_row-row-requires-clause-group : goal.group_row-row-requires-clause-group
group_row-row-requires-clause-group c path number =
    let count = groups_are (design_of c.args.plan.now) c.args.instance c.instance_part.result.now c.instance_part.ensures path number in
    let less = c.if-group-count.true in
    let long = c.len-count.ensures in
    first_of (omega (arith, count, less, long), search (rules, count, less, long))

pub mark_cells-requires-clause-within : goal.mark_cells-requires-clause-within
mark_cells-requires-clause-within c =
    let d = design_of c.args.plan.now in
    let own = own_path d c.args.instance c.requires.instance in
    let path = get_or (paths_of (tree_of d)) c.args.instance [] in
    let is_group : IsGroupOf d c.args.instance c.args.group = (λ other number.
    let count = groups_are d c.args.instance c.instance_part.result.now c.instance_part.ensures other number in
    let less = c.if-group-count.true in
    let long = c.len-count.ensures in
    first_of (omega (arith, count, less, long), search (rules, count, less, long))) in
    let within = row_within d c.requires.plan.design c.args.plan.now.table.rows.items c.args.plan.now.table.children.items c.requires.plan.table c.args.instance c.args.group c.group_row-row.result.now is_group c.group_row-row.ensures path own in
    let marks = c.requires.marks path own in
    λ k e less.
    let inside = subst (λ xs. (j f : ℕ) → j < length xs → get_or xs j f < length (part_of (instance_at (tree_of d) path)).cells) (sym c.as_slice.ensures.value) within k e less in
    omega (arith, inside, marks)
