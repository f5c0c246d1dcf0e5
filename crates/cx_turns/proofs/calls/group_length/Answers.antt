use Rattle.std.proofs.Common.{◌≡◌, ◌<◌, length, get_or, ap, sym, ◌∙◌, subst}
use Rattle.cx_design.specs.declared.groups.Group.{Group}
use Rattle.cx_meaning.specs.Islands.{kind_length}
use Rattle.cx_turns.specs.Machines.{design_of}
use Rattle.cx_turns.proofs.GroupLemmas.{group_inside, length_read}
use Rattle.cx_turns.proofs.calls.group_length.Goals as goal

pub bounds-groups-group : goal.bounds-groups-group
bounds-groups-group c =
    subst (λ xs. c.args.group < length xs) (sym c.as_slice-groups.ensures.value)
    (group_inside (design_of c.args.plan.now) c.args.plan.now.table.rows.items c.args.plan.now.table.children.items c.requires.plan.table c.args.instance c.args.group c.index.result.now c.component.result.now c.requires.instance c.requires.group c.index.ensures
    c.component.ensures.value)

pub bounds-groups-group-2 : goal.bounds-groups-group-2
bounds-groups-group-2 c =
    subst (λ xs. c.args.group < length xs) (sym c.as_slice-groups.ensures.value)
    (group_inside (design_of c.args.plan.now) c.args.plan.now.table.rows.items c.args.plan.now.table.children.items c.requires.plan.table c.args.instance c.args.group c.index.result.now c.component.result.now c.requires.instance c.requires.group c.index.ensures
    c.component.ensures.value)

pub returns : goal.returns
returns c =
    length_read (design_of c.args.plan.now) c.args.plan.now.table.rows.items c.args.plan.now.table.children.items c.requires.plan.table c.args.instance c.args.group c.index.result.now c.component.result.now c.index-groups-group.result c.kind_length.result
    c.requires.instance c.index.ensures c.component.ensures.value
    (group_inside (design_of c.args.plan.now) c.args.plan.now.table.rows.items c.args.plan.now.table.children.items c.requires.plan.table c.args.instance c.args.group c.index.result.now c.component.result.now c.requires.instance c.requires.group c.index.ensures
    c.component.ensures.value)
    (subst (λ xs. c.index-groups-group.result ≡ get_or xs c.args.group c.index-groups-group.result) c.as_slice-groups.ensures.value c.index-groups-group.is)
    (c.kind_length.ensures ∙ ap (λ (x : Group). kind_length x.kind) (sym c.index-groups-group.is))
