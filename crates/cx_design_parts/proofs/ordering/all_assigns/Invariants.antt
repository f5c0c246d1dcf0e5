use Rattle.std.proofs.Common.{◌≡◌, ◌++◌, None, map, drop}
use Rattle.cx_meaning.specs.Active.{owned, owned_by_groups}
use Rattle.cx_design.specs.PlainForms.{plain_assigns, plain_group}
use Rattle.cx_design_parts.specs.Plain.{plain_owned}
use Rattle.cx_design_parts.proofs.ordering.all_assigns.Given as goal

-- the list so far, and the groups that are left, are all
abbrev pub invariant-loop-number : goal.invariant-loop-number
invariant-loop-number l =
    map plain_owned l.list.items ++ owned_by_groups l.number (map plain_group (drop l.number l.component.groups.items)) ≡ owned None (plain_assigns l.component.always.items) ++ owned_by_groups 0 (map plain_group l.component.groups.items)
