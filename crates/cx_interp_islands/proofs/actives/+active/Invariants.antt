use Rattle.std.proofs.Common.{◌≡◌, ◌≤◌, ◌<◌, ◌+◌, ◌-◌, ◌^◌, ◌++◌, length, map, drop}
use Rattle.std.specs.Vec.{vec_len, vec_capacity}
use Rattle.cx_design.specs.PlainActives.{plain_entry}
use Rattle.cx_design.specs.PlainForms.{plain_component, plain_statements}
use Rattle.cx_laws.specs.Positions.{entry_at, no_entry}
use Rattle.cx_laws.specs.Samples.{parts_by, arms_by, ifs_in}
use Rattle.cx_interp_islands.specs.Rooms.{groups_in, samples_of}
use Rattle.cx_interp_islands.proofs.actives.+active.Given as goal

-- what is added, and what the parts that are left have, is all
abbrev pub invariant-add_parts-loop-statement : goal.invariant-add_parts-loop-statement
invariant-add_parts-loop-statement l =
    (map plain_entry l.into.items ++ parts_by (plain_component l.part) (samples_of l.samples) entry_at no_entry (plain_statements (drop l.statement-index l.parts)) l.number l.offset
    ≡ map plain_entry l.initial.into.items ++ parts_by (plain_component l.part) (samples_of l.samples) entry_at no_entry (plain_statements l.parts) l.initial.number l.initial.offset)
    × (l.offset < 2 ^ 64 - 1)
    × (l.number + ifs_in (plain_statements (drop l.statement-index l.parts)) ≤ length l.samples)
    × (vec_len l.into + groups_in (plain_statements (drop l.statement-index l.parts)) ≤ vec_len l.initial.into + groups_in (plain_statements l.parts))
    × (vec_capacity l.into ≡ vec_capacity l.initial.into)

-- what is added, and what the arms that are left have, is all
abbrev pub invariant-add_arms-loop-statement : goal.invariant-add_arms-loop-statement
invariant-add_arms-loop-statement l =
    (map plain_entry l.into.items ++ arms_by (plain_component l.part) (samples_of l.samples) entry_at no_entry (plain_statements (drop l.statement-index l.arms)) l.number l.offset
    ≡ map plain_entry l.initial.into.items ++ arms_by (plain_component l.part) (samples_of l.samples) entry_at no_entry (plain_statements l.arms) l.initial.number l.offset)
    × (l.number + ifs_in (plain_statements (drop l.statement-index l.arms)) ≤ length l.samples)
    × (vec_len l.into + groups_in (plain_statements (drop l.statement-index l.arms)) ≤ vec_len l.initial.into + groups_in (plain_statements l.arms))
    × (vec_capacity l.into ≡ vec_capacity l.initial.into)
