use Rattle.std.proofs.Common.{◌≡◌, ◌++◌, drop, flat_map}
use Rattle.cx_race.specs.Forms.{own_groups, plain_forms}
use Rattle.cx_race.proofs.forms.groups_by.Given as goal

-- what is added so far, and what the forms that are left have, is all
abbrev pub invariant-loop-form : goal.invariant-loop-form
invariant-loop-form l = l.groups.items ++ flat_map own_groups (plain_forms (drop l.form-index l.forms)) ≡ flat_map own_groups (plain_forms l.forms)
