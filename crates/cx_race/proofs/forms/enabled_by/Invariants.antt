use Rattle.std.proofs.Common.{◌≡◌, ◌++◌, drop, flat_map}
use Rattle.cx_rules.specs.RaceRule.{enabled_group}
use Rattle.cx_race.specs.Forms.{plain_forms}
use Rattle.cx_race.proofs.forms.enabled_by.Given as goal

-- what is added so far, and what the forms that are left have, is all
abbrev pub invariant-loop-form : goal.invariant-loop-form
invariant-loop-form l = l.groups.items ++ flat_map enabled_group (plain_forms (drop l.form-index l.forms)) ≡ flat_map enabled_group (plain_forms l.forms)
