use Rattle.std.proofs.Common.{◌≡◌, ◌++◌, drop, flat_map}
use Rattle.cx_rules.specs.Invokes.{invoke_in}
use Rattle.cx_race.specs.Forms.{plain_forms}
use Rattle.cx_race.proofs.forms.invokes_by.Given as goal

-- what is added so far, and what the forms that are left have, is all
abbrev pub invariant-loop-form : goal.invariant-loop-form
invariant-loop-form l = l.numbers.items ++ flat_map invoke_in (plain_forms (drop l.form-index l.forms)) ≡ flat_map invoke_in (plain_forms l.forms)
