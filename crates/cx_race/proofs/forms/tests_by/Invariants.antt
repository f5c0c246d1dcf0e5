use Rattle.std.proofs.Common.{◌≡◌, ◌++◌, drop, flat_map}
use Rattle.cx_rules.specs.Items.{option_list, test_in}
use Rattle.cx_race.specs.Forms.{plain_forms}
use Rattle.cx_race.proofs.forms.tests_by.Given as goal

-- what is added so far, and what the forms that are left have, is all
abbrev pub invariant-loop-form : goal.invariant-loop-form
invariant-loop-form l =
    l.tests.items ++ flat_map (λ form. option_list (test_in form)) (plain_forms (drop l.form-index l.forms)) ≡ flat_map (λ form. option_list (test_in form)) (plain_forms l.forms)
