use Rattle.std.proofs.Common.{◌≡◌, ◌++◌, drop}
use Rattle.cx_design.specs.PlainForms.{plain_statements}
use Rattle.cx_race.specs.Forms.{forms_in, plain_forms}
use Rattle.cx_race.proofs.forms.+forms.Given as goal

-- what is added so far, and the forms of the parts that are left, are all
abbrev pub invariant-add_all-loop-part : goal.invariant-add_all-loop-part
invariant-add_all-loop-part l =
    plain_forms l.forms.items ++ forms_in (plain_statements (drop l.part-index l.parts)) ≡ plain_forms l.initial.forms.items ++ forms_in (plain_statements l.parts)
