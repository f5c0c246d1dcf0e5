-- What is kept of a statement: whether it has a length, and its length in cycles, which stops where no written length reaches.
use Rattle.std.specs.Prelude.{ℕ, ◌-◌, ◌^◌, min}
use Rattle.cx_meaning.specs.Designs.{PlainComponent, PlainForm, PlainStatements}
use Rattle.cx_rules.specs.Items.{Context, Visited}
use Rattle.cx_rules.specs.StaticControl.{form_has_length, all_have_length}
use Rattle.cx_rules.specs.Invokes.{form_lasts, sum_lasts, max_lasts}
use Rattle.cx_shape_rules.specs.declared.measures.Measure.{Measure}
use Rattle.cx_shape_rules.specs.declared.measures.Totals.{Totals}

abbrev pub capped : ℕ → ℕ
capped n = min n (2 ^ 128 - 1)

abbrev pub measure_in : PlainComponent → Context → PlainForm → Measure
measure_in part context form =
    record { has_length = form_has_length part context form; cycles = capped (form_lasts part form) }

abbrev pub measure_of : PlainComponent → Visited → Measure
measure_of part v = measure_in part v.context v.form

-- of statements one after the other, and side by side
abbrev pub totals_of : PlainComponent → PlainStatements → Totals
totals_of part parts =
    record {
      all_have_length = all_have_length part parts;
      sum = capped (sum_lasts part parts);
      longest = capped (max_lasts part parts);
    }
