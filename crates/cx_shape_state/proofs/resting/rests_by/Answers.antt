use Rattle.std.proofs.Common.{◌<◌, ◌∙◌, ap, sym, subst, false, Bool, Some, Option, None, length}
use Rattle.std.proofs.lemmas.Option.{slice_get-get_or}
use Rattle.cx_shape_state.specs.Waits.{waits}
use Rattle.cx_shape_state.specs.Joining.{IsWithin}
use Rattle.cx_shape_state.specs.Resting.{rests_by, rests_at}
use Rattle.cx_shape_state.proofs.resting.rests_by.Goals as goal

abbrev bool_or : Bool → Option Bool → Bool
bool_or other None = other
bool_or other (Some b) = b

pub returns-in-State : goal.returns-in-State
unfolding rests_at
returns-in-State c = record { value = λ i inputs port are e. ap (rests_by (waits i inputs)) (sym c.in-State.is ∙ e) }

pub returns-in-Nothing : goal.returns-in-Nothing
unfolding rests_at
returns-in-Nothing c = record { value = λ i inputs port are e. ap (rests_by (waits i inputs)) (sym c.in-Nothing.is ∙ e) }

pub returns-in-Cell : goal.returns-in-Cell
unfolding rests_at
returns-in-Cell c = record {
  value = λ i inputs port are e.
      let cell = c.in-Cell.cell in
      let marks = c.args.marks.now in
      let within : cell < length marks = subst (IsWithin (length marks)) c.in-Cell.is c.requires.within in
      let told = are.tell cell (subst (λ k. cell < k) are.count within) in
      ap (bool_or false) (sym (slice_get-get_or marks cell false within) ∙ told) ∙ ap (rests_by (waits i inputs)) (sym c.in-Cell.is ∙ e);
}
