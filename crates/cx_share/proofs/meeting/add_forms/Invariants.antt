use Rattle.std.proofs.Common.{take}
use Rattle.cx_design.specs.PlainForms.{plain_component, plain_form}
use Rattle.cx_sharing.specs.Meeting.{form_meets}
use Rattle.cx_share.specs.Tables.{Joins, pairs_of}
use Rattle.cx_share.proofs.meeting.add_forms.Given as goal

-- the cells that meet in the statements so far are added
abbrev pub invariant-loop-statement : goal.invariant-loop-statement
invariant-loop-statement l = Joins l.initial.table.items l.table.items (pairs_of (λ v. form_meets (plain_component l.part) (plain_form v.form.now)) (take l.statement-index l.statements))
