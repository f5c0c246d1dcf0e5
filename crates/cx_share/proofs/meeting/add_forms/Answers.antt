use Rattle.cx_design.specs.PlainForms.{plain_component, plain_form}
use Rattle.cx_design_parts.specs.Items.{plain_visited}
use Rattle.cx_sharing.specs.Meeting.{form_meets}
use Rattle.cx_share.proofs.TableLemmas.{joins_all, joins_map}
use Rattle.cx_share.proofs.meeting.add_forms.Goals as goal

pub returns : goal.returns
returns c = record {
  value = joins_map (λ v. form_meets (plain_component c.args.part.now) v.form) plain_visited c.args.statements.now c.args.table.now.items c.loop-statement.table.items
      (joins_all (λ v. form_meets (plain_component c.args.part.now) (plain_form v.form.now)) c.args.statements.now c.loop-statement.statement-index c.args.table.now.items c.loop-statement.table.items c.loop-statement-test.false c.loop-statement.invariant);
}
