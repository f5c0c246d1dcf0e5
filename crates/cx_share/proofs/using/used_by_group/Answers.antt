use Rattle.cx_design.specs.PlainForms.{plain_assigns}
use Rattle.cx_sharing.specs.Uses.{assigns_use}
use Rattle.cx_share.proofs.MarkLemmas.{filled}
use Rattle.cx_share.proofs.using.used_by_group.Goals as goal

pub returns : goal.returns
returns c = record {
  value = filled c.args.count c.add_assigns.new.marks (assigns_use (plain_assigns c.args.group.now.assigns.items)) (rw (c.in_ok-marks.ensures.value, c.as_slice.ensures.value) at c.in_ok-add_assigns.ensures.value);
}
