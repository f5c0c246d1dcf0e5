use Rattle.cx_design.specs.PlainForms.{plain_assign, plain_assigns}
use Rattle.cx_design.specs.declared.groups.Assign.{Assign}
use Rattle.cx_sharing.specs.Uses.{assign_uses, assigns_use}
use Rattle.cx_share.specs.Marks.{any_of}
use Rattle.cx_share.proofs.MarkLemmas.{adds_none, adds_step, adds_all, adds_same, any_of-map}
use Rattle.cx_share.proofs.using.add_assigns.Goals as goal

pub loop-assign-init : goal.loop-assign-init
loop-assign-init c = adds_none c.args.marks.now

pub loop-assign-preserved : goal.loop-assign-preserved
loop-assign-preserved c =
    let f = λ (a : Assign). assign_uses (plain_assign a) in
    adds_step f c.args.assigns.now c.loop-assign.assign-index c.assign-item.result c.args.marks.now c.loop-assign.marks c.add_assign.new.marks c.loop-assign-test.true c.assign-item.is c.loop-assign.invariant c.in_ok-add_assign.ensures.value

pub returns : goal.returns
returns c = record {
  value = adds_same c.args.marks.now c.loop-assign.marks (any_of (λ a. assign_uses (plain_assign a)) c.args.assigns.now) (assigns_use (plain_assigns c.args.assigns.now))
      (λ n lt. any_of-map assign_uses plain_assign c.args.assigns.now n)
      (adds_all (λ a. assign_uses (plain_assign a)) c.args.assigns.now c.loop-assign.assign-index c.args.marks.now c.loop-assign.marks c.loop-assign-test.false c.loop-assign.invariant);
}
