use Rattle.std.proofs.Common.{◌∙◌}
use Rattle.cx_meaning.specs.Control.{targets_cell, assigns_drive}
use Rattle.cx_design.specs.PlainForms.{plain_assign, plain_assigns}
use Rattle.cx_design.specs.declared.groups.Assign.{Assign}
use Rattle.cx_share.specs.Marks.{any_of}
use Rattle.cx_share.proofs.MarkLemmas.{adds_none, adds_step, adds_all, adds_same, any_of-map}
use Rattle.cx_share.proofs.UseLemmas.{drives-any_of}
use Rattle.cx_share.proofs.candidates.add_targets.Goals as goal

pub loop-assign-init : goal.loop-assign-init
loop-assign-init c = adds_none c.args.marks.now

pub loop-assign-preserved : goal.loop-assign-preserved
loop-assign-preserved c =
    let f = λ (a : Assign). targets_cell a.target in
    adds_step f c.args.assigns.now c.loop-assign.assign-index c.assign-item.result c.args.marks.now c.loop-assign.marks c.add_port.new.marks c.loop-assign-test.true c.assign-item.is c.loop-assign.invariant c.add_port.ensures.value

pub returns : goal.returns
returns c = record {
  value = adds_same c.args.marks.now c.loop-assign.marks (any_of (λ a. targets_cell a.target) c.args.assigns.now) (assigns_drive (plain_assigns c.args.assigns.now))
      (λ n lt. any_of-map (λ a. targets_cell a.target) plain_assign c.args.assigns.now n ∙ drives-any_of (plain_assigns c.args.assigns.now) n)
      (adds_all (λ a. targets_cell a.target) c.args.assigns.now c.loop-assign.assign-index c.args.marks.now c.loop-assign.marks c.loop-assign-test.false c.loop-assign.invariant);
}
