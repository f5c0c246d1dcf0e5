use Rattle.std.proofs.Common.{ap, map}
use Rattle.cx_meaning.specs.Control.{assigns_drive}
use Rattle.cx_design.specs.PlainForms.{plain_assigns, plain_group}
use Rattle.cx_design.specs.declared.groups.Group.{Group}
use Rattle.cx_share.specs.Marks.{any_of}
use Rattle.cx_share.proofs.MarkLemmas.{adds_none, adds_step, adds_all, adds_same, any_of-map}
use Rattle.cx_share.proofs.candidates.add_driven.Goals as goal

pub loop-group-init : goal.loop-group-init
loop-group-init c = adds_none c.args.marks.now

pub loop-group-preserved : goal.loop-group-preserved
loop-group-preserved c =
    let f = λ (g : Group). assigns_drive (plain_group g).assigns in
    adds_step f c.args.groups.now c.loop-group.group-index c.group-item.result c.args.marks.now c.loop-group.marks c.add_targets.new.marks c.loop-group-test.true c.group-item.is c.loop-group.invariant
    (adds_same c.loop-group.marks c.add_targets.new.marks (assigns_drive (plain_assigns c.as_slice.result.now)) (f c.group-item.result)
    (λ n lt. ap (λ xs. assigns_drive (plain_assigns xs) n) c.as_slice.ensures.value) c.add_targets.ensures.value)

pub returns : goal.returns
returns c = record {
  value = adds_same c.args.marks.now c.loop-group.marks (any_of (λ g. assigns_drive (plain_group g).assigns) c.args.groups.now) (any_of (λ g. assigns_drive g.assigns) (map plain_group c.args.groups.now))
      (λ n lt. any_of-map (λ g. assigns_drive g.assigns) plain_group c.args.groups.now n)
      (adds_all (λ g. assigns_drive (plain_group g).assigns) c.args.groups.now c.loop-group.group-index c.args.marks.now c.loop-group.marks c.loop-group-test.false c.loop-group.invariant);
}
