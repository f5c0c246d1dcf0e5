use Rattle.std.proofs.Common.{◌∙◌}
use Rattle.cx_design.specs.PlainForms.{plain_component}
use Rattle.cx_sharing.specs.Uses.{group_uses}
use Rattle.cx_share.proofs.MarkLemmas.{adds_none, adds_at, adds_all}
use Rattle.cx_share.proofs.using.add_groups.Goals as goal

pub loop-group-init : goal.loop-group-init
loop-group-init c = adds_none c.args.marks.now

pub loop-group-preserved : goal.loop-group-preserved
loop-group-preserved c =
    let f = group_uses (plain_component c.args.part.now) in
    adds_at f c.args.groups.now c.loop-group.group-index 0 c.args.marks.now c.loop-group.marks c.add_group.new.marks c.loop-group-test.true c.loop-group.invariant c.add_group.ensures.value

pub add_group-requires : goal.add_group-requires
add_group-requires c = record { used = c.requires.used; count = c.loop-group.invariant.count ∙ c.requires.count }

pub returns : goal.returns
returns c = record {
  value = adds_all (group_uses (plain_component c.args.part.now)) c.args.groups.now c.loop-group.group-index c.args.marks.now c.loop-group.marks c.loop-group-test.false c.loop-group.invariant;
}
