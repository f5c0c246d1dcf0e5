use Rattle.cx_share.proofs.UseLemmas.{groups_listed}
use Rattle.cx_share.proofs.using.used_by_groups.Goals as goal

pub returns : goal.returns
returns c = record {
  value = groups_listed c.args.part.now.cells.items c.args.part.now.groups.items c.loop-group.group-index c.loop-group.used.items (rw c.deref-group-items.ensures.value at c.loop-group-test.false)
      c.loop-group.invariant;
}
