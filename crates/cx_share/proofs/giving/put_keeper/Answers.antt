use Rattle.cx_share.proofs.GiveLemmas.{put_none, put_next, put_all}
use Rattle.cx_share.proofs.giving.put_keeper.Goals as goal

pub loop-given-init : goal.loop-given-init
loop-given-init c = put_none c.args.kept.now.cell c.args.keepers.now.items

pub loop-given-preserved : goal.loop-given-preserved
loop-given-preserved c =
    put_next c.args.kept.now.cell c.args.kept.now.given.items c.loop-given.given-index c.args.keepers.now.items c.loop-given.keepers.items c.put.new.keepers.items (rw c.deref-given-items.ensures.value at c.loop-given-test.true) c.loop-given.invariant (rw c.deref-given-items.ensures.value at c.put.ensures.value)

pub returns : goal.returns
returns c = record {
  value = put_all c.args.kept.now.cell c.args.kept.now.given.items c.loop-given.given-index c.args.keepers.now.items c.loop-given.keepers.items (rw c.deref-given-items.ensures.value at c.loop-given-test.false) c.loop-given.invariant;
}
