use Rattle.std.proofs.Common.{◌∙◌}
use Rattle.cx_share.proofs.TableLemmas.{earlier_more, order_more}
use Rattle.cx_share.proofs.pairs.add_earlier.Goals as goal

pub loop-set-preserved : goal.loop-set-preserved
loop-set-preserved c =
    let sets = c.args.sets.now in
    let inv = c.loop-set.invariant in
    record {
      count = c.join.ensures.value.count ∙ inv.count;
      marks = earlier_more sets c.loop-set.set-index c.set-item.result c.loop-set.earlier c.join.new.self c.loop-set-test.true c.set-item.is inv.marks c.join.ensures.value;
      joined = order_more sets c.loop-set.set-index c.set-item.result c.loop-set.earlier c.args.count c.args.table.now.items c.loop-set.table.items c.add_pairs.new.table.items c.loop-set-test.true c.set-item.is
          c.requires.table inv.count inv.marks inv.joined c.add_pairs.ensures.value;
    }
