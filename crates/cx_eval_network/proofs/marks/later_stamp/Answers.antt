use Rattle.cx_eval_network.proofs.StampLemmas.{cleared_stamped, cleared_unseen, later_stamped, later_unseen}
use Rattle.std.proofs.Common.{refl}
use Rattle.cx_eval_network.proofs.marks.later_stamp.Goals as goal

pub returns-then-stamp-lt-LAST : goal.returns-then-stamp-lt-LAST
returns-then-stamp-lt-LAST c = record {
  stamped = later_stamped c.args.stamp c.args.marks.now.items c.requires.stamped;
  unseen = later_unseen c.args.stamp c.args.marks.now.items c.requires.stamped;
  count = refl;
}

pub returns-else-stamp-lt-LAST : goal.returns-else-stamp-lt-LAST
returns-else-stamp-lt-LAST c = record {
  stamped = cleared_stamped c.clear.new.marks.items c.clear.ensures.cleared;
  unseen = cleared_unseen c.clear.new.marks.items c.clear.ensures.cleared;
  count = c.clear.ensures.count;
}
