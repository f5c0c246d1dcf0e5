use Rattle.std.proofs.Common.{true≢false, sym, ◌∙◌}
use Rattle.cx_graphs.proofs.TallyAdditions.{add_now}
use Rattle.cx_graphs.proofs.tally.Tally.add.Goals as goal

pub returns-in_ok-push : goal.returns-in_ok-push
returns-in_ok-push c = record {
  added = add_now c.args.self.now.owners.items c.args.self.now.touched.items c.args.node c.args.more c.index-before.result.now c.join-after.result c.requires.within c.index-before.ensures c.join-after.ensures.value
      c.push.new.self.items (λ e. absurd (true≢false (sym (c.is.ensures.same.1 e) ∙ c.if-not-is.true))) c.in_ok-push.ensures.items;
}
