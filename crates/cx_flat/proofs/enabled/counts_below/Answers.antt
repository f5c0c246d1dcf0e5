use Rattle.std.proofs.Common.{◌≡◌, ◌∙◌, ◌+◌, suc, ap, arith}
use Rattle.cx_rules.specs.Counts.{is_one_of}
use Rattle.cx_flattening.specs.Copies.{count_if, enabled_below}
use Rattle.cx_flat.proofs.enabled.counts_below.Goals as goal
use Rattle.cx_text.proofs.ListLaws.{range_pushed}

pub loop-group-preserved : goal.loop-group-preserved
loop-group-preserved c =
    let used = c.args.groups.now in
    let one : suc c.loop-group.group ≡ c.loop-group.group + 1 = omega arith in
    record {
      all = range_pushed (enabled_below used) c.loop-group.all.items c.push.new.self.items c.loop-group.count c.loop-group.group c.in_ok-push.ensures.items c.loop-group.invariant.all c.loop-group.invariant.count;
      count = c.in_ok-count.ensures.value ∙ ap (λ b. count_if b c.loop-group.count) c.is_enabled.ensures.value
          ∙ ap (count_if (is_one_of c.loop-group.group used)) c.loop-group.invariant.count ∙ ap (enabled_below used) one;
    }
