use Rattle.std.proofs.Common.{◌+◌, ◌*◌, ap}
use Rattle.cx_text.proofs.ListLaws.{range_appended}
use Rattle.cx_profiling.specs.Instrumented.{name_at}
use Rattle.cx_profile.proofs.outputs.with_outputs.Goals as goal

pub loop-number-preserved : goal.loop-number-preserved
loop-number-preserved c =
    range_appended (λ i. record { name = name_at c.args.names.now (2 * c.args.own + i); width = 64 }) c.args.outputs.items c.loop-number.all.items c.push.new.self.items (record { name = c.in_ok-name.name; width = 64 }) c.loop-number.number
    c.in_ok-push.ensures.items c.loop-number.invariant (ap (λ n. record { name = n; width = 64 }) c.in_ok-name.ensures.value)
