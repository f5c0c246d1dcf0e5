use Rattle.std.proofs.Common.{◌<◌, ◌≤◌, length, ◌∙◌, arith}
use Rattle.cx_vnets.proofs.CarrierLemmas.{alike_all, alike_more, widths_more}
use Rattle.cx_vnets.proofs.carriers.carry_all.Goals as goal

pub loop-net-preserved : goal.loop-net-preserved
loop-net-preserved c =
    let s = c.requires.carriers in
    let t = c.args.carriers.now in
    let inv = c.loop-net.invariant in
    let old = c.loop-net.values in
    let new = c.carry_own.new.values in
    let e = c.carry_own.ensures in
    let long = inv.long ∙ c.requires.long ∙ s.2.long in
    let within : c.loop-net.net < length old = omega (arith, c.loop-net-test.true, inv.long) in
    record {
      long = c.carry_own.auto.values ∙ inv.long;
      alike = alike_more s.0 s.1 t s.2 c.args.values.now old new long c.requires.wide c.loop-net.net within e.own e.carried inv.widths inv.alike;
      widths = widths_more s.0 s.1 t s.2 c.args.values.now old new long c.requires.wide c.loop-net.net within e.own e.carried inv.widths;
    }

pub returns-clause-alike : goal.returns-clause-alike
returns-clause-alike c =
    let s = c.requires.carriers in
    let inv = c.loop-net.invariant in
    let all : length s.0.drivers.items ≤ c.loop-net.net = omega (arith, c.requires.long, s.2.long) in
    alike_all s.0 s.1 c.args.carriers.now s.2 c.loop-net.values (λ f lt. inv.alike f (omega (arith, lt, all)))
