use Rattle.std.proofs.Common.{◌≡◌, ◌+◌, ◌*◌, ap, arith}
use Rattle.cx_meaning.specs.declared.ports.PortRef.TheVariants as ports
use Rattle.cx_profile.proofs.outputs.register_ports.Goals as goal
use Rattle.cx_text.proofs.ListLaws.{range_pushed}

pub loop-number-preserved : goal.loop-number-preserved
loop-number-preserved c =
    let at : c.in_ok-register.register ≡ c.args.first + 2 * c.loop-number.number = omega arith in
    range_pushed (λ i. ports.Cell (c.args.first + 2 * i) 2) c.loop-number.ports.items c.push.new.self.items (ports.Cell c.in_ok-register.register 2) c.loop-number.number c.in_ok-push.ensures.items c.loop-number.invariant
    (ap (λ n. ports.Cell n 2) at)
